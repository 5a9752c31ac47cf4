-- What the lines of a lemma are checked against.
use Rattle.std.specs.Prelude.{Bool, true, false, ◌≡◌, ◌++◌, ℕ, ℤ, List, [], Option, None, slice_set, drop, length}
use Rattle.std.specs.List.{All}
use Rattle.network.specs.declared.parts.Lag.{Lag}
use Rattle.network.specs.Problem.{Problem, activity_count, rules}
use Rattle.lemma_proof.specs.Heads.{IsLight}
use Rattle.lemma_proof.specs.declared.line.Line.{Line}
use Rattle.lemma_proof.specs.Bench.{BenchOf}
use Rattle.lemma_proof.specs.Lines.{AreLemmas, HaveUsed, Slots}
use Rattle.lemma_book.specs.Ledger.{IsFilled, IsRootMatrixOf, LedgerOf, first_roots}

pub record PremisesOf : Type 0 where
  pub project : Problem
  -- the root's arcs beside the project's rules, in the order in which they came
  pub roots : List Lag
  pub lemmas : Slots

-- the root's arcs: the project's rules, and those beside them
abbrev pub root_arcs : PremisesOf → List Lag
root_arcs x = rules x.project ++ x.roots

-- those of a ledger of which nothing is proved
abbrev pub first_premises : Problem → PremisesOf
first_premises p = record { project = p; roots = first_roots p; lemmas = [] }

-- the arcs are such, and the matrix is that of the root
pub record ArePremises (x : PremisesOf) (bench : Option BenchOf) : Type 0 where
  pub lemmas : AreLemmas x.project x.lemmas
  pub light : All (IsLight (activity_count x.project)) x.roots
  pub root : IsRootMatrixOf x.project (root_arcs x) bench

abbrev pub premises_of : Problem → List Lag → Slots → PremisesOf
premises_of p roots lemmas = record { project = p; roots = roots; lemmas = lemmas }

-- a ledger of these premises and this best schedule
abbrev pub ledger_of : PremisesOf → Option (List ℤ) → LedgerOf
ledger_of x best = record { project = x.project; best = best; roots = x.roots; lemmas = x.lemmas }

abbrev pub premises_in : LedgerOf → PremisesOf
premises_in l = premises_of l.project l.roots l.lemmas

-- the lemma of a slot goes if there is one
abbrev pub Empties : PremisesOf → ℕ → Bool → PremisesOf → Type 0
Empties old slot true new = IsFilled old.lemmas slot × (new ≡ record old { lemmas = slice_set old.lemmas slot None })
Empties old slot false new = (¬ IsFilled old.lemmas slot) × (new ≡ old)

-- arcs come after those of the root
abbrev pub with_roots : PremisesOf → List Lag → PremisesOf
with_roots x arcs = record x { roots = x.roots ++ arcs }

-- the root gets the arcs of another one that are beyond its count, if both are of one project
abbrev pub Follows : PremisesOf → PremisesOf → Bool → PremisesOf → Type 0
Follows old other true new = (old.project ≡ other.project) × (new ≡ with_roots old (drop (length old.roots) other.roots))
Follows old other false new = (¬ (old.project ≡ other.project)) × (new ≡ old)

-- they are of the project of others, whose root is at the beginning of theirs
pub record AreAhead (x other : PremisesOf) : Type 0 where
  pub project : x.project ≡ other.project
  pub roots : (rest : List Lag) × (x.roots ≡ other.roots ++ rest)

-- the premises have what lines rest on beside others: they are ahead of them, and have each lemma that the lines use
pub record Covers (x other : PremisesOf) (lines : List Line) : Type 0 where
  pub ahead : AreAhead x other
  pub lemmas : HaveUsed x.lemmas other.lemmas lines
