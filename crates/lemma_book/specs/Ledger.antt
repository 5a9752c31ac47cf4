-- What is proved of a project: the best schedule, arcs of the root, and lemmas.
use Rattle.std.specs.Prelude.{Bool, true, false, Vec, ◌&&◌, if◌then◌else◌, int_lt, nat_lt, ◌≡◌, ◌≢◌, ◌+◌, ◌<◌, ◌-◌}
use Rattle.std.specs.Prelude.{◌<ℤ◌, ◌-ℤ◌, ◌++◌, ◌∷◌, [], ℕ, ℤ, pos, List, length, replicate, slice_set, Option, None}
use Rattle.std.specs.Prelude.{Some, IfSome}
use Rattle.std.specs.Int.{int_min}
use Rattle.std.specs.List.{All, list_any, range_with_len}
use Rattle.network.specs.declared.parts.Lag.{Lag}
use Rattle.network.specs.Problem.{AreStarts, IsBetween, IsWithin, Problem, activities, activity_count, capacity, demand}
use Rattle.network.specs.Problem.{duration, end_of, resource_count, rules}
use Rattle.network.specs.declared.limits.TheConstants.{MAX_WALK_WEIGHT}
use Rattle.network.specs.Walk.{HasNoPositiveCycle, HasPositiveCycle, IsGreatestWeight, IsMatrixOf}
use Rattle.network.specs.Schedule.{IsFeasible, Meets, makespan}
use Rattle.network.specs.declared.verdict.Verdict.{Verdict}
use Rattle.network.specs.declared.verdict.Verdict.TheVariants as verdict
use Rattle.network.specs.Horizon.{horizon}
use Rattle.longest_path.specs.Insert.{arc_of}
use Rattle.lemma_proof.specs.Reasons.{reverse_of}
use Rattle.lemma_proof.specs.declared.line.Line.{Line}
use Rattle.lemma_proof.specs.Bench.{BenchOf}
pub use Rattle.lemma_proof.specs.Slots.{IsFilled, with_slot}
use Rattle.lemma_proof.specs.Lines.{IsArc, IsIn, IsRefuted, MeetsNone, Slots, impossible, picked}
use Rattle.std.specs.declared.alloc.Global.{Global}
use Rattle.lemma_book.specs.declared.deadline.TheConstants.{MAX_CEILING}
use Rattle.lemma_book.specs.declared.ledger.TheConstants.{MAX_SLOTS}

pub record LedgerOf : Type 0 where
  pub project : Problem
  -- the starts of the best schedule
  pub best : Option (List ℤ)
  -- the root's arcs beside the project's rules, in the order in which they came
  pub roots : List Lag
  -- the lemmas of two arcs and more
  pub lemmas : Slots

-- the makespan is less than this
abbrev pub deadline : Problem → ℤ → Lag
deadline p bound = arc_of (end_of p) 0 (pos 1 -ℤ bound)

-- which schedules are in question: those that are shorter than the best; where there is none, those that end by the
-- horizon
abbrev pub ceiling : Problem → Option (List ℤ) → ℤ
ceiling p None = pos (horizon p + 1)
ceiling p (Some starts) = makespan starts

abbrev pub ceiling_of : LedgerOf → ℤ
ceiling_of l = ceiling l.project l.best

-- the root's arcs: the project's rules, and those that were proved
abbrev pub own_of : LedgerOf → List Lag
own_of l = rules l.project ++ l.roots

-- The best schedule, if there is one, is feasible. Every feasible schedule in question meets all arcs of the root, and
-- of each lemma not all arcs.
pub record IsSound (l : LedgerOf) : Type 0 where
  pub best : IfSome l.best (IsFeasible l.project)
  pub roots : (s : List ℤ) → IsFeasible l.project s → makespan s <ℤ ceiling_of l → All (Meets s) (own_of l)
  pub lemmas : (s : List ℤ) → IsFeasible l.project s → makespan s <ℤ ceiling_of l → MeetsNone s l.lemmas

-- ---- What changes a ledger.

-- the activity takes time, and asks alone for more of the resource than there is
abbrev pub exceeds : Problem → ℕ → ℕ → Bool
exceeds p i k = int_lt (pos 0) (duration p i) && nat_lt (capacity p k) (demand p k i)

abbrev pub exceeds_some : Problem → ℕ → Bool
exceeds_some p i = list_any (exceeds p i) (range_with_len 0 (resource_count p))

-- some activity does: there is no schedule
abbrev pub asks_too_much : Problem → Bool
asks_too_much p = list_any (exceeds_some p) (activities p)

abbrev pub first_roots : Problem → List Lag
first_roots p = deadline p (pos (horizon p + 1)) ∷ (if asks_too_much p then impossible ∷ [] else [])

-- nothing is proved but that a schedule in question meets the rules and the deadline, or that there is none where an
-- activity asks for too much
abbrev pub first_ledger : Problem → LedgerOf
first_ledger p = record { project = p; best = None; roots = first_roots p; lemmas = [] }

-- a lemma is kept: one of no arc ends the search, one of one arc makes its reverse an arc of the root, and one of more
-- fills a slot
abbrev pub with_lemma : LedgerOf → ℕ → List Lag → LedgerOf
with_lemma l slot [] = record l { roots = l.roots ++ impossible ∷ [] }
with_lemma l slot (e ∷ []) = record l { roots = l.roots ++ reverse_of e ∷ [] }
with_lemma l slot (e ∷ f ∷ arcs) = record l { lemmas = slice_set (with_slot l.lemmas slot) slot (Some (e ∷ f ∷ arcs)) }

-- a shorter schedule is the best, and a schedule in question is shorter
abbrev pub with_schedule : LedgerOf → List ℤ → LedgerOf
with_schedule l starts = record l { best = Some starts; roots = l.roots ++ deadline l.project (makespan starts) ∷ [] }

-- the lemma of a slot goes
abbrev pub without_lemma : LedgerOf → ℕ → LedgerOf
without_lemma l slot = record l { lemmas = slice_set l.lemmas slot None }

-- ---- What is kept.

-- the matrix of the root's arcs; none where they close a walk of positive weight
abbrev pub IsRootMatrixOf : Problem → List Lag → Option BenchOf → Type 0
IsRootMatrixOf p own None = HasPositiveCycle own
IsRootMatrixOf p own (Some bench) = IsMatrixOf (activity_count p) own bench.rows

abbrev pub IsDraft : LedgerOf → Type 0
IsDraft l = IsBetween (pos 0) MAX_CEILING (ceiling_of l)

-- ---- Who may change a ledger.

-- the slot is one of the limit, and empty
pub record IsFree (lemmas : Slots) (slot : ℕ) : Type 0 where
  pub within : slot < MAX_SLOTS
  pub empty : ¬ IsFilled lemmas slot

-- a lemma of two arcs and more has an empty slot
abbrev pub HasRoom : Slots → ℕ → List Lag → Type 0
HasRoom lemmas slot [] = Unit {0}
HasRoom lemmas slot (e ∷ []) = Unit {0}
HasRoom lemmas slot (e ∷ f ∷ arcs) = IsFree lemmas slot

-- its arcs are within the limits
pub record MayKeep (l : LedgerOf) (slot : ℕ) (arcs : List Lag) : Type 0 where
  pub room : HasRoom l.lemmas slot arcs
  pub are_arcs : All (IsArc l.project) arcs

-- the lines refute the lemma's arcs beside what the ledger has
pub record MayTake (l : LedgerOf) (slot : ℕ) (arcs : List Lag) (lines : List Line) : Type 0 where
  pub room : HasRoom l.lemmas slot arcs
  pub refuted : IsRefuted l.project l.lemmas (own_of l) arcs lines

-- the starts are a feasible schedule that is in question
pub record MayLead (l : LedgerOf) (starts : List ℤ) : Type 0 where
  pub are_starts : AreStarts l.project starts
  pub feasible : IsFeasible l.project starts
  pub shorter : makespan starts <ℤ ceiling_of l

-- the arc that a lemma of fewer than two arcs makes one of the root's
abbrev pub root_of : List Lag → Option Lag
root_of [] = Some impossible
root_of (e ∷ []) = Some (reverse_of e)
root_of (e ∷ f ∷ arcs) = None

-- a lemma is taken if it may be, by the lines that show something new; or nothing changes
abbrev pub Takes : LedgerOf → ℕ → List Lag → List Line → Option (Vec ℕ Global) → LedgerOf → Type 0
Takes old slot arcs lines None new = (¬ MayTake old slot arcs lines) × (new ≡ old)
Takes old slot arcs lines (Some used) new =
    MayTake old slot arcs lines × MayTake old slot arcs (picked lines used.items) × (new ≡ with_lemma old slot arcs)

-- a schedule is taken if it may lead; or nothing changes
abbrev pub Leads : LedgerOf → List ℤ → Bool → LedgerOf → Type 0
Leads old starts true new = MayLead old starts × (new ≡ with_schedule old starts)
Leads old starts false new = (¬ MayLead old starts) × (new ≡ old)

-- a lemma goes if there is one in the slot
abbrev pub LetsGo : LedgerOf → ℕ → Bool → LedgerOf → Type 0
LetsGo old slot true new = IsFilled old.lemmas slot × (new ≡ without_lemma old slot)
LetsGo old slot false new = (¬ IsFilled old.lemmas slot) × (new ≡ old)

-- ---- What can be read off a ledger.

-- once the root's arcs close a walk of positive weight, the ceiling; before that the least end by these arcs, or the
-- ceiling where that is less
pub record IsBoundOf (l : LedgerOf) (bound : ℤ) : Type 0 where
  pub ended : HasPositiveCycle (own_of l) → bound ≡ ceiling_of l
  pub going :
      HasNoPositiveCycle (own_of l) →
      (least : ℤ) × IsGreatestWeight (own_of l) 0 (end_of l.project) (Some least) × (bound ≡ int_min least (ceiling_of l))

-- the best schedule is optimal, or there is none, once the root's arcs close a walk of positive weight
abbrev pub Claims : LedgerOf → Verdict → Type 0
Claims l (verdict.Optimal makespan) = HasPositiveCycle (own_of l) × (l.best ≢ None) × (makespan ≡ ceiling_of l)
Claims l (verdict.Bound bound) = HasNoPositiveCycle (own_of l) × IsBoundOf l bound
Claims l verdict.NoSchedule = HasPositiveCycle (own_of l) × (l.best ≡ None)

-- no number of a claim is greater
abbrev pub IsSmall : Verdict → Type 0
IsSmall (verdict.Optimal makespan) = IsWithin MAX_WALK_WEIGHT makespan
IsSmall (verdict.Bound bound) = IsWithin MAX_WALK_WEIGHT bound
IsSmall verdict.NoSchedule = Unit {0}
