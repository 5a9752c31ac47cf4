-- What a line does on the bench.
use Rattle.std.specs.Prelude.{ℕ, Bool, true, false, List, ◌++◌, ◌∷◌, [], Option, None, Some}
use Rattle.network.specs.declared.parts.Lag.{Lag}
use Rattle.network.specs.Problem.{Problem}
use Rattle.lemma_proof.specs.Implied.{Implies}
use Rattle.lemma_proof.specs.declared.line.Line.{Line}
use Rattle.lemma_proof.specs.Lines.{Shows, Slots}
use Rattle.lemma_proof.specs.Bench.{BenchOf, Holds}

-- the line shows no arc; or one that is implied, and nothing changes; or one that is added
abbrev pub Steps : Problem → Slots → Line → List Lag → List Lag → BenchOf → Option Bool → Type 0
Steps p lemmas line own arcs new None = (e : Lag) → ¬ Shows p lemmas (own ++ arcs) line e
Steps p lemmas line own arcs new (Some false) = (e : Lag) × Shows p lemmas (own ++ arcs) line e × Implies (own ++ arcs) e × Holds own arcs new
Steps p lemmas line own arcs new (Some true) = (e : Lag) × Shows p lemmas (own ++ arcs) line e × Holds own (arcs ++ e ∷ []) new

-- a place more, or not
abbrev pub noted : List ℕ → ℕ → Bool → List ℕ
noted places place true = places ++ place ∷ []
noted places place false = places
