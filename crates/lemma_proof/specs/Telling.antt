-- What a found arc tells, by what is known of the walks over the arcs of a block.
use Rattle.std.specs.Prelude.{◌≡◌, ℕ, Bool, true, List, Option, MatchOption}
use Rattle.network.specs.declared.parts.Lag.{Lag}
use Rattle.lemma_proof.specs.Reasons.{Entries, IsKnown}

-- the arc has the property with the arcs; where there is none and what is known is exact, no arc has it
abbrev pub TellsArc : ℕ → Entries → Option Lag → (List Lag → Lag → Type 0) → Type 0
TellsArc n x found P =
    (exact : Bool) (arcs : List Lag) → IsKnown exact n arcs x →
    MatchOption found (exact ≡ true → (e : Lag) → ¬ P arcs e) (P arcs)
