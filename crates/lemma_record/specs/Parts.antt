-- Logs that are checked in parts. Of a part's lemmas the lines are looked at, of other lemmas they are not.
use Rattle.std.specs.Prelude.{Bool, true, false, nat_eq, ◌≡◌, ◌≤◌, ◌+◌, ◌-◌, ◌%◌, ◌^◌, min, ℕ, List, [], ◌∷◌, ◌++◌}
use Rattle.std.specs.List.{AllByRecursion}
use Rattle.network.specs.Problem.{Problem}
use Rattle.lemma_log.specs.declared.event.Event.{Event}
use Rattle.lemma_log.specs.declared.event.Event.TheVariants as event
use Rattle.network.specs.declared.verdict.Verdict.{Verdict}
use Rattle.lemma_log.specs.Logs.{Spells}
use Rattle.lemma_book.specs.Ledger.{LedgerOf, MayKeep, first_ledger, with_lemma}
use Rattle.lemma_record.specs.Right.{IsRightText, IsStep, Takes}

-- this part of so many, the first of which is 1
pub record PartOf : Type 0 where
  pub number : ℕ
  pub count : ℕ

abbrev pub part_of : ℕ → ℕ → PartOf
part_of number count = record { number = number; count = count }

-- there is such a part
pub record IsPart (part : PartOf) : Type 0 where
  pub first : 1 ≤ part.number
  pub last : part.number ≤ part.count

-- the part that is all of a log
abbrev pub whole : PartOf
whole = part_of 1 1

-- an event is of the part whose number is one more than what its own leaves when it is divided by how many parts there are
abbrev pub has : PartOf → ℕ → Bool
has part event = nat_eq (event % part.count + 1) part.number

-- the number of the event that comes after so many
abbrev pub number_after : ℕ → ℕ
number_after count = min (count + 1) (2 ^ 64 - 1)

-- what an event makes of a ledger where the lines of a lemma are not looked at
abbrev pub Trusts : LedgerOf → Event → LedgerOf → Type 0
Trusts l (event.Lemma slot arcs lines) after = MayKeep l slot arcs × (after ≡ with_lemma l slot arcs)
Trusts l (event.Drop slot) after = Takes l (event.Drop slot) after
Trusts l (event.Schedule starts) after = Takes l (event.Schedule starts) after
Trusts l (event.Claim c) after = Takes l (event.Claim c) after

-- and where they are looked at or not
abbrev pub TakesIf : Bool → LedgerOf → Event → LedgerOf → Type 0
TakesIf true l e after = Takes l e after
TakesIf false l e after = Trusts l e after

-- events that come after so many are taken one after another, those of other parts on trust
abbrev pub TakesPart : PartOf → ℕ → LedgerOf → List Event → LedgerOf → Type 0
TakesPart part before l [] after = after ≡ l
TakesPart part before l (e ∷ events) after =
    (next : LedgerOf) × TakesIf (has part (number_after before)) l e next × TakesPart part (before + 1) next events after

-- the events of a log are right in this part: the last is this claim, no other is a claim, and they are taken
pub record IsRightIn (part : PartOf) (p : Problem) (events : List Event) (c : Verdict) : Type 0 where
  pub steps : List Event
  pub are_steps : AllByRecursion IsStep steps
  pub ends : events ≡ steps ++ event.Claim c ∷ []
  pub after : LedgerOf
  pub taken : TakesPart part 0 (first_ledger p) events after

-- the text is that of a log that is right in this part, and claims this
pub record IsRightTextIn (part : PartOf) (p : Problem) (text : List ℕ) (c : Verdict) : Type 0 where
  pub events : List Event
  pub spells : Spells text events
  pub right : IsRightIn part p events c

-- a log that is right in all parts is right
abbrev pub PartsMakeWhole : Type 0
PartsMakeWhole =
    (p : Problem) (text : List ℕ) (c : Verdict) (count : ℕ) → 1 ≤ count →
    ((number : ℕ) → IsPart (part_of number count) → IsRightTextIn (part_of number count) p text c) → IsRightText p text c
