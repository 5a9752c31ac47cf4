-- When a log of lemmas is right for a project, and what it proves.
use Rattle.std.specs.Prelude.{◌≡◌, ℕ, List, [], ◌∷◌, ◌++◌}
use Rattle.std.specs.List.{AllByRecursion}
use Rattle.network.specs.Schedule.{IsTrueVerdict}
use Rattle.network.specs.Problem.{IsProject, Problem}
use Rattle.network.specs.declared.verdict.Verdict.{Verdict}
use Rattle.lemma_log.specs.declared.event.Event.{Event}
use Rattle.lemma_log.specs.declared.event.Event.TheVariants as event
use Rattle.lemma_log.specs.Logs.{Spells}
use Rattle.lemma_book.specs.Ledger.{Claims, IsFilled, LedgerOf, MayLead, MayTake, first_ledger, with_lemma, with_schedule, without_lemma}

-- What an event makes of a ledger. A lemma is taken if it may be, a drop if the slot is filled, and a schedule if it may
-- lead. A claim is taken if the ledger claims it, and nothing changes.
abbrev pub Takes : LedgerOf → Event → LedgerOf → Type 0
Takes l (event.Lemma slot arcs lines) after = MayTake l slot arcs lines × (after ≡ with_lemma l slot arcs)
Takes l (event.Drop slot) after = IsFilled l.lemmas slot × (after ≡ without_lemma l slot)
Takes l (event.Schedule starts) after = MayLead l starts × (after ≡ with_schedule l starts)
Takes l (event.Claim c) after = Claims l c × (after ≡ l)

-- events are taken one after another
abbrev pub TakesAll : LedgerOf → List Event → LedgerOf → Type 0
TakesAll l [] after = after ≡ l
TakesAll l (e ∷ events) after = (next : LedgerOf) × Takes l e next × TakesAll next events after

-- an event that is no claim
abbrev pub IsStep : Event → Type 0
IsStep (event.Lemma slot arcs lines) = Unit {0}
IsStep (event.Drop slot) = Unit {0}
IsStep (event.Schedule starts) = Unit {0}
IsStep (event.Claim c) = ⊥

-- The events of a log are right for a project: the last is this claim, no other is a claim, and they are taken one after
-- another from the first ledger.
pub record IsRight (p : Problem) (events : List Event) (c : Verdict) : Type 0 where
  pub steps : List Event
  pub are_steps : AllByRecursion IsStep steps
  pub ends : events ≡ steps ++ event.Claim c ∷ []
  pub after : LedgerOf
  pub taken : TakesAll (first_ledger p) events after

-- the text is that of a right log, which claims this
pub record IsRightText (p : Problem) (text : List ℕ) (c : Verdict) : Type 0 where
  pub events : List Event
  pub spells : Spells text events
  pub right : IsRight p events c

-- what a right log claims is true of its project
abbrev pub ClaimIsTrue : Type 0
ClaimIsTrue = (p : Problem) (events : List Event) (c : Verdict) → IsProject p → IsRight p events c → IsTrueVerdict p c
