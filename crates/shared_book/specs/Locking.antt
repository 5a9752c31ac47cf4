-- What is done under the lock, and how the holder of a key counts it.
use Rattle.std.specs.Prelude.{◌≡◌, ◌≢◌, ◌+◌, ◌⊎◌, ℕ, true, Option, Some, None, Result}
use Rattle.book.specs.State.{BookState}
use Rattle.book.specs.Steps.{GivesBack}
use Rattle.book.specs.declared.answers.CheckFault.{CheckFault}
use Rattle.book.specs.declared.answers.CheckFault.TheVariants as fault
use Rattle.book.specs.declared.answers.Take.{Take}
use Rattle.book.specs.declared.answers.Take.TheVariants as answer
use Rattle.shared_book.specs.declared.fault.WorkFault.{WorkFault}
use Rattle.shared_book.specs.declared.fault.WorkFault.TheVariants as work_fault

-- ---- What was done with one key.

pub record Steps : Type 0 where
  -- nodes taken
  pub tickets : ℕ
  -- how often a worker was told that there is no node for it any more
  pub dismissals : ℕ
  -- all else: reports that were judged, nodes given back, schedules offered, and ends of the search
  pub others : ℕ

abbrev pub steps_of_none : Steps
steps_of_none = record { tickets = 0; dismissals = 0; others = 0 }

abbrev pub IsTicketMore : Steps → Steps → Type 0
IsTicketMore old new = new ≡ record old { tickets = old.tickets + 1 }

abbrev pub IsDismissalMore : Steps → Steps → Type 0
IsDismissalMore old new = new ≡ record old { dismissals = old.dismissals + 1 }

-- one step more, which is no take
abbrev pub IsOneMore : Steps → Steps → Type 0
IsOneMore old new = new ≡ record old { others = old.others + 1 }

-- two steps more, which are no takes
abbrev pub IsTwoMore : Steps → Steps → Type 0
IsTwoMore old new = new ≡ record old { others = old.others + 2 }

-- a take counts as what it was answered with; a worker that has to wait has not been answered
abbrev pub CountsTake : Steps → Take → Steps → Type 0
CountsTake old (answer.Ticket ticket) new = IsTicketMore old new
CountsTake old answer.Idle new = new ≡ old
CountsTake old other new = IsDismissalMore old new

-- a node was taken, or there is none any more
abbrev pub CountsAnswer : {A : Type 0} → Steps → Option A → Steps → Type 0
CountsAnswer old (Some ticket) new = IsTicketMore old new
CountsAnswer old None new = IsDismissalMore old new

-- ---- What a locked section does to the book when a worker ends before the search is over.

-- the search is ended
abbrev pub Halts : BookState → BookState → Type 0
Halts old new = new ≡ record old { halted = true }

-- the node is given back, where the book has memory for it, and then the search is ended
pub record GivesBackAndHalts (old : BookState) (name : ℕ) (new : BookState) : Type 0 where
  pub answer : Result (Unit {0}) CheckFault
  pub between : BookState
  pub given : GivesBack old name answer between
  pub halted : Halts between new

-- how a worker ends whose report has this fault
pub record IsEndFor (why : CheckFault) (ended : WorkFault) : Type 0 where
  pub memory : why ≡ fault.Memory → ended ≡ work_fault.Memory
  pub refused : why ≢ fault.Memory → ended ≡ work_fault.Refused why

-- a worker without memory gives its node back and ends the search; one whose report was refused ends the search
pub record Stops (old : BookState) (name : ℕ) (why : CheckFault) (ended : WorkFault) (new : BookState) : Type 0 where
  pub memory : why ≡ fault.Memory → GivesBackAndHalts old name new
  pub refused : why ≢ fault.Memory → Halts old new
  pub end : IsEndFor why ended

-- the two steps of a worker without memory, or the one of a worker whose report was refused
pub record CountsStop (old : Steps) (why : CheckFault) (new : Steps) : Type 0 where
  pub memory : why ≡ fault.Memory → IsTwoMore old new
  pub refused : why ≢ fault.Memory → IsOneMore old new

-- why a node can't be given back
abbrev pub IsOfGivingBack : CheckFault → Type 0
IsOfGivingBack found = (found ≡ fault.Unknown) ⊎ ((found ≡ fault.NotInHand) ⊎ (found ≡ fault.Memory))
