-- What a worker does at its desk, from its first node to its end.
use Rattle.std.specs.Prelude.{◌≡◌, ◌+◌, ◌≤◌, ℕ, ℤ, pos, List, [], ◌∷◌, Result, Ok, Err}
use Rattle.shared_book.specs.Locking.{Steps}
use Rattle.shared_book.specs.declared.state.WorkerState.{WorkerState}

-- any steps more, none of which is a take
abbrev pub TakesNone : Steps → Steps → Type 0
TakesNone old new = (old.others ≤ new.others) × (new ≡ record old { others = new.others })

-- at most so many steps more, none of which is a take
abbrev pub MakesAtMost : ℕ → Steps → Steps → Type 0
MakesAtMost most old new = (new.others ≤ old.others + most) × TakesNone old new

-- how often the desk's worker took a node whose report was not accepted meanwhile
abbrev pub TookInVain : {L S : Type 0} → WorkerState L S → ℕ → WorkerState L S → Type 0
TookInVain old times new = new.key.tickets + old.accepted ≡ old.key.tickets + new.accepted + times

-- Without a fault a worker ends as the book tells it that there is no node for it any more, and its report on each node
-- that it took was accepted. With a fault it ends at a node that it took, and no book told it to.
abbrev pub CountsEnd : {L S E : Type 0} → WorkerState L S → Result (Unit {0}) E → WorkerState L S → Type 0
CountsEnd old (Ok done) new = (new.key.dismissals ≡ old.key.dismissals + 1) × TookInVain old 0 new
CountsEnd old (Err fault) new = (new.key.dismissals ≡ old.key.dismissals) × TookInVain old 1 new

-- the first desk has told the shared ceiling of a makespan, or of a lesser one
abbrev pub HasTold : {L S : Type 0} → ℤ → List (WorkerState L S) → Type 0
HasTold length [] = Unit {0}
HasTold length (d ∷ ds) = (number : ℕ) → pos number ≡ length → d.seat.view.offered ≤ number
