-- The desks of one shared book, and what they count.
use Rattle.std.specs.Prelude.{◌≡◌, ◌+◌, ℕ, List, [], ◌∷◌, Result, Ok, Err}
use Rattle.shared_book.specs.Ceiling.{CeilingId}
use Rattle.shared_book.specs.declared.state.WorkerState.{WorkerState}
use Rattle.shared_book.specs.declared.state.Tally.{Tally}
use Rattle.shared_book.specs.declared.shared.Shared.{Shared}

-- the desk's seat is one of the shared ceiling of this shared book
abbrev pub SeatedAt : {L S : Type 0} → Shared L S → WorkerState L S → Type 0
SeatedAt shared desk = desk.seat.ceiling ≡ shared.best

-- the desk is that of the same worker, with a seat at this shared book
abbrev pub StaysAt : {L S : Type 0} → Shared L S → WorkerState L S → WorkerState L S → Type 0
StaysAt shared old new = SeatedAt shared new × (new.number ≡ old.number)

-- the desk is as it was, but for its key
abbrev pub SameButKey : {L S : Type 0} → WorkerState L S → WorkerState L S → Type 0
SameButKey old new = (new.number ≡ old.number) × (new.accepted ≡ old.accepted) × (new.ahead ≡ old.ahead)
    × (new.share ≡ old.share) × (new.seat ≡ old.seat)

-- the desk is as it was, but for what its seat has seen and offered
abbrev pub SameButSeat : {L S : Type 0} → WorkerState L S → WorkerState L S → Type 0
SameButSeat old new = (new.number ≡ old.number) × (new.accepted ≡ old.accepted) × (new.ahead ≡ old.ahead)
    × (new.share ≡ old.share) × (new.key ≡ old.key)

-- the desk counts a report more where it was accepted
abbrev pub CountsAccepted : {L S T E : Type 0} → WorkerState L S → Result T E → WorkerState L S → Type 0
CountsAccepted old (Ok _) new = new.accepted ≡ old.accepted + 1
CountsAccepted old (Err _) new = new.accepted ≡ old.accepted

-- the desks have seats of this ceiling, and the numbers from first on, in their order
abbrev pub IsRowAt : {L S : Type 0} → CeilingId → ℕ → List (WorkerState L S) → Type 0
IsRowAt ceiling first [] = Unit {0}
IsRowAt ceiling first (d ∷ ds) = (d.number ≡ first) × (d.seat.ceiling ≡ ceiling) × IsRowAt ceiling (first + 1) ds

-- the desks of this shared book, in their order
abbrev pub IsRow : {L S : Type 0} → Shared L S → List (WorkerState L S) → Type 0
IsRow shared desks = IsRowAt shared.best 0 desks

abbrev pub tally_of : {L S : Type 0} → WorkerState L S → Tally
tally_of d = record { accepted = d.accepted; ahead = d.ahead }
