-- One desk more at the end of a row.
use Rattle.std.proofs.Common.{◌≡◌, ℕ, ◌+◌, List, [], ◌∷◌, ◌++◌, length, arith}
use Rattle.shared_book.specs.declared.state.WorkerState.{WorkerState}
use Rattle.shared_book.specs.Ceiling.{CeilingId}
use Rattle.shared_book.specs.Desks.{IsRowAt}

pub IsRowAt-push : {L S : Type 0} (ceiling : CeilingId) (first : ℕ) (ds : List (WorkerState L S)) (d : WorkerState L S)
    → IsRowAt ceiling first ds → d.number ≡ first + length ds → d.seat.ceiling ≡ ceiling
    → IsRowAt ceiling first (ds ++ d ∷ [])
IsRowAt-push ceiling first [] d row number seat = (omega arith, seat, tt)
IsRowAt-push ceiling first (x ∷ xs) d row number seat = (row.0, row.1, IsRowAt-push ceiling (first + 1) xs d row.2 (omega arith) seat)
