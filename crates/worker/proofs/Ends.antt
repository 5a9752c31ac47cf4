-- One worker more that ended.
use Rattle.std.proofs.Common.{◌≡◌, List, [], ◌∷◌, ◌++◌, refl, Option, Some, None, Result}
use Rattle.std.specs.Option.{option_or}
use Rattle.std.specs.Result.{result_err}
use Rattle.worker.specs.Solving.{first_fault}
use Rattle.shared_book.specs.declared.fault.WorkFault.{WorkFault}

or_none : {A : Type 0} (o : Option A) → option_or o None ≡ o
or_none None = refl
or_none (Some x) = refl

or_or : {A : Type 0} (a b c d : Option A) → d ≡ option_or b c → option_or a d ≡ option_or (option_or a b) c
or_or None b c d is = is
or_or (Some x) b c d is = refl

pub first_fault_snoc : {D : Type 0} (es : List (D × Result (Unit {0}) WorkFault)) (e : D × Result (Unit {0}) WorkFault) →
    first_fault (es ++ e ∷ []) ≡ option_or (first_fault es) (result_err e.1)
first_fault_snoc [] e = or_none (result_err e.1)
first_fault_snoc (x ∷ xs) e = or_or (result_err x.1) (first_fault xs) (result_err e.1) (first_fault (xs ++ e ∷ [])) (first_fault_snoc xs e)
