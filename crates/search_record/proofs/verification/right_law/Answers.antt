use Rattle.search_record.proofs.Truth.{right_is_true, faulty_is_wrong, one_fault}
use Rattle.search_record.proofs.verification.right_law.Goals as goal

pub returns : goal.returns
returns c = record { holds = right_is_true; wrong = faulty_is_wrong; one = one_fault }
