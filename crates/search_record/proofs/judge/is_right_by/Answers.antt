use Rattle.search_record.proofs.judge.is_right_by.Goals as goal

pub returns-in-Force : goal.returns-in-Force
returns-in-Force c = λ pairs m. rw c.in-Force.is (c.is_forced-right.ensures pairs m)
