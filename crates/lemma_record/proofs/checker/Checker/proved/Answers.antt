use Rattle.std.proofs.Common.{sym}
use Rattle.lemma_record.specs.Reached.{CheckerOf, checker_of}
use Rattle.lemma_record.proofs.SoFar.{so_far_claimed}
use Rattle.lemma_record.proofs.checker.Checker.proved.Goals as goal

pub returns-in-Some : goal.returns-in-Some
returns-in-Some c =
    let x : CheckerOf = checker_of c.self.inside.part c.self.inside.draft c.self.inside.left.items c.self.inside.due c.self.inside.proved in
    rw (sym c.self.view_is) (λ all p text read. so_far_claimed p text x c.in-Some.proved all c.in-Some.is read)
