use Rattle.std.proofs.Common.{sym, subst}
use Rattle.lemma_record.specs.Reached.{CheckerOf, checker_of}
use Rattle.lemma_record.specs.Parts.{IsRightTextIn, PartOf}
use Rattle.lemma_record.proofs.Parted.{whole_text}
use Rattle.lemma_record.proofs.SoFar.{claimed_here}
use Rattle.lemma_record.proofs.checker.Checker.finish.Goals as goal

pub returns-in-Some-clause-whole : goal.returns-in-Some-clause-whole
returns-in-Some-clause-whole c =
    let x : CheckerOf = checker_of c.self.inside.part c.self.inside.draft c.self.inside.left.items c.self.inside.due c.self.inside.proved in
    rw (sym c.self.view_is)
    (λ all p text read. whole_text p text c.in-Some.proved (subst (λ (q : PartOf). IsRightTextIn q p text c.in-Some.proved) all
    (claimed_here p text x c.in-Some.proved c.in-Some.is read)))
