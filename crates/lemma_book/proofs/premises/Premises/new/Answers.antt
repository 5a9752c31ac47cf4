use Rattle.lemma_book.proofs.Premised.{first_are}
use Rattle.lemma_book.proofs.premises.Premises.new.Goals as goal

pub invariant_of-result : goal.invariant_of-result
invariant_of-result c =
    first_are c.args.project.now c.in_ok-roots.roots.items c.new.result c.in_ok-roots.bench
    c.in_ok-roots.ensures.roots c.new.ensures c.in_ok-roots.ensures.light c.in_ok-roots.ensures.bench
