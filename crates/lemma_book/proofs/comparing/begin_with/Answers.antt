use Rattle.std.proofs.Common.{drop, length}
use Rattle.std.proofs.lemmas.Slice.Eq.{starts_is}
use Rattle.lemma_book.proofs.Premised.{lag_decides}
use Rattle.lemma_book.proofs.comparing.begin_with.Goals as goal

pub returns : goal.returns
returns c =
    let is = starts_is lag_decides c.args.arcs.now c.args.first.now c.starts_with.result c.starts_with.ensures.value in
    ((λ yes. (drop (length c.args.first.now) c.args.arcs.now, is.0 yes)), (λ begin. is.1 begin.0 begin.1))
