use Rattle.std.proofs.Common.{rules, pos, get_or, w64, SFits}
use Rattle.std.proofs.lemmas.Int.{to_z-of_z}
use Rattle.std.proofs.lemmas.List.Elements.{All-more}
use Rattle.network.specs.Problem.{IsTime}
use Rattle.lemma_proof.proofs.Loops.{none_fails, tells_both}
use Rattle.lemma_book.proofs.leading.are_times.Goals as goal

pub loop-start-preserved : goal.loop-start-preserved
loop-start-preserved c =
    let fits : SFits w64 (get_or c.args.starts.now c.loop-start.start-index (pos 0)) = search rules in
    let time : IsTime (get_or c.args.starts.now c.loop-start.start-index (pos 0)) = simp to_z-of_z at (c.is_time.ensures.0 c.if-not-is_time.false) in
    All-more IsTime c.args.starts.now c.loop-start.start-index (pos 0) c.loop-start-test.true c.loop-start.invariant time

pub returns : goal.returns
returns c = tells_both (none_fails IsTime c.args.starts.now c.loop-start.start-index c.loop-start-test.false c.loop-start.invariant)
