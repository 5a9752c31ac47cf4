use Rattle.std.proofs.Common.{◌≡◌, ◌<◌, arith, length, get_or, Some, slice_get}
use Rattle.std.proofs.lemmas.Option.{slice_get_within}
use Rattle.network.specs.declared.parts.Pair.{Pair}
use Rattle.branching.proofs.Paths.{shared_more}
use Rattle.branching.proofs.searcher.shared_count.Goals as goal

pub loop-place-preserved : goal.loop-place-preserved
loop-place-preserved c =
    let none : Pair = record { before = 0; after = 0 } in
    let here : slice_get c.args.right.now c.loop-place.place ≡ Some (get_or c.args.left.now c.loop-place.place none) = c.if-not-has_at.ensures in
    let inside : c.loop-place.place < length c.args.right.now =
    slice_get_within c.args.right.now c.loop-place.place (get_or c.args.left.now c.loop-place.place none) here in
    record {
      within = omega arith;
      same = shared_more c.args.left.now c.args.right.now c.loop-place.place none
          c.loop-place-test.true c.loop-place.invariant.same here;
    }
