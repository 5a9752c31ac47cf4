use Rattle.std.proofs.Common.{◌≡◌, ◌<◌, ◌∙◌, sym, ap, length, slice_get, get_or, rules}
use Rattle.std.specs.Option.{unwrap_or}
use Rattle.std.proofs.lemmas.List.{take_more_same}
use Rattle.std.proofs.lemmas.Option.{unwrap_or-slice_get}
use Rattle.network.specs.declared.parts.Pair.{Pair}
use Rattle.branching.proofs.pair_list.PairList.is_same.Goals as goal

pub loop-place-preserved : goal.loop-place-preserved
loop-place-preserved c =
    let xs = c.args.self.now in
    let ys = c.args.other.now in
    let i = c.loop-place.place in
    let none : Pair = record { before = 0; after = 0 } in
    let equal : slice_get xs i ≡ slice_get ys i = search rules in
    let same : get_or xs i none ≡ get_or ys i none = sym (unwrap_or-slice_get xs i none) ∙ (ap (λ o. unwrap_or o none) equal ∙ unwrap_or-slice_get ys i none) in
    let within : i < length xs = search rules in
    let other : i < length ys = search rules in
    take_more_same xs ys i none within other c.loop-place.invariant same
