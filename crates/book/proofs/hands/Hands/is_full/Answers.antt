use Rattle.std.proofs.Common.{◌≡◌, ◌<◌, Option, Some, refl, ap, ◌∙◌, length, arith, slice_get, option_map}
use Rattle.std.proofs.lemmas.Option.{slice_get-map, slice_get_read}
use Rattle.book.specs.State.{held_node, hand_of, Held}
use Rattle.book.proofs.hands.Hands.is_full.Goals as goal

pub returns-in-Some : goal.returns-in-Some
returns-in-Some c =
    let hands = c.self.inside.hands.items in
    let within : c.args.worker < length hands = omega (arith, c.len.ensures) in
    let at : slice_get hands c.args.worker ≡ Some (Some c.in-Some.field-0) =
    slice_get_read hands (length hands) c.args.worker c.index.result.now refl within c.index.ensures
    ∙ ap (λ (o : Option Held). Some o) c.in-Some.is in
    (held_node c.in-Some.field-0, rw (← c.self.view_is) (slice_get-map hand_of hands c.args.worker ∙ ap (option_map hand_of) at))
