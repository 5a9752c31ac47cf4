use Rattle.std.proofs.Common.{◌≡◌, sym, ◌∙◌, rules}
use Rattle.std.specs.List.{count_by}
use Rattle.std.specs.Option.{is_some}
use Rattle.book.proofs.Filing.{length_in_hand}
use Rattle.book.proofs.hands.Hands.count.Goals as goal

pub returns : goal.returns
returns c =
    let counted : c.count.result ≡ count_by is_some c.self.inside.hands.items = search rules in
    rw (← c.self.view_is) (counted ∙ sym (length_in_hand c.self.inside.hands.items))
