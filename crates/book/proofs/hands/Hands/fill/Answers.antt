use Rattle.std.proofs.Common.{Some}
use Rattle.std.proofs.lemmas.List.{map-set}
use Rattle.book.specs.State.{hand_of}
use Rattle.book.proofs.hands.Hands.fill.Goals as goal

pub returns : goal.returns
returns c = rw (← c.self.view_is) (map-set hand_of c.self.inside.hands.items c.args.worker (Some c.args.held))
