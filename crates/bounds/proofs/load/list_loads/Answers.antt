use Rattle.std.proofs.Common.{◌∙◌, sym, ap, arith, reverse}
use Rattle.std.proofs.lemmas.List.{length-reverse, get_or-reverse}
use Rattle.bounds.specs.Loads.{keyed_load}
use Rattle.bounds.proofs.Ranked.{map_written}
use Rattle.bounds.proofs.load.list_loads.Goals as goal

pub returns : goal.returns
returns c =
    map_written 0 (record { head = 0; rank = 0; work = 0 })
    (keyed_load c.args.keys.now c.args.ranks.now c.args.tasks.now) (reverse c.args.order.now) c.loop-i.loads
    (c.loop-i.auto.loads ∙ c.requires.loads ∙ sym (length-reverse c.args.order.now))
    (λ k lt. c.loop-i.invariant k (omega (arith, length-reverse c.args.order.now))
    ∙ ap (keyed_load c.args.keys.now c.args.ranks.now c.args.tasks.now)
    (sym (get_or-reverse c.args.order.now k 0 (omega (arith, length-reverse c.args.order.now)))))
