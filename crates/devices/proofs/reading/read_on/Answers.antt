use Rattle.std.proofs.Common.{◌≡◌, ◌+◌, ◌≤◌, ◌++◌, ◌∙◌, ap, take, length, arith, length-take, length-append}
use Rattle.std.proofs.KnownBytes.{Consumes-trans}
use Rattle.devices.proofs.reading.read_on.Goals as goal

pub returns-in_err-extend_from_slice-clause-within : goal.returns-in_err-extend_from_slice-clause-within
returns-in_err-extend_from_slice-clause-within g c =
    let left = g.I.Input.left in
    let before = c.loop-buffer.invariant.piece in
    let piece = take c.in-Ok.n c.pull.new.buffer in
    let bound : c.in-Ok.n ≤ length c.pull.new.buffer = c.in-Ok.ensures.bound.0 in
    let all : length c.loop-buffer.text.items ≡ length c.args.text.items + length before =
    ap length c.loop-buffer.invariant.is ∙ length-append c.args.text.items before in
    record {
      front = before ++ piece;
      given = Consumes-trans (left c.args.input.now) (left c.loop-buffer.input) (left c.pull.new.self) before piece
          c.loop-buffer.invariant.given c.in-Ok.ensures.told.0;
      within = simp length-append (omega (arith, all, c.in-Ok.ensures.bound.1, bound, c.pull.auto.buffer, length-take c.min-room.result c.loop-buffer.buffer));
    }
