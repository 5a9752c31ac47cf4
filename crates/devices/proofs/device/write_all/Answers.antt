use Rattle.std.proofs.Common.{rules}
use Rattle.devices.proofs.TextLaws.{taken_more}
use Rattle.devices.proofs.device.write_all.Goals as goal

pub loop-start-preserved : goal.loop-start-preserved
loop-start-preserved g c =
    let held = g.O.Output.held in
    let told = rw c.split_at.ensures.back at c.in_ok-start.ensures.told in
    record {
      within = search rules;
      taken = taken_more (held c.args.output.now) (held c.loop-start.output) (held c.push.new.self) c.args.bytes.now
          c.loop-start.start c.in_ok-start.field-0 c.loop-start.invariant.taken told;
      count = search rules;
    }
