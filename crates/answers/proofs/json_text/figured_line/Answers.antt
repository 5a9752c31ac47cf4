use Rattle.std.proofs.Common.{option_map}
use Rattle.answers.proofs.OutcomeLaws.{figured_no_float}
use Rattle.answers.proofs.json_text.figured_line.Goals as goal

pub line_of-requires : goal.line_of-requires
line_of-requires c =
    rw c.in_ok-value.ensures
    (figured_no_float c.args.figures.now c.args.bound c.args.makespan (option_map (λ n. n.now) c.args.starts) c.args.status.now)
