use Rattle.std.proofs.Common.{string_bytes}
use Rattle.sch_reader.proofs.Printed.{arcs_line}
use Rattle.sch_reader.proofs.canonical.put_arcs_row.Goals as goal

pub returns : goal.returns
returns c =
    arcs_line (string_bytes c.args.out.now) (string_bytes c.write.new.self) (string_bytes c.put_ends.new.out)
    (string_bytes c.put_lags.new.out) (string_bytes c.push_str.new.self) c.args.activity c.args.lags.now
    c.in_ok-write.ensures.bytes c.in_ok-put_ends.ensures c.in_ok-put_lags.ensures c.in_ok-push_str.ensures.bytes
