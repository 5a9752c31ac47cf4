use Rattle.std.proofs.Common.{string_bytes}
use Rattle.sch_reader.proofs.Printed.{capacities_line}
use Rattle.sch_reader.proofs.canonical.put_capacities.Goals as goal

pub returns : goal.returns
returns c =
    capacities_line (string_bytes c.args.out.now) (string_bytes c.write.new.self) (string_bytes c.put_numbers.new.out)
    (string_bytes c.push_str.new.self) c.args.capacities.now c.in-len1-up.len_at_least c.in_ok-write.ensures.bytes
    c.in_ok-put_numbers.ensures c.in_ok-push_str.ensures.bytes
