use Rattle.std.proofs.Common.{string_bytes, to_z-of_z, rules, SFits, w64}
use Rattle.sch_reader.proofs.Printed.{amounts_line}
use Rattle.sch_reader.proofs.canonical.put_amounts_row.Goals as goal

pub returns : goal.returns
returns c =
    let fits : SFits w64 c.args.duration = search rules in
    let printed = simp to_z-of_z at c.in_ok-write.ensures.bytes in
    amounts_line (string_bytes c.args.out.now) (string_bytes c.write.new.self) (string_bytes c.put_numbers.new.out)
    (string_bytes c.push_str.new.self) c.args.activity c.args.duration c.args.demands.now printed
    c.in_ok-put_numbers.ensures
    c.in_ok-push_str.ensures.bytes
