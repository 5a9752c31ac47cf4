use Rattle.std.proofs.Common.{string_bytes}
use Rattle.sch_reader.proofs.CanonicalText.{canonical_written}
use Rattle.sch_reader.proofs.canonical.canonical_string.Goals as goal

pub returns-clause-text : goal.returns-clause-text
returns-clause-text c =
    let last = rw c.capacities.ensures.value at c.in_ok-put_capacities.ensures in
    canonical_written c.args.project.now (string_bytes c.new-out.result) (string_bytes c.put_header.new.out)
    (string_bytes c.put_network_rows.new.out) (string_bytes c.put_request_rows.new.out)
    (string_bytes c.put_capacities.new.out) c.new-out.ensures.bytes
    c.in_ok-put_header.ensures c.in_ok-put_network_rows.ensures c.in_ok-put_request_rows.ensures last
