use Rattle.std.proofs.Common.{◌≡◌, map}
use Rattle.std.proofs.Math.ListN.{replicate}
use Rattle.search_log.specs.SearchLog.{no_entry, trail_entry}
use Rattle.search_log.proofs.log.SearchLog.new.Given as goal

abbrev pub invariant-loop : goal.invariant-loop
invariant-loop l = map trail_entry l.entries.items ≡ replicate l.counter no_entry
