use Rattle.std.proofs.Common.{◌≡◌, ◌++◌, map, take}
use Rattle.record_text.specs.declared.line.Line.TheVariants as kind
use Rattle.search_record.proofs.walk.write_forced.Given as goal

abbrev pub invariant-loop-pair : goal.invariant-loop-pair
invariant-loop-pair l = l.lines.items ≡ l.fn.lines.items ++ map kind.Force (take l.pair-index l.forced)
