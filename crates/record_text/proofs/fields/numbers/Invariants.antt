use Rattle.std.proofs.Common.{◌≡◌, ◌++◌, ℕ, List, option_map}
use Rattle.record_text.specs.Reading.{numbers, fields_left}
use Rattle.record_text.proofs.RowReads.{left_size}
use Rattle.record_text.proofs.fields.numbers.Given as goal

abbrev pub invariant-loop-left : goal.invariant-loop-left
invariant-loop-left l = numbers (fields_left (option_map (λ rest. rest.now) l.rest)) ≡ option_map
    (λ (ns : List ℕ). l.found.items ++ ns) (numbers (fields_left (option_map (λ rest. rest.now) l.left)))

abbrev pub decreases-loop-left : goal.decreases-loop-left
decreases-loop-left l = left_size (option_map (λ rest. rest.now) l.left)
