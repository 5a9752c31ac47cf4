use Rattle.std.proofs.Common.{◌≡◌, Some, rules, option_map}
use Rattle.record_text.specs.Reading.{numbers, fields_left}
use Rattle.record_text.proofs.RowReads.{all_numbers, numbers_take}
use Rattle.record_text.proofs.fields.numbers.Goals as goal

pub returns-clause-small : goal.returns-clause-small
returns-clause-small c =
    let is : numbers (fields_left (option_map (λ rest. rest.now) c.args.rest)) ≡ Some c.loop-left.found.items = search rules in
    all_numbers c.loop-left.found.items (numbers_take _ c.loop-left.found.items is).1
