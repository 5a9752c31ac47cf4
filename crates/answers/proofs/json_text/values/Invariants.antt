use Rattle.std.proofs.Common.{◌≡◌, map, take, Some}
use Rattle.serde_json.specs.View.{view}
use Rattle.answers.specs.Answers.{number_data}
use Rattle.answers.proofs.json_text.values.Given as goal

abbrev pub invariant-loop-number : goal.invariant-loop-number
invariant-loop-number l = map view l.values.items ≡ map (λ z. number_data (Some z)) (take l.number-index l.numbers)
