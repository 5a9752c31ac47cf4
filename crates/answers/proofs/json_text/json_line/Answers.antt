use Rattle.std.proofs.Common.{◌++◌, ◌∙◌, ap, option_map, codes}
use Rattle.std.proofs.lemmas.Result.{MatchResult-weaker}
use Rattle.serde_json.specs.Written.{compact_text}
use Rattle.answers.proofs.OutcomeLaws.{answer_no_float, answer_printed}
use Rattle.answers.proofs.json_text.json_line.Goals as goal

pub line_of-requires : goal.line_of-requires
line_of-requires c = rw c.in_ok-value.ensures (answer_no_float c.args.bound c.args.makespan (option_map (λ n. n.now) c.args.starts) c.args.status.now)

pub returns : goal.returns
returns c =
    let starts = option_map (λ n. n.now) c.args.starts in
    MatchResult-weaker c.line_of.result c.line_of.ensures
    (λ text said. said ∙ ap (λ v. compact_text v ++ codes "\n") c.in_ok-value.ensures
    ∙ answer_printed c.args.bound c.args.makespan starts c.args.status.now c.requires)
    (λ _ _. tt)
