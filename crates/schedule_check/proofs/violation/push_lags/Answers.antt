use Rattle.std.proofs.lemmas.List.Elements.{Contains-get_or}
use Rattle.schedule_check.proofs.violation.push_lags.Goals as goal

pub breaks-requires-clause-rule : goal.breaks-requires-clause-rule
breaks-requires-clause-rule c =
    let listed = Contains-get_or c.args.rules.now c.loop-rule.rule-index _ c.loop-rule-test.true in
    let inside = c.requires.inside _ listed in
    record { from_activity = inside.0; to_activity = inside.1; light = c.requires.light _ listed }
