use Rattle.std.proofs.Common.{rules, ◌≡◌, length}
use Rattle.std.proofs.lemmas.List.{nil_from_length}
use Rattle.network.specs.Schedule.{makespan}
use Rattle.schedule_check.proofs.claimed.check_claimed.Goals as goal

pub returns-clause-right : goal.returns-clause-right
returns-clause-right c =
    let last : makespan c.args.starts.now ≡ c.args.makespan = search rules in
    let none : length c.in_ok-found.found.items ≡ 0 = search rules in
    (c.in_ok-found.ensures.none.0 (nil_from_length c.in_ok-found.found.items none), last)
