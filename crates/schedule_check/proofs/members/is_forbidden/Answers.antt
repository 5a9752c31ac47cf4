use Rattle.std.proofs.Common.{◌≡◌, refl, ◌+◌, ◌<◌, arith, length, get_or}
use Rattle.std.specs.List.{sum_by}
use Rattle.std.proofs.lemmas.List.Sums.{sum_by_more, sum_by-take-le}
use Rattle.network.specs.Problem.{demand, capacity}
use Rattle.schedule_check.proofs.members.is_forbidden.Goals as goal

pub returns-then-total-capacity : goal.returns-then-total-capacity
returns-then-total-capacity c =
    let i = c.loop-member.member-index in
    let f = demand c.args.project.now c.args.resource in
    let lt : c.loop-member.member-index < length c.args.members.now = omega arith in
    let more = sum_by_more f c.args.members.now i 0 lt in
    let all = sum_by-take-le f c.args.members.now (i + 1) in
    let here : c.demand-total.result ≡ f (get_or c.args.members.now i 0) = c.demand-total.ensures.value in
    let there : c.capacity-capacity.result ≡ capacity c.args.project.now c.args.resource = c.capacity-capacity.ensures.value in
    let over : capacity c.args.project.now c.args.resource < sum_by f c.args.members.now =
    omega (arith, more, all, here, there, c.if-total-capacity.true, c.loop-member.invariant.so_far) in
    (λ yes. over, λ forbidden. refl)
