use Rattle.std.proofs.Common.{refl, rules, ◌<◌, arith, length, take, get_or}
use Rattle.std.specs.List.{All}
use Rattle.std.proofs.lemmas.List.{take_more, take_all}
use Rattle.std.proofs.lemmas.List.Elements.{All-push}
use Rattle.schedule_check.specs.Members.{TakesTime}
use Rattle.schedule_check.proofs.members.all_take_time.Goals as goal

pub loop-member-preserved : goal.loop-member-preserved
loop-member-preserved c =
    let i = c.loop-member.member-index in
    let lt : c.loop-member.member-index < length c.args.members.now = omega arith in
    let here : TakesTime c.args.project.now (get_or c.args.members.now c.loop-member.member-index 0) = search rules in
    rw (take_more c.args.members.now i 0 lt)
    (All-push (TakesTime c.args.project.now) (take i c.args.members.now) (get_or c.args.members.now i 0)
    c.loop-member.invariant here)

pub returns : goal.returns
returns c =
    let all : All (TakesTime c.args.project.now) c.args.members.now =
    rw (take_all c.loop-member.member-index c.args.members.now (omega arith)) at c.loop-member.invariant in
    (λ yes. all, λ _. refl)
