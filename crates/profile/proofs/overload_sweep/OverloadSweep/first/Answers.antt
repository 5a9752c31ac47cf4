use Rattle.std.proofs.Common.{sym, subst, rules, w64}
use Rattle.std.proofs.lemmas.Int.{to_z-of_z}
use Rattle.network.specs.Problem.{IsTime}
use Rattle.profile.proofs.Swept.{first_is_time}
use Rattle.profile.proofs.overload_sweep.OverloadSweep.first.Goals as goal

pub list_running-requires-clause-time : goal.list_running-requires-clause-time
list_running-requires-clause-time c =
    subst IsTime (sym (to_z-of_z w64 c.in-Some.overload.time (search rules)))
    (first_is_time c.args.project.now c.args.starts.now c.in-Some.overload.time c.in-Some.overload.resource
    c.requires.starts (rw c.prepare.ensures.starts at c.in-Some.ensures.first))
