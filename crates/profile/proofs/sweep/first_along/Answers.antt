use Rattle.std.proofs.Common.{◌∙◌, sym, rules, w64}
use Rattle.std.proofs.lemmas.Int.{to_z-of_z}
use Rattle.profile.proofs.Counted.{have_times, ended_less, counted_is}
use Rattle.profile.proofs.Swept.{goes_on, swept_further, swept_none, swept_first}
use Rattle.profile.proofs.sweep.first_along.Goals as goal

pub next_time-requires : goal.next_time-requires
next_time-requires c = have_times c.args.project.now c.loop-time.started c.loop-time.invariant.swept.starts.sized

pub overloaded-requires-clause-less : goal.overloaded-requires-clause-less
overloaded-requires-clause-less c =
    let at = to_z-of_z w64 c.in-Some.time (search rules) in
    let on = goes_on c.args.project.now c.in-Some.time _ c.loop-time.started c.loop-time.ended c.pass.new.self
    c.pass-in-Some.new.self c.loop-time.invariant.swept c.in-Some.ensures at c.pass.ensures.same
    c.pass-in-Some.ensures.same c.pass.ensures.count c.pass.ensures.come c.pass-in-Some.ensures.count
    c.pass-in-Some.ensures.come in
    rw (c.as_slice-taken.ensures.value, c.as_slice-returned.ensures.value) (ended_less c.args.project.now _ c.pass.new.self c.pass-in-Some.new.self on.are)

pub returns-in-Some-overloaded-clause-first : goal.returns-in-Some-overloaded-clause-first
returns-in-Some-overloaded-clause-first c =
    let at = to_z-of_z w64 c.in-Some.time (search rules) in
    let on = goes_on c.args.project.now c.in-Some.time _ c.loop-time.started c.loop-time.ended c.pass.new.self
    c.pass-in-Some.new.self c.loop-time.invariant.swept c.in-Some.ensures at c.pass.ensures.same
    c.pass-in-Some.ensures.same c.pass.ensures.count c.pass.ensures.come c.pass-in-Some.ensures.count
    c.pass-in-Some.ensures.come in
    rw (sym (c.pass.ensures.same.times ∙ c.loop-time.invariant.starts))
    (swept_first c.args.project.now _ c.loop-time.started c.loop-time.ended c.pass.new.self c.pass-in-Some.new.self c.in-Some-overloaded.resource on
    (rw (c.as_slice-taken.ensures.value, c.as_slice-returned.ensures.value) at c.in-Some-overloaded.ensures))

pub returns-in-Some-overloaded-clause-used : goal.returns-in-Some-overloaded-clause-used
returns-in-Some-overloaded-clause-used c =
    let at = to_z-of_z w64 c.in-Some.time (search rules) in
    let on = goes_on c.args.project.now c.in-Some.time _ c.loop-time.started c.loop-time.ended c.pass.new.self
    c.pass-in-Some.new.self c.loop-time.invariant.swept c.in-Some.ensures at c.pass.ensures.same
    c.pass-in-Some.ensures.same c.pass.ensures.count c.pass.ensures.come c.pass-in-Some.ensures.count
    c.pass-in-Some.ensures.come in
    rw (c.as_slice-taken.ensures.value, c.as_slice-returned.ensures.value, sym (c.pass.ensures.same.times ∙ c.loop-time.invariant.starts))
    (counted_is c.args.project.now _ c.pass.new.self c.pass-in-Some.new.self on.are c.in-Some-overloaded.resource c.in-Some-overloaded.ensures.in_range)

pub loop-time-preserved : goal.loop-time-preserved
loop-time-preserved c =
    let at = to_z-of_z w64 c.in-Some.time (search rules) in
    let on = goes_on c.args.project.now c.in-Some.time _ c.loop-time.started c.loop-time.ended c.pass.new.self
    c.pass-in-Some.new.self c.loop-time.invariant.swept c.in-Some.ensures at c.pass.ensures.same
    c.pass-in-Some.ensures.same c.pass.ensures.count c.pass.ensures.come c.pass-in-Some.ensures.count
    c.pass-in-Some.ensures.come in
    record {
      swept = swept_further c.args.project.now _ c.loop-time.started c.loop-time.ended c.pass.new.self c.pass-in-Some.new.self on
          (rw (c.as_slice-taken.ensures.value, c.as_slice-returned.ensures.value) at c.in_default-overloaded.ensures);
      starts = c.pass.ensures.same.times ∙ c.loop-time.invariant.starts;
    }

pub returns-clause-none : goal.returns-clause-none
returns-clause-none c =
    rw (sym c.loop-time.invariant.starts) (swept_none c.args.project.now c.loop-time.started c.loop-time.ended c.loop-time.invariant.swept c.in_default.ensures)
