use Rattle.std.proofs.Common.{rules, ◌<◌, ◌∙◌, ◌++◌, ap, subst, length, get_or, List, refl, arith, w64, to_z, of_z, pos, ℤ}
use Rattle.profile.specs.Overloads.{start_times, Overload}
use Rattle.std.specs.Global.{Vec}
use Rattle.profile.specs.Counts.{counted_use}
use Rattle.profile.proofs.Swept.{overloads_same, item_is, still_past, time_moves, overloads_more}
use Rattle.profile.proofs.Counted.{AreCounts, counts_none, counts_further, ended_less, counted_is}
use Rattle.profile.proofs.sweep.all_along.Goals as goal

pub loop-time-init : goal.loop-time-init
loop-time-init c = record {
  counts = counts_none c.args.project.now c.args.started.now c.args.ended.now c.requires.ready;
  starts = refl;
  listed = c.new-overloads.ensures.items;
}

pub pass-requires-clause-past : goal.pass-requires-clause-past
pass-requires-clause-past c i lt = still_past c.args.project.now c.args.started.now.times.items c.args.times.now
    c.loop-time.time-index _ c.requires.ready.within c.requires.times c.loop-time-test.true (search rules)
    (c.loop-time.invariant.counts.starts_come.past i lt)

pub pass-requires-in-loop-time-clause-past : goal.pass-requires-in-loop-time-clause-past
pass-requires-in-loop-time-clause-past c i lt =
    still_past c.args.project.now c.args.started.now.times.items c.args.times.now c.loop-time.time-index _
    c.requires.ready.within c.requires.times c.loop-time-test.true (search rules)
    (c.loop-time.invariant.counts.ends_come.past i lt)

pub push_overloaded-requires-clause-less : goal.push_overloaded-requires-clause-less
push_overloaded-requires-clause-less c =
    let are = counts_further c.args.project.now
    (to_z w64 (of_z w64 (get_or c.args.times.now c.loop-time.time-index (pos 0)))) c.loop-time.started
    c.loop-time.ended c.pass.new.self c.pass-in-loop-time.new.self c.loop-time.invariant.counts.are_ends
    c.pass.ensures.same c.pass-in-loop-time.ensures.same c.pass.ensures.count c.pass.ensures.come
    c.pass-in-loop-time.ensures.count c.pass-in-loop-time.ensures.come in
    rw (c.as_slice-taken.ensures.value, c.as_slice-returned.ensures.value) (ended_less c.args.project.now _ c.pass.new.self c.pass-in-loop-time.new.self are)

pub loop-time-preserved : goal.loop-time-preserved
loop-time-preserved c =
    let p = c.args.project.now in
    let s = c.args.started.now.times.items in
    let n = c.loop-time.time-index in
    let t = to_z w64 (of_z w64 (get_or c.args.times.now n (pos 0))) in
    let inside : n < length (start_times s) = omega (arith, ap length c.requires.times) in
    let item = item_is c.args.times.now (start_times s) n (search rules) c.requires.times in
    let are = counts_further p t c.loop-time.started c.loop-time.ended c.pass.new.self c.pass-in-loop-time.new.self
    c.loop-time.invariant.counts.are_ends c.pass.ensures.same c.pass-in-loop-time.ensures.same c.pass.ensures.count
    c.pass.ensures.come c.pass-in-loop-time.ensures.count c.pass-in-loop-time.ensures.come in
    let starts = c.pass.ensures.same.times ∙ c.loop-time.invariant.starts in
    let same = rw (ap (λ (v : Vec ℤ). v.items) starts) at
    (overloads_same p t (counted_use c.pass.new.self.totals.items c.pass-in-loop-time.new.self.totals.items) _
    (counted_is p t c.pass.new.self c.pass-in-loop-time.new.self are)) in
    record {
      counts = subst (λ (u : ℤ). AreCounts p u c.pass.new.self c.pass-in-loop-time.new.self) (time_moves s n t item) are;
      starts = starts;
      listed = overloads_more p s n t c.loop-time.overloads.items c.push_overloaded.new.overloads.items inside item c.loop-time.invariant.listed
          ((rw (c.as_slice-taken.ensures.value, c.as_slice-returned.ensures.value) at c.in_ok-push_overloaded.ensures)
          ∙ ap (λ (es : List Overload). c.loop-time.overloads.items ++ es) same);
    }
