use Rattle.std.proofs.Common.{◌≡◌, ◌∙◌, ap, List, length, ℤ}
use Rattle.std.specs.Global.{Vec}
use Rattle.network.specs.Problem.{activity_count}
use Rattle.profile.proofs.OrderLaws.{have_keys}
use Rattle.profile.proofs.Counted.{count_none, written}
use Rattle.profile.proofs.sweep.prepare.Goals as goal

pub restart-requires : goal.restart-requires
restart-requires c =
    let items = written c.args.started.now.times c.as_mut_slice.result.now c.copy_from_slice.new.self
    c.copy_from_slice.auto.self c.as_mut_slice.ensures.value in
    rw items (have_keys (activity_count c.args.project.now) c.copy_from_slice.new.self c.args.started.now.order.items
    (ap length c.copy_from_slice.ensures.after ∙ c.requires.starts.count) c.requires.started.is_order)

pub restart-requires-2 : goal.restart-requires-2
restart-requires-2 c =
    let items = written c.args.ended.now.times c.as_mut_slice-2.result.now c.list_ends.new.ends c.list_ends.auto.ends c.as_mut_slice-2.ensures.value in
    rw items (have_keys (activity_count c.args.project.now) c.list_ends.new.ends c.args.ended.now.order.items
    c.list_ends.ensures.count c.requires.ended.is_order)

pub returns-clause-ready : goal.returns-clause-ready
returns-clause-ready c =
    let p = c.args.project.now in
    let starts = written c.args.started.now.times c.as_mut_slice.result.now c.copy_from_slice.new.self
    c.copy_from_slice.auto.self c.as_mut_slice.ensures.value in
    let ends = written c.args.ended.now.times c.as_mut_slice-2.result.now c.list_ends.new.ends c.list_ends.auto.ends c.as_mut_slice-2.ensures.value in
    let starts_are : c.restart.new.self.times.items ≡ c.args.starts.now =
    ap (λ (v : Vec ℤ). v.items) c.restart.ensures.times ∙ starts ∙ c.copy_from_slice.ensures.after in
    let ends_are : c.restart-2.new.self.times.items ≡ c.list_ends.new.ends = ap (λ (v : Vec ℤ). v.items) c.restart-2.ensures.times ∙ ends in
    let limits = c.list_ends.ensures.limits in
    record {
      within = rw starts_are c.requires.starts;
      are_ends = rw (starts_are, ends_are) c.list_ends.ensures;
      starts = count_none p c.args.started.now c.restart.new.self limits c.requires.started c.restart.ensures.kept
          c.restart.ensures.rises (ap (λ (xs : List ℤ). length xs) starts_are ∙ c.requires.starts.count)
          c.restart.ensures.passed c.restart.ensures.totals;
      none_started = c.restart.ensures.passed;
      ends = count_none p c.args.ended.now c.restart-2.new.self limits c.requires.ended c.restart-2.ensures.kept
          c.restart-2.ensures.rises (ap (λ (xs : List ℤ). length xs) ends_are ∙ c.list_ends.ensures.count)
          c.restart-2.ensures.passed c.restart-2.ensures.totals;
      none_ended = c.restart-2.ensures.passed;
    }
