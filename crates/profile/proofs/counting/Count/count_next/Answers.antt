use Rattle.std.proofs.Common.{◌≡◌, ◌∙◌, ◌+◌, ℕ, List, length, ap, sym, refl}
use Rattle.std.specs.Vec.{with_items}
use Rattle.std.proofs.lemmas.List.{with_items_is}
use Rattle.profile.specs.declared.counting.Count.{Count}
use Rattle.profile.proofs.Counted.{activity_at, counts_small, count_more}
use Rattle.profile.proofs.counting.Count.count_next.Goals as goal

pub add_demands-requires-clause-activity : goal.add_demands-requires-clause-activity
add_demands-requires-clause-activity c =
    rw c.as_slice.ensures.value (activity_at c.args.project.now c.args.self.now c.requires.count.sized c.args.self.now.passed c.requires.some)

pub add_demands-requires-clause-small : goal.add_demands-requires-clause-small
add_demands-requires-clause-small c =
    rw c.as_mut_slice.ensures.value (counts_small c.args.project.now c.args.self.now c.requires.count)

pub returns-clause-count : goal.returns-clause-count
returns-clause-count c =
    let new : Count = record {
      times = c.args.self.now.times;
      order = c.args.self.now.order;
      passed = c.args.self.now.passed + 1;
      totals = with_items c.args.self.now.totals c.add_demands.new.totals;
    } in
    let long : length c.add_demands.new.totals ≡ length c.args.self.now.totals.items = c.add_demands.auto.totals
    ∙ ap (λ (xs : List ℕ). length xs) c.as_mut_slice.ensures.value in
    let items = with_items_is c.args.self.now.totals c.add_demands.new.totals (long ∙ sym c.args.self.now.totals.ok.0) in
    count_more c.args.project.now c.args.self.now new c.requires.count c.requires.some refl refl refl (ap length items ∙ long)
    (rw items (rw (c.as_slice.ensures.value, c.as_mut_slice.ensures.value) at c.add_demands.ensures))
