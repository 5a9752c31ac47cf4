use Rattle.std.proofs.Common.{ℕ, List, sym, subst}
use Rattle.std.specs.List.Sorted.{IsNonDecreasing}
use Rattle.std.proofs.lemmas.List.Sorted.{IsNonDecreasingBy-from_sort}
use Rattle.forbidden_sets.proofs.Shrunken.{written_whole}
use Rattle.forbidden_sets.proofs.shrinking.in_order.Goals as goal

pub returns-clause-rising : goal.returns-clause-rising
returns-clause-rising c = subst (λ (xs : List ℕ). IsNonDecreasing xs)
    (sym (written_whole c.loop-load.members.items c.as_mut_slice.result.now c.sort_unstable.new.self
    c.as_mut_slice.ensures.value c.sort_unstable.ensures.len))
    (IsNonDecreasingBy-from_sort (λ x. x) _ c.sort_unstable.ensures.sorted)
