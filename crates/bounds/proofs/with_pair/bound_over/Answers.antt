use Rattle.std.proofs.Common.{◌≡◌, ◌∙◌, sym, ap, subst, rules, ℕ, ◌-◌, ◌<◌, ◌≤◌, ◌≤ℤ◌, arith, ℤ, pos, List, length, get_or, [], ◌∷◌, w64, to_z, FitsSigned}
use Rattle.std.proofs.Common.{◌++◌, unsigned_abs}
use Rattle.std.specs.Int.{int_max}
use Rattle.std.specs.Option.{unwrap_or}
use Rattle.std.proofs.lemmas.Int.{to_z-of_z, ints}
use Rattle.network.specs.declared.parts.Lag.{Lag}
use Rattle.network.specs.declared.parts.Pair.{Pair}
use Rattle.network.specs.Problem.{Problem, activity_count, end_of, pair_arc, NameActivities}
use Rattle.network.specs.Walk.{IsProjectMatrix, Rows, weights_from}
use Rattle.network.specs.Schedule.{start}
use Rattle.longest_path.specs.Insert.{rows_over, ClosesNone}
use Rattle.longest_path.specs.Ends.{tail_weights}
pub use Rattle.bounds.specs.declared.limits.TheConstants.{MAX_END, MAX_ENVELOPE}
use Rattle.bounds.specs.Energy.{AreEnds}
use Rattle.bounds.specs.Bound.{critical_weight, IsBoundUnder}
use Rattle.bounds.proofs.LateWork.{end_limit}
use Rattle.bounds.proofs.Greatest.{end_above}
use Rattle.bounds.proofs.WithLaws.{ends_there, matrix_more, heads_are_ends, tails_are_ends, last_head, greater_under}
use Rattle.bounds.proofs.with_pair.bound_over.Goals as goal

pub list_heads_with-requires-clause-from_activity : goal.list_heads_with-requires-clause-from_activity
list_heads_with-requires-clause-from_activity c =
    rw (c.requires.matrix.matrix.matrix.square.0, c.pair_arc-arc.ensures.arc)
    (ends_there c.args.project.now c.args.pair c.requires.named).0

pub list_heads_with-requires-clause-to_activity : goal.list_heads_with-requires-clause-to_activity
list_heads_with-requires-clause-to_activity c =
    rw (c.requires.matrix.matrix.matrix.square.0, c.pair_arc-arc.ensures.arc)
    (ends_there c.args.project.now c.args.pair c.requires.named).1

pub list_tails_with-requires-clause-from_activity : goal.list_tails_with-requires-clause-from_activity
list_tails_with-requires-clause-from_activity c =
    rw (c.requires.matrix.matrix.matrix.square.0, c.pair_arc-arc.ensures.arc)
    (ends_there c.args.project.now c.args.pair c.requires.named).0

pub list_tails_with-requires-clause-to_activity : goal.list_tails_with-requires-clause-to_activity
list_tails_with-requires-clause-to_activity c =
    rw (c.requires.matrix.matrix.matrix.square.0, c.pair_arc-arc.ensures.arc)
    (ends_there c.args.project.now c.args.pair c.requires.named).1

pub energy_under-energy-requires-clause-heads : goal.energy_under-energy-requires-clause-heads
energy_under-energy-requires-clause-heads c =
    let heads_are : c.list_heads_with.new.heads ≡ weights_from 0
    (rows_over (pair_arc c.args.project.now c.args.pair) c.args.matrix.now) = c.list_heads_with.ensures
    ∙ ap (λ (e : Lag). weights_from 0 (rows_over e c.args.matrix.now)) c.pair_arc-arc.ensures.arc in
    subst (AreEnds (activity_count c.args.project.now)) (sym heads_are)
    (heads_are_ends c.args.project.now _ _
    (matrix_more c.args.project.now c.requires.matrix.pairs c.args.pair c.args.matrix.now c.requires.named
    c.requires.lives c.requires.matrix.matrix))

pub energy_under-energy-requires-clause-tails : goal.energy_under-energy-requires-clause-tails
energy_under-energy-requires-clause-tails c =
    let tails_are : c.list_tails_with.new.tails ≡ tail_weights c.args.project.now
    (rows_over (pair_arc c.args.project.now c.args.pair) c.args.matrix.now) = c.list_tails_with.ensures
    ∙ ap (λ (e : Lag). tail_weights c.args.project.now (rows_over e c.args.matrix.now)) c.pair_arc-arc.ensures.arc
    in
    subst (AreEnds (activity_count c.args.project.now)) (sym tails_are)
    (tails_are_ends c.args.project.now _ _
    (matrix_more c.args.project.now c.requires.matrix.pairs c.args.pair c.args.matrix.now c.requires.named
    c.requires.lives c.requires.matrix.matrix))

-- the last head is the critical weight with the pair, and small
record IsLast (p : Problem) (pair : Pair) (rows : Rows) (x : ℤ) : Type 0 where
  is : x ≡ critical_weight (rows_over (pair_arc p pair) rows)
  low : pos 0 ≤ℤ x
  high : unsigned_abs x ≤ MAX_END

last : (p : Problem) (pairs : List Pair) (pair : Pair) (rows : Rows) (arc : Lag) (heads : List ℤ) (n : ℕ)
    → IsProjectMatrix p pairs rows → NameActivities p (pair ∷ []) → ClosesNone (pair_arc p pair) rows
    → arc ≡ pair_arc p pair →
    heads ≡ weights_from 0 (rows_over arc rows) → n ≡ activity_count p → IsLast p pair rows (get_or heads (n - 1) (pos 0))
last p pairs pair rows arc heads n m named lives arc_is heads_are n_is =
    let over : Rows = rows_over (pair_arc p pair) rows in
    let more : IsProjectMatrix p (pairs ++ pair ∷ []) over = matrix_more p pairs pair rows named lives m in
    let size : length over ≡ activity_count p = more.matrix.square.0 in
    let two : 2 ≤ activity_count p = m.limits.two_dummies in
    let are : heads ≡ weights_from 0 over = heads_are ∙ ap (λ (e : Lag). weights_from 0 (rows_over e rows)) arc_is in
    let ends : AreEnds (activity_count p) heads = subst (AreEnds (activity_count p)) (sym are) (heads_are_ends p (pairs ++ pair ∷ []) over more) in
    let lt : n - 1 < activity_count p = omega (arith, n_is) in
    record {
      is = ap (λ (hs : List ℤ). get_or hs (n - 1) (pos 0)) are
          ∙ ap (λ (k : ℕ). get_or (weights_from 0 over) (k - 1) (pos 0)) (n_is ∙ sym size)
          ∙ last_head over (omega arith);
      low = end_above (activity_count p) heads (n - 1) ends;
      high = end_limit (activity_count p) heads (n - 1) ends lt;
    }

pub returns-clause-value : goal.returns-clause-value
returns-clause-value c =
    let p : Problem = c.args.project.now in
    let x : ℤ = get_or c.list_heads_with.new.heads (c.activity_count-3.result - 1) (pos 0) in
    let n : ℕ = c.energy_under-energy.result in
    let at : IsLast c.args.project.now c.args.pair c.args.matrix.now x =
    last c.args.project.now c.requires.matrix.pairs c.args.pair c.args.matrix.now c.pair_arc-arc.result
    c.list_heads_with.new.heads c.activity_count-3.result c.requires.matrix.matrix c.requires.named c.requires.lives
    c.pair_arc-arc.ensures.arc c.list_heads_with.ensures c.activity_count-3.ensures.value in
    let low : pos 0 ≤ℤ x = at.low in
    let high : unsigned_abs x ≤ MAX_END = at.high in
    let fits : FitsSigned w64 x = omega (arith, ints) in
    let limit_fits : FitsSigned w64 c.unwrap_or-ceiling.result = search rules in
    let limit : n ≤ MAX_ENVELOPE = c.energy_under-energy.ensures.limit in
    let same : to_z w64 n ≡ pos n = omega (arith, ints) in
    let max_is : c.max.result ≡ int_max x (pos n) = (simp to_z-of_z at c.max.ensures.value) ∙ ap (int_max x) same in
    let ceiling_is : c.unsigned_abs.result ≡ unsigned_abs (unwrap_or c.args.ceiling (pos 9223372036854775807)) =
    (simp to_z-of_z at c.unsigned_abs.ensures.value) ∙ ap unsigned_abs c.unwrap_or-ceiling.ensures in
    let max_fits : FitsSigned w64 c.max.result = search rules in
    let first : get_or c.list_heads_with.new.heads (c.activity_count-3.result - 1) (pos 0) ≡ start
    c.list_heads_with.new.heads (end_of p) =
    ap (λ (k : ℕ). get_or c.list_heads_with.new.heads (k - 1) (pos 0)) c.activity_count-3.ensures.value in
    let is : c.max.result ≡ int_max (start c.list_heads_with.new.heads (end_of p)) (pos n) = max_is ∙ ap (λ (z : ℤ). int_max z (pos n)) first in
    rw (to_z-of_z w64 c.max.result max_fits)
    (subst (IsBoundUnder p c.args.matrix.now c.args.pair c.args.ceiling) (sym is)
    (greater_under p c.requires.matrix.pairs c.args.pair c.args.matrix.now c.list_heads_with.new.heads
    c.list_tails_with.new.tails c.args.ceiling n c.requires.matrix.matrix c.requires.named c.requires.lives
    (c.list_heads_with.ensures ∙ ap (λ (e : Lag). weights_from 0 (rows_over e c.args.matrix.now)) c.pair_arc-arc.ensures.arc)
    (c.list_tails_with.ensures ∙ ap (λ (e : Lag). tail_weights p (rows_over e c.args.matrix.now)) c.pair_arc-arc.ensures.arc)
    (sym first ∙ at.is) (rw ceiling_is at c.energy_under-energy.ensures.value) c.energy_under-energy.ensures.limit))
