use Rattle.std.proofs.Common.{◌≡◌, ◌<◌, ◌+◌, ℤ, [], Some, subst, sym, length, length-append, arith, rules, w64, to_z, of_z}
use Rattle.std.proofs.lemmas.Int.{ints}
use Rattle.branching.specs.Right.{IsLeast}
use Rattle.book.specs.State.{BookState, in_hand, live, best_makespan}
use Rattle.book.specs.Views.{state_of}
pub use Rattle.book.specs.declared.book.Book.TheInside.{Inside}
use Rattle.book.proofs.Names.{nothing_of_length}
use Rattle.book.specs.Sound.{IsSound, known_bounds}
use Rattle.network.specs.declared.verdict.Verdict.TheVariants as verdict
use Rattle.book.proofs.Verdicts.{nothing_known, bound_is_best, verdict_true}
use Rattle.book.proofs.book.Book.verdict.Goals as goal
use Rattle.book.proofs.book.Book.verdict.Goals.{else-len-eq0-via-then-len-eq0+else-count-eq0, else-len-eq0-via-else-len-eq0}

pub returns-in_default-clause-verdict : goal.returns-in_default-clause-verdict
returns-in_default-clause-verdict c =
    let none : known_bounds c.args.self.now ≡ [] = search rules in
    let known = nothing_known c.args.self.now none in
    (known.1, known.0)

-- no node is open or in hand
none_live : (b : Inside) (s : BookState) → state_of b ≡ s → length b.waiting ≡ 0 → length (in_hand b.hands) ≡ 0 → live s ≡ []
none_live b s is waiting held = subst (λ (s : BookState). live s ≡ []) is
    (nothing_of_length (live (state_of b)) (omega (arith, length-append b.waiting (in_hand b.hands), waiting, held)))

some_live : (b : Inside) (s : BookState) → state_of b ≡ s → 0 < length b.waiting + length (in_hand b.hands) → 0 < length (live s)
some_live b s is some = subst (λ (s : BookState). 0 < length (live s)) is (omega (arith, length-append b.waiting (in_hand b.hands), some))

pub returns-then-count-eq0-clause-verdict : goal.returns-then-count-eq0-clause-verdict
returns-then-count-eq0-clause-verdict c =
    let same : to_z w64 (of_z w64 c.in-Some.bound) ≡ c.in-Some.bound = omega (arith, ints) in
    let waiting : length c.self.inside.waiting ≡ 0 = search rules in
    let held : length (in_hand c.self.inside.hands) ≡ 0 = search rules in
    let over : live c.args.self.now ≡ [] = none_live c.self.inside c.args.self.now c.self.view_is waiting held in
    let least : IsLeast (known_bounds c.args.self.now) (Some c.in-Some.bound) = search rules in
    (over, subst (λ (n : ℤ). best_makespan c.args.self.now ≡ Some n) (sym same) (bound_is_best c.args.self.now c.in-Some.bound over least))

pub returns-then-count-eq0-clause-holds : goal.returns-then-count-eq0-clause-holds
returns-then-count-eq0-clause-holds c =
    verdict_true c.args.self.now (verdict.Optimal (to_z w64 (of_z w64 c.in-Some.bound)))
    (subst IsSound c.self.view_is c.self.invariant.kept.sound) (returns-then-count-eq0-clause-verdict c)

pub returns-clause-verdict : goal.returns-clause-verdict
returns-clause-verdict c =
    let same : to_z w64 (of_z w64 c.in-Some.bound) ≡ c.in-Some.bound = omega (arith, ints) in
    let least : IsLeast (known_bounds c.args.self.now) (Some c.in-Some.bound) = search rules in
    let some : 0 < length c.self.inside.waiting + length (in_hand c.self.inside.hands) =
    (elim c.else-len-eq0.branch [
      | else-len-eq0-via-then-len-eq0+else-count-eq0 w ↦ omega (arith, w.if-count-eq0.false, w.count.ensures)
      | else-len-eq0-via-else-len-eq0 w ↦ omega (arith, w.if-len-eq0.false, c.len.ensures)
    ]) in
    (some_live c.self.inside c.args.self.now c.self.view_is some, subst (λ (n : ℤ). IsLeast (known_bounds c.args.self.now) (Some n)) (sym same) least)
