-- The arcs of a block, as they are added.
use Rattle.std.proofs.Common.{◌≡◌, sym, ap, ◌∙◌, subst, ℕ, Bool, true, false, not, is_some, arith, List, ◌++◌, ◌∷◌, [], length, append_assoc, Option, None}
use Rattle.std.proofs.Common.{Some, MatchOption, refl, ℤ, pos, ◌-ℤ◌, ◌≤ℤ◌}
use Rattle.std.specs.List.{Contains}
use Rattle.std.specs.Bool.{MatchBool}
use Rattle.std.proofs.lemmas.Bool.{false≢true}
use Rattle.std.proofs.lemmas.Int.{ints}
use Rattle.network.specs.declared.parts.Lag.{Lag}
use Rattle.network.specs.Walk.{IsMatrixOf, IsWalk, weight, HasPositiveCycle, HasNoPositiveCycle}
use Rattle.network.proofs.Walks.{IsWalk-append, weight-append}
use Rattle.longest_path.specs.Insert.{arc_of}
use Rattle.longest_path.specs.Saved.{Marked}
use Rattle.lemma_proof.specs.Implied.{Implies}
use Rattle.lemma_proof.specs.Block.{IsInserted, IsToldOf}
use Rattle.lemma_proof.proofs.Implying.{IsPartOf}
use Rattle.lemma_proof.proofs.Existing.{cycle_part, nil_right}
use Rattle.lemma_proof.specs.Bench.{AreKept, BenchOf, Holds, IsKnownOf, IsMatrixOfAll}

pub made : (n : ℕ) (own more : List Lag) (found : Option Marked) (dead : Bool)
    → MatchOption found (HasPositiveCycle (own ++ more)) (λ d. IsMatrixOf n (own ++ more) d.rows)
    → is_some found ≡ not dead → IsKnownOf n own more dead more found
made n own more None true told is = told
made n own more None false told is = absurd (false≢true is)
made n own more (Some d) false told is = told
made n own more (Some d) true told is = absurd (false≢true (sym is))

pub kept_live : (own arcs : List Lag) (x : BenchOf) → x.is_infeasible ≡ false → Holds own arcs x → AreKept (length x.rows) own arcs x.more x.dense
kept_live own arcs x live h = subst (λ (b : Bool). IsKnownOf (length x.rows) own arcs b x.more x.dense) live h.known

taken_known : (n : ℕ) (own arcs : List Lag) (e : Lag) (d new : Marked) (more : List Lag) (dead : Bool)
    → length d.rows ≡ n → IsMatrixOf n (own ++ arcs) d.rows → IsInserted e d new dead
    → IsKnownOf n own (arcs ++ e ∷ []) dead more (Some new)
taken_known n own arcs e d new more true long m (closes, same) =
    let found = closes (own ++ arcs) (rw long m) in
    subst HasPositiveCycle (append_assoc own arcs (e ∷ [])) (e.from, found.0, found.1)
taken_known n own arcs e d new more false long m (adds, same) =
    let with : IsMatrixOf n ((own ++ arcs) ++ e ∷ []) new.rows = rw long at (adds (own ++ arcs) (rw long m)) in
    subst (λ (all : List Lag). IsMatrixOf n all new.rows) (append_assoc own arcs (e ∷ [])) with

pub not_both : (arcs : List Lag) → HasNoPositiveCycle arcs → HasPositiveCycle arcs → ⊥
not_both arcs none cycle = let low = none cycle.0 cycle.1 cycle.2.closed in let above = cycle.2.positive in omega (arith, ints)

-- an arc more in the matrix of all arcs
pub held_taken : (own arcs : List Lag) (x new : BenchOf) (e : Lag) (d dense : Marked) → x.is_infeasible ≡ false
    → x.dense ≡ Some d → length d.rows ≡ length x.rows → Holds own arcs x → IsInserted e d dense new.is_infeasible
    → new.dense ≡ Some dense → new.rows ≡ x.rows → Holds own (arcs ++ e ∷ []) new
held_taken own arcs x new e d dense live is long h taken now rows =
    let m : IsMatrixOf (length x.rows) (own ++ arcs) d.rows = rw is at (kept_live own arcs x live h) in
    let known : IsKnownOf (length x.rows) own (arcs ++ e ∷ []) new.is_infeasible new.more (Some dense) =
    taken_known (length x.rows) own arcs e d dense new.more new.is_infeasible long m taken in
    record { root = rw rows h.root; known = rw (rows, now) known }

told_known : (n : ℕ) (own arcs more : List Lag) (dead : Bool) → more ≡ arcs
    → MatchBool dead (HasPositiveCycle (own ++ more)) (HasNoPositiveCycle (own ++ more))
    → IsKnownOf n own arcs dead more None
told_known n own arcs more true same told = rw same at told
told_known n own arcs more false same told = (same, rw same at told)

-- an arc more beside the root's matrix, where heads tell whether a closed walk is positive
pub held_told : (own arcs : List Lag) (x new : BenchOf) (e : Lag) → x.is_infeasible ≡ false → x.dense ≡ None
    → Holds own arcs x → IsToldOf (length x.rows) x.rows new.more (Some new.is_infeasible) → new.more ≡ x.more ++ e ∷ []
    → new.dense ≡ None → new.rows ≡ x.rows → Holds own (arcs ++ e ∷ []) new
held_told own arcs x new e live is h told more now rows =
    let kept : AreKept (length x.rows) own arcs x.more None = rw is at (kept_live own arcs x live h) in
    let all : new.more ≡ arcs ++ e ∷ [] = more ∙ ap (λ (before : List Lag). before ++ e ∷ []) kept.0 in
    record { root = rw rows h.root; known = rw (rows, now) (told_known (length x.rows) own (arcs ++ e ∷ []) new.more new.is_infeasible all (told own h.root)) }

-- an arc whose way back is implied closes a walk of positive weight
pub cycle_back : (arcs : List Lag) (e : Lag) (back : ℤ) → Contains arcs e → (pos 1 -ℤ e.weight) ≤ℤ back
    → Implies arcs (arc_of e.to e.from back) → HasPositiveCycle arcs
cycle_back arcs e back there more i =
    let closed : IsWalk arcs e.to (i.walk ++ e ∷ []) e.to = IsWalk-append arcs e.to e.from e.to i.walk (e ∷ []) i.goes (there, refl, refl) in
    let weighs : back ≤ℤ weight i.walk = i.weighs in
    (e.to, i.walk ++ e ∷ [], record { closed = closed; positive = omega (arith, ints, weight-append i.walk (e ∷ [])) })

-- and where the matrix of all arcs is made
pub held_made : (own arcs : List Lag) (x new : BenchOf) (e : Lag) → x.is_infeasible ≡ false → x.dense ≡ None
    → Holds own arcs x → ((owned : List Lag) → IsMatrixOf (length x.rows) owned x.rows
    → IsKnownOf (length x.rows) owned (x.more ++ e ∷ []) new.is_infeasible new.more new.dense) → new.rows ≡ x.rows
    → Holds own (arcs ++ e ∷ []) new
held_made own arcs x new e live is h known rows =
    let kept : AreKept (length x.rows) own arcs x.more None = rw is at (kept_live own arcs x live h) in
    let here : IsKnownOf (length x.rows) own (arcs ++ e ∷ []) new.is_infeasible new.more new.dense = rw kept.0 at (known own h.root) in
    record { root = rw rows h.root; known = rw rows here }

-- the matrix of all arcs, where it was made of arcs that close no walk of positive weight
pub all_made : (own arcs : List Lag) (x new : BenchOf) → x.is_infeasible ≡ false → x.dense ≡ None → Holds own arcs x
    → ((owned : List Lag) → IsMatrixOf (length x.rows) owned x.rows
    → IsKnownOf (length x.rows) owned x.more new.is_infeasible new.more new.dense)
    → is_some new.dense ≡ not new.is_infeasible → IsMatrixOfAll (length x.rows) own arcs new.dense
all_made own arcs x new live is h known there =
    let kept : AreKept (length x.rows) own arcs x.more None = rw is at (kept_live own arcs x live h) in
    let here : IsKnownOf (length x.rows) own arcs new.is_infeasible new.more new.dense = rw kept.0 at (known own h.root) in
    by_dense new.is_infeasible new.dense kept.1 here there
  where
    by_dense : (dead : Bool) (dense : Option Marked) → HasNoPositiveCycle (own ++ arcs)
        → IsKnownOf (length x.rows) own arcs dead new.more dense → is_some dense ≡ not dead
        → IsMatrixOfAll (length x.rows) own arcs dense
    by_dense true None none cycle there = not_both (own ++ arcs) none cycle
    by_dense true (Some d) none cycle there = absurd (not_both (own ++ arcs) none cycle)
    by_dense false None none known there = absurd (false≢true there)
    by_dense false (Some d) none known there = known

pub held_settled : (own arcs : List Lag) (x new : BenchOf) → x.is_infeasible ≡ false → x.dense ≡ None → Holds own arcs x
    → ((owned : List Lag) → IsMatrixOf (length x.rows) owned x.rows
    → IsKnownOf (length x.rows) owned x.more new.is_infeasible new.more new.dense) → new.rows ≡ x.rows
    → Holds own arcs new
held_settled own arcs x new live is h known rows =
    let kept : AreKept (length x.rows) own arcs x.more None = rw is at (kept_live own arcs x live h) in
    let here : IsKnownOf (length x.rows) own arcs new.is_infeasible new.more new.dense = rw kept.0 at (known own h.root) in
    record { root = rw rows h.root; known = rw rows here }

pub all_there : (own arcs : List Lag) (x : BenchOf) (d : Marked) → x.is_infeasible ≡ false → x.dense ≡ Some d
    → Holds own arcs x → IsMatrixOf (length x.rows) (own ++ arcs) d.rows
all_there own arcs x d live is h = rw is at (kept_live own arcs x live h)

pub live_there : (own arcs : List Lag) (x : BenchOf) → x.is_infeasible ≡ false → x.dense ≡ None → Holds own arcs x
    → (x.more ≡ arcs) × HasNoPositiveCycle (own ++ arcs)
live_there own arcs x live is h = rw is at (kept_live own arcs x live h)

-- ---- a lemma's arcs

pub held_begun : (own : List Lag) (x : BenchOf) → IsMatrixOf (length x.rows) own x.rows → x.is_infeasible ≡ false
    → x.dense ≡ None → x.more ≡ [] → Holds own [] x
held_begun own x m live is more =
    let none : HasNoPositiveCycle (own ++ []) = rw (nil_right own) m.no_cycle in
    let known : AreKept (length x.rows) own [] x.more None = (more, none) in
    record { root = m; known = rw (live, is) known }

-- once a closed walk is positive, further arcs change nothing
pub held_dead : (own some arcs : List Lag) (x : BenchOf) → x.is_infeasible ≡ true → IsPartOf (own ++ some) (own ++ arcs) → Holds own some x → Holds own arcs x
held_dead own some arcs x dead part h =
    let cycle : HasPositiveCycle (own ++ some) = rw dead at h.known in
    record { root = h.root; known = rw dead (cycle_part (own ++ some) (own ++ arcs) part cycle) }

pub cycle_there : (own arcs : List Lag) (x : BenchOf) → x.is_infeasible ≡ true → Holds own arcs x → HasPositiveCycle (own ++ arcs)
cycle_there own arcs x dead h = rw dead at h.known

pub none_there : (own arcs : List Lag) (x : BenchOf) → x.is_infeasible ≡ false → Holds own arcs x → HasNoPositiveCycle (own ++ arcs)
none_there own arcs x live h = by_dense x.dense (kept_live own arcs x live h)
  where
    by_dense : (dense : Option Marked) → AreKept (length x.rows) own arcs x.more dense → HasNoPositiveCycle (own ++ arcs)
    by_dense None kept = kept.1
    by_dense (Some d) m = m.no_cycle
