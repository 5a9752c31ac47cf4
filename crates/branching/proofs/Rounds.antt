-- A pair that was added is kept from then on, so the pairs that are left to force get fewer.
use Rattle.std.proofs.Common.{◌≡◌, refl, ℕ, ◌<◌, ◌≤◌, Bool, true, false, cond, List, [], ◌∷◌, ◌++◌, length, ⊎_elim, arith, Option, Some, None, ℤ, ◌≤ℤ◌, ◌<ℤ◌}
use Rattle.std.proofs.Common.{int_lt}
use Rattle.std.specs.List.{All, Contains, filter}
use Rattle.std.proofs.lemmas.Int.{ints}
use Rattle.std.proofs.lemmas.List.Elements.{All-head, All-tail, All-weaker, Contains-append_left, Contains-push}
use Rattle.network.specs.declared.parts.Lag.{Lag}
use Rattle.network.specs.declared.parts.Pair.{Pair}
use Rattle.network.specs.Problem.{Problem, activity_count, duration, pair_arc, arcs_of}
use Rattle.network.specs.Walk.{IsProjectMatrix, Rows, weight, entry, IsWalk, IsMatrixOf, IsGreatestWeight}
use Rattle.network.proofs.Schedules.{arcs_of-push}
use Rattle.longest_path.specs.Matrix.{Reaches}
use Rattle.longest_path.proofs.Ends.{reached}
use Rattle.forbidden_sets.specs.Incompatible.{AreIncompatible}
use Rattle.branching.specs.Forcing.{IsForcedIn}
use Rattle.branching.proofs.OrderedPairs.{contains_cases}

-- ---- filters

step_le : {X : Type 0} (a b : Bool) (x : X) (ys zs : List X) → (b ≡ true → a ≡ true) → length ys ≤ length zs
    → length (cond b (x ∷ ys) ys) ≤ length (cond a (x ∷ zs) zs)
step_le true true x ys zs h l = omega arith
step_le true false x ys zs h l = omega arith
step_le false true x ys zs h l = let bad : false ≡ true = h refl in cc
step_le false false x ys zs h l = l

step_lt : {X : Type 0} (a b : Bool) (x : X) (ys zs : List X) → a ≡ true → b ≡ false → length ys ≤ length zs
    → length (cond b (x ∷ ys) ys) < length (cond a (x ∷ zs) zs)
step_lt true true x ys zs h g l = cc
step_lt true false x ys zs h g l = omega arith
step_lt false b x ys zs h g l = cc

step_later : {X : Type 0} (a b : Bool) (x : X) (ys zs : List X) → (b ≡ true → a ≡ true) → length ys < length zs
    → length (cond b (x ∷ ys) ys) < length (cond a (x ∷ zs) zs)
step_later true true x ys zs h l = omega arith
step_later true false x ys zs h l = omega arith
step_later false true x ys zs h l = let bad : false ≡ true = h refl in cc
step_later false false x ys zs h l = l

-- what passes g passes f
filter_most : {X : Type 0} (f g : X → Bool) (xs : List X) → All (λ x. g x ≡ true → f x ≡ true) xs → length (filter g xs) ≤ length (filter f xs)
filter_most f g [] all = omega arith
filter_most f g (x ∷ xs) all = step_le (f x) (g x) x (filter g xs) (filter f xs)
    (All-head (λ y. g y ≡ true → f y ≡ true) x xs all)
    (filter_most f g xs (All-tail (λ y. g y ≡ true → f y ≡ true) x xs all))

-- and y passes f alone
pub filter_fewer : {X : Type 0} (f g : X → Bool) (xs : List X) (y : X) → All (λ x. g x ≡ true → f x ≡ true) xs
    → Contains xs y → f y ≡ true → g y ≡ false → length (filter g xs) < length (filter f xs)
filter_fewer f g [] y all c passes fails = absurd (let low : c.0 < 0 = c.1 in omega arith)
filter_fewer f g (x ∷ xs) y all c passes fails =
    let later_all = All-tail (λ z. g z ≡ true → f z ≡ true) x xs all in
    ⊎_elim
    (λ (same : x ≡ y). step_lt (f x) (g x) x (filter g xs) (filter f xs) (rw same passes) (rw same fails) (filter_most f g xs later_all))
    (λ (later : Contains xs y). step_later (f x) (g x) x (filter g xs) (filter f xs)
    (All-head (λ z. g z ≡ true → f z ≡ true) x xs all) (filter_fewer f g xs y later_all later passes fails))
    (contains_cases x xs y c)

-- ---- entries

walk_more : (arcs : List Lag) (e : Lag) (a b : ℕ) (es : List Lag) → IsWalk arcs a es b → IsWalk (arcs ++ e ∷ []) a es b
walk_more arcs e a b [] w = w
walk_more arcs e a b (f ∷ es) w = (Contains-append_left arcs (e ∷ []) f w.0, w.1, walk_more arcs e f.to b es w.2)

-- no entry falls
entry_more : (n : ℕ) (arcs : List Lag) (e : Lag) (old new : Rows) → IsMatrixOf n arcs old
    → IsMatrixOf n (arcs ++ e ∷ []) new → (a b : ℕ) → a < n → b < n → (w : ℤ) → entry old a b ≡ Some w
    → Reaches w (entry new a b)
entry_more n arcs e old new m more a b la lb w is =
    let at : IsGreatestWeight arcs a b (Some w) = rw is at (m.greatest a b la lb) in
    let weighs : weight at.0.0 ≡ w = at.0.2 in
    let r = reached (arcs ++ e ∷ []) a b (entry new a b) w (more.greatest a b la lb)
    (record { walk = at.0.0; goes = walk_more arcs e a b at.0.0 at.0.1; weighs = omega (arith, ints) }) in
    (r.value, r.is, r.at_least)

-- the arc's own entry is at least its weight
entry_arc : (n : ℕ) (arcs : List Lag) (e : Lag) (new : Rows) → IsMatrixOf n (arcs ++ e ∷ []) new → e.from < n → e.to < n
    → Reaches e.weight (entry new e.from e.to)
entry_arc n arcs e new more lf lt =
    let r = reached (arcs ++ e ∷ []) e.from e.to (entry new e.from e.to) e.weight (more.greatest e.from e.to lf lt)
    (record { walk = e ∷ []; goes = (Contains-push arcs e, refl, refl); weighs = omega (arith, ints) }) in
    (r.value, r.is, r.at_least)

-- ---- what is left

-- the second activity needn't wait yet until the first has ended
abbrev pub is_below : Option ℤ → ℤ → Bool
is_below None d = true
is_below (Some w) d = int_lt w d

abbrev pub is_left : Problem → Rows → Pair → Bool
is_left p rows q = is_below (entry rows q.before q.after) (duration p q.before)

lt_when : (w d : ℤ) → w <ℤ d → int_lt w d ≡ true
lt_when w d h = grind (arith, ints)

lt_if : (w d : ℤ) → int_lt w d ≡ true → w <ℤ d
lt_if w d h = grind (arith, ints)

lt_unless : (w d : ℤ) → d ≤ℤ w → int_lt w d ≡ false
lt_unless w d h = grind (arith, ints)

was_left : (old new : Option ℤ) (d : ℤ) → ((w : ℤ) → old ≡ Some w → Reaches w new) → is_below new d ≡ true → is_below old d ≡ true
was_left None new d more below = refl
was_left (Some w) new d more below =
    let r : Reaches w new = more w refl in
    let up : w ≤ℤ r.0 = r.2 in
    let at : is_below (Some r.0) d ≡ true = rw r.1 at below in
    let low : r.0 <ℤ d = lt_if r.0 d at in
    lt_when w d (omega (arith, ints))

kept_at : (new : Option ℤ) (d : ℤ) → Reaches d new → is_below new d ≡ false
kept_at new d r = let up : d ≤ℤ r.0 = r.2 in rw r.1 (lt_unless r.0 d up)

-- one pair is added that was left
pub fewer_left : (p : Problem) (pairs : List Pair) (pair : Pair) (old new : Rows) (apart : List Pair)
    → IsProjectMatrix p pairs old → IsProjectMatrix p (pairs ++ pair ∷ []) new → All (AreIncompatible p) apart
    → Contains apart pair → IsForcedIn p old pair → AreIncompatible p pair →
    length (filter (is_left p new) apart) < length (filter (is_left p old) apart)
fewer_left p pairs pair old new apart m more all among by both =
    let after : IsMatrixOf (activity_count p) (arcs_of p pairs ++ pair_arc p pair ∷ []) new = rw (arcs_of-push p pairs pair) at more.matrix in
    let below = by.below in
    filter_fewer (is_left p old) (is_left p new) apart pair
    (All-weaker (AreIncompatible p) (λ q. is_left p new q ≡ true → is_left p old q ≡ true)
    (λ q apart_q left. was_left (entry old q.before q.after) (entry new q.before q.after) (duration p q.before)
    (entry_more (activity_count p) (arcs_of p pairs) (pair_arc p pair) old new m.matrix after q.before q.after
    apart_q.first_named apart_q.second_named) left)
    apart all)
    among
    (rw by.is (lt_when by.weight (duration p pair.before) below))
    (kept_at (entry new pair.before pair.after) (duration p pair.before)
    (entry_arc (activity_count p) (arcs_of p pairs) (pair_arc p pair) new after both.first_named both.second_named))
