-- The stretch of an activity, arc by arc.
use Rattle.std.proofs.Common.{◌≡◌, ◌≢◌, sym, ap, ◌∙◌, ℕ, ◌+◌, ◌<◌, ◌≤◌, Bool, true, false, ◌==◌, cond, ℤ, pos, List, [], ◌∷◌, ◌++◌, map, take, length, get_or}
use Rattle.std.proofs.Common.{arith}
use Rattle.std.specs.Int.{int_max}
use Rattle.std.specs.List.{filter, fold}
use Rattle.std.proofs.lemmas.Bool.{eq-eqb, ne_eqb}
use Rattle.std.proofs.lemmas.Int.{ints, clamps}
use Rattle.std.proofs.lemmas.List.{map-append, take_more, take_all, append-nil}
use Rattle.std.proofs.lemmas.List.Elements.{filter-append}
use Rattle.std.proofs.lemmas.List.Sums.{fold_push}
use Rattle.network.specs.declared.parts.Lag.{Lag}
use Rattle.network.specs.Problem.{Problem, IsProject, IsLag, IsAmount, activity_count, duration}
use Rattle.network.specs.Horizon.{stretch}

abbrev leaves : ℕ → Lag → Bool
leaves i e = e.from == i

-- the lags of those of the arcs that leave an activity
abbrev pub lags_of : ℕ → List Lag → List ℤ
lags_of i es = map (λ e. e.weight) (filter (λ e. e.from == i) es)

-- the greatest of a number and these
abbrev pub greatest_of : ℤ → ℕ → List Lag → ℤ
greatest_of z i es = fold int_max z (lags_of i es)

lags_more : (i : ℕ) (es : List Lag) (e : Lag) (b : Bool) → leaves i e ≡ b → lags_of i (es ++ e ∷ []) ≡ lags_of i es ++ cond b (e.weight ∷ []) []
lags_more i es e true is =
    ap (map (λ (f : Lag). f.weight)) (filter-append (leaves i) es (e ∷ [])
    ∙ ap (λ b. filter (leaves i) es ++ cond b (e ∷ []) []) is)
    ∙ map-append (λ (f : Lag). f.weight) (filter (leaves i) es) (e ∷ [])
lags_more i es e false is =
    ap (map (λ (f : Lag). f.weight)) (filter-append (leaves i) es (e ∷ [])
    ∙ ap (λ b. filter (leaves i) es ++ cond b (e ∷ []) []) is)
    ∙ map-append (λ (f : Lag). f.weight) (filter (leaves i) es) []

-- an arc that leaves the activity
pub greatest_more : (z : ℤ) (i k : ℕ) (es : List Lag) (e : Lag) → k < length es → e ≡ get_or es k e → e.from ≡ i
    → greatest_of z i (take (k + 1) es) ≡ int_max (greatest_of z i (take k es)) e.weight
greatest_more z i k es e lt at is =
    let more : take (k + 1) es ≡ take k es ++ e ∷ [] = take_more es k e lt ∙ ap (λ (f : Lag). take k es ++ f ∷ []) (sym at) in
    ap (greatest_of z i) more ∙ ap (fold int_max z) (lags_more i (take k es) e true (eq-eqb e.from i is)) ∙ fold_push int_max z (lags_of i (take k es)) e.weight

-- an arc that does not
pub greatest_same : (z : ℤ) (i k : ℕ) (es : List Lag) (e : Lag) → k < length es → e ≡ get_or es k e → e.from ≢ i
    → greatest_of z i (take (k + 1) es) ≡ greatest_of z i (take k es)
greatest_same z i k es e lt at not =
    let more : take (k + 1) es ≡ take k es ++ e ∷ [] = take_more es k e lt ∙ ap (λ (f : Lag). take k es ++ f ∷ []) (sym at) in
    ap (greatest_of z i) more ∙ ap (fold int_max z) (lags_more i (take k es) e false (ne_eqb e.from i not) ∙ append-nil (lags_of i (take k es)))

pub stretch_read : (p : Problem) (i k : ℕ) (r : ℤ) → IsAmount r → r ≡ greatest_of (duration p i) i (take k p.lags) → length p.lags ≤ k → r ≡ pos (stretch p i)
stretch_read p i k r amount is past =
    let whole : r ≡ greatest_of (duration p i) i p.lags = rw (take_all k p.lags past) at is in
    let low = amount.at_least in
    omega (arith, ints)

-- ---- an arc more, in the words of the loop

pub more_left : (p : Problem) (i k : ℕ) (items : List Lag) (e : Lag) (old new : ℤ) → items ≡ p.lags → k < length items
    → e ≡ get_or items k e → e.from ≡ i → new ≡ int_max old e.weight →
    old ≡ greatest_of (duration p i) i (take k p.lags) → new ≡ greatest_of (duration p i) i (take (k + 1) p.lags)
more_left p i k items e old new are lt at from step before =
    let low : k < length p.lags = rw are at lt in
    let here : e ≡ get_or p.lags k e = at ∙ ap (λ (es : List Lag). get_or es k e) are in
    step ∙ ap (λ z. int_max z e.weight) before ∙ sym (greatest_more (duration p i) i k p.lags e low here from)

pub more_kept : (p : Problem) (i k : ℕ) (items : List Lag) (e : Lag) (old new : ℤ) → items ≡ p.lags → k < length items
    → e ≡ get_or items k e → e.from ≢ i → new ≡ old →
    old ≡ greatest_of (duration p i) i (take k p.lags) → new ≡ greatest_of (duration p i) i (take (k + 1) p.lags)
more_kept p i k items e old new are lt at not step before =
    let low : k < length p.lags = rw are at lt in
    let here : e ≡ get_or p.lags k e = at ∙ ap (λ (es : List Lag). get_or es k e) are in
    step ∙ before ∙ sym (greatest_same (duration p i) i k p.lags e low here not)

pub left_amount : (p : Problem) (k : ℕ) (items : List Lag) (d : Lag) (old new : ℤ) → IsProject p → items ≡ p.lags
    → k < length items → new ≡ int_max old (get_or items k d).weight → IsAmount old → IsAmount new
left_amount p k items d old new is are lt step amount =
    let e : Lag = get_or items k d in
    let low : k < length p.lags = rw are at lt in
    let fits : IsLag (activity_count p) (get_or p.lags k d) = is.lags_fit k d low in
    let same : (get_or items k d).weight ≡ (get_or p.lags k d).weight = ap (λ (es : List Lag). (get_or es k d).weight) are in
    let high = fits.light.at_most in
    let from = amount.at_least in
    let to = amount.at_most in
    record { at_least = omega (arith, ints, clamps); at_most = omega (arith, ints, clamps) }
