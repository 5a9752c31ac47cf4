-- The arc that a lemma leaves, as the loop over its arcs finds it.
use Rattle.std.proofs.Common.{◌≡◌, ◌≢◌, refl, sym, ◌∙◌, ℕ, ◌<◌, ◌≤◌, ◌+◌, arith, ⊎_elim, Bool, true, false, is_some, List, length, Option, None, Some}
use Rattle.std.proofs.Common.{slice_get, IfSome, MatchOption, [], ◌∷◌}
use Rattle.std.specs.List.{Contains}
use Rattle.std.proofs.lemmas.Bool.{cases_eq, cases_lt, false≢true}
use Rattle.std.specs.Option.{option_or}
use Rattle.std.proofs.lemmas.Option.{slice_get_within}
use Rattle.network.specs.declared.parts.Lag.{Lag}
use Rattle.lemma_proof.specs.Reasons.{Implies}
use Rattle.lemma_proof.specs.Lines.{IsLeft}

-- of the first i arcs all are implied
abbrev pub AllBefore : List Lag → List Lag → ℕ → Type 0
AllBefore arcs lemma i = (k : ℕ) (f : Lag) → k < i → slice_get lemma k ≡ Some f → Implies arcs f

-- of the first i arcs all are implied but this one, which isn't where that is exact
pub record OneBefore (exact : Bool) (arcs lemma : List Lag) (i : ℕ) (e : Lag) : Type 0 where
  pub place : ℕ
  pub before : place < i
  pub is : slice_get lemma place ≡ Some e
  pub others : (k : ℕ) (f : Lag) → k < i → slice_get lemma k ≡ Some f → k ≢ place → Implies arcs f
  pub not : exact ≡ true → ¬ Implies arcs e

abbrev pub LeftBefore : Bool → List Lag → List Lag → ℕ → Option Lag → Type 0
LeftBefore exact arcs lemma i found = MatchOption found (AllBefore arcs lemma i) (OneBefore exact arcs lemma i)

same_arc : (x y : Lag) → Some x ≡ Some y → x ≡ y
same_arc x y e = cc

step : (arcs lemma : List Lag) (i k : ℕ) (e f : Lag) → slice_get lemma i ≡ Some e → Implies arcs e → k < i + 1
    → slice_get lemma k ≡ Some f → (k < i → Implies arcs f) → Implies arcs f
step arcs lemma i k e f at here lt is old =
    ⊎_elim
    (λ (less : k < i). old less)
    (λ (most : i ≤ k). let same : k ≡ i = omega arith in let both : Some e ≡ Some f = sym at ∙ rw same at is in rw (same_arc e f both) at here)
    (cases_lt k i)

pub before_implied : (exact : Bool) (arcs lemma : List Lag) (i : ℕ) (e : Lag) (found : Option Lag)
    → slice_get lemma i ≡ Some e → Implies arcs e → LeftBefore exact arcs lemma i found
    → LeftBefore exact arcs lemma (i + 1) found
before_implied exact arcs lemma i e None at here old = λ k f lt is. step arcs lemma i k e f at here lt is (λ less. old k f less is)
before_implied exact arcs lemma i e (Some x) at here old = record {
  place = old.place;
  before = omega (arith, old.before);
  is = old.is;
  others = λ k f lt is other. step arcs lemma i k e f at here lt is (λ less. old.others k f less is other);
  not = old.not;
}

pub before_left : (exact : Bool) (arcs lemma : List Lag) (i : ℕ) (e : Lag) → slice_get lemma i ≡ Some e
    → (exact ≡ true → ¬ Implies arcs e) → AllBefore arcs lemma i → OneBefore exact arcs lemma (i + 1) e
before_left exact arcs lemma i e at never all = record {
  place = i;
  before = omega arith;
  is = at;
  others = λ k f lt is other. ⊎_elim (λ (less : k < i). all k f less is) (λ (most : i ≤ k). absurd (other (omega arith))) (cases_lt k i);
  not = never;
}

-- two that are not implied
pub two_left : (arcs lemma : List Lag) (i : ℕ) (e x : Lag) → slice_get lemma i ≡ Some e → ¬ Implies arcs e
    → OneBefore true arcs lemma i x → (f : Lag) → ¬ IsLeft arcs lemma f
two_left arcs lemma i e x at never one f left =
    let low = one.before in
    ⊎_elim
    (λ (same : one.place ≡ left.place). never (left.others i e at (λ (is : i ≡ left.place). absurd (omega arith))))
    (λ (other : one.place ≡ left.place → ⊥). one.not refl (left.others one.place x one.is other))
    (cases_eq one.place left.place)

-- at the end
pub left_all : (exact : Bool) (arcs lemma : List Lag) (i : ℕ) (e : Lag) → length lemma ≤ i → OneBefore exact arcs lemma i e → IsLeft arcs lemma e
left_all exact arcs lemma i e past one = record {
  place = one.place;
  is = one.is;
  others = λ k f is other. let lt = slice_get_within lemma k f is in one.others k f (omega arith) is other;
}

pub first_left : (arcs lemma : List Lag) (i : ℕ) (e : Lag) → length lemma ≤ i → slice_get lemma 0 ≡ Some e → AllBefore arcs lemma i → IsLeft arcs lemma e
first_left arcs lemma i e past at all = record {
  place = 0;
  is = at;
  others = λ k f is other. let lt = slice_get_within lemma k f is in all k f (omega arith) is;
}

pub none_left : (arcs lemma : List Lag) → slice_get lemma 0 ≡ None → (e : Lag) → ¬ IsLeft arcs lemma e
none_left arcs [] empty e left = let bad : None ≡ Some e = left.is in cc
none_left arcs (x ∷ lemma) empty e left = let bad : Some x ≡ None = empty in cc

-- ---- what the loop answers

pub there_at_end : (lemma : List Lag) (found first : Option Lag) → first ≡ slice_get lemma 0
    → IfSome found (Contains lemma) → IfSome (option_or found first) (Contains lemma)
there_at_end lemma (Some e) first is there = there
there_at_end lemma None None is there = record {}
there_at_end [] None (Some e) is there = absurd (cc)
there_at_end (x ∷ lemma) None (Some e) is there = let both : Some e ≡ Some x = is in let same : e ≡ x = cc in rw same (0, omega arith, refl)

pub second_left : (exact : Bool) (arcs lemma : List Lag) (i : ℕ) (e : Lag) (found : Option Lag) → is_some found ≡ true
    → slice_get lemma i ≡ Some e → (exact ≡ true → ¬ Implies arcs e) → LeftBefore exact arcs lemma i found
    → exact ≡ true → (f : Lag) → ¬ IsLeft arcs lemma f
second_left exact arcs lemma i e None some at never before sure f = absurd (false≢true some)
second_left true arcs lemma i e (Some x) some at never before sure f = two_left arcs lemma i e x at (never sure) before f
second_left false arcs lemma i e (Some x) some at never before sure f = absurd (false≢true sure)

pub left_at_end : (exact : Bool) (arcs lemma : List Lag) (i : ℕ) (found first : Option Lag) → length lemma ≤ i
    → first ≡ slice_get lemma 0 → LeftBefore exact arcs lemma i found
    → MatchOption (option_or found first) (exact ≡ true → (e : Lag) → ¬ IsLeft arcs lemma e) (IsLeft arcs lemma)
left_at_end exact arcs lemma i (Some e) first past is before = left_all exact arcs lemma i e past before
left_at_end exact arcs lemma i None (Some e) past is before = first_left arcs lemma i e past (sym is) before
left_at_end exact arcs lemma i None None past is before = λ sure. none_left arcs lemma (sym is)
