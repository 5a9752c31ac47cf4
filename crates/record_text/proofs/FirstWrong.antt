-- A record with a first fault is not right, and has no other.
use Rattle.std.proofs.Common.{subst, ◌≡◌, ℕ, ◌+◌, List, [], ◌∷◌, ◌++◌, length, refl, sym, ap, ◌∙◌, arith, inl, inr, ◌≢◌, Err}
use Rattle.std.specs.List.{All}
use Rattle.std.proofs.lemmas.List.Elements.{All-head, All-tail}
use Rattle.record_text.specs.declared.fault.RecordFault.{RecordFault}
use Rattle.record_text.specs.declared.fault.RecordFaultKind.{RecordFaultKind}
use Rattle.network.specs.Problem.{Problem}
use Rattle.record_text.specs.declared.fault.RecordFaultKind.TheVariants as why
use Rattle.record_text.specs.Kinds.{RecordOf, Kind}
use Rattle.record_text.specs.FirstWrong.{IsFirstWrongOf, Judge, IsFirstFaultBy, FaultIsWrong, OtherFaultIsNone, IsVerdict}

pub all_right : {X : Type 0} (P : X → Type 0) (xs ys : List X) → All P (xs ++ ys) → All P ys
all_right P [] ys h = h
all_right P (x ∷ xs) ys h = all_right P xs ys (All-tail P x (xs ++ ys) h)

pub wrong_place : {Place : Type 0} (P : Place → Type 0) (why_wrong : Place → RecordFaultKind) (first : ℕ)
    (places : List Place) (fault : RecordFault) → IsFirstWrongOf P why_wrong first places fault → ¬ All P places
wrong_place {Place} P why_wrong first places fault found right =
    let all : All P (found.before ++ found.here ∷ found.behind) = rw found.placed at right in
    found.wrong (All-head P found.here found.behind (all_right P found.before (found.here ∷ found.behind) all))

-- ---- one first place

record SamePlace {Place : Type 0} (xs ys : List Place) (x y : Place) : Type 0 where
  fronts : length xs ≡ length ys
  heres : x ≡ y

one_place : {Place : Type 0} (P : Place → Type 0) (xs ys : List Place) (x y : Place) (us vs : List Place)
    → xs ++ x ∷ us ≡ ys ++ y ∷ vs → All P xs → All P ys → ¬ P x → ¬ P y → SamePlace xs ys x y
one_place P [] [] x y us vs same all_x all_y no_x no_y = record { fronts = refl; heres = cc }
one_place P [] (b ∷ ys) x y us vs same all_x all_y no_x no_y = let is : b ≡ x = cc in absurd (no_x (subst P is (All-head P b ys all_y)))
one_place P (a ∷ xs) [] x y us vs same all_x all_y no_x no_y = let is : a ≡ y = cc in absurd (no_y (subst P is (All-head P a xs all_x)))
one_place P (a ∷ xs) (b ∷ ys) x y us vs same all_x all_y no_x no_y =
    let others : xs ++ x ∷ us ≡ ys ++ y ∷ vs = cc in
    let s = one_place P xs ys x y us vs others (All-tail P a xs all_x) (All-tail P b ys all_y) no_x no_y in
    record { fronts = omega (arith, s.fronts); heres = s.heres }

abbrev pub fault_at : ℕ → RecordFaultKind → RecordFault
fault_at line why = record { line = line; kind = why }

pub one_wrong : {Place : Type 0} (P : Place → Type 0) (why_wrong : Place → RecordFaultKind) (first : ℕ)
    (xs ys : List Place) (a b : RecordFault) → xs ≡ ys → IsFirstWrongOf P why_wrong first xs a
    → IsFirstWrongOf P why_wrong first ys b → a ≡ b
one_wrong {Place} P why_wrong first xs ys a b is f g =
    let same : f.before ++ f.here ∷ f.behind ≡ g.before ++ g.here ∷ g.behind = sym f.placed ∙ is ∙ g.placed in
    let s = one_place P f.before g.before f.here g.here f.behind g.behind same f.right g.right f.wrong g.wrong in
    let line : a.line ≡ b.line = f.line ∙ ap (λ n. first + n) s.fronts ∙ sym g.line in
    let why : a.kind ≡ b.kind = f.kind ∙ ap why_wrong s.heres ∙ sym g.kind in
    ap (λ (n : ℕ). fault_at n a.kind) line ∙ ap (λ (w : RecordFaultKind). fault_at b.line w) why

pub fault_is_wrong : {Claim Line : Type 0} (j : Judge Claim Line)
    → ((p : Problem) (claim : Claim) (lines : List Line) (fault : RecordFault) → j.IsFirstWrong p claim lines fault
    → ¬ j.AreRightLines p claim lines) → FaultIsWrong j
fault_is_wrong j wrong p r fault (inl starts) right = starts.wrong right.starts
fault_is_wrong j wrong p r fault (inr found) right = wrong p r.claim r.lines fault found.first right.lines

pub other_is_none : {Claim Line : Type 0} (j : Judge Claim Line)
    → ((p : Problem) (claim : Claim) (lines : List Line) (a b : RecordFault) → j.IsFirstWrong p claim lines a
    → j.IsFirstWrong p claim lines b → a ≡ b) → OtherFaultIsNone j
other_is_none j one p r a b (inl s) (inl t) = s.is ∙ sym t.is
other_is_none j one p r a b (inl s) (inr g) = absurd (s.wrong g.starts)
other_is_none j one p r a b (inr f) (inl t) = absurd (t.wrong f.starts)
other_is_none j one p r a b (inr f) (inr g) = one p r.claim r.lines a b f.first g.first

-- ---- a verdict

pub is_memory : (w : RecordFaultKind) → (w ≢ why.Memory → ⊥) → w ≡ why.Memory
is_memory why.Memory h = refl
is_memory w h = absurd (h (λ e. cc))

pub refused : {Claim Line : Type 0} (k : Kind Claim Line) (j : Judge Claim Line) → FaultIsWrong j
    → (p : Problem) (r : RecordOf Claim Line) (fault : RecordFault)
    → (fault.kind ≢ why.Memory → IsFirstFaultBy j p r fault) → IsVerdict k j p r (Err fault)
refused k j wrong p r fault found = record {
  right = tt;
  proved = tt;
  holds = tt;
  fault = found;
  only = λ right. is_memory fault.kind (λ known. wrong p r fault (found known) right);
}
