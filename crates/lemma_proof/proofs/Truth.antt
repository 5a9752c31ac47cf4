-- What a line shows is met, so refuted arcs are not all met.
use Rattle.std.proofs.Common.{ℕ, List, [], get_or, arith, ℤ, pos, ◌+ℤ◌, ◌-ℤ◌, ◌≤ℤ◌, ◌≡◌, sym, ◌∙◌, subst, ⊎_elim, ◌⊎◌, inl, inr, ◌∷◌, ◌++◌, Option, None, Some}
use Rattle.std.proofs.Common.{slice_get}
use Rattle.std.specs.List.{All, Contains}
use Rattle.std.proofs.lemmas.Bool.{cases_eq}
use Rattle.std.proofs.lemmas.Int.{ints, by_lt_z}
use Rattle.std.proofs.lemmas.List.Elements.{All-contains, All-from_get_or, Contains-push_cases}
use Rattle.std.proofs.lemmas.Option.{slice_get-get_or}
use Rattle.network.specs.declared.parts.Lag.{Lag}
use Rattle.network.specs.declared.parts.Pair.{Pair}
use Rattle.network.specs.Problem.{Problem, duration, pair_arc}
use Rattle.network.specs.Schedule.{start, Meets, IsFeasible}
use Rattle.network.specs.Walk.{weight, HasPositiveCycle}
use Rattle.network.proofs.Schedules.{walk_holds}
use Rattle.longest_path.specs.Insert.{arc_of}
use Rattle.forbidden_sets.proofs.Apart.{apart}
use Rattle.lemma_proof.specs.Reasons.{Implies, reverse_of}
use Rattle.lemma_proof.proofs.Weighing.{MeetsAll, implied_met}
use Rattle.lemma_proof.proofs.Windows.{load_refuted, clique_refuted}
use Rattle.lemma_proof.proofs.Touring.{tour_refuted}
use Rattle.lemma_proof.specs.declared.line.Line.{Line}
use Rattle.lemma_proof.specs.declared.line.Line.TheVariants.{Force, Use, Push}
use Rattle.lemma_proof.specs.declared.line.WindowOverload.{WindowOverload}
use Rattle.lemma_proof.specs.declared.line.WindowOverload.TheVariants.{Load, Clique, Tour}
use Rattle.lemma_proof.specs.Lines.{AreRefuted, IsForced, IsLeft, IsOverload, IsPushed, IsUse, MeetsNone, NoneMeetsRefuted, Shows, Slots}

cycle_refuted : (arcs : List Lag) (s : List ℤ) → HasPositiveCycle arcs → MeetsAll s arcs → ⊥
cycle_refuted arcs s cycle met =
    let h : (start s cycle.0 +ℤ weight cycle.1) ≤ℤ start s cycle.0 = walk_holds arcs s met cycle.0 cycle.0 cycle.1 cycle.2.closed in
    omega (arith, ints)

pub meets_more : (s : List ℤ) (arcs : List Lag) (e : Lag) → MeetsAll s arcs → Meets s e → MeetsAll s (arcs ++ e ∷ [])
meets_more s arcs e met here f c = ⊎_elim (λ (old : Contains arcs f). met f old) (λ (is : e ≡ f). subst (Meets s) is here) (Contains-push_cases arcs e f c)

forced_met : (p : Problem) (arcs : List Lag) (pair : Pair) (s : List ℤ) → IsForced p arcs pair → IsFeasible p s → MeetsAll s arcs → Meets s (pair_arc p pair)
forced_met p arcs pair s forced feasible met =
    let i = pair.before in
    let j = pair.after in
    let late : (start s i +ℤ (pos 1 -ℤ duration p j)) ≤ℤ start s j = implied_met arcs s met (arc_of i j (pos 1 -ℤ duration p j)) forced.too_late in
    by_lt_z (start s j) (start s i +ℤ duration p i)
    (λ early. absurd (apart p s pair feasible forced.incompatible (omega (arith, ints)) early))
    (λ kept. kept)

-- an arc or its reverse is met
either_met : (s : List ℤ) (e : Lag) → Meets s e ⊎ Meets s (reverse_of e)
either_met s e =
    by_lt_z (start s e.to) (start s e.from +ℤ e.weight)
    (λ less. inr (omega (arith, ints)))
    (λ kept. inl kept)

-- a lemma of which all arcs are met but one at most, and that one too
all_met : (arcs lemma : List Lag) (e : Lag) (s : List ℤ) → IsLeft arcs lemma e → MeetsAll s arcs → Meets s e → All (Meets s) lemma
all_met arcs lemma e s left met here =
    All-from_get_or (Meets s) lemma e (λ i lt.
    let at : slice_get lemma i ≡ Some (get_or lemma i e) = slice_get-get_or lemma i e lt in
    ⊎_elim
    (λ (same : i ≡ left.place). let both : Some (get_or lemma i e) ≡ Some e = sym at ∙ rw same left.is in let is : get_or lemma i e ≡ e = cc in rw is here)
    (λ (other : i ≡ left.place → ⊥). implied_met arcs s met (get_or lemma i e) (left.others i (get_or lemma i e) at other))
    (cases_eq i left.place))

use_met : (lemmas : Slots) (arcs : List Lag) (slot : ℕ) (e : Lag) (s : List ℤ) → IsUse lemmas arcs slot e → MeetsNone s lemmas → MeetsAll s arcs → Meets s e
use_met lemmas arcs slot e s used none met =
    ⊎_elim
    (λ (all : Meets s used.left). absurd (none slot used.lemma used.found (all_met arcs used.lemma used.left s used.is_left met all)))
    (λ (back : Meets s (reverse_of used.left)). rw used.reverse back)
    (either_met s used.left)

overload_refuted : (p : Problem) (lemmas : Slots) (arcs : List Lag) (over : WindowOverload) (s : List ℤ)
    → IsOverload p lemmas arcs over → IsFeasible p s → MeetsNone s lemmas → MeetsAll s arcs → ⊥
overload_refuted p lemmas arcs (Load resource from to) s over feasible none met = load_refuted p arcs resource from to s over.1 feasible met
overload_refuted p lemmas arcs (Clique from to members) s over feasible none met = clique_refuted p arcs from to members s over.1 feasible met
overload_refuted p lemmas arcs (Tour from to intervals) s over feasible none met =
    tour_refuted p lemmas arcs from to intervals s over.1 feasible none met

pushed_met : (p : Problem) (lemmas : Slots) (arcs : List Lag) (arc : Option Lag) (over : WindowOverload) (e : Lag)
    (s : List ℤ) → IsPushed p lemmas arcs arc over e → IsFeasible p s → MeetsNone s lemmas → MeetsAll s arcs → Meets s e
pushed_met p lemmas arcs None over e s pushed feasible none met = absurd (overload_refuted p lemmas arcs over s pushed.0 feasible none met)
pushed_met p lemmas arcs (Some f) over e s pushed feasible none met =
    let here : Meets s f = ⊎_elim
    (λ (implied : Implies arcs f). implied_met arcs s met f implied)
    (λ (ends : IsOverload p lemmas (arcs ++ reverse_of f ∷ []) over).
    ⊎_elim
    (λ (kept : Meets s f). kept)
    (λ (back : Meets s (reverse_of f)). absurd
    (overload_refuted p lemmas (arcs ++ reverse_of f ∷ []) over s ends feasible none
    (meets_more s arcs (reverse_of f) met back)))
    (either_met s f))
    pushed.1 in
    rw pushed.2 here

shown_met : (p : Problem) (lemmas : Slots) (arcs : List Lag) (line : Line) (e : Lag) (s : List ℤ)
    → Shows p lemmas arcs line e → IsFeasible p s → MeetsNone s lemmas → MeetsAll s arcs → Meets s e
shown_met p lemmas arcs (Force pair) e s shown feasible none met = rw shown.1 (forced_met p arcs pair s shown.0 feasible met)
shown_met p lemmas arcs (Use slot) e s shown feasible none met = use_met lemmas arcs slot e s shown none met
shown_met p lemmas arcs (Push arc over) e s shown feasible none met = pushed_met p lemmas arcs arc over e s shown feasible none met

refuted_unmet : (p : Problem) (lemmas : Slots) (arcs : List Lag) (lines : List Line) (s : List ℤ)
    → AreRefuted p lemmas arcs lines → IsFeasible p s → MeetsNone s lemmas → MeetsAll s arcs → ⊥
refuted_unmet p lemmas arcs [] s refuted feasible none met = cycle_refuted arcs s refuted met
refuted_unmet p lemmas arcs (line ∷ lines) s refuted feasible none met =
    ⊎_elim
    (λ (cycle : HasPositiveCycle arcs). cycle_refuted arcs s cycle met)
    (λ (more : (e : Lag) × Shows p lemmas arcs line e × AreRefuted p lemmas (arcs ++ e ∷ []) lines).
    refuted_unmet p lemmas (arcs ++ more.0 ∷ []) lines s more.2 feasible none
    (meets_more s arcs more.0 met (shown_met p lemmas arcs line more.0 s more.1 feasible none met)))
    refuted

pub none_meets_refuted : NoneMeetsRefuted
none_meets_refuted p lemmas arcs lines refuted s feasible none met =
    refuted_unmet p lemmas arcs lines s refuted feasible none (λ e c. All-contains (Meets s) arcs e met c)
