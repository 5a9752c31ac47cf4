-- Lines that refute arcs, as they are gone over.
use Rattle.std.proofs.Common.{◌≡◌, refl, sym, ap, ◌∙◌, subst, ℕ, zero, suc, ◌<◌, ◌≤◌, ◌+◌, arith, ◌≤ℤ◌, ⊎_elim, ◌⊎◌, inl, inr, List, [], ◌∷◌, ◌++◌, length}
use Rattle.std.proofs.Common.{drop, get_or, Bool, true, false, append_assoc, Option, None, Some, slice_get}
use Rattle.std.specs.List.{All, Contains}
use Rattle.std.specs.Option.{option_to_list}
use Rattle.std.proofs.lemmas.List.{drop_all, drop_more}
use Rattle.std.proofs.lemmas.Option.{slice_get_read}
use Rattle.std.proofs.lemmas.Bool.{cases_eq}
use Rattle.std.proofs.lemmas.Int.{ints}
use Rattle.std.proofs.lemmas.List.Elements.{Contains-append_cases, Contains-append_left, Contains-append_right}
use Rattle.network.specs.declared.parts.Lag.{Lag}
use Rattle.network.specs.Problem.{Problem}
use Rattle.network.specs.Walk.{IsWalk, weight, HasPositiveCycle, HasNoPositiveCycle}
use Rattle.network.proofs.Walks.{IsWalk-append, weight-append}
use Rattle.lemma_proof.proofs.Implying.{IsWalk-part, implied_arc}
use Rattle.lemma_proof.specs.Reasons.{Implies, reverse_of}
use Rattle.lemma_proof.specs.declared.line.Line.{Line}
use Rattle.lemma_proof.specs.declared.line.Line.TheVariants.{Force, Use, Push}
use Rattle.lemma_proof.specs.declared.line.WindowOverload.{WindowOverload}
use Rattle.lemma_proof.specs.Lines.{AreRefuted, IsArc, IsPushed, IsRefuted, IsUse, Shows, Slots, picked}
use Rattle.lemma_proof.specs.Bench.{BenchOf, Holds}
use Rattle.lemma_proof.specs.Stepping.{Steps, noted}
use Rattle.lemma_proof.proofs.Held.{cycle_there, none_there, not_both}
use Rattle.lemma_proof.proofs.Staying.{Gives, cycle_given, have_used, refuted_given}

-- ---- A line shows one arc, or one that closes a walk of positive weight.

-- the reverse of an arc that is implied closes one
cycle_reverse : (arcs : List Lag) (g : Lag) → Implies arcs g → HasPositiveCycle (arcs ++ reverse_of g ∷ [])
cycle_reverse arcs g i =
    let back : Lag = reverse_of g in
    let all : List Lag = arcs ++ back ∷ [] in
    let first : IsWalk all g.from i.walk g.to = IsWalk-part arcs all g.from g.to i.walk (λ e c. Contains-append_left arcs (back ∷ []) e c) i.goes in
    let there : Contains all back = Contains-append_right arcs (back ∷ []) back (0, omega arith, refl) in
    let closed : IsWalk all g.from (i.walk ++ back ∷ []) g.from = IsWalk-append all g.from g.to g.from i.walk (back ∷ []) first (there, refl, refl) in
    let weighs : g.weight ≤ℤ weight i.walk = i.weighs in
    (g.from, i.walk ++ back ∷ [], record { closed = closed; positive = omega (arith, ints, weight-append i.walk (back ∷ [])) })

same_lemma : (xs ys : List Lag) → Some (Some xs) ≡ Some (Some ys) → xs ≡ ys
same_lemma xs ys e = cc

same_arc : (x y : Lag) → Some x ≡ Some y → x ≡ y
same_arc x y e = cc

one_used : (lemmas : Slots) (arcs : List Lag) (slot : ℕ) (e f : Lag) → IsUse lemmas arcs slot e
    → IsUse lemmas arcs slot f → (e ≡ f) ⊎ HasPositiveCycle (arcs ++ e ∷ [])
one_used lemmas arcs slot e f u v =
    let same : u.lemma ≡ v.lemma = same_lemma u.lemma v.lemma (sym u.found ∙ v.found) in
    let at : slice_get v.lemma u.is_left.place ≡ Some u.left = subst (λ (l : List Lag). slice_get l u.is_left.place ≡ Some u.left) same u.is_left.is in
    ⊎_elim
    (λ (place : u.is_left.place ≡ v.is_left.place).
    let both : Some u.left ≡ Some v.left = sym at ∙ rw place v.is_left.is in
    inl (u.reverse ∙ ap reverse_of (same_arc u.left v.left both) ∙ sym v.reverse))
    (λ (other : u.is_left.place ≡ v.is_left.place → ⊥).
    inr (rw u.reverse (cycle_reverse arcs u.left (v.is_left.others u.is_left.place u.left at other))))
    (cases_eq u.is_left.place v.is_left.place)

one_pushed : (p : Problem) (lemmas : Slots) (arcs : List Lag) (arc : Option Lag) (over : WindowOverload) (e f : Lag)
    → IsPushed p lemmas arcs arc over e → IsPushed p lemmas arcs arc over f → e ≡ f
one_pushed p lemmas arcs None over e f x y = x.1 ∙ sym y.1
one_pushed p lemmas arcs (Some g) over e f x y = x.2 ∙ sym y.2

one_shown : (p : Problem) (lemmas : Slots) (arcs : List Lag) (line : Line) (e f : Lag) → Shows p lemmas arcs line e
    → Shows p lemmas arcs line f → (e ≡ f) ⊎ HasPositiveCycle (arcs ++ e ∷ [])
one_shown p lemmas arcs (Force pair) e f x y = inl (x.1 ∙ sym y.1)
one_shown p lemmas arcs (Use slot) e f x y = one_used lemmas arcs slot e f x y
one_shown p lemmas arcs (Push arc over) e f x y = inl (one_pushed p lemmas arcs arc over e f x y)

-- ---- Beside the first lines.

pub cycle_refutes : (p : Problem) (lemmas : Slots) (arcs : List Lag) (lines : List Line) → HasPositiveCycle arcs → AreRefuted p lemmas arcs lines
cycle_refutes p lemmas arcs [] cycle = cycle
cycle_refutes p lemmas arcs (line ∷ lines) cycle = inl cycle

-- an arc that is implied gives nothing
gives_one : (arcs : List Lag) (e : Lag) → Implies arcs e → Gives arcs (arcs ++ e ∷ [])
gives_one arcs e i f c =
    ⊎_elim
    (λ (old : Contains arcs f). implied_arc arcs f old)
    (λ (last : Contains (e ∷ []) f). rw (is_last e f last) i)
    (Contains-append_cases arcs (e ∷ []) f c)
  where
    is_last : (e f : Lag) → Contains (e ∷ []) f → f ≡ e
    is_last e f (zero, lt, is) = sym is
    is_last e f (suc k, lt, is) = absurd (omega (arith, lt))

pub gives_part : (arcs : List Lag) (e : Lag) → Gives (arcs ++ e ∷ []) arcs
gives_part arcs e f c = implied_arc (arcs ++ e ∷ []) f (Contains-append_left arcs (e ∷ []) f c)

-- what the rest of the lines refutes once the first i have been gone over, and what those of these that are used do
pub record Leads (p : Problem) (lemmas : Slots) (all : List Lag) (lines : List Line) (i : ℕ) (used : List ℕ) (now : List Lag) : Type 0 where
  pub forth : AreRefuted p lemmas all lines → AreRefuted p lemmas now (drop i lines)
  pub back : AreRefuted p lemmas now (drop i lines) → AreRefuted p lemmas all lines
  pub short : (rest : List Line) → AreRefuted p lemmas now rest → AreRefuted p lemmas all (picked lines used ++ rest)

pub leads_first : (p : Problem) (lemmas : Slots) (all : List Lag) (lines : List Line) → Leads p lemmas all lines 0 [] all
leads_first p lemmas all lines = record { forth = λ r. r; back = λ r. r; short = λ rest r. r }

pub leads_same : (p : Problem) (lemmas : Slots) (all : List Lag) (lines : List Line) (i : ℕ) (used : List ℕ)
    (now : List Lag) (line : Line) (e : Lag) → drop i lines ≡ line ∷ drop (i + 1) lines → Shows p lemmas now line e
    → Implies now e → Leads p lemmas all lines i used now → Leads p lemmas all lines (i + 1) used now
leads_same p lemmas all lines i used now line e at shown implied leads = record {
  forth = λ refuted. first (rw at at (leads.forth refuted));
  back = λ refuted. leads.back (rw at (inr (
    e,
    shown,
    refuted_given p lemmas lemmas now (now ++ e ∷ []) (drop (i + 1) lines)
        (have_used lemmas lemmas (λ slot lemma found. found) (drop (i + 1) lines)) (gives_part now e) refuted,
  )));
  short = leads.short;
}
  where
    first : AreRefuted p lemmas now (line ∷ drop (i + 1) lines) → AreRefuted p lemmas now (drop (i + 1) lines)
    first refuted =
        ⊎_elim
        (λ (cycle : HasPositiveCycle now). cycle_refutes p lemmas now (drop (i + 1) lines) cycle)
        (λ (next : (f : Lag) × Shows p lemmas now line f × AreRefuted p lemmas (now ++ f ∷ []) (drop (i + 1) lines)).
        ⊎_elim
        (λ (same : e ≡ next.0). refuted_given p lemmas lemmas (now ++ next.0 ∷ []) now (drop (i + 1) lines)
        (have_used lemmas lemmas (λ slot lemma found. found) (drop (i + 1) lines))
        (gives_one now next.0 (rw (sym same) implied)) next.2)
        (λ (cycle : HasPositiveCycle (now ++ e ∷ [])).
        cycle_refutes p lemmas now (drop (i + 1) lines)
        (cycle_given (now ++ e ∷ []) now (gives_one now e implied) cycle))
        (one_shown p lemmas now line e next.0 shown next.1))
        refuted

pub leads_more : (p : Problem) (lemmas : Slots) (all : List Lag) (lines : List Line) (i : ℕ) (used : List ℕ)
    (now : List Lag) (line : Line) (e : Lag) → drop i lines ≡ line ∷ drop (i + 1) lines
    → picked lines (used ++ i ∷ []) ≡ picked lines used ++ line ∷ [] → Shows p lemmas now line e
    → Leads p lemmas all lines i used now → Leads p lemmas all lines (i + 1) (used ++ i ∷ []) (now ++ e ∷ [])
leads_more p lemmas all lines i used now line e at pick shown leads = record {
  forth = λ refuted. first (rw at at (leads.forth refuted));
  back = λ refuted. leads.back (rw at (inr (e, shown, refuted)));
  short = λ rest refuted.
      let here : AreRefuted p lemmas all (picked lines used ++ (line ∷ rest)) = leads.short (line ∷ rest) (inr (e, shown, refuted)) in
      let joined : (picked lines used ++ line ∷ []) ++ rest ≡ picked lines used ++ (line ∷ rest) = append_assoc (picked lines used) (line ∷ []) rest in
      rw (pick, joined) here;
}
  where
    first : AreRefuted p lemmas now (line ∷ drop (i + 1) lines) → AreRefuted p lemmas (now ++ e ∷ []) (drop (i + 1) lines)
    first refuted =
        ⊎_elim
        (λ (cycle : HasPositiveCycle now). cycle_refutes p lemmas (now ++ e ∷ []) (drop (i + 1) lines)
        (cycle_given now (now ++ e ∷ []) (gives_part now e) cycle))
        (λ (next : (f : Lag) × Shows p lemmas now line f × AreRefuted p lemmas (now ++ f ∷ []) (drop (i + 1) lines)).
        ⊎_elim
        (λ (same : e ≡ next.0). rw same next.2)
        (λ (cycle : HasPositiveCycle (now ++ e ∷ [])). cycle_refutes p lemmas (now ++ e ∷ []) (drop (i + 1) lines) cycle)
        (one_shown p lemmas now line e next.0 shown next.1))
        refuted

-- ---- the answers

pub leads_nowhere : (p : Problem) (lemmas : Slots) (all : List Lag) (lines : List Line) (i : ℕ) (used : List ℕ)
    (now : List Lag) (line : Line) → drop i lines ≡ line ∷ drop (i + 1) lines → HasNoPositiveCycle now
    → ((e : Lag) → ¬ Shows p lemmas now line e) → Leads p lemmas all lines i used now → ¬ AreRefuted p lemmas all lines
leads_nowhere p lemmas all lines i used now line at live never leads refuted =
    let here : AreRefuted p lemmas now (line ∷ drop (i + 1) lines) = rw at at (leads.forth refuted) in
    ⊎_elim
    (λ (cycle : HasPositiveCycle now). not_both now live cycle)
    (λ (next : (f : Lag) × Shows p lemmas now line f × AreRefuted p lemmas (now ++ f ∷ []) (drop (i + 1) lines)). never next.0 next.1)
    here

pub leads_dead : (p : Problem) (lemmas : Slots) (all : List Lag) (lines : List Line) (i : ℕ) (used : List ℕ)
    (now : List Lag) → HasPositiveCycle now → Leads p lemmas all lines i used now → AreRefuted p lemmas all lines
    × AreRefuted p lemmas all (picked lines used)
leads_dead p lemmas all lines i used now cycle leads = (
  leads.back (cycle_refutes p lemmas now (drop i lines) cycle),
  let short : AreRefuted p lemmas all (picked lines used ++ []) = leads.short [] cycle in subst (AreRefuted p lemmas all) (none_more (picked lines used)) short,
)
  where
    none_more : (xs : List Line) → xs ++ [] ≡ xs
    none_more [] = refl
    none_more (x ∷ xs) = ap (λ (t : List Line). x ∷ t) (none_more xs)

pub leads_live : (p : Problem) (lemmas : Slots) (all : List Lag) (lines : List Line) (i : ℕ) (used : List ℕ)
    (now : List Lag) → drop i lines ≡ [] → HasNoPositiveCycle now → Leads p lemmas all lines i used now
    → ¬ AreRefuted p lemmas all lines
leads_live p lemmas all lines i used now at live leads refuted =
    let here : AreRefuted p lemmas now [] = rw at at (leads.forth refuted) in
    not_both now live here

-- ---- on the bench

-- the arcs on the bench are those of the lemma and what the used lines show
pub record IsOver (p : Problem) (lemmas : Slots) (own arcs : List Lag) (lines : List Line) (i : ℕ) (used : List ℕ) (x : BenchOf) : Type 0 where
  pub now : List Lag
  pub holds : Holds own now x
  pub leads : Leads p lemmas (own ++ arcs) lines i used (own ++ now)

pub over_first : (p : Problem) (lemmas : Slots) (own arcs : List Lag) (lines : List Line) (x : BenchOf)
    → Holds own arcs x → IsOver p lemmas own arcs lines 0 [] x
over_first p lemmas own arcs lines x h = record { now = arcs; holds = h; leads = leads_first p lemmas (own ++ arcs) lines }

line_there : (lines : List Line) (i : ℕ) (line : Line) → i < length lines → line ≡ get_or lines i line → drop i lines ≡ line ∷ drop (i + 1) lines
line_there lines i line lt is = drop_more lines i line lt ∙ ap (λ (l : Line). l ∷ drop (i + 1) lines) (sym is)

picked_more : (lines : List Line) (used : List ℕ) (i : ℕ) (line : Line) → slice_get lines i ≡ Some line
    → picked lines (used ++ i ∷ []) ≡ picked lines used ++ line ∷ []
picked_more lines [] i line at = rw at refl
picked_more lines (k ∷ used) i line at =
    ap (λ (rest : List Line). option_to_list (slice_get lines k) ++ rest) (picked_more lines used i line at)
    ∙ sym (append_assoc (option_to_list (slice_get lines k)) (picked lines used) (line ∷ []))

pub over_same : (p : Problem) (lemmas : Slots) (own arcs : List Lag) (lines : List Line) (i : ℕ) (used : List ℕ)
    (x new : BenchOf) (line : Line) → i < length lines → line ≡ get_or lines i line
    → IsOver p lemmas own arcs lines i used x
    → ((own now : List Lag) → Holds own now x → Steps p lemmas line own now new (Some false))
    → IsOver p lemmas own arcs lines (i + 1) used new
over_same p lemmas own arcs lines i used x new line lt is over steps =
    let step = steps own over.now over.holds in
    record {
      now = over.now;
      holds = step.3;
      leads =
          leads_same p lemmas (own ++ arcs) lines i used (own ++ over.now) line step.0 (line_there lines i line lt is)
          step.1 step.2 over.leads;
    }

pub over_more : (p : Problem) (lemmas : Slots) (own arcs : List Lag) (lines : List Line) (i : ℕ) (used : List ℕ)
    (x new : BenchOf) (line : Line) → i < length lines → line ≡ get_or lines i line
    → IsOver p lemmas own arcs lines i used x
    → ((own now : List Lag) → Holds own now x → Steps p lemmas line own now new (Some true))
    → IsOver p lemmas own arcs lines (i + 1) (used ++ i ∷ []) new
over_more p lemmas own arcs lines i used x new line lt is over steps =
    let step = steps own over.now over.holds in
    let leads : Leads p lemmas (own ++ arcs) lines (i + 1) (used ++ i ∷ []) ((own ++ over.now) ++ step.0 ∷ []) =
    leads_more p lemmas (own ++ arcs) lines i used (own ++ over.now) line step.0 (line_there lines i line lt is)
    (picked_more lines used i line (slice_get_read lines (length lines) i line refl lt is)) step.1 over.leads in
    record {
      now = over.now ++ step.0 ∷ [];
      holds = step.2;
      leads =
          subst (λ (all : List Lag). Leads p lemmas (own ++ arcs) lines (i + 1) (used ++ i ∷ []) all)
          (append_assoc own over.now (step.0 ∷ [])) leads;
    }

pub over_nowhere : (p : Problem) (lemmas : Slots) (own arcs : List Lag) (lines : List Line) (i : ℕ) (used : List ℕ)
    (x new : BenchOf) (line : Line) → i < length lines → line ≡ get_or lines i line → x.is_infeasible ≡ false
    → IsOver p lemmas own arcs lines i used x
    → ((own now : List Lag) → Holds own now x → Steps p lemmas line own now new None)
    → ¬ IsRefuted p lemmas own arcs lines
over_nowhere p lemmas own arcs lines i used x new line lt is live over steps refuted =
    leads_nowhere p lemmas (own ++ arcs) lines i used (own ++ over.now) line (line_there lines i line lt is)
    (none_there own over.now x live over.holds) (steps own over.now over.holds) over.leads refuted.refuted

pub over_dead : (p : Problem) (lemmas : Slots) (own arcs : List Lag) (lines : List Line) (i : ℕ) (used : List ℕ)
    (x : BenchOf) → All (IsArc p) arcs → x.is_infeasible ≡ true → IsOver p lemmas own arcs lines i used x
    → IsRefuted p lemmas own arcs lines × IsRefuted p lemmas own arcs (picked lines used)
over_dead p lemmas own arcs lines i used x are dead over =
    let both = leads_dead p lemmas (own ++ arcs) lines i used (own ++ over.now) (cycle_there own over.now x dead over.holds) over.leads in
    (record { are_arcs = are; refuted = both.0 }, record { are_arcs = are; refuted = both.1 })

pub over_live : (p : Problem) (lemmas : Slots) (own arcs : List Lag) (lines : List Line) (i : ℕ) (used : List ℕ)
    (x : BenchOf) → length lines ≤ i → x.is_infeasible ≡ false → IsOver p lemmas own arcs lines i used x
    → ¬ IsRefuted p lemmas own arcs lines
over_live p lemmas own arcs lines i used x past live over refuted =
    leads_live p lemmas (own ++ arcs) lines i used (own ++ over.now) (drop_all i lines past)
    (none_there own over.now x live over.holds) over.leads refuted.refuted

pub over_next : (p : Problem) (lemmas : Slots) (own arcs : List Lag) (lines : List Line) (i : ℕ) (used : List ℕ)
    (x new : BenchOf) (line : Line) (is_new : Bool) → i < length lines → line ≡ get_or lines i line
    → IsOver p lemmas own arcs lines i used x
    → ((own now : List Lag) → Holds own now x → Steps p lemmas line own now new (Some is_new))
    → IsOver p lemmas own arcs lines (i + 1) (noted used i is_new) new
over_next p lemmas own arcs lines i used x new line true lt is over steps = over_more p lemmas own arcs lines i used x new line lt is over steps
over_next p lemmas own arcs lines i used x new line false lt is over steps = over_same p lemmas own arcs lines i used x new line lt is over steps
