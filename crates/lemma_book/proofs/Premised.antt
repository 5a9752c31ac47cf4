-- Premises stay premises, and what lines refute beside some they refute beside those that cover them.
use Rattle.std.proofs.Common.{Bool, true, false, ◌&&◌, ◌==◌, ◌≡◌, sym, ap, ◌∙◌, subst, ℕ, ℤ, arith, ◌++◌, ◌∷◌, [], List, append_assoc, slice_set, Option, None, Some, ⊎_elim}
use Rattle.std.specs.List.{All, Contains}
use Rattle.std.specs.Bool.{Decides}
use Rattle.std.specs.Ordering.{int_eq}
use Rattle.std.proofs.lemmas.Bool.{and_parts, eqb-true}
use Rattle.std.proofs.lemmas.Int.{ints}
use Rattle.network.specs.Equality.{lag_eq, lag_eq_equiv}
use Rattle.std.proofs.lemmas.List.Elements.{All-push, Contains-append_cases, Contains-append_left, Contains-append_right}
use Rattle.network.specs.declared.parts.Lag.{Lag}
use Rattle.network.specs.Problem.{Problem, activity_count, rules}
use Rattle.network.specs.Walk.{HasPositiveCycle}
use Rattle.lemma_proof.specs.Heads.{IsLight}
use Rattle.lemma_proof.proofs.Existing.{cycle_part}
use Rattle.lemma_proof.proofs.Implying.{implied_arc}
use Rattle.lemma_proof.specs.declared.line.Line.{Line}
use Rattle.lemma_proof.specs.Bench.{BenchOf}
use Rattle.lemma_proof.specs.Slots.{LetsGo}
use Rattle.lemma_proof.specs.Lines.{IsArc, IsIn, IsRefuted, Slots}
use Rattle.lemma_proof.proofs.Refuting.{cycle_refutes}
use Rattle.lemma_proof.proofs.Staying.{Gives, refuted_given}
use Rattle.lemma_book.specs.Ledger.{IsRootMatrixOf, first_roots, with_slot}
use Rattle.lemma_book.specs.Premises.{ArePremises, Covers, Empties, PremisesOf, premises_of, root_arcs, with_roots}
use Rattle.lemma_proof.proofs.Slotted.{in_emptied, in_shelved}

pub first_are : (p : Problem) (roots : List Lag) (lemmas : Slots) (bench : Option BenchOf) → roots ≡ first_roots p
    → lemmas ≡ [] → All (IsLight (activity_count p)) roots → IsRootMatrixOf p (rules p ++ first_roots p) bench
    → ArePremises (premises_of p roots lemmas) bench
first_are p roots lemmas bench roots_are lemmas_are light root = record {
  lemmas = rw lemmas_are (λ slot lemma found. absurd (nothing slot lemma found));
  light = light;
  root = rw roots_are root;
}
  where
    nothing : (slot : ℕ) (lemma : List Lag) → IsIn [] slot lemma → ⊥
    nothing slot lemma found = cc

-- ---- an arc more in the root

pub with_root_are : (x : PremisesOf) (bench new : Option BenchOf) (arc : Lag) → ArePremises x bench
    → IsLight (activity_count x.project) arc → IsRootMatrixOf x.project (root_arcs x ++ arc ∷ []) new
    → ArePremises (with_roots x (arc ∷ [])) new
with_root_are x bench new arc are light root = record {
  lemmas = are.lemmas;
  light = All-push (IsLight (activity_count x.project)) x.roots arc are.light light;
  root = subst (λ (own : List Lag). IsRootMatrixOf x.project own new) (append_assoc (rules x.project) x.roots (arc ∷ [])) root;
}

-- what closes a walk of positive weight still does
pub root_none : (own more : List Lag) → HasPositiveCycle own → HasPositiveCycle (own ++ more)
root_none own more cycle = cycle_part own (own ++ more) (λ e c. Contains-append_left own more e c) cycle

-- ---- lemmas

pub shelved_are : (x : PremisesOf) (bench : Option BenchOf) (slot : ℕ) (arcs : List Lag) → ArePremises x bench
    → All (IsArc x.project) arcs → ArePremises
    (record x { lemmas = slice_set (with_slot x.lemmas slot) slot (Some arcs) }) bench
shelved_are x bench slot arcs are new_are = record {
  lemmas = λ k lemma found.
      ⊎_elim
      (λ (new : arcs ≡ lemma). rw (sym new) new_are)
      (λ (old : IsIn x.lemmas k lemma). are.lemmas k lemma old)
      (in_shelved x.lemmas slot k arcs lemma found);
  light = are.light;
  root = are.root;
}

pub emptied_are : (x : PremisesOf) (bench : Option BenchOf) (slot : ℕ) → ArePremises x bench
    → ArePremises (record x { lemmas = slice_set x.lemmas slot None }) bench
emptied_are x bench slot are = record {
  lemmas = λ k lemma found. are.lemmas k lemma (in_emptied x.lemmas slot k lemma found);
  light = are.light;
  root = are.root;
}

-- the lemma of a slot goes, if there is one
pub gone_are : (x : PremisesOf) (bench : Option BenchOf) (slot : ℕ) (there : Bool) (lemmas : Slots) → ArePremises x bench
    → LetsGo x.lemmas slot there lemmas → ArePremises (record x { lemmas = lemmas }) bench
gone_are x bench slot true lemmas are goes = rw goes.1 (emptied_are x bench slot are)
gone_are x bench slot false lemmas are goes = rw goes.1 are

pub gone_empties : (x : PremisesOf) (slot : ℕ) (there : Bool) (lemmas : Slots) → LetsGo x.lemmas slot there lemmas
    → Empties x slot there (record x { lemmas = lemmas })
gone_empties x slot true lemmas goes = (goes.0, ap (λ (l : Slots). record x { lemmas = l }) goes.1)
gone_empties x slot false lemmas goes = (goes.0, ap (λ (l : Slots). record x { lemmas = l }) goes.1)

-- ---- refuted arcs

-- once the root's arcs close a walk of positive weight, all arcs are refuted
pub ended_refutes : (x : PremisesOf) (arcs : List Lag) (lines : List Line) → All (IsArc x.project) arcs
    → HasPositiveCycle (root_arcs x) → IsRefuted x.project x.lemmas (root_arcs x) arcs lines
ended_refutes x arcs lines are cycle = record {
  are_arcs = are;
  refuted = cycle_refutes x.project x.lemmas (root_arcs x ++ arcs) lines (root_none (root_arcs x) arcs cycle);
}

-- each arc of the others' root and of the lemma is among those here
given : (rules roots rest arcs : List Lag) → Gives ((rules ++ (roots ++ rest)) ++ arcs) ((rules ++ roots) ++ arcs)
given rules roots rest arcs e c =
    implied_arc ((rules ++ (roots ++ rest)) ++ arcs) e
    (⊎_elim
    (λ (own : Contains (rules ++ roots) e).
    Contains-append_left (rules ++ (roots ++ rest)) arcs e
    (⊎_elim
    (λ (rule : Contains rules e). Contains-append_left rules (roots ++ rest) e rule)
    (λ (root : Contains roots e). Contains-append_right rules (roots ++ rest) e (Contains-append_left roots rest e root))
    (Contains-append_cases rules roots e own)))
    (λ (arc : Contains arcs e). Contains-append_right (rules ++ (roots ++ rest)) arcs e arc)
    (Contains-append_cases (rules ++ roots) arcs e c))

-- what lines refute beside some premises, they refute beside those that cover them
pub covered_refuted : (x other : PremisesOf) (arcs : List Lag) (lines : List Line) → Covers x other lines
    → IsRefuted other.project other.lemmas (root_arcs other) arcs lines
    → IsRefuted x.project x.lemmas (root_arcs x) arcs lines
covered_refuted x other arcs lines covers is = rw (covers.ahead.project, covers.ahead.roots.1) (record {
  are_arcs = is.are_arcs;
  refuted = refuted_given other.project other.lemmas x.lemmas (root_arcs other ++ arcs)
      ((rules other.project ++ (other.roots ++ covers.ahead.roots.0)) ++ arcs) lines covers.lemmas
      (given (rules other.project) other.roots covers.ahead.roots.0 arcs) is.refuted;
})

-- ---- arcs that are the same

abbrev lag : ℕ → ℕ → ℤ → Lag
lag from to weight = record { from = from; to = to; weight = weight }

lag_same : (a b : Lag) → lag_eq a b ≡ true → a ≡ b
lag_same a b e =
    let p = and_parts (a.from == b.from) (a.to == b.to && int_eq a.weight b.weight) e in
    let q = and_parts (a.to == b.to) (int_eq a.weight b.weight) p.1 in
    let from : a.from ≡ b.from = eqb-true a.from b.from p.0 in
    let to : a.to ≡ b.to = eqb-true a.to b.to q.0 in
    let weight : a.weight ≡ b.weight = grind (arith, ints, q.1) in
    ap (λ (v : ℕ). lag v a.to a.weight) from ∙ ap (λ (v : ℕ). lag b.from v a.weight) to ∙ ap (λ (v : ℤ). lag b.from b.to v) weight

pub lag_decides : (a b : Lag) → Decides (lag_eq a b) (a ≡ b)
lag_decides a b = (lag_same a b, (λ is. ap (lag_eq a) (sym is) ∙ lag_eq_equiv.refl a))
