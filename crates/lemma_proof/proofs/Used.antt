-- The reverse of the arc that the lemma of a slot leaves.
use Rattle.std.proofs.Common.{◌≡◌, sym, ◌∙◌, ℕ, List, Some, arith}
use Rattle.network.specs.declared.parts.Lag.{Lag}
use Rattle.lemma_proof.specs.Reasons.{reverse_of}
use Rattle.std.proofs.lemmas.Int.{ints}
use Rattle.network.specs.Problem.{Problem, activity_count}
use Rattle.lemma_proof.specs.Heads.{IsLight}
use Rattle.lemma_proof.specs.Lines.{IsArc, IsIn, IsLeft, IsUse, Slots}

pub used : (lemmas : Slots) (arcs lemma : List Lag) (slot : ℕ) (left e : Lag) → IsIn lemmas slot lemma
    → e ≡ reverse_of left → IsLeft arcs lemma left → IsUse lemmas arcs slot e
used lemmas arcs lemma slot left e found is here = record { lemma = lemma; found = found; left = left; is_left = here; reverse = is }

same_lemma : (xs ys : List Lag) → Some (Some xs) ≡ Some (Some ys) → xs ≡ ys
same_lemma xs ys e = cc

pub not_used : (lemmas : Slots) (arcs lemma : List Lag) (slot : ℕ) → IsIn lemmas slot lemma
    → ((e : Lag) → ¬ IsLeft arcs lemma e) → (e : Lag) → ¬ IsUse lemmas arcs slot e
not_used lemmas arcs lemma slot found never e u =
    let same : u.lemma ≡ lemma = same_lemma u.lemma lemma (sym u.found ∙ found) in
    never u.left (rw same at u.is_left)

pub light_reverse : (p : Problem) (e : Lag) → IsArc p e → IsLight (activity_count p) (reverse_of e)
light_reverse p e is = record {
  from_activity = is.joins.1;
  to_activity = is.joins.0;
  light = record { at_least = omega (arith, ints, is.light.at_most); at_most = omega (arith, ints, is.light.at_least) };
}
