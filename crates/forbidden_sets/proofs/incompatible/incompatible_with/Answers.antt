use Rattle.std.proofs.Common.{◌≡◌, ℕ, ◌+◌, ◌<◌, List, [], ◌∷◌, ◌++◌, subst, inl, inr, arith}
use Rattle.std.specs.List.{Contains}
use Rattle.std.proofs.lemmas.Bool.{cases_lt}
use Rattle.std.proofs.lemmas.List.{map-append}
use Rattle.std.proofs.lemmas.List.Elements.{All-push, Contains-append_left, Contains-push}
use Rattle.forbidden_sets.specs.Incompatible.{AreIncompatible}
use Rattle.network.specs.Problem.{pair_of}
use Rattle.forbidden_sets.proofs.incompatible.incompatible_with.Goals as goal
use Rattle.forbidden_sets.proofs.incompatible.incompatible_with.Goals.{then-are_incompatible+in_ok-push, else-are_incompatible}

-- a number more, which is the last
with_last : (xs : List ℕ) (i j : ℕ) → j < i + 1 → (j < i → Contains xs j) → Contains (xs ++ i ∷ []) j
with_last xs i j inside before = elim (cases_lt j i) [
  | inl less ↦ Contains-append_left xs (i ∷ []) j (before less)
  | inr more ↦ subst (Contains (xs ++ i ∷ [])) (omega arith) (Contains-push xs i)
]

pub loop-other-preserved : goal.loop-other-preserved
loop-other-preserved c =
    elim c.if-are_incompatible.branch [
      | then-are_incompatible+in_ok-push w ↦ rw (w.others-is, w.in_ok-push.ensures.items) (record {
        rivals = rw (map-append (pair_of c.args.activity) c.loop-other.others.items)
            (All-push (AreIncompatible c.args.project.now) _ _ c.loop-other.invariant.rivals
            (c.are_incompatible.ensures.0 w.if-are_incompatible.true));
        whole = λ j inside both. with_last c.loop-other.others.items c.loop-other.other j inside (λ less. c.loop-other.invariant.whole j less both);
      })
      | else-are_incompatible w ↦ rw w.others-is (record {
        rivals = c.loop-other.invariant.rivals;
        whole = λ j inside both. elim (cases_lt j c.loop-other.other) [
          | inl less ↦ c.loop-other.invariant.whole j less both
          | inr more ↦ let same : j ≡ c.loop-other.other = omega arith in let yes =
              c.are_incompatible.ensures.1 (subst (λ j. AreIncompatible c.args.project.now (pair_of c.args.activity j))
              same both) in let no = w.if-are_incompatible.false in cc
        ];
      })
    ]
