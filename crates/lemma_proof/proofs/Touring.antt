-- Intervals that lie one after another, all in one window, are no longer together than it is.
use Rattle.std.proofs.Common.{◌≡◌, refl, sym, ◌∙◌, subst, ap, ℕ, ◌+◌, ◌<◌, ◌≤◌, ⊎_elim, ◌⊎◌, inl, inr, arith, ℤ, pos, ◌+ℤ◌, ◌-ℤ◌, ◌≤ℤ◌, ◌<ℤ◌, List, [], ◌∷◌, get_or, length, Some}
use Rattle.std.specs.List.{All, AllPairs, sum_by}
use Rattle.std.proofs.lemmas.Int.{ints, by_lt_z}
use Rattle.std.proofs.lemmas.List.Elements.{All-cons, All-nil, All-weaker}
use Rattle.network.specs.declared.parts.Lag.{Lag}
use Rattle.network.specs.Problem.{Problem}
use Rattle.network.specs.Schedule.{start, Meets, IsFeasible}
use Rattle.longest_path.specs.Insert.{arc_of}
use Rattle.lemma_proof.specs.declared.line.Interval.{Interval}
use Rattle.lemma_proof.specs.Lines.{MeetsNone}
use Rattle.lemma_proof.specs.Slots.{AreDelays, HaveDelays, SaysAt, SaysDelays, Slots, delay}
use Rattle.lemma_proof.specs.Tours.{BeginsAfterEnd, IsTour, LieApart, LiesWithin}
use Rattle.lemma_proof.proofs.Packing.{AreApart, IsInside, packed}
use Rattle.lemma_proof.proofs.Weighing.{MeetsAll, implied_met}

-- where the interval begins
abbrev begin : List ℤ → Interval → ℤ
begin s m = start s m.activity +ℤ m.at

abbrev size : Interval → ℕ
size m = m.length

-- by an arc
walk_apart : (arcs : List Lag) (s : List ℤ) (m k : Interval) → MeetsAll s arcs → BeginsAfterEnd arcs m k → (begin s m +ℤ pos (size m)) ≤ℤ begin s k
walk_apart arcs s m k met after =
    let kept : (start s m.activity +ℤ delay m k) ≤ℤ start s k.activity = implied_met arcs s met (arc_of m.activity k.activity (delay m k)) after in
    omega (arith, ints, kept)

-- of two arcs that are not both met
not_both_met : (s : List ℤ) (m k : Interval) (there back : Lag) → AreDelays m k there back → (Meets s there → Meets s back → ⊥)
    → AreApart (begin s) size m k
not_both_met s m k there back d never =
    by_lt_z (start s there.to) (start s there.from +ℤ there.weight)
    (λ (missed : start s there.to <ℤ (start s there.from +ℤ there.weight)).
    let ends_to : start s there.to ≡ start s k.activity = ap (start s) d.there_to in
    let ends_from : start s there.from ≡ start s m.activity = ap (start s) d.there_from in
    let far : delay k m ≤ℤ (pos 1 -ℤ there.weight) = d.second in
    inr (omega (arith, ints, missed, ends_to, ends_from, far)))
    (λ (met : (start s there.from +ℤ there.weight) ≤ℤ start s there.to).
    by_lt_z (start s back.to) (start s back.from +ℤ back.weight)
    (λ (missed : start s back.to <ℤ (start s back.from +ℤ back.weight)).
    let ends_to : start s back.to ≡ start s m.activity = ap (start s) d.back_to in
    let ends_from : start s back.from ≡ start s k.activity = ap (start s) d.back_from in
    let far : delay m k ≤ℤ (pos 1 -ℤ back.weight) = d.first in
    inl (omega (arith, ints, missed, ends_to, ends_from, far)))
    (λ (met_back : (start s back.from +ℤ back.weight) ≤ℤ start s back.to). absurd (never met met_back)))

-- a lemma of which not all arcs are met
says_apart : (s : List ℤ) (m k : Interval) (lemma : List Lag) → SaysDelays m k lemma → (All (Meets s) lemma → ⊥) → AreApart (begin s) size m k
says_apart s m k [] says never = absurd says
says_apart s m k (a ∷ []) says never = absurd says
says_apart s m k (a ∷ b ∷ []) says never =
    ⊎_elim
    (λ (d : AreDelays m k a b). not_both_met s m k a b d (λ x y. never (both x y)))
    (λ (d : AreDelays m k b a). not_both_met s m k b a d (λ y x. never (both x y)))
    says
  where
    both : Meets s a → Meets s b → All (Meets s) (a ∷ b ∷ [])
    both x y = All-cons (Meets s) a (b ∷ []) x (All-cons (Meets s) b [] y (All-nil (Meets s)))
says_apart s m k (a ∷ b ∷ c ∷ arcs) says never = absurd says

lie_apart : (lemmas : Slots) (arcs : List Lag) (s : List ℤ) (m k : Interval) → MeetsNone s lemmas → MeetsAll s arcs
    → LieApart lemmas arcs m k → AreApart (begin s) size m k
lie_apart lemmas arcs s m k none met apart =
    ⊎_elim
    (λ (first : BeginsAfterEnd arcs m k). inl (walk_apart arcs s m k met first))
    (λ (rest : BeginsAfterEnd arcs k m ⊎ HaveDelays lemmas m k).
    ⊎_elim
    (λ (second : BeginsAfterEnd arcs k m). inr (walk_apart arcs s k m met second))
    (λ (delays : HaveDelays lemmas m k).
    says_apart s m k delays.says.lemma delays.says.says (none delays.slot delays.says.lemma delays.says.found))
    rest)
    apart

-- so no feasible schedule meets the arcs
pub tour_refuted : (p : Problem) (lemmas : Slots) (arcs : List Lag) (from to : ℤ) (intervals : List Interval) (s : List ℤ)
    → IsTour p lemmas arcs from to intervals → IsFeasible p s → MeetsNone s lemmas → MeetsAll s arcs → ⊥
tour_refuted p lemmas arcs from to intervals s tour feasible none met =
    packed (begin s) size from to intervals tour.some
    (All-weaker (LiesWithin arcs from to) (IsInside (begin s) size from to) within intervals tour.inside)
    (λ i j d lt l. lie_apart lemmas arcs s (get_or intervals i d) (get_or intervals j d) none met (tour.apart i j d lt l))
    tour.over
  where
    within : (m : Interval) → LiesWithin arcs from to m → IsInside (begin s) size from to m
    within m lies =
        let zero : start s 0 ≡ pos 0 = feasible.schedule.from_zero in
        let late : (start s 0 +ℤ (from -ℤ m.at)) ≤ℤ start s m.activity = implied_met arcs s met (arc_of 0 m.activity (from -ℤ m.at)) lies.late in
        let early : (start s m.activity +ℤ ((m.at +ℤ pos m.length) -ℤ to)) ≤ℤ start s 0 =
        implied_met arcs s met (arc_of m.activity 0 ((m.at +ℤ pos m.length) -ℤ to)) lies.early in
        record { late = omega (arith, ints, zero, late); early = omega (arith, ints, zero, early) }
