-- What a right log claims is true.
use Rattle.std.proofs.Common.{◌≡◌, refl, sym, ap, ◌∙◌, subst, ℤ, ◌≤ℤ◌, List, [], ◌∷◌, ◌++◌, Some, arith}
use Rattle.std.specs.Int.{int_min}
use Rattle.std.proofs.lemmas.Int.{ints}
use Rattle.network.specs.Problem.{Problem, end_of}
use Rattle.network.specs.Schedule.{makespan, IsTrueVerdict}
use Rattle.network.specs.Walk.{IsGreatestWeight, weight}
use Rattle.lemma_proof.specs.Reasons.{reverse_of}
use Rattle.network.specs.declared.verdict.Verdict.{Verdict}
use Rattle.network.specs.declared.verdict.Verdict.TheVariants as verdict
use Rattle.lemma_proof.proofs.Held.{not_both}
use Rattle.lemma_proof.specs.Lines.{impossible}
use Rattle.lemma_log.specs.declared.event.Event.{Event}
use Rattle.lemma_log.specs.declared.event.Event.TheVariants as event
use Rattle.lemma_book.specs.Ledger.{Claims, IsSound, LedgerOf, ceiling_of, deadline, first_ledger, first_roots, own_of}
use Rattle.lemma_book.proofs.Claims.{claim_true}
use Rattle.lemma_book.proofs.Ledgers.{deadline_met, emptied_sound, first_sound, led, led_sound, root_met, shelved_sound, with_root, with_root_sound}
use Rattle.lemma_record.specs.Right.{ClaimIsTrue, Takes, TakesAll}

-- a ledger is sound, and of this project
pub record IsSoundFor (p : Problem) (l : LedgerOf) : Type 0 where
  pub sound : IsSound l
  pub project : l.project ≡ p

pub sound_first : (p : Problem) → IsSoundFor p (first_ledger p)
sound_first p = record { sound = first_sound p (first_roots p) [] refl refl; project = refl }

-- ---- what a ledger takes keeps it sound

sound_same : (p : Problem) (l after : LedgerOf) → IsSoundFor p l → after ≡ l → IsSoundFor p after
sound_same p l after is same = subst (IsSoundFor p) (sym same) is

sound_next : (p : Problem) (l after : LedgerOf) (e : Event) → IsSoundFor p l → Takes l e after → IsSoundFor p after
sound_next p l after (event.Lemma slot [] lines) is takes =
    sound_same p (with_root l impossible) after
    (record { sound = with_root_sound l impossible is.sound (root_met l [] lines impossible is.sound takes.0.refuted refl); project = is.project })
    takes.1
sound_next p l after (event.Lemma slot (e ∷ []) lines) is takes =
    sound_same p (with_root l (reverse_of e)) after
    (record {
      sound = with_root_sound l (reverse_of e) is.sound
          (root_met l (e ∷ []) lines (reverse_of e) is.sound takes.0.refuted refl);
      project = is.project;
    })
    takes.1
sound_next p l after (event.Lemma slot (e ∷ f ∷ arcs) lines) is takes =
    sound_same p _ after (record { sound = shelved_sound l slot (e ∷ f ∷ arcs) lines is.sound takes.0.refuted; project = is.project }) takes.1
sound_next p l after (event.Drop slot) is takes =
    sound_same p _ after (record { sound = emptied_sound l slot is.sound; project = is.project }) takes.1
sound_next p l after (event.Schedule starts) is takes =
    let less = led_sound l starts is.sound takes.0.feasible takes.0.shorter in
    let more = with_root_sound (led l starts) (deadline l.project (makespan starts)) less
    (λ s feasible shorter. deadline_met l.project s (makespan starts) feasible shorter) in
    sound_same p _ after (record { sound = more; project = is.project }) takes.1
sound_next p l after (event.Claim c) is takes = sound_same p l after is takes.1

pub sound_all : (p : Problem) (l after : LedgerOf) (events : List Event) → IsSoundFor p l → TakesAll l events after → IsSoundFor p after
sound_all p l after [] is takes = sound_same p l after is takes
sound_all p l after (e ∷ events) is takes = sound_all p takes.0 after events (sound_next p l takes.0 e is takes.1) takes.2

-- ---- the theorem

-- a claim that comes last is made by the ledger that the events before it lead to
pub claims_last : (l after : LedgerOf) (steps : List Event) (c : Verdict) → TakesAll l (steps ++ event.Claim c ∷ []) after → Claims after c
claims_last l after [] c takes = subst (λ (end : LedgerOf). Claims end c) (sym (takes.2 ∙ takes.1.1)) takes.1.0
claims_last l after (e ∷ steps) c takes = claims_last takes.0 after steps c takes.2

pub claim_is_true : ClaimIsTrue
claim_is_true p events c is right =
    let taken : TakesAll (first_ledger p) (right.steps ++ event.Claim c ∷ []) right.after =
    subst (λ (all : List Event). TakesAll (first_ledger p) all right.after) right.ends right.taken in
    let end : IsSoundFor p right.after = sound_all p (first_ledger p) right.after events (sound_first p) right.taken in
    let claims = claims_last (first_ledger p) right.after right.steps c taken in
    subst (λ (q : Problem). IsTrueVerdict q c) end.project (claim_true right.after c (rw end.project is) end.sound claims)

-- ---- a ledger makes one claim

one_least : (l : LedgerOf) (x y : ℤ) → IsGreatestWeight (own_of l) 0 (end_of l.project) (Some x)
    → IsGreatestWeight (own_of l) 0 (end_of l.project) (Some y) → x ≡ y
one_least l x y at to =
    let first : weight at.0.0 ≡ x = at.0.2 in
    let second : weight to.0.0 ≡ y = to.0.2 in
    let low : weight at.0.0 ≤ℤ y = to.1 at.0.0 at.0.1 in
    let high : weight to.0.0 ≤ℤ x = at.1 to.0.0 to.0.1 in
    omega (arith, ints)

one_bound : (l : LedgerOf) (x y : ℤ) → Claims l (verdict.Bound x) → Claims l (verdict.Bound y) → x ≡ y
one_bound l x y h k =
    let first = h.1.going h.0 in
    let second = k.1.going h.0 in
    first.2 ∙ ap (λ (least : ℤ). int_min least (ceiling_of l)) (one_least l first.0 second.0 first.1 second.1) ∙ sym second.2

pub one_claim : (l : LedgerOf) (what other : Verdict) → Claims l what → Claims l other → what ≡ other
one_claim l (verdict.Optimal x) (verdict.Optimal y) h k = ap verdict.Optimal (h.2 ∙ sym k.2)
one_claim l (verdict.Optimal x) (verdict.Bound y) h k = absurd (not_both (own_of l) k.0 h.0)
one_claim l (verdict.Optimal x) verdict.NoSchedule h k = absurd (h.1 k.1)
one_claim l (verdict.Bound x) (verdict.Optimal y) h k = absurd (not_both (own_of l) h.0 k.0)
one_claim l (verdict.Bound x) (verdict.Bound y) h k = ap verdict.Bound (one_bound l x y h k)
one_claim l (verdict.Bound x) verdict.NoSchedule h k = absurd (not_both (own_of l) h.0 k.0)
one_claim l verdict.NoSchedule (verdict.Optimal y) h k = absurd (k.1 h.1)
one_claim l verdict.NoSchedule (verdict.Bound y) h k = absurd (not_both (own_of l) k.0 h.0)
one_claim l verdict.NoSchedule verdict.NoSchedule h k = refl
