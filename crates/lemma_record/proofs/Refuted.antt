-- A text that has a first fault is not that of a right log.
use Rattle.std.proofs.Common.{◌≡◌, ◌+◌, true, ℕ, List, [], ◌∷◌, ◌++◌, Ok, inl, inr, sym, ◌∙◌, subst}
use Rattle.std.specs.List.{AllByRecursion}
use Rattle.network.specs.Problem.{Problem}
use Rattle.lemma_log.specs.declared.event.Event.{Event}
use Rattle.lemma_log.specs.declared.event.Event.TheVariants as event
use Rattle.network.specs.declared.verdict.Verdict.{Verdict}
use Rattle.lemma_log.specs.Text.{title_text}
use Rattle.lemma_log.specs.Reading.{read_in}
use Rattle.lemma_log.specs.Logs.{AreFirst}
use Rattle.lemma_book.specs.Ledger.{LedgerOf, first_ledger}
use Rattle.record_text.specs.declared.event_fault.EventFault.{EventFault}
use Rattle.record_text.specs.declared.event_fault.Wrong.{Wrong}
use Rattle.record_text.specs.declared.event_fault.Wrong.TheVariants as wrong
use Rattle.lemma_record.specs.Right.{IsRightText, IsStep, Takes, TakesAll}
use Rattle.lemma_record.specs.Parts.{PartOf, TakesPart, has, number_after}
use Rattle.lemma_record.specs.Faults.{FaultIsWrong, IsNextFault, IsTrailing, IsWrongNext, IsWrongTitle}
use Rattle.lemma_record.proofs.Parted.{one_after}
use Rattle.lemma_record.proofs.Texts.{no_step, same_body, same_event, same_left}
use Rattle.lemma_record.proofs.Titles.{title_there}

-- ---- one event

-- an event that is taken is not wrong
taken_right : (l after : LedgerOf) (left rest : List ℕ) (e : Event) (w : Wrong)
    → read_in left ≡ Ok (record { value = e; left = rest }) → Takes l e after → IsWrongNext l left w → ⊥
taken_right l after left rest e w read takes (inl short) = let is = short.1 in cc
taken_right l after left rest e w read takes (inr (inl (inl form))) = let is = form.1 in cc
taken_right l after left rest e w read takes (inr (inl (inr long))) = let is = long.1 in cc
taken_right l after left rest e w read takes (inr (inr not)) =
    not.never after (subst (λ (f : Event). Takes l f after) (same_event left rest not.more e not.next read not.read) takes)

-- ---- several

wrong_within : (part : PartOf) (before : ℕ) (l m after : LedgerOf) (all left : List ℕ) (steps others : List Event) (c : Verdict) (w : Wrong) →
    AreFirst all steps left → AllByRecursion IsStep steps → TakesPart part before l steps m →
    AreFirst all (others ++ event.Claim c ∷ []) [] → AllByRecursion IsStep others → TakesAll l (others ++ event.Claim c ∷ []) after →
    IsWrongNext m left w → ⊥
wrong_within part before l m after all left [] [] c w first are taken whole each right wrong =
    taken_right m right.0 left whole.0 (event.Claim c) w
    (subst (λ (b : List ℕ). read_in b ≡ Ok (record { value = event.Claim c; left = whole.0 })) (sym first) whole.1)
    (subst (λ (n : LedgerOf). Takes n (event.Claim c) right.0) (sym taken) right.1) wrong
wrong_within part before l m after all left [] (o ∷ others) c w first are taken whole each right wrong =
    taken_right m right.0 left whole.0 o w
    (subst (λ (b : List ℕ). read_in b ≡ Ok (record { value = o; left = whole.0 })) (sym first) whole.1)
    (subst (λ (n : LedgerOf). Takes n o right.0) (sym taken) right.1) wrong
wrong_within part before l m after all left (s ∷ steps) [] c w first are taken whole each right wrong =
    no_step s c (same_event all first.0 whole.0 s (event.Claim c) first.1 whole.1) are.0
wrong_within part before l m after all left (s ∷ steps) (o ∷ others) c w first are taken whole each right wrong =
    let same : o ≡ s = same_event all whole.0 first.0 o s whole.1 first.1 in
    let rest : whole.0 ≡ first.0 = same_left all whole.0 first.0 o s whole.1 first.1 in
    let next : right.0 ≡ taken.0 = one_after true (has part (number_after before)) l right.0 taken.0 s
    (subst (λ (e : Event). Takes l e right.0) same right.1) taken.1 in
    wrong_within part (before + 1) taken.0 m after first.0 left steps others c w first.2 are.1 taken.2
    (subst (λ (b : List ℕ). AreFirst b (others ++ event.Claim c ∷ []) []) rest whole.2) each.1
    (subst (λ (n : LedgerOf). TakesAll n (others ++ event.Claim c ∷ []) after) next right.2) wrong

none_after : (all left : List ℕ) (steps others : List Event) (c d : Verdict) →
    AreFirst all (steps ++ event.Claim c ∷ []) left → AllByRecursion IsStep steps →
    AreFirst all (others ++ event.Claim d ∷ []) [] → AllByRecursion IsStep others → left ≡ []
none_after all left [] [] c d first are whole each =
    let rest = same_left all first.0 whole.0 (event.Claim c) (event.Claim d) first.1 whole.1 in
    first.2 ∙ rest ∙ sym whole.2
none_after all left [] (o ∷ others) c d first are whole each =
    absurd (no_step o c (same_event all whole.0 first.0 o (event.Claim c) whole.1 first.1) each.0)
none_after all left (s ∷ steps) [] c d first are whole each =
    absurd (no_step s d (same_event all first.0 whole.0 s (event.Claim d) first.1 whole.1) are.0)
none_after all left (s ∷ steps) (o ∷ others) c d first are whole each =
    let rest : whole.0 ≡ first.0 = same_left all whole.0 first.0 o s whole.1 first.1 in
    none_after first.0 left steps others c d first.2 are.1 (subst (λ (b : List ℕ). AreFirst b (others ++ event.Claim d ∷ []) []) rest whole.2) each.1

-- ---- the law

title_right : (text body : List ℕ) (w : Wrong) → text ≡ title_text ++ body → IsWrongTitle text w → ⊥
title_right text body wrong.Form is h = let there = title_there text body is in cc
title_right text body wrong.Long is h = h
title_right text body wrong.Short is h = let there = title_there text body is in cc
title_right text body wrong.Trailing is h = h
title_right text body wrong.Lemma is h = h
title_right text body wrong.Drop is h = h
title_right text body wrong.Schedule is h = h
title_right text body wrong.Claim is h = h
title_right text body wrong.Memory is h = h

next_right : (part : PartOf) (p : Problem) (text : List ℕ) (fault : EventFault) (c : Verdict) → IsNextFault part p text fault → IsRightText p text c → ⊥
next_right part p text fault c found right =
    let ends = right.right.ends in
    let body : right.spells.body ≡ found.leads.begins.body =
    same_body text right.spells.body found.leads.begins.body right.spells.title found.leads.begins.title in
    let whole : AreFirst found.leads.begins.body (right.right.steps ++ event.Claim c ∷ []) [] =
    subst (λ (b : List ℕ). AreFirst b (right.right.steps ++ event.Claim c ∷ []) []) body
    (subst (λ (all : List Event). AreFirst right.spells.body all []) ends right.spells.first) in
    let taken : TakesAll (first_ledger p) (right.right.steps ++ event.Claim c ∷ []) right.right.after =
    subst (λ (all : List Event). TakesAll (first_ledger p) all right.right.after) ends right.right.taken in
    wrong_within part 0 (first_ledger p) found.ledger right.right.after found.leads.begins.body found.left found.steps right.right.steps c fault.wrong
    found.leads.begins.first found.leads.are_steps found.leads.taken whole right.right.are_steps taken found.next

trailing_right : (part : PartOf) (p : Problem) (text : List ℕ) (fault : EventFault) (c : Verdict) → IsTrailing part p text fault → IsRightText p text c → ⊥
trailing_right part p text fault c found right =
    let body : right.spells.body ≡ found.begins.body = same_body text right.spells.body found.begins.body right.spells.title found.begins.title in
    let whole : AreFirst found.begins.body (right.right.steps ++ event.Claim c ∷ []) [] =
    subst (λ (b : List ℕ). AreFirst b (right.right.steps ++ event.Claim c ∷ []) []) body
    (subst (λ (all : List Event). AreFirst right.spells.body all []) right.right.ends right.spells.first) in
    let first : AreFirst found.begins.body (found.right.steps ++ event.Claim found.claim ∷ []) found.left =
    subst (λ (all : List Event). AreFirst found.begins.body all found.left) found.right.ends found.begins.first in
    found.more (none_after found.begins.body found.left found.right.steps right.right.steps found.claim c first
    found.right.are_steps whole right.right.are_steps)

pub fault_is_wrong : FaultIsWrong
fault_is_wrong part p text fault c (inl title) right = title_right text right.spells.body fault.wrong right.spells.title title.title
fault_is_wrong part p text fault c (inr (inl next)) right = next_right part p text fault c next right
fault_is_wrong part p text fault c (inr (inr more)) right = trailing_right part p text fault c more right
