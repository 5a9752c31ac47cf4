-- Events that are taken in all parts are taken.
use Rattle.std.proofs.Common.{◌≡◌, ◌≤◌, ◌<◌, ◌+◌, ◌%◌, Bool, true, false, ℕ, List, [], ◌∷◌, ◌++◌, refl, sym, ap, ◌∙◌, subst, arith}
use Rattle.std.specs.List.{AllByRecursion}
use Rattle.std.proofs.Math.Nat.{mod-lt, mod-one}
use Rattle.std.proofs.lemmas.Bool.{eq-eqb}
use Rattle.network.specs.Problem.{Problem}
use Rattle.network.specs.declared.verdict.Verdict.{Verdict}
use Rattle.lemma_log.specs.declared.event.Event.{Event}
use Rattle.lemma_log.specs.declared.event.Event.TheVariants as event
use Rattle.lemma_log.specs.Logs.{AreFirst}
use Rattle.lemma_book.specs.Ledger.{LedgerOf, first_ledger, with_lemma, with_schedule, without_lemma}
use Rattle.lemma_record.specs.Right.{IsRightText, IsStep, TakesAll, Takes}
use Rattle.lemma_record.specs.Parts.{IsPart, IsRightTextIn, PartOf, PartsMakeWhole, TakesIf, TakesPart, has, number_after, part_of, whole}
use Rattle.lemma_record.proofs.Texts.{no_step, same_body, same_event, same_left}

-- ---- what an event makes of a ledger, if it is taken

abbrev pub made_by : LedgerOf → Event → LedgerOf
made_by l (event.Lemma slot arcs lines) = with_lemma l slot arcs
made_by l (event.Drop slot) = without_lemma l slot
made_by l (event.Schedule starts) = with_schedule l starts
made_by l (event.Claim c) = l

pub is_made : (looks : Bool) (l after : LedgerOf) (e : Event) → TakesIf looks l e after → after ≡ made_by l e
is_made true l after (event.Lemma slot arcs lines) takes = takes.1
is_made true l after (event.Drop slot) takes = takes.1
is_made true l after (event.Schedule starts) takes = takes.1
is_made true l after (event.Claim c) takes = takes.1
is_made false l after (event.Lemma slot arcs lines) takes = takes.1
is_made false l after (event.Drop slot) takes = takes.1
is_made false l after (event.Schedule starts) takes = takes.1
is_made false l after (event.Claim c) takes = takes.1

pub one_after : (one two : Bool) (l a b : LedgerOf) (e : Event) → TakesIf one l e a → TakesIf two l e b → a ≡ b
one_after one two l a b e h k = is_made one l a e h ∙ sym (is_made two l b e k)

-- ---- all of a log

has_all : (event : ℕ) → has whole event ≡ true
has_all event = eq-eqb (event % 1 + 1) 1 (ap (λ (n : ℕ). n + 1) (mod-one event))

pub whole_taken : (before : ℕ) (l after : LedgerOf) (events : List Event) → TakesPart whole before l events after → TakesAll l events after
whole_taken before l after [] taken = taken
whole_taken before l after (e ∷ events) taken = (
  taken.0,
  subst (λ (looks : Bool). TakesIf looks l e taken.0) (has_all (number_after before)) taken.1,
  whole_taken (before + 1) taken.0 after events taken.2,
)

pub whole_text : (p : Problem) (text : List ℕ) (c : Verdict) → IsRightTextIn whole p text c → IsRightText p text c
whole_text p text c right = record {
  events = right.events;
  spells = right.spells;
  right = record {
    steps = right.right.steps;
    are_steps = right.right.are_steps;
    ends = right.right.ends;
    after = right.right.after;
    taken = whole_taken 0 (first_ledger p) right.right.after right.events right.right.taken;
  };
}

-- ---- a log in parts

-- some ledger is made of this one in each part
abbrev MadeInAll : ℕ → ℕ → LedgerOf → List Event → Type 0
MadeInAll count before l events = (number : ℕ) → IsPart (part_of number count) → (m : LedgerOf) × TakesPart (part_of number count) before l events m

-- an event is of a part
its_part : (count event : ℕ) → 1 ≤ count → IsPart (part_of (event % count + 1) count)
its_part count event some =
    let less : event % count < count = mod-lt event some in
    record { first = omega (arith); last = omega (arith, less) }

its_own : (count event : ℕ) → has (part_of (event % count + 1) count) event ≡ true
its_own count event = eq-eqb (event % count + 1) (event % count + 1) refl

together : (count before : ℕ) (l : LedgerOf) (events : List Event) → 1 ≤ count → MadeInAll count before l events → (after : LedgerOf) × TakesAll l events after
together count before l [] some made = (l, refl)
together count before l (e ∷ events) some made =
    let number : ℕ = number_after before in
    let own = made (number % count + 1) (its_part count number some) in
    let next : LedgerOf = own.1.0 in
    let takes : Takes l e next = subst (λ (looks : Bool). TakesIf looks l e next) (its_own count number) own.1.1 in
    let rest = together count (before + 1) next events some (later next takes) in
    (rest.0, (next, takes, rest.1))
  where
    later : (next : LedgerOf) → Takes l e next → MadeInAll count (before + 1) next events
    later next takes number is =
        let other = made number is in
        let same : other.1.0 ≡ next = one_after (has (part_of number count) (number_after before)) true l other.1.0 next e other.1.1 takes in
        (other.0, subst (λ (m : LedgerOf). TakesPart (part_of number count) (before + 1) m events other.0) same other.1.2)

-- bytes are the text of one log
same_steps : (all : List ℕ) (steps others : List Event) (c : Verdict) →
    AreFirst all (steps ++ event.Claim c ∷ []) [] → AllByRecursion IsStep steps →
    AreFirst all (others ++ event.Claim c ∷ []) [] → AllByRecursion IsStep others → steps ≡ others
same_steps all [] [] c first are whole each = refl
same_steps all [] (o ∷ others) c first are whole each =
    absurd (no_step o c (same_event all whole.0 first.0 o (event.Claim c) whole.1 first.1) each.0)
same_steps all (s ∷ steps) [] c first are whole each =
    absurd (no_step s c (same_event all first.0 whole.0 s (event.Claim c) first.1 whole.1) are.0)
same_steps all (s ∷ steps) (o ∷ others) c first are whole each =
    let same : s ≡ o = same_event all first.0 whole.0 s o first.1 whole.1 in
    let rest : whole.0 ≡ first.0 = same_left all whole.0 first.0 o s whole.1 first.1 in
    let more : steps ≡ others = same_steps first.0 steps others c first.2 are.1
    (subst (λ (b : List ℕ). AreFirst b (others ++ event.Claim c ∷ []) []) rest whole.2) each.1 in
    rw (same, more) refl

same_events : (one two : PartOf) (p : Problem) (text : List ℕ) (c : Verdict) (first : IsRightTextIn one p text c)
    (other : IsRightTextIn two p text c) → other.events ≡ first.events
same_events one two p text c first other =
    let body : other.spells.body ≡ first.spells.body = same_body text other.spells.body first.spells.body other.spells.title first.spells.title in
    let there : AreFirst first.spells.body (other.right.steps ++ event.Claim c ∷ []) [] =
    subst (λ (b : List ℕ). AreFirst b (other.right.steps ++ event.Claim c ∷ []) []) body
    (subst (λ (all : List Event). AreFirst other.spells.body all []) other.right.ends other.spells.first) in
    let here : AreFirst first.spells.body (first.right.steps ++ event.Claim c ∷ []) [] =
    subst (λ (all : List Event). AreFirst first.spells.body all []) first.right.ends first.spells.first in
    let steps : other.right.steps ≡ first.right.steps =
    same_steps first.spells.body other.right.steps first.right.steps c there other.right.are_steps here
    first.right.are_steps in
    other.right.ends ∙ ap (λ (all : List Event). all ++ event.Claim c ∷ []) steps ∙ sym first.right.ends

pub parts_make_whole : PartsMakeWhole
parts_make_whole p text c count some right =
    let first : IsRightTextIn (part_of 1 count) p text c = right 1 (record { first = omega (arith); last = some }) in
    let all = together count 0 (first_ledger p) first.events some (made first) in
    record {
      events = first.events;
      spells = first.spells;
      right = record { steps = first.right.steps; are_steps = first.right.are_steps; ends = first.right.ends; after = all.0; taken = all.1 };
    }
  where
    made : (first : IsRightTextIn (part_of 1 count) p text c) → MadeInAll count 0 (first_ledger p) first.events
    made first number is =
        let other = right number is in
        let same : other.events ≡ first.events = same_events (part_of 1 count) (part_of number count) p text c first other in (
          other.right.after,
          subst (λ (events : List Event).
              TakesPart (part_of number count) 0 (first_ledger p) events other.right.after) same other.right.taken,
        )
