-- A log is checked event after event.
use Rattle.std.proofs.Common.{◌≡◌, ◌≢◌, ℕ, ◌+◌, ◌-◌, ◌^◌, min, List, [], ◌∷◌, ◌++◌, length, drop, Result, Ok, Err, Option, None, Some, MatchOption, is_some}
use Rattle.std.proofs.Common.{true, false, inl, inr, refl, sym, ap, ◌∙◌, subst, append_assoc, arith}
use Rattle.std.specs.List.{AllByRecursion}
use Rattle.std.proofs.lemmas.Bool.{false≢true}
use Rattle.std.proofs.lemmas.List.{length-append}
use Rattle.network.specs.Problem.{Problem}
use Rattle.network.specs.declared.verdict.Verdict.{Verdict}
use Rattle.lemma_log.specs.declared.event.Event.{Event}
use Rattle.lemma_log.specs.declared.event.Event.TheVariants as event
use Rattle.lemma_log.specs.declared.fault.DecodeFault.{DecodeFault}
use Rattle.lemma_log.specs.declared.fault.DecodeFault.TheVariants as reading
use Rattle.lemma_log.specs.Numbers.{Part}
use Rattle.lemma_log.specs.Text.{title_text}
use Rattle.lemma_log.specs.Reading.{read_in, title_in}
use Rattle.lemma_log.specs.Logs.{AreFirst, Begins}
use Rattle.lemma_log.proofs.CutOff.{IsStable, read_stable}
use Rattle.lemma_book.specs.Ledger.{LedgerOf, first_ledger}
use Rattle.lemma_book.proofs.Claims.{none_here}
use Rattle.lemma_record.proofs.Titles.{title_first}
use Rattle.record_text.specs.declared.event_fault.EventFault.{EventFault}
use Rattle.record_text.specs.declared.event_fault.Wrong.{Wrong}
use Rattle.record_text.specs.declared.event_fault.Wrong.TheVariants as wrong
use Rattle.lemma_record.specs.Right.{IsStep, Takes, TakesAll}
use Rattle.lemma_record.specs.Parts.{PartOf, TakesIf, TakesPart, has, number_after}
use Rattle.lemma_record.specs.Faults.{IsFirstFault, IsWrongEvent, LeadsTo}
use Rattle.lemma_record.specs.Reached.{Awaits, CheckerOf, HasClaimed, HasChecked, IsAt, IsAtTitle, TakesNext, checker_of, claimed}

-- ---- one event more

first_more : (bytes : List ℕ) (steps : List Event) (left : List ℕ) (e : Event) (rest : List ℕ)
    → AreFirst bytes steps left → read_in left ≡ Ok (record { value = e; left = rest })
    → AreFirst bytes (steps ++ e ∷ []) rest
first_more bytes [] left e rest first read = (rest, subst (λ (b : List ℕ). read_in b ≡ Ok (record { value = e; left = rest })) first read, refl)
first_more bytes (step ∷ steps) left e rest first read = (first.0, first.1, first_more first.0 steps left e rest first.2 read)

pub taken_more : (l mid after : LedgerOf) (steps : List Event) (e : Event) → TakesAll l steps mid → Takes mid e after → TakesAll l (steps ++ e ∷ []) after
taken_more l mid after [] e taken takes = (after, subst (λ (m : LedgerOf). Takes m e after) taken takes, refl)
taken_more l mid after (step ∷ steps) e taken takes = (taken.0, taken.1, taken_more taken.0 mid after steps e taken.2 takes)

part_more : (part : PartOf) (before : ℕ) (l mid after : LedgerOf) (steps : List Event) (e : Event)
    → TakesPart part before l steps mid → TakesIf (has part (number_after (before + length steps))) mid e after
    → TakesPart part before l (steps ++ e ∷ []) after
part_more part before l mid after [] e taken takes =
    let first : TakesIf (has part (number_after before)) mid e after =
    subst (λ (n : ℕ). TakesIf (has part (number_after n)) mid e after) (omega (arith)) takes in
    (after, subst (λ (m : LedgerOf). TakesIf (has part (number_after before)) m e after) taken first, refl)
part_more part before l mid after (step ∷ steps) e taken takes =
    let later : TakesIf (has part (number_after ((before + 1) + length steps))) mid e after =
    subst (λ (n : ℕ). TakesIf (has part (number_after n)) mid e after) (omega (arith)) takes in
    (taken.0, taken.1, part_more part (before + 1) taken.0 mid after steps e taken.2 later)

-- the number that is due is that of the event after the steps
its_takes : (part : PartOf) (steps : List Event) (l after : LedgerOf) (e : Event) (due : ℕ)
    → due ≡ number_after (length steps) → TakesIf (has part due) l e after
    → TakesIf (has part (number_after (0 + length steps))) l e after
its_takes part steps l after e due is takes =
    let none : length steps ≡ 0 + length steps = omega (arith) in
    subst (λ (n : ℕ). TakesIf (has part (number_after n)) l e after) none (subst (λ (n : ℕ). TakesIf (has part n) l e after) is takes)

pub steps_more : (steps : List Event) (e : Event) → AllByRecursion IsStep steps → IsStep e → AllByRecursion IsStep (steps ++ e ∷ [])
steps_more [] e all is = (is, record {})
steps_more (step ∷ steps) e all is = (all.0, steps_more steps e all.1 is)

begins_more : (text : List ℕ) (steps : List Event) (left : List ℕ) (e : Event) (rest : List ℕ) → Begins text steps left
    → read_in left ≡ Ok (record { value = e; left = rest }) → Begins text (steps ++ e ∷ []) rest
begins_more text steps left e rest begins read =
    record {
      body = begins.body;
      title = begins.title;
      first =
          first_more begins.body steps left e rest begins.first read;
    }

next_number : (steps : List Event) (e : Event) (due : ℕ) → due ≡ number_after (length steps)
    → min (due + 1) (2 ^ 64 - 1) ≡ number_after (length (steps ++ e ∷ []))
next_number steps e due is = let long : length (steps ++ e ∷ []) ≡ length steps + 1 = length-append steps (e ∷ []) in rw long (omega (arith, is))

-- what claims nothing is a step
is_step : (e : Event) → None ≡ claimed e → IsStep e
is_step (event.Lemma slot arcs lines) none = tt
is_step (event.Drop slot) none = tt
is_step (event.Schedule starts) none = tt
is_step (event.Claim c) none = absurd (let bad : None ≡ Some c = none in cc)

-- what claims something is a claim
is_claim : (e : Event) (what : Verdict) → Some what ≡ claimed e → e ≡ event.Claim what
is_claim (event.Lemma slot arcs lines) what some = absurd (let bad : Some what ≡ None = some in cc)
is_claim (event.Drop slot) what some = absurd (let bad : Some what ≡ None = some in cc)
is_claim (event.Schedule starts) what some = absurd (let bad : Some what ≡ None = some in cc)
is_claim (event.Claim c) what some = let same : Some what ≡ Some c = some in cc

pub at_step : (part : PartOf) (p : Problem) (text : List ℕ) (l new : LedgerOf) (left rest : List ℕ) (due : ℕ)
    → IsAt part p text l left due → TakesNext (has part due) l left None rest new
    → IsAt part p text new rest (min (due + 1) (2 ^ 64 - 1))
at_step part p text l new left rest due at next = record {
  steps = at.steps ++ next.next ∷ [];
  leads = record {
    begins = begins_more text at.steps left next.next rest at.leads.begins next.read;
    are_steps = steps_more at.steps next.next at.leads.are_steps (is_step next.next next.claims);
    taken = part_more part 0 (first_ledger p) l new at.steps next.next at.leads.taken (its_takes part at.steps l new next.next due at.number next.takes);
  };
  number = next_number at.steps next.next due at.number;
}

pub at_claim : (part : PartOf) (p : Problem) (text : List ℕ) (l new : LedgerOf) (left rest : List ℕ) (due : ℕ)
    (what : Verdict) → IsAt part p text l left due → TakesNext (has part due) l left (Some what) rest new
    → HasClaimed part p text rest what (min (due + 1) (2 ^ 64 - 1))
at_claim part p text l new left rest due what at next =
    let is = is_claim next.next what next.claims in
    record {
      events = at.steps ++ next.next ∷ [];
      begins = begins_more text at.steps left next.next rest at.leads.begins next.read;
      right = record {
        steps = at.steps;
        are_steps = at.leads.are_steps;
        ends = ap (λ (e : Event). at.steps ++ e ∷ []) is;
        after = new;
        taken = part_more part 0 (first_ledger p) l new at.steps next.next at.leads.taken (its_takes part at.steps l new next.next due at.number next.takes);
      };
      number = next_number at.steps next.next due at.number;
    }

-- ---- more bytes

read_more : (bytes more left : List ℕ) (e : Event) → read_in bytes ≡ Ok (record { value = e; left = left })
    → read_in (bytes ++ more) ≡ Ok (record { value = e; left = left ++ more })
read_more bytes more left e read = subst (λ (r : Result (Part Event) DecodeFault). IsStable more r (read_in (bytes ++ more))) read (read_stable bytes more)

form_more : (bytes more : List ℕ) → read_in bytes ≡ Err reading.Form → read_in (bytes ++ more) ≡ Err reading.Form
form_more bytes more read = subst (λ (r : Result (Part Event) DecodeFault). IsStable more r (read_in (bytes ++ more))) read (read_stable bytes more) (λ is. cc)

long_more : (bytes more : List ℕ) → read_in bytes ≡ Err reading.Long → read_in (bytes ++ more) ≡ Err reading.Long
long_more bytes more read = subst (λ (r : Result (Part Event) DecodeFault). IsStable more r (read_in (bytes ++ more))) read (read_stable bytes more) (λ is. cc)

still_first : (bytes more : List ℕ) (steps : List Event) (left : List ℕ) → AreFirst bytes steps left → AreFirst (bytes ++ more) steps (left ++ more)
still_first bytes more [] left first = ap (λ (b : List ℕ). b ++ more) first
still_first bytes more (e ∷ steps) left first = (first.0 ++ more, read_more bytes more first.0 e first.1, still_first first.0 more steps left first.2)

pub still_begins : (text more : List ℕ) (steps : List Event) (left : List ℕ) → Begins text steps left → Begins (text ++ more) steps (left ++ more)
still_begins text more steps left begins = record {
  body = begins.body ++ more;
  title = ap (λ (b : List ℕ). b ++ more) begins.title ∙ append_assoc title_text begins.body more;
  first = still_first begins.body more steps left begins.first;
}

still_leads : (part : PartOf) (p : Problem) (text more : List ℕ) (steps : List Event) (l : LedgerOf) (left : List ℕ)
    → LeadsTo part p text steps l left → LeadsTo part p (text ++ more) steps l (left ++ more)
still_leads part p text more steps l left leads =
    record { begins = still_begins text more steps left leads.begins; are_steps = leads.are_steps; taken = leads.taken }

pub at_more : (part : PartOf) (p : Problem) (text more : List ℕ) (l : LedgerOf) (left : List ℕ) (due : ℕ)
    → IsAt part p text l left due → IsAt part p (text ++ more) l (left ++ more) due
at_more part p text more l left due at = record { steps = at.steps; leads = still_leads part p text more at.steps l left at.leads; number = at.number }

still_wrong : (l : LedgerOf) (left more : List ℕ) (w : Wrong) → IsWrongEvent l left w → IsWrongEvent l (left ++ more) w
still_wrong l left more w (inl (inl form)) = inl (inl (form.0, form_more left more form.1))
still_wrong l left more w (inl (inr long)) = inl (inr (long.0, long_more left more long.1))
still_wrong l left more w (inr not) = inr
    (record {
      next = not.next;
      more = not.more ++ more;
      read = read_more left more not.more not.next not.read;
      never =
          not.never;
      named = not.named;
    })

-- ---- faults

pub wrong_found : (part : PartOf) (p : Problem) (text more : List ℕ) (l : LedgerOf) (left : List ℕ) (due : ℕ)
    (fault : EventFault) → IsAt part p text l left due → fault.event ≡ due → IsWrongEvent l left fault.wrong
    → IsFirstFault part p (text ++ more) fault
wrong_found part p text more l left due fault at event is = inr (inl (record {
  steps = at.steps;
  ledger = l;
  left = left ++ more;
  leads = still_leads part p text more at.steps l left at.leads;
  number = event ∙ at.number;
  next = inr (still_wrong l left more fault.wrong is);
}))

some_more : (left more : List ℕ) → left ≢ [] → (left ++ more) ≢ []
some_more [] more some is = some refl
some_more (b ∷ left) more some is = cc

pub trailing_found : (part : PartOf) (p : Problem) (text rest more : List ℕ) (what : Verdict) (due : ℕ)
    → HasClaimed part p text rest what due → rest ≢ []
    → IsFirstFault part p (text ++ more) (record { event = due; wrong = wrong.Trailing })
trailing_found part p text rest more what due has some = inr (inr (record {
  events = has.events;
  claim = what;
  left = rest ++ more;
  begins = still_begins text more has.events rest has.begins;
  right = has.right;
  more = some_more rest more some;
  is = ap (λ (n : ℕ). record { event = n; wrong = wrong.Trailing }) has.number;
}))

-- bytes that come after the claim
pub claimed_more : (part : PartOf) (p : Problem) (text piece : List ℕ) (what : Verdict) (due : ℕ)
    → HasClaimed part p text [] what due → HasClaimed part p (text ++ piece) piece what due
claimed_more part p text piece what due has = record {
  events = has.events;
  begins = still_begins text piece has.events [] has.begins;
  right = has.right;
  number = has.number;
}

-- ---- the title

pub title_at : (part : PartOf) (p : Problem) (text rest : List ℕ) (l : LedgerOf) (n : ℕ) → l ≡ first_ledger p
    → title_in text ≡ Ok n → rest ≡ drop n text → IsAt part p text l rest 1
title_at part p text rest l n first title is = record {
  steps = [];
  leads = record {
    begins = record { body = drop n text; title = title_first text n title; first = is };
    are_steps = record {};
    taken = first;
  };
  number = refl;
}

pub title_waits : (p : Problem) (text : List ℕ) (x : CheckerOf) → IsAtTitle p text x → title_in text ≡ Err reading.Short → HasChecked p text x
title_waits p text x at short = subst (λ (proved : Option Verdict).
    MatchOption proved (Awaits p text x) (λ what. HasClaimed x.part p text [] what x.due)) (sym at.going)
    (inl (at, short))

-- ---- a piece more

title_due : (p : Problem) (text piece : List ℕ) (x : CheckerOf) → x.proved ≡ None → Awaits p text x → x.due ≡ 0
    → IsAtTitle p (text ++ piece) (checker_of x.part x.ledger (x.left ++ piece) x.due x.proved)
title_due p text piece x going (inl title) due =
    record {
      ledger = title.0.ledger;
      left = ap (λ (b : List ℕ). b ++ piece) title.0.left;
      due = title.0.due;
      going =
          going;
    }
title_due p text piece x going (inr event) due = let number = event.0.number in absurd (omega (arith, number, due))

event_due : (p : Problem) (text piece : List ℕ) (x : CheckerOf) → Awaits p text x → x.due ≢ 0 → IsAt x.part p (text ++ piece) x.ledger (x.left ++ piece) x.due
event_due p text piece x (inl title) due = absurd (due title.0.due)
event_due p text piece x (inr event) due = at_more x.part p text piece x.ledger x.left x.due event.0

awaits : (p : Problem) (text : List ℕ) (x : CheckerOf) (proved : Option Verdict) → is_some proved ≡ false
    → MatchOption proved (Awaits p text x) (λ what. HasClaimed x.part p text [] what x.due) → Awaits p text x
awaits p text x None none read = read
awaits p text x (Some what) none read = absurd (false≢true (sym none))

pub title_piece : (p : Problem) (text piece : List ℕ) (x : CheckerOf) → is_some x.proved ≡ false → x.due ≡ 0
    → HasChecked p text x → IsAtTitle p (text ++ piece) (checker_of x.part x.ledger (x.left ++ piece) x.due x.proved)
title_piece p text piece x none due read = title_due p text piece x (none_here x.proved none) (awaits p text x x.proved none read) due

pub event_piece : (p : Problem) (text piece : List ℕ) (x : CheckerOf) → is_some x.proved ≡ false → x.due ≢ 0
    → HasChecked p text x → IsAt x.part p (text ++ piece) x.ledger (x.left ++ piece) x.due
event_piece p text piece x none due read = event_due p text piece x (awaits p text x x.proved none read) due

pub event_waits : (p : Problem) (text : List ℕ) (x : CheckerOf) → is_some x.proved ≡ false
    → IsAt x.part p text x.ledger x.left x.due → read_in x.left ≡ Err reading.Short → HasChecked p text x
event_waits p text x none at short = subst
    (λ (proved : Option Verdict). MatchOption proved (Awaits p text x) (λ what. HasClaimed x.part p text [] what x.due))
    (sym (none_here x.proved none)) (inr (at, short))

piece_after : (p : Problem) (text piece more : List ℕ) (x : CheckerOf) (proved : Option Verdict) → is_some proved ≡ true
    → piece ≢ [] → MatchOption proved (Awaits p text x) (λ what. HasClaimed x.part p text [] what x.due)
    → IsFirstFault x.part p ((text ++ piece) ++ more) (record { event = x.due; wrong = wrong.Trailing })
piece_after p text piece more x None some here read = absurd (false≢true some)
piece_after p text piece more x (Some what) some here read =
    trailing_found x.part p (text ++ piece) piece more what x.due (claimed_more x.part p text piece what x.due read)
    here

pub trailing_piece : (p : Problem) (text piece more : List ℕ) (x : CheckerOf) → is_some x.proved ≡ true → piece ≢ []
    → HasChecked p text x → IsFirstFault x.part p ((text ++ piece) ++ more)
    (record { event = x.due; wrong = wrong.Trailing })
trailing_piece p text piece more x some here read = piece_after p text piece more x x.proved some here read
