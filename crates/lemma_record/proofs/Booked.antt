-- A log gets one event more.
use Rattle.std.proofs.Common.{◌≡◌, ℕ, ◌^◌, ◌<◌, ◌≤◌, List, [], ◌∷◌, ◌++◌, get_or, length, slice_get, Option, None, Some, MatchOption, Vec, Bor, ℤ, sym, ap, ◌∙◌}
use Rattle.std.proofs.Common.{subst, refl, ⊎_elim, pos, arith}
use Rattle.std.specs.Prelude.{IfSome, IsSomeAnd}
use Rattle.std.specs.List.{AllByRecursion}
use Rattle.std.specs.declared.alloc.Global.{Global}
use Rattle.std.specs.Option.{option_to_list}
use Rattle.std.proofs.lemmas.List.{flat_map_more}
use Rattle.std.proofs.lemmas.Int.{ints}
use Rattle.std.proofs.lemmas.Option.{slice_get_cases}
use Rattle.network.specs.Problem.{IsWithin, Problem}
use Rattle.network.specs.declared.limits.TheConstants.{MAX_WALK_WEIGHT}
use Rattle.lemma_proof.specs.declared.line.Line.{Line}
use Rattle.lemma_proof.specs.Lines.{picked}
use Rattle.lemma_log.specs.declared.event.Event.{Event}
use Rattle.lemma_log.specs.declared.event.Event.TheVariants as event
use Rattle.network.specs.Schedule.{IsFeasible}
use Rattle.network.specs.declared.verdict.Verdict.{Verdict}
use Rattle.network.specs.declared.verdict.Verdict.TheVariants as verdict
use Rattle.lemma_log.specs.Text.{IsWritable, IsWritableBody, IsWritableClaim, IsWritableLine, body_text, event_text, title_text}
use Rattle.lemma_log.specs.Logs.{Spells, log_text}
use Rattle.lemma_log.proofs.Spelled.{log_is_spelled}
use Rattle.lemma_log.proofs.Each.{each_at}
use Rattle.lemma_book.specs.Ledger.{Claims, IsSmall, LedgerOf, first_ledger}
use Rattle.lemma_record.specs.Right.{IsRightText, IsStep, Takes, TakesAll}
use Rattle.lemma_record.specs.Taking.{IsLoggedOf, IsTaken}
use Rattle.lemma_record.specs.LemmaBook.{IsBest, IsLogOf}
use Rattle.lemma_record.proofs.Stepping.{steps_more, taken_more}

pub all_push : {X : Type 0} (P : X → Type 0) (xs : List X) (x : X) → AllByRecursion P xs → P x → AllByRecursion P (xs ++ x ∷ [])
all_push P [] x all here = (here, record {})
all_push P (y ∷ xs) x all here = (all.0, all_push P xs x all.1 here)

-- ---- what is logged of an event

logged_step : (e logged : Event) → IsStep e → IsLoggedOf e logged → IsStep logged
logged_step (event.Lemma slot arcs lines) logged is part =
    ⊎_elim
    (λ (same : logged ≡ event.Lemma slot arcs lines). rw same tt)
    (λ (some : ((places : List ℕ) × (logged ≡ event.Lemma slot arcs (picked lines places))) × IsWritableBody logged). rw some.0.1 tt)
    part
logged_step (event.Drop slot) logged is part = rw part tt
logged_step (event.Schedule starts) logged is part = rw part tt
logged_step (event.Claim c) logged is part = absurd is

logged_body : (e logged : Event) → IsWritableBody e → IsLoggedOf e logged → IsWritableBody logged
logged_body (event.Lemma slot arcs lines) logged is part =
    ⊎_elim
    (λ (same : logged ≡ event.Lemma slot arcs lines). rw same is)
    (λ (some : ((places : List ℕ) × (logged ≡ event.Lemma slot arcs (picked lines places))) × IsWritableBody logged). some.1)
    part
logged_body (event.Drop slot) logged is part = rw part is
logged_body (event.Schedule starts) logged is part = rw part is
logged_body (event.Claim c) logged is part = rw part is

-- ---- the project stays

same_project : (l after : LedgerOf) (e : Event) → Takes l e after → after.project ≡ l.project
same_project l after (event.Lemma slot [] lines) takes = ap (λ (x : LedgerOf). x.project) takes.1
same_project l after (event.Lemma slot (e ∷ []) lines) takes = ap (λ (x : LedgerOf). x.project) takes.1
same_project l after (event.Lemma slot (e ∷ f ∷ arcs) lines) takes = ap (λ (x : LedgerOf). x.project) takes.1
same_project l after (event.Drop slot) takes = ap (λ (x : LedgerOf). x.project) takes.1
same_project l after (event.Schedule starts) takes = ap (λ (x : LedgerOf). x.project) takes.1
same_project l after (event.Claim c) takes = ap (λ (x : LedgerOf). x.project) takes.1

-- ---- the log

pub appended : (l after : LedgerOf) (e : Event) (text more : List ℕ) → IsLogOf l text → IsStep e → IsWritableBody e
    → Takes l e after → length (body_text e) < 2 ^ 63 → more ≡ text ++ event_text e → IsLogOf after more
appended l after e text more log step body takes size is = record {
  steps = log.steps ++ e ∷ [];
  are_steps = steps_more log.steps e log.are_steps step;
  writable = all_push IsWritable log.steps e log.writable (record { size = size; body = body });
  is = is ∙ ap (λ (t : List ℕ). t ++ event_text e) log.is ∙ flat_map_more event_text title_text log.steps e;
  taken = subst (λ (p : Problem). TakesAll (first_ledger p) (log.steps ++ e ∷ []) after)
      (sym (same_project l after e takes)) (taken_more (first_ledger l.project) l after log.steps e log.taken takes);
}

pub logged_more : (l after : LedgerOf) (e logged : Event) (text more : List ℕ) → IsLogOf l text → IsStep e
    → IsWritableBody e → IsTaken l e logged after → length (body_text logged) < 2 ^ 63
    → more ≡ text ++ event_text logged → IsLogOf after more
logged_more l after e logged text more log step body taken size is =
    appended l after logged text more log (logged_step e logged step taken.part) (logged_body e logged body taken.part) taken.logged_taken size is

-- ---- the end

within_amount : (z : ℤ) → IsWithin MAX_WALK_WEIGHT z → IsWithin (pos (2 ^ 60)) z
within_amount z small = record { at_least = omega (arith, ints, small.at_least); at_most = omega (arith, ints, small.at_most) }

pub small_fits : (c : Verdict) → IsSmall c → IsWritableClaim c
small_fits (verdict.Optimal makespan) small = within_amount makespan small
small_fits (verdict.Bound bound) small = within_amount bound small
small_fits verdict.NoSchedule small = tt

pub closed : (l : LedgerOf) (c : Verdict) (text more : List ℕ) → IsLogOf l text → Claims l c
    → IsWritableClaim c → length (body_text (event.Claim c)) < 2 ^ 63 → more ≡ text ++ event_text (event.Claim c)
    → IsRightText l.project more c
closed l c text more log claims fits size is =
    let events : List Event = log.steps ++ event.Claim c ∷ [] in
    let all : more ≡ log_text events = is ∙ ap (λ (t : List ℕ). t ++ event_text (event.Claim c)) log.is
    ∙ flat_map_more event_text title_text log.steps (event.Claim c) in
    let spells : Spells (log_text events) events =
    log_is_spelled events (all_push IsWritable log.steps (event.Claim c) log.writable
    (record { size = size; body = fits })) in
    record {
      events = events;
      spells = subst (λ (t : List ℕ). Spells t events) (sym all) spells;
      right = record {
        steps = log.steps;
        are_steps = log.are_steps;
        ends = refl;
        after = l;
        taken = taken_more (first_ledger l.project) l l log.steps (event.Claim c) log.taken (claims, refl);
      };
    }

best_given : (l : LedgerOf) (starts : Bor (List ℤ)) (copy : Option (Vec ℤ Global)) → l.best ≡ Some starts.now
    → IsSomeAnd copy (λ of. of.items ≡ starts.now) → IsBest l copy
best_given l starts None told is = absurd is
best_given l starts (Some of) told is = rw is told

pub best_shown : (l : LedgerOf) (found : Option (Bor (List ℤ))) (copy : Option (Vec ℤ Global))
    → MatchOption found (l.best ≡ None) (λ starts. l.best ≡ Some starts.now)
    → MatchOption found (copy ≡ None) (λ starts. IsSomeAnd copy (λ of. of.items ≡ starts.now)) → IsBest l copy
best_shown l None copy told copied = rw copied told
best_shown l (Some starts) copy told copied = best_given l starts copy told copied

-- a copy of a feasible schedule is feasible
pub feasible_shown : (p : Problem) (found : Option (Bor (List ℤ))) (copy : Option (Vec ℤ Global))
    → IfSome found (λ starts. IsFeasible p starts.now)
    → MatchOption found (copy ≡ None) (λ starts. IsSomeAnd copy (λ of. of.items ≡ starts.now))
    → IfSome copy (λ starts. IsFeasible p starts.items)
feasible_shown p None copy feasible copied = rw copied tt
feasible_shown p (Some starts) None feasible copied = absurd copied
feasible_shown p (Some starts) (Some of) feasible copied = rw copied feasible
