-- What workers reply, and when a record is part of it.
use Rattle.std.proofs.Common.{◌≡◌, ℕ, Bool, true, false, List, Option, None, Some, refl, sym, ap, ◌∙◌, IfSome, IsSome, ◌↔◌, Result, Ok, Err, IfOk, IfErr}
use Rattle.network.specs.Problem.{Problem, IsProject}
use Rattle.network.specs.Schedule.{ScheduleOf, makespan}
use Rattle.network.specs.Verdicts.{IsNoLongerThan, IsTrueOf}
use Rattle.network.specs.declared.outcome.Outcome.{Outcome}
use Rattle.network.specs.declared.outcome.Outcome.TheVariants.{Optimal, NoSchedule, Stopped}
use Rattle.record_text.specs.declared.line.Claim.{Claim}
use Rattle.sch_reader.specs.Text.{Spells}
use Rattle.search_record.specs.Right.{claim_of}
use Rattle.answers.proofs.OutcomeLaws.{found_is_true}
use Rattle.answers.specs.Answers.{IsFoundText}
use Rattle.answers.specs.Outcomes.{SaysOutcome}
use Rattle.psmax_run.specs.Outcomes.{IsRightRecord, claim_text}
use Rattle.psmax_run.specs.declared.job.SearchOptions.{SearchOptions}
use Rattle.devices.specs.Texts.{SpellsOne}
use Rattle.devices.specs.Runs.{ReplyOf}
use Rattle.psmax_run.specs.Searches.{IsOutcomeRecord, IsSearchReply, IsTextOf, starts_from}

-- a record of what is claimed is one of what the answer says
abbrev Kept : Problem → Bool → ℕ → List ℕ → Option (List ℕ) → Type 0
Kept p json exit text kept = (IsSome kept ↔ (exit ≡ 0)) × IfSome kept (IsRightRecord p json text)

-- a record of the claim that an answer says
right_of : (p : Problem) (claim : Claim) (json : Bool) (text r : List ℕ) → text ≡ claim_text json claim → IsTextOf p claim r → IsRightRecord p json text r
right_of p claim json text r said is = record {
  shown = is.shown;
  right = is.right;
  claims = said ∙ ap (claim_text json) (sym is.claims);
  text = is.text;
}

-- the record of an outcome is there exactly where the search wasn't stopped, and is right
kept_of : (p : Problem) (outcome : Outcome) (json : Bool) (exit : ℕ) (text : List ℕ) (kept : Option (List ℕ)) →
    SaysOutcome outcome json exit text → IsOutcomeRecord p outcome kept → Kept p json exit text kept
kept_of p (Optimal best) json exit text (Some r) said is = (((λ _. said.0), (λ _. refl)), right_of p (claim_of (Some best)) json text r said.1 is)
kept_of p (Optimal best) json exit text None said is = absurd is
kept_of p NoSchedule json exit text (Some r) said is = (((λ _. said.0), (λ _. refl)), right_of p (claim_of None) json text r said.1 is)
kept_of p NoSchedule json exit text None said is = absurd is
kept_of p (Stopped (Some best) bound) json exit text None said is = (((λ (e : false ≡ true). cc), (λ zero. let three = said.0 in cc)), tt)
kept_of p (Stopped None bound) json exit text None said is = (((λ (e : false ≡ true). cc), (λ zero. let three = said.0 in cc)), tt)
kept_of p (Stopped best bound) json exit text (Some r) said is = cc

-- what is said of an outcome that is no longer than the start
pub said_from : (p : Problem) (start : Option ScheduleOf) (outcome : Outcome) (json : Bool) (exit : ℕ) (text : List ℕ) →
    SaysOutcome outcome json exit text → IsTrueOf p outcome → IfSome start (λ s. IsNoLongerThan (makespan s.starts) outcome) →
    IsFoundText p (starts_from start) json exit text
said_from p None outcome json exit text says is within = found_is_true p None outcome json exit text is tt says
said_from p (Some start) outcome json exit text says is within = found_is_true p (Some start.starts) outcome json exit text is within says

-- a reply without a record
pub replies_alone : (o : SearchOptions) (p : Problem) (start : Option ScheduleOf) (outcome : Outcome) (reply : ReplyOf) (exit : ℕ) (text : List ℕ) →
    SaysOutcome outcome o.json exit text → IsTrueOf p outcome → IfSome start (λ s. IsNoLongerThan (makespan s.starts) outcome) →
    o.recorded ≡ false → reply.exit ≡ exit → reply.text ≡ text → reply.recorded ≡ None → IsSearchReply o p start reply
replies_alone o p start outcome reply exit text says is within off exit_is text_is kept_is = record {
  said = rw (exit_is, text_is) (said_from p start outcome o.json exit text says is within);
  records = rw kept_is ((λ (some : false ≡ true). cc), (λ asked. let on = asked.0 in cc));
  recorded = rw kept_is tt;
}

-- and with one
pub replies_recorded : (o : SearchOptions) (p : Problem) (start : Option ScheduleOf) (outcome : Outcome)
    (reply : ReplyOf) (exit : ℕ) (text : List ℕ) (kept : Option (List ℕ)) →
    SaysOutcome outcome o.json exit text → IsTrueOf p outcome → IfSome start (λ s. IsNoLongerThan (makespan s.starts) outcome) →
    o.recorded ≡ true → IsOutcomeRecord p outcome kept →
    reply.exit ≡ exit → reply.text ≡ text → reply.recorded ≡ kept → IsSearchReply o p start reply
replies_recorded o p start outcome reply exit text kept says is within on shows exit_is text_is kept_is =
    let found = kept_of p outcome o.json exit text kept says shows in
    record {
      said = rw (exit_is, text_is) (said_from p start outcome o.json exit text says is within);
      records = rw (exit_is, kept_is) ((λ some. (on, found.0.0 some)), (λ asked. found.0.1 asked.1));
      recorded = rw (text_is, kept_is) found.1;
    }

-- a record of the project that a text spells
pub spells_record : (kept : Option (List ℕ)) (text : List ℕ) (p : Problem) (json : Bool) (written : List ℕ) → IsProject p → Spells text p →
    IfSome kept (IsRightRecord p json written) → IfSome kept (λ r. SpellsOne text (λ p. IsRightRecord p json written r))
spells_record None text p json written is spells h = tt
spells_record (Some r) text p json written is spells h = record { project = p; is_project = is; spells = spells; has = h }

-- ---- two clauses of one result

pub ok_both : {T E : Type 0} (r : Result T E) (P Q : T → Type 0) → IfOk r P → IfOk r Q → IfOk r (λ x. P x × Q x)
ok_both (Ok x) P Q p q = (p, q)
ok_both (Err e) P Q p q = tt

pub err_both : {T E : Type 0} (r : Result T E) (P Q : E → Type 0) → IfErr r P → IfErr r Q → IfErr r (λ e. P e × Q e)
err_both (Ok x) P Q p q = tt
err_both (Err e) P Q p q = (p, q)
