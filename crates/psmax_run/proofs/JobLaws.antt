-- What jobs answer.
use Rattle.std.proofs.Common.{◌≡◌, ℕ, Bool, true, false, ◌||◌, List, Option, None, Some, refl, ap, ◌∙◌, inl, ◌-◌, ◌<◌, [], ℤ, pos, length, sym}
use Rattle.std.proofs.Common.{get_or, arith, codes}
use Rattle.std.specs.Prelude.{is_some}
use Rattle.psmax_run.specs.declared.job.Job.TheVariants as jobs
use Rattle.devices.specs.declared.fault.Fault.{Fault}
use Rattle.devices.specs.declared.fault.Fault.TheVariants as faults
use Rattle.devices.specs.Faults.{exit_of}
use Rattle.devices.specs.Texts.{GivesStarts, SpellsOne}
use Rattle.devices.proofs.Endings.{write_is_no_search}
use Rattle.answers.specs.Answers.{IsFoundText, IsStartedText, starts_text, IsEarliestText}
use Rattle.answers.specs.Outcomes.{SaysOutcome}
use Rattle.answers.proofs.OutcomeLaws.{said_is_true}
use Rattle.psmax_run.specs.Jobs.{has_workers, writes_record, IsAnswer, IsSearchAnswer, Job, SearchOptions}
use Rattle.psmax_run.specs.Outcomes.{AloneIsTrue, IsAloneText, IsStoppedText}
use Rattle.psmax_run.specs.Runs.{IsNoReply, RecordsWhereAsked}
use Rattle.plain_search.specs.Takes.{StopsOnlyAfter}
use Rattle.network.specs.declared.outcome.Outcome.{Outcome}
use Rattle.network.specs.declared.outcome.Outcome.TheVariants.{Optimal, NoSchedule, Stopped}
use Rattle.std.proofs.lemmas.List.{get_or_default}
use Rattle.std.proofs.lemmas.List.Elements.{All-nil}
use Rattle.network.specs.declared.parts.Pair.{Pair}
use Rattle.network.specs.Problem.{IsProject, Problem, activity_count, arcs_of}
use Rattle.network.specs.Schedule.{makespan}
use Rattle.network.specs.Walk.{Rows, IsMatrixOf}
use Rattle.longest_path.specs.Ends.{AreEarliestFor}

pub alone_is_true : AloneIsTrue
alone_is_true p takes outcome json exit written is below only said = record {
  said = said_is_true p outcome true json exit written is (λ _. below) said;
  stopped = stopped outcome only said;
}
  where
    stopped : (outcome : Outcome) → StopsOnlyAfter p takes outcome → SaysOutcome outcome json exit written → exit ≡ 3 → IsStoppedText p takes json exit written
    stopped (Stopped best bound) only said three = record { outcome = Stopped best bound; after = only; says = said }
    stopped outcome only said three = let zero = said.0 in absurd (omega (arith, zero, three))

none_recorded : (workers : Option ℕ) (start recorded : Bool) → (is_some workers || (start || recorded)) ≡ false → recorded ≡ false
none_recorded None false recorded alone = alone
none_recorded None true recorded alone = cc
none_recorded (Some n) start recorded alone = cc

-- a job without workers writes no record
pub records_none : (job : Job) → has_workers job ≡ false → writes_record job ≡ false
records_none (jobs.Solve o) alone = none_recorded o.workers o.start o.recorded alone
records_none job alone = refl

-- what a search in one thread by itself answers is an answer of a job without workers
alone_said : (workers : Option ℕ) (start json recorded : Bool) (nodes : ℕ) (text more : List ℕ) (exit : ℕ) (written : List ℕ) →
    (is_some workers || (start || recorded)) ≡ false → SpellsOne text (λ p. IsAloneText p nodes json exit written) →
    IsSearchAnswer start (is_some workers || recorded) nodes json text more exit written
alone_said None false json false nodes text more exit written alone h = h
alone_said workers start json recorded nodes text more exit written alone h = cc

pub answers_alone : (job : Job) (o : SearchOptions) (text more : List ℕ) (exit : ℕ) (written : List ℕ) → job ≡ jobs.Solve o →
    has_workers job ≡ false → SpellsOne text (λ p. IsAloneText p o.nodes o.json exit written) → IsAnswer job text more exit written
answers_alone job o text more exit written is alone h =
    rw is (alone_said o.workers o.start o.json o.recorded o.nodes text more exit written (rw is at alone) h)

-- what workers answer without a start is an answer of a job with workers
unstarted_said : (workers : Option ℕ) (start json recorded : Bool) (nodes : ℕ) (text more : List ℕ) (exit : ℕ) (written : List ℕ) →
    start ≡ false → (is_some workers || (start || recorded)) ≡ true → SpellsOne text (λ p. IsFoundText p None json exit written) →
    IsSearchAnswer start (is_some workers || recorded) nodes json text more exit written
unstarted_said None false json true nodes text more exit written off has h = h
unstarted_said None false json false nodes text more exit written off has h = cc
unstarted_said (Some n) false json recorded nodes text more exit written off has h = h
unstarted_said workers true json recorded nodes text more exit written off has h = cc

pub answers_unstarted : (o : SearchOptions) (text more : List ℕ) (exit : ℕ) (written : List ℕ) → o.start ≡ false →
    has_workers (jobs.Solve o) ≡ true → SpellsOne text (λ p. IsFoundText p None o.json exit written) → IsAnswer (jobs.Solve o) text more exit written
answers_unstarted o text more exit written off has h = unstarted_said o.workers o.start o.json o.recorded o.nodes text more exit written off has h

-- what workers answer from a start is an answer of a job with a start
started_said : (start by_workers json : Bool) (nodes : ℕ) (text more : List ℕ) (exit : ℕ) (written : List ℕ) → start ≡ true →
    SpellsOne text (λ p. GivesStarts p more (λ starts. IsStartedText p starts json exit written)) →
    IsSearchAnswer start by_workers nodes json text more exit written
started_said true by_workers json nodes text more exit written on h = h
started_said false by_workers json nodes text more exit written on h = cc

pub answers_started : (o : SearchOptions) (text more : List ℕ) (exit : ℕ) (written : List ℕ) → o.start ≡ true →
    SpellsOne text (λ p. GivesStarts p more (λ starts. IsStartedText p starts o.json exit written)) → IsAnswer (jobs.Solve o) text more exit written
answers_started o text more exit written on h = started_said o.start (is_some o.workers || o.recorded) o.json o.nodes text more exit written on h

-- ---- replies

-- a job without workers has no record
pub records_nothing : (job : Job) (exit : ℕ) (text : List ℕ) → has_workers job ≡ false
    → RecordsWhereAsked job (record { exit = exit; text = text; recorded = None })
records_nothing job exit text alone = ((λ (some : false ≡ true). cc), (λ asked. let off = records_none job alone in let on = asked.0 in cc))

-- where an output failed there is a reply, and nothing to be said of a text
pub write_has_reply : (job : Job) (first second : Option (List ℕ)) (fault : Fault) → fault ≡ faults.WriteFailed → IsNoReply job first second fault
write_has_reply job first second fault is = record {
  of_text = λ other. absurd (other (ap exit_of is));
  of_workers = λ bad. absurd (write_is_no_search fault is bad);
  of_search = λ bad. absurd (write_is_no_search fault is bad);
}

-- ---- What `earliest` is to write.

-- the least schedule that a matrix without pairs gives, with its last start
pub least_said : (p : Problem) (rows : Rows) (starts : List ℤ) (n : ℕ) (last d : ℤ) (text : List ℕ) → IsProject p
    → IsMatrixOf (activity_count p) (arcs_of p []) rows → AreEarliestFor rows starts →
    n ≡ activity_count p → last ≡ get_or starts (n - 1) d → text ≡ starts_text (codes "earliest") last starts → IsEarliestText p 0 text
least_said p rows starts n last d text is m earliest count at said =
    let none = All-nil (λ (q : Pair). (q.before < activity_count p) × (q.after < activity_count p)) in
    let are = earliest p [] (record { limits = is; named = none; matrix = m }) in
    let long : length starts ≡ activity_count p = are.limits.count in
    let same : n ≡ length starts = count ∙ sym long in
    let inside : length starts - 1 < length starts = omega arith in
    let last_is : last ≡ makespan starts = at ∙ ap (λ k. get_or starts (k - 1) d) same ∙ get_or_default starts (length starts - 1) d (pos 0) inside in
    inl (record { starts = starts; least = are.least; text = said ∙ ap (λ z. starts_text (codes "earliest") z starts) last_is; status = refl })
