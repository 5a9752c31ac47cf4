-- What psmax says of an outcome, and what a record beside it claims.
use Rattle.std.specs.Prelude.{◌≡◌, ℕ, List, Bool, true, false, None}
use Rattle.network.specs.Problem.{Problem}
use Rattle.network.specs.declared.outcome.Outcome.{Outcome}
use Rattle.network.specs.Verdicts.{IsTrueOf, StopsBelowBest}
use Rattle.plain_search.specs.Takes.{IsStoppedAfter, StopsOnlyAfter}
use Rattle.record_text.specs.declared.line.Claim.{Claim}
use Rattle.record_text.specs.declared.line.Claim.TheVariants as claims
use Rattle.record_text.specs.Tree.{SearchRecord}
use Rattle.record_text.specs.Kinds.{record_text}
use Rattle.record_text.specs.Text.{search_kind}
use Rattle.search_record.specs.Right.{IsRight}
use Rattle.answers.specs.Answers.{optimal_text, no_schedule_text, IsSolveText, IsFoundText}
use Rattle.answers.specs.Outcomes.{SaysOutcome}

-- what one thread says that was stopped: what it knew after so many takes
pub record IsStoppedText (p : Problem) (takes : ℕ) (json : Bool) (exit : ℕ) (written : List ℕ) : Type 0 where
  pub outcome : Outcome
  pub after : IsStoppedAfter p takes outcome
  pub says : SaysOutcome outcome json exit written

-- what one thread says that searched by itself
pub record IsAloneText (p : Problem) (takes : ℕ) (json : Bool) (exit : ℕ) (written : List ℕ) : Type 0 where
  pub said : IsSolveText p true json exit written
  pub stopped : exit ≡ 3 → IsStoppedText p takes json exit written

abbrev pub AloneIsTrue : Type 0
AloneIsTrue = (p : Problem) (takes : ℕ) (outcome : Outcome) (json : Bool) (exit : ℕ) (written : List ℕ) →
    IsTrueOf p outcome → StopsBelowBest outcome → StopsOnlyAfter p takes outcome → SaysOutcome outcome json exit written →
    IsAloneText p takes json exit written

-- what is said where no start was handed in, by workers or by one thread
abbrev pub IsUnstartedText : Problem → Bool → ℕ → Bool → ℕ → List ℕ → Type 0
IsUnstartedText p true takes json exit written = IsFoundText p None json exit written
IsUnstartedText p false takes json exit written = IsAloneText p takes json exit written

-- the answer that says what is claimed
abbrev pub claim_text : Bool → Claim → List ℕ
claim_text json (claims.Optimal length starts) = optimal_text json starts
claim_text json claims.NoSchedule = no_schedule_text json

-- the text is that of a record that is right for the project and claims what the answer says
pub record IsRightRecord (p : Problem) (json : Bool) (written recorded : List ℕ) : Type 0 where
  pub shown : SearchRecord
  pub right : IsRight p shown
  pub claims : written ≡ claim_text json shown.claim
  pub text : recorded ≡ record_text search_kind shown
