-- What the texts on inputs hold: a project, and starts for it.
use Rattle.std.specs.Prelude.{ℕ, Option, Bool, true, false, ◌≡◌, List, ℤ, None, Some, ◌⊎◌}
use Rattle.network.specs.Problem.{Problem, activity_count, IsProject}
use Rattle.network.specs.Schedule.{IsFeasible}
use Rattle.sch_reader.specs.declared.fault.SchFault.{SchFault}
use Rattle.sch_reader.specs.Text.{Spells, IsFirstFault}
use Rattle.schedule_check.specs.declared.fault.StartsFault.{StartsFault}
use Rattle.schedule_check.specs.Starts.{starts_fault, starts_of}
use Rattle.answers.specs.Answers.{IsViolationsText}
use Rattle.devices.specs.declared.fault.Fault.{Fault}
use Rattle.devices.specs.declared.judging.Judged.{Judged}
use Rattle.devices.specs.declared.judging.Judged.TheVariants as judged
use Rattle.devices.specs.Faults.{fault_of, starts_fault_of}

-- which inputs a run reads: whether there is a second, and whether that has the project
pub record Inputs : Type 0 where
  pub second : Bool
  pub project_second : Bool

-- those of a search: a project, and starts where these are handed in
abbrev pub search_inputs : Bool → Inputs
search_inputs start = record { second = start; project_second = false }

-- the text spells a project, which has this property
pub record SpellsOne (text : List ℕ) (P : Problem → Type 0) : Type 0 where
  pub project : Problem
  pub is_project : IsProject project
  pub spells : Spells text project
  pub has : P project

-- the text spells no project
abbrev pub SpellsNone : List ℕ → Type 0
SpellsNone text = (p : Problem) → IsProject p → ¬ Spells text p

-- and this is its first fault
pub record HasFault (text : List ℕ) (fault : Fault) : Type 0 where
  pub none : SpellsNone text
  pub cause : SchFault
  pub first : IsFirstFault text cause
  pub told : fault ≡ fault_of cause

-- the text gives starts for the project, which have this property
pub record GivesStarts (p : Problem) (text : List ℕ) (P : List ℤ → Type 0) : Type 0 where
  pub read : starts_fault (activity_count p) text ≡ None
  pub has : P (starts_of (activity_count p) text)

-- starts that are a feasible schedule of the project, which is told; or others, and the answer says what they violate
abbrev pub IsJudged : Problem → Judged → List ℤ → Type 0
IsJudged p (judged.Feasible schedule) starts = (schedule ≡ record { project = p; starts = starts }) × IsFeasible p starts
IsJudged p (judged.Refused answer) starts = IsViolationsText p starts answer.exit answer.text.items

-- the text gives no starts for the project, and this is its first fault
pub record IsFirstStartsFault (p : Problem) (text : List ℕ) (fault : Fault) : Type 0 where
  pub cause : StartsFault
  pub first : starts_fault (activity_count p) text ≡ Some cause
  pub told : fault ≡ starts_fault_of cause

-- why a search has no answer
abbrev pub IsSearchRefusal : Bool → List ℕ → List ℕ → Fault → Type 0
IsSearchRefusal false text second fault = HasFault text fault
IsSearchRefusal true text second fault = HasFault text fault ⊎ SpellsOne text (λ p. IsFirstStartsFault p second fault)

-- a search has run: the text spells a project, and starts that were handed in are a feasible schedule of it
abbrev pub IsSearched : Bool → List ℕ → List ℕ → Type 0
IsSearched start text second = SpellsOne text (λ p. start ≡ true → GivesStarts p second (IsFeasible p))

-- where an input tells its text, and so does a second one that is read, the two texts have this property
abbrev pub IfTextsKnown : Bool → Option (List ℕ) → Option (List ℕ) → (List ℕ → List ℕ → Type 0) → Type 0
IfTextsKnown has_second left second P =
    (text more : List ℕ) → left ≡ Some text → (has_second ≡ true → second ≡ Some more) → P text more
