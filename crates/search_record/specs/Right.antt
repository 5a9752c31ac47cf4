-- When a record is right for a project.
use Rattle.std.specs.Prelude.{◌↔◌, ℤ, Bool, IsTrue, Option, Some, None, List, [], ◌<◌, ◌∷◌, ℕ}
use Rattle.std.specs.List.{All}
use Rattle.network.specs.declared.parts.Pair.{Pair}
use Rattle.network.specs.Problem.{Problem, activity_count, NameActivities, AreStarts}
use Rattle.network.specs.Walk.{IsProjectMatrix, Rows}
use Rattle.network.specs.Schedule.{IsFeasible, makespan, ScheduleOf, IsTrueVerdict}
use Rattle.branching.specs.Subproblem.{IsLive}
use Rattle.branching.specs.Right.{IsForced, IsRightSet, IsInfeasible, IsCutUnder, IsSolvedUnder}
use Rattle.record_text.specs.declared.line.Claim.{Claim}
use Rattle.record_text.specs.declared.line.Claim.TheVariants as claims
use Rattle.record_text.specs.declared.line.Line.{Line}
use Rattle.record_text.specs.declared.line.Line.TheVariants as kind
use Rattle.record_text.specs.Tree.{SearchRecord, IsTreeOf, Tree}
use Rattle.search_record.specs.Due.{Place, places}
use Rattle.record_text.specs.declared.fault.RecordFault.{RecordFault}
use Rattle.record_text.specs.declared.fault.RecordFaultKind.{RecordFaultKind}
use Rattle.record_text.specs.declared.fault.RecordFaultKind.TheVariants as why
use Rattle.record_text.specs.FirstWrong.{HasMakespan, IsFirstWrongOf, Judge, IsRightBy, IsFirstFaultBy}
use Rattle.record_text.specs.Kinds.{first_line}
use Rattle.record_text.specs.Text.{search_kind, says}

-- the makespan that no schedule may be below, if one is claimed
abbrev pub limit_of : Claim → Option ℤ
limit_of (claims.Optimal makespan starts) = Some makespan
limit_of claims.NoSchedule = None

-- what the line says of a node with these pairs is so
abbrev pub IsRightLine : Problem → Option ℤ → List Pair → Line → Type 0
IsRightLine p limit pairs (kind.Force pair) = IsForced p pairs pair
IsRightLine p limit pairs kind.Solved = IsSolvedUnder p pairs limit
IsRightLine p limit pairs kind.Cut = IsCutUnder p pairs limit
IsRightLine p limit pairs kind.Dead = IsInfeasible p pairs
IsRightLine p limit pairs (kind.Split resource members) = IsLive p pairs × IsRightSet p resource members

-- whatever pairs the rows are the matrix of, the test tells whether this holds of them
abbrev pub Tells : Problem → Rows → (List Pair → Type 0) → Bool → Type 0
Tells p rows Holds test = (pairs : List Pair) → IsProjectMatrix p pairs rows → IsTrue test ↔ Holds pairs

abbrev pub IsRightPlace : Problem → Option ℤ → Place → Type 0
IsRightPlace p limit here = IsRightLine p limit here.pairs here.line

-- they are lines of a tree whose first node has no pairs, and all are right
pub record AreRightLines (p : Problem) (limit : Option ℤ) (lines : List Line) : Type 0 where
  pub whole : Tree
  pub tree_of : IsTreeOf lines whole
  pub right : All (IsRightPlace p limit) (places [] whole)

-- the starts are a feasible schedule of the makespan that is claimed
abbrev pub AreRightStarts : Problem → Claim → Type 0
AreRightStarts p (claims.Optimal length starts) = HasMakespan p starts length
AreRightStarts p claims.NoSchedule = Unit {0}

-- ---- Which lines name activities alone.

-- the numbers of the line are those of activities
abbrev pub NamesActivities : Problem → Line → Type 0
NamesActivities p (kind.Force pair) = NameActivities p (pair ∷ [])
NamesActivities p (kind.Split resource members) = All (λ i. i < activity_count p) members
NamesActivities p line = Unit {0}

-- ---- What a search claims in the end.

-- that its best schedule is a shortest one, or that there is no schedule where it found none
abbrev pub claim_of : Option ScheduleOf → Claim
claim_of None = claims.NoSchedule
claim_of (Some best) = claims.Optimal (makespan best.starts) best.starts

-- a schedule as its type keeps it
abbrev pub IsKeptSchedule : ScheduleOf → Type 0
IsKeptSchedule s = IsFeasible s.project s.starts × AreStarts s.project s.starts

-- ---- The first fault of a record that is not right.

-- what is wrong where a line is
abbrev pub why_wrong : Line → RecordFaultKind
why_wrong (kind.Force pair) = why.Force
why_wrong (kind.Split resource members) = why.Set
why_wrong leaf = why.Leaf

abbrev pub why_wrong_at : Place → RecordFaultKind
why_wrong_at here = why_wrong here.line

-- of the lines of a tree, which are numbered from this one, the first that is not right
pub record IsFirstWrong
    (p : Problem) (limit : Option ℤ) (first : ℕ) (lines : List Line) (fault : RecordFault) : Type 0 where
  pub whole : Tree
  pub tree_of : IsTreeOf lines whole
  pub first_of : IsFirstWrongOf (IsRightPlace p limit) why_wrong_at first (places [] whole) fault

-- the same where the root of the tree is dead, whatever the project and the limit
abbrev pub IsFirstWrongOfDead : ℕ → List Line → RecordFault → Type 0
IsFirstWrongOfDead first lines fault =
    (p : Problem) (limit : Option ℤ) → IsInfeasible p [] → IsFirstWrong p limit first lines fault

-- ---- What is right in a record of a search.

abbrev pub search_judge : Judge Claim Line
search_judge = record {
  AreRightStarts = AreRightStarts;
  AreRightLines = λ p claim lines. AreRightLines p (limit_of claim) lines;
  IsFirstWrong = λ p claim lines fault. IsFirstWrong p (limit_of claim) (first_line search_kind claim) lines fault;
}

abbrev pub IsRight : Problem → SearchRecord → Type 0
IsRight p r = IsRightBy search_judge p r

abbrev pub IsFirstFault : Problem → SearchRecord → RecordFault → Type 0
IsFirstFault p r fault = IsFirstFaultBy search_judge p r fault

-- what a right record claims is true
abbrev pub RightIsTrue : Type 0
RightIsTrue = (p : Problem) (r : SearchRecord) → IsRight p r → IsTrueVerdict p (says r.claim)
