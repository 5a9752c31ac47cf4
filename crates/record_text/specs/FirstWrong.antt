-- What a right record proves, and the first fault of one that is not right for a project, whatever is right.
use Rattle.std.specs.Prelude.{◌≡◌, ◌≢◌, ◌⊎◌, ℕ, ℤ, ◌+◌, List, ◌∷◌, ◌++◌, length, Result, OnOk, IfOk, IfErr}
use Rattle.std.specs.List.{All}
use Rattle.network.specs.Problem.{Problem}
use Rattle.network.specs.Schedule.{IsFeasible, makespan, IsTrueVerdict}
use Rattle.record_text.specs.declared.fault.RecordFault.{RecordFault}
use Rattle.record_text.specs.declared.fault.RecordFaultKind.{RecordFaultKind}
use Rattle.record_text.specs.declared.fault.RecordFaultKind.TheVariants as why
use Rattle.network.specs.declared.verdict.Verdict.{Verdict}
use Rattle.record_text.specs.Kinds.{RecordOf, Kind}

-- the starts are a feasible schedule of this makespan
abbrev pub HasMakespan : Problem → List ℤ → ℤ → Type 0
HasMakespan p starts length = IsFeasible p starts × (makespan starts ≡ length)

-- what is right in records of a kind: the starts of a claim, and lines, of which one may be the first that is wrong
pub record Judge (Claim Line : Type 0) : Type 1 where
  pub AreRightStarts : Problem → Claim → Type 0
  pub AreRightLines : Problem → Claim → List Line → Type 0
  pub IsFirstWrong : Problem → Claim → List Line → RecordFault → Type 0

pub record IsRightBy {Claim Line : Type 0} (j : Judge Claim Line) (p : Problem) (r : RecordOf Claim Line) : Type 0 where
  pub starts : j.AreRightStarts p r.claim
  pub lines : j.AreRightLines p r.claim r.lines

-- of lines, each in its place, which are numbered from this one, the first that is not right
pub record IsFirstWrongOf
    {Place : Type 0} (IsRight : Place → Type 0) (why_wrong : Place → RecordFaultKind) (first : ℕ) (places : List Place)
    (fault : RecordFault) : Type 0 where
  pub before : List Place
  pub here : Place
  pub behind : List Place
  pub placed : places ≡ before ++ here ∷ behind
  pub right : All IsRight before
  pub wrong : ¬ IsRight here
  pub line : fault.line ≡ first + length before
  pub kind : fault.kind ≡ why_wrong here

-- the starts are wrong
pub record HasWrongStarts (AreRightStarts : Type 0) (fault : RecordFault) : Type 0 where
  pub wrong : ¬ AreRightStarts
  pub is : fault ≡ record { line = 3; kind = why.Start }

-- the starts are right, and a line is the first that is wrong
pub record HasWrongLine (AreRightStarts IsFirstWrong : Type 0) : Type 0 where
  pub starts : AreRightStarts
  pub first : IsFirstWrong

-- the starts come first, then the lines in their order
abbrev pub IsFirstFaultBy : {Claim Line : Type 0} → Judge Claim Line → Problem → RecordOf Claim Line → RecordFault → Type 0
IsFirstFaultBy j p r fault =
    HasWrongStarts (j.AreRightStarts p r.claim) fault
    ⊎ HasWrongLine (j.AreRightStarts p r.claim) (j.IsFirstWrong p r.claim r.lines fault)

-- a record with a first fault is not right
abbrev pub FaultIsWrong : {Claim Line : Type 0} → Judge Claim Line → Type 0
FaultIsWrong {Claim} {Line} j =
    (p : Problem) (r : RecordOf Claim Line) (fault : RecordFault) → IsFirstFaultBy j p r fault → ¬ IsRightBy j p r

-- and has no other
abbrev pub OtherFaultIsNone : {Claim Line : Type 0} → Judge Claim Line → Type 0
OtherFaultIsNone {Claim} {Line} j =
    (p : Problem) (r : RecordOf Claim Line) (a b : RecordFault) → IsFirstFaultBy j p r a → IsFirstFaultBy j p r b → a ≡ b

-- a right record proves what it claims, which is true; of another the first fault is told, unless memory ran out
pub record IsVerdict
    {Claim Line : Type 0} (k : Kind Claim Line) (j : Judge Claim Line) (p : Problem) (r : RecordOf Claim Line)
    (result : Result Verdict RecordFault) : Type 0 where
  pub right : OnOk result (IsRightBy j p r)
  pub proved : IfOk result (λ proved. proved ≡ k.says r.claim)
  pub holds : IfOk result (IsTrueVerdict p)
  pub fault : IfErr result (λ fault. fault.kind ≢ why.Memory → IsFirstFaultBy j p r fault)
  pub only : IsRightBy j p r → IfErr result (λ fault. fault.kind ≡ why.Memory)
