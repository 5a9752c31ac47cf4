-- What a run of psmax replies to its inputs, and why it has no reply.
use Rattle.std.specs.Prelude.{◌≡◌, ℕ, List, Option, ◌≢◌, ◌↔◌, true, IsSome, IfSome}
use Rattle.devices.specs.declared.fault.Fault.{Fault}
use Rattle.devices.specs.Faults.{exit_of, IsSearchFault}
use Rattle.devices.specs.declared.ended.Ended.{Ended}
use Rattle.devices.specs.Runs.{Ends, IsCutShort, IsUntouched, ReplyOf, Span}
use Rattle.devices.specs.Texts.{IfTextsKnown, IsSearched, SpellsOne}
use Rattle.psmax_run.specs.Jobs.{answers_json, has_workers, reads_second, writes_record, IsAnswer, IsRefusal, Job}
use Rattle.psmax_run.specs.Outcomes.{IsRightRecord}

-- a record comes exactly where the job asks for one and the answer is final
abbrev pub RecordsWhereAsked : Job → ReplyOf → Type 0
RecordsWhereAsked job reply = IsSome reply.recorded ↔ ((writes_record job ≡ true) × (reply.exit ≡ 0))

-- the answer to the two texts, and a record that is right for the project and claims what the answer says
pub record IsReply (job : Job) (reply : ReplyOf) (text more : List ℕ) : Type 0 where
  pub answer : IsAnswer job text more reply.exit reply.text
  pub recorded : IfSome reply.recorded (λ r. SpellsOne text (λ p. IsRightRecord p (answers_json job) reply.text r))

-- the job replies to what its inputs tell, and this is done with the reply
pub record Replies (job : Job) (first second : Option (List ℕ)) (Done : ReplyOf → Type 0) : Type 0 where
  pub reply : ReplyOf
  pub records : RecordsWhereAsked job reply
  pub right : IfTextsKnown (reads_second job) first second (IsReply job reply)
  pub done : Done reply

-- Why the job has no reply. The fault of a text comes where the texts have no answer, and one that only a search ends
-- with where workers have searched.
pub record IsNoReply (job : Job) (first second : Option (List ℕ)) (fault : Fault) : Type 0 where
  pub of_text : exit_of fault ≢ 1 → IfTextsKnown (reads_second job) first second (λ text more. IsRefusal job text more fault)
  pub of_workers : IsSearchFault fault → has_workers job ≡ true
  pub of_search : IsSearchFault fault → IfTextsKnown (reads_second job) first second (IsSearched (reads_second job))

-- how a run of the job ends, whose inputs tell this
abbrev pub Runs : {O D : Type 0} → Job → Option (List ℕ) → Option (List ℕ) → Span O → Span D → Ended → Type 0
Runs job first second out record_out ended =
    Ends (Replies job first second) (Replies job first second (λ reply. IsCutShort reply out record_out))
    (IsUntouched out × IsUntouched record_out) (IsNoReply job first second) out record_out ended
