-- The story of a run: what it reads of its inputs, what it replies, and what it writes to its outputs.
use Rattle.std.specs.Prelude.{◌≡◌, ℕ, ◌+◌, ◌≤◌, ◌++◌, List, [], length, take, Option, Some, None, ◌⊎◌, ◌≢◌, true, false, IsSomeAnd, IfNone, IfSome, MatchOption}
use Rattle.std.specs.Io.KnownBytes.{Appends, Consumes, IsAtEnd}
use Rattle.words.specs.declared.TheConstants.{MAX_TEXT_BYTES}
use Rattle.devices.specs.declared.ended.Ended.{Ended}
use Rattle.devices.specs.declared.fault.Fault.{Fault}
use Rattle.devices.specs.declared.fault.Fault.TheVariants as faults
use Rattle.devices.specs.Faults.{exit_of}
use Rattle.devices.specs.Texts.{Inputs, SpellsNone}

-- ---- What an input gave and an output took, and the failures that they count.

-- a device before and after a while: the device itself, the bytes that it tells (those that an input has left, and those
-- that an output took), and how often it failed
pub record Span (D : Type 0) : Type 0 where
  pub old : D
  pub new : D
  pub told : Option (List ℕ)
  pub told_after : Option (List ℕ)
  pub failures : ℕ
  pub failures_after : ℕ

abbrev pub span : {D : Type 0} → (D → Option (List ℕ)) → (D → ℕ) → D → D → Span D
span told failures old new = record {
  old = old;
  new = new;
  told = told old;
  told_after = told new;
  failures = failures old;
  failures_after = failures new;
}

-- nobody called the device
abbrev pub IsUntouched : {D : Type 0} → Span D → Type 0
IsUntouched device = device.new ≡ device.old

-- where the input tells its bytes, they have this property
abbrev pub IfKnown : Option (List ℕ) → (List ℕ → Type 0) → Type 0
IfKnown told P = (bytes : List ℕ) → told ≡ Some bytes → P bytes

-- an input gave no more than so many bytes
pub record GaveUpTo {D : Type 0} (most : ℕ) (input : Span D) : Type 0 where
  pub front : List ℕ
  pub given : Consumes input.told input.told_after front
  pub within : length front ≤ most

-- or some bytes, without a limit
abbrev pub GaveSome : {D : Type 0} → Span D → Type 0
GaveSome input = (front : List ℕ) × Consumes input.told input.told_after front

-- a text went on with what an input gave, until it had so many bytes or the input ended
pub record ReadsOn (most : ℕ) (text : List ℕ) (told : Option (List ℕ)) (more : List ℕ) (told_after : Option (List ℕ)) : Type 0 where
  pub piece : List ℕ
  pub is : more ≡ text ++ piece
  pub given : Consumes told told_after piece
  pub within : length more ≤ most
  pub enough : (length more ≡ most) ⊎ IsAtEnd told_after

-- an output took these bytes
abbrev pub TookAll : {D : Type 0} → Span D → List ℕ → Type 0
TookAll output bytes = Appends output.told output.told_after bytes

-- or a beginning of them
pub record TookFront {D : Type 0} (output : Span D) (bytes : List ℕ) : Type 0 where
  pub taken : ℕ
  pub front : TookAll output (take taken bytes)

-- the device failed once, and counted it; or it didn't fail
abbrev pub HasFailed : {D : Type 0} → Span D → Type 0
HasFailed device = device.failures_after ≡ device.failures + 1

abbrev pub NeverFailed : {D : Type 0} → Span D → Type 0
NeverFailed device = device.failures_after ≡ device.failures

-- the device failed exactly where this is so
pub record FailedWhere {D : Type 0} (Here : Type 0) (device : Span D) : Type 0 where
  pub here : Here → HasFailed device
  pub elsewhere : ¬ Here → NeverFailed device

-- one of two devices failed exactly where this is so, and never both
pub record OneFailedWhere {D E : Type 0} (Here : Type 0) (device : Span D) (other : Span E) : Type 0 where
  pub here : Here → (HasFailed device × NeverFailed other) ⊎ (NeverFailed device × HasFailed other)
  pub elsewhere : ¬ Here → NeverFailed device × NeverFailed other

-- ---- a device that may be missing

-- no input has nothing left
abbrev pub left_of : {D : Type 0} → (D → Option (List ℕ)) → Option D → Option (List ℕ)
left_of left None = Some []
left_of left (Some device) = left device

-- no output tells what it took
abbrev pub held_of : {D : Type 0} → (D → Option (List ℕ)) → Option D → Option (List ℕ)
held_of held None = None
held_of held (Some device) = held device

-- and neither ever fails
abbrev pub failed_of : {D : Type 0} → (D → ℕ) → Option D → ℕ
failed_of failed None = 0
failed_of failed (Some device) = failed device

-- ---- what a run reads

-- the input tells a text that spells no project
pub record TellsNoProject (told : Option (List ℕ)) : Type 0 where
  pub text : List ℕ
  pub tells : told ≡ Some text
  pub none : SpellsNone text

-- the input gave no project: it failed, or its text spells none
abbrev pub GaveNoProject : {D : Type 0} → Span D → Type 0
GaveNoProject input = ¬ NeverFailed input ⊎ TellsNoProject input.told

-- of each input no more bytes are read than a text may have, and one more that shows that there are more; and one of them
-- failed exactly where this is so
pub record HasReadTexts {I S : Type 0} (Failed : Type 0) (first : Span I) (second : Span S) : Type 0 where
  pub within : GaveUpTo (MAX_TEXT_BYTES + 1) first
  pub second_within : GaveUpTo (MAX_TEXT_BYTES + 1) second
  pub failed : OneFailedWhere Failed first second

-- What a run reads of its two inputs. A second input that it doesn't use is left alone. The project is read and judged
-- first: where there is none, starts on the other input are left alone.
pub record HasRead {I S : Type 0} (reads : Inputs) (Failed : Type 0) (first : Span I) (second : Span S) : Type 0 where
  pub inputs : HasReadTexts Failed first second
  pub unused : reads.second ≡ false → IsUntouched second
  pub project_second : reads.project_second ≡ true → GaveNoProject second → IsUntouched first
  pub project_first : reads.project_second ≡ false → GaveNoProject first → IsUntouched second

-- ---- what it replies

-- an answer with its exit status, and the record of a search, if there is one
pub record ReplyOf : Type 0 where
  pub exit : ℕ
  pub text : List ℕ
  pub recorded : Option (List ℕ)

-- ---- what it writes

-- the reply was written whole: the answer, and then the record, if there is one
pub record IsWritten {O D : Type 0} (reply : ReplyOf) (out : Span O) (record_out : Span D) : Type 0 where
  pub answer : TookAll out reply.text
  pub recorded : MatchOption reply.recorded (IsUntouched record_out) (TookAll record_out)

-- an output failed: a beginning of the answer was written and nothing of the record, or all of the answer and a
-- beginning of the record
abbrev pub IsCutShort : {O D : Type 0} → ReplyOf → Span O → Span D → Type 0
IsCutShort reply out record_out =
    (TookFront out reply.text × IsUntouched record_out)
    ⊎ (TookAll out reply.text × IsSomeAnd reply.recorded (TookFront record_out))

-- ---- how it ends

-- no device stands here
abbrev pub absent : Span (Unit {0})
absent = span (λ device. None) (λ device. 0) tt tt

-- A run ends with its reply written, or with a fault. Each kind of run says what a reply is (Replied), what the outputs hold
-- where one failed (CutOff) or where there is no answer (Unanswered), and why there is no reply (NoReply).
pub record Ends {O D : Type 0}
    (Replied : (ReplyOf → Type 0) → Type 0) (CutOff Unanswered : Type 0) (NoReply : Fault → Type 0)
    (out : Span O) (record_out : Span D) (ended : Ended) : Type 0 where
  -- no fault: the reply was written whole
  pub replied : IfNone ended.fault (Replied (λ reply. (ended.exit ≡ reply.exit) × IsWritten reply out record_out))
  -- an output failed
  pub cut_off : ended.fault ≡ Some faults.WriteFailed → CutOff
  -- any other fault: there is no reply, and no answer was written
  pub refused : IfSome ended.fault NoReply
  pub silent : IfSome ended.fault (λ fault. fault ≢ faults.WriteFailed → Unanswered)
  pub status : IfSome ended.fault (λ fault. ended.exit ≡ exit_of fault)
  -- an output failed exactly where this is told
  pub failed : OneFailedWhere (ended.fault ≡ Some faults.WriteFailed) out record_out
