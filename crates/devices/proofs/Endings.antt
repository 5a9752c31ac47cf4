-- How a run ends with a fault, and what was read before.
use Rattle.std.proofs.Common.{◌≡◌, ◌≢◌, ℕ, List, Option, None, Some, Err, Result, refl, ap, ◌∙◌, inl, inr}
use Rattle.std.specs.Prelude.{IfNone, IfSome}
use Rattle.std.specs.Option.{MatchOption}
use Rattle.devices.specs.declared.fault.Fault.{Fault}
use Rattle.devices.specs.declared.fault.Fault.TheVariants as faults
use Rattle.devices.specs.declared.ended.Ended.{Ended}
use Rattle.devices.specs.Faults.{exit_of, IsSearchFault}
use Rattle.devices.specs.Runs.{Ends, FailedWhere, HasRead, HasReadTexts, IsCutShort, IsUntouched, IsWritten, NeverFailed, OneFailedWhere, ReplyOf, Span, TookAll, absent}
use Rattle.devices.specs.Texts.{Inputs}

pub write_is_no_search : (fault : Fault) → fault ≡ faults.WriteFailed → ¬ IsSearchFault fault
write_is_no_search fault is (inl e) = cc
write_is_no_search fault is (inr (inl e)) = cc
write_is_no_search fault is (inr (inr e)) = cc

-- no answer, but this fault
abbrev pub failed_with : (A : Type 0) → Fault → Result A Fault
failed_with A fault = Err fault

pub MatchOption-weaker : {T : Type 0} (o : Option T) {P P' : Type 0} {Q Q' : T → Type 0} → MatchOption o P Q → (P → P')
    → ((x : T) → Q x → Q' x) → MatchOption o P' Q'
MatchOption-weaker None h p q = p h
MatchOption-weaker (Some x) h p q = q x h

-- ---- what was read

-- the failure is told in other words
inputs_where : {I S P Q : Type 0} (first : Span I) (second : Span S) → (P → Q) → (Q → P)
    → HasReadTexts P first second → HasReadTexts Q first second
inputs_where first second to from read = record {
  within = read.within;
  second_within = read.second_within;
  failed = record {
    here = λ q. read.failed.here (from q);
    elsewhere = λ no. read.failed.elsewhere (λ p. no (to p));
  };
}

-- a failure to read is told as it is
pub inputs_are_told : {I S : Type 0} (A : Type 0) (first : Span I) (second : Span S) (fault : Fault) (told : Option Fault) → told ≡ Some fault →
    HasReadTexts (failed_with A fault ≡ failed_with A faults.ReadFailed) first second → HasReadTexts (told ≡ Some faults.ReadFailed) first second
inputs_are_told A first second fault told tells = inputs_where first second
    (λ (e : failed_with A fault ≡ failed_with A faults.ReadFailed). let is : fault ≡ faults.ReadFailed = cc in tells ∙ ap Some is)
    (λ (e : told ≡ Some faults.ReadFailed). let is : fault ≡ faults.ReadFailed = cc in ap (failed_with A) is)

pub read_is_told : {I S : Type 0} (A : Type 0) (reads : Inputs) (first : Span I) (second : Span S) (fault : Fault) (told : Option Fault) → told ≡ Some fault →
    HasRead reads (failed_with A fault ≡ failed_with A faults.ReadFailed) first second → HasRead reads (told ≡ Some faults.ReadFailed) first second
read_is_told A reads first second fault told tells read = record {
  inputs = inputs_are_told A first second fault told tells read.inputs;
  unused = read.unused;
  project_second = read.project_second;
  project_first = read.project_first;
}

-- ---- the whole end

pub none_as : {A P Q : Type 0} (o : Option A) → (P → Q) → IfNone o P → IfNone o Q
none_as None f p = f p
none_as (Some x) f p = tt

pub some_as : {A : Type 0} {P Q : A → Type 0} (o : Option A) → ((x : A) → P x → Q x) → IfSome o P → IfSome o Q
some_as None f p = tt
some_as (Some x) f p = f x p

-- there is a reply: it was written, or an output failed
pub ends_with_reply : {O D : Type 0} (Replied : (ReplyOf → Type 0) → Type 0) (NoReply : Fault → Type 0)
    (out : Span O) (record_out : Span D) (reply : ReplyOf) (ended : Ended)
    → ((Done : ReplyOf → Type 0) → Done reply → Replied Done)
    → ((fault : Fault) → fault ≡ faults.WriteFailed → NoReply fault)
    → IfNone ended.fault ((ended.exit ≡ reply.exit) × IsWritten reply out record_out)
    → (ended.fault ≡ Some faults.WriteFailed → IsCutShort reply out record_out)
    → IfSome ended.fault (λ fault. (fault ≡ faults.WriteFailed) × (ended.exit ≡ exit_of fault))
    → OneFailedWhere (ended.fault ≡ Some faults.WriteFailed) out record_out
    → Ends Replied (Replied (λ reply. IsCutShort reply out record_out)) (IsUntouched out × IsUntouched record_out) NoReply
    out record_out ended
ends_with_reply Replied NoReply out record_out reply ended replied none whole short fault one = record {
  replied = none_as ended.fault (λ w. replied (λ reply. (ended.exit ≡ reply.exit) × IsWritten reply out record_out) w) whole;
  cut_off = λ is. replied (λ reply. IsCutShort reply out record_out) (short is);
  refused = some_as ended.fault (λ f is. none f is.0) fault;
  silent = some_as ended.fault (λ f is other. absurd (other is.0)) fault;
  status = some_as ended.fault (λ f is. is.1) fault;
  failed = one;
}

-- there is none, and nothing was written
pub ends_with_fault : {O D : Type 0} (Replied : (ReplyOf → Type 0) → Type 0) (CutOff Unanswered : Type 0) (NoReply : Fault → Type 0)
    (out : Span O) (record_out : Span D) (fault : Fault) (ended : Ended)
    → ended.fault ≡ Some fault → ended.exit ≡ exit_of fault → fault ≢ faults.WriteFailed → NoReply fault → Unanswered
    → NeverFailed out → NeverFailed record_out
    → Ends Replied CutOff Unanswered NoReply out record_out ended
ends_with_fault Replied CutOff Unanswered NoReply out record_out fault ended told status other none nothing never never_record = record {
  replied = rw told tt;
  cut_off = λ bad. absurd (other (cc (told, bad)));
  refused = rw told none;
  silent = rw told (λ is. nothing);
  status = rw told status;
  failed = record {
    here = λ bad. absurd (other (cc (told, bad)));
    elsewhere = λ no. (never, never_record);
  };
}

-- an answer without a record was written, or its output failed
pub written_alone : {O : Type 0} (out : Span O) (text : List ℕ) (exit : ℕ) (ended : Ended)
    → IfNone ended.fault ((ended.exit ≡ exit) × TookAll out text)
    → IfNone ended.fault ((ended.exit ≡ exit) × IsWritten (record { exit = exit; text = text; recorded = None }) out absent)
written_alone out text exit ended = none_as ended.fault (λ w. (w.0, record { answer = w.1; recorded = refl }))

pub failed_alone : {O Here : Type 0} (out : Span O) → FailedWhere Here out → OneFailedWhere Here out absent
failed_alone out failed = record {
  here = λ is. inl (failed.here is, refl);
  elsewhere = λ no. (failed.elsewhere no, refl);
}
