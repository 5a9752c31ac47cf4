use Rattle.std.proofs.Common.{◌∙◌, ap}
use Rattle.devices.specs.Faults.{exit_of}
use Rattle.devices.proofs.Endings.{MatchOption-weaker}
use Rattle.verify_run.proofs.Telling.{record_read_is_told}
use Rattle.verify_run.proofs.verifying.run_verify.Goals as goal

pub returns-in-Ok-clause-proved : goal.returns-in-Ok-clause-proved
returns-in-Ok-clause-proved g c =
    MatchOption-weaker c.write_answer.result.fault c.write_answer.ensures.whole (λ whole. (
      whole.0 ∙ c.in-Ok.ensures.said.0,
      record {
        text = c.in-Ok.answer.text.items;
        proof = c.in-Ok.ensures.said.1;
        done = whole.1;
      },
    )) (λ _ _. tt)

pub returns-in-Ok-clause-cut_short : goal.returns-in-Ok-clause-cut_short
returns-in-Ok-clause-cut_short g c = λ _. record {
  text = c.in-Ok.answer.text.items;
  proof = c.in-Ok.ensures.said.1;
  done = c.write_answer.ensures.front;
}

pub returns-in-Ok-clause-refused : goal.returns-in-Ok-clause-refused
returns-in-Ok-clause-refused g c =
    MatchOption-weaker c.write_answer.result.fault c.write_answer.ensures.fault (λ _. tt)
    (λ fault is other. absurd (other (ap exit_of is.0)))

pub returns-in-Err-clause-read : goal.returns-in-Err-clause-read
returns-in-Err-clause-read g c = record_read_is_told _ _ c.in-Err.fault c.with.result.fault c.with.ensures.fault c.in-Err.ensures.read
