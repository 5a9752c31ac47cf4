use Rattle.std.proofs.Common.{None, refl, inl}
use Rattle.devices.specs.Runs.{absent, span}
use Rattle.devices.proofs.Endings.{ends_with_fault, ends_with_reply, failed_alone, read_is_told, written_alone}
use Rattle.psmax_run.proofs.JobLaws.{records_nothing, write_has_reply}
use Rattle.psmax_run.specs.Jobs.{inputs_of}
use Rattle.psmax_run.specs.Runs.{IsNoReply, Replies}
pub use Rattle.answers.specs.declared.answer.Answer.{Answer}
use Rattle.psmax_run.proofs.one_thread.run.Goals as goal

pub returns-in-Ok-clause-ends : goal.returns-in-Ok-clause-ends
returns-in-Ok-clause-ends g c =
    let answer = c.in-Ok.answer in
    let out = span g.O.Output.held g.O.Output.failed c.args.out.now c.write_answer.new.out in
    let ended = c.write_answer.result in
    ends_with_reply (Replies c.args.job _ _) (IsNoReply c.args.job _ _) out absent
    (record { exit = answer.exit; text = answer.text.items; recorded = None }) ended
    (λ Done done. record {
      reply = record { exit = answer.exit; text = answer.text.items; recorded = None };
      records = records_nothing c.args.job answer.exit answer.text.items c.requires.alone;
      right = λ text more told told_more. record { answer = c.in-Ok.ensures.said text more told told_more; recorded = tt };
      done = done;
    })
    (write_has_reply c.args.job _ _)
    (written_alone out answer.text.items answer.exit ended c.write_answer.ensures.whole)
    (λ is. inl (c.write_answer.ensures.front, refl))
    c.write_answer.ensures.fault
    (failed_alone out c.write_answer.ensures.failed)

pub returns-in-Err-clause-ends : goal.returns-in-Err-clause-ends
returns-in-Err-clause-ends g c =
    ends_with_fault (Replies c.args.job _ _) _ _ (IsNoReply c.args.job _ _) _ absent c.in-Err.fault c.with.result
    c.with.ensures.fault c.with.ensures.status c.in-Err.ensures.fault.0
    (record {
      of_text = c.in-Err.ensures.refused;
      of_workers = λ bad. absurd (c.in-Err.ensures.fault.1 bad);
      of_search = λ bad. absurd (c.in-Err.ensures.fault.1 bad);
    })
    (refl, refl) refl refl

pub returns-in-Err-clause-read : goal.returns-in-Err-clause-read
returns-in-Err-clause-read g c = read_is_told Answer (inputs_of c.args.job) _ _ c.in-Err.fault c.with.result.fault c.with.ensures.fault c.in-Err.ensures.read
