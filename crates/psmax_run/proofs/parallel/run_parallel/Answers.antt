use Rattle.std.proofs.Common.{refl}
use Rattle.devices.specs.Runs.{span}
use Rattle.devices.proofs.Endings.{ends_with_fault, ends_with_reply, read_is_told}
use Rattle.psmax_run.proofs.JobLaws.{write_has_reply}
use Rattle.psmax_run.specs.declared.job.Job.TheVariants as jobs
use Rattle.psmax_run.specs.Runs.{IsNoReply, Replies}
use Rattle.psmax_run.proofs.parallel.run_parallel.Goals as goal

pub returns-in-Ok-clause-ends : goal.returns-in-Ok-clause-ends
returns-in-Ok-clause-ends g c =
    let job = jobs.Solve c.args.options in
    ends_with_reply (Replies job _ _) (IsNoReply job _ _) _ _ c.in-Ok.reply c.write_reply.result
    (λ Done done. record {
      reply = c.in-Ok.reply;
      records = c.in-Ok.ensures.records;
      right = c.in-Ok.ensures.said;
      done = done;
    })
    (write_has_reply job _ _)
    c.write_reply.ensures.whole c.write_reply.ensures.cut_short c.write_reply.ensures.fault c.write_reply.ensures.failed

pub returns-in-Err-clause-ends : goal.returns-in-Err-clause-ends
returns-in-Err-clause-ends g c =
    let job = jobs.Solve c.args.options in
    ends_with_fault (Replies job _ _) _ _ (IsNoReply job _ _) _ _ c.in-Err.fault c.with.result
    c.with.ensures.fault c.with.ensures.status c.in-Err.ensures.unwritten c.in-Err.ensures.refused (refl, refl) refl refl
