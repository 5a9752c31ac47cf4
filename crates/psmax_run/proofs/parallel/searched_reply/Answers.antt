use Rattle.std.proofs.Common.{◌≡◌, ◌∙◌, true, false, rules}
use Rattle.std.proofs.lemmas.Result.{MatchResult-weaker}
use Rattle.network.specs.Schedule.{IsFeasible}
use Rattle.answers.specs.Answers.{IsStartedText}
use Rattle.psmax_run.proofs.JobLaws.{answers_started, answers_unstarted}
use Rattle.devices.proofs.TextLaws.{refuses_start}
use Rattle.devices.proofs.TextLaws.{starts_whole, starts_fault_whole}
use Rattle.psmax_run.proofs.RecordLaws.{ok_both, err_both, spells_record}
use Rattle.psmax_run.proofs.parallel.searched_reply.Goals as goal

pub returns-clause-said : goal.returns-clause-said
returns-clause-said g c =
    let p = c.in_ok-project.project in
    let of_project = c.in_ok-project.ensures.project in
    let on : c.args.options.start ≡ true = search rules in
    MatchResult-weaker c.searched_from.result (ok_both c.searched_from.result _ _ c.searched_from.ensures.said c.searched_from.ensures.recorded)
    (λ reply found text more told told_more. record {
      answer = answers_started c.args.options text more reply.exit reply.text on (record {
        project = p;
        is_project = of_project.0;
        spells = of_project.1 text told;
        has = starts_whole p c.deref.result.now more
            (λ starts. IsStartedText p starts c.args.options.json reply.exit reply.text)
            (c.deref.ensures.value ∙ c.in_ok-starts.ensures.told more (told_more on)) found.0;
      });
      recorded = (spells_record reply.recorded text p c.args.options.json reply.text of_project.0 (of_project.1 text told) found.1);
    })
    (λ _ _. tt)

pub returns-then-not-options-clause-said : goal.returns-then-not-options-clause-said
returns-then-not-options-clause-said g c =
    let p = c.in_ok-project.project in
    let of_project = c.in_ok-project.ensures.project in
    let off : c.args.options.start ≡ false = search rules in
    MatchResult-weaker c.searched.result c.searched.ensures.found
    (λ reply found text more told told_more. record {
      answer = answers_unstarted c.args.options text more reply.exit reply.text off c.requires.workers (record {
        project = p;
        is_project = of_project.0;
        spells = of_project.1 text told;
        has = rw c.in_ok-project-2.ensures.ok at found.said;
      });
      recorded = (spells_record reply.recorded text p c.args.options.json reply.text of_project.0
          (of_project.1 text told) (rw c.in_ok-project-2.ensures.ok at found.recorded));
    })
    (λ _ _. tt)

pub returns-clause-refused : goal.returns-clause-refused
returns-clause-refused g c =
    let p = c.in_ok-project.project in
    let of_project = c.in_ok-project.ensures.project in
    let on : c.args.options.start ≡ true = search rules in
    MatchResult-weaker c.searched_from.result (err_both c.searched_from.result _ _ c.searched_from.ensures.refused c.searched_from.ensures.searched) (λ _ _. tt)
    (λ fault found. record {
      of_text = λ other text more told told_more. refuses_start c.args.options.start text more fault on (record {
        project = p;
        is_project = of_project.0;
        spells = of_project.1 text told;
        has = starts_fault_whole p c.deref.result.now more fault (c.deref.ensures.value ∙ c.in_ok-starts.ensures.told more (told_more on)) (found.0 other);
      });
      of_workers = λ _. c.requires.workers;
      of_search = λ bad text more told told_more. record {
        project = p;
        is_project = of_project.0;
        spells = of_project.1 text told;
        has = λ _. starts_whole p c.deref.result.now more (IsFeasible p)
            (c.deref.ensures.value ∙ c.in_ok-starts.ensures.told more (told_more on)) (found.1 bad);
      };
    })
