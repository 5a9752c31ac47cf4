use Rattle.std.proofs.Common.{◌∙◌, ◌+◌}
use Rattle.std.proofs.lemmas.Result.{MatchResult-weaker}
use Rattle.record_text.specs.Text.{search_kind}
use Rattle.record_text.specs.declared.TheConstants.{MAX_RECORD_BYTES}
use Rattle.search_record.specs.Right.{search_judge}
use Rattle.verify_run.specs.Verified.{IsProvedText}
use Rattle.devices.proofs.TextLaws.{reads_rest}
use Rattle.verify_run.proofs.TreeLaws.{tree_fault_whole, tree_whole}
use Rattle.verify_run.proofs.tree_proof.tree_proof.Goals as goal

pub returns-clause-said : goal.returns-clause-said
returns-clause-said g c =
    let left = g.I.Input.left in
    let p = c.args.project.now in
    MatchResult-weaker c.verified.result c.verified.ensures.said
    (λ a said. (
      said.0,
      λ rest told. tree_whole c.deref.result.now _
          (λ shown. IsProvedText search_kind search_judge p shown a.text.items)
          (c.deref.ensures.value ∙ reads_rest (MAX_RECORD_BYTES + 1) (left c.args.input.now) (left c.read_on.new.input) c.args.head.items
          c.in_ok-text.text.items rest c.in_ok-text.ensures.more told) said.1,
    ))
    (λ _ _. tt)

pub returns-clause-refused : goal.returns-clause-refused
returns-clause-refused g c =
    let left = g.I.Input.left in
    MatchResult-weaker c.verified.result c.verified.ensures.refused (λ _ _. tt)
    (λ fault refused other rest told. tree_fault_whole c.args.project.now c.deref.result.now _ fault
    (c.deref.ensures.value ∙ reads_rest (MAX_RECORD_BYTES + 1) (left c.args.input.now) (left c.read_on.new.input) c.args.head.items
    c.in_ok-text.text.items rest c.in_ok-text.ensures.more told) (refused other))
