use Rattle.std.proofs.Common.{◌+◌, subst, List, ℕ}
use Rattle.std.proofs.lemmas.Result.{MatchResult-weaker}
use Rattle.words.specs.declared.TheConstants.{MAX_TEXT_BYTES}
use Rattle.devices.specs.Runs.{ReadsOn}
use Rattle.devices.proofs.TextLaws.{reads_whole}
use Rattle.devices.proofs.reading.read_text.Goals as goal

pub returns-clause-told : goal.returns-clause-told
returns-clause-told g c =
    let left = g.I.Input.left in
    MatchResult-weaker c.read_on.result c.read_on.ensures.more
    (λ text read bytes told. reads_whole (MAX_TEXT_BYTES + 1) (left c.args.input.now) (left c.read_on.new.input) text.items bytes
    (subst (λ (none : List ℕ). ReadsOn (MAX_TEXT_BYTES + 1) none (left c.args.input.now) text.items (left c.read_on.new.input)) c.new.ensures.items read) told)
    (λ _ _. tt)
