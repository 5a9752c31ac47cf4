use Rattle.std.proofs.Common.{sym}
use Rattle.network.specs.Schedule.{IsTrueVerdict}
use Rattle.lemma_book.proofs.Claims.{claim_true}
use Rattle.lemma_book.proofs.ledger.Ledger.claim.Goals as goal

pub returns-clause-law : goal.returns-clause-law
returns-clause-law c =
    let found : IsTrueVerdict c.self.inside.draft.project c.claim.result =
    claim_true c.self.inside.draft c.claim.result (rw c.project.ensures at c.activity_count.ensures.limits)
    c.self.invariant c.claim.ensures.claims in
    rw (sym c.self.view_is) found
