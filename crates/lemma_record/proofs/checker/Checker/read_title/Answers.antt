use Rattle.std.proofs.Common.{◌≡◌, sym, Ok, Err, ℕ, drop}
use Rattle.std.proofs.lemmas.Result.{MatchResult-weaker}
use Rattle.lemma_log.specs.declared.fault.DecodeFault.TheVariants.{Short}
use Rattle.lemma_log.specs.Reading.{title_in}
use Rattle.lemma_record.specs.Reached.{CheckerOf, IsAtTitle, checker_of}
use Rattle.lemma_record.proofs.Stepping.{title_at, title_waits}
use Rattle.lemma_record.proofs.checker.Checker.read_title.Goals as goal

pub returns-in_default-clause-read : goal.returns-in_default-clause-read
returns-in_default-clause-read c p text here =
    let x : CheckerOf = checker_of c.self.inside.part c.self.inside.draft c.self.inside.left.items c.self.inside.due c.self.inside.proved in
    let at : IsAtTitle p text x = rw (sym c.self.view_is) at here in
    let short : title_in c.self.inside.left.items ≡ Err Short = rw (c.in_default.is, c.deref.ensures.value) at c.in_ok-rest.ensures.rest in
    rw (sym c.self.view_is) (title_waits p text x at (rw at.left at short))

pub returns-clause-fault : goal.returns-clause-fault
returns-clause-fault c =
    let x : CheckerOf = checker_of c.self.inside.part c.self.inside.draft c.self.inside.left.items c.self.inside.due c.self.inside.proved in
    let found : (n : ℕ) × (title_in c.self.inside.left.items ≡ Ok n)
    × (c.in-Some.rest.items ≡ drop n c.self.inside.left.items) =
    rw (c.in-Some.is, c.deref.ensures.value) at c.in_ok-rest.ensures.rest in
    rw (sym c.self.view_is)
    (MatchResult-weaker c.read_events.result c.read_events.ensures.fault (λ _ _. tt)
    (λ fault told other p text more (at : IsAtTitle p text x).
    told other p text more (title_at x.part p text c.in-Some.rest.items x.ledger found.0 at.ledger (rw at.left at found.1) (rw at.left at found.2))))
