use Rattle.std.proofs.Common.{◌≡◌, ◌++◌, ◌∙◌, sym, false, is_some, true, Err}
use Rattle.std.proofs.lemmas.Result.{MatchResult-weaker}
use Rattle.lemma_record.specs.Reached.{CheckerOf, IsAt, checker_of}
use Rattle.lemma_log.specs.declared.fault.DecodeFault.TheVariants.{Short}
use Rattle.lemma_log.specs.Reading.{read_in}
use Rattle.lemma_record.proofs.Stepping.{event_piece, event_waits, title_piece, trailing_piece}
use Rattle.lemma_record.proofs.checker.Checker.feed.Goals as goal

pub returns-then-is_some-clause-fault : goal.returns-then-is_some-clause-fault
returns-then-is_some-clause-fault c =
    let x : CheckerOf = checker_of c.self.inside.part c.self.inside.draft c.self.inside.left.items c.self.inside.due c.self.inside.proved in
    let some : is_some c.self.inside.proved ≡ true = sym c.is_some.ensures ∙ c.if-is_some.true in
    rw (sym c.self.view_is)
    (MatchResult-weaker c.nothing_after.result c.nothing_after.ensures.fault (λ _ _. tt)
    (λ fault told other p text more read. rw told.1 (trailing_piece p text c.args.piece.now more x some told.0 read)))

pub returns-then-self-eq0-clause-fault : goal.returns-then-self-eq0-clause-fault
returns-then-self-eq0-clause-fault c =
    let x : CheckerOf = checker_of c.self.inside.part c.self.inside.draft c.self.inside.left.items c.self.inside.due c.self.inside.proved in
    let none : is_some c.self.inside.proved ≡ false = sym c.is_some.ensures ∙ c.if-is_some.false in
    rw (sym c.self.view_is)
    (MatchResult-weaker c.read_title.result (rw c.in_ok-extend_from_slice.ensures.items at c.read_title.ensures.fault) (λ _ _. tt)
    (λ fault told other p text more read. told other p (text ++ c.args.piece.now) more (title_piece p text c.args.piece.now x none c.if-self-eq0.true read)))

pub returns-else-is_cut_off-clause-read : goal.returns-else-is_cut_off-clause-read
returns-else-is_cut_off-clause-read c =
    let x : CheckerOf = checker_of c.self.inside.part c.self.inside.draft c.self.inside.left.items c.self.inside.due c.self.inside.proved in
    let none : is_some c.self.inside.proved ≡ false = sym c.is_some.ensures ∙ c.if-is_some.false in
    MatchResult-weaker c.read_events.result (rw c.in_ok-extend_from_slice.ensures.items at c.read_events.ensures.read)
    (λ _ told p text read. told p (text ++ c.args.piece.now) (event_piece p text c.args.piece.now x none c.if-self-eq0.false (rw (sym c.self.view_is) at read)))
    (λ _ _. tt)

pub returns-else-is_cut_off-clause-fault : goal.returns-else-is_cut_off-clause-fault
returns-else-is_cut_off-clause-fault c =
    let x : CheckerOf = checker_of c.self.inside.part c.self.inside.draft c.self.inside.left.items c.self.inside.due c.self.inside.proved in
    let none : is_some c.self.inside.proved ≡ false = sym c.is_some.ensures ∙ c.if-is_some.false in
    rw (sym c.self.view_is)
    (MatchResult-weaker c.read_events.result (rw c.in_ok-extend_from_slice.ensures.items at c.read_events.ensures.fault) (λ _ _. tt)
    (λ fault told other p text more read. told other p (text ++ c.args.piece.now) more (event_piece p text c.args.piece.now x none c.if-self-eq0.false read)))

pub returns-then-is_cut_off-clause-read : goal.returns-then-is_cut_off-clause-read
returns-then-is_cut_off-clause-read c p text read =
    let x : CheckerOf = checker_of c.self.inside.part c.self.inside.draft c.self.inside.left.items c.self.inside.due c.self.inside.proved in
    let none : is_some c.self.inside.proved ≡ false = sym c.is_some.ensures ∙ c.if-is_some.false in
    let at : IsAt x.part p (text ++ c.args.piece.now) x.ledger (x.left ++ c.args.piece.now) x.due =
    event_piece p text c.args.piece.now x none c.if-self-eq0.false (rw (sym c.self.view_is) at read) in
    let short : read_in (x.left ++ c.args.piece.now) ≡ Err Short =
    rw (c.deref.ensures.value, c.in_ok-extend_from_slice.ensures.items) at
    (c.is_cut_off.ensures.0 c.if-is_cut_off.true) in
    rw c.in_ok-extend_from_slice.ensures.items
    (event_waits p (text ++ c.args.piece.now)
    (checker_of x.part x.ledger (x.left ++ c.args.piece.now) x.due x.proved) none at short)
