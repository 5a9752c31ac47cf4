use Rattle.std.proofs.Common.{◌≡◌, ◌<◌, ◌++◌, ◌∙◌, [], append-nil, append_assoc, take, length, arith, refl, rules}
use Rattle.std.proofs.KnownBytes.{Consumes-kept, Consumes-trans}
use Rattle.std.proofs.lemmas.Result.{MatchResult-weaker, err_from_is_err_and}
use Rattle.verify_run.proofs.Pieces.{all_given, tells_event, tells_head}
use Rattle.verify_run.proofs.log_proof.read_log.Goals as goal

pub loop-init : goal.loop-init
loop-init g c = record {
  front = [];
  given = search rules;
  read = λ p first. rw (append-nil c.args.head.now) (c.in_ok-feed.ensures.read p [] first);
  part = c.in_ok-feed.ensures.part ∙ c.requires.part;
  count = refl;
}

pub returns-in_err-feed-clause-refused : goal.returns-in_err-feed-clause-refused
returns-in_err-feed-clause-refused g c =
    let from = err_from_is_err_and c.from_residual.result c.from_residual.ensures.1 in
    rw (from.1, from.2) (λ other p first rest told. tells_head c.args.scope.now p c.args.head.now rest c.in_err-feed.field-0.0 other
    (λ known more. rw c.requires.part at (c.in_err-feed.ensures.fault known p [] more first)))

pub returns-in_default-clause-given : goal.returns-in_default-clause-given
returns-in_default-clause-given g c =
    let left = g.I.Input.left in (
      c.loop.invariant.front,
      Consumes-kept (left c.args.input.now) (left c.loop.input) (left c.pull.new.self)
          c.loop.invariant.front c.loop.invariant.given c.in_default.ensures.told,
    )

pub returns-then-n-eq0-clause-shown : goal.returns-then-n-eq0-clause-shown
returns-then-n-eq0-clause-shown g c =
    let left = g.I.Input.left in
    let head = c.args.head.now in
    let none : c.in-Ok.n ≡ 0 = c.if-n-eq0.true in
    let room : 0 < length c.pull.new.buffer = omega (arith, c.pull.auto.buffer) in
    MatchResult-weaker c.shown.result c.shown.ensures.shown
    (λ what shows p first rest is. shows p (head ++ rest)
    (rw (all_given (left c.args.input.now) (left c.loop.input) (left c.pull.new.self) c.loop.invariant.front rest
    c.loop.invariant.given (rw none at c.in-Ok.ensures.told.0) (c.in-Ok.ensures.told.1 none room) is) at
    (c.loop.invariant.read p first)))
    (λ _ _. tt)

pub returns-then-n-eq0-clause-refused : goal.returns-then-n-eq0-clause-refused
returns-then-n-eq0-clause-refused g c =
    let left = g.I.Input.left in
    let head = c.args.head.now in
    let none : c.in-Ok.n ≡ 0 = c.if-n-eq0.true in
    let room : 0 < length c.pull.new.buffer = omega (arith, c.pull.auto.buffer) in
    MatchResult-weaker c.shown.result c.shown.ensures.refused (λ _ _. tt)
    (λ fault tells other p first rest is. tells p (head ++ rest)
    (rw (all_given (left c.args.input.now) (left c.loop.input) (left c.pull.new.self) c.loop.invariant.front rest
    c.loop.invariant.given (rw none at c.in-Ok.ensures.told.0) (c.in-Ok.ensures.told.1 none room) is) at
    (c.loop.invariant.read p first)))

pub returns-in_err-feed-2-clause-refused : goal.returns-in_err-feed-2-clause-refused
returns-in_err-feed-2-clause-refused g c =
    let left = g.I.Input.left in
    let head = c.args.head.now in
    let front = c.loop.invariant.front in
    let piece = take c.in-Ok.n c.pull.new.buffer in
    let from = err_from_is_err_and c.from_residual-in_err-feed-2.result c.from_residual-in_err-feed-2.ensures.1 in
    rw (from.1, from.2) (λ other p first rest told. tells_event c.args.scope.now p head (left c.args.input.now) (left c.pull.new.self)
    (front ++ piece) rest c.in_err-feed-2.field-0.0
    (Consumes-trans (left c.args.input.now) (left c.loop.input) (left c.pull.new.self) front piece
    c.loop.invariant.given c.in-Ok.ensures.told.0) told other
    (λ known more. rw (c.loop.invariant.part, append_assoc head front piece) at
    (c.in_err-feed-2.ensures.fault known p (head ++ front) more (c.loop.invariant.read p first))))

pub returns-in_err-feed-2-clause-given : goal.returns-in_err-feed-2-clause-given
returns-in_err-feed-2-clause-given g c =
    let left = g.I.Input.left in
    let piece = take c.in-Ok.n c.pull.new.buffer in (
      c.loop.invariant.front ++ piece,
      Consumes-trans (left c.args.input.now) (left c.loop.input) (left c.pull.new.self)
          c.loop.invariant.front piece c.loop.invariant.given c.in-Ok.ensures.told.0,
    )

pub loop-preserved : goal.loop-preserved
loop-preserved g c =
    let left = g.I.Input.left in
    let head = c.args.head.now in
    let front = c.loop.invariant.front in
    let piece = take c.in-Ok.n c.pull.new.buffer in
    record {
      front = front ++ piece;
      given = Consumes-trans (left c.args.input.now) (left c.loop.input) (left c.pull.new.self) front piece c.loop.invariant.given c.in-Ok.ensures.told.0;
      read = λ p first. rw (append_assoc head front piece) at (c.in_ok-feed-2.ensures.read p (head ++ front) (c.loop.invariant.read p first));
      part = c.in_ok-feed-2.ensures.part ∙ c.loop.invariant.part;
      count = c.in-Ok.ensures.ok ∙ c.loop.invariant.count;
    }
