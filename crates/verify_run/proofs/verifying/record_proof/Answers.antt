use Rattle.std.proofs.Common.{◌++◌, ◌+◌, arith, length-append, rules}
use Rattle.std.proofs.lemmas.Result.{MatchResult-weaker}
use Rattle.verify_run.specs.Verified.{BeginsTree, IsLogProof, IsTreeFault, IsTreeProof, TellsEvent}
use Rattle.verify_run.proofs.Telling.{gave_after, is_title, lemmas_are, title_read, tree_is}
use Rattle.verify_run.proofs.verifying.record_proof.Goals as goal

pub returns-then-begins_tree-clause-said : goal.returns-then-begins_tree-clause-said
returns-then-begins_tree-clause-said g c =
    let read = title_read c.new.ensures.items c.in_ok-head.ensures.more in
    let p = c.args.project.now in
    let scope = c.args.scope.now in
    MatchResult-weaker c.tree_proof.result c.tree_proof.ensures.said
    (λ a said. (
      said.0,
      tree_is read scope c.args.own (λ t. IsTreeProof p t a.text.items) (λ t. IsLogProof scope p t a.text.items) (search rules) said.1,
    ))
    (λ _ _. tt)

pub returns-then-begins_tree-clause-refused : goal.returns-then-begins_tree-clause-refused
returns-then-begins_tree-clause-refused g c =
    let read = title_read c.new.ensures.items c.in_ok-head.ensures.more in
    let p = c.args.project.now in
    let scope = c.args.scope.now in
    MatchResult-weaker c.tree_proof.result c.tree_proof.ensures.refused (λ _ _. tt)
    (λ fault refused other. tree_is read scope c.args.own (λ t. IsTreeFault p t fault) (λ t. TellsEvent scope p t fault)
    (search rules) (refused other))

pub returns-then-begins_tree-clause-given : goal.returns-then-begins_tree-clause-given
returns-then-begins_tree-clause-given g c =
    let read = title_read c.new.ensures.items c.in_ok-head.ensures.more in
    let gave = c.tree_proof.ensures.within in
    (c.in_ok-head.head.items ++ gave.front, gave_after read _ gave.front gave.given)

pub returns-else-begins_tree-clause-said : goal.returns-else-begins_tree-clause-said
returns-else-begins_tree-clause-said g c =
    let read = title_read c.new.ensures.items c.in_ok-head.ensures.more in
    let p = c.args.project.now in
    let scope = c.args.scope.now in
    MatchResult-weaker c.log_proof.result c.log_proof.ensures.said
    (λ a said. (
      said.0,
      lemmas_are read scope c.args.own (λ t. IsTreeProof p t a.text.items) (λ t. IsLogProof scope p t a.text.items) (search rules)
          (λ rest told. rw c.deref-else-begins_tree.ensures.value at (said.1 rest told)),
    ))
    (λ _ _. tt)

pub returns-else-begins_tree-clause-refused : goal.returns-else-begins_tree-clause-refused
returns-else-begins_tree-clause-refused g c =
    let read = title_read c.new.ensures.items c.in_ok-head.ensures.more in
    let p = c.args.project.now in
    let scope = c.args.scope.now in
    MatchResult-weaker c.log_proof.result c.log_proof.ensures.refused (λ _ _. tt)
    (λ fault refused other. lemmas_are read scope c.args.own (λ t. IsTreeFault p t fault) (λ t. TellsEvent scope p t fault)
    (search rules) (λ rest told. rw c.deref-else-begins_tree.ensures.value at (refused other rest told)))

pub returns-else-begins_tree-clause-given : goal.returns-else-begins_tree-clause-given
returns-else-begins_tree-clause-given g c =
    let read = title_read c.new.ensures.items c.in_ok-head.ensures.more in
    let given = c.log_proof.ensures.given in
    (c.in_ok-head.head.items ++ given.0, gave_after read _ given.0 given.1)

pub returns-in_err-head-clause-within : goal.returns-in_err-head-clause-within
returns-in_err-head-clause-within g c = λ text told tree.
    let gave = c.read_on.ensures.within in
    record { front = gave.front; given = gave.given; within = omega (arith, gave.within) }

pub returns-then-begins_tree-clause-within : goal.returns-then-begins_tree-clause-within
returns-then-begins_tree-clause-within g c = λ text told tree.
    let read = title_read c.new.ensures.items c.in_ok-head.ensures.more in
    let gave = c.tree_proof.ensures.within in
    record {
      front = c.in_ok-head.head.items ++ gave.front;
      given = gave_after read _ gave.front gave.given;
      within = simp length-append (omega (arith, gave.within, read.within));
    }

pub returns-else-begins_tree-clause-within : goal.returns-else-begins_tree-clause-within
returns-else-begins_tree-clause-within g c = λ text told tree.
    let read = title_read c.new.ensures.items c.in_ok-head.ensures.more in
    let begins : ¬ BeginsTree c.args.scope.now c.args.own c.in_ok-head.head.items = search rules in
    absurd (begins (is_title read c.args.scope.now c.args.own text told tree))
