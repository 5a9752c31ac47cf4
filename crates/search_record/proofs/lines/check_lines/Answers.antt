use Rattle.std.proofs.Common.{◌≡◌, ◌≤◌, ◌+◌, ◌∙◌, [], ◌∷◌, sym, subst, ap, drop, rules}
use Rattle.std.proofs.lemmas.Bool.{iff_false}
use Rattle.std.proofs.lemmas.List.{drop_all}
use Rattle.search_record.specs.Due.{DueNodes}
use Rattle.search_record.specs.Right.{IsRightLine, why_wrong}
use Rattle.search_record.proofs.Steps.{named_line, Reached, reached_start, reached_more, reached_end, reached_wrong, some_due, line_there}
use Rattle.record_text.proofs.FirstWrong.{fault_at}
use Rattle.search_record.proofs.lines.check_lines.Goals as goal
use Rattle.search_record.proofs.lines.check_lines.Goals.{After-next}

pub loop-index-init : goal.loop-index-init
loop-index-init c =
    let due : c.in-Some.due ≡ record { project = c.args.project.now; nodes = [] ∷ [] } = rw c.in-Some.is at c.in_ok-due.ensures in
    record {
      project = ap (λ (d : DueNodes). d.project) due;
      reached = subst (λ (d : DueNodes). Reached c.args.project.now c.args.limit c.args.lines.now d.nodes
          c.args.lines.now 0) (sym due) (reached_start c.args.project.now c.args.limit c.args.lines.now
          c.requires.tree.0 c.requires.tree.1);
    }

pub next-requires : goal.next-requires
next-requires c =
    let here = line_there c.args.lines.now c.loop-index.index c.index-lines-index.result c.loop-index-test.true c.index-lines-index.is in
    some_due c.args.project.now c.args.limit c.args.lines.now c.loop-index.due.nodes c.index-lines-index.result _
    c.loop-index.index (rw here at c.loop-index.invariant.reached)

pub overflow_add-result : goal.overflow_add-result
overflow_add-result c = let few : c.args.first ≤ 4 = c.requires.few in search rules

-- the line comes first of those that are left, and its node first of those that are due
so_far : (c : After-next) → Reached c.args.project.now c.args.limit c.args.lines.now
    (c.next.result.now.pairs ∷ c.next.ensures.nodes.0)
    (c.index-lines-index.result ∷ drop (c.loop-index.index + 1) c.args.lines.now) c.loop-index.index
so_far c = rw (
  c.next.ensures.nodes.1,
  line_there c.args.lines.now c.loop-index.index c.index-lines-index.result
      c.loop-index-test.true c.index-lines-index.is,
) at c.loop-index.invariant.reached

of_project : (c : After-next) → c.next.result.now.project ≡ c.args.project.now
of_project c = c.next.ensures.project ∙ c.loop-index.invariant.project

pub returns-then-not-right-clause-fault : goal.returns-then-not-right-clause-fault
returns-then-not-right-clause-fault c = λ _.
    let at = (goal.at.returns-then-not-right-clause-fault c).After-next in
    let i = c.loop-index.index in
    let line = c.index-lines-index.result in
    let wrong : ¬ IsRightLine c.args.project.now c.args.limit c.next.result.now.pairs c.index-lines-index.result =
    rw (of_project at) at (iff_false c.in_ok-right.ensures c.if-not-right.true) in
    let why : fault_at (c.args.first + i) c.why_wrong.result ≡ fault_at (c.args.first + i) (why_wrong line) =
    ap (fault_at (c.args.first + i)) c.why_wrong.ensures in
    reached_wrong c.args.project.now c.args.limit c.args.first c.args.lines.now c.next.result.now.pairs
    c.next.ensures.nodes.0 line (drop (i + 1) c.args.lines.now) i c.requires.tree.0
    (fault_at (c.args.first + i) c.why_wrong.result) c.requires.tree.1 (so_far at) wrong why

pub go_on-requires-clause-there : goal.go_on-requires-clause-there
go_on-requires-clause-there c =
    let here = line_there c.args.lines.now c.loop-index.index c.index-lines-index.result c.loop-index-test.true c.index-lines-index.is in
    some_due c.args.project.now c.args.limit c.args.lines.now c.loop-index.due.nodes c.index-lines-index.result _
    c.loop-index.index (rw here at c.loop-index.invariant.reached)

pub go_on-requires-clause-named : goal.go_on-requires-clause-named
go_on-requires-clause-named c =
    rw (sym c.next.ensures.project) (named_line c.next.result.now.project c.args.limit c.next.result.now.pairs
    c.index-lines-index.result (c.in_ok-right.ensures.0 c.if-not-right.false))

pub loop-index-preserved : goal.loop-index-preserved
loop-index-preserved c =
    let at = (goal.at.loop-index-preserved c).After-next in
    let i = c.loop-index.index in
    let line = c.index-lines-index.result in
    let right : IsRightLine c.args.project.now c.args.limit c.next.result.now.pairs c.index-lines-index.result =
    rw (of_project at) at (c.in_ok-right.ensures.0 c.if-not-right.false) in
    record {
      project = c.go_on.ensures.project ∙ c.loop-index.invariant.project;
      reached = rw (c.in_ok-go_on.ensures.nodes, c.next.ensures.nodes.1)
          (reached_more c.args.project.now c.args.limit c.args.lines.now c.next.result.now.pairs c.next.ensures.nodes.0
          line (drop (i + 1) c.args.lines.now) i (so_far at) right);
    }

pub returns-clause-right : goal.returns-clause-right
returns-clause-right c =
    let i = c.loop-index.index in
    let none : drop i c.args.lines.now ≡ [] = drop_all i c.args.lines.now c.loop-index-test.false in
    reached_end c.args.project.now c.args.limit c.args.lines.now c.loop-index.due.nodes i c.requires.tree.0
    c.requires.tree.1 (rw none at c.loop-index.invariant.reached)
