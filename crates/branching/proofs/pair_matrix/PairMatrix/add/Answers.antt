use Rattle.std.proofs.Common.{◌≡◌, ◌∷◌, [], ◌++◌, ◌+◌, ◌∙◌, List, length, length-append, ap, arith}
use Rattle.network.specs.declared.parts.Pair.{Pair}
use Rattle.network.specs.Problem.{pair_arc}
use Rattle.longest_path.specs.Insert.{AddsArc}
use Rattle.branching.specs.Path.{PairRows}
use Rattle.branching.proofs.Nodes.{rows_of}
use Rattle.branching.proofs.Paths.{went_on, pair_fault}
use Rattle.branching.proofs.pair_matrix.PairMatrix.add.Goals as goal

pub insert_under_mark-requires-clause-from_activity : goal.insert_under_mark-requires-clause-from_activity
insert_under_mark-requires-clause-from_activity c =
    let ends = rows_of c.args.project.now c.args.self.now.pairs c.args.self.now.marked.rows c.args.pair c.requires.path.matrix c.requires.named in
    rw (c.pair_arc-arc.ensures.arc, ap (λ (s : PairRows). s.marked) c.self.view_is) ends.0

pub insert_under_mark-requires-clause-to_activity : goal.insert_under_mark-requires-clause-to_activity
insert_under_mark-requires-clause-to_activity c =
    let ends = rows_of c.args.project.now c.args.self.now.pairs c.args.self.now.marked.rows c.args.pair c.requires.path.matrix c.requires.named in
    rw (c.pair_arc-arc.ensures.arc, ap (λ (s : PairRows). s.marked) c.self.view_is) ends.1

pub returns-in-Err-clause-fault : goal.returns-in-Err-clause-fault
returns-in-Err-clause-fault c =
    let fault = rw (c.pair_arc-arc.ensures.arc, ap (λ (s : PairRows). s.marked) c.self.view_is) at c.in-Err.ensures.fault in
    pair_fault c.args.project.now c.args.self.now.pairs c.args.pair c.args.self.now.marked.rows c.in-Err.fault c.requires.path.matrix fault

pub invariant_of-self-2 : goal.invariant_of-self-2
invariant_of-self-2 c =
    let pairs : c.push_reserved.new.self.items ≡ c.self.inside.pairs.items ++ c.args.pair ∷ [] =
    c.push_reserved.ensures.items ∙ ap (λ (l : List Pair). l ++ c.args.pair ∷ []) c.in_ok-reserve.ensures.items in
    let longer : length c.push_reserved.new.self.items ≡ length c.self.inside.pairs.items + 1 = ap length pairs
    ∙ length-append c.self.inside.pairs.items (c.args.pair ∷ []) in
    let marks : length c.insert_under_mark.new.self.marks ≡ length
    (c.self.inside.matrix.rows ∷ c.self.inside.matrix.marks) = ap length c.in_default.ensures.marks in
    let same : length c.self.inside.pairs.items ≡ length c.self.inside.matrix.marks = c.self.invariant in
    omega arith

pub returns-clause-path : goal.returns-clause-path
returns-clause-path c =
    let pairs : c.push_reserved.new.self.items ≡ c.args.self.now.pairs ++ c.args.pair ∷ [] =
    c.push_reserved.ensures.items ∙ ap (λ (l : List Pair). l ++ c.args.pair ∷ [])
    (c.in_ok-reserve.ensures.items ∙ ap (λ (s : PairRows). s.pairs) c.self.view_is) in
    let marked : c.self.inside.matrix ≡ c.args.self.now.marked = ap (λ (s : PairRows). s.marked) c.self.view_is in
    let adds : AddsArc (pair_arc c.args.project.now c.args.pair) c.args.self.now.marked.rows
    c.insert_under_mark.new.self.rows = rw (c.pair_arc-arc.ensures.arc, marked) at c.in_default.ensures.ok in
    went_on c.args.project.now c.args.self.now
    (record { pairs = c.push_reserved.new.self.items; marked = c.insert_under_mark.new.self }) c.args.pair
    c.requires.path c.requires.named adds (rw marked at c.in_default.ensures.marks) pairs
