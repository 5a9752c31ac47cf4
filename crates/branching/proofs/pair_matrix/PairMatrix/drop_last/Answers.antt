use Rattle.std.proofs.Common.{◌≡◌, ◌∷◌, ◌∙◌, ◌-◌, sym, ap, arith, length, rules}
use Rattle.std.proofs.lemmas.List.{length-take-le}
use Rattle.branching.specs.Path.{PairRows, front}
use Rattle.branching.proofs.Paths.{went_back}
use Rattle.branching.proofs.pair_matrix.PairMatrix.drop_last.Goals as goal

pub go_back-requires : goal.go_back-requires
go_back-requires c =
    let same : length c.self.inside.pairs.items ≡ length c.self.inside.matrix.marks = c.self.invariant in
    let long : length c.self.inside.pairs.items ≡ length c.args.self.now.pairs = ap (λ (s : PairRows). length s.pairs) c.self.view_is in
    omega arith

pub invariant_of-self : goal.invariant_of-self
invariant_of-self c =
    let pairs : c.truncate.new.self.items ≡ front c.self.inside.pairs.items = search rules in
    let short : length c.truncate.new.self.items ≡ length c.self.inside.pairs.items - 1 = ap length pairs
    ∙ length-take-le (length c.self.inside.pairs.items - 1) c.self.inside.pairs.items (omega arith) in
    let marks : length c.self.inside.matrix.marks ≡ length (c.go_back.new.self.rows ∷ c.go_back.new.self.marks) = ap length c.go_back.ensures in
    let same : length c.self.inside.pairs.items ≡ length c.self.inside.matrix.marks = c.self.invariant in
    omega arith

pub returns-clause-path : goal.returns-clause-path
returns-clause-path c = λ p path.
    let pairs : c.truncate.new.self.items ≡ front c.args.self.now.pairs = search rules in
    let marks : c.args.self.now.marked.marks ≡ c.go_back.new.self.rows ∷ c.go_back.new.self.marks =
    sym (ap (λ (s : PairRows). s.marked.marks) c.self.view_is) ∙ c.go_back.ensures in
    went_back p c.args.self.now (record { pairs = c.truncate.new.self.items; marked = c.go_back.new.self }) path marks pairs
