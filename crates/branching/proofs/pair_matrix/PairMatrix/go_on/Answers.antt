use Rattle.std.proofs.Common.{rules, ◌≡◌, ◌∷◌, [], ◌++◌, length, sym, ◌∙◌, Some, slice_get}
use Rattle.branching.proofs.Paths.{begun_more, one_more, all_there, no_cycle_before}
use Rattle.branching.proofs.pair_matrix.PairMatrix.go_on.Goals as goal

pub loop-pair-preserved : goal.loop-pair-preserved
loop-pair-preserved c =
    let len : c.len.result ≡ length c.loop-pair.self.pairs = search rules in
    let here : slice_get c.args.pairs.now (length c.loop-pair.self.pairs) ≡ Some c.in-Some.pair = rw len at (sym c.get.ensures ∙ c.in-Some.is) in
    record {
      path = c.add.ensures.path;
      begun = rw c.in-Ok.ensures.pairs (begun_more c.args.pairs.now c.loop-pair.self.pairs c.in-Some.pair c.loop-pair.invariant.begun here);
    }

pub unreachable-requires : goal.unreachable-requires
unreachable-requires c =
    let len : c.len.result ≡ length c.loop-pair.self.pairs = search rules in
    let here : slice_get c.args.pairs.now (length c.loop-pair.self.pairs) ≡ Some c.in-Some.pair = rw len at (sym c.get.ensures ∙ c.in-Some.is) in
    let fault = rw c.in-Err-PositiveCycle.field-0-is at c.in-Err-PositiveCycle.ensures.fault in
    no_cycle_before c.args.project.now c.args.pairs.now (c.loop-pair.self.pairs ++ c.in-Some.pair ∷ []) _
    c.requires.live (one_more c.args.pairs.now c.loop-pair.self.pairs c.in-Some.pair c.loop-pair.invariant.begun
    here)
    fault

pub returns-clause-pairs : goal.returns-clause-pairs
returns-clause-pairs c =
    let len : c.len.result ≡ length c.loop-pair.self.pairs = search rules in
    all_there c.args.pairs.now c.loop-pair.self.pairs c.loop-pair.invariant.begun (rw len at (sym c.get.ensures ∙ c.in_default.is))
