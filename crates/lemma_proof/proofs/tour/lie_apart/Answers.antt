use Rattle.std.proofs.Common.{inl, inr}
use Rattle.lemma_proof.specs.Reasons.{Tells}
use Rattle.lemma_proof.specs.Tours.{BeginsAfterEnd, LieApart}
use Rattle.lemma_proof.proofs.Loops.{tells_false, granted, plain, third_decides}
use Rattle.lemma_proof.proofs.tour.lie_apart.Goals as goal

pub returns-then-implies : goal.returns-then-implies
returns-then-implies c = λ exact arcs m.
    let first : Tells exact c.implies.result (BeginsAfterEnd arcs c.args.one c.args.other) =
    rw c.arc_between.ensures.arc at (c.implies.ensures exact arcs (rw c.requires.size m)) in
    granted (LieApart c.args.lemmas.now arcs c.args.one c.args.other) (inl (first.shown c.if-implies.true))

pub returns-then-implies-2 : goal.returns-then-implies-2
returns-then-implies-2 c = λ exact arcs m.
    let second : Tells exact c.implies-2.result (BeginsAfterEnd arcs c.args.other c.args.one) =
    rw c.arc_between-2.ensures.arc at (c.implies-2.ensures exact arcs (rw c.requires.size m)) in
    granted (LieApart c.args.lemmas.now arcs c.args.one c.args.other) (inr (inl (second.shown c.if-implies-2.true)))

pub returns : goal.returns
returns c = λ exact arcs m.
    let first : Tells exact c.implies.result (BeginsAfterEnd arcs c.args.one c.args.other) =
    rw c.arc_between.ensures.arc at (c.implies.ensures exact arcs (rw c.requires.size m)) in
    let second : Tells exact c.implies-2.result (BeginsAfterEnd arcs c.args.other c.args.one) =
    rw c.arc_between-2.ensures.arc at (c.implies-2.ensures exact arcs (rw c.requires.size m)) in
    third_decides (tells_false first c.if-implies.false) (tells_false second c.if-implies-2.false) (plain c.has_delays.ensures)
