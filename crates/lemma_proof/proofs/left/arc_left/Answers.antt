use Rattle.std.proofs.Common.{◌≡◌, refl, sym, ◌∙◌, false, is_some, get_or, Option, None, Some, pos}
use Rattle.std.proofs.lemmas.List.Elements.{Contains-get_or}
use Rattle.std.proofs.lemmas.Option.{slice_get-get_or}
use Rattle.network.specs.declared.parts.Lag.{Lag}
use Rattle.lemma_proof.proofs.Loops.{tells_false}
use Rattle.std.proofs.lemmas.Bool.{false≢true}
use Rattle.lemma_proof.proofs.OneLeft.{AllBefore, before_implied, before_left, second_left, left_at_end, there_at_end}
use Rattle.lemma_proof.proofs.left.arc_left.Goals as goal

abbrev zero_arc : Lag
zero_arc = record { from = 0; to = 0; weight = pos 0 }

no_left : (left : Option Lag) → is_some left ≡ false → left ≡ None
no_left None none = refl
no_left (Some e) none = absurd (false≢true (sym none))

pub loop-arc-preserved-then-implies : goal.loop-arc-preserved-then-implies
loop-arc-preserved-then-implies c = (
  c.loop-arc.invariant.0,
  λ exact arcs m.
      let at = slice_get-get_or c.args.lemma.now c.loop-arc.arc-index zero_arc c.loop-arc-test.true in
      before_implied exact arcs c.args.lemma.now c.loop-arc.arc-index
      (get_or c.args.lemma.now c.loop-arc.arc-index zero_arc) c.loop-arc.left at
      ((c.implies.ensures exact arcs m).shown c.if-implies.true) (c.loop-arc.invariant.1 exact arcs m),
)

pub loop-arc-preserved : goal.loop-arc-preserved
loop-arc-preserved c = (
  Contains-get_or c.args.lemma.now c.loop-arc.arc-index zero_arc c.loop-arc-test.true,
  λ exact arcs m.
      let at = slice_get-get_or c.args.lemma.now c.loop-arc.arc-index zero_arc c.loop-arc-test.true in
      let none : c.loop-arc.left ≡ None = no_left c.loop-arc.left (sym c.is_some.ensures ∙ c.if-is_some.false) in
      let all : AllBefore arcs c.args.lemma.now c.loop-arc.arc-index = rw none at (c.loop-arc.invariant.1 exact arcs m) in
      before_left exact arcs c.args.lemma.now c.loop-arc.arc-index
      (get_or c.args.lemma.now c.loop-arc.arc-index zero_arc) at
      (λ sure. tells_false (c.implies.ensures exact arcs m) c.if-implies.false sure) all,
)

pub returns-then-is_some-clause-left : goal.returns-then-is_some-clause-left
returns-then-is_some-clause-left c = λ exact arcs m.
    let at = slice_get-get_or c.args.lemma.now c.loop-arc.arc-index zero_arc c.loop-arc-test.true in
    second_left exact arcs c.args.lemma.now c.loop-arc.arc-index (get_or c.args.lemma.now c.loop-arc.arc-index zero_arc)
    c.loop-arc.left (sym c.is_some.ensures ∙ c.if-is_some.true) at
    (λ sure. tells_false (c.implies.ensures exact arcs m) c.if-implies.false sure)
    (c.loop-arc.invariant.1 exact arcs m)

pub returns-clause-there : goal.returns-clause-there
returns-clause-there c = rw c.or.ensures
    (there_at_end c.args.lemma.now c.loop-arc.left c.copied.result (c.copied.ensures ∙ c.first.ensures.value)
    c.loop-arc.invariant.0)

pub returns-clause-left : goal.returns-clause-left
returns-clause-left c = λ exact arcs m.
    rw c.or.ensures (left_at_end exact arcs c.args.lemma.now c.loop-arc.arc-index c.loop-arc.left c.copied.result
    c.loop-arc-test.false (c.copied.ensures ∙ c.first.ensures.value) (c.loop-arc.invariant.1 exact arcs m))
