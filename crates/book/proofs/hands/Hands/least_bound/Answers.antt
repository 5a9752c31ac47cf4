use Rattle.std.proofs.Common.{ℤ, List, Option, [], ◌∷◌, subst, sym, ap, ◌∙◌, take, map, arith}
use Rattle.std.proofs.lemmas.List.{map-append, take_all}
use Rattle.branching.specs.Right.{IsLeast}
use Rattle.book.specs.State.{Named, in_hand, hand_of, Held}
use Rattle.book.specs.Sound.{bounds_of}
use Rattle.book.proofs.Filing.{in_hand_more}
use Rattle.book.proofs.hands.Hands.least_bound.Goals as goal

pub loop-hand-preserved : goal.loop-hand-preserved
loop-hand-preserved c =
    let items = c.deref-hand-items.result.now in
    let more = in_hand_more items c.loop-hand.hand-index c.hand-item.result (omega arith) c.hand-item.is in
    subst (λ (ns : List ℤ). IsLeast ns c.lesser-least.result)
    (sym (ap bounds_of more ∙ map-append (λ (n : Named). n.node.bound)
    (in_hand (map hand_of (take c.loop-hand.hand-index items))) (in_hand (hand_of c.hand-item.result ∷ []))))
    (c.lesser-least.ensures _ _ c.loop-hand.invariant c.bound_in.ensures)

pub returns : goal.returns
returns c =
    let all = take_all c.loop-hand.hand-index c.deref-hand-items.result.now (omega arith) ∙ c.deref-hand-items.ensures.value in
    rw (← c.self.view_is) (subst (λ (hs : List (Option Held)). IsLeast (bounds_of (in_hand (map hand_of hs))) c.loop-hand.least) all c.loop-hand.invariant)
