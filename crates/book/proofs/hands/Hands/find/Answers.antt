use Rattle.std.proofs.Common.{◌≢◌, List, Option, [], ◌∷◌, subst, sym, take, map, arith, rules, take_all}
use Rattle.std.proofs.lemmas.List.Elements.{All-append}
use Rattle.std.specs.List.{All}
use Rattle.book.specs.State.{Named, in_hand, hand_of, Held}
use Rattle.book.proofs.Filing.{in_hand_more}
use Rattle.book.proofs.hands.Hands.find.Goals as goal

pub loop-worker-preserved : goal.loop-worker-preserved
loop-worker-preserved c =
    let P = λ (held : Named). held.name ≢ c.args.name in
    let items = c.deref-hand-items.result.now in
    let here : All P (in_hand (hand_of c.hand-item.result ∷ [])) = search rules in
    subst (λ ns. All P ns) (sym (in_hand_more items c.loop-worker.worker c.hand-item.result (omega arith) c.hand-item.is))
    (All-append P (in_hand (map hand_of (take c.loop-worker.worker items))) (in_hand (hand_of c.hand-item.result ∷ [])) c.loop-worker.invariant here)

pub returns-clause-none : goal.returns-clause-none
returns-clause-none c =
    let P = λ (held : Named). held.name ≢ c.args.name in
    let all : All P (in_hand (map hand_of c.deref-hand-items.result.now)) =
    subst (λ (hs : List (Option Held)). All P (in_hand (map hand_of hs)))
    (take_all c.loop-worker.worker c.deref-hand-items.result.now (omega arith)) c.loop-worker.invariant in
    rw (← c.self.view_is) (subst (λ (hs : List (Option Held)). All P (in_hand (map hand_of hs))) c.deref-hand-items.ensures.value all)
