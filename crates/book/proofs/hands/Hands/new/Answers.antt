use Rattle.std.proofs.Common.{◌≡◌, ◌∙◌, ℕ, zero, suc, List, ◌∷◌, Option, None, refl, ap, map, arith}
use Rattle.std.proofs.Math.ListN.{replicate}
use Rattle.book.specs.State.{Named, hand_of}
use Rattle.book.proofs.hands.Hands.new.Goals as goal

empty_hands : (n : ℕ) → ◌≡◌ {A = List (Option Named)} (map hand_of (replicate n None)) (replicate n None)
empty_hands zero = refl
empty_hands (suc n) = ap (λ (hs : List (Option Named)). None ∷ hs) (empty_hands n)

pub returns : goal.returns
returns c =
    let whole : c.loop.counter ≡ c.args.workers = omega (arith, c.loop.auto.counter-end, c.loop-test.false) in
    ap (map hand_of) c.loop.invariant ∙ (empty_hands c.loop.counter ∙ ap (λ (n : ℕ). let hs : List (Option Named) = replicate n None in hs) whole)
