use Rattle.std.proofs.Common.{◌≡◌, refl, ap, ◌∙◌, ℕ, ◌-◌, ◌<◌, ◌≤◌, pos, length, get_or, unsigned_abs, rules, arith, w64, FitsSigned}
use Rattle.std.proofs.lemmas.Int.{to_z-of_z}
use Rattle.profile.specs.Orders.{key_at}
use Rattle.bounds.proofs.Ranking.{ranked_start, ranked_new, ranked_same, last_least}
use Rattle.bounds.proofs.Ranked.{amounts_rise}
use Rattle.bounds.proofs.load.rank_keys.Goals as goal
use Rattle.bounds.proofs.load.rank_keys.Goals.{then-count-eq0, then-count-eq0-via-then-count-eq0, then-count-eq0-via-else-count-eq0+then-rising-count}
use Rattle.bounds.proofs.load.rank_keys.Goals.{else-count-eq0+else-rising-count}

pub loop-i-init : goal.loop-i-init
loop-i-init c = ranked_start c.args.keys.now c.args.order.now c.args.rising.now c.args.ranks.now

pub loop-i-preserved : goal.loop-i-preserved
loop-i-preserved c =
    let i : ℕ = c.loop-i.i in
    let place : ℕ = get_or c.args.order.now i 0 in
    let few : c.loop-i.count ≤ i = c.loop-i.invariant.few in
    let short : i < length c.args.order.now = omega arith in
    let inside : get_or c.args.order.now i 0 < length c.args.keys.now = c.requires.places i 0 short in
    let in_ranks : get_or c.args.order.now i 0 < length c.loop-i.ranks = omega (arith, inside, c.loop-i.auto.ranks, c.requires.ranks) in
    let spare : c.loop-i.count < length c.loop-i.rising = omega (arith, c.loop-i.auto.rising, c.requires.rising) in
    let fits : FitsSigned w64 (get_or c.args.keys.now place (pos 0)) = search rules in
    let key_is : c.unsigned_abs-key.result ≡ unsigned_abs (get_or c.args.keys.now place (pos 0)) =
    c.unsigned_abs-key.ensures.value ∙ ap unsigned_abs (to_z-of_z w64 (get_or c.args.keys.now place (pos 0)) fits)
    in
    elim c.if-count-eq0.branch [
      | then-count-eq0 w ↦
          let greater : 0 < c.loop-i.count → get_or c.loop-i.rising (c.loop-i.count - 1) 0 < unsigned_abs (get_or c.args.keys.now place (pos 0)) = λ some.
          elim w.then-count-eq0.branch [
            | then-count-eq0-via-then-count-eq0 v ↦ absurd (omega (arith, v.if-count-eq0.true))
            | then-count-eq0-via-else-count-eq0+then-rising-count v ↦ omega (arith, v.if-rising-count.true, key_is)
          ] in
          rw (w.rising-is, w.count-is, key_is)
          (ranked_new c.args.keys.now c.args.order.now i c.loop-i.count place c.loop-i.rising c.loop-i.ranks
          c.loop-i.invariant refl in_ranks spare greater)
      | else-count-eq0+else-rising-count w ↦
          let some : 0 < c.loop-i.count = omega (arith, w.if-count-eq0.false) in
          let least : get_or c.loop-i.rising (c.loop-i.count - 1) 0 ≤ unsigned_abs (key_at c.args.keys.now c.args.order.now i) =
          last_least c.args.keys.now c.args.order.now i c.loop-i.count c.loop-i.rising c.loop-i.ranks c.loop-i.invariant
          some (λ k lt. amounts_rise (length c.args.keys.now) c.args.keys.now c.args.order.now k i c.requires.above
          c.requires.rises (omega arith) short) in
          rw (w.rising-is, w.count-is) (ranked_same c.args.keys.now c.args.order.now i c.loop-i.count place
          c.loop-i.rising c.loop-i.ranks c.loop-i.invariant refl in_ranks some
          (omega (arith, w.if-rising-count.false, key_is, least)))
    ]
