use Rattle.std.proofs.Common.{◌≡◌, arith, rules, ℕ, ◌*◌, ◌≤◌, w64, SFits}
use Rattle.std.specs.List.{range_with_len}
use Rattle.std.proofs.lemmas.Int.{ints, to_z-of_z}
use Rattle.network.specs.Problem.{demand, activity_count}
use Rattle.lemma_proof.specs.Reasons.{part_of, load_of}
use Rattle.lemma_proof.proofs.Windows.{load_more}
use Rattle.lemma_proof.proofs.load.load.Goals as goal

pub loop-activity-preserved : goal.loop-activity-preserved
loop-activity-preserved c =
    let from_fits : SFits w64 c.args.from = search rules in
    let to_fits : SFits w64 c.args.to = search rules in
    let n = c.loop-activity.activity in
    let amount : c.amount-total.result ≡ part_of c.args.project.now c.args.weights.now.rows c.args.from c.args.to n *
    demand c.args.project.now c.args.resource n = simp to_z-of_z at c.amount-total.ensures.value in
    let before : c.loop-activity.total ≡ load_of c.args.project.now c.args.weights.now.rows c.args.resource c.args.from
    c.args.to (range_with_len 0 c.loop-activity.activity) = simp to_z-of_z at c.loop-activity.invariant.so_far in
    let more = load_more c.args.project.now c.args.weights.now.rows c.args.resource c.args.from c.args.to n in record {
      so_far = simp to_z-of_z (omega (arith, before, more, amount));
      small = omega (arith, c.amount-total.ensures.small, c.loop-activity.invariant.small);
    }

pub returns : goal.returns
returns c =
    let from_fits : SFits w64 c.args.from = search rules in
    let to_fits : SFits w64 c.args.to = search rules in
    let past : c.loop-activity.activity ≡ activity_count c.args.project.now =
    omega (
      arith,
      c.loop-activity-test.false,
      c.loop-activity.auto.activity-end,
      c.activity_count-activity-end.ensures.value,
    ) in
    let so_far : c.loop-activity.total ≡ load_of c.args.project.now c.args.weights.now.rows c.args.resource c.args.from
    c.args.to (range_with_len 0 c.loop-activity.activity) = simp to_z-of_z at c.loop-activity.invariant.so_far in
    rw past at so_far
