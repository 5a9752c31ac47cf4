use Rattle.std.proofs.Common.{◌≡◌, rules, sym, ap, ◌∙◌, ℤ, pos, None, Some, IfSome, Option, w64, SFits, arith}
use Rattle.std.specs.Option.{unwrap_or}
use Rattle.std.proofs.lemmas.Int.{ints, to_z-of_z}
use Rattle.network.specs.Problem.{IsWithin}
use Rattle.network.specs.declared.limits.TheConstants.{MAX_WALK_WEIGHT}
use Rattle.network.specs.Walk.{entry}
use Rattle.lemma_proof.specs.Bench.{BenchOf}
use Rattle.lemma_proof.proofs.bench.Bench.weight.Goals as goal

pub returns-clause-value : goal.returns-clause-value
returns-clause-value c =
    let rows = ap (λ (x : BenchOf). x.rows) c.self.view_is in
    let there = c.self.invariant.full c.args.a c.args.b (rw rows c.requires.from_activity) (rw rows c.requires.to_activity) in
    let got : c.get.result ≡ entry c.self.inside.matrix.rows c.args.a c.args.b = rw c.matrix.ensures at c.get.ensures.value in
    let is : c.unwrap_or.result ≡ there.0 = c.unwrap_or.ensures ∙ ap (λ (o : Option ℤ). unwrap_or o (pos 0)) (got ∙ there.1) in
    let fits : SFits w64 c.unwrap_or.result = search rules in
    let entry_is : entry c.args.self.now.rows c.args.a c.args.b ≡ Some c.unwrap_or.result = rw (sym rows) (there.1 ∙ ap Some (sym is)) in
    simp to_z-of_z entry_is

pub returns-clause-small : goal.returns-clause-small
returns-clause-small c =
    let fits : SFits w64 c.unwrap_or.result = search rules in
    simp to_z-of_z (small c.get.result c.unwrap_or.result c.get.ensures.fits c.unwrap_or.ensures)
  where
    small : (found : Option ℤ) (w : ℤ) → IfSome found (IsWithin MAX_WALK_WEIGHT) → w ≡ unwrap_or found (pos 0) → IsWithin MAX_WALK_WEIGHT w
    small None w within is = rw is (record { at_least = omega (arith, ints); at_most = omega (arith, ints) })
    small (Some x) w within is = rw is within
