use Rattle.std.proofs.Common.{option_copied, List, subst, take_all, arith}
use Rattle.std.specs.List.{All}
use Rattle.std.proofs.lemmas.List.Elements.{All-more}
use Rattle.devices.proofs.Cubes.{IsOther, is_other, are_apart, is_found, is_loss}
use Rattle.devices.proofs.files.Opener.check_cubes.Goals as goal

pub returns-then-branch-clause-loses : goal.returns-then-branch-clause-loses
returns-then-branch-clause-loses g c =
    is_loss _ c.args.names.now c.args.output (option_copied c.args.name)
    (is_found _ (option_copied c.args.name) c.args.names.now.cubes.now c.loop-cube.cube-index c.cube-item.result c.as_str.result.now
    c.in_ok-are_one.field-0 c.loop-cube-test.true c.cube-item.is c.as_str.ensures.value c.if-branch.true c.in_ok-are_one.ensures)

pub loop-cube-preserved : goal.loop-cube-preserved
loop-cube-preserved g c =
    let P = IsOther (g.F.Folder.places c.args.self.now.folder) (option_copied c.args.name) in
    let here : P c.cube-item.result = is_other _ _ c.cube-item.result c.as_str.result.now c.in_ok-are_one.field-0
    c.as_str.ensures.value c.if-branch.false c.in_ok-are_one.ensures in
    All-more P c.args.names.now.cubes.now c.loop-cube.cube-index c.cube-item.result c.loop-cube-test.true c.loop-cube.invariant
    (subst P c.cube-item.is here)

pub returns-clause-none : goal.returns-clause-none
returns-clause-none g c =
    let P = IsOther (g.F.Folder.places c.args.self.now.folder) (option_copied c.args.name) in
    let cubes = c.args.names.now.cubes.now in
    are_apart _ _ cubes (subst (λ xs. All P xs) (take_all c.loop-cube.cube-index cubes (omega arith)) c.loop-cube.invariant)
