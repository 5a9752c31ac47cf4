use Rattle.std.proofs.Common.{take}
use Rattle.std.specs.List.{All}
use Rattle.std.specs.Prelude.{option_copied}
use Rattle.devices.proofs.Cubes.{IsOther}
use Rattle.devices.proofs.files.Opener.check_cubes.Given as goal

abbrev pub invariant-loop-cube : goal.invariant-loop-cube
invariant-loop-cube g l = All (IsOther (g.F.Folder.places l.self.folder) (option_copied l.name)) (take l.cube-index l.names.cubes.now)
