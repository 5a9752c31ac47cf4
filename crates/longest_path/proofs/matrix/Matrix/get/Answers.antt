use Rattle.std.proofs.Common.{◌≡◌, ◌<◌, length, ap, sym}
use Rattle.longest_path.proofs.Weights.{diagonal_at}
use Rattle.longest_path.proofs.matrix.Matrix.get.Goals as goal

pub returns-clause-diagonal : goal.returns-clause-diagonal
returns-clause-diagonal c =
    let size : length c.args.self.now ≡ length c.self.inside.grid = ap length (sym c.self.view_is) in
    let low : c.args.a < length c.self.inside.grid = rw size at c.requires.from_activity in
    diagonal_at c.self.inside.grid c.args.a c.args.b c.get.result c.self.invariant.matrix low c.get.ensures
