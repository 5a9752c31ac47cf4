-- The fields of a `Base`, as its callers see them.
use Rattle.std.specs.Arc.{arc_value}
use Rattle.branching.specs.Subproblem.{BaseOf}
use Rattle.branching.specs.declared.base.Base.TheInside.{Inside}

abbrev pub base_of : Inside → BaseOf
base_of s = record { project = arc_value s.project; rows = s.matrix; incompatible = s.incompatible.items }
