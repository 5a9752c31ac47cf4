use Rattle.std.proofs.Common.{◌≡◌, take, map, IfSome}
use Rattle.std.specs.Arc.{arc_value}
use Rattle.branching.specs.Fates.{fate_value, AreFates}
use Rattle.branching.specs.Parent.{IsParent}
use Rattle.branching.proofs.branches.branches_of.Given as goal

abbrev pub invariant-loop-pair : goal.invariant-loop-pair
invariant-loop-pair l = record {
  unchanged : l.matrix ≡ l.initial.matrix;
  parent : IfSome l.made (λ parent. IsParent l.node (arc_value parent));
  bounds : l.bounds ≡ l.initial.bounds;
  fates : AreFates l.node l.ceiling (take l.pair-index l.pairs) (map fate_value l.fates.items) (map arc_value l.children.items);
}
