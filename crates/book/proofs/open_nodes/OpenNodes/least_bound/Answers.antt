use Rattle.std.proofs.Common.{◌≡◌, ℤ, Some, subst, sym, map, arith, w64, to_z, of_z}
use Rattle.std.proofs.lemmas.Int.{ints}
use Rattle.branching.specs.Right.{IsLeast}
use Rattle.book.specs.Sound.{bounds_of}
use Rattle.book.specs.OpenNodes.{open_node}
use Rattle.book.proofs.Filing.{first_is_least}
use Rattle.book.proofs.open_nodes.OpenNodes.least_bound.Goals as goal

pub returns : goal.returns
returns c =
    let same : to_z w64 (of_z w64 c.in_ok-rank.rank.now.bound) ≡ c.in_ok-rank.rank.now.bound = omega (arith, ints) in
    rw (← c.self.view_is)
    (subst (λ (b : ℤ). IsLeast (bounds_of (map open_node c.self.inside.nodes.entries)) (Some b)) (sym same)
    (first_is_least c.self.inside.nodes.entries c.in_ok-rank.rank.now c.in_ok-rank.field-0-1.now
    c.in_ok-rank.ensures.first c.in_ok-rank.ensures.all_from c.self.invariant))
