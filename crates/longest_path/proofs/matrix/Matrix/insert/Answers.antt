use Rattle.std.proofs.Common.{◌≡◌, refl, length, sym, ◌∙◌, w64, ℕ}
use Rattle.std.proofs.lemmas.Int.{to_z-of_z}
use Rattle.network.specs.Walk.{entry}
use Rattle.longest_path.specs.Insert.{arc_of, IsEntryOver, TakesArc}
use Rattle.longest_path.proofs.Over.{wide_kept}
use Rattle.longest_path.proofs.matrix.Matrix.insert.Goals as goal

pub invariant_of-self-2 : goal.invariant_of-self-2
invariant_of-self-2 c =
    let takes : TakesArc (arc_of c.args.i c.args.j c.args.w) c.self.inside.grid =
    rw (to_z-of_z w64 c.args.w c.ranges.w, sym c.self.view_is) at c.if-closes_cycle.ensures in
    let over : (a b : ℕ) → IsEntryOver (arc_of c.args.i c.args.j c.args.w) c.self.inside.grid a b
    (entry c.go_over.new.grid a b) = rw (to_z-of_z w64 c.args.w c.ranges.w) at c.in_ok-go_over.ensures.over in
    let kept : length c.go_over.new.via ≡ c.self.inside.via.len = c.go_over.auto.via ∙ c.as_mut_slice.ensures.len in
    let wide : length c.go_over.new.via ≡ length c.go_over.new.grid = kept ∙ c.self.inside.via.ok.0
    ∙ c.self.invariant.wide ∙ sym c.in_ok-go_over.ensures.square.rows_long in
    record {
      matrix = (takes.taken c.go_over.new.grid c.in_ok-go_over.ensures.square over).law;
      wide =
          wide_kept c.self.inside.via c.go_over.new.via c.go_over.new.grid kept wide;
    }

pub returns-then-closes_cycle-clause-fault : goal.returns-then-closes_cycle-clause-fault
returns-then-closes_cycle-clause-fault c = (refl, rw (to_z-of_z w64 c.args.w c.ranges.w) at c.if-closes_cycle.ensures)

pub returns-clause-ok : goal.returns-clause-ok
returns-clause-ok c =
    let takes : TakesArc (arc_of c.args.i c.args.j c.args.w) c.self.inside.grid =
    rw (to_z-of_z w64 c.args.w c.ranges.w, sym c.self.view_is) at c.if-closes_cycle.ensures in
    let over : (a b : ℕ) → IsEntryOver (arc_of c.args.i c.args.j c.args.w) c.self.inside.grid a b
    (entry c.go_over.new.grid a b) = rw (to_z-of_z w64 c.args.w c.ranges.w) at c.in_ok-go_over.ensures.over in
    rw (sym c.self.view_is) (takes.taken c.go_over.new.grid c.in_ok-go_over.ensures.square over).adds
