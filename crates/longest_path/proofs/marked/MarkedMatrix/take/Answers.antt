use Rattle.std.proofs.Common.{◌≡◌, sym, ◌∙◌, ap, not, reverse, w64}
use Rattle.std.proofs.lemmas.List.{length-map, length-reverse}
use Rattle.std.proofs.lemmas.Int.{to_z-of_z}
use Rattle.longest_path.specs.Saved.{Marked}
use Rattle.longest_path.proofs.Saving.{no_counts, some_counts, still_there, still_marked}
use Rattle.longest_path.proofs.marked.MarkedMatrix.take.Goals as goal

pub invariant_of-self : goal.invariant_of-self
invariant_of-self c =
    still_marked (not c.is_empty-keeps.result) c.self.inside.matrix c.insert.new.self c.self.inside.saves c.insert.new.saves (reverse c.self.inside.marks.items)
    (no_counts c.is_empty-keeps.result c.self.inside.marks.len c.self.inside.marks.items c.is_empty-keeps.ensures
    c.self.inside.marks.ok.0) c.self.invariant c.insert.ensures.law c.insert.ensures.width c.insert.ensures.size
    c.insert.ensures.kept

pub returns-clause-marks : goal.returns-clause-marks
returns-clause-marks c =
    still_there (not c.is_empty-keeps.result) c.self.inside.matrix c.insert.new.self c.self.inside.saves c.insert.new.saves (reverse c.self.inside.marks.items)
    (no_counts c.is_empty-keeps.result c.self.inside.marks.len c.self.inside.marks.items c.is_empty-keeps.ensures
    c.self.inside.marks.ok.0) c.self.invariant c.insert.ensures.kept
    ∙ ap (λ (m : Marked). m.marks) c.self.view_is

pub returns-clause-ok : goal.returns-clause-ok
returns-clause-ok c = let rows : c.args.self.now.rows ≡ c.self.inside.matrix =
    sym (ap (λ (m : Marked). m.rows) c.self.view_is)
    in rw rows (rw (to_z-of_z w64 c.args.w c.ranges.w) at c.insert.ensures.ok)

pub returns-clause-fault : goal.returns-clause-fault
returns-clause-fault c = let rows : c.args.self.now.rows ≡ c.self.inside.matrix =
    sym (ap (λ (m : Marked). m.rows) c.self.view_is)
    in rw rows (rw (to_z-of_z w64 c.args.w c.ranges.w) at c.insert.ensures.fault)

pub returns-clause-memory : goal.returns-clause-memory
returns-clause-memory c = λ e.
    let some = some_counts c.is_empty-keeps.result c.self.inside.marks.len c.self.inside.marks.items
    c.is_empty-keeps.ensures c.self.inside.marks.ok.0 (c.insert.ensures.memory e) in
    rw (sym (ap (λ (m : Marked). m.marks) c.self.view_is)) (simp (length-map, length-reverse) some)
