use Rattle.std.proofs.Common.{ℕ, ◌≡◌, ◌∷◌, [], ◌++◌, sym, ◌∙◌, ap, reverse, List, Option}
use Rattle.std.specs.Option.{option_to_list}
use Rattle.longest_path.specs.Saved.{Marked, IsMarked, marked_rows}
use Rattle.longest_path.proofs.Saving.{last_count, at_mark, marks_before, went_back}
use Rattle.longest_path.proofs.marked.MarkedMatrix.go_back.Goals as goal
use Rattle.network.specs.Walk.{Rows}

pub undo-requires-clause-law : goal.undo-requires-clause-law
undo-requires-clause-law c =
    let counts : c.self.inside.marks.items ≡ c.pop.new.self.items ++ c.unwrap-count.result ∷ [] = c.pop.ensures.items
    ∙ ap (λ (o : Option ℕ). c.pop.new.self.items ++ option_to_list o) c.unwrap-count.ensures in
    let was : IsMarked c.self.inside.matrix c.self.inside.saves (c.unwrap-count.result ∷ reverse c.pop.new.self.items) =
    rw (last_count c.self.inside.marks.items c.pop.new.self.items c.unwrap-count.result counts) at c.self.invariant
    in
    at_mark c.self.inside.matrix c.self.inside.saves c.unwrap-count.result (reverse c.pop.new.self.items) was

pub invariant_of-self : goal.invariant_of-self
invariant_of-self c =
    let counts : c.self.inside.marks.items ≡ c.pop.new.self.items ++ c.unwrap-count.result ∷ [] = c.pop.ensures.items
    ∙ ap (λ (o : Option ℕ). c.pop.new.self.items ++ option_to_list o) c.unwrap-count.ensures in
    let was : IsMarked c.self.inside.matrix c.self.inside.saves (c.unwrap-count.result ∷ reverse c.pop.new.self.items) =
    rw (last_count c.self.inside.marks.items c.pop.new.self.items c.unwrap-count.result counts) at c.self.invariant
    in
    went_back c.self.inside.matrix c.undo.new.self c.self.inside.saves c.undo.new.saves c.unwrap-count.result
    (reverse c.pop.new.self.items) was c.undo.ensures.width c.undo.ensures.kept c.undo.ensures.back
    c.undo.ensures.size

pub returns : goal.returns
returns c =
    let counts : c.self.inside.marks.items ≡ c.pop.new.self.items ++ c.unwrap-count.result ∷ [] = c.pop.ensures.items
    ∙ ap (λ (o : Option ℕ). c.pop.new.self.items ++ option_to_list o) c.unwrap-count.ensures in
    let last = last_count c.self.inside.marks.items c.pop.new.self.items c.unwrap-count.result counts in
    let was : IsMarked c.self.inside.matrix c.self.inside.saves (c.unwrap-count.result ∷ reverse c.pop.new.self.items) = rw last at c.self.invariant in
    sym (ap (λ (m : Marked). m.marks) c.self.view_is) ∙ ap (λ (l : List ℕ). marked_rows c.self.inside.saves.saves c.self.inside.matrix l) last
    ∙ ap (λ (r : Rows). r ∷ marked_rows c.self.inside.saves.saves c.self.inside.matrix (reverse c.pop.new.self.items)) (sym c.undo.ensures.back)
    ∙ ap (λ (l : List Rows). c.undo.new.self ∷ l)
    (marks_before c.self.inside.matrix c.undo.new.self c.self.inside.saves c.undo.new.saves c.unwrap-count.result
    (reverse c.pop.new.self.items) was c.undo.ensures.kept c.undo.ensures.back)
