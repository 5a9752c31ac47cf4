use Rattle.std.proofs.Common.{◌≡◌, refl, sym, ◌++◌, [], List, ap, ◌∙◌, map}
use Rattle.std.specs.Arc.{arc_value}
use Rattle.std.proofs.lemmas.List.{map-append}
use Rattle.branching.specs.Subproblem.{Subproblem}
use Rattle.branching.specs.Fair.{IsNodeOf, ceiling_of}
use Rattle.plain_search.specs.Takes.{SearchState, DropsOver, IsTake}
use Rattle.plain_search.proofs.Takes.{drops_keep, take_keeps, last_is_node}
use Rattle.plain_search.proofs.search.Search.take.Goals as goal

pub expand-requires : goal.expand-requires
expand-requires c =
    let node : Subproblem = arc_value c.in-Some.node in
    let of : IsNodeOf c.self.inside.project.value node = last_is_node c.self.inside.project.value _ _ _ node c.in-Some.ensures.0 c.self.invariant.of_nodes in
    c.requires ∙ sym (ap (λ (s : SearchState). s.project) c.self.view_is) ∙ sym of.project

pub invariant_of-result : goal.invariant_of-result
invariant_of-result c =
    let drops : DropsOver (ceiling_of c.self.inside.best) (map arc_value c.self.inside.stack.items) [] =
    rw c.makespan_of-ceiling.ensures at c.in-None.ensures.0 in
    rw c.in-None.ensures.1 (drops_keep c.self.inside.project.value c.self.inside.best (map arc_value c.self.inside.stack.items) [] drops c.self.invariant)

pub invariant_of-result-2 : goal.invariant_of-result-2
invariant_of-result-2 c =
    let children : map arc_value c.append.new.self.items ≡ map arc_value c.next_node.new.stack.items ++ c.in_ok-report.report.children =
    ap (map arc_value) c.in_ok-append.ensures.items
    ∙ map-append arc_value c.next_node.new.stack.items c.into_parts-found.result.1.children.items
    ∙ ap (λ (ks : List Subproblem). map arc_value c.next_node.new.stack.items ++ ks)
    c.into_parts-found.ensures.children in
    let old : SearchState = record { project = c.self.inside.project.value; best = c.self.inside.best; nodes = map arc_value c.self.inside.stack.items } in
    let new : SearchState = record { project = c.self.inside.project.value; best = c.shorter_of-best.result; nodes = map arc_value c.append.new.self.items } in
    let take : IsTake old new = record {
      rest = map arc_value c.next_node.new.stack.items;
      node = arc_value c.in-Some.node;
      report = c.in_ok-report.report;
      pops = rw c.makespan_of-ceiling.ensures at c.in-Some.ensures;
      expanded = rw c.makespan_of-ceiling.ensures at c.in_ok-report.ensures.report;
      is_report = c.into_parts-found.ensures.report;
      project = refl;
      best = rw c.into_parts-found.ensures.found at c.shorter_of-best.ensures;
      nodes = children;
    } in
    take_keeps old new take c.self.invariant
