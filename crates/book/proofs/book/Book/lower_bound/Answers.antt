use Rattle.std.proofs.Common.{ℤ, List, ◌++◌, Option, subst, sym}
use Rattle.std.proofs.lemmas.List.{map-append}
use Rattle.std.specs.Option.{option_to_list}
use Rattle.branching.specs.Right.{IsLeast}
use Rattle.book.specs.State.{Named, BookState, in_hand, best_makespan}
use Rattle.book.specs.Sound.{IsSound, bounds_of, known_bounds}
use Rattle.book.specs.Views.{state_of}
use Rattle.book.proofs.Names.{least_of_option}
use Rattle.book.proofs.Verdicts.{least_holds}
use Rattle.book.proofs.book.Book.lower_bound.Goals as goal

pub returns-clause-least : goal.returns-clause-least
returns-clause-least c =
    let s : BookState = state_of c.self.inside in
    let first : IsLeast (option_to_list (best_makespan s)) c.makespan_of.result =
    subst (λ (o : Option ℤ). IsLeast (option_to_list (best_makespan s)) o) (sym c.makespan_of.ensures)
    (least_of_option (best_makespan s)) in
    let nodes : IsLeast (bounds_of s.waiting ++ bounds_of (in_hand s.hands)) c.lesser.result =
    c.lesser.ensures _ _ c.least_bound.ensures c.least_bound-2.ensures in
    let all : IsLeast (option_to_list (best_makespan s) ++ (bounds_of s.waiting ++ bounds_of (in_hand s.hands)))
    c.lesser-2.result = c.lesser-2.ensures _ _ first nodes in
    subst (λ (s : BookState). IsLeast (known_bounds s) c.lesser-2.result) c.self.view_is
    (subst (λ (ns : List ℤ). IsLeast (option_to_list (best_makespan s) ++ ns) c.lesser-2.result)
    (sym (map-append (λ (n : Named). n.node.bound) s.waiting (in_hand s.hands))) all)

pub returns-clause-bound : goal.returns-clause-bound
returns-clause-bound c = least_holds c.args.self.now c.lesser-2.result (subst IsSound c.self.view_is c.self.invariant.kept.sound) (returns-clause-least c)
