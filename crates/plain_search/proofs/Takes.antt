-- The takes of a search keep that its nodes cover what is shorter than its best.
use Rattle.std.proofs.Common.{◌≡◌, refl, sym, ap, ◌∙◌, subst, append_assoc, List, [], ◌∷◌, ◌++◌, ⊎_elim, Option, Some, None, ℤ}
use Rattle.std.specs.List.{All, Contains}
use Rattle.std.proofs.lemmas.List.Elements.{All-cons, All-contains, Contains-append_cases, Contains-push}
use Rattle.network.specs.Problem.{Problem}
use Rattle.network.specs.Schedule.{ScheduleOf}
use Rattle.branching.specs.Subproblem.{Subproblem}
use Rattle.branching.specs.Fair.{IsShorterThan, IsNodeOf, IsCovered, ceiling_of}
use Rattle.branching.specs.Right.{IsBelow, IsUnder}
use Rattle.branching.proofs.Covers.{all_left, covered_still, expansion_keeps}
use Rattle.plain_search.specs.Takes.{SearchState, IsSoundState, bounds_of, DropsOver, IsTake}

-- nodes that are not below the best may be left out
pub drops_keep : (p : Problem) (best : Option ScheduleOf) (old new : List Subproblem)
    → DropsOver (ceiling_of best) old new → IsCovered p best old → IsCovered p best new
drops_keep p best old new drops covered =
    let nodes : All (IsNodeOf p) (new ++ drops.dropped) = rw drops.from_end at covered.of_nodes in
    covered_still p best old new (all_left (IsNodeOf p) new drops.dropped nodes)
    (λ node among under.
    ⊎_elim
    (λ (kept : Contains new node). kept)
    (λ (late : Contains drops.dropped node).
    absurd (All-contains (λ (n : Subproblem). ¬ IsUnder (ceiling_of best) n.bound) drops.dropped node drops.over
    late under))
    (Contains-append_cases new drops.dropped node (subst (λ (ns : List Subproblem). Contains ns node) drops.from_end among)))
    covered

-- the last of the nodes that are left is one of the project
pub last_is_node : (p : Problem) (ceiling : Option ℤ) (old rest : List Subproblem) (node : Subproblem)
    → DropsOver ceiling old (rest ++ node ∷ []) → All (IsNodeOf p) old → IsNodeOf p node
last_is_node p ceiling old rest node drops known =
    let nodes : All (IsNodeOf p) ((rest ++ node ∷ []) ++ drops.dropped) = rw drops.from_end at known in
    All-contains (IsNodeOf p) (rest ++ node ∷ []) node (all_left (IsNodeOf p) (rest ++ node ∷ []) drops.dropped nodes) (Contains-push rest node)

-- one node more was dropped
pub drop_one : (ceiling : Option ℤ) (old new : List Subproblem) (node : Subproblem) → ¬ IsUnder ceiling node.bound
    → DropsOver ceiling old (new ++ node ∷ []) → DropsOver ceiling old new
drop_one ceiling old new node over drops = record {
  dropped = node ∷ drops.dropped;
  from_end = drops.from_end ∙ append_assoc new (node ∷ []) drops.dropped;
  over = All-cons (λ (n : Subproblem). ¬ IsUnder ceiling n.bound) node drops.dropped over drops.over;
}

below_from_shorter : (best : Option ScheduleOf) (ceiling : Option ℤ) (s : List ℤ) → ceiling ≡ ceiling_of best → IsShorterThan best s → IsBelow ceiling s
below_from_shorter None ceiling s e shorter = rw e tt
below_from_shorter (Some best) ceiling s e shorter = rw e shorter

-- a take keeps the search sound
pub take_keeps : (old new : SearchState) → IsTake old new → IsSoundState old → IsSoundState new
take_keeps old new take sound =
    let reached : IsCovered old.project old.best (take.rest ++ take.node ∷ []) =
    drops_keep old.project old.best old.nodes (take.rest ++ take.node ∷ []) take.pops.0 sound in
    let node : IsNodeOf old.project take.node =
    All-contains (IsNodeOf old.project) (take.rest ++ take.node ∷ []) take.node reached.of_nodes
    (Contains-push take.rest take.node) in
    rw (take.project, take.nodes)
    (expansion_keeps old.project old.best new.best take.rest take.node take.report take.is_report.fair
    (ap (λ (n : Subproblem). n.project) take.expanded.node_is ∙ node.project)
    (ap (λ (n : Subproblem). n.pairs) (sym take.expanded.node_is))
    (λ s shorter. below_from_shorter old.best take.report.ceiling s take.expanded.ceiling_is shorter)
    take.best reached)

pub no_nodes : (nodes : List Subproblem) → bounds_of nodes ≡ [] → nodes ≡ []
no_nodes [] none = refl
no_nodes (node ∷ nodes) none = absurd cc
