-- A book's nodes go on to cover what is shorter than its best, as they move, as they are cut, and as one gives way to
-- its children.
use Rattle.std.proofs.Common.{◌≡◌, ◌∙◌, ◌<ℤ◌, ℕ, ℤ, Bool, true, false, cond, List, [], ◌∷◌, ◌++◌, Option, Some, None, refl, sym, ap, subst, length, inl, inr}
use Rattle.std.proofs.Common.{⊎_elim, ◌⊎◌, arith, IfSome}
use Rattle.std.specs.List.{All, Contains, filter}
use Rattle.std.specs.List.Sorted.{IsPermutation}
use Rattle.std.proofs.lemmas.Int.{ints}
use Rattle.std.proofs.lemmas.List.{map-append}
use Rattle.std.proofs.lemmas.List.Elements.{All-append, All-filter, All-map, All-contains, Contains-append_left, Contains-append_right, Contains-append_cases}
use Rattle.std.proofs.lemmas.List.Sorted.{IsPermutation-map, All-permutation, Contains-permutation, IsPermutation-append_comm}
use Rattle.network.specs.Problem.{Problem}
use Rattle.network.specs.Schedule.{ScheduleOf, makespan, IsScheduleFor}
use Rattle.branching.specs.Subproblem.{Subproblem}
use Rattle.branching.specs.Right.{IsBelow, IsUnder, Reaches, is_below, IsInTime}
use Rattle.branching.specs.Fair.{IsNodeOf, IsCovered, ceiling_of, Expansion, IsFair, IsShorterThan, IsShorterOf}
use Rattle.branching.proofs.OrderedPairs.{here, there, contains_cases}
use Rattle.branching.proofs.Covers.{covered_still, expansion_keeps}
use Rattle.book.specs.State.{Named}
use Rattle.book.specs.Sound.{nodes_of}
use Rattle.book.specs.Steps.{Improves, named_from}
use Rattle.search_log.specs.RightTrail.{children_below}
use Rattle.book.proofs.Names.{all_left, all_right, nodes_of_named}

-- nodes may change places
pub covered_moved : (p : Problem) (best : Option ScheduleOf) (old new : List Named) → IsPermutation old new
    → IsCovered p best (nodes_of old) → IsCovered p best (nodes_of new)
covered_moved p best old new moved covered =
    let nodes = IsPermutation-map (λ (n : Named). n.node) old new moved in
    covered_still p best (nodes_of old) (nodes_of new) (All-permutation (IsNodeOf p) (nodes_of old) (nodes_of new) nodes covered.of_nodes)
    (λ node among _. Contains-permutation (nodes_of old) (nodes_of new) node nodes among) covered

not_both : (limit : Option ℤ) (bound : ℤ) → Reaches limit bound → IsUnder limit bound → ⊥
not_both None bound reaches under = reaches
not_both (Some limit) bound reaches under = omega (arith, ints)

each_reaches : (limit : Option ℤ) (nodes : List Named) → All (λ (n : Named). Reaches limit n.node.bound) nodes
    → All (λ (n : Subproblem). Reaches limit n.bound) (nodes_of nodes)
each_reaches limit nodes all = All-map (λ (n : Subproblem). Reaches limit n.bound) (λ (n : Named). n.node) nodes all

-- nodes that can't lead to a shorter schedule may be cut
pub covered_cut : (p : Problem) (best : Option ScheduleOf) (waiting held : List Named)
    → All (λ (n : Named). Reaches (ceiling_of best) n.node.bound) waiting
    → IsCovered p best (nodes_of (waiting ++ held)) → IsCovered p best (nodes_of held)
covered_cut p best waiting held reached covered =
    let parts : nodes_of (waiting ++ held) ≡ nodes_of waiting ++ nodes_of held = map-append (λ (n : Named). n.node) waiting held in
    let all : All (IsNodeOf p) (nodes_of waiting ++ nodes_of held) = subst (λ (ns : List Subproblem). All (IsNodeOf p) ns) parts covered.of_nodes in
    covered_still p best (nodes_of (waiting ++ held)) (nodes_of held) (all_right (IsNodeOf p) (nodes_of waiting) (nodes_of held) all)
    (λ node among under.
    ⊎_elim
    (λ (cut : Contains (nodes_of waiting) node).
    absurd (not_both (ceiling_of best) node.bound
    (All-contains (λ (n : Subproblem). Reaches (ceiling_of best) n.bound) (nodes_of waiting) node
    (each_reaches (ceiling_of best) waiting reached) cut) under))
    (λ (kept : Contains (nodes_of held) node). kept)
    (Contains-append_cases (nodes_of waiting) (nodes_of held) node (subst (λ (ns : List Subproblem). Contains ns node) parts among)))
    covered

-- ---- a better schedule

below_shorter : (best : Option ScheduleOf) (length : ℤ) (s : List ℤ) → IsUnder (ceiling_of best) length → makespan s <ℤ length → IsShorterThan best s
below_shorter None length s under shorter = tt
below_shorter (Some best) length s under shorter = omega (arith, ints, under)

not_longer : (best : Option ScheduleOf) (length : ℤ) (s : List ℤ) → Reaches (ceiling_of best) length → IsShorterThan best s → makespan s <ℤ length
not_longer None length s reaches shorter = absurd reaches
not_longer (Some best) length s reaches shorter = omega (arith, ints, shorter)

-- what is shorter than the new best is shorter than the old one and than what was found
pub improved_is_shorter : (old found new : Option ScheduleOf) (improved : Bool) → Improves old found improved new → IsShorterOf old found new
improved_is_shorter old found new true (schedule, is, under, now) =
    let here : new ≡ Some schedule = now ∙ is in
    record {
      than_best = λ s shorter. below_shorter old (makespan schedule.starts) s under (subst (λ (o : Option ScheduleOf). IsShorterThan o s) here shorter);
      than_found = λ s shorter. subst (λ (o : Option ScheduleOf). IsShorterThan o s) now shorter;
      from = subst (λ (o : Option ScheduleOf). IfSome o (λ s. (Some s ≡ old) ⊎ (Some s ≡ found))) (sym here) (inr (sym is));
    }
improved_is_shorter old found new false (reached, now) = record {
  than_best = λ s shorter. subst (λ (o : Option ScheduleOf). IsShorterThan o s) now shorter;
  than_found = λ s shorter. not_found found s reached (subst (λ (o : Option ScheduleOf). IsShorterThan o s) now shorter);
  from = subst (λ (o : Option ScheduleOf). IfSome o (λ s. (Some s ≡ old) ⊎ (Some s ≡ found))) (sym now) (of_old old);
}
  where
    not_found : (found : Option ScheduleOf) (s : List ℤ)
        → IfSome found (λ schedule. Reaches (ceiling_of old) (makespan schedule.starts)) → IsShorterThan old s
        → IsShorterThan found s
    not_found None s reached shorter = tt
    not_found (Some schedule) s reached shorter = not_longer old (makespan schedule.starts) s reached shorter

    of_old : (o : Option ScheduleOf) → IfSome o (λ s. (Some s ≡ o) ⊎ (Some s ≡ found))
    of_old None = tt
    of_old (Some s) = inl refl

-- a feasible schedule may become the best
pub covered_improved : (p : Problem) (best found new : Option ScheduleOf) (improved : Bool) (nodes : List Subproblem)
    → Improves best found improved new → IfSome found (IsScheduleFor p) → IsCovered p best nodes → IsCovered p new nodes
covered_improved p best found new improved nodes improves of_found covered =
    let shorter_of = improved_is_shorter best found new improved improves in
    record {
      of_best = of_new new shorter_of.from;
      of_nodes = covered.of_nodes;
      covers = λ s feasible shorter. covered.covers s feasible (shorter_of.than_best s shorter);
    }
  where
    of_new : (new : Option ScheduleOf) → IfSome new (λ s. (Some s ≡ best) ⊎ (Some s ≡ found)) → IfSome new (IsScheduleFor p)
    of_new None from = tt
    of_new (Some s) from =
        ⊎_elim
        (λ (old : Some s ≡ best). subst (λ (o : Option ScheduleOf). IfSome o (IsScheduleFor p)) (sym old) covered.of_best)
        (λ (now : Some s ≡ found). subst (λ (o : Option ScheduleOf). IfSome o (IsScheduleFor p)) (sym now) of_found)
        from

-- ---- a node that gives way to its children

in_time_below : (ceiling : Option ℤ) (best : Option ScheduleOf) (s : List ℤ) → IsInTime ceiling (ceiling_of best) → IsShorterThan best s → IsBelow ceiling s
in_time_below None best s in_time shorter = tt
in_time_below (Some ceiling) None s in_time shorter = absurd in_time
in_time_below (Some ceiling) (Some best) s in_time shorter = omega (arith, ints, in_time, shorter)

under_is_below : (limit : Option ℤ) (bound : ℤ) → IsUnder limit bound → is_below limit bound ≡ true
under_is_below None bound under = refl
under_is_below (Some limit) bound under = grind (arith, ints, under)

-- what passes is in the filtered list
stays : (p : Subproblem → Bool) (xs : List Subproblem) (x : Subproblem) → p x ≡ true → Contains xs x → Contains (filter p xs) x
stays p [] x passes (k, l, e) = absurd (omega arith)
stays p (y ∷ ys) x passes among =
    ⊎_elim
    (λ (same : y ≡ x). first (p y) (ap p same ∙ passes) same)
    (λ (later : Contains ys x). others (p y) (stays p ys x passes later))
    (contains_cases y ys x among)
  where
    first : (b : Bool) → b ≡ true → y ≡ x → Contains (let zs : List Subproblem = cond b (y ∷ filter p ys) (filter p ys) in zs) x
    first true e same = subst (λ z. Contains (y ∷ filter p ys) z) same (here y (filter p ys))
    first false e same = absurd (cc)

    others : (b : Bool) → Contains (filter p ys) x → Contains (let zs : List Subproblem = cond b (y ∷ filter p ys) (filter p ys) in zs) x
    others true later = there y (filter p ys) x later
    others false later = later

-- a child that may lead to a shorter schedule is opened
child_stays : (limit : Option ℤ) (children : List Subproblem) (child : Subproblem) → Contains children child
    → IsUnder limit child.bound → Contains (children_below limit children) child
child_stays limit children child among under = stays (λ (k : Subproblem). is_below limit k.bound) children child (under_is_below limit child.bound under) among

-- the node gives way to those of its children that are below the new best
pub covered_expanded : (p : Problem) (best new : Option ScheduleOf) (improved : Bool) (first : ℕ) (held : Named)
    (rest : List Named) (report : Expansion) → IsFair report → report.node.project ≡ p
    → held.node.pairs ≡ report.node.pairs → IsInTime report.ceiling (ceiling_of best)
    → Improves best report.found improved new → IsCovered p best (nodes_of (held ∷ rest))
    → IsCovered p new (nodes_of (named_from first (children_below (ceiling_of new) report.children) ++ rest))
covered_expanded p best new improved first held rest report fair project pairs in_time improves covered =
    let shorter_of = improved_is_shorter best report.found new improved improves in
    let children = children_below (ceiling_of new) report.children in
    let others = nodes_of rest in
    let last : IsPermutation (nodes_of (held ∷ rest)) (others ++ held.node ∷ []) = IsPermutation-append_comm (held.node ∷ []) others in
    let turned : IsCovered p best (others ++ held.node ∷ []) =
    covered_still p best (nodes_of (held ∷ rest)) (others ++ held.node ∷ [])
    (All-permutation (IsNodeOf p) _ _ last covered.of_nodes)
    (λ node among _. Contains-permutation _ _ node last among) covered in
    let expanded : IsCovered p new (others ++ report.children) =
    expansion_keeps p best new others held.node report fair project pairs
    (λ s shorter. in_time_below report.ceiling best s in_time shorter) shorter_of turned in
    let all_children : All (IsNodeOf p) children =
    All-filter (λ (child : Subproblem). is_below (ceiling_of new) child.bound) (IsNodeOf p) report.children
    (all_right (IsNodeOf p) others report.children expanded.of_nodes) in
    let opened : IsCovered p new (children ++ others) =
    covered_still p new (others ++ report.children) (children ++ others)
    (All-append (IsNodeOf p) children others all_children
    (all_left (IsNodeOf p) others report.children expanded.of_nodes))
    (λ node among under.
    ⊎_elim
    (λ (other : Contains others node). Contains-append_right children others node other)
    (λ (child : Contains report.children node). Contains-append_left children others node (child_stays (ceiling_of new) report.children node child under))
    (Contains-append_cases others report.children node among))
    expanded in
    let names : nodes_of (named_from first children ++ rest) ≡ children ++ others =
    map-append (λ (n : Named). n.node) (named_from first children) rest
    ∙ ap (λ (ks : List Subproblem). ks ++ others) (nodes_of_named first children) in
    subst (λ (ns : List Subproblem). IsCovered p new ns) (sym names) opened
