-- What right fates of the ordered pairs give: children of the node, which stand for all that keeps one of
-- the pairs.
use Rattle.std.proofs.Common.{◌≡◌, sym, zero, suc, ◌≤◌, List, [], ◌∷◌, ◌++◌, length, ◌⊎◌, inl, inr, ⊎_elim, arith, append_assoc, append-nil, subst, Option}
use Rattle.std.proofs.Common.{Some, None, ℤ, ◌≤ℤ◌, ◌<ℤ◌}
use Rattle.std.specs.List.{All, Any}
use Rattle.std.proofs.lemmas.Int.{ints}
use Rattle.std.proofs.lemmas.List.Elements.{All-nil, All-cons, All-push, All-head, All-tail}
use Rattle.network.specs.declared.parts.Pair.{Pair}
use Rattle.network.specs.Problem.{Problem}
use Rattle.network.specs.Schedule.{Keeps, makespan, StandsFor, IsTrueBound}
use Rattle.network.proofs.Schedules.{no_schedule_on_cycle}
use Rattle.bounds.proofs.TrueBounds.{IsTrueBoundFor-bound}
use Rattle.branching.specs.Subproblem.{Subproblem, NodeStandsFor, IsBoundOfPairs}
use Rattle.branching.specs.Right.{IsCut, IsBelow, IsUnder}
use Rattle.branching.specs.Fates.{Fates, is_child, is_infeasible, is_cut, IsChildBy, IsInfeasibleBy, IsCutBy, AreFates}
use Rattle.branching.specs.Fair.{IsNewTo, IsChildOf}
use Rattle.branching.proofs.OrderedPairs.{here, any_right}
use Rattle.branching.proofs.Forcings.{all_forced_hold}

-- ---- fates of more pairs

pub more_fates : (node : Subproblem) (ceiling : Option ℤ) (ps : List Pair) (fs : Fates) (ks : List Subproblem)
    (qs : List Pair) (gs : Fates) (ls : List Subproblem) → AreFates node ceiling ps fs ks
    → AreFates node ceiling qs gs ls → AreFates node ceiling (ps ++ qs) (fs ++ gs) (ks ++ ls)
more_fates node ceiling [] [] [] qs gs ls first then = then
more_fates node ceiling [] [] (k ∷ ks) qs gs ls first then = absurd first
more_fates node ceiling [] (f ∷ fs) ks qs gs ls first then = absurd first
more_fates node ceiling (p ∷ ps) [] ks qs gs ls first then = absurd first
more_fates node ceiling (p ∷ ps) (is_child u ∷ fs) [] qs gs ls first then = absurd first
more_fates node ceiling (p ∷ ps) (is_child u ∷ fs) (k ∷ ks) qs gs ls first then = (first.0, first.1, more_fates node ceiling ps fs ks qs gs ls first.2 then)
more_fates node ceiling (p ∷ ps) (is_infeasible forced ∷ fs) ks qs gs ls first then = (first.0, more_fates node ceiling ps fs ks qs gs ls first.1 then)
more_fates node ceiling (p ∷ ps) (is_cut forced ∷ fs) ks qs gs ls first then = (first.0, more_fates node ceiling ps fs ks qs gs ls first.1 then)

-- one pair more
pub fate_child : (node : Subproblem) (ceiling : Option ℤ) (ps : List Pair) (fs : Fates) (ks : List Subproblem)
    (pair : Pair) (child : Subproblem) → AreFates node ceiling ps fs ks → IsChildBy node pair child
    → IsUnder ceiling child.bound → AreFates node ceiling (ps ++ pair ∷ []) (fs ++ is_child tt ∷ []) (ks ++ child ∷ [])
fate_child node ceiling ps fs ks pair child so_far by under =
    more_fates node ceiling ps fs ks (pair ∷ []) (is_child tt ∷ []) (child ∷ []) so_far (by, under, tt)

pub fate_infeasible : (node : Subproblem) (ceiling : Option ℤ) (ps : List Pair) (fs : Fates) (ks : List Subproblem)
    (pair : Pair) (forced : List Pair) → AreFates node ceiling ps fs ks → IsInfeasibleBy node pair forced
    → AreFates node ceiling (ps ++ pair ∷ []) (fs ++ is_infeasible forced ∷ []) ks
fate_infeasible node ceiling ps fs ks pair forced so_far dead =
    let all : AreFates node ceiling (ps ++ pair ∷ []) (fs ++ is_infeasible forced ∷ []) (ks ++ []) =
    more_fates node ceiling ps fs ks (pair ∷ []) (is_infeasible forced ∷ []) [] so_far (dead, tt) in
    rw (append-nil ks) at all

pub fate_cut : (node : Subproblem) (ceiling : Option ℤ) (ps : List Pair) (fs : Fates) (ks : List Subproblem)
    (pair : Pair) (forced : List Pair) → AreFates node ceiling ps fs ks → IsCutBy node ceiling pair forced
    → AreFates node ceiling (ps ++ pair ∷ []) (fs ++ is_cut forced ∷ []) ks
fate_cut node ceiling ps fs ks pair forced so_far cut =
    let all : AreFates node ceiling (ps ++ pair ∷ []) (fs ++ is_cut forced ∷ []) (ks ++ []) =
    more_fates node ceiling ps fs ks (pair ∷ []) (is_cut forced ∷ []) [] so_far (cut, tt) in
    rw (append-nil ks) at all

-- ---- what they give

pub fates_few : (node : Subproblem) (ceiling : Option ℤ) (ps : List Pair) (fs : Fates) (ks : List Subproblem)
    → AreFates node ceiling ps fs ks → length ks ≤ length ps
fates_few node ceiling [] [] [] are = omega arith
fates_few node ceiling [] [] (k ∷ ks) are = absurd are
fates_few node ceiling [] (f ∷ fs) ks are = absurd are
fates_few node ceiling (p ∷ ps) [] ks are = absurd are
fates_few node ceiling (p ∷ ps) (is_child u ∷ fs) [] are = absurd are
fates_few node ceiling (p ∷ ps) (is_child u ∷ fs) (k ∷ ks) are = omega (arith, fates_few node ceiling ps fs ks are.2)
fates_few node ceiling (p ∷ ps) (is_infeasible forced ∷ fs) ks are = omega (arith, fates_few node ceiling ps fs ks are.1)
fates_few node ceiling (p ∷ ps) (is_cut forced ∷ fs) ks are = omega (arith, fates_few node ceiling ps fs ks are.1)

pub fates_under : (node : Subproblem) (ceiling : Option ℤ) (ps : List Pair) (fs : Fates) (ks : List Subproblem)
    → AreFates node ceiling ps fs ks → All (λ child. IsUnder ceiling child.bound) ks
fates_under node ceiling [] [] [] are = All-nil (λ (child : Subproblem). IsUnder ceiling child.bound)
fates_under node ceiling [] [] (k ∷ ks) are = absurd are
fates_under node ceiling [] (f ∷ fs) ks are = absurd are
fates_under node ceiling (p ∷ ps) [] ks are = absurd are
fates_under node ceiling (p ∷ ps) (is_child u ∷ fs) [] are = absurd are
fates_under node ceiling (p ∷ ps) (is_child u ∷ fs) (k ∷ ks) are =
    All-cons (λ (child : Subproblem). IsUnder ceiling child.bound) k ks are.1 (fates_under node ceiling ps fs ks are.2)
fates_under node ceiling (p ∷ ps) (is_infeasible forced ∷ fs) ks are = fates_under node ceiling ps fs ks are.1
fates_under node ceiling (p ∷ ps) (is_cut forced ∷ fs) ks are = fates_under node ceiling ps fs ks are.1

pub fates_children : (node : Subproblem) (ceiling : Option ℤ) (ps : List Pair) (fs : Fates) (ks : List Subproblem)
    → AreFates node ceiling ps fs ks → All (IsNewTo node) ps → All (IsChildOf node) ks
fates_children node ceiling [] [] [] are new = All-nil (IsChildOf node)
fates_children node ceiling [] [] (k ∷ ks) are new = absurd are
fates_children node ceiling [] (f ∷ fs) ks are new = absurd are
fates_children node ceiling (p ∷ ps) [] ks are new = absurd are
fates_children node ceiling (p ∷ ps) (is_child u ∷ fs) [] are new = absurd are
fates_children node ceiling (p ∷ ps) (is_child u ∷ fs) (k ∷ ks) are new =
    All-cons (IsChildOf node) k ks (record { first = p; is_new = All-head (IsNewTo node) p ps new; adds = are.0 })
    (fates_children node ceiling ps fs ks are.2 (All-tail (IsNewTo node) p ps new))
fates_children node ceiling (p ∷ ps) (is_infeasible forced ∷ fs) ks are new = fates_children node ceiling ps fs ks are.1 (All-tail (IsNewTo node) p ps new)
fates_children node ceiling (p ∷ ps) (is_cut forced ∷ fs) ks are new = fates_children node ceiling ps fs ks are.1 (All-tail (IsNewTo node) p ps new)

-- ---- one pair, and the schedules that keep it

with_first : (node : Subproblem) (first : Pair) (s : List ℤ) → NodeStandsFor node s → Keeps node.project s first
    → StandsFor node.project (node.pairs ++ first ∷ []) s
with_first node first s stands keeps = record { feasible = stands.feasible; keeps = All-push (Keeps node.project s) node.pairs first stands.keeps keeps }

-- the child stands for what the node stands for and keeps the pair
pub child_stands : (node child : Subproblem) (first : Pair) (s : List ℤ) → IsChildBy node first child
    → NodeStandsFor node s → Keeps node.project s first → NodeStandsFor child s
child_stands node child first s by stands keeps =
    let all : StandsFor node.project ((node.pairs ++ first ∷ []) ++ by.forced) s =
    all_forced_hold node.project (node.pairs ++ first ∷ []) by.forced s by.all_forced
    (with_first node first s stands keeps) in
    let same : (node.pairs ++ first ∷ []) ++ by.forced ≡ node.pairs ++ first ∷ by.forced = append_assoc node.pairs (first ∷ []) by.forced in
    rw (by.pairs, by.project) (rw same at all)

-- nothing keeps a dead pair
pub infeasible_has_none : (node : Subproblem) (first : Pair) (forced : List Pair) (s : List ℤ)
    → IsInfeasibleBy node first forced → NodeStandsFor node s → Keeps node.project s first → ⊥
infeasible_has_none node first forced s dead stands keeps =
    let all : StandsFor node.project ((node.pairs ++ first ∷ []) ++ forced) s =
    all_forced_hold node.project (node.pairs ++ first ∷ []) forced s dead.all_forced
    (with_first node first s stands keeps) in
    no_schedule_on_cycle node.project ((node.pairs ++ first ∷ []) ++ forced) s dead.dead all.feasible.schedule all.keeps

-- the bound of the pairs' matrix is a true bound
pub cut_holds : (p : Problem) (pairs : List Pair) (limit : ℤ) → IsCut p pairs limit → IsTrueBound p pairs limit
cut_holds p pairs limit cut s stands =
    let of : IsBoundOfPairs p pairs cut.bound = cut.bound_of in
    let long : cut.bound ≤ℤ makespan s = IsTrueBoundFor-bound p of.rows cut.bound of.bound_of pairs of.matrix s stands in
    let reaches : limit ≤ℤ cut.bound = cut.reaches in
    omega (arith, ints)

-- what keeps a cut pair isn't below the ceiling
pub cut_has_none : (node : Subproblem) (ceiling : Option ℤ) (first : Pair) (forced : List Pair) (s : List ℤ)
    → IsCutBy node ceiling first forced → NodeStandsFor node s → Keeps node.project s first → IsBelow ceiling s → ⊥
cut_has_none node None first forced s cut stands keeps below = cut.cut
cut_has_none node (Some limit) first forced s cut stands keeps below =
    let all : StandsFor node.project ((node.pairs ++ first ∷ []) ++ forced) s =
    all_forced_hold node.project (node.pairs ++ first ∷ []) forced s cut.all_forced
    (with_first node first s stands keeps) in
    let long : limit ≤ℤ makespan s = cut_holds node.project ((node.pairs ++ first ∷ []) ++ forced) limit cut.cut s all in
    let short : makespan s <ℤ limit = below in
    omega (arith, ints)

-- ---- all pairs

first_or_later : {X : Type 0} (P : X → Type 0) (x : X) (xs : List X) → Any P (x ∷ xs) → P x ⊎ Any P xs
first_or_later P x xs (zero, y, l, e, p) = inl (subst P (sym e) p)
first_or_later P x xs (suc k, y, l, e, p) = inr (k, y, omega arith, e, p)

any_here : {X : Type 0} (P : X → Type 0) (x : X) (xs : List X) → P x → Any P (x ∷ xs)
any_here P x xs p = let at = here x xs in (at.0, x, at.1, at.2, p)

none_any : {X : Type 0} (P : X → Type 0) → Any P [] → ⊥
none_any P (k, y, l, e, p) = omega arith

-- each schedule below the ceiling that keeps one of the pairs is one that some child stands for
pub fates_cover : (node : Subproblem) (ceiling : Option ℤ) (ps : List Pair) (fs : Fates) (ks : List Subproblem) → AreFates node ceiling ps fs ks →
    (s : List ℤ) → NodeStandsFor node s → IsBelow ceiling s → Any (Keeps node.project s) ps → Any (λ child. NodeStandsFor child s) ks
fates_cover node ceiling [] [] [] are s stands below kept = absurd (none_any (Keeps node.project s) kept)
fates_cover node ceiling [] [] (k ∷ ks) are s stands below kept = absurd are
fates_cover node ceiling [] (f ∷ fs) ks are s stands below kept = absurd are
fates_cover node ceiling (p ∷ ps) [] ks are s stands below kept = absurd are
fates_cover node ceiling (p ∷ ps) (is_child u ∷ fs) [] are s stands below kept = absurd are
fates_cover node ceiling (p ∷ ps) (is_child u ∷ fs) (k ∷ ks) are s stands below kept =
    ⊎_elim
    (λ (now : Keeps node.project s p). any_here (λ child. NodeStandsFor child s) k ks (child_stands node k p s are.0 stands now))
    (λ (later : Any (Keeps node.project s) ps).
    any_right (λ child. NodeStandsFor child s) (k ∷ []) ks
    (fates_cover node ceiling ps fs ks are.2 s stands below later))
    (first_or_later (Keeps node.project s) p ps kept)
fates_cover node ceiling (p ∷ ps) (is_infeasible forced ∷ fs) ks are s stands below kept =
    ⊎_elim
    (λ (now : Keeps node.project s p). absurd (infeasible_has_none node p forced s are.0 stands now))
    (λ (later : Any (Keeps node.project s) ps). fates_cover node ceiling ps fs ks are.1 s stands below later)
    (first_or_later (Keeps node.project s) p ps kept)
fates_cover node ceiling (p ∷ ps) (is_cut forced ∷ fs) ks are s stands below kept =
    ⊎_elim
    (λ (now : Keeps node.project s p). absurd (cut_has_none node ceiling p forced s are.0 stands now below))
    (λ (later : Any (Keeps node.project s) ps). fates_cover node ceiling ps fs ks are.1 s stands below later)
    (first_or_later (Keeps node.project s) p ps kept)
