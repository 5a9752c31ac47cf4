-- The entries of the open nodes, as one goes in.
use Rattle.std.proofs.Common.{◌≡◌, ◌<◌, ◌<ℤ◌, ◌≤ℤ◌, ℤ, List, [], ◌∷◌, Some, sym, ap, subst, inl, inr, ◌∙◌, map, arith, false, ◌⊎◌, slice_get, ◌+◌, ◌-◌, ℕ, Bool}
use Rattle.std.proofs.Common.{true, ◌++◌, Option, refl, length, length-append, cond, zero, suc, None, take, get_or}
use Rattle.std.specs.List.{All, filter, count_by}
use Rattle.std.specs.declared.cmp.Ordering.{Ordering}
use Rattle.std.specs.declared.cmp.Ordering.TheVariants.{Less, Equal, Greater}
use Rattle.std.specs.Ordering.{ordering_then, int_cmp, nat_cmp, is_gt, MatchOrdering, match_ordering}
use Rattle.std.specs.Cmp.{int_ranks}
use Rattle.std.proofs.lemmas.Cmp.{ranked}
use Rattle.std.proofs.lemmas.Int.{ints}
use Rattle.std.specs.Map.{keys_of}
use Rattle.std.specs.BTreeMap.Range.{IsLeBy, IsLtBy}
use Rattle.std.proofs.lemmas.List.Elements.{All-nil, All-cons, All-head, All-tail, All-weaker, filter-append}
use Rattle.book.specs.Steps.{GoesBefore, named_from}
use Rattle.book.specs.Sound.{bounds_of, AreNamedBelow}
use Rattle.book.specs.OpenNodes.{open_node, IsFiled, IsNamedOtherThan, is_older, Inserts, InsertsChildren, Rank, NodeOwners}
use Rattle.std.specs.Arc.{arc_value}
use Rattle.std.specs.BTreeMap.{insert_entry}
use Rattle.std.specs.List.Sorted.{IsPermutation}
use Rattle.std.proofs.lemmas.List.Sorted.{IsPermutation-refl, IsPermutation-trans, IsPermutation-cons, IsPermutation-middle, IsPermutation-append_left}
use Rattle.std.proofs.lemmas.List.Sorted.{IsPermutation-to_front, All-permutation, IsPermutation-append_right}
use Rattle.branching.specs.Subproblem.{Subproblem}
use Rattle.book.specs.State.{Named, BookState, in_hand, live, hand_of, Held}
use Rattle.branching.specs.Right.{is_below, IsLeast}
use Rattle.search_log.specs.RightTrail.{children_below}
use Rattle.book.proofs.Names.{named_from_more}
use Rattle.std.specs.Option.{is_some}
use Rattle.std.proofs.Math.ListN.{set, replicate}
use Rattle.std.proofs.lemmas.List.{take_more, map-append}
use Rattle.std.proofs.lemmas.List.Sums.{sum_by-cons}

-- ---- What the order of the open nodes says of their bounds and names.

-- what the derived order of ranks comes to
abbrev pub rank_cmp : Rank → Rank → Ordering
rank_cmp a b = ordering_then (int_cmp a.bound b.bound) (nat_cmp b.name.0 a.name.0)

bound_at_least : (a b : Rank) → IsLeBy rank_cmp a b → a.bound ≤ℤ b.bound
bound_at_least a b h =
    (elim (int_cmp a.bound b.bound) as (λ r.
    MatchOrdering r (a.bound <ℤ b.bound) (a.bound ≡ b.bound) (b.bound <ℤ a.bound)
    → is_gt (ordering_then r (nat_cmp b.name.0 a.name.0)) ≡ false → a.bound ≤ℤ b.bound) [
      | Less ↦ λ l _. omega (arith, ints)
      | Equal ↦ λ e _. omega (arith, ints)
      | Greater ↦ λ g f. absurd (cc)
    ]) (int_ranks a.bound b.bound) h

before : (a b : Rank) → IsLtBy rank_cmp a b → (a.bound <ℤ b.bound) ⊎ ((a.bound ≡ b.bound) × (b.name.0 < a.name.0))
before a b h =
    (elim (int_cmp a.bound b.bound) as (λ r.
    MatchOrdering r (a.bound <ℤ b.bound) (a.bound ≡ b.bound) (b.bound <ℤ a.bound)
    → ordering_then r (nat_cmp b.name.0 a.name.0) ≡ Less → (a.bound <ℤ b.bound)
    ⊎ ((a.bound ≡ b.bound) × (b.name.0 < a.name.0))) [
      | Less ↦ λ l _. inl l
      | Equal ↦ λ e f. inr (e, ranked b.name.0 a.name.0 Less (sym f))
      | Greater ↦ λ g f. absurd (cc)
    ]) (int_ranks a.bound b.bound) h

-- the first open node goes before each other
pub goes_before_others : (first : Rank × NodeOwners) (es : List (Rank × NodeOwners)) → IsFiled first
    → All (IsLtBy rank_cmp first.0) (keys_of es) → All IsFiled es
    → All (GoesBefore (open_node first)) (map open_node es)
goes_before_others first [] f lt filed = All-nil (GoesBefore (open_node first))
goes_before_others first (e ∷ es) f lt filed =
    let this = All-head IsFiled e es filed in
    let goes = before first.0 e.0 (All-head (IsLtBy rank_cmp first.0) e.0 (keys_of es) lt) in
    All-cons (GoesBefore (open_node first)) (open_node e) (map open_node es)
    (subst (λ (x : ℤ). (x <ℤ (open_node e).node.bound) ⊎ ((x ≡ (open_node e).node.bound) × (e.0.name.0 < first.0.name.0))) f.bound
    (subst (λ (x : ℤ). (first.0.bound <ℤ x) ⊎ ((first.0.bound ≡ x) × (e.0.name.0 < first.0.name.0))) this.bound goes))
    (goes_before_others first es f (All-tail (IsLtBy rank_cmp first.0) e.0 (keys_of es) lt) (All-tail IsFiled e es filed))

each_above : (rank : Rank) (es : List (Rank × NodeOwners)) → All (IsLeBy rank_cmp rank) (keys_of es) → All IsFiled es
    → All (λ n. rank.bound ≤ℤ n) (bounds_of (map open_node es))
each_above rank [] le filed = All-nil (λ n. rank.bound ≤ℤ n)
each_above rank (e ∷ es) le filed =
    All-cons (λ n. rank.bound ≤ℤ n) (open_node e).node.bound (bounds_of (map open_node es))
    (subst (λ (x : ℤ). rank.bound ≤ℤ x) (All-head IsFiled e es filed).bound (bound_at_least rank e.0 (All-head (IsLeBy rank_cmp rank) e.0 (keys_of es) le)))
    (each_above rank es (All-tail (IsLeBy rank_cmp rank) e.0 (keys_of es) le) (All-tail IsFiled e es filed))

-- the first open node has the least bound
pub first_is_least : (es : List (Rank × NodeOwners)) (rank : Rank) (opened : NodeOwners)
    → slice_get es 0 ≡ Some (rank, opened) → All (IsLeBy rank_cmp rank) (keys_of es) → All IsFiled es
    → IsLeast (bounds_of (map open_node es)) (Some rank.bound)
first_is_least [] rank opened first le filed = absurd (cc)
first_is_least (e ∷ es) rank opened first le filed =
    let same : e ≡ (rank, opened) = cc in
    let bound : (open_node e).node.bound ≡ rank.bound = sym (All-head IsFiled e es filed).bound ∙ ap (λ (p : Rank × NodeOwners). p.0.bound) same in
    ((0, omega arith, bound), each_above rank (e ∷ es) le filed)

-- ranks that tie have one name
same_name : (a b : Rank) → rank_cmp a b ≡ Equal → b.name.0 ≡ a.name.0
same_name a b h =
    (elim (int_cmp a.bound b.bound) as (λ r. ordering_then r (nat_cmp b.name.0 a.name.0) ≡ Equal → b.name.0 ≡ a.name.0) [
      | Less ↦ λ f. absurd (cc)
      | Equal ↦ λ f. ranked b.name.0 a.name.0 Equal (sym f)
      | Greater ↦ λ f. absurd (cc)
    ]) h

-- by the place of a new name
by_place : (Q : List (Rank × NodeOwners) → Type 0) (e : Rank × NodeOwners) (es : List (Rank × NodeOwners)) (k : Rank)
    (o : NodeOwners) → IsNamedOtherThan k.name.0 (open_node e) → Q ((k, o) ∷ e ∷ es)
    → Q (e ∷ insert_entry rank_cmp es k o) → Q (insert_entry rank_cmp (e ∷ es) k o)
by_place Q e es k o other first later =
    (elim (rank_cmp k e.0) as (λ r. rank_cmp k e.0 ≡ r → Q (match_ordering r ((k, o) ∷ e ∷ es) ((e.0, o) ∷ es) (e ∷ insert_entry rank_cmp es k o))) [
      | Less ↦ λ _. first
      | Equal ↦ λ f. absurd (other (same_name k e.0 f))
      | Greater ↦ λ _. later
    ]) refl

nodes_after : (es : List (Rank × NodeOwners)) (k : Rank) (o : NodeOwners)
    → All (IsNamedOtherThan k.name.0) (map open_node es)
    → IsPermutation (open_node (k, o) ∷ map open_node es) (map open_node (insert_entry rank_cmp es k o))
nodes_after [] k o fresh = IsPermutation-refl _
nodes_after (e ∷ es) k o fresh =
    by_place (λ new. IsPermutation (open_node (k, o) ∷ map open_node (e ∷ es)) (map open_node new)) e es k o
    (All-head (IsNamedOtherThan k.name.0) (open_node e) (map open_node es) fresh)
    (IsPermutation-refl _)
    (IsPermutation-trans _ _ _ (IsPermutation-middle (open_node (k, o) ∷ []) (open_node e) (map open_node es))
    (IsPermutation-cons (open_node e) _ _ (nodes_after es k o (All-tail (IsNamedOtherThan k.name.0) (open_node e) (map open_node es) fresh))))

pub filed_after : (es : List (Rank × NodeOwners)) (k : Rank) (o : NodeOwners)
    → All (IsNamedOtherThan k.name.0) (map open_node es) → IsFiled (k, o) → All IsFiled es
    → All IsFiled (insert_entry rank_cmp es k o)
filed_after [] k o fresh this filed = All-cons IsFiled (k, o) [] this (All-nil IsFiled)
filed_after (e ∷ es) k o fresh this filed =
    by_place (λ new. All IsFiled new) e es k o (All-head (IsNamedOtherThan k.name.0) (open_node e) (map open_node es) fresh)
    (All-cons IsFiled (k, o) (e ∷ es) this filed)
    (All-cons IsFiled e (insert_entry rank_cmp es k o) (All-head IsFiled e es filed)
    (filed_after es k o (All-tail (IsNamedOtherThan k.name.0) (open_node e) (map open_node es) fresh) this (All-tail IsFiled e es filed)))

older_after : (p : Named → Bool) (es : List (Rank × NodeOwners)) (k : Rank) (o : NodeOwners)
    → All (IsNamedOtherThan k.name.0) (map open_node es) → p (open_node (k, o)) ≡ false
    → filter p (map open_node (insert_entry rank_cmp es k o)) ≡ filter p (map open_node es)
older_after p [] k o fresh fails = ap (λ b. let xs : List Named = cond b (open_node (k, o) ∷ []) [] in xs) fails
older_after p (e ∷ es) k o fresh fails =
    by_place (λ new. filter p (map open_node new) ≡ filter p (map open_node (e ∷ es))) e es k o
    (All-head (IsNamedOtherThan k.name.0) (open_node e) (map open_node es) fresh)
    (ap (λ b. let xs : List Named = cond b (open_node (k, o) ∷ filter p (map open_node (e ∷ es))) (filter p (map open_node (e ∷ es))) in xs) fails)
    (ap (λ xs. let ys : List Named = cond (p (open_node e)) (open_node e ∷ xs) xs in ys)
    (older_after p es k o (All-tail (IsNamedOtherThan k.name.0) (open_node e) (map open_node es) fresh) fails))

-- a node goes in
pub inserted : (es new : List (Rank × NodeOwners)) (k : Rank) (o : NodeOwners) (node : Subproblem)
    → All (IsNamedOtherThan k.name.0) (map open_node es) → new ≡ insert_entry rank_cmp es k o → arc_value o.node ≡ node
    → Inserts k.name.0 node (map open_node es) (map open_node new)
inserted es new k o node fresh is owner = record {
  nodes =
      subst (λ ns. IsPermutation (record { name = k.name.0; node = node } ∷ map open_node es) (map open_node ns)) (sym is)
      (subst (λ (n : Subproblem). IsPermutation (record { name = k.name.0; node = n } ∷ map open_node es)
      (map open_node (insert_entry rank_cmp es k o))) owner (nodes_after es k o fresh));
  older = λ first l. ap (λ ns. filter (is_older first) (map open_node ns)) is ∙ older_after (is_older first) es k o fresh (grind (arith, l));
}

-- ---- the loop over children

-- the children so far went in, and what stood before is what is named below the first
pub record ChildrenSoFar (first : ℕ) (limit : Option ℤ) (children : List Subproblem) (next : ℕ) (old new : List Named) : Type 0 where
  pub nodes : IsPermutation (named_from first (children_below limit children) ++ old) new
  pub names : next ≡ first + length (children_below limit children)
  pub older : filter (is_older first) new ≡ old
  pub fresh : AreNamedBelow next new

all_older : (first : ℕ) (nodes : List Named) → AreNamedBelow first nodes → filter (is_older first) nodes ≡ nodes
all_older first [] all = refl
all_older first (n ∷ ns) all =
    let here : is_older first n ≡ true = let l = All-head (λ (n : Named). n.name < first) n ns all in grind (arith, l) in
    ap (λ b. let xs : List Named = cond b (n ∷ filter (is_older first) ns) (filter (is_older first) ns) in xs) here
    ∙ ap (λ (xs : List Named). n ∷ xs) (all_older first ns (All-tail (λ (n : Named). n.name < first) n ns all))

pub so_far_none : (first : ℕ) (limit : Option ℤ) (nodes : List Named) → AreNamedBelow first nodes → ChildrenSoFar first limit [] first nodes nodes
so_far_none first limit nodes all = record { nodes = IsPermutation-refl _; names = omega arith; older = all_older first nodes all; fresh = all }

children_more : (limit : Option ℤ) (children : List Subproblem) (child : Subproblem)
    → children_below limit (children ++ child ∷ []) ≡ children_below limit children ++ cond (is_below limit child.bound)
    (child ∷ []) []
children_more limit children child = filter-append (λ (k : Subproblem). is_below limit k.bound) children (child ∷ [])

pub so_far_skipped : (first : ℕ) (limit : Option ℤ) (children : List Subproblem) (child : Subproblem) (next : ℕ)
    (old new : List Named) → is_below limit child.bound ≡ false → ChildrenSoFar first limit children next old new
    → ChildrenSoFar first limit (children ++ child ∷ []) next old new
so_far_skipped first limit children child next old new over so =
    let skipped : children_below limit children ++ cond (is_below limit child.bound) (child ∷ []) [] ≡ children_below
    limit children ++ [] = ap (λ b. children_below limit children ++
    (let xs : List Subproblem = cond b (child ∷ []) [] in xs)) over in
    let same : children_below limit (children ++ child ∷ []) ≡ children_below limit children =
    children_more limit children child ∙ (skipped ∙ append_none (children_below limit children)) in
    record {
      nodes = subst (λ (ks : List Subproblem). IsPermutation (named_from first ks ++ old) new) (sym same) so.nodes;
      names = so.names ∙ ap (λ (ks : List Subproblem). first + length ks) (sym same);
      older = so.older;
      fresh = so.fresh;
    }
  where
    append_none : (xs : List Subproblem) → xs ++ [] ≡ xs
    append_none [] = refl
    append_none (x ∷ xs) = ap (λ ys. x ∷ ys) (append_none xs)

pub so_far_inserted : (first : ℕ) (limit : Option ℤ) (children : List Subproblem) (child : Subproblem) (next : ℕ)
    (old between new : List Named) → is_below limit child.bound ≡ true
    → ChildrenSoFar first limit children next old between → Inserts next child between new
    → ChildrenSoFar first limit (children ++ child ∷ []) (next + 1) old new
so_far_inserted first limit children child next old between new under so goes_in =
    let ks = children_below limit children in
    let node : Named = record { name = next; node = child } in
    let same : children_below limit (children ++ child ∷ []) ≡ ks ++ child ∷ [] = children_more limit children child
    ∙ ap (λ b. ks ++ (let xs : List Subproblem = cond b (child ∷ []) [] in xs)) under in
    let last : named_from first (ks ++ child ∷ []) ≡ named_from first ks ++ node ∷ [] = named_from_more first ks child
    ∙ ap (λ (n : ℕ). named_from first ks ++ record { name = n; node = child } ∷ []) (sym so.names) in
    record {
      nodes =
          subst (λ (xs : List Named). IsPermutation (xs ++ old) new) (sym (ap (named_from first) same ∙ last))
          (IsPermutation-trans _ _ _ (IsPermutation-append_left old _ _ (IsPermutation-to_front (named_from first ks) node))
          (IsPermutation-trans _ _ _ (IsPermutation-cons node _ _ so.nodes) goes_in.nodes));
      names = let longer : length (children_below limit (children ++ child ∷ [])) ≡ length ks + 1 = ap length same
          ∙ length-append ks (child ∷ []) in omega (arith, so.names, longer);
      older = goes_in.older first (omega (arith, so.names)) ∙ so.older;
      fresh =
          All-permutation (λ (n : Named). n.name < next + 1) (node ∷ between) new goes_in.nodes
          (All-cons (λ (n : Named). n.name < next + 1) node between (omega arith)
          (All-weaker (λ (n : Named). n.name < next) (λ (n : Named). n.name < next + 1) (λ n h. omega (arith, h))
          between so.fresh));
    }

pub all_inserted : (first : ℕ) (limit : Option ℤ) (children : List Subproblem) (next : ℕ) (old new : List Named)
    → ChildrenSoFar first limit children next old new → InsertsChildren first limit children (next - first) old new
all_inserted first limit children next old new so = record { count_is = omega (arith, so.names); nodes = so.nodes; older = so.older }

-- ---- taking out all but the older ones

abbrev pub is_older_entry : ℕ → Rank × NodeOwners → Bool
is_older_entry first e = is_older first (open_node e)

pub older_nodes : (first : ℕ) (es : List (Rank × NodeOwners)) → map open_node (filter (is_older_entry first) es) ≡ filter (is_older first) (map open_node es)
older_nodes first [] = refl
older_nodes first (e ∷ es) =
    (elim (is_older first (open_node e)) as
    (λ b. map open_node (cond b (e ∷ filter (is_older_entry first) es) (filter (is_older_entry first) es)) ≡ cond b
    (open_node e ∷ filter (is_older first) (map open_node es)) (filter (is_older first) (map open_node es))) [
      | true ↦ ap (λ (ns : List Named). open_node e ∷ ns) (older_nodes first es)
      | false ↦ older_nodes first es
    ])

-- ---- The nodes in hand, as one hand is filled or emptied.

swapped : (x y : Named) (rest : List Named) → IsPermutation (x ∷ y ∷ rest) (y ∷ x ∷ rest)
swapped x y rest = IsPermutation-middle (x ∷ []) y rest

-- an empty hand takes a node
pub in_hand_filled : (hands : List (Option Named)) (i : ℕ) (held : Named) → slice_get hands i ≡ Some None
    → IsPermutation (held ∷ in_hand hands) (in_hand (set hands i (Some held)))
in_hand_filled [] i held h = absurd (cc)
in_hand_filled (None ∷ hands) zero held h = IsPermutation-refl _
in_hand_filled (Some x ∷ hands) zero held h = absurd (cc)
in_hand_filled (None ∷ hands) (suc i) held h = in_hand_filled hands i held h
in_hand_filled (Some x ∷ hands) (suc i) held h =
    IsPermutation-trans _ _ _ (swapped held x (in_hand hands)) (IsPermutation-cons x _ _ (in_hand_filled hands i held h))

-- a hand gives up its node
pub in_hand_emptied : (hands : List (Option Named)) (i : ℕ) (held : Named) → slice_get hands i ≡ Some (Some held)
    → IsPermutation (in_hand hands) (held ∷ in_hand (set hands i None))
in_hand_emptied [] i held h = absurd (cc)
in_hand_emptied (None ∷ hands) zero held h = absurd (cc)
in_hand_emptied (Some x ∷ hands) zero held h =
    let e : x ≡ held = cc in subst (λ (y : Named). IsPermutation (x ∷ in_hand hands) (y ∷ in_hand hands)) e (IsPermutation-refl _)
in_hand_emptied (None ∷ hands) (suc i) held h = in_hand_emptied hands i held h
in_hand_emptied (Some x ∷ hands) (suc i) held h =
    IsPermutation-trans _ _ _ (IsPermutation-cons x _ _ (in_hand_emptied hands i held h)) (swapped x held (in_hand (set hands i None)))

-- no hand holds a node
pub in_hand_none : (workers : ℕ) → in_hand (replicate workers None) ≡ []
in_hand_none zero = refl
in_hand_none (suc workers) = in_hand_none workers

in_hand_append : (xs ys : List (Option Named)) → in_hand (xs ++ ys) ≡ in_hand xs ++ in_hand ys
in_hand_append [] ys = refl
in_hand_append (None ∷ xs) ys = in_hand_append xs ys
in_hand_append (Some x ∷ xs) ys = ap (λ (zs : List Named). x ∷ zs) (in_hand_append xs ys)

-- the hands up to the next one
pub in_hand_more : (hands : List (Option Held)) (i : ℕ) (hand : Option Held) → i < length hands
    → hand ≡ get_or hands i hand → in_hand (map hand_of (take (i + 1) hands)) ≡ in_hand (map hand_of (take i hands)) ++
    in_hand (hand_of hand ∷ [])
in_hand_more hands i hand l e =
    ap (λ (hs : List (Option Held)). in_hand (map hand_of hs)) (take_more hands i hand l ∙ ap (λ (x : Option Held). take i hands ++ x ∷ []) (sym e))
    ∙ (ap in_hand (map-append hand_of (take i hands) (hand ∷ [])) ∙ in_hand_append (map hand_of (take i hands)) (hand_of hand ∷ []))

-- as many nodes are in hand as hands are full
pub length_in_hand : (hands : List (Option Held)) → length (in_hand (map hand_of hands)) ≡ count_by is_some hands
length_in_hand [] = refl
length_in_hand (None ∷ hands) = omega (arith, sum_by-cons (λ (x : Option Held). cond (is_some x) 1 0) None hands, length_in_hand hands)
length_in_hand (Some h ∷ hands) = omega (arith, sum_by-cons (λ (x : Option Held). cond (is_some x) 1 0) (Some h) hands, length_in_hand hands)

-- the node in a hand, before the other nodes open or in hand
pub held_first : (s : BookState) (worker : ℕ) (held : Named) → slice_get s.hands worker ≡ Some (Some held)
    → IsPermutation (live s) (held ∷ (s.waiting ++ in_hand (set s.hands worker None)))
held_first s worker held holds =
    IsPermutation-trans _ _ _ (IsPermutation-append_right s.waiting _ _ (in_hand_emptied s.hands worker held holds))
    (IsPermutation-middle s.waiting held (in_hand (set s.hands worker None)))
