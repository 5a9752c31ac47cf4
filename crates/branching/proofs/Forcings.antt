-- A forced pair is kept by every schedule that the node stands for, since activities that can't run at
-- the same time don't overlap.
use Rattle.std.proofs.Common.{◌≡◌, List, [], ◌∷◌, ◌++◌, arith, append_assoc, append-nil, refl, sym, ap, ◌∙◌, ℕ, suc, ◌+◌, ◌<◌, Bool, true, false, ℤ, pos, ◌+ℤ◌}
use Rattle.std.proofs.Common.{◌<ℤ◌, Option, Some, None, length, take, drop, get_or, ◌↔◌, subst, ◌≤ℤ◌, neg_ℤ}
use Rattle.std.proofs.lemmas.Int.{ints, by_lt_z}
use Rattle.std.proofs.lemmas.List.Elements.{All-push, All-nil, All-cons, All-head, All-tail, All-append, All-contains, Contains-get_or, Contains-append_right}
use Rattle.network.specs.declared.parts.Pair.{Pair}
use Rattle.network.specs.Problem.{Problem, duration, arcs_of, pair_of, activity_count, pair_arc, NameActivities}
use Rattle.network.specs.Schedule.{start, Keeps, StandsFor}
use Rattle.network.specs.Walk.{weight, Rows, entry, IsProjectMatrix, IsGreatestWeight, HasPositiveCycle}
use Rattle.network.proofs.Schedules.{walk_holds, arcs_met}
use Rattle.branching.specs.Right.{IsForced, AllForced, IsInfeasible, IsUnder, Reaches}
use Rattle.forbidden_sets.proofs.Apart.{apart}
use Rattle.std.specs.Bool.{IsTrue}
use Rattle.std.specs.Int.Signed.{le_z, lt_z}
use Rattle.std.specs.List.{All, Any, Contains}
use Rattle.std.proofs.Math.Seq.{drop-cons}
use Rattle.std.proofs.lemmas.Grind.{flat_map-append}
use Rattle.std.proofs.lemmas.List.{map-append, take_more, take-append-drop}
use Rattle.longest_path.specs.Matrix.{greater, joined}
use Rattle.longest_path.proofs.Reach.{same_some}
use Rattle.forbidden_sets.specs.Incompatible.{AreIncompatible, AllIncompatible, pairs_before, pairs_of, IsRowOf, AreRowsOf}
use Rattle.forbidden_sets.specs.declared.incompatible.Incompatible.{Incompatible}
use Rattle.branching.specs.Forcing.{IsForcedAt, IsForcedIn, IsForcedWith, IsFirstForced, way_over, IsForcedMatrix}
use Rattle.branching.proofs.OrderedPairs.{here, contains_map, any_left, any_right}
use Rattle.longest_path.specs.Insert.{AddsArc, ClosesCycle}
use Rattle.bounds.specs.Bound.{critical_weight, IsBoundOf}
use Rattle.bounds.proofs.Energies.{IsBoundOf-exists}
use Rattle.bounds.proofs.TrueBounds.{IsTrueBoundFor-bound}
use Rattle.branching.specs.Subproblem.{Subproblem, IsNode}
use Rattle.branching.specs.Fates.{IsChildBy, IsInfeasibleBy, IsCutBy}
use Rattle.branching.proofs.Paths.{matrix_more, closes_with}

-- a forced pair is kept by every schedule that the node stands for
pub forced_holds : (p : Problem) (pairs : List Pair) (pair : Pair) (s : List ℤ) → IsForced p pairs pair → StandsFor p pairs s → Keeps p s pair
forced_holds p pairs pair s forced stands =
    by_lt_z (start s pair.after) (start s pair.before +ℤ duration p pair.before)
    (λ early. absurd (apart p s pair stands.feasible forced.incompatible late early))
    (λ kept. kept)
  where
    late : start s pair.before <ℤ (start s pair.after +ℤ duration p pair.after)
    late =
        let way = forced.too_late.greatest.0 in
        let weighs : weight way.0 ≡ forced.too_late.weight = way.2 in
        let above : neg_ℤ (duration p pair.after) <ℤ forced.too_late.weight = forced.too_late.above in
        let h : (start s pair.before +ℤ weight way.0) ≤ℤ start s pair.after =
        walk_holds (arcs_of p pairs) s (arcs_met p pairs s stands.feasible.schedule stands.keeps) pair.before
        pair.after way.0 way.1 in
        omega (arith, ints)

-- so what stands for a node stands for it with its forced pairs
pub all_forced_hold : (p : Problem) (pairs forced : List Pair) (s : List ℤ) → AllForced p pairs forced → StandsFor p pairs s → StandsFor p (pairs ++ forced) s
all_forced_hold p pairs [] s none stands = rw (append-nil pairs) stands
all_forced_hold p pairs (pair ∷ forced) s all stands =
    let more : StandsFor p (pairs ++ pair ∷ []) s =
    record {
      feasible = stands.feasible;
      keeps =
          All-push (Keeps p s) pairs pair stands.keeps (forced_holds p pairs pair s all.0 stands);
    } in
    let same : (pairs ++ pair ∷ []) ++ forced ≡ pairs ++ pair ∷ forced = append_assoc pairs (pair ∷ []) forced in
    let stands_more : StandsFor p ((pairs ++ pair ∷ []) ++ forced) s = all_forced_hold p (pairs ++ pair ∷ []) forced s all.1 more in
    rw same at stands_more

-- one forced pair more, at the end
pub all_forced_more : (p : Problem) (pairs forced : List Pair) (pair : Pair) → AllForced p pairs forced
    → IsForced p (pairs ++ forced) pair → AllForced p pairs (forced ++ pair ∷ [])
all_forced_more p pairs [] pair none last = (rw (append-nil pairs) at last, tt)
all_forced_more p pairs (first ∷ forced) pair all last =
    let same : (pairs ++ first ∷ []) ++ forced ≡ pairs ++ first ∷ forced = append_assoc pairs (first ∷ []) forced in
    (all.0, all_forced_more p (pairs ++ first ∷ []) forced pair all.1 (rw same last))

-- ---- What the tests on an entry, and a look through rows of pairs, say of forced pairs.

lt_when : (x y : ℤ) → x <ℤ y → lt_z x y ≡ true
lt_when x y h = grind (arith, ints)

lt_if : (x y : ℤ) → lt_z x y ≡ true → x <ℤ y
lt_if x y h = grind (arith, ints)

above_minus : (w x : ℤ) → le_z (w +ℤ x) (pos 0) ≡ false → neg_ℤ x <ℤ w
above_minus w x h = let sum : pos 0 <ℤ (w +ℤ x) = positive (w +ℤ x) h in omega (arith, ints)
  where
    positive : (y : ℤ) → le_z y (pos 0) ≡ false → pos 0 <ℤ y
    positive y h = grind (arith, ints)

-- a weight above minus the second duration forces the pair where it is below the first
pub forced_by : (p : Problem) (pair : Pair) (greatest : Option ℤ) (w x y : ℤ) → greatest ≡ Some w
    → x ≡ duration p pair.after → y ≡ duration p pair.before → le_z (w +ℤ x) (pos 0) ≡ false →
    IsTrue (lt_z w y) ↔ IsForcedAt p pair greatest
forced_by p pair greatest w x y is of_x of_y above = (to, from)
  where
    to : IsTrue (lt_z w y) → IsForcedAt p pair greatest
    to less =
        let late : neg_ℤ x <ℤ w = above_minus w x above in
        let early : w <ℤ y = lt_if w y less in
        record { weight = w; is = is; above = rw of_x at late; below = rw of_y at early }

    from : IsForcedAt p pair greatest → IsTrue (lt_z w y)
    from forced =
        let same : forced.weight ≡ w = same_some forced.weight w greatest forced.is is in
        let below : w <ℤ duration p pair.before = rw same at forced.below in
        lt_when w y (rw of_y below)

pub unless : (b : Bool) (P : Type 0) → b ≡ false → IsTrue b ↔ P → ¬ P
unless b P fails means holds = let passes : b ≡ true = means.1 holds in let bad : true ≡ false = sym passes ∙ fails in cc

pub when : (b : Bool) (P : Type 0) → b ≡ true → IsTrue b ↔ P → P
when b P passes means = means.0 passes

both_ways : {P Q R : Type 0} → P ↔ Q → Q ↔ R → P ↔ R
both_ways first second = (λ p. second.0 (first.0 p), λ r. first.1 (second.1 r))

-- where some doesn't hold, it holds of none
pub none_in_row : {X : Type 0} (P : X → Type 0) (xs : List X) → ¬ Any P xs → All (λ x. ¬ P x) xs
none_in_row P xs none k d low holds = let at : Contains xs (get_or xs k d) = Contains-get_or xs k d low in none (at.0, get_or xs k d, at.1, at.2, holds)

-- none of a row's pairs
pub none_before : (P : Pair → Type 0) (a : ℕ) (others : List ℕ) → ((j : ℕ) → ¬ P (pair_of a j)) → All (λ pair. ¬ P pair) (pairs_before a others)
none_before P a [] none = All-nil (λ pair. ¬ P pair)
none_before P a (j ∷ others) none = All-cons (λ pair. ¬ P pair) (pair_of a j) (pairs_before a others) (none j) (none_before P a others none)

-- what holds of none holds of no one
pub none_of_all : {X : Type 0} (P : X → Type 0) (xs : List X) → All (λ x. ¬ P x) xs → IsTrue false ↔ Any P xs
none_of_all P xs none = (λ bad. cc, λ (k, x, l, e, holds). absurd (All-contains (λ y. ¬ P y) xs x none (k, l, e) holds))

-- ---- row by row

-- what holds of all pairs of the first rows and of the next row
pub all_more : (P : Pair → Type 0) (rows : List Incompatible) (i : ℕ) (d : Incompatible) → i < length rows
    → All P (pairs_of (take i rows)) → All P (pairs_before (get_or rows i d).activity (get_or rows i d).others.items)
    → All P (pairs_of (take (i + 1) rows))
all_more P rows i d low so_far next =
    let row : Incompatible = get_or rows i d in
    let f : Incompatible → List Pair = λ r. pairs_before r.activity r.others.items in
    let more : pairs_of (take (i + 1) rows) ≡ pairs_of (take i rows) ++ f row =
    ap pairs_of (take_more rows i d low) ∙ flat_map-append f (take i rows) (row ∷ [])
    ∙ ap (λ (ps : List Pair). pairs_of (take i rows) ++ ps) (append-nil (f row)) in
    rw more (All-append P (pairs_of (take i rows)) (f row) so_far next)

-- the pairs up to a row, its own, and those after it
rows_split : (rows : List Incompatible) (i : ℕ) (d : Incompatible) → i < length rows
    → pairs_of rows ≡ pairs_of (take i rows) ++
    (pairs_before (get_or rows i d).activity (get_or rows i d).others.items ++ pairs_of (drop (suc i) rows))
rows_split rows i d low =
    ap pairs_of (sym (take-append-drop i rows)) ∙ flat_map-append (λ r. pairs_before r.activity r.others.items) (take i rows) (drop i rows)
    ∙ ap (λ (rs : List Incompatible). pairs_of (take i rows) ++ pairs_of rs) (drop-cons rows i d low)

-- the first that is forced of a row, after rows of which none is
pub first_of_rows : (p : Problem) (matrix : Rows) (rows : List Incompatible) (i : ℕ) (d : Incompatible) (pair : Pair)
    → i < length rows → All (λ other. ¬ IsForcedIn p matrix other) (pairs_of (take i rows)) →
    IsFirstForced p matrix (pairs_before (get_or rows i d).activity (get_or rows i d).others.items) pair → IsFirstForced p matrix (pairs_of rows) pair
first_of_rows p matrix rows i d pair low none first = record {
  before = pairs_of (take i rows) ++ first.before;
  after = first.after ++ pairs_of (drop (suc i) rows);
  split =
      rows_split rows i d low ∙ ap (λ (ps : List Pair). pairs_of (take i rows) ++ (ps ++ pairs_of (drop (suc i) rows))) first.split
      ∙ ap (λ (ps : List Pair). pairs_of (take i rows) ++ ps) (append_assoc first.before (pair ∷ first.after) (pairs_of (drop (suc i) rows)))
      ∙ sym (append_assoc (pairs_of (take i rows)) first.before (pair ∷ (first.after ++ pairs_of (drop (suc i) rows))));
  forced = first.forced;
  none_before = All-append (λ other. ¬ IsForcedIn p matrix other) (pairs_of (take i rows)) first.before none first.none_before;
}

-- the first of a row's pairs
pub first_of_row : (p : Problem) (matrix : Rows) (a : ℕ) (others : List ℕ) (i : ℕ) (d : ℕ) → i < length others
    → All (λ other. ¬ IsForcedIn p matrix other) (pairs_before a (take i others))
    → IsForcedIn p matrix (pair_of a (get_or others i d)) →
    IsFirstForced p matrix (pairs_before a others) (pair_of a (get_or others i d))
first_of_row p matrix a others i d low none forced = record {
  before = pairs_before a (take i others);
  after = pairs_before a (drop (suc i) others);
  split =
      ap (pairs_before a) (sym (take-append-drop i others)) ∙ map-append (pair_of a) (take i others) (drop i others)
      ∙ ap (λ (xs : List ℕ). pairs_before a (take i others) ++ pairs_before a xs) (drop-cons others i d low);
  forced = forced;
  none_before = none;
}

-- one pair more of a row
pub pair_more : (P : Pair → Type 0) (a : ℕ) (others : List ℕ) (i : ℕ) (d : ℕ) → i < length others
    → All P (pairs_before a (take i others)) → P (pair_of a (get_or others i d))
    → All P (pairs_before a (take (i + 1) others))
pair_more P a others i d low so_far next =
    let more : pairs_before a (take (i + 1) others) ≡ pairs_before a (take i others) ++ pair_of a (get_or others i d) ∷ [] =
    ap (pairs_before a) (take_more others i d low) ∙ map-append (pair_of a) (take i others) (get_or others i d ∷ []) in
    rw more (All-push P (pairs_before a (take i others)) (pair_of a (get_or others i d)) so_far next)

-- some pair of a row
pub some_of_row : (P : Pair → Type 0) (a : ℕ) (others : List ℕ) (i : ℕ) (d : ℕ) → i < length others
    → P (pair_of a (get_or others i d)) → Any P (pairs_before a others)
some_of_row P a others i d low holds =
    let at : Contains (pairs_before a others) (pair_of a (get_or others i d)) =
    contains_map (pair_of a) others (get_or others i d) (Contains-get_or others i d low) in
    (at.0, pair_of a (get_or others i d), at.1, at.2, holds)

-- some pair of some row
pub some_of_rows : (P : Pair → Type 0) (rows : List Incompatible) (i : ℕ) (d : Incompatible) → i < length rows
    → Any P (pairs_before (get_or rows i d).activity (get_or rows i d).others.items) → Any P (pairs_of rows)
some_of_rows P rows i d low some =
    rw (rows_split rows i d low)
    (any_right P (pairs_of (take i rows)) (pairs_before (get_or rows i d).activity (get_or rows i d).others.items ++ pairs_of (drop (suc i) rows))
    (any_left P (pairs_before (get_or rows i d).activity (get_or rows i d).others.items) (pairs_of (drop (suc i) rows)) some))

-- one of a row's pairs
pub row_at : (p : Problem) (row : Incompatible) (others : List ℕ) (i : ℕ) (d : ℕ) → others ≡ row.others.items
    → i < length others → IsRowOf p row → AreIncompatible p (pair_of row.activity (get_or others i d))
row_at p row others i d same low is =
    All-contains (AreIncompatible p) (pairs_before row.activity others) (pair_of row.activity (get_or others i d)) (rw same is.incompatible)
    (contains_map (pair_of row.activity) others (get_or others i d) (Contains-get_or others i d low))

-- the pairs of rows are incompatible
pub rows_incompatible : (p : Problem) (rows : List Incompatible) → AreRowsOf p rows → AllIncompatible p (pairs_of rows)
rows_incompatible p [] are = All-nil (AreIncompatible p)
rows_incompatible p (row ∷ rows) are =
    All-append (AreIncompatible p) (pairs_before row.activity row.others.items) (pairs_of rows)
    (All-head (IsRowOf p) row rows are).incompatible (rows_incompatible p rows (All-tail (IsRowOf p) row rows are))

-- ---- ways over an arc

-- there is no way over the arc to the pair's second activity
pub no_way : (p : Problem) (rows : Rows) (added pair : Pair) → way_over p rows added pair ≡ None → ¬ IsForcedWith p rows added pair
no_way p rows added pair none with_arc = let bad : None ≡ Some with_arc.way = sym none ∙ with_arc.is_way in cc

-- the way, by its two parts
over_by : (p : Problem) (rows : Rows) (added pair : Pair) (first last : ℤ)
    → joined (entry rows pair.before added.before) (Some (duration p added.before)) ≡ Some first
    → entry rows added.after pair.after ≡ Some last → way_over p rows added pair ≡ Some (first +ℤ last)
over_by p rows added pair first last e f = rw (e, f) refl

-- there is none where there is no first part, or no last one
pub none_over : (p : Problem) (rows : Rows) (added pair : Pair)
    → joined (entry rows pair.before added.before) (Some (duration p added.before)) ≡ None
    → way_over p rows added pair ≡ None
none_over p rows added pair e = rw e refl

pub none_from : (p : Problem) (rows : Rows) (added pair : Pair) → entry rows added.after pair.after ≡ None → way_over p rows added pair ≡ None
none_from p rows added pair e = by (joined (entry rows pair.before added.before) (Some (duration p added.before)))
  where
    by : (o : Option ℤ) → joined o (entry rows added.after pair.after) ≡ None
    by None = refl
    by (Some x) = rw e refl

-- a way that forces the pair
by_way : (p : Problem) (rows : Rows) (added pair : Pair) (way : ℤ) → way_over p rows added pair ≡ Some way
    → IsForcedAt p pair (greater (entry rows pair.before pair.after) (Some way)) ↔ IsForcedWith p rows added pair
by_way p rows added pair way is_way = (
  λ forced. record { way = way; is_way = is_way; forced = forced },
  λ with_arc.
      let same : with_arc.way ≡ way = same_some with_arc.way way (way_over p rows added pair) with_arc.is_way is_way in
      rw same at with_arc.forced,
)

-- so a test of that weight tells whether the pair is forced
pub forced_over : {P : Type 0} (p : Problem) (rows : Rows) (added pair : Pair) (first last : ℤ)
    → joined (entry rows pair.before added.before) (Some (duration p added.before)) ≡ Some first
    → entry rows added.after pair.after ≡ Some last →
    (P ↔ IsForcedAt p pair (greater (entry rows pair.before pair.after) (Some (first +ℤ last)))) → P ↔ IsForcedWith p rows added pair
forced_over p rows added pair first last e f known = both_ways known (by_way p rows added pair (first +ℤ last) (over_by p rows added pair first last e f))

pub first_among : (p : Problem) (rows : Rows) (pairs : List Pair) (pair : Pair) → IsFirstForced p rows pairs pair → Contains pairs pair
first_among p rows pairs pair first = rw first.split (Contains-append_right first.before (pair ∷ first.after) pair (here pair first.after))

pub first_incompatible : (p : Problem) (rows : Rows) (pairs : List Pair) (pair : Pair) → AllIncompatible p pairs
    → IsFirstForced p rows pairs pair → AreIncompatible p pair
first_incompatible p rows pairs pair all first = All-contains (AreIncompatible p) pairs pair all (first_among p rows pairs pair first)

-- ---- A pair that is forced by its entry is forced, and may be added to the pairs and the matrix.

-- none is forced yet
pub none_forced : (p : Problem) (pairs : List Pair) (rows : Rows) → IsProjectMatrix p pairs rows → IsForcedMatrix p pairs [] rows
none_forced p pairs rows m = record { all_forced = tt; matrix = rw (append-nil pairs) m }

-- what is forced by its entry is forced
is_forced : (p : Problem) (pairs : List Pair) (rows : Rows) (pair : Pair) → IsProjectMatrix p pairs rows
    → AreIncompatible p pair → IsForcedIn p rows pair → IsForced p pairs pair
is_forced p pairs rows pair m apart by =
    let at : IsGreatestWeight (arcs_of p pairs) pair.before pair.after (Some by.weight) =
    rw by.is at (m.matrix.greatest pair.before pair.after apart.first_named apart.second_named) in
    record { is_live = m.matrix.no_cycle; incompatible = apart; too_late = record { weight = by.weight; greatest = at; above = by.above } }

-- both activities of an incompatible pair are there
pub both_named : (p : Problem) (pair : Pair) → AreIncompatible p pair → NameActivities p (pair ∷ [])
both_named p pair apart = All-cons (λ (q : Pair). (q.before < activity_count p) × (q.after < activity_count p)) pair []
    (apart.first_named, apart.second_named)
    (All-nil (λ (q : Pair). (q.before < activity_count p) × (q.after < activity_count p)))

-- one more, by its arc
pub one_forced : (p : Problem) (pairs forced : List Pair) (pair : Pair) (old new : Rows)
    → IsForcedMatrix p pairs forced old → AreIncompatible p pair → IsForcedIn p old pair
    → AddsArc (pair_arc p pair) old new → IsForcedMatrix p pairs (forced ++ pair ∷ []) new
one_forced p pairs forced pair old new so_far apart by adds =
    let same : (pairs ++ forced) ++ pair ∷ [] ≡ pairs ++ (forced ++ pair ∷ []) = append_assoc pairs forced (pair ∷ []) in
    let more : IsProjectMatrix p ((pairs ++ forced) ++ pair ∷ []) new =
    matrix_more p (pairs ++ forced) pair old new so_far.matrix (both_named p pair apart) adds in
    record {
      all_forced = all_forced_more p pairs forced pair so_far.all_forced (is_forced p (pairs ++ forced) old pair so_far.matrix apart by);
      matrix = rw same at more;
    }

-- or it closes a walk of positive weight
pub infeasible_forced : (node : Subproblem) (first : Pair) (forced : List Pair) (pair : Pair) (old : Rows)
    → IsForcedMatrix node.project (node.pairs ++ first ∷ []) forced old → AreIncompatible node.project pair
    → IsForcedIn node.project old pair → ClosesCycle (pair_arc node.project pair) old
    → IsInfeasibleBy node first (forced ++ pair ∷ [])
infeasible_forced node first forced pair old so_far apart by closes =
    let pairs : List Pair = node.pairs ++ first ∷ [] in
    let same : (pairs ++ forced) ++ pair ∷ [] ≡ pairs ++ (forced ++ pair ∷ []) = append_assoc pairs forced (pair ∷ []) in
    let dead : HasPositiveCycle (arcs_of node.project ((pairs ++ forced) ++ pair ∷ [])) =
    closes_with node.project (pairs ++ forced) pair old so_far.matrix closes in
    record {
      all_forced = all_forced_more node.project pairs forced pair so_far.all_forced (is_forced node.project (pairs ++ forced) old pair so_far.matrix apart by);
      dead = rw same at dead;
    }

-- ---- what the matrix with the forced pairs gives

-- the pair alone closes a walk of positive weight
pub infeasible_at_once : (node : Subproblem) (first : Pair) → IsInfeasible node.project (node.pairs ++ first ∷ []) → IsInfeasibleBy node first []
infeasible_at_once node first dead = record { all_forced = tt; dead = rw (append-nil (node.pairs ++ first ∷ [])) dead }

-- its bound is at least a number that is at least the ceiling
pub cut_from : (node : Subproblem) (ceiling : Option ℤ) (first : Pair) (forced : List Pair) (rows : Rows)
    (bound least : ℤ) → IsForcedMatrix node.project (node.pairs ++ first ∷ []) forced rows
    → IsBoundOf node.project rows bound → least ≤ℤ bound → Reaches ceiling least → IsCutBy node ceiling first forced
cut_from node None first forced rows bound least forced_by of low reaches = absurd reaches
cut_from node (Some limit) first forced rows bound least forced_by of low reaches = record {
  all_forced = forced_by.all_forced;
  cut = record {
    is_live = forced_by.matrix.matrix.no_cycle;
    bound = bound;
    bound_of = record { rows = rows; matrix = forced_by.matrix; bound_of = of };
    reaches = let under : limit ≤ℤ least = reaches in omega (arith, ints);
  };
}

-- so is a weight at most the critical one
pub cut_by_least : (node : Subproblem) (ceiling : Option ℤ) (first : Pair) (rows : Rows) (least : ℤ)
    → IsForcedMatrix node.project (node.pairs ++ first ∷ []) [] rows → least ≤ℤ critical_weight rows
    → Reaches ceiling least → IsCutBy node ceiling first []
cut_by_least node ceiling first rows least forced_by low reaches =
    let has = IsBoundOf-exists node.project rows in
    let above : critical_weight rows ≤ℤ has.0 = has.1.critical in
    cut_from node ceiling first [] rows has.0 least forced_by has.1 (omega (arith, ints)) reaches

-- the node with the pair and the forced pairs
pub node_at : (node : Subproblem) (first : Pair) (forced : List Pair) (rows : Rows) (bound : ℤ)
    → IsForcedMatrix node.project (node.pairs ++ first ∷ []) forced rows → IsBoundOf node.project rows bound →
    IsNode (record { project = node.project; pairs = node.pairs ++ first ∷ forced; bound = bound })
node_at node first forced rows bound forced_by of =
    let same : (node.pairs ++ first ∷ []) ++ forced ≡ node.pairs ++ first ∷ forced = append_assoc node.pairs (first ∷ []) forced in
    let m : IsProjectMatrix node.project (node.pairs ++ first ∷ forced) rows = rw same at forced_by.matrix in
    record {
      limits = m.limits;
      named = m.named;
      is_live = m.matrix.no_cycle;
      bound_of = record { rows = rows; matrix = m; bound_of = of };
      true_bound = IsTrueBoundFor-bound node.project rows bound of (node.pairs ++ first ∷ forced) m;
    }

-- it is the child
pub child_at : (node child : Subproblem) (ceiling : Option ℤ) (first : Pair) (forced : List Pair) (rows : Rows)
    (bound : ℤ) → IsForcedMatrix node.project (node.pairs ++ first ∷ []) forced rows → IsBoundOf node.project rows bound
    → IsUnder ceiling bound →
    child ≡ record { project = node.project; pairs = node.pairs ++ first ∷ forced; bound = bound } → IsChildBy node first child × IsUnder ceiling child.bound
child_at node child ceiling first forced rows bound forced_by of under is = (
  record {
    project = ap (λ (k : Subproblem). k.project) is;
    forced = forced;
    pairs = ap (λ (k : Subproblem). k.pairs) is;
    all_forced = forced_by.all_forced;
    is_node = subst (λ (k : Subproblem). IsNode k) (sym is) (node_at node first forced rows bound forced_by of);
  },
  subst (λ (b : ℤ). IsUnder ceiling b) (sym (ap (λ (k : Subproblem). k.bound) is)) under,
)
