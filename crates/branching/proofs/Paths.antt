-- What a searcher keeps while pairs are added and taken away.
use Rattle.std.proofs.Common.{◌≡◌, refl, sym, ◌∙◌, ap, subst, ℕ, ◌+◌, ◌-◌, ◌<◌, ◌≤◌, suc, arith, pos, ◌<ℤ◌, ◌≤ℤ◌, None, Some, inl, inr, List, [], ◌∷◌, ◌++◌}
use Rattle.std.proofs.Common.{map, length, take, drop, get_or, length-append, add-one, append_assoc, slice_get}
use Rattle.std.proofs.lemmas.Int.{ints}
use Rattle.std.proofs.Math.Seq.{take-append_seam, take-suc}
use Rattle.std.proofs.lemmas.List.{take_all, take-append-drop, map-append}
use Rattle.std.proofs.lemmas.List.Elements.{All-head, All-push, Contains-append_left}
use Rattle.std.proofs.lemmas.Option.{slice_get_within, slice_get_cases, get_or_from_slice_get}
use Rattle.network.specs.declared.parts.Lag.{Lag}
use Rattle.network.specs.declared.parts.Pair.{Pair}
use Rattle.network.specs.Problem.{Problem, activity_count, pair_arc, rules, arcs_of, NameActivities}
use Rattle.network.specs.Walk.{Rows, IsWalk, weight, HasPositiveCycle, HasNoPositiveCycle, IsProjectMatrix}
use Rattle.network.proofs.Schedules.{arcs_of-push}
use Rattle.longest_path.specs.Insert.{AddsArc, ClosesCycle, IsInsertFault}
use Rattle.longest_path.specs.declared.fault.PathFault.{PathFault}
use Rattle.longest_path.specs.declared.fault.PathFault.TheVariants.{PositiveCycle, Memory}
use Rattle.branching.specs.Path.{front, LeadBack, PairRows, IsPath, IsPairFault}

abbrev AreThere : Problem → Pair → Type 0
AreThere p q = (q.before < activity_count p) × (q.after < activity_count p)

pub matrix_more : (p : Problem) (pairs : List Pair) (pair : Pair) (old new : Rows) → IsProjectMatrix p pairs old
    → NameActivities p (pair ∷ []) → AddsArc (pair_arc p pair) old new → IsProjectMatrix p (pairs ++ pair ∷ []) new
matrix_more p pairs pair old new m named adds =
    let long : length old ≡ activity_count p = m.matrix.square.0 in
    let more = adds (arcs_of p pairs) (rw long m.matrix) in
    record {
      limits = m.limits;
      named = All-push (AreThere p) pairs pair m.named (All-head (AreThere p) pair [] named);
      matrix = rw (arcs_of-push p pairs pair) (rw long at more);
    }

pub closes_with : (p : Problem) (pairs : List Pair) (pair : Pair) (old : Rows) → IsProjectMatrix p pairs old
    → ClosesCycle (pair_arc p pair) old → HasPositiveCycle (arcs_of p (pairs ++ pair ∷ []))
closes_with p pairs pair old m closes =
    let long : length old ≡ activity_count p = m.matrix.square.0 in
    let found = closes (arcs_of p pairs) (rw long m.matrix) in
    rw (arcs_of-push p pairs pair) (pair.before, found.0, found.1)

pub pair_fault : (p : Problem) (pairs : List Pair) (pair : Pair) (rows : Rows) (fault : PathFault)
    → IsProjectMatrix p pairs rows → IsInsertFault (pair_arc p pair) rows fault
    → IsPairFault p (pairs ++ pair ∷ []) fault
pair_fault p pairs pair rows (PositiveCycle at) m h = closes_with p pairs pair rows m h.1
pair_fault p pairs pair rows Memory m h = tt

front-push : (pairs : List Pair) (pair : Pair) → front (pairs ++ pair ∷ []) ≡ pairs
front-push pairs pair =
    let long : length (pairs ++ pair ∷ []) ≡ length pairs + 1 = length-append pairs (pair ∷ []) in
    let less : length (pairs ++ pair ∷ []) - 1 ≡ length pairs = omega arith in
    ap (λ n. take n (pairs ++ pair ∷ [])) less ∙ take-append_seam pairs (pair ∷ [])

pub went_on : (p : Problem) (s new : PairRows) (pair : Pair) → IsPath p s → NameActivities p (pair ∷ [])
    → AddsArc (pair_arc p pair) s.marked.rows new.marked.rows → new.marked.marks ≡ s.marked.rows ∷ s.marked.marks
    → new.pairs ≡ s.pairs ++ pair ∷ [] → IsPath p new
went_on p s new pair path named adds marks pairs =
    let some : length (s.pairs ++ pair ∷ []) ≡ length s.pairs + 1 = length-append s.pairs (pair ∷ []) in
    let is_front : front (s.pairs ++ pair ∷ []) ≡ s.pairs = front-push s.pairs pair in
    let back : LeadBack p (s.pairs ++ pair ∷ []) (s.marked.rows ∷ s.marked.marks) = (omega arith, rw is_front path.matrix, rw is_front path.back) in
    record { matrix = rw pairs (matrix_more p s.pairs pair s.marked.rows new.marked.rows path.matrix named adds); back = rw (marks, pairs) back }

pub went_back : (p : Problem) (s new : PairRows) → IsPath p s → s.marked.marks ≡ new.marked.rows ∷ new.marked.marks → new.pairs ≡ front s.pairs → IsPath p new
went_back p s new path marks pairs =
    let back : LeadBack p s.pairs (new.marked.rows ∷ new.marked.marks) = subst (λ (ms : List Rows). LeadBack p s.pairs ms) marks path.back in
    record { matrix = rw pairs back.1; back = rw pairs back.2 }

-- ---- going on along a list

pub one_more : (all pairs : List Pair) (pair : Pair) → pairs ≡ take (length pairs) all
    → slice_get all (length pairs) ≡ Some pair → pairs ++ pair ∷ [] ≡ take (length pairs + 1) all
one_more all pairs pair is here =
    let low : length pairs < length all = slice_get_within all (length pairs) pair here in
    let read : get_or all (length pairs) pair ≡ pair = get_or_from_slice_get all (length pairs) pair pair here in
    let next : take (suc (length pairs)) all ≡ take (length pairs) all ++ get_or all (length pairs) pair ∷ [] = take-suc all (length pairs) pair low in
    ap (λ (l : List Pair). l ++ pair ∷ []) is
    ∙ sym (ap (λ n. take n all) (add-one (length pairs)) ∙ next
    ∙ ap (λ (q : Pair). take (length pairs) all ++ q ∷ []) read)

pub begun_more : (all pairs : List Pair) (pair : Pair) → pairs ≡ take (length pairs) all
    → slice_get all (length pairs) ≡ Some pair → pairs ++ pair ∷ [] ≡ take (length (pairs ++ pair ∷ [])) all
begun_more all pairs pair is here =
    let long : length (pairs ++ pair ∷ []) ≡ length pairs + 1 = length-append pairs (pair ∷ []) in
    one_more all pairs pair is here ∙ ap (λ n. take n all) (sym long)

pub all_there : (all pairs : List Pair) → pairs ≡ take (length pairs) all → slice_get all (length pairs) ≡ None → pairs ≡ all
all_there all pairs is none = elim (slice_get_cases all (length pairs)).1 [
  | inl h ↦ let bad : None ≡ Some h.0 = sym none ∙ h.2 in cc
  | inr h ↦ let past : length all ≤ length pairs = h.0 in is ∙ take_all (length pairs) all past
]

-- ---- a beginning of the pairs of a live node is live

walk_more : (arcs more : List Lag) (a b : ℕ) (es : List Lag) → IsWalk arcs a es b → IsWalk (arcs ++ more) a es b
walk_more arcs more a b [] w = w
walk_more arcs more a b (e ∷ es) w = (Contains-append_left arcs more e w.0, w.1, walk_more arcs more e.to b es w.2)

-- a closed walk stays where pairs come after
pub cycle_before : (p : Problem) (all some : List Pair) (n : ℕ) → some ≡ take n all → HasPositiveCycle (arcs_of p some) → HasPositiveCycle (arcs_of p all)
cycle_before p all some n is cycle =
    let whole : arcs_of p all ≡ arcs_of p some ++ map (pair_arc p) (drop n all) =
    ap (λ (l : List Pair). rules p ++ map (pair_arc p) l) (sym (take-append-drop n all))
    ∙ ap (λ (l : List Lag). rules p ++ l) (map-append (pair_arc p) (take n all) (drop n all))
    ∙ sym (append_assoc (rules p) (map (pair_arc p) (take n all)) (map (pair_arc p) (drop n all)))
    ∙ ap (λ (l : List Pair). arcs_of p l ++ map (pair_arc p) (drop n all)) (sym is) in
    let walk : IsWalk (arcs_of p all) cycle.0 cycle.1 cycle.0 =
    rw whole (walk_more (arcs_of p some) (map (pair_arc p) (drop n all)) cycle.0 cycle.0 cycle.1 cycle.2.closed) in
    (cycle.0, cycle.1, record { closed = walk; positive = cycle.2.positive })

pub no_cycle_before : (p : Problem) (all some : List Pair) (n : ℕ) → HasNoPositiveCycle (arcs_of p all)
    → some ≡ take n all → HasPositiveCycle (arcs_of p some) → ⊥
no_cycle_before p all some n live is cycle =
    let whole = cycle_before p all some n is cycle in
    let low : weight whole.1 ≤ℤ pos 0 = live whole.0 whole.1 whole.2.closed in
    let high : pos 0 <ℤ weight whole.1 = whole.2.positive in
    omega (arith, ints)

-- ---- with how many pairs both lists begin

pub shared_more : (left right : List Pair) (k : ℕ) (d : Pair) → k < length left → take k left ≡ take k right
    → slice_get right k ≡ Some (get_or left k d) → take (k + 1) left ≡ take (k + 1) right
shared_more left right k d low same here =
    let inside : k < length right = slice_get_within right k (get_or left k d) here in
    let read : get_or right k d ≡ get_or left k d = get_or_from_slice_get right k (get_or left k d) d here in
    rw (add-one, take-suc left k d low, take-suc right k d inside, same, read) refl
