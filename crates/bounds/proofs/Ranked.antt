-- Ranks along an order of all tasks are those of their tails, and loads along one are those of the tasks.
use Rattle.std.proofs.Common.{◌≡◌, sym, ap, ◌∙◌, ℕ, ◌+◌, ◌<◌, inl, inr, set, Vec, List, take, map, length, get_or, arith, refl, subst, ◌-◌, ◌≤◌, ⊎_elim, ℤ, pos}
use Rattle.std.proofs.Common.{unsigned_abs, nat_le, reverse}
use Rattle.std.specs.List.{range_with_len, All, Contains}
use Rattle.std.specs.Vec.{with_items}
use Rattle.std.specs.declared.alloc.Global.{Global}
use Rattle.std.proofs.lemmas.Bool.{cases_eq, cases_lt, le-leb, lt-leb}
use Rattle.std.proofs.lemmas.List.FromFn.{get_or-map-range_with_len, length-map-range_with_len, length-range_with_len}
use Rattle.std.proofs.lemmas.List.{with_items_is, ext_get_or, get_or-map, length-map, get_or-set_same, get_or-set_other, get_or-take, length-take-le}
use Rattle.std.proofs.lemmas.List.{get_or_default, length-reverse, get_or-reverse}
use Rattle.std.specs.List.Sorted.{IsPermutation}
use Rattle.std.proofs.lemmas.Grind.{get_or_default_zero}
use Rattle.std.proofs.lemmas.List.Elements.{All-map, Contains-get_or}
use Rattle.std.proofs.lemmas.List.Sums.{prefix_len_is}
use Rattle.std.proofs.lemmas.List.Sorted.{All-permutation, Contains-permutation, IsPermutation-map, IsPermutation-trans, IsPermutation-reverse}
use Rattle.std.proofs.lemmas.List.Sorted.{length_permutation}
use Rattle.network.specs.Problem.{IsBetween}
use Rattle.network.specs.declared.limits.TheConstants.{MAX_WALK_WEIGHT}
use Rattle.network.specs.Schedule.{start}
use Rattle.network.proofs.Schedules.{range_below}
use Rattle.bounds.specs.Energy.{AreEnds, Task}
use Rattle.profile.specs.Orders.{IsOrder, key_at, HaveKeys, Rises}
use Rattle.bounds.specs.Loads.{tail_of, rank_of, load, AreTailsOf, AreFalling, AreLoadsOf, IsRank, IsRanked, task_at, AreKeysOf, keyed_load, AreRanked}
use Rattle.bounds.specs.Loads.{AreRankedLoads, Load}
use Rattle.bounds.proofs.Tasks.{range_there, Contains-map}
use Rattle.bounds.proofs.Greatest.{end_above, abs_le}

-- ---- Lists that are written place by place.

-- one place more
pub set_more : {X : Type 0} (d : X) (f : ℕ → X) (xs : List X) (i : ℕ) (v : X) → i < length xs
    → ((k : ℕ) → k < i → get_or xs k d ≡ f k) → v ≡ f i → (k : ℕ) → k < i + 1 → get_or (set xs i v) k d ≡ f k
set_more d f xs i v lt done is k less =
    elim (cases_eq k i) [
      | inl e ↦ rw e (get_or-set_same xs i v d lt ∙ is)
      | inr ne ↦ get_or-set_other xs i k v d ne ∙ done k (omega arith)
    ]

-- all places
pub map_written : {X Y : Type 0} (d : X) (e : Y) (f : X → Y) (xs : List X) (ys : List Y) → length ys ≡ length xs
    → ((k : ℕ) → k < length xs → get_or ys k e ≡ f (get_or xs k d)) → ys ≡ map f xs
map_written d e f xs ys long each =
    ext_get_or e ys (map f xs) (long ∙ sym (length-map xs f)) (λ k short.
    let lt : k < length xs = rw long at short in
    each k lt ∙ sym (get_or-map f xs k d e lt))

-- a list that has f at each place
pub made_by : {X : Type 0} (d : X) (f : ℕ → X) (n : ℕ) (xs : List X) → length xs ≡ n → ((k : ℕ) → k < n → get_or xs k d ≡ f k) → xs ≡ map f (range_with_len 0 n)
made_by d f n xs long each =
    ext_get_or d xs (map f (range_with_len 0 n)) (long ∙ sym (length-map-range_with_len f 0 n)) (λ k short.
    let lt : k < n = rw long at short in
    each k lt ∙ sym (get_or-map-range_with_len f 0 n k k d lt (omega arith)))

-- a list that is written whole
pub refilled : {X : Type 0} (v : Vec X Global) (new : List X) → length new ≡ length v.items → (with_items v new).items ≡ new
refilled v new same = with_items_is v new (same ∙ sym v.ok.0)

-- ---- orders

pub order_long : (n : ℕ) (order : List ℕ) → IsOrder n order → length order ≡ n
order_long n order is = length_permutation (range_with_len 0 n) order is ∙ length-range_with_len 0 n

pub order_below : (n : ℕ) (order : List ℕ) → IsOrder n order → All (λ i. i < n) order
order_below n order is = All-permutation (λ i. i < n) (range_with_len 0 n) order is (range_below n)

-- the places of an order have keys, where there are as many
pub order_has_keys : (n : ℕ) (keys : List ℤ) (order : List ℕ) → IsOrder n order → length keys ≡ n → HaveKeys keys order
order_has_keys n keys order is long = subst (λ (m : ℕ). All (λ i. i < m) order) (sym long) (order_below n order is)

pub order_kept : (n : ℕ) (old new : List ℕ) → IsOrder n old → IsPermutation old new → IsOrder n new
order_kept n old new is kept = IsPermutation-trans (range_with_len 0 n) old new is kept

-- where an order has a place
record IsFound (order : List ℕ) (e : ℕ) : Type 0 where
  at : ℕ
  short : at < length order
  is : get_or order at 0 ≡ e

found_in : (n : ℕ) (order : List ℕ) (e : ℕ) → IsOrder n order → e < n → IsFound order e
found_in n order e is lt = by (Contains-permutation (range_with_len 0 n) order e is (range_there n e lt))
  where
    by : Contains order e → IsFound order e
    by (j, short, at) = record { at = j; short = short; is = sym (get_or_default_zero order j e short) ∙ at }

-- the amounts along an order by rising keys rise
pub amounts_rise : (n : ℕ) (keys : List ℤ) (order : List ℕ) (i j : ℕ) → AreEnds n keys → Rises keys order → i ≤ j
    → j < length order → unsigned_abs (key_at keys order i) ≤ unsigned_abs (key_at keys order j)
amounts_rise n keys order i j are rises early late =
    abs_le (key_at keys order i) (key_at keys order j) (end_above n keys (get_or order i 0) are) (rises i j early late)

-- ---- keys

no_task : Task
no_task = record { activity = 0; work = 0 }

key_is : (ends : List ℤ) (tasks : List Task) (keys : List ℤ) (i : ℕ) → AreKeysOf ends tasks keys → i < length tasks
    → get_or keys i (pos 0) ≡ start ends (task_at tasks i).activity
key_is ends tasks keys i are lt = ap (λ (ks : List ℤ). get_or ks i (pos 0)) are
    ∙ get_or-map (λ (t : Task). start ends t.activity) tasks i (record { activity = 0; work = 0 }) (pos 0) lt

pub keys_are_ends : (ends : List ℤ) (tasks : List Task) (keys : List ℤ) → AreEnds (length ends) ends
    → All (λ t. t.activity < length ends) tasks → AreKeysOf ends tasks keys → AreEnds (length keys) keys
keys_are_ends ends tasks keys of_ends there are = record {
  count = refl;
  within = subst (All (IsBetween (pos 0) MAX_WALK_WEIGHT)) (sym are)
      (All-map (IsBetween (pos 0) MAX_WALK_WEIGHT) (λ (t : Task). start ends t.activity) tasks
      (λ j d l. of_ends.within (get_or tasks j d).activity (pos 0) (there j d l)));
}

pub keys_long : (ends : List ℤ) (tasks : List Task) (keys : List ℤ) → AreKeysOf ends tasks keys → length keys ≡ length tasks
keys_long ends tasks keys are = ap length are ∙ length-map tasks (λ (t : Task). start ends t.activity)

-- ---- ranks

ranked_tails : (tails : List ℤ) (tasks : List Task) (keys : List ℤ) (order rising ranks : List ℕ) (count : ℕ)
    → AreKeysOf tails tasks keys → IsOrder (length tasks) order → IsRanked keys order (length order) count rising ranks
    → count ≤ length rising → AreTailsOf tails tasks (take count rising)
ranked_tails tails tasks keys order rising ranks count are is s spare =
    let long : length (take count rising) ≡ count = length-take-le count rising spare in
    record {
      up = λ i j d early late.
          let short : j < count = omega arith in
          let at_i : get_or (take count rising) i d ≡ get_or rising i 0 = get_or-take count rising i d (omega arith)
          ∙ get_or_default rising i d 0 (omega arith) in
          let at_j : get_or (take count rising) j d ≡ get_or rising j 0 = get_or-take count rising j d short ∙ get_or_default rising j d 0 (omega arith) in
          ⊎_elim
          (λ (less : i < j). omega (arith, at_i, at_j, s.up i j less short))
          (λ (same : j ≤ i). let equal : i ≡ j = omega arith in let values = ap (λ (m : ℕ). get_or rising m 0) equal in omega (arith, at_i, at_j, values))
          (cases_lt i j);
      occur = λ b. (there b, back b);
    }
  where
    there : (b : ℕ) → Contains (take count rising) b → Contains (map (tail_of tails) tasks) b
    there b (q, lt, at) =
        let long : length (take count rising) ≡ count = length-take-le count rising spare in
        let short : q < count = omega arith in
        let k = s.keys_are q short in
        let e : ℕ = get_or order k.at 0 in
        let inside : get_or order k.at 0 < length tasks = order_below (length tasks) order is k.at 0 k.early in
        let value : b ≡ tail_of tails (task_at tasks (get_or order k.at 0)) =
        sym at ∙ get_or-take count rising q b short ∙ get_or_default rising q b 0 (omega arith) ∙ k.is
        ∙ ap unsigned_abs (key_is tails tasks keys (get_or order k.at 0) are inside) in
        subst (Contains (map (tail_of tails) tasks)) (sym value)
        (Contains-map (tail_of tails) tasks (task_at tasks (get_or order k.at 0))
        (Contains-get_or tasks (get_or order k.at 0) (record { activity = 0; work = 0 }) inside))

    back : (b : ℕ) → Contains (map (tail_of tails) tasks) b → Contains (take count rising) b
    back b (e, lt, at) =
        let long : length (take count rising) ≡ count = length-take-le count rising spare in
        let inside : e < length tasks = rw (length-map tasks (tail_of tails)) at lt in
        let f = found_in (length tasks) order e is inside in
        let r = s.ranked f.at f.short in
        let n : ℕ = get_or ranks (get_or order f.at 0) 0 in
        let some : 0 < get_or ranks (get_or order f.at 0) 0 = r.some in
        let among : get_or ranks (get_or order f.at 0) 0 ≤ count = r.among in
        let value : get_or rising (get_or ranks (get_or order f.at 0) 0 - 1) 0 ≡ b =
        r.is ∙ ap (λ (m : ℕ). unsigned_abs (get_or keys m (pos 0))) f.is
        ∙ ap unsigned_abs (key_is tails tasks keys e are inside)
        ∙ sym (get_or-map (tail_of tails) tasks e (record { activity = 0; work = 0 }) b inside) ∙ at in (
          get_or ranks (get_or order f.at 0) 0 - 1,
          omega arith,
          get_or-take count rising (get_or ranks (get_or order f.at 0) 0 - 1) b (omega arith)
              ∙ get_or_default rising (get_or ranks (get_or order f.at 0) 0 - 1) b 0 (omega arith) ∙ value,
        )

-- a rank that is written is the rank
rank_is : (rising : List ℕ) (count b r : ℕ) → ((i j : ℕ) → i < j → j < count → get_or rising i 0 < get_or rising j 0)
    → count ≤ length rising → IsRank rising count b r → r ≡ rank_of (take count rising) b
rank_is rising count b r up spare rank =
    let long : length (take count rising) ≡ count = length-take-le count rising spare in
    let some : 0 < r = rank.some in
    let among : r ≤ count = rank.among in
    let is : get_or rising (r - 1) 0 ≡ b = rank.is in
    sym (prefix_len_is (λ t. nat_le t b) (take count rising) r 0 (omega arith)
    (λ k lt.
    let at : get_or (take count rising) k 0 ≡ get_or rising k 0 = get_or-take count rising k 0 (omega arith) in
    let low : get_or rising k 0 ≤ b = ⊎_elim
    (λ (less : k < r - 1). let rises = up k (r - 1) less (omega arith) in omega arith)
    (λ (most : r - 1 ≤ k). let equal : k ≡ r - 1 = omega arith in let values = ap (λ (m : ℕ). get_or rising m 0) equal in omega (arith, values))
    (cases_lt k (r - 1)) in
    le-leb (get_or (take count rising) k 0) b (omega (arith, at)))
    (λ inside.
    let short : r < count = omega arith in
    let at : get_or (take count rising) r 0 ≡ get_or rising r 0 = get_or-take count rising r 0 short in
    let rises = up (r - 1) r (omega arith) short in
    lt-leb (get_or (take count rising) r 0) b (omega (arith, at, rises))))

pub ranked_tasks : (tails : List ℤ) (tasks : List Task) (keys : List ℤ) (order rising ranks : List ℕ) (count : ℕ)
    → AreKeysOf tails tasks keys → IsOrder (length tasks) order → IsRanked keys order (length order) count rising ranks
    → count ≤ length rising → AreRanked tails tasks rising ranks count
ranked_tasks tails tasks keys order rising ranks count are is s spare = record {
  of_tails = ranked_tails tails tasks keys order rising ranks count are is s spare;
  ranks_are = λ i lt.
      let f = found_in (length tasks) order i is lt in
      let b : ℕ = tail_of tails (task_at tasks i) in
      let amount : unsigned_abs (key_at keys order f.at) ≡ tail_of tails (task_at tasks i) =
      ap (λ (m : ℕ). unsigned_abs (get_or keys m (pos 0))) f.is ∙ ap unsigned_abs (key_is tails tasks keys i are lt)
      in
      sym (ap (λ (m : ℕ). get_or ranks m 0) f.is)
      ∙ rank_is rising count (unsigned_abs (key_at keys order f.at)) (get_or ranks (get_or order f.at 0) 0) s.up spare (s.ranked f.at f.short)
      ∙ ap (rank_of (take count rising)) amount;
}

-- ---- loads

pub ranked_loads : (heads tails : List ℤ) (tasks : List Task) (rising ranks : List ℕ) (count : ℕ) (loads : List Load)
    → AreRanked tails tasks rising ranks count → AreRankedLoads heads ranks tasks loads
    → AreLoadsOf heads tails (take count rising) tasks loads
ranked_loads heads tails tasks rising ranks count loads ranked are =
    let none : Load = record { head = 0; rank = 0; work = 0 } in
    let same : map (load heads tails (take count rising)) tasks ≡ map (keyed_load are.keys ranks tasks) (range_with_len 0 (length tasks)) =
    made_by none (keyed_load are.keys ranks tasks) (length tasks) (map (load heads tails (take count rising)) tasks)
    (length-map tasks (load heads tails (take count rising))) (λ k lt.
    get_or-map (load heads tails (take count rising)) tasks k (record { activity = 0; work = 0 }) none lt
    ∙ rw (key_is heads tasks are.keys k are.of_heads lt, ranked.ranks_are k lt) refl) in
    record {
      whole = subst (λ (xs : List Load). IsPermutation xs loads) (sym same) are.whole;
      falling = are.falling;
    }

-- loads along an order by rising heads, from its end
pub loads_from_order : (n : ℕ) (keys : List ℤ) (ranks : List ℕ) (tasks : List Task) (order : List ℕ) → AreEnds n keys
    → IsOrder (length tasks) order → Rises keys order → AreFalling (map (keyed_load keys ranks tasks) (reverse order))
loads_from_order n keys ranks tasks order are is rises = λ i j d early late.
    let long : length (map (keyed_load keys ranks tasks) (reverse order)) ≡ length order =
    length-map (reverse order) (keyed_load keys ranks tasks) ∙ length-reverse order in
    let lj : j < length order = rw long at late in
    let li : i < length order = omega arith in
    let read : (k : ℕ) → k < length order → (get_or (map (keyed_load keys ranks tasks) (reverse order)) k d).head ≡
    unsigned_abs (key_at keys order (length order - 1 - k)) = λ k lt.
    ap (λ (x : Load). x.head) (get_or-map (keyed_load keys ranks tasks) (reverse order) k 0 d (rw (length-reverse order) lt))
    ∙ ap (λ (x : ℕ). unsigned_abs (start keys x)) (get_or-reverse order k 0 lt) in
    rw (read i li, read j lj) (amounts_rise n keys order (length order - 1 - j) (length order - 1 - i) are rises (omega arith) (omega arith))

pub loads_moved : (keys : List ℤ) (ranks : List ℕ) (tasks : List Task) (order : List ℕ) → IsOrder (length tasks) order
    → IsPermutation (map (keyed_load keys ranks tasks) (range_with_len 0 (length tasks)))
    (map (keyed_load keys ranks tasks) (reverse order))
loads_moved keys ranks tasks order is =
    IsPermutation-map (keyed_load keys ranks tasks) (range_with_len 0 (length tasks)) (reverse order)
    (IsPermutation-trans (range_with_len 0 (length tasks)) order (reverse order) is (IsPermutation-reverse order))
