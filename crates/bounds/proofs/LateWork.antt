-- The work of loads with at least some tail, of those that were passed by falling head.
use Rattle.std.proofs.Common.{◌≡◌, sym, ap, ◌∙◌, subst, ℕ, ◌+◌, ◌<◌, ◌≤◌, max, ◌⊎◌, List, [], ◌∷◌, ◌++◌, length, get_or, take, arith, ℤ, pos, map, ◌*◌, ⊎_elim}
use Rattle.std.proofs.Common.{refl, ◌≢◌, set, length-append, nat_lt, if◌then◌else◌, unsigned_abs}
use Rattle.std.specs.List.{All, Contains, sum_by}
use Rattle.std.specs.Ordering.{ord_max, nat_cmp}
use Rattle.std.proofs.lemmas.Bool.Decides.{nat_tests}
use Rattle.std.proofs.lemmas.List.{take_more, length-take-le, get_or-take, length-map, get_or_default, get_or_append_left, get_or_push, get_or-map}
use Rattle.std.proofs.lemmas.List.{get_or-set_same, get_or-set_other, length-set, ext_get_or}
use Rattle.std.proofs.lemmas.List.Elements.{All-from_get_or, Contains-push_cases, All-map, All-contains, Contains-get_or}
use Rattle.std.proofs.lemmas.List.Sums.{sum_by_more, sum_by-take-le, sum_by-le}
use Rattle.bounds.specs.Loads.{AreLoads, work_after, tail_of, load, IsSmall, AreTailsOf, AreLoadsOf, IsEnvelopeUpTo, line_of, Load}
use Rattle.bounds.proofs.Tasks.{sum_by-le-each, Contains-map, made_from}
use Rattle.std.proofs.lemmas.Int.{ints}
use Rattle.std.proofs.lemmas.List.Sorted.{All-permutation, length_permutation}
use Rattle.network.specs.Problem.{IsBetween}
use Rattle.network.specs.Schedule.{start}
use Rattle.network.specs.declared.limits.TheConstants.{MAX_ACTIVITIES, MAX_WALK_WEIGHT}
use Rattle.bounds.specs.declared.limits.TheConstants.{MAX_END, MAX_CAPACITY, MAX_WORK, MAX_ENVELOPE, FAR_MARK}
use Rattle.bounds.specs.Energy.{AreEnds, IsTask, AreTasks, Task}
use Rattle.bounds.proofs.Ranking.{rank_some, rank_limit}
use Rattle.std.proofs.Math.Nat.{mul-le-mul, mul-le-mul_left}
use Rattle.std.specs.List.Sorted.{IsNonDecreasing}
use Rattle.std.proofs.lemmas.Bool.{cases_lt}

pub ord_max-max : (x y : ℕ) → ord_max nat_cmp x y ≡ max x y
ord_max-max x y = grind (arith, nat_tests)

-- the work of a load with tail at least that at place j, and 0 for any other
abbrev pub late_work : ℕ → Load → ℕ
late_work j x = if nat_lt j x.rank then x.work else 0

pub late_work-late : (j : ℕ) (x : Load) → j < x.rank → late_work j x ≡ x.work
late_work-late j x h = grind (arith, nat_tests)

pub late_work-early : (j : ℕ) (x : Load) → x.rank ≤ j → late_work j x ≡ 0
late_work-early j x h = grind (arith, nat_tests)

pub late_work-le : (j : ℕ) (x : Load) → late_work j x ≤ x.work
late_work-le j x = grind (arith, nat_tests)

pub work_after-early : (a j : ℕ) (x : Load) → x.rank ≤ j → work_after a j x ≡ 0
work_after-early a j x h = grind (arith, nat_tests)

pub work_after-low : (a j : ℕ) (x : Load) → x.head < a → work_after a j x ≡ 0
work_after-low a j x h = grind (arith, nat_tests)

pub work_after-le : (a j : ℕ) (x : Load) → work_after a j x ≤ late_work j x
work_after-le a j x = grind (arith, nat_tests)

late_work-after : (a j : ℕ) (x : Load) → a ≤ x.head → late_work j x ≤ work_after a j x
late_work-after a j x h = grind (arith, nat_tests)

-- n is the greatest of f 0 .. f j
pub record IsTop (f : ℕ → ℕ) (j n : ℕ) : Type 0 where
  pub place : ℕ
  pub early : place ≤ j
  pub reached : f place ≡ n
  pub above : (i : ℕ) → i ≤ j → f i ≤ n

-- one load more adds what it has
pub sum_more : (f : Load → ℕ) (loads : List Load) (i : ℕ) (x : Load) → i < length loads → x ≡ get_or loads i x
    → sum_by f (take (i + 1) loads) ≡ sum_by f (take i loads) + f x
sum_more f loads i x lt at = sum_by_more f loads i x lt ∙ ap (λ y. sum_by f (take i loads) + f y) (sym at)

pub passed : (loads : List Load) (i : ℕ) (x y : Load) → i < length loads → x ≡ get_or loads i x
    → Contains (take (i + 1) loads) y → Contains (take i loads) y ⊎ (x ≡ y)
passed loads i x y lt at there =
    let more : take (i + 1) loads ≡ take i loads ++ x ∷ [] = take_more loads i x lt ∙ ap (λ z. take i loads ++ z ∷ []) (sym at) in
    Contains-push_cases (take i loads) x y (subst (λ ys. Contains ys y) more there)

-- the work of the loads up to one, by falling head, all lies after its head
pub work_reaches : (tails : List ℕ) (loads : List Load) (j i : ℕ) (x : Load) → AreLoads tails loads → i < length loads
    → x ≡ get_or loads i x → sum_by (late_work j) (take (i + 1) loads) ≤ sum_by (work_after x.head j) loads
work_reaches tails loads j i x are lt at =
    let each : All (λ y. late_work j y ≤ work_after x.head j y) (take (i + 1) loads) =
    All-from_get_or (λ y. late_work j y ≤ work_after x.head j y) (take (i + 1) loads) x (λ k l.
    let long : i + 1 ≤ length loads = omega arith in
    let short : k < i + 1 = omega (arith, length-take-le (i + 1) loads long) in
    let early : k ≤ i = omega arith in
    let same : get_or (take (i + 1) loads) k x ≡ get_or loads k x = get_or-take (i + 1) loads k x short in
    let falls : (get_or loads i x).head ≤ (get_or loads k x).head = are.falling k i x early lt in
    let here : x.head ≡ (get_or loads i x).head = ap (λ y. y.head) at in
    let there : (get_or (take (i + 1) loads) k x).head ≡ (get_or loads k x).head = ap (λ y. y.head) same in
    late_work-after x.head j (get_or (take (i + 1) loads) k x) (omega (arith, falls, here, there))) in
    omega (arith, sum_by-le-each (late_work j) (work_after x.head j) (take (i + 1) loads) each, sum_by-take-le (work_after x.head j) loads (i + 1))

-- ---- Loads and tails are within the limits.

abs_limit : (z : ℤ) → IsBetween (pos 0) MAX_WALK_WEIGHT z → unsigned_abs z ≤ MAX_END
abs_limit z between =
    omega (arith, ints)

-- a head or tail is within the limits
pub end_limit : (n : ℕ) (ends : List ℤ) (i : ℕ) → AreEnds n ends → i < n → unsigned_abs (start ends i) ≤ MAX_END
end_limit n ends i are lt = abs_limit (start ends i) (are.within i (pos 0) (rw are.count lt))

pub loads_limited : (n : ℕ) (heads tails : List ℤ) (rising : List ℕ) (tasks : List Task) (loads : List Load)
    → AreEnds n heads → AreTasks n tasks → AreTailsOf tails tasks rising → AreLoadsOf heads tails rising tasks loads
    → AreLoads rising loads
loads_limited n heads tails rising tasks loads of_heads are of_tails of_loads =
    let few : length tasks ≤ MAX_ACTIVITIES = are.few in
    let long : length loads ≡ length tasks =
    length_permutation (map (load heads tails rising) tasks) loads of_loads.whole
    ∙ length-map tasks (load heads tails rising) in
    record {
      few = omega arith;
      small = All-permutation (IsSmall rising) (map (load heads tails rising) tasks) loads of_loads.whole
          (All-map (IsSmall rising) (load heads tails rising) tasks (λ j d l.
          let t : Task = get_or tasks j d in
          let at : IsTask n (get_or tasks j d) = are.each j d l in
          let occurs : Contains rising (tail_of tails (get_or tasks j d)) =
          (of_tails.occur (tail_of tails (get_or tasks j d))).1
          (Contains-map (tail_of tails) tasks (get_or tasks j d) (Contains-get_or tasks j d l)) in
          record {
            head_limit = end_limit n heads (get_or tasks j d).activity of_heads at.there;
            some_tail = rank_some rising (tail_of tails (get_or tasks j d)) of_tails.up occurs;
            rank_limit = rank_limit rising (tail_of tails (get_or tasks j d));
            work_limit = at.work_limit;
          }));
      falling = of_loads.falling;
    }

pub tails_limited : (n : ℕ) (tails : List ℤ) (rising : List ℕ) (tasks : List Task) → AreEnds n tails → AreTasks n tasks
    → AreTailsOf tails tasks rising → All (λ b. b ≤ MAX_END) rising
tails_limited n tails rising tasks of_ends are of_tails =
    All-from_get_or (λ b. b ≤ MAX_END) rising 0 (λ k lt.
    let z = made_from (record { activity = 0; work = 0 }) (tail_of tails) tasks (get_or rising k 0)
    ((of_tails.occur (get_or rising k 0)).0 (Contains-get_or rising k 0 lt)) in
    let at : IsTask n z.source = All-contains (IsTask n) tasks z.source are.each z.there in
    subst (λ (c : ℕ). c ≤ MAX_END) (sym z.is) (end_limit n tails z.source.activity of_ends at.there))

-- ---- Envelopes are within the limits.

-- a sum of works, over few loads
pub sum_small : (f : Load → ℕ) (tails : List ℕ) (loads : List Load) → AreLoads tails loads → ((x : Load) → f x ≤ x.work) → sum_by f loads ≤ 1002000000000000
sum_small f tails loads are part =
    let each : All (λ x. f x ≤ MAX_WORK) loads = λ k d l.
    let small : IsSmall tails (get_or loads k d) = are.small k d l in
    let limit : (get_or loads k d).work ≤ MAX_WORK = small.work_limit in
    omega (arith, limit, part (get_or loads k d)) in
    let few : length loads ≤ MAX_ACTIVITIES = are.few in
    omega (arith, few, sum_by-le f MAX_WORK loads each)

-- the capacity times a head or a tail
pub product_small : (c a : ℕ) → c ≤ MAX_CAPACITY → a ≤ MAX_END → c * a ≤ 1003000000000000
product_small c a small low = omega (arith, mul-le-mul small low)

pub reached_small : (c : ℕ) (tails : List ℕ) (loads : List Load) (n : ℕ) → AreLoads tails loads → c ≤ MAX_CAPACITY
    → All (λ b. b ≤ MAX_END) tails → (n ≡ 0) ⊎ IsEnvelopeUpTo c tails loads n → n ≤ MAX_ENVELOPE
reached_small c tails loads n are few low =
    ⊎_elim
    (λ (none : n ≡ 0). omega arith)
    (λ (r : IsEnvelopeUpTo c tails loads n).
    let small : IsSmall tails r.load = All-contains (IsSmall tails) loads r.load are.small r.there in
    let head : r.load.head ≤ MAX_END = small.head_limit in
    let rank : r.load.rank ≤ length tails = small.rank_limit in
    let late : r.place < r.load.rank = r.late in
    let tail : get_or tails r.place 0 ≤ MAX_END = low r.place 0 (omega arith) in
    let within : n ≤ c * (r.load.head + get_or tails r.place 0) + sum_by (work_after r.load.head r.place) loads = r.within in
    omega (
      arith,
      within,
      product_small c r.load.head few head,
      product_small c (get_or tails r.place 0) few tail,
      sum_small (work_after r.load.head r.place) tails loads are (work_part r.load.head r.place),
    ))
  where
    work_part : (a j : ℕ) (x : Load) → work_after a j x ≤ x.work
    work_part a j x = omega (arith, work_after-le a j x, late_work-le j x)

-- ---- The marks of a line of slots.

pub line_long : (c : ℕ) (tails line : List ℕ) → line ≡ line_of c tails → length line ≡ length tails + 1
line_long c tails line is = ap length is ∙ length-append (map (λ b. c * b) tails) (FAR_MARK ∷ []) ∙ omega (arith, length-map tails (λ b. c * b))

pub line_marks : (c : ℕ) (tails line : List ℕ) → line ≡ line_of c tails → (q : ℕ) → q < length tails → get_or line q 0 ≡ c * get_or tails q 0
line_marks c tails line is q lt =
    let long : length (map (λ b. c * b) tails) ≡ length tails = length-map tails (λ b. c * b) in
    ap (λ (xs : List ℕ). get_or xs q 0) is
    ∙ get_or_append_left (map (λ b. c * b) tails) (FAR_MARK ∷ []) 0 q (omega arith)
    ∙ get_or-map (λ b. c * b) tails q 0 0 lt

pub line_far : (c : ℕ) (tails line : List ℕ) → line ≡ line_of c tails → get_or line (length tails) 0 ≡ FAR_MARK
line_far c tails line is =
    ap (λ (xs : List ℕ). get_or xs (length tails) 0) is ∙ get_or_push (map (λ b. c * b) tails) FAR_MARK 0 (length tails) (length-map tails (λ b. c * b))

pub line_rises : (c : ℕ) (tails line : List ℕ) → line ≡ line_of c tails → c ≤ MAX_CAPACITY
    → All (λ b. b ≤ MAX_END) tails → IsNonDecreasing tails → IsNonDecreasing line
line_rises c tails line is few low rising = λ i j d early late.
    let long = line_long c tails line is in
    let at_i : get_or line i d ≡ get_or line i 0 = get_or_default line i d 0 (omega arith) in
    let at_j : get_or line j d ≡ get_or line j 0 = get_or_default line j d 0 late in
    ⊎_elim
    (λ (tail_i : i < length tails).
    let mark = line_marks c tails line is i tail_i in
    ⊎_elim
    (λ (tail_j : j < length tails).
    omega (arith, at_i, at_j, mark, line_marks c tails line is j tail_j, mul-le-mul_left c (rising i j 0 early tail_j)))
    (λ (last : length tails ≤ j).
    let end : get_or line j 0 ≡ FAR_MARK = ap (λ (k : ℕ). get_or line k 0) (omega arith) ∙ line_far c tails line is in
    omega (arith, at_i, at_j, mark, end, product_small c (get_or tails i 0) few (low i 0 tail_i)))
    (cases_lt j (length tails)))
    (λ (last : length tails ≤ i).
    let same : i ≡ j = omega arith in
    let values : get_or line i d ≡ get_or line j d = ap (λ (k : ℕ). get_or line k d) same in
    omega arith)
    (cases_lt i (length tails))

-- a line that is written place by place, and then its last mark
pub line_written : (c : ℕ) (tails mid : List ℕ) → length mid ≡ length tails + 1
    → ((q : ℕ) → q < length tails → get_or mid q 0 ≡ c * get_or tails q 0)
    → set mid (length tails) FAR_MARK ≡ line_of c tails
line_written c tails mid long at =
    let line : List ℕ = set mid (length tails) FAR_MARK in
    let same : length line ≡ length mid = length-set mid (length tails) FAR_MARK in
    let whole : length (line_of c tails) ≡ length tails + 1 = line_long c tails (line_of c tails) refl in
    ext_get_or 0 line (line_of c tails) (omega arith) (λ k short.
    ⊎_elim
    (λ (mark : k < length tails).
    let other : k ≢ length tails = omega arith in
    get_or-set_other mid (length tails) k FAR_MARK 0 other ∙ at k mark ∙ sym (line_marks c tails (line_of c tails) refl k mark))
    (λ (last : length tails ≤ k).
    let is : k ≡ length tails = omega arith in
    rw is (get_or-set_same mid (length tails) FAR_MARK 0 (omega arith) ∙ sym (line_far c tails (line_of c tails) refl)))
    (cases_lt k (length tails)))
