-- What a line of slots has found, once some loads by falling head have filled it.
use Rattle.std.proofs.Common.{◌≡◌, refl, sym, ap, ◌∙◌, subst, ℕ, suc, ◌+◌, ◌-◌, ◌*◌, ◌<◌, ◌≤◌, max, ◌⊎◌, inl, inr, ⊎_elim, List, [], ◌∷◌, length, get_or, take}
use Rattle.std.proofs.Common.{arith}
use Rattle.std.specs.List.{All, Contains, sum_by}
use Rattle.std.specs.List.Sorted.{IsNonDecreasing}
use Rattle.std.proofs.lemmas.Bool.{cases_lt}
use Rattle.std.proofs.lemmas.List.{get_or_default}
use Rattle.std.proofs.lemmas.List.Sums.{sum_by-cons, sum_by-take-le, sum_by-le-sum_by}
use Rattle.std.proofs.Math.Nat.{mul-le-mul_left}
use Rattle.bounds.specs.declared.limits.TheConstants.{MAX_CAPACITY, MAX_END, MAX_WORK}
use Rattle.bounds.specs.Loads.{IsSmall, AreLoads, work_after, envelope, IsEnvelopeUpTo, IsAbove, line_of, width_before, IsFilled, Load}
use Rattle.bounds.proofs.Widths.{width_more}
use Rattle.bounds.proofs.LateWork.{line_marks, line_far, sum_small, product_small, late_work, late_work-late, late_work-early, late_work-le, work_after-low}
use Rattle.bounds.proofs.LateWork.{work_after-early, work_after-le, IsTop, sum_more, passed, work_reaches}

-- ---- tops that are raised by a fill, over plain numbers

-- f gains w up to s, and its tops t become u: those up to s gain w, those up to e become that of s, and those after e are more than that and stay
record IsRaise (s e w m : ℕ) (f g t u : ℕ → ℕ) : Type 0 where
  late : s ≤ e
  inside : e < m
  gains : (k : ℕ) → k ≤ s → g k ≡ f k + w
  keeps : (k : ℕ) → s < k → g k ≡ f k
  before : (q : ℕ) → q ≤ s → u q ≡ t q + w
  full : (q : ℕ) → s ≤ q → q ≤ e → u q ≡ t s + w
  within : (q : ℕ) → s ≤ q → q ≤ e → t q ≤ t s + w
  after : (q : ℕ) → e < q → q ≤ m → u q ≡ t q
  beyond : (q : ℕ) → e < q → q ≤ m → t s + w < t q

raised : (s e w m : ℕ) (f g t u : ℕ → ℕ) → IsRaise s e w m f g t u → ((q : ℕ) → q ≤ m → IsTop f q (t q)) → (q : ℕ) → q ≤ m → IsTop g q (u q)
raised s e w m f g t u r tops q lt =
    let late : s ≤ e = r.late in
    let inside : e < m = r.inside in
    let own = tops s (omega arith) in
    let here = tops q lt in
    ⊎_elim
    (λ (early : q ≤ s).
    record {
      place = here.place;
      early = here.early;
      reached = omega (arith, here.reached, here.early, r.gains here.place (omega (arith, here.early)), r.before q early);
      above = λ k l. omega (arith, here.above k l, r.gains k (omega arith), r.before q early);
    })
    (λ (beyond : s < q).
    ⊎_elim
    (λ (full : q ≤ e).
    let is : u q ≡ t s + w = r.full q (omega arith) full in
    record {
      place = own.place;
      early = omega (arith, own.early);
      reached = omega (arith, own.reached, r.gains own.place own.early);
      above = λ k l.
          ⊎_elim
          (λ (low : k ≤ s). omega (arith, own.above k low, r.gains k low))
          (λ (high : s < k). omega (arith, here.above k l, r.keeps k high, r.within q (omega arith) full))
          (up_to k s);
    })
    (λ (after : e < q).
    let is : u q ≡ t q = r.after q after lt in
    let more : t s + w < t q = r.beyond q after lt in
    let place : s < here.place = ⊎_elim
    (λ (low : here.place ≤ s). absurd (omega (arith, own.above here.place low, here.reached)))
    (λ (high : s < here.place). high)
    (up_to here.place s) in
    record {
      place = here.place;
      early = here.early;
      reached = omega (arith, here.reached, r.keeps here.place place);
      above = λ k l.
          ⊎_elim
          (λ (low : k ≤ s). omega (arith, own.above k low, r.gains k low))
          (λ (high : s < k). omega (arith, here.above k l, r.keeps k high))
          (up_to k s);
    })
    (up_to q e))
    (up_to q s)
  where
    up_to : (a b : ℕ) → (a ≤ b) ⊎ (b < a)
    up_to a b =
        ⊎_elim
        (λ (less : b < a). inr less)
        (λ (more : a ≤ b). inl more)
        (cases_lt b a)

-- ---- the line

-- mark j, and the work so far of the loads with at least the tail at place j
abbrev pub end_from : List ℕ → List Load → ℕ → ℕ → ℕ
end_from line loads i j = get_or line j 0 + sum_by (late_work j) (take i loads)

-- the greatest of these up to slot q, as the widths tell
abbrev pub top_at : List ℕ → List Load → ℕ → List ℕ → ℕ → ℕ
top_at line loads i widths q = sum_by (λ x. x.work) (take i loads) + (get_or line 0 0 + width_before widths q)

-- the fill ends where a load that was passed, and those before it, make it end
pub record IsHeld (line : List ℕ) (loads : List Load) (i n : ℕ) : Type 0 where
  pub load : Load
  pub index : ℕ
  pub passed : index < i
  pub at : load ≡ get_or loads index load
  pub place : ℕ
  pub late : place < load.rank
  pub within : n ≤ end_from line loads (index + 1) place

-- the greatest end of the fill from a slot on, up to each slot; where the fill ends; the greatest envelope that was met
pub record Filled (c : ℕ) (tails : List ℕ) (loads : List Load) (line : List ℕ) (i : ℕ) (widths : List ℕ) (filled n : ℕ) : Type 0 where
  pub count : length widths ≡ length tails
  pub tops : (q : ℕ) → q ≤ length tails → IsTop (end_from line loads i) q (top_at line loads i widths q)
  pub held : (filled ≡ 0) ⊎ IsHeld line loads i filled
  pub over : (q : ℕ) (y : Load) → Contains (take i loads) y → q < y.rank → end_from line loads i q ≤ filled
  pub reached : (n ≡ 0) ⊎ IsEnvelopeUpTo c tails loads n
  pub above : IsAbove c tails (take i loads) n

-- what is known of the line and the loads
pub record AreOnLine (c : ℕ) (tails : List ℕ) (loads : List Load) (line : List ℕ) : Type 0 where
  pub are : AreLoads tails loads
  pub few : c ≤ MAX_CAPACITY
  pub low : All (λ b. b ≤ MAX_END) tails
  pub rising : IsNonDecreasing tails
  pub is : line ≡ line_of c tails

pub filled_start : (c : ℕ) (tails : List ℕ) (loads : List Load) (line widths : List ℕ) → IsNonDecreasing line
    → length line ≡ length tails + 1 → length widths + 1 ≡ length line →
    ((q : ℕ) → q < length line → get_or line 0 0 + width_before widths q ≡ get_or line q 0) → Filled c tails loads line 0 widths 0 0
filled_start c tails loads line widths rising long count marks = record {
  count = omega arith;
  tops = λ q l. record {
    place = q;
    early = omega arith;
    reached = omega (arith, marks q (omega arith));
    above = λ k early. let up : get_or line k 0 ≤ get_or line q 0 = rising k q 0 early (omega arith) in omega (arith, marks q (omega arith));
  };
  held = inl refl;
  over = λ q y there late. absurd (omega (arith, there.1));
  reached = inl refl;
  above = λ a j y there high late. absurd (omega (arith, there.1));
}

-- a load with some tail after place j
record IsSomeLate (j : ℕ) (xs : List Load) : Type 0 where
  load : Load
  there : Contains xs load
  late : j < load.rank

late_or : (j : ℕ) (xs : List Load) → (sum_by (late_work j) xs ≡ 0) ⊎ IsSomeLate j xs
late_or j [] = inl refl
late_or j (x ∷ xs) =
    ⊎_elim
    (λ (late : j < x.rank). inr (record { load = x; there = (0, omega arith, refl); late = late }))
    (λ (early : x.rank ≤ j).
    ⊎_elim
    (λ (none : sum_by (late_work j) xs ≡ 0). inl (omega (arith, sum_by-cons (late_work j) x xs, late_work-early j x early, none)))
    (λ (some : IsSomeLate j xs). inr (record { load = some.load; there = (suc some.there.0, omega (arith, some.there.1), some.there.2); late = some.late }))
    (late_or j xs))
    (cases_lt j x.rank)

-- one load more
pub record IsNext (c : ℕ) (tails : List ℕ) (loads : List Load) (line : List ℕ) (i : ℕ) (old : List ℕ) (filled n : ℕ) (x : Load) : Type 0 where
  pub on : AreOnLine c tails loads line
  pub was : Filled c tails loads line i old filled n
  pub inside : i < length loads
  pub at : x ≡ get_or loads i x
  pub small : IsSmall tails x

-- the envelope of a load's head and where the fill ends
new_reached : (c : ℕ) (tails : List ℕ) (loads : List Load) (line : List ℕ) (i m : ℕ) (x : Load)
    → AreOnLine c tails loads line → i < length loads → x ≡ get_or loads i x → IsHeld line loads (i + 1) m
    → IsEnvelopeUpTo c tails loads (c * x.head + m)
new_reached c tails loads line i m x on inside at h =
    let index : h.index < i + 1 = h.passed in
    let lt : h.index < length loads = omega arith in
    let small : IsSmall tails h.load = subst (IsSmall tails) (sym h.at) (on.are.small h.index h.load lt) in
    let rank : h.load.rank ≤ length tails = small.rank_limit in
    let late : h.place < h.load.rank = h.late in
    let falls : (get_or loads i x).head ≤ (get_or loads h.index x).head = on.are.falling h.index i x (omega arith) inside in
    let here : x.head ≡ (get_or loads i x).head = ap (λ (y : Load). y.head) at in
    let default : get_or loads h.index x ≡ get_or loads h.index h.load = get_or_default loads h.index x h.load lt in
    let there : (get_or loads h.index x).head ≡ h.load.head = ap (λ (y : Load). y.head) (default ∙ sym h.at) in
    let heads : x.head ≤ h.load.head = omega arith in
    record {
      load = h.load;
      place = h.place;
      there = (h.index, lt, sym h.at);
      late = late;
      within = omega (
        arith,
        h.within,
        line_marks c tails line on.is h.place (omega arith),
        mul-le-mul_left c heads,
        work_reaches tails loads h.place h.index h.load on.are lt h.at,
      );
    }

new_above : (c : ℕ) (tails : List ℕ) (loads : List Load) (line : List ℕ) (i : ℕ) (old : List ℕ) (filled n m : ℕ)
    (x : Load) → IsNext c tails loads line i old filled n x →
    ((q : ℕ) (y : Load) → Contains (take (i + 1) loads) y → q < y.rank → end_from line loads (i + 1) q ≤ m)
    → IsAbove c tails (take (i + 1) loads) (max n (c * x.head + m))
new_above c tails loads line i old filled n m x s over = λ a j y there high late.
    let more = sum_more (work_after a j) loads i x s.inside s.at in
    let rank : x.rank ≤ length tails = s.small.rank_limit in
    let with_new : a ≤ x.head → j < x.rank → (z : Load) → Contains (take (i + 1) loads) z → j < z.rank
    → envelope c tails (take (i + 1) loads) a j ≤ c * x.head + m = λ up short z is_there counts.
    let between : sum_by (work_after a j) (take (i + 1) loads) ≤ sum_by (late_work j) (take (i + 1) loads) =
    sum_by-le-sum_by (work_after a j) (late_work j) (take (i + 1) loads) (work_after-le a j) in
    omega (arith, between, mul-le-mul_left c up, over j z is_there counts, line_marks c tails line s.on.is j (omega arith)) in
    ⊎_elim
    (λ (before : Contains (take i loads) y).
    let so_far = s.was.above a j y before high late in
    ⊎_elim
    (λ (low : x.head < a). omega (arith, so_far, more, work_after-low a j x low))
    (λ (up : a ≤ x.head).
    ⊎_elim
    (λ (counts : j < x.rank). omega (arith, with_new up counts y there late))
    (λ (early : x.rank ≤ j). omega (arith, so_far, more, work_after-early a j x early))
    (cases_lt j x.rank))
    (cases_lt x.head a))
    (λ (same : x ≡ y).
    let heads : x.head ≡ y.head = ap (λ (z : Load). z.head) same in
    let ranks : x.rank ≡ y.rank = ap (λ (z : Load). z.rank) same in
    omega (arith, with_new (omega arith) (omega arith) y there late))
    (passed loads i x y s.inside s.at there)

-- the greatest envelope with one load more, where the fill now ends at m
next_filled : (c : ℕ) (tails : List ℕ) (loads : List Load) (line : List ℕ) (i : ℕ) (old new : List ℕ) (filled n m : ℕ)
    (x : Load) → IsNext c tails loads line i old filled n x → length new ≡ length tails →
    ((q : ℕ) → q ≤ length tails → IsTop (end_from line loads (i + 1)) q (top_at line loads (i + 1) new q)) → IsHeld line loads (i + 1) m →
    ((q : ℕ) (y : Load) → Contains (take (i + 1) loads) y → q < y.rank → end_from line loads (i + 1) q ≤ m)
    → Filled c tails loads line (i + 1) new m (max n (c * x.head + m))
next_filled c tails loads line i old new filled n m x s count tops held over =
    let value : ℕ = c * x.head + m in
    record {
      count = count;
      tops = tops;
      held = inr held;
      over = over;
      reached = ⊎_elim
          (λ (more : n < value). let larger : max n value ≡ value = omega arith
          in rw larger (inr (new_reached c tails loads line i m x s.on s.inside s.at held)))
          (λ (less : value ≤ n). let larger : max n value ≡ n = omega arith in rw larger s.was.reached)
          (cases_lt n value);
      above = new_above c tails loads line i old filled n m x s over;
    }

-- where the fill ends is that of the new load or of one before
held_more : (line : List ℕ) (loads : List Load) (i filled own : ℕ) → (filled ≡ 0) ⊎ IsHeld line loads i filled
    → ((m : ℕ) → m ≤ own → IsHeld line loads (i + 1) m) → IsHeld line loads (i + 1) (max filled own)
held_more line loads i filled own held by_load =
    ⊎_elim
    (λ (more : filled < own). let larger : max filled own ≡ own = omega arith in rw larger (by_load own (omega arith)))
    (λ (less : own ≤ filled).
    let larger : max filled own ≡ filled = omega arith in
    rw larger (⊎_elim
    (λ (none : filled ≡ 0). by_load filled (omega arith))
    (λ (h : IsHeld line loads i filled). record {
      load = h.load;
      index = h.index;
      passed = omega (arith, h.passed);
      at = h.at;
      place = h.place;
      late = h.late;
      within = h.within;
    })
    held))
    (cases_lt filled own)

-- ---- a load with work fills slots

pub record IsStep (c : ℕ) (tails : List ℕ) (loads : List Load) (line : List ℕ) (i : ℕ) (old new : List ℕ) (filled n : ℕ) (x : Load) (e : ℕ) : Type 0 where
  pub next : IsNext c tails loads line i old filled n x
  pub fills : IsFilled (x.rank - 1) x.work e old new

gains : (c : ℕ) (tails : List ℕ) (loads : List Load) (line : List ℕ) (i : ℕ) (old new : List ℕ) (filled n : ℕ)
    (x : Load) (e : ℕ) → IsStep c tails loads line i old new filled n x e →
    (k : ℕ) → k < x.rank → end_from line loads (i + 1) k ≡ end_from line loads i k + x.work
gains c tails loads line i old new filled n x e s k late = omega (arith, sum_more (late_work k) loads i x s.next.inside s.next.at, late_work-late k x late)

keeps : (c : ℕ) (tails : List ℕ) (loads : List Load) (line : List ℕ) (i : ℕ) (old new : List ℕ) (filled n : ℕ)
    (x : Load) (e : ℕ) → IsStep c tails loads line i old new filled n x e →
    (k : ℕ) → x.rank ≤ k → end_from line loads (i + 1) k ≡ end_from line loads i k
keeps c tails loads line i old new filled n x e s k early = omega (arith, sum_more (late_work k) loads i x s.next.inside s.next.at, late_work-early k x early)

new_tops : (c : ℕ) (tails : List ℕ) (loads : List Load) (line : List ℕ) (i : ℕ) (old new : List ℕ) (filled n : ℕ)
    (x : Load) (e : ℕ) → IsStep c tails loads line i old new filled n x e →
    (q : ℕ) → q ≤ length tails → IsTop (end_from line loads (i + 1)) q (top_at line loads (i + 1) new q)
new_tops c tails loads line i old new filled n x e s =
    let some : 0 < x.rank = s.next.small.some_tail in
    let count : length old ≡ length tails = s.next.was.count in
    let more : sum_by (λ (y : Load). y.work) (take (i + 1) loads) ≡ sum_by (λ (y : Load). y.work) (take i loads) +
    x.work = sum_more (λ y. y.work) loads i x s.next.inside s.next.at in
    let own : ℕ = x.rank - 1 in
    raised own e x.work (length tails) (end_from line loads i) (end_from line loads (i + 1)) (top_at line loads i old) (top_at line loads (i + 1) new)
    (record {
      late = s.fills.late;
      inside = omega (arith, s.fills.inside);
      gains = λ k early. gains c tails loads line i old new filled n x e s k (omega arith);
      keeps = λ k late. keeps c tails loads line i old new filled n x e s k (omega arith);
      before = λ q l. omega (arith, more, s.fills.before q l);
      full = λ q l h. omega (arith, more, s.fills.full q l h);
      within = λ q l h. omega (arith, s.fills.within q l h);
      after = λ q l h. omega (arith, more, s.fills.after q l (omega arith));
      beyond = λ q l h. omega (arith, s.fills.beyond q l (omega arith), s.fills.after q l (omega arith));
    })
    s.next.was.tops

-- where the fill of the load ends: the top at its own slot, less what lies after the last slot that it reached
pub own_is : (c : ℕ) (tails : List ℕ) (loads : List Load) (line : List ℕ) (i : ℕ) (old new : List ℕ) (filled n : ℕ)
    (x : Load) (e : ℕ) → IsStep c tails loads line i old new filled n x e →
    end_from line loads (i + 1) (e + 1) ≡ top_at line loads (i + 1) new (x.rank - 1) + get_or new e 0
own_is c tails loads line i old new filled n x e s =
    let count : length old ≡ length tails = s.next.was.count in
    let same : length new ≡ length old = s.fills.count in
    let late : x.rank - 1 ≤ e = s.fills.late in
    let inside : e < length old = s.fills.inside in
    let next = new_tops c tails loads line i old new filled n x e s (e + 1) (omega arith) in
    let here = new_tops c tails loads line i old new filled n x e s e (omega arith) in
    let more : width_before new (e + 1) ≡ width_before new e + get_or new e 0 = width_more new e (omega arith) in
    let full : width_before new e ≡ width_before old (x.rank - 1) = s.fills.full e late (omega arith) in
    let own : width_before new (x.rank - 1) ≡ width_before old (x.rank - 1) = s.fills.before (x.rank - 1) (omega arith) in
    let beyond : width_before old (x.rank - 1) < width_before new (e + 1) = s.fills.beyond (e + 1) (omega arith) (omega arith) in
    let place : next.place ≡ e + 1 =
    ⊎_elim
    (λ (low : next.place < e + 1). absurd (omega (arith, here.above next.place (omega arith), next.reached)))
    (λ (high : e + 1 ≤ next.place). omega (arith, next.early))
    (cases_lt next.place (e + 1)) in
    ap (end_from line loads (i + 1)) (sym place) ∙ omega (arith, next.reached)

-- the mark after the last slot is beyond the width that it has left
pub own_small : (c : ℕ) (tails : List ℕ) (loads : List Load) (line : List ℕ) (i : ℕ) (old new : List ℕ) (filled n : ℕ)
    (x : Load) (e : ℕ) → IsStep c tails loads line i old new filled n x e → get_or new e 0 ≤ get_or line (e + 1) 0
own_small c tails loads line i old new filled n x e s =
    omega (
      arith,
      own_is c tails loads line i old new filled n x e s,
      sum_by-le-sum_by (late_work (e + 1)) (λ (y : Load). y.work) (take (i + 1) loads) (late_work-le (e + 1)),
    )

new_held : (c : ℕ) (tails : List ℕ) (loads : List Load) (line : List ℕ) (i : ℕ) (old new : List ℕ) (filled n : ℕ)
    (x : Load) (e own : ℕ) → IsStep c tails loads line i old new filled n x e
    → own + get_or new e 0 ≡ get_or line (e + 1) 0 →
    IsHeld line loads (i + 1) (max filled own)
new_held c tails loads line i old new filled n x e own s is =
    let some : 0 < x.rank = s.next.small.some_tail in
    let rank : x.rank ≤ length tails = s.next.small.rank_limit in
    let top = new_tops c tails loads line i old new filled n x e s (x.rank - 1) (omega arith) in
    held_more line loads i filled own s.next.was.held (λ m l. record {
      load = x;
      index = i;
      passed = omega arith;
      at = s.next.at;
      place = top.place;
      late = omega (arith, top.early);
      within = omega (arith, top.reached, own_is c tails loads line i old new filled n x e s);
    })

new_over : (c : ℕ) (tails : List ℕ) (loads : List Load) (line : List ℕ) (i : ℕ) (old new : List ℕ) (filled n : ℕ)
    (x : Load) (e own : ℕ) → IsStep c tails loads line i old new filled n x e
    → own + get_or new e 0 ≡ get_or line (e + 1) 0 →
    (q : ℕ) (y : Load) → Contains (take (i + 1) loads) y → q < y.rank → end_from line loads (i + 1) q ≤ max filled own
new_over c tails loads line i old new filled n x e own s is q y there late =
    let some : 0 < x.rank = s.next.small.some_tail in
    let rank : x.rank ≤ length tails = s.next.small.rank_limit in
    let own_late : x.rank - 1 ≤ e = s.fills.late in
    let own_end = own_is c tails loads line i old new filled n x e s in
    ⊎_elim
    (λ (low : q < x.rank).
    let top = new_tops c tails loads line i old new filled n x e s (x.rank - 1) (omega arith) in
    ⊎_elim
    (λ (none : sum_by (late_work (e + 1)) (take (i + 1) loads) ≡ 0). omega (arith, top.above q (omega arith), own_end))
    (λ (z : IsSomeLate (e + 1) (take (i + 1) loads)).
    ⊎_elim
    (λ (before : Contains (take i loads) z.load).
    omega (
      arith,
      top.above q (omega arith),
      own_end,
      s.next.was.over (e + 1) z.load before z.late,
      keeps c tails loads line i old new filled n x e s (e + 1) (omega arith),
    ))
    (λ (same : x ≡ z.load). let ranks : x.rank ≡ z.load.rank = ap (λ (l : Load). l.rank) same in absurd (omega (arith, z.late)))
    (passed loads i x z.load s.next.inside s.next.at z.there))
    (late_or (e + 1) (take (i + 1) loads)))
    (λ (high : x.rank ≤ q).
    ⊎_elim
    (λ (before : Contains (take i loads) y). omega (arith, s.next.was.over q y before late, keeps c tails loads line i old new filled n x e s q high))
    (λ (same : x ≡ y). let ranks : x.rank ≡ y.rank = ap (λ (l : Load). l.rank) same in absurd (omega arith))
    (passed loads i x y s.next.inside s.next.at there))
    (cases_lt q x.rank)

pub filled_more : (c : ℕ) (tails : List ℕ) (loads : List Load) (line : List ℕ) (i : ℕ) (old new : List ℕ) (filled n : ℕ)
    (x : Load) (e own : ℕ) → IsStep c tails loads line i old new filled n x e
    → own + get_or new e 0 ≡ get_or line (e + 1) 0 →
    Filled c tails loads line (i + 1) new (max filled own) (max n (c * x.head + max filled own))
filled_more c tails loads line i old new filled n x e own s is =
    next_filled c tails loads line i old new filled n (max filled own) x s.next (s.fills.count ∙ s.next.was.count)
    (new_tops c tails loads line i old new filled n x e s)
    (new_held c tails loads line i old new filled n x e own s is)
    (new_over c tails loads line i old new filled n x e own s is)

-- ---- limits

-- the ends from a slot on are within the limits
end_small : (c : ℕ) (tails : List ℕ) (loads : List Load) (line : List ℕ) (i q : ℕ) → AreOnLine c tails loads line
    → q < length tails → end_from line loads i q ≤ 2005000000000000
end_small c tails loads line i q on short =
    omega (
      arith,
      line_marks c tails line on.is q short,
      product_small c (get_or tails q 0) on.few (on.low q 0 short),
      sum_by-take-le (late_work q) loads i,
      sum_small (late_work q) tails loads on.are (late_work-le q),
    )

pub filled_small : (c : ℕ) (tails : List ℕ) (loads : List Load) (line : List ℕ) (i : ℕ) (widths : List ℕ) (filled n : ℕ)
    → AreOnLine c tails loads line → i ≤ length loads → Filled c tails loads line i widths filled n
    → filled ≤ 2005000000000000
filled_small c tails loads line i widths filled n on inside s =
    ⊎_elim
    (λ (none : filled ≡ 0). omega arith)
    (λ (h : IsHeld line loads i filled).
    let index : h.index < i = h.passed in
    let lt : h.index < length loads = omega arith in
    let small : IsSmall tails h.load = subst (IsSmall tails) (sym h.at) (on.are.small h.index h.load lt) in
    omega (arith, h.within, h.late, small.rank_limit, end_small c tails loads line (h.index + 1) h.place on (omega (arith, h.late, small.rank_limit))))
    s.held

-- no work reaches the end
pub width_enough : (c : ℕ) (tails : List ℕ) (loads : List Load) (line : List ℕ) (i : ℕ) (widths : List ℕ) (filled n : ℕ)
    (x : Load) → AreOnLine c tails loads line → IsSmall tails x →
    Filled c tails loads line i widths filled n → width_before widths (x.rank - 1) + x.work < width_before widths (length widths)
width_enough c tails loads line i widths filled n x on small s =
    let some : 0 < x.rank = small.some_tail in
    let rank : x.rank ≤ length tails = small.rank_limit in
    let work : x.work ≤ MAX_WORK = small.work_limit in
    let own = s.tops (x.rank - 1) (omega arith) in
    let last = s.tops (length tails) (omega arith) in
    let at : width_before widths (length widths) ≡ width_before widths (length tails) = ap (width_before widths) s.count in
    omega (
      arith,
      own.reached,
      own.early,
      end_small c tails loads line i own.place on (omega (arith, own.early)),
      last.above (length tails) (omega arith),
      line_far c tails line on.is,
    )
