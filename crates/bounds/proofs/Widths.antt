-- Widths of slots, some of which are filled.
use Rattle.std.proofs.Common.{◌≡◌, ap, ◌∙◌, ℕ, zero, suc, ◌+◌, ◌<◌, ◌≤◌, ⊎_elim, ◌-◌, List, length, get_or, take, arith, add-zero}
use Rattle.std.specs.List.{sum_by}
use Rattle.std.proofs.Math.ListN.{set}
use Rattle.std.proofs.Math.Seq.{take-set-lt}
use Rattle.std.proofs.lemmas.Bool.{cases_lt}
use Rattle.std.proofs.lemmas.List.{take-set-le, get_or-take, length-take-le, get_or-set_same, length-set}
use Rattle.std.proofs.lemmas.List.Sums.{sum_by_more, sum_by-set}
use Rattle.bounds.specs.Loads.{width_before, IsFilled}

pub width_more : (xs : List ℕ) (q : ℕ) → q < length xs → width_before xs (q + 1) ≡ width_before xs q + get_or xs q 0
width_more xs q lt = sum_by_more (λ r. r) xs q 0 lt

width_set_before : (xs : List ℕ) (i v q : ℕ) → q ≤ i → width_before (set xs i v) q ≡ width_before xs q
width_set_before xs i v q early = ap (sum_by (λ r. r)) (take-set-le q xs i v early)

width_set_after : (xs : List ℕ) (i v q : ℕ) → i < q → q ≤ length xs → width_before (set xs i v) q + get_or xs i 0 ≡ width_before xs q + v
width_set_after xs i v q late short =
    let long : length (take q xs) ≡ q = length-take-le q xs short in
    let within : i < length (take q xs) = omega arith in
    let at : get_or (take q xs) i 0 ≡ get_or xs i 0 = get_or-take q xs i 0 late in
    let moved : width_before (set xs i v) q ≡ sum_by (λ r. r) (set (take q xs) i v) = ap (sum_by (λ r. r)) (take-set-lt q xs i v late) in
    omega (arith, sum_by-set (λ r. r) (take q xs) i v 0 within)

-- widths that are written place by place
pub widths_more : (line widths : List ℕ) (i : ℕ) → i < length widths → get_or line i 0 ≤ get_or line (i + 1) 0
    → ((q : ℕ) → q ≤ i → get_or line 0 0 + width_before widths q ≡ get_or line q 0) →
    (q : ℕ) → q ≤ i + 1 → get_or line 0 0 + width_before (set widths i (get_or line (i + 1) 0 - get_or line i 0)) q ≡ get_or line q 0
widths_more line widths i lt up at q early =
    let width : ℕ = get_or line (i + 1) 0 - get_or line i 0 in
    let new : List ℕ = set widths i width in
    let long : length new ≡ length widths = length-set widths i width in
    ⊎_elim
    (λ (before : q < i + 1). omega (arith, width_set_before widths i width q (omega arith), at q (omega arith)))
    (λ (last : i + 1 ≤ q).
    let is : q ≡ i + 1 = omega arith in
    let more : width_before new (i + 1) ≡ width_before new i + get_or new i 0 = width_more new i (omega arith) in
    rw is (omega (arith, more, width_set_before widths i width i (omega arith), get_or-set_same widths i width 0 lt, at i (omega arith))))
    (cases_lt q (i + 1))

-- more slots are wider
width_up_by : (xs : List ℕ) (a d : ℕ) → a + d ≤ length xs → width_before xs a ≤ width_before xs (a + d)
width_up_by xs a zero short = let same : width_before xs (a + 0) ≡ width_before xs a = ap (width_before xs) (add-zero a) in omega arith
width_up_by xs a (suc d) short =
    let rest : width_before xs a ≤ width_before xs (a + d) = width_up_by xs a d (omega arith) in
    let more : width_before xs (a + d + 1) ≡ width_before xs (a + d) + get_or xs (a + d) 0 = width_more xs (a + d) (omega arith) in
    let at : width_before xs (a + suc d) ≡ width_before xs (a + d + 1) = ap (width_before xs) (omega arith) in
    omega arith

pub width_up : (xs : List ℕ) (a b : ℕ) → a ≤ b → b ≤ length xs → width_before xs a ≤ width_before xs b
width_up xs a b up short =
    let at : width_before xs (a + (b - a)) ≡ width_before xs b = ap (width_before xs) (omega arith) in
    omega (arith, width_up_by xs a (b - a) (omega arith))

-- ---- a walk from slot start on with some work, of which some is left at slot place

pub record IsFilling (start work place left : ℕ) (old new : List ℕ) : Type 0 where
  pub count : length new ≡ length old
  pub late : start ≤ place
  pub before : (q : ℕ) → q ≤ start → width_before new q ≡ width_before old q
  pub full : (q : ℕ) → start ≤ q → q ≤ place → width_before new q ≡ width_before old start
  pub within : (q : ℕ) → start ≤ q → q ≤ place → width_before old q ≤ width_before old start + work
  pub after : (q : ℕ) → place ≤ q → q ≤ length old → width_before new q + work ≡ width_before old q + left

-- a slot is filled up
pub filling_more : (start work place left : ℕ) (old mid : List ℕ) → IsFilling start work place left old mid → place < length old → get_or mid place 0 ≤ left →
    IsFilling start work (place + 1) (left - get_or mid place 0) old (set mid place 0)
filling_more start work place left old mid s short fits =
    let new : List ℕ = set mid place 0 in
    let long : length new ≡ length mid = length-set mid place 0 in
    let count : length mid ≡ length old = s.count in
    let late : start ≤ place = s.late in
    let here : get_or new place 0 ≡ 0 = get_or-set_same mid place 0 0 (omega arith) in
    let before : width_before new place ≡ width_before old start = width_set_before mid place 0 place (omega arith) ∙ s.full place late (omega arith) in
    let next : width_before new (place + 1) ≡ width_before old start = omega (arith, width_more new place (omega arith)) in
    let full_to : (q : ℕ) → place < q → q ≤ place + 1 → width_before new q ≡ width_before old start = λ q l h.
    let same : q ≡ place + 1 = omega arith in ap (width_before new) same ∙ next in
    let after_to : (q : ℕ) → place < q → q ≤ length old → width_before new q + work ≡ width_before old q + (left - get_or mid place 0) = λ q l h.
    omega (arith, width_set_after mid place 0 q l (omega arith), s.after q (omega arith) h) in
    record {
      count = long ∙ count;
      late = omega arith;
      before = λ q l. width_set_before mid place 0 q (omega arith) ∙ s.before q l;
      full = λ q l h.
          ⊎_elim
          (λ (above : place < q). full_to q above h)
          (λ (below : q ≤ place). width_set_before mid place 0 q below ∙ s.full q l below)
          (cases_lt place q);
      within = λ q l h.
          ⊎_elim
          (λ (above : place < q). omega (arith, full_to q above h, after_to q above (omega arith)))
          (λ (below : q ≤ place). s.within q l below)
          (cases_lt place q);
      after = λ q l h. after_to q (omega arith) h;
    }

-- the walk hasn't come to the end
pub filling_inside : (start work place left : ℕ) (old new : List ℕ) → IsFilling start work place left old new
    → width_before old start + work < width_before old (length old) → place ≤ length old → place < length old
filling_inside start work place left old new s enough limit =
    ⊎_elim
    (λ (below : place < length old). below)
    (λ (end : length old ≤ place).
    let same : place ≡ length old = omega arith in
    let late : start ≤ place = s.late in
    absurd (omega (arith, s.full (length old) (omega arith) (omega arith), s.after (length old) (omega arith) (omega arith))))
    (cases_lt place (length old))

-- the last slot takes what is left
pub filling_end : (start work place left : ℕ) (old mid : List ℕ) → IsFilling start work place left old mid → place < length old → left < get_or mid place 0 →
    IsFilled start work place old (set mid place (get_or mid place 0 - left))
filling_end start work place left old mid s short width =
    let new : List ℕ = set mid place (get_or mid place 0 - left) in
    let long : length new ≡ length mid = length-set mid place (get_or mid place 0 - left) in
    let count : length mid ≡ length old = s.count in
    let late : start ≤ place = s.late in
    let after_to : (q : ℕ) → place < q → q ≤ length old → width_before new q + work ≡ width_before old q = λ q l h.
    omega (arith, width_set_after mid place (get_or mid place 0 - left) q l (omega arith), s.after q (omega arith) h) in
    let up_to : (q : ℕ) → q ≤ place → width_before new q ≡ width_before mid q = λ q l. width_set_before mid place (get_or mid place 0 - left) q l in
    record {
      count = long ∙ count;
      late = late;
      inside = short;
      before = λ q l. up_to q (omega arith) ∙ s.before q l;
      full = λ q l h. up_to q h ∙ s.full q l h;
      within = s.within;
      after = after_to;
      beyond = λ q l h.
          let here : get_or new place 0 ≡ get_or mid place 0 - left = get_or-set_same mid place (get_or mid place 0 - left) 0 (omega arith) in
          omega (
            arith,
            width_up new (place + 1) q (omega arith) (omega arith),
            width_more new place (omega arith),
            up_to place (omega arith),
            s.full place late (omega arith),
          );
    }
