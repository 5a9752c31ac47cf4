-- The laws of rows that stand one after another in one list of cells.
use Rattle.std.proofs.Common.{◌≡◌, ◌≢◌, refl, sym, ◌∙◌, ap, subst, ℕ, ◌+◌, ◌*◌, ◌-◌, ◌<◌, ◌≤◌, Option, None, Some, true, ◌⊎◌, inl, inr, arith, ℤ, pos, ◌+ℤ◌}
use Rattle.std.proofs.Common.{◌≤ℤ◌, ◌<ℤ◌, List, [], ◌++◌, length, get_or, set, take, drop, get_or-set_same, get_or-set_other, suc, ◌/◌, replicate}
use Rattle.std.proofs.Common.{length-append, length-drop, neg_ℤ, int_lt, if◌then◌else◌, IfSome, FitsSigned}
use Rattle.std.proofs.Math.Nat.{mul-le-mul_right, suc-mul}
use Rattle.std.proofs.lemmas.Nat.{div-mul-add}
use Rattle.std.proofs.Math.ListN.{get_or-eq_default}
use Rattle.std.proofs.lemmas.List.{get_or-append_right, get_or_append_left, get_or-take, get_or-drop, length-take-le, get_or_default, get_or-replicate}
use Rattle.std.proofs.lemmas.List.{drop-drop, length-replicate}
use borrow.Rule.Slice.PartMut.{put_mid}
use Rattle.std.proofs.lemmas.List.Elements.{All-from_get_or}
use Rattle.std.specs.Int.{w32}
use Rattle.std.proofs.lemmas.Bool.{cases_eq, cases_lt}
use Rattle.std.proofs.lemmas.Int.{ints}
use Rattle.std.proofs.lemmas.List.FromFn.{get_or-map-range_with_len, length-map-range_with_len}
use Rattle.network.specs.declared.parts.Lag.{Lag}
use Rattle.network.specs.Walk.{entry, Rows}
use Rattle.longest_path.specs.Matrix.{greater, joined, IsSquare, IsRaised, IsRelaxed, IsRow, IsRowRelaxed, HasSmallSums, nothing, weight_of, weight_at}
use Rattle.longest_path.specs.Matrix.{placed_at, row_of, rows_of}
use Rattle.longest_path.proofs.Reach.{greater_none}
use Rattle.network.specs.declared.limits.TheConstants.{MAX_LAG_WEIGHT, MAX_WALK_WEIGHT}
use Rattle.network.specs.Problem.{IsWithin}
use Rattle.longest_path.specs.declared.grid.TheConstants.{MAX_FIRST_WEIGHT, MAX_WAY_WEIGHT}

pub length-rows_of : (n : ℕ) (cells : List ℤ) → length (rows_of n cells) ≡ n
length-rows_of n cells = length-map-range_with_len (row_of n cells) 0 n

-- the places of a square
pub place_low : (n a b : ℕ) → a < n → b < n → a * n + b < n * n
place_low n a b la lb =
    let up : suc a * n ≤ n * n = mul-le-mul_right n la in
    let more : suc a * n ≡ a * n + n = suc-mul a n in
    omega arith

pub row_low : (n a : ℕ) → a < n → a * n + n ≤ n * n
row_low n a la =
    let up : suc a * n ≤ n * n = mul-le-mul_right n la in
    let more : suc a * n ≡ a * n + n = suc-mul a n in
    omega arith

pub place_row : (n a b c d : ℕ) → b < n → d < n → a * n + b ≡ c * n + d → a ≡ c
place_row n a b c d lb ld e = sym (div-mul-add a n b lb) ∙ ap (λ k. k / n) e ∙ div-mul-add c n d ld

pub place_apart : (n a b c d : ℕ) → b < n → d < n → ((a ≡ c) → (b ≡ d) → ⊥) → c * n + d ≢ a * n + b
place_apart n a b c d lb ld ne = λ e.
    let p : a ≡ c = place_row n a b c d lb ld (sym e) in
    let q : c * n ≡ a * n = ap (λ k. k * n) (sym p) in
    ne p (omega arith)

pub IsSquare-rows_of : (n : ℕ) (cells : List ℤ) → IsSquare n (rows_of n cells)
IsSquare-rows_of n cells = record {
  rows_long = length-rows_of n cells;
  columns_long = All-from_get_or (λ (r : List (Option ℤ)). length r ≡ n) (rows_of n cells) [] (λ i lt.
      let low : i < n = rw (length-rows_of n cells) at lt in
      let at : get_or (rows_of n cells) i [] ≡ row_of n cells i = get_or-map-range_with_len (row_of n cells) 0 n i i [] low (omega arith) in
      rw at (length-map-range_with_len (λ k. weight_at cells (i * n + k)) 0 n));
}

pub entry-rows_of : (n a b : ℕ) (cells : List ℤ) → a < n → b < n → entry (rows_of n cells) a b ≡ weight_at cells (a * n + b)
entry-rows_of n a b cells la lb =
    ap (λ (r : List (Option ℤ)). get_or r b None) (get_or-map-range_with_len (row_of n cells) 0 n a a [] la (omega arith))
    ∙ get_or-map-range_with_len (λ k. weight_at cells (a * n + k)) 0 n b b None lb (omega arith)

pub entry_far_row : (n a b : ℕ) (cells : List ℤ) → n ≤ a → entry (rows_of n cells) a b ≡ None
entry_far_row n a b cells far =
    let long : length (rows_of n cells) ≡ n = length-rows_of n cells in
    let le : length (rows_of n cells) ≤ a = omega arith in
    ap (λ (r : List (Option ℤ)). get_or r b None) (get_or-eq_default (rows_of n cells) [] le)

pub entry_far_column : (n a b : ℕ) (cells : List ℤ) → n ≤ b → entry (rows_of n cells) a b ≡ None
entry_far_column n a b cells far = elim (cases_lt a n) [
  | inl la ↦
      let at : get_or (rows_of n cells) a [] ≡ row_of n cells a = get_or-map-range_with_len (row_of n cells) 0 n a a [] la (omega arith) in
      let long : length (row_of n cells a) ≡ n = length-map-range_with_len (λ k. weight_at cells (a * n + k)) 0 n in
      let le : length (row_of n cells a) ≤ b = omega arith in
      ap (λ (r : List (Option ℤ)). get_or r b None) at ∙ get_or-eq_default (row_of n cells a) None le
  | inr ga ↦ entry_far_row n a b cells ga
]

pub weight_at_far : (cells : List ℤ) (k : ℕ) → length cells ≤ k → weight_at cells k ≡ None
weight_at_far cells k far = ap weight_of (get_or-eq_default cells nothing far)

-- two lists of cells that agree at the places of an entry
pub same_entry : (n a b : ℕ) (old new : List ℤ)
    → (a < n → b < n → get_or new (a * n + b) nothing ≡ get_or old (a * n + b) nothing)
    → entry (rows_of n new) a b ≡ entry (rows_of n old) a b
same_entry n a b old new same = elim (cases_lt a n) [
  | inl la ↦ elim (cases_lt b n) [
    | inl lb ↦ entry-rows_of n a b new la lb ∙ ap weight_of (same la lb) ∙ sym (entry-rows_of n a b old la lb)
    | inr gb ↦ entry_far_column n a b new gb ∙ sym (entry_far_column n a b old gb)
  ]
  | inr ga ↦ entry_far_row n a b new ga ∙ sym (entry_far_row n a b old ga)
]

pub raised_cell : (n : ℕ) (e : Lag) (w : ℤ) (cells : List ℤ) → length cells ≡ n * n → e.from < n → e.to < n →
    weight_of w ≡ greater (weight_at cells (e.from * n + e.to)) (Some e.weight) → IsRaised e (rows_of n cells) (rows_of n (set cells (e.from * n + e.to) w))
raised_cell n e w cells whole lf lt new =
    let low : e.from * n + e.to < n * n = place_low n e.from e.to lf lt in
    let inside : e.from * n + e.to < length cells = omega arith in
    record {
      at = entry-rows_of n e.from e.to (set cells (e.from * n + e.to) w) lf lt
          ∙ ap weight_of (get_or-set_same cells (e.from * n + e.to) w nothing inside) ∙ new
          ∙ ap (λ (o : Option ℤ). greater o (Some e.weight)) (sym (entry-rows_of n e.from e.to cells lf lt));
      others = λ a b ne. same_entry n a b cells (set cells (e.from * n + e.to) w)
          (λ la lb. get_or-set_other cells (e.from * n + e.to) (a * n + b) w nothing (place_apart n e.from e.to a b lt lb ne));
    }

pub outside_row : (n a x b : ℕ) → b < n → x ≢ a → (x * n + b < a * n) ⊎ (a * n + n ≤ x * n + b)
outside_row n a x b lb ne = elim (cases_lt x a) [
  | inl less ↦
      let up : suc x * n ≤ a * n = mul-le-mul_right n less in
      let more : suc x * n ≡ x * n + n = suc-mul x n in
      inl (omega arith)
  | inr ge ↦
      let less : a < x = omega arith in
      let up : suc a * n ≤ x * n = mul-le-mul_right n less in
      let more : suc a * n ≡ a * n + n = suc-mul a n in
      inr (omega arith)
]

pub relaxed_rows : (n a : ℕ) (first : ℤ) (via old new : List ℤ) → a < n → length via ≤ n
    → IsRowRelaxed n a first via old new → IsRelaxed a first via (rows_of n old) (rows_of n new)
relaxed_rows n a first via old new la wide r = record {
  at = λ b. elim (cases_lt b n) [
    | inl lb ↦ entry-rows_of n a b new la lb ∙ r.inside b lb
        ∙ ap (λ (o : Option ℤ). greater o (joined (Some first) (weight_at via b))) (sym (entry-rows_of n a b old la lb))
    | inr gb ↦
        let far : length via ≤ b = omega arith in
        rw (entry_far_column n a b new gb, entry_far_column n a b old gb, weight_at_far via b far) refl
  ];
  others = λ x b ne. same_entry n x b old new (λ lx lb. elim (outside_row n a x b lb ne) [ inl p ↦ r.before (x * n + b) p | inr p ↦ r.after (x * n + b) p ]);
}

-- a list whose part is written anew, place by place
pub record IsSpliced (A : Type 0) (z : A) (start n : ℕ) (old part new : List A) : Type 0 where
  pub inside : (k : ℕ) → k < n → get_or new (start + k) z ≡ get_or part k z
  pub before : (k : ℕ) → k < start → get_or new k z ≡ get_or old k z
  pub after : (k : ℕ) → start + n ≤ k → get_or new k z ≡ get_or old k z

pub spliced : (A : Type 0) (z : A) (start n : ℕ) (old part new : List A) → start + n ≤ length old → length part ≡ n
    → new ≡ take start old ++ (part ++ drop (start + n) old) → IsSpliced A z start n old part new
spliced A z start n old part new low long is = record {
  inside = λ k lk.
      ap (λ (l : List A). get_or l (start + k) z) is
      ∙ get_or-append_right (take start old) (part ++ drop (start + n) old) start (start + k) z front (omega arith)
      ∙ ap (λ i. get_or (part ++ drop (start + n) old) i z) (gone k)
      ∙ get_or_append_left part (drop (start + n) old) z k (omega arith);
  before = λ k lk.
      let here : k < length (take start old) = omega (arith, front) in
      ap (λ (l : List A). get_or l k z) is
      ∙ get_or_append_left (take start old) (part ++ drop (start + n) old) z k here
      ∙ get_or-take start old k z lk;
  after = λ k lk.
      let past : n ≤ k - start = omega arith in
      let back : start + n + (k - start - n) ≡ k = omega arith in
      ap (λ (l : List A). get_or l k z) is
      ∙ get_or-append_right (take start old) (part ++ drop (start + n) old) start k z front (omega arith)
      ∙ get_or-append_right part (drop (start + n) old) n (k - start) z long past
      ∙ get_or-drop (start + n) old (k - start - n) z ∙ ap (λ i. get_or old i z) back;
}
  where
    front : length (take start old) ≡ start
    front = length-take-le start old (omega arith)

    gone : (k : ℕ) → start + k - start ≡ k
    gone k = omega arith

pub length-placed_at : (from : ℕ) (cells : List ℤ) → length (placed_at from cells) ≡ from + length cells
length-placed_at from cells = length-append (replicate from nothing) cells ∙ ap (λ k. k + length cells) (length-replicate from nothing)

pub placed_inside : (from k : ℕ) (cells : List ℤ) → weight_at (placed_at from cells) (from + k) ≡ weight_at cells k
placed_inside from k cells =
    let gone : from + k - from ≡ k = omega arith in
    ap weight_of (get_or-append_right (replicate from nothing) cells from (from + k) nothing
    (length-replicate from nothing) (omega arith) ∙ ap (λ i. get_or cells i nothing) gone)

pub placed_before : (from k : ℕ) (cells : List ℤ) → k < from → weight_at (placed_at from cells) k ≡ None
placed_before from k cells lt =
    let low : k < length (replicate from nothing) = omega (arith, length-replicate from nothing) in
    ap weight_of (get_or_append_left (replicate from nothing) cells nothing k low ∙ get_or-replicate from k nothing nothing lt)

pub placed_after : (from k : ℕ) (cells : List ℤ) → from + length cells ≤ k → weight_at (placed_at from cells) k ≡ None
placed_after from k cells far = weight_at_far (placed_at from cells) k (omega (arith, length-placed_at from cells))

-- a column on either side of the cells, or one of theirs
pub column_cases : (from count b : ℕ) → ((b < from) ⊎ (from + count ≤ b)) ⊎ ((k : ℕ) × (k < count) × (b ≡ from + k))
column_cases from count b = elim (cases_lt b from) [
  | inl before ↦ inl (inl before)
  | inr ge ↦ elim (cases_lt b (from + count)) [
    | inl lt ↦ inr (b - from, omega arith, omega arith)
    | inr after ↦ inl (inr after)
  ]
]

pub placed_outside : (from b : ℕ) (cells : List ℤ) → ((b < from) ⊎ (from + length cells ≤ b)) → weight_at (placed_at from cells) b ≡ None
placed_outside from b cells out = elim out [ inl before ↦ placed_before from b cells before | inr after ↦ placed_after from b cells after ]

-- the cells that were relaxed, and those on either side of them
spliced_row : (n a from : ℕ) (first : ℤ) (via old part new : List ℤ) → a * n + n ≤ length old → from + length via ≤ n → length part ≡ length via →
    ((k : ℕ) → weight_at part k ≡ greater (weight_at (take (length via) (drop (a * n + from) old)) k) (joined (Some first) (weight_at via k))) →
    new ≡ take (a * n + from) old ++ (part ++ drop (a * n + from + length via) old) → IsRowRelaxed n a first (placed_at from via) old new
spliced_row n a from first via old part new low inside long through is = record {
  inside = λ k lk. elim (column_cases from (length via) k) [
    | inl out ↦ rw (placed_outside from k via out, greater_none (weight_at old (a * n + k)))
        (ap weight_of (elim out [ inl before ↦ cells.before (a * n + k) (omega arith) | inr after ↦ cells.after (a * n + k) (omega arith) ]))
    | inr p ↦
        let at : a * n + from + p.0 ≡ a * n + k = omega (arith, p.2) in
        let P : ℕ → Type 0 = λ i. weight_at new i ≡ greater (weight_at old i) (joined (Some first) (weight_at via p.0)) in
        rw (p.2, placed_inside from p.0 via) (rw p.2 at (subst P at (each p.0 p.1)))
  ];
  before = λ k lk. cells.before k (omega arith);
  after = λ k lk. cells.after k (omega arith);
}
  where
    cells : IsSpliced ℤ nothing (a * n + from) (length via) old part new
    cells = spliced ℤ nothing (a * n + from) (length via) old part new (omega arith) long is

    each : (k : ℕ) → k < length via → weight_at new (a * n + from + k) ≡ greater (weight_at old (a * n + from + k)) (joined (Some first) (weight_at via k))
    each k lk =
        let was : get_or (take (length via) (drop (a * n + from) old)) k nothing ≡ get_or old (a * n + from + k) nothing =
        get_or-take (length via) (drop (a * n + from) old) k nothing lk ∙ get_or-drop (a * n + from) old k nothing in
        ap weight_of (cells.inside k lk) ∙ through k ∙ ap (λ (z : ℤ). greater (weight_of z) (joined (Some first) (weight_at via k))) was

pub copied_row : (n a : ℕ) (cells row : List ℤ) → length cells ≡ n * n → a < n → row ≡ take n (drop (a * n) cells) → IsRow a (rows_of n cells) row
copied_row n a cells row whole la is =
    let low : a * n + n ≤ n * n = row_low n a la in
    let rest : length (drop (a * n) cells) ≡ length cells - a * n = length-drop (a * n) cells in
    let wide : length row ≡ n = ap length is ∙ length-take-le n (drop (a * n) cells) (omega arith) in
    record {
      long = wide ∙ sym (length-rows_of n cells);
      says = λ b. elim (cases_lt b n) [
        | inl lb ↦ ap (λ (l : List ℤ). weight_at l b) is
            ∙ ap weight_of (get_or-take n (drop (a * n) cells) b nothing lb ∙ get_or-drop (a * n) cells b nothing)
            ∙ sym (entry-rows_of n a b cells la lb)
        | inr gb ↦ let far : length row ≤ b = omega arith in weight_at_far row b far ∙ sym (entry_far_column n a b cells gb)
      ];
    }

pub size_of : (n : ℕ) (cells : List ℤ) (rows : Rows) → rows_of n cells ≡ rows → n ≡ length rows
size_of n cells rows e = sym (length-rows_of n cells) ∙ ap length e

pub square_of : (n : ℕ) (cells : List ℤ) (rows : Rows) → rows_of n cells ≡ rows → IsSquare (length rows) rows
square_of n cells rows e =
    let P : Rows → Type 0 = λ r. IsSquare (length r) r in
    subst P e (let Q : ℕ → Type 0 = λ m. IsSquare m (rows_of n cells) in subst Q (sym (length-rows_of n cells)) (IsSquare-rows_of n cells))

pub still_square : (n : ℕ) (cells new : List ℤ) (rows : Rows) → rows_of n cells ≡ rows → IsSquare (length rows) (rows_of n new)
still_square n cells new rows e = let Q : ℕ → Type 0 = λ m. IsSquare m (rows_of n new) in subst Q (size_of n cells rows e) (IsSquare-rows_of n new)

pub read_cell : (n a b p : ℕ) (cells : List ℤ) (rows : Rows) (z : ℤ) → rows_of n cells ≡ rows → a < n → b < n
    → p ≡ a * n + b → p < length cells → z ≡ get_or cells p z → weight_of z ≡ entry rows a b
read_cell n a b p cells rows z view la lb at low is =
    ap weight_of (is ∙ get_or_default cells p z nothing low ∙ ap (λ i. get_or cells i nothing) at)
    ∙ sym (entry-rows_of n a b cells la lb) ∙ ap (λ (r : Rows). entry r a b) view

if_some : (P : ℤ → Type 0) (o : Option ℤ) → ((y : ℤ) → o ≡ Some y → P y) → IfSome o P
if_some P None h = tt
if_some P (Some y) h = h y refl

pub small_sum : (first : ℤ) (via : List ℤ) (b : ℕ) → b < length via → HasSmallSums first via
    → IfSome (weight_of (get_or via b (pos 0))) (λ y. IsWithin MAX_WAY_WEIGHT (first +ℤ y))
small_sum first via b low h =
    let same : get_or via b (pos 0) ≡ get_or via b nothing = get_or_default via b (pos 0) nothing low in
    if_some (λ y. IsWithin MAX_WAY_WEIGHT (first +ℤ y)) (weight_of (get_or via b (pos 0))) (λ y e. h b y (ap weight_of (sym same) ∙ e))

-- the cells below b are relaxed
pub record IsPartlyRelaxed (b : ℕ) (first : ℤ) (via old row : List ℤ) : Type 0 where
  pub done : (k : ℕ) → k < b → weight_at row k ≡ greater (weight_at old k) (joined (Some first) (weight_at via k))
  pub rest : (k : ℕ) → b ≤ k → weight_at row k ≡ weight_at old k

pub partly_more : (b : ℕ) (first z : ℤ) (via old row : List ℤ) → IsPartlyRelaxed b first via old row → b < length row → b < length via →
    weight_of z ≡ greater (weight_of (get_or row b (pos 0))) (joined (Some first) (weight_of (get_or via b (pos 0))))
    → IsPartlyRelaxed (b + 1) first via old (set row b z)
partly_more b first z via old row h low wide new = record {
  done = λ k less. elim (cases_eq k b) [
    | inl e ↦ rw e (ap weight_of (get_or-set_same row b z nothing low) ∙ new
        ∙ ap (λ (y : ℤ). greater (weight_of y) (joined (Some first) (weight_of (get_or via b (pos 0))))) (get_or_default row b (pos 0) nothing low)
        ∙ ap (λ (y : ℤ). greater (weight_at row b) (joined (Some first) (weight_of y))) (get_or_default via b (pos 0) nothing wide)
        ∙ ap (λ (o : Option ℤ). greater o (joined (Some first) (weight_at via b))) (h.rest b (omega arith)))
    | inr ne ↦ ap weight_of (get_or-set_other row b k z nothing ne) ∙ h.done k (omega arith)
  ];
  rest = λ k more. let ne : k ≢ b = omega arith in ap weight_of (get_or-set_other row b k z nothing ne) ∙ h.rest k (omega arith);
}

pub relaxed_part : (n a from start count : ℕ) (first : ℤ) (via old part : List ℤ) → start ≡ a * n + from
    → count ≡ length via → a * n + n ≤ length old → from + length via ≤ n → length part ≡ length via →
    ((k : ℕ) → weight_at part k ≡ greater (weight_at (take count (drop start old)) k)
    (joined (Some first) (weight_at via k)))
    → IsRowRelaxed n a first (placed_at from via) old (put_mid start count old part)
relaxed_part n a from start count first via old part at all low inside long through =
    let same : (k : ℕ) → weight_at part k ≡ greater (weight_at (take (length via) (drop (a * n + from) old)) k)
    (joined (Some first) (weight_at via k)) = rw (at, all) at through in
    let is : put_mid (a * n + from) (length via) old part ≡ take (a * n + from) old ++
    (part ++ drop (a * n + from + length via) old) =
    ap (λ t. take (a * n + from) old ++ (part ++ t)) (drop-drop (length via) (a * n + from) old) in
    rw (at, all) (spliced_row n a from first via old part (put_mid (a * n + from) (length via) old part) low inside long same is)

pub copied_view : (n a : ℕ) (cells row : List ℤ) (rows : Rows) → rows_of n cells ≡ rows → length cells ≡ n * n → a < n
    → row ≡ take n (drop (a * n) cells) → IsRow a rows row
copied_view n a cells row rows view whole la is = let P : Rows → Type 0 = λ r. IsRow a r row in subst P view (copied_row n a cells row whole la is)

pub relaxed_view : (n a : ℕ) (first : ℤ) (via old new : List ℤ) (rows : Rows) → rows_of n old ≡ rows → a < n
    → length via ≤ n → IsRowRelaxed n a first via old new → IsRelaxed a first via rows (rows_of n new)
relaxed_view n a first via old new rows view la wide r = let P : Rows → Type 0 = λ r.
    IsRelaxed a first via r (rows_of n new) in subst P view (relaxed_rows n a first via old new la wide r)

some_light : (w : ℤ) → IsWithin MAX_LAG_WEIGHT w → weight_of w ≡ Some w
some_light w light =
    let low : neg_ℤ MAX_LAG_WEIGHT ≤ℤ w = light.at_least in
    let above : nothing <ℤ w = omega (arith, ints) in
    ap (λ t. if t then Some w else None) (int_lt-yes nothing w above)
  where
    int_lt-yes : (x y : ℤ) → x <ℤ y → int_lt x y ≡ true
    int_lt-yes x y lt = grind (arith, ints)

pub raised_view : (n p : ℕ) (e : Lag) (w z : ℤ) (cells : List ℤ) (rows : Rows) → rows_of n cells ≡ rows
    → length cells ≡ n * n → e.from < n → e.to < n → p ≡ e.from * n + e.to → IsWithin MAX_LAG_WEIGHT e.weight →
    z ≡ get_or cells p z → weight_of w ≡ greater (weight_of z) (weight_of e.weight) → IsRaised e rows (rows_of n (set cells p w))
raised_view n p e w z cells rows view whole lf lt at light read new =
    let low : e.from * n + e.to < n * n = place_low n e.from e.to lf lt in
    let inside : p < length cells = omega arith in
    let cell : weight_of z ≡ weight_at cells (e.from * n + e.to) =
    ap weight_of (read ∙ get_or_default cells p z nothing inside ∙ ap (λ i. get_or cells i nothing) at) in
    let is : weight_of w ≡ greater (weight_at cells (e.from * n + e.to)) (Some e.weight) = new
    ∙ ap (λ (o : Option ℤ). greater o (weight_of e.weight)) cell
    ∙ ap (λ (o : Option ℤ). greater (weight_at cells (e.from * n + e.to)) o) (some_light e.weight light) in
    let P : Rows → Type 0 = λ r. IsRaised e r (rows_of n (set cells p w)) in
    subst P view (rw at (raised_cell n e w cells whole lf lt is))

pub nothing_there : (n count : ℕ) (cells : List ℤ) → cells ≡ replicate count nothing → (a b : ℕ) → entry (rows_of n cells) a b ≡ None
nothing_there n count cells is a b = elim (cases_lt a n) [
  | inl la ↦ elim (cases_lt b n) [
    | inl lb ↦ entry-rows_of n a b cells la lb ∙ ap weight_of (each (a * n + b))
    | inr gb ↦ entry_far_column n a b cells gb
  ]
  | inr ga ↦ entry_far_row n a b cells ga
]
  where
    each : (k : ℕ) → get_or cells k nothing ≡ nothing
    each k = elim (cases_lt k count) [
      | inl lt ↦ ap (λ (l : List ℤ). get_or l k nothing) is ∙ get_or-replicate count k nothing nothing lt
      | inr ge ↦
          let long : length cells ≡ count = ap length is ∙ length-replicate count nothing in
          get_or-eq_default cells nothing (omega arith)
    ]

-- the entries (k, k) below a are 0, and no other entry is there
pub record IsPartlyWithoutArcs (n a : ℕ) (rows : Rows) : Type 0 where
  pub square : IsSquare n rows
  pub done : (k : ℕ) → k < a → entry rows k k ≡ Some (pos 0)
  pub rest : (k : ℕ) → a ≤ k → entry rows k k ≡ None
  pub apart : (j k : ℕ) → j ≢ k → entry rows j k ≡ None

pub walk_fits : (w : ℤ) → IsWithin MAX_WALK_WEIGHT w → FitsSigned w32 w
walk_fits w light = omega (arith, ints)

pub light_fits : (w : ℤ) → IsWithin MAX_LAG_WEIGHT w → FitsSigned w32 w
light_fits w light = omega (arith, ints)

pub small_fits : (w : ℤ) → IsWithin MAX_FIRST_WEIGHT w → FitsSigned w32 w
small_fits w small = omega (arith, ints)
