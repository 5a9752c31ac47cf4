-- The tables of a block, and ways over one arc beside its matrix.
use Rattle.std.proofs.Common.{◌≡◌, refl, sym, ◌∙◌, ap, ℕ, ◌<◌, arith, ℤ, pos, ◌+ℤ◌, ◌≤ℤ◌, List, [], ◌∷◌, ◌++◌, map, length, get_or, Option, None, Some, Vec}
use Rattle.std.proofs.Common.{Global}
use Rattle.std.specs.List.{Contains, range_with_len}
use Rattle.std.specs.Option.{unwrap_or}
use Rattle.std.proofs.lemmas.Bool.{ne_eqb}
use Rattle.std.proofs.lemmas.List.{length-map, get_or-map}
use Rattle.std.proofs.lemmas.List.FromFn.{get_or-map-range_with_len, length-map-range_with_len}
use Rattle.std.proofs.lemmas.List.Elements.{Contains-append_left, Contains-append_right, All-from_get_or}
use Rattle.network.specs.declared.parts.Lag.{Lag}
use Rattle.network.specs.Schedule.{start}
use Rattle.network.specs.Walk.{Rows, entry}
use Rattle.longest_path.specs.Insert.{arc_of}
use Rattle.longest_path.specs.Matrix.{IsFull, IsSquare, greater}
use Rattle.longest_path.proofs.Bound.{same_rows}
use Rattle.lemma_proof.specs.Implied.{Implies, ImpliesWith}
use Rattle.lemma_proof.specs.Heads.{IsLight, table_rows}
use Rattle.lemma_proof.specs.Tables.{cell, row_cells, column_cells}
use Rattle.lemma_proof.specs.Block.{seen}
use Rattle.lemma_proof.specs.Halves.{AreConverse}
use Rattle.lemma_proof.proofs.Implying.{IsPartOf, implied_part, implied_entry, implied_arc, implied_joined, implied_lower}

-- ---- the tables of a matrix

entry_of_table : (table : List (Vec ℤ Global)) (n : ℕ) (f : ℕ → List ℤ)
    → map (λ row. row.items) table ≡ map f (range_with_len 0 n) → (a b : ℕ) → a < n → b < length (f a)
    → entry (table_rows table) a b ≡ Some (start (f a) b)
entry_of_table table n f is a b la lb =
    let many : length (map (λ row. row.items) table) ≡ n = ap length is ∙ length-map-range_with_len f 0 n in
    let low : a < length (map (λ row. row.items) table) = omega (arith, many) in
    let items : get_or (map (λ row. row.items) table) a [] ≡ f a = ap (λ (t : List (List ℤ)). get_or t a []) is
    ∙ get_or-map-range_with_len f 0 n a a [] la (omega arith) in
    let row : get_or (table_rows table) a [] ≡ map Some (f a) =
    get_or-map (λ row. map Some row) (map (λ row. row.items) table) a [] [] low ∙ ap (map Some) items in
    ap (λ (r : List (Option ℤ)). get_or r b None) row ∙ get_or-map Some (f a) b (pos 0) None lb

table_square : (table : List (Vec ℤ Global)) (n : ℕ) (f : ℕ → List ℤ)
    → map (λ row. row.items) table ≡ map f (range_with_len 0 n) → ((a : ℕ) → a < n → length (f a) ≡ n)
    → IsSquare n (table_rows table)
table_square table n f is wide =
    let many : length (map (λ row. row.items) table) ≡ n = ap length is ∙ length-map-range_with_len f 0 n in
    let all : length (table_rows table) ≡ length (map (λ row. row.items) table) = length-map (map (λ row. row.items) table) (λ row. map Some row) in
    record {
      rows_long = all ∙ many;
      columns_long = All-from_get_or (λ row. length row ≡ n) (table_rows table) [] (λ a lt.
          let la : a < n = omega (arith, lt, all, many) in
          let items : get_or (map (λ row. row.items) table) a [] ≡ f a = ap (λ (t : List (List ℤ)). get_or t a []) is
          ∙ get_or-map-range_with_len f 0 n a a [] la (omega arith) in
          let row : get_or (table_rows table) a [] ≡ map Some (f a) =
          get_or-map (λ row. map Some row) (map (λ row. row.items) table) a [] [] (omega (arith, lt, all))
          ∙ ap (map Some) items in
          ap length row ∙ length-map (f a) Some ∙ wide a la);
    }

full_cell : (rows : Rows) (a b : ℕ) → IsFull rows → a < length rows → b < length rows → entry rows a b ≡ Some (cell rows a b)
full_cell rows a b full la lb = let r = full a b la lb in r.1 ∙ ap Some (sym (ap (λ (o : Option ℤ). unwrap_or o (pos 0)) r.1))

pub rows_table : (rows : Rows) (table : List (Vec ℤ Global)) → IsSquare (length rows) rows → IsFull rows
    → map (λ row. row.items) table ≡ map (row_cells rows) (range_with_len 0 (length rows)) → table_rows table ≡ rows
rows_table rows table square full is =
    let wide : (a : ℕ) → a < length rows → length (row_cells rows a) ≡ length rows = λ a la. length-map-range_with_len (λ b. cell rows a b) 0 (length rows) in
    same_rows (length rows) (table_rows table) rows (table_square table (length rows) (row_cells rows) is wide) square (λ a b la lb.
    entry_of_table table (length rows) (row_cells rows) is a b la (rw (wide a la) lb)
    ∙ ap Some (get_or-map-range_with_len (λ c. cell rows a c) 0 (length rows) b b (pos 0) lb (omega arith))
    ∙ sym (full_cell rows a b full la lb))

-- the rows of the columns' table
pub record AreColumns (rows columns : Rows) : Type 0 where
  pub square : IsSquare (length rows) columns
  pub converse : AreConverse rows columns
  pub full : IsFull columns

pub columns_table : (rows : Rows) (table : List (Vec ℤ Global)) → IsFull rows
    → map (λ row. row.items) table ≡ map (column_cells rows) (range_with_len 0 (length rows))
    → AreColumns rows (table_rows table)
columns_table rows table full is =
    let wide : (a : ℕ) → a < length rows → length (column_cells rows a) ≡ length rows = λ a la.
    length-map-range_with_len (λ b. cell rows b a) 0 (length rows) in
    let square = table_square table (length rows) (column_cells rows) is wide in
    let long : length (table_rows table) ≡ length rows = square.rows_long in
    let entries : (a b : ℕ) → a < length rows → b < length rows → entry (table_rows table) b a ≡ entry rows a b = λ a b la lb.
    entry_of_table table (length rows) (column_cells rows) is b a lb (rw (wide b lb) la)
    ∙ ap Some (get_or-map-range_with_len (λ c. cell rows c b) 0 (length rows) a a (pos 0) la (omega arith))
    ∙ sym (full_cell rows a b full la lb) in
    record {
      square = square;
      converse = record { long = long; entries = entries };
      full = λ b a lb la. rw (entries a b (rw long at la) (rw long at lb)) (full a b (rw long at la) (rw long at lb));
    }

-- ---- a way over one arc

pub implied_over : (rows : Rows) (more : List Lag) (e over : Lag) (first last : ℤ) → Contains more over
    → IsLight (length rows) over → e.from < length rows → e.to < length rows → entry rows e.from over.from ≡ Some first
    → entry rows over.to e.to ≡ Some last → e.weight ≤ℤ ((first +ℤ over.weight) +ℤ last) →
    ImpliesWith (length rows) rows more e
implied_over rows more e over first last there light from to is_first is_last le own m =
    let sub : IsPartOf own (own ++ more) = λ f d. Contains-append_left own more f d in
    let one = implied_part own (own ++ more) (arc_of e.from over.from first) sub
    (implied_entry (length rows) own rows e.from over.from first m from light.from_activity is_first) in
    let two : Implies (own ++ more) (arc_of over.from over.to over.weight) = implied_arc (own ++ more) over (Contains-append_right own more over there) in
    let three = implied_part own (own ++ more) (arc_of over.to e.to last) sub
    (implied_entry (length rows) own rows over.to e.to last m light.to_activity to is_last) in
    let way = implied_joined (own ++ more) e.from over.to e.to (first +ℤ over.weight) last
    (implied_joined (own ++ more) e.from over.from over.to first over.weight one two) three in
    implied_lower (own ++ more) e.from e.to e.weight ((first +ℤ over.weight) +ℤ last) le way

pub implied_by_arc : (rows : Rows) (e over : Lag) (first last : ℤ) → IsLight (length rows) over → e.from < length rows
    → e.to < length rows → entry rows e.from over.from ≡ Some first → entry rows over.to e.to ≡ Some last
    → e.weight ≤ℤ ((first +ℤ over.weight) +ℤ last) →
    ImpliesWith (length rows) rows (over ∷ []) e
implied_by_arc rows e over first last light from to is_first is_last le =
    implied_over rows (over ∷ []) e over first last (0, omega arith, refl) light from to is_first is_last le

-- ---- the weight of a walk that is easily seen

pub seen_between : (rows : Rows) (heads tails : List ℤ) (a b : ℕ) → 0 < a → 0 < b
    → seen rows heads tails a b ≡ greater (entry rows a b) (Some (start tails a +ℤ start heads b))
seen_between rows heads tails a b la lb = rw (ne_eqb a 0 (λ (is : a ≡ 0). omega arith), ne_eqb b 0 (λ (is : b ≡ 0). omega arith)) refl
