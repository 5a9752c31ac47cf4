-- The rows of a table.
use Rattle.std.proofs.Common.{◌≡◌, sym, ◌∙◌, ap, subst, ℕ, ◌<◌, arith, ℤ, pos, List, [], ◌++◌, Some, None, length, map, get_or, take, drop, Vec, Global, Option}
use Rattle.std.proofs.lemmas.List.{get_or-map, length-map}
use Rattle.std.proofs.lemmas.List.Elements.{All-get_or}
use Rattle.std.proofs.Math.Seq.{take-append_seam}
use Rattle.network.specs.declared.limits.TheConstants.{MAX_WALK_WEIGHT}
use Rattle.network.specs.Problem.{IsWithin}
use Rattle.network.specs.Schedule.{start}
use Rattle.network.specs.Walk.{Rows, entry}
use Rattle.longest_path.specs.Matrix.{IsMatrix}
use Rattle.longest_path.proofs.Weights.{square_of}
use Rattle.lemma_proof.specs.Heads.{table_rows}

-- the cells are row a of rows in which every entry is there
pub record IsFullRow (rows : Rows) (a : ℕ) (cells : List ℤ) : Type 0 where
  pub long : length cells ≡ length rows
  pub says : (b : ℕ) → b < length rows → entry rows a b ≡ Some (start cells b)
  pub small : (b : ℕ) → b < length rows → IsWithin MAX_WALK_WEIGHT (start cells b)

pub row_at : (table : List (Vec ℤ Global)) (rows : Rows) (a : ℕ) (v : Vec ℤ Global) → table_rows table ≡ rows
    → IsMatrix rows → a < length rows → v ≡ get_or table a v → IsFullRow rows a v.items
row_at table rows a v is m la at =
    let P : Rows → Type 0 = λ r. IsMatrix r → a < length r → IsFullRow r a v.items in
    subst P is here m la
  where
    here : IsMatrix (table_rows table) → a < length (table_rows table) → IsFullRow (table_rows table) a v.items
    here m la =
        let lists : List (List ℤ) = map (λ row. row.items) table in
        let many : length (map (λ row. row.items) table) ≡ length table = length-map table (λ row. row.items) in
        let all : length (table_rows table) ≡ length (map (λ row. row.items) table) = length-map (map (λ row. row.items) table) (λ row. map Some row) in
        let low : a < length table = omega arith in
        let items : get_or (map (λ row. row.items) table) a [] ≡ v.items =
        get_or-map (λ row. row.items) table a v [] low ∙ ap (λ (w : Vec ℤ Global). w.items) (sym at) in
        let row : get_or (table_rows table) a [] ≡ map Some v.items =
        get_or-map (λ row. map Some row) (map (λ row. row.items) table) a [] [] (omega arith) ∙ ap (map Some) items
        in
        let wide : length (get_or (table_rows table) a []) ≡ length (table_rows table) =
        All-get_or (λ row. length row ≡ length (table_rows table)) (table_rows table) a [] la
        (square_of (table_rows table) m).columns_long in
        let long : length v.items ≡ length (table_rows table) = sym (length-map v.items Some) ∙ ap length (sym row) ∙ wide in
        let says : (b : ℕ) → b < length (table_rows table) → entry (table_rows table) a b ≡ Some (start v.items b) =
        λ b lb. ap (λ (r : List (Option ℤ)). get_or r b None) row ∙ get_or-map Some v.items b (pos 0) None (omega arith) in
        record { long = long; says = says; small = λ b lb. m.within a b (start v.items b) (says b lb) }

-- a list that is written over a whole one of its length
pub written : (n : ℕ) (old new : List ℤ) → n ≡ length new → take n (new ++ drop (length new) old) ≡ new
written n old new e = rw e (take-append_seam new (drop (length new) old))

pub table_long : (table : List (Vec ℤ Global)) (rows : Rows) → table_rows table ≡ rows → length rows ≡ length table
table_long table rows is = ap length (sym is) ∙ length-map (map (λ row. row.items) table) (λ row. map Some row) ∙ length-map table (λ row. row.items)

pub written_rows : (n : ℕ) (old new : List (Vec ℤ Global)) → n ≡ length new → take n (new ++ drop (length new) old) ≡ new
written_rows n old new e = rw e (take-append_seam new (drop (length new) old))
