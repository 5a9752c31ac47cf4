-- A table that takes the ways over an arc, row after row.
use Rattle.std.proofs.Common.{◌≡◌, refl, sym, ◌∙◌, ap, subst, ℕ, ◌+◌, ◌<◌, ◌≤◌, ◌≢◌, arith, inl, inr, ℤ, pos, ◌+ℤ◌, ◌≤ℤ◌, List, [], Some, None, Option, map}
use Rattle.std.proofs.Common.{length, get_or, get_or-set_same, get_or-set_other}
use Rattle.std.proofs.Math.ListN.{set}
use Rattle.std.specs.Int.{int_max}
use Rattle.std.proofs.lemmas.Bool.{cases_eq}
use Rattle.std.proofs.lemmas.Int.{ints, clamps, by_lt_z}
use Rattle.std.proofs.lemmas.List.{length-map, get_or-map, length-set}
use Rattle.std.proofs.lemmas.List.Elements.{All-get_or, All-from_get_or}
use Rattle.network.specs.declared.parts.Lag.{Lag}
use Rattle.network.specs.declared.limits.TheConstants.{MAX_WALK_WEIGHT}
use Rattle.network.specs.Problem.{IsWithin}
use Rattle.network.specs.Schedule.{start}
use Rattle.network.specs.Walk.{Rows, entry}
use Rattle.longest_path.specs.Insert.{ClosesNone, FillsRows, rows_over}
use Rattle.longest_path.specs.Matrix.{IsMatrix, IsSquare, greater}
use Rattle.longest_path.proofs.Bound.{same_rows}
use Rattle.longest_path.proofs.Full.{full_over, still_matrix}
use Rattle.longest_path.proofs.Inserted.{GainsNothing, IsSquare-rows_over, IsEntryOver-rows_over, entry-rows_over, length-rows_over}
use Rattle.longest_path.proofs.Over.{transitive}
use Rattle.longest_path.proofs.Reach.{joined-parts, same_some}
use Rattle.longest_path.proofs.Weights.{square_of}
use Rattle.lemma_proof.specs.Heads.{AreHeads, HeadsOf, IsLight, IsRowAt, IsTable, rows_of}
use Rattle.lemma_proof.specs.Rooting.{HasTakenWay, MayTakeWay}

-- ---- the cells of a table

length-rows_of : (cells : List (List ℤ)) → length (rows_of cells) ≡ length cells
length-rows_of cells = length-map cells (λ row. map Some row)

row-rows_of : (cells : List (List ℤ)) (a : ℕ) → a < length cells → get_or (rows_of cells) a [] ≡ map Some (get_or cells a [])
row-rows_of cells a la = get_or-map (λ row. map Some row) cells a [] [] la

-- each row is as long as there are rows
AreSquare : List (List ℤ) → Type 0
AreSquare cells = (a : ℕ) → a < length cells → length (get_or cells a []) ≡ length cells

square_cells : (cells : List (List ℤ)) → IsMatrix (rows_of cells) → AreSquare cells
unfolding AreSquare
square_cells cells m a la =
    let lr : a < length (rows_of cells) = rw (length-rows_of cells) la in
    let wide : length (get_or (rows_of cells) a []) ≡ length (rows_of cells) =
    All-get_or (λ row. length row ≡ length (rows_of cells)) (rows_of cells) a [] lr
    (square_of (rows_of cells) m).columns_long in
    sym (length-map (get_or cells a []) Some) ∙ ap length (sym (row-rows_of cells a la)) ∙ wide ∙ length-rows_of cells

entry-rows_of : (cells : List (List ℤ)) (a b : ℕ) → AreSquare cells → a < length cells → b < length cells
    → entry (rows_of cells) a b ≡ Some (start (get_or cells a []) b)
unfolding AreSquare
entry-rows_of cells a b square la lb =
    ap (λ (r : List (Option ℤ)). get_or r b None) (row-rows_of cells a la) ∙ get_or-map Some (get_or cells a []) b (pos 0) None (rw (square a la) lb)

square_rows : (cells : List (List ℤ)) (n : ℕ) → length cells ≡ n → AreSquare cells → IsSquare n (rows_of cells)
unfolding AreSquare
square_rows cells n long square = record {
  rows_long = length-rows_of cells ∙ long;
  columns_long = All-from_get_or (λ row. length row ≡ n) (rows_of cells) [] (λ a lt.
      let la : a < length cells = rw (length-rows_of cells) at lt in
      ap length (row-rows_of cells a la) ∙ length-map (get_or cells a []) Some ∙ square a la ∙ long);
}

-- ---- one row

cell_small : (cells : List (List ℤ)) (a b : ℕ) → IsMatrix (rows_of cells) → a < length cells → b < length cells
    → IsWithin MAX_WALK_WEIGHT (start (get_or cells a []) b)
cell_small cells a b m la lb = m.within a b (start (get_or cells a []) b) (entry-rows_of cells a b (square_cells cells m) la lb)

pub may_take : (cells : List (List ℤ)) (via : List ℤ) (e : Lag) (a : ℕ) → IsTable (rows_of cells)
    → IsLight (length (rows_of cells)) e → ClosesNone e (rows_of cells) → IsRowAt (rows_of cells) e.to via
    → a < length cells → MayTakeWay e (get_or cells a []) via
unfolding AreSquare
may_take cells via e a t light none row la =
    let n = length-rows_of cells in
    let m = t.matrix in
    let square : AreSquare cells = square_cells cells t.matrix in
    let wide : length (get_or cells a []) ≡ length cells = square_cells cells t.matrix a la in
    let lf : e.from < length cells = rw (length-rows_of cells) at light.from_activity in
    let lt : e.to < length cells = rw (length-rows_of cells) at light.to_activity in
    let from = entry-rows_of cells a e.from square la lf in
    let to = entry-rows_of cells a e.to square la lt in
    let says : (b : ℕ) → b < length cells → entry (rows_of cells) e.to b ≡ Some (start via b) = λ b lb. row.says b (rw (length-rows_of cells) lb) in
    record {
      long = wide ∙ sym (row.long ∙ length-rows_of cells);
      from_activity = rw wide lf;
      to_activity = rw wide lt;
      light = light.light;
      small = λ k lk. cell_small cells a k t.matrix la (rw wide at lk);
      via_small = λ k lk.
          let near : k < length cells = omega (arith, lk, row.long, n) in
          t.matrix.within e.to k (start via k) (says k near);
      first_small =
          let home = transitive (length (rows_of cells)) m.arcs (rows_of cells) m.matrix e.to a e.from (start via a)
          (start (get_or cells a []) e.from) (says a la) from in
          let on : (start via a +ℤ start (get_or cells a []) e.from) ≤ℤ home.0 = home.2 in
          let round : (home.0 +ℤ e.weight) ≤ℤ pos 0 = none home.0 home.1 in
          let least : IsWithin MAX_WALK_WEIGHT (start via a) = m.within e.to a (start via a) (says a la) in
          omega (arith, ints, on, round, least.at_least);
      closed = λ k lk.
          let near : k < length cells = rw wide at lk in
          let through = transitive (length (rows_of cells)) m.arcs (rows_of cells) m.matrix a e.to k
          (start (get_or cells a []) e.to) (start via k) to (says k near) in
          let same : through.0 ≡ start (get_or cells a []) k =
          same_some through.0 (start (get_or cells a []) k) (entry (rows_of cells) a k) through.1
          (entry-rows_of cells a k square la near) in
          let on : (start (get_or cells a []) e.to +ℤ start via k) ≤ℤ through.0 = through.2 in
          omega (arith, ints, same, on);
    }

pub none_taken : (e : Lag) (row via : List ℤ) → MayTakeWay e row via → (start row e.from +ℤ e.weight) ≤ℤ start row e.to → HasTakenWay e via row row
none_taken e row via may le = record {
  long = refl;
  taken = λ k lk. let on : (start row e.to +ℤ start via k) ≤ℤ start row k = may.closed k lk in omega (arith, ints, clamps, on, le);
}

-- ---- row after row

pub record ArePartlyOver (e : Lag) (via : List ℤ) (a : ℕ) (old now : List (List ℤ)) : Type 0 where
  pub long : length now ≡ length old
  pub done : (x : ℕ) → x < a → x < length old → HasTakenWay e via (get_or old x []) (get_or now x [])
  pub rest : (x : ℕ) → a ≤ x → get_or now x [] ≡ get_or old x []

pub none_over : (e : Lag) (via : List ℤ) (old : List (List ℤ)) → ArePartlyOver e via 0 old old
none_over e via old = record { long = refl; done = λ x less. absurd (omega arith); rest = λ x more. refl }

pub over_more : (e : Lag) (via : List ℤ) (a : ℕ) (old now next : List (List ℤ)) (new : List ℤ)
    → ArePartlyOver e via a old now → a < length now → next ≡ set now a new → HasTakenWay e via (get_or now a []) new
    → ArePartlyOver e via (a + 1) old next
over_more e via a old now next new h la is taken = rw is (record {
  long = length-set now a new ∙ h.long;
  done = λ x less low. elim (cases_eq x a) [
    | inl same ↦ rw (same, get_or-set_same now a new [] la) (rw (h.rest a (omega arith)) at taken)
    | inr other ↦ rw (get_or-set_other now a x new [] other) (h.done x (omega arith) low)
  ];
  rest = λ x more. let other : x ≢ a = omega arith in get_or-set_other now a x new [] other ∙ h.rest x (omega arith);
})

over_is : (x from way on : ℤ) → Some (int_max x ((from +ℤ way) +ℤ on)) ≡ greater (Some x) (Some ((from +ℤ way) +ℤ on))
over_is x from way on = by_lt_z x ((from +ℤ way) +ℤ on)
    (λ less. grind (arith, ints, clamps))
    (λ kept. grind (arith, ints, clamps))

pub all_over : (e : Lag) (via : List ℤ) (a : ℕ) (old now : List (List ℤ)) → IsTable (rows_of old)
    → IsLight (length (rows_of old)) e → IsRowAt (rows_of old) e.to via → ArePartlyOver e via a old now → length old ≤ a
    → rows_of now ≡ rows_over e (rows_of old)
unfolding AreSquare
all_over e via a old now t light row h past =
    let n = length-rows_of old in
    let square : AreSquare old = square_cells old t.matrix in
    let wide : AreSquare now = λ x lx.
    let low : x < length old = rw h.long at lx in
    (h.done x (omega (arith, low, past)) low).long ∙ square_cells old t.matrix x low ∙ sym h.long in
    let there : IsSquare (length (rows_of old)) (rows_of now) = square_rows now (length (rows_of old)) (h.long ∙ sym n) wide in
    same_rows (length (rows_of old)) (rows_of now) (rows_over e (rows_of old)) there (IsSquare-rows_over e (rows_of old)) (λ x b lx lb.
    let low : x < length old = rw (length-rows_of old) at lx in
    let near : b < length old = rw (length-rows_of old) at lb in
    let lf : e.from < length old = rw (length-rows_of old) at light.from_activity in
    let new = entry-rows_of now x b wide (rw h.long low) (rw h.long near) in
    let here = (h.done x (omega (arith, low, past)) low).taken b (rw (square_cells old t.matrix x low) near) in
    new ∙ ap Some here ∙ over_is (start (get_or old x []) b) (start (get_or old x []) e.from) e.weight (start via b)
    ∙ sym (entry-rows_over e (rows_of old) x b lx lb
    ∙ rw (entry-rows_of old x b square low near, entry-rows_of old x e.from square low lf, row.says b lb) refl))

-- ---- the new table

gains_nothing : (e : Lag) (rows : Rows) → ClosesNone e rows → GainsNothing e rows
gains_nothing e rows none = λ x h.
    let parts = joined-parts x (entry rows e.to e.from) (Some e.weight) h in
    let v : parts.1 ≡ e.weight = same_some parts.1 e.weight (Some e.weight) parts.3 refl in
    let low : (parts.0 +ℤ e.weight) ≤ℤ pos 0 = none parts.0 parts.2 in
    omega (arith, ints, parts.4, v)

pub table_over : (rows : Rows) (e : Lag) → IsTable rows → IsLight (length rows) e → ClosesNone e rows → IsTable (rows_over e rows)
table_over rows e t light none =
    let fills : FillsRows e rows = record { light = light.light; full = full_over e rows t.full } in
    record {
      matrix = still_matrix (length rows) e rows (rows_over e rows) refl t.matrix light.from_activity light.to_activity
          (inr fills) (gains_nothing e rows none) (IsSquare-rows_over e rows)
          (IsEntryOver-rows_over e rows (square_of rows t.matrix));
      full = fills.full;
      some = rw (length-rows_over e rows) t.some;
    }

pub over_heads : (x : HeadsOf) (e : Lag) (rows : Rows) → AreHeads x → IsLight (length x.rows) e → ClosesNone e x.rows
    → rows ≡ rows_over e x.rows → AreHeads (record x { rows = rows })
over_heads x e rows h light none is =
    let long : length rows ≡ length x.rows = ap length is ∙ length-rows_over e x.rows in
    record {
      table = subst IsTable (sym is) (table_over x.rows e h.table light none);
      arcs_light = λ f there. rw long (h.arcs_light f there);
      heads_long = h.heads_long ∙ sym long;
      tried_long = h.tried_long ∙ sym long;
    }
