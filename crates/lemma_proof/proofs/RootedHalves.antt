-- The two halves of a block take an arc into the matrix.
use Rattle.std.proofs.Common.{◌≡◌, refl, sym, ◌∙◌, ap, subst, ◌<◌, arith, ℤ, ◌+ℤ◌, [], length, Some}
use Rattle.std.proofs.lemmas.Int.{ints}
use Rattle.network.specs.declared.parts.Lag.{Lag}
use Rattle.network.specs.Walk.{Rows, entry}
use Rattle.longest_path.specs.Insert.{ClosesNone, rows_over}
use Rattle.longest_path.proofs.Inserted.{entry-rows_over, length-rows_over}
use Rattle.longest_path.specs.Matrix.{greater}
use Rattle.lemma_proof.specs.Heads.{HeadsOf, IsLight, IsTable, IsRowAt}
use Rattle.lemma_proof.specs.Block.{converse_of}
use Rattle.lemma_proof.specs.Halves.{AreConverse, AreRooted}
use Rattle.lemma_proof.proofs.Rooting.{table_over}
use Rattle.lemma_proof.proofs.Halves.{converse_light, first_both, first_halves}

pub converse_none : (rows columns : Rows) (e : Lag) → AreConverse rows columns → IsLight (length rows) e → ClosesNone e rows
    → ClosesNone (converse_of e) columns
converse_none rows columns e c light none = λ x is. none x (sym (c.entries e.to e.from light.to_activity light.from_activity) ∙ is)

same_over : (here from on w : ℤ) → greater (Some here) (Some ((on +ℤ w) +ℤ from)) ≡ greater (Some here) (Some ((from +ℤ w) +ℤ on))
same_over here from on w =
    let sums : ((on +ℤ w) +ℤ from) ≡ ((from +ℤ w) +ℤ on) = omega (arith, ints) in
    ap (λ (z : ℤ). greater (Some here) (Some z)) sums

converse_over : (rows columns : Rows) (e : Lag) → AreConverse rows columns → IsTable rows → IsLight (length rows) e
    → AreConverse (rows_over e rows) (rows_over (converse_of e) columns)
converse_over rows columns e c t light = record {
  long = length-rows_over (converse_of e) columns ∙ c.long ∙ sym (length-rows_over e rows);
  entries = λ a b la lb.
      let ra : a < length rows = rw (length-rows_over e rows) at la in
      let rb : b < length rows = rw (length-rows_over e rows) at lb in
      let here = t.full a b ra rb in
      let from = t.full a e.from ra light.from_activity in
      let on = t.full e.to b light.to_activity rb in
      let first : entry (rows_over (converse_of e) columns) b a ≡ greater (Some here.0) (Some ((on.0 +ℤ e.weight) +ℤ from.0)) =
      entry-rows_over (converse_of e) columns b a (rw c.long rb) (rw c.long ra)
      ∙ rw (c.entries a b ra rb ∙ here.1, c.entries e.to b light.to_activity rb ∙ on.1, c.entries a e.from ra light.from_activity ∙ from.1) refl in
      let last : entry (rows_over e rows) a b ≡ greater (Some here.0) (Some ((from.0 +ℤ e.weight) +ℤ on.0)) = entry-rows_over e rows a b ra rb
      ∙ rw (here.1, from.1, on.1) refl in
      first ∙ same_over here.0 from.0 on.0 e.weight ∙ sym last;
}

pub rooted_halves : (e : Lag) (x y x' y' : HeadsOf) → AreConverse x.rows y.rows → IsTable x.rows → IsTable y.rows → IsLight (length x.rows) e
    → ClosesNone e x.rows → x' ≡ record { rows = rows_over e x.rows; arcs = []; heads = x'.heads; tried = x'.heads }
    → y' ≡ record { rows = rows_over (converse_of e) y.rows; arcs = []; heads = y'.heads; tried = y'.heads } → IsRowAt x'.rows 0 x'.heads
    → IsRowAt y'.rows 0 y'.heads → AreRooted e x x' y'
rooted_halves e x y x' y' c t u light none same back_same one two =
    let rows : x'.rows ≡ rows_over e x.rows = ap (λ (h : HeadsOf). h.rows) same in
    let columns : y'.rows ≡ rows_over (converse_of e) y.rows = ap (λ (h : HeadsOf). h.rows) back_same in
    let table : IsTable x'.rows = subst IsTable (sym rows) (table_over x.rows e t light none) in
    let back_table : IsTable y'.rows = subst IsTable (sym columns)
    (table_over y.rows (converse_of e) u (converse_light x.rows y.rows e c light) (converse_none x.rows y.rows e c light none)) in
    let converse : AreConverse x'.rows y'.rows = rw (rows, columns) (converse_over x.rows y.rows e c t light) in
    let both = first_both x'.rows y'.rows x'.heads y'.heads table converse one two in
    let tried : x'.tried ≡ x'.heads = ap (λ (h : HeadsOf). h.tried) same in
    let back_tried : y'.tried ≡ y'.heads = ap (λ (h : HeadsOf). h.tried) back_same in
    record {
      rows = rows;
      halves = first_halves x' y' converse table back_table (ap (λ (h : HeadsOf). h.arcs) same) (ap (λ (h : HeadsOf). h.arcs) back_same) one two
          (rw (tried, back_tried) both);
    }
