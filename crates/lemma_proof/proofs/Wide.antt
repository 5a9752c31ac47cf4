-- In the matrix of all arcs every activity reaches every other.
use Rattle.std.proofs.Common.{◌≡◌, refl, arith, ap, Bool, true, false, List, ◌++◌, ◌∷◌, [], length, Option, None, Some, IfSome, Result, Ok, Err, IfOk, OnOk}
use Rattle.std.proofs.lemmas.List.Elements.{Contains-append_left, Contains-append_right}
use Rattle.network.specs.declared.parts.Lag.{Lag}
use Rattle.network.specs.Walk.{Rows, IsMatrixOf}
use Rattle.longest_path.specs.Insert.{ClosesNone, FillsRows, rows_over}
use Rattle.longest_path.specs.Matrix.{IsFull, IsMatrix}
use Rattle.longest_path.specs.Saved.{Marked}
use Rattle.longest_path.proofs.Bound.{one_matrix}
use Rattle.longest_path.proofs.Full.{full_over}
use Rattle.longest_path.proofs.Inserted.{AddsArc-rows_over}
use Rattle.lemma_proof.specs.Block.{IsMatrixWith, IsInserted}
use Rattle.lemma_proof.specs.Heads.{IsLight}
use Rattle.lemma_proof.proofs.Existing.{closes_none, full_more}
use Rattle.lemma_proof.specs.Bench.{IsWide}

pub wide_with : (rows : Rows) (more : List Lag) (found : Option Marked) → IsMatrix rows → IsFull rows
    → IsMatrixWith rows more found → IfSome found (IsWide (length rows))
wide_with rows more None m full with = record {}
wide_with rows more (Some d) m full with =
    let all : IsMatrixOf (length rows) (m.arcs ++ more) d.rows = with m.arcs m.matrix in
    record { long = all.square.0; full = full_more (length rows) m.arcs more rows d.rows refl all.square.0 m.matrix full all }

pub wide_taken : (e : Lag) (old new : Marked) (closes : Bool) → IsMatrix old.rows → IsFull old.rows → IsInserted e old new closes → IsWide (length old.rows) new
wide_taken e old new true m full taken = record { long = ap (λ (d : Marked). length d.rows) taken.1; full = rw taken.1 full }
wide_taken e old new false m full taken =
    let all : IsMatrixOf (length old.rows) (m.arcs ++ e ∷ []) new.rows = taken.0 m.arcs m.matrix in
    record { long = all.square.0; full = full_more (length old.rows) m.arcs (e ∷ []) old.rows new.rows refl all.square.0 m.matrix full all }

pub fills_wide : (e : Lag) (d : Marked) → IsFull d.rows → IsLight (length d.rows) e → FillsRows e d.rows
fills_wide e d full light = record { light = light.light; full = full_over e d.rows full }

-- ---- an arc that the matrix of the root's arcs takes

pub taken_none : (e : Lag) (old new : Marked) → IsMatrix old.rows → IsLight (length old.rows) e → IsInserted e old new false → ClosesNone e old.rows
taken_none e old new m light taken =
    let all : IsMatrixOf (length old.rows) (m.arcs ++ e ∷ []) new.rows = taken.0 m.arcs m.matrix in
    closes_none (length old.rows) m.arcs old.rows e (m.arcs ++ e ∷ []) m.matrix light.from_activity light.to_activity
    (λ f c. Contains-append_left m.arcs (e ∷ []) f c)
    (Contains-append_right m.arcs (e ∷ []) e (0, omega arith, refl)) all.no_cycle

pub taken_rows : (e : Lag) (old new : Marked) → IsMatrix old.rows → IsLight (length old.rows) e → IsInserted e old new false → rows_over e old.rows ≡ new.rows
taken_rows e old new m light taken =
    let all : IsMatrixOf (length old.rows) (m.arcs ++ e ∷ []) new.rows = taken.0 m.arcs m.matrix in
    one_matrix (length old.rows) (m.arcs ++ e ∷ []) (rows_over e old.rows) new.rows
    (AddsArc-rows_over e old.rows light.from_activity light.to_activity (taken_none e old new m light taken) m.arcs
    m.matrix) all

-- ---- what each value gives

pub on_ok : {T E : Type 0} (r : Result T E) (P : T → Type 0) (Q : Type 0) → ((x : T) → P x → Q) → IfOk r P → OnOk r Q
on_ok (Ok x) P Q gives here = gives x here
on_ok (Err e) P Q gives here = record {}

pub on_both : {T E : Type 0} (r : Result T E) (P Q R : Type 0) → (P → Q → R) → OnOk r P → OnOk r Q → OnOk r R
on_both (Ok x) P Q R gives p q = gives p q
on_both (Err e) P Q R gives p q = record {}
