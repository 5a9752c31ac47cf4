-- What saved parts are when one more is saved, and when the last is taken.
use Rattle.std.proofs.Common.{◌≡◌, ◌≢◌, refl, sym, ◌∙◌, ap, subst, ℕ, ◌+◌, ◌*◌, ◌<◌, ◌≤◌, Option, None, ◌⊎◌, inl, inr, arith, ℤ, List, [], ◌++◌, map, length}
use Rattle.std.proofs.Common.{get_or, set, take, drop, get_or-set_same, get_or-set_other, length-append, length-drop, Bool, true, false, ◌-◌, Some, ◌∷◌, suc}
use Rattle.std.proofs.Common.{append_assoc, not, reverse, ◌==◌, IsTrue, append-nil}
use Rattle.std.proofs.Math.ListN.{get_or-map}
use Rattle.std.proofs.Math.Seq.{take-append_seam, drop-append_seam}
use Rattle.std.proofs.lemmas.List.{length-set, length-map, length-take-le, take-append-le, drop-append-le, take-append-drop, take_all, get_or-take, get_or-drop}
use Rattle.std.proofs.lemmas.List.{reverse-append}
use Rattle.std.proofs.lemmas.List.Elements.{All-set, All-get_or, All-push, All-pop, All-head, All-tail, All-same}
use Rattle.std.proofs.lemmas.Bool.{cases_eq, eqb-true}
use Rattle.network.specs.Walk.{entry, Rows}
use Rattle.longest_path.specs.Matrix.{IsSquare, nothing, weight_of, weight_at, rows_of, written_at, IsRow, IsRelaxed, placed_at, IsMatrix}
use Rattle.longest_path.specs.Saved.{put_back, SavedPart, SavedParts, saves_of, cell_count, IsPart, AreSaved, undone, LeadsBack, LeadsBackIfKept, marked_rows}
use Rattle.longest_path.specs.Saved.{AreNested, IsMarked, Part}
use Rattle.longest_path.proofs.Cells.{IsSquare-rows_of, entry-rows_of, same_entry, outside_row, row_low, IsSpliced, spliced, column_cases, placed_outside}
use Rattle.longest_path.proofs.Bound.{same_rows}
use Rattle.longest_path.proofs.Reach.{greater_none}

-- ---- A part of a row that is put back into a square.

-- the entries of a row that cells are written over
written : (from : ℕ) (cells : List ℤ) (row : List (Option ℤ)) → from + length cells ≤ length row
    → IsSpliced (Option ℤ) None from (length cells) row (map weight_of cells) (written_at from cells row)
written from cells row low = spliced (Option ℤ) None from (length cells) row (map weight_of cells)
    (written_at from cells row) low (length-map cells weight_of) refl

length-written_at : (from : ℕ) (cells : List ℤ) (row : List (Option ℤ)) → from + length cells ≤ length row → length (written_at from cells row) ≡ length row
length-written_at from cells row low =
    let front : length (take from row) ≡ from = length-take-le from row (omega arith) in
    let middle : length (map weight_of cells) ≡ length cells = length-map cells weight_of in
    let back = length-drop (from + length cells) row in
    let all = length-append (take from row) (map weight_of cells ++ drop (from + length cells) row) in
    let rest = length-append (map weight_of cells) (drop (from + length cells) row) in
    omega arith

row_long : (n a : ℕ) (rows : Rows) → IsSquare n rows → a < n → length (get_or rows a []) ≡ n
row_long n a rows s la = let low : a < length rows = rw s.rows_long la in All-get_or (λ (r : List (Option ℤ)). length r ≡ n) rows a [] low s.columns_long

put_square : (n a : ℕ) (row : List (Option ℤ)) (rows : Rows) → IsSquare n rows → length row ≡ n → IsSquare n (set rows a row)
put_square n a row rows s long = record {
  rows_long = length-set rows a row ∙ s.rows_long;
  columns_long = All-set (λ (r : List (Option ℤ)). length r ≡ n) rows a row long s.columns_long;
}

entry_put : (a b : ℕ) (row : List (Option ℤ)) (rows : Rows) → a < length rows → entry (set rows a row) a b ≡ get_or row b None
entry_put a b row rows low = ap (λ (r : List (Option ℤ)). get_or r b None) (get_or-set_same rows a row [] low)

entry_put_other : (a x b : ℕ) (row : List (Option ℤ)) (rows : Rows) → x ≢ a → entry (set rows a row) x b ≡ entry rows x b
entry_put_other a x b row rows ne = ap (λ (r : List (Option ℤ)). get_or r b None) (get_or-set_other rows a x row [] ne)

-- rows in one of which cells are written
pub record IsPut (a from : ℕ) (cells : List ℤ) (old new : Rows) : Type 0 where
  pub inside : (k : ℕ) → k < length cells → entry new a (from + k) ≡ weight_at cells k
  pub outside : (b : ℕ) → (b < from) ⊎ (from + length cells ≤ b) → entry new a b ≡ entry old a b
  pub others : (x b : ℕ) → x ≢ a → entry new x b ≡ entry old x b

pub put_entries : (n a from : ℕ) (cells : List ℤ) (rows : Rows) → IsSquare n rows → a < n → from + length cells ≤ n
    → IsPut a from cells rows (set rows a (written_at from cells (get_or rows a [])))
put_entries n a from cells rows s la inside = record {
  inside = λ k lk. here (from + k) ∙ row.inside k lk ∙ get_or-map weight_of cells k nothing;
  outside = λ b out. here b ∙ elim out [ inl before ↦ row.before b before | inr after ↦ row.after b after ];
  others = λ x b ne. entry_put_other a x b (written_at from cells (get_or rows a [])) rows ne;
}
  where
    row : IsSpliced (Option ℤ) None from (length cells) (get_or rows a []) (map weight_of cells) (written_at from cells (get_or rows a []))
    row = written from cells (get_or rows a []) (omega (arith, row_long n a rows s la))

    here : (b : ℕ) → entry (set rows a (written_at from cells (get_or rows a []))) a b ≡ get_or (written_at from cells (get_or rows a [])) b None
    here b = entry_put a b (written_at from cells (get_or rows a [])) rows (rw s.rows_long la)

pub IsSquare-put : (n a from : ℕ) (cells : List ℤ) (rows : Rows) → IsSquare n rows → a < n → from + length cells ≤ n
    → IsSquare n (set rows a (written_at from cells (get_or rows a [])))
IsSquare-put n a from cells rows s la inside =
    let wide = row_long n a rows s la in
    let long = length-written_at from cells (get_or rows a []) (omega arith) in
    put_square n a (written_at from cells (get_or rows a [])) rows s (omega arith)

-- rows with the same cells written in the same place
put_rows : (n a from : ℕ) (cells : List ℤ) (rows new : Rows) → IsSquare n rows → IsSquare n new → a < n
    → from + length cells ≤ n → IsPut a from cells rows new
    → new ≡ set rows a (written_at from cells (get_or rows a []))
put_rows n a from cells rows new s t la inside p =
    let q = put_entries n a from cells rows s la inside in
    same_rows n new (set rows a (written_at from cells (get_or rows a []))) t (IsSquare-put n a from cells rows s la inside) (λ x b lx lb. elim (cases_eq x a) [
      | inl e ↦ elim (column_cases from (length cells) b) [
        | inl out ↦ rw e (p.outside b out ∙ sym (q.outside b out))
        | inr r ↦ rw (e, r.2) (p.inside r.0 r.1 ∙ sym (q.inside r.0 r.1))
      ]
      | inr ne ↦ p.others x b ne ∙ sym (q.others x b ne)
    ])

put_cells : (n a from : ℕ) (old part new : List ℤ) → length old ≡ n * n → a < n → from + length part ≤ n →
    new ≡ take (a * n + from) old ++ (part ++ drop (a * n + from + length part) old) → IsPut a from part (rows_of n old) (rows_of n new)
put_cells n a from old part new whole la inside is =
    let low = row_low n a la in
    let cells = spliced ℤ nothing (a * n + from) (length part) old part new (omega arith) refl is in
    record {
      inside = λ k lk. let at : a * n + (from + k) ≡ a * n + from + k = omega arith in
          entry-rows_of n a (from + k) new la (omega arith) ∙ ap (weight_at new) at ∙ ap weight_of (cells.inside k lk);
      outside = λ b out. same_entry n a b old new
          (λ ka kb. elim out [
            | inl before ↦ cells.before (a * n + b) (omega arith)
            | inr after ↦ cells.after (a * n + b) (omega arith)
          ]);
      others = λ x b ne. same_entry n x b old new
          (λ kx kb. elim (outside_row n a x b kb ne)
          [ inl p ↦ cells.before (x * n + b) (omega arith) | inr p ↦ cells.after (x * n + b) (omega arith) ]);
    }

-- cells written over a part of a row
pub put_view : (n a from : ℕ) (old part new : List ℤ) (rows : Rows) → rows_of n old ≡ rows → length old ≡ n * n → a < n → from + length part ≤ n →
    new ≡ take (a * n + from) old ++ (part ++ drop (a * n + from + length part) old) → rows_of n new ≡ set rows a (written_at from part (get_or rows a []))
put_view n a from old part new rows view whole la inside is =
    let P : Rows → Type 0 = λ r. rows_of n new ≡ set r a (written_at from part (get_or r a [])) in
    subst P view (put_rows n a from part (rows_of n old) (rows_of n new) (IsSquare-rows_of n old)
    (IsSquare-rows_of n new) la inside (put_cells n a from old part new whole la inside is))

-- a part that alone has changed is put back
pub put_saved : (n a from : ℕ) (cells : List ℤ) (rows new : Rows) → IsSquare n rows → IsSquare n new → a < n
    → from + length cells ≤ n → IsPut a from cells new rows
    → put_back (record { row = a; from = from; cells = cells }) new ≡ rows
put_saved n a from cells rows new s t la inside p = sym (put_rows n a from cells new rows t s la inside p)

pub length-saves_of : (parts : List Part) (cells : List ℤ) → length (saves_of parts cells) ≡ length parts
length-saves_of [] cells = refl
length-saves_of (part ∷ parts) cells = ap suc (length-saves_of parts (drop part.count cells))

take_part : (count : ℕ) (cells more : List ℤ) → length cells ≡ 0 → length more ≡ count → take count (cells ++ more) ≡ more
take_part count [] more e long = take_all count more (omega arith)
take_part count (z ∷ cells) more e long = absurd (omega arith)

pub saves_more : (part : Part) (parts : List Part) (cells more : List ℤ) → length cells ≡ cell_count parts → length more ≡ part.count →
    saves_of (parts ++ part ∷ []) (cells ++ more) ≡ saves_of parts cells ++ record { row = part.row; from = part.from; cells = more } ∷ []
saves_more part [] cells more whole long =
    ap (λ (l : List ℤ). record { row = part.row; from = part.from; cells = l } ∷ [])
    (take_part part.count cells more whole long)
saves_more part (head ∷ parts) cells more whole long =
    let low : head.count ≤ length cells = omega arith in
    let rest : length (drop head.count cells) ≡ cell_count parts = omega (arith, length-drop head.count cells) in
    let first : take head.count (cells ++ more) ≡ take head.count cells = take-append-le head.count cells more low in
    let others : drop head.count (cells ++ more) ≡ drop head.count cells ++ more = drop-append-le head.count cells more low in
    rw (first, others) (ap (λ (l : List SavedPart).
    record { row = head.row; from = head.from; cells = take head.count cells } ∷ l)
    (saves_more part parts (drop head.count cells) more rest long))

cell_count-more : (part : Part) (parts : List Part) → cell_count (parts ++ part ∷ []) ≡ cell_count parts + part.count
cell_count-more part [] = omega arith
cell_count-more part (head ∷ parts) = let rest = cell_count-more part parts in omega arith

pub AreSaved-more : (width : ℕ) (part : Part) (parts : List Part) (cells more : List ℤ) → AreSaved width parts cells
    → IsPart width part → length more ≡ part.count → AreSaved width (parts ++ part ∷ []) (cells ++ more)
AreSaved-more width part parts cells more s is long =
    let sum : length (cells ++ more) ≡ length cells + length more = length-append cells more in
    let count = cell_count-more part parts in
    let whole : length cells ≡ cell_count parts = s.whole in
    record { whole = omega arith; inside = All-push (IsPart width) parts part s.inside is }

-- the last saved part, and those before it
pub record IsLastSaved (width : ℕ) (part : Part) (front parts : List Part) (cells : List ℤ) : Type 0 where
  pub enough : part.count ≤ length cells
  pub inside : IsPart width part
  pub saved : AreSaved width front (take (length cells - part.count) cells)
  pub long : length (drop (length cells - part.count) cells) ≡ part.count
  pub split : saves_of parts cells ≡ saves_of front (take (length cells - part.count) cells) ++ record
      { row = part.row; from = part.from; cells = drop (length cells - part.count) cells } ∷ []

pub last_saved : (width : ℕ) (part : Part) (front parts : List Part) (cells : List ℤ) → AreSaved width parts cells
    → parts ≡ front ++ part ∷ [] → IsLastSaved width part front parts cells
last_saved width part front parts cells s is =
    let whole : length cells ≡ cell_count front + part.count = s.whole ∙ ap cell_count is ∙ cell_count-more part front in
    let enough : part.count ≤ length cells = omega arith in
    let few : length cells - part.count ≤ length cells = omega arith in
    let before : length (take (length cells - part.count) cells) ≡ cell_count front = length-take-le (length cells - part.count) cells few ∙ omega arith in
    let long : length (drop (length cells - part.count) cells) ≡ part.count = length-drop (length cells - part.count) cells ∙ omega arith in
    let each = All-pop (IsPart width) parts front (Some part) is s.inside in
    let both : take (length cells - part.count) cells ++ drop (length cells - part.count) cells ≡ cells = take-append-drop (length cells - part.count) cells in
    record {
      enough = enough;
      inside = each.1;
      saved = record { whole = before; inside = each.0 };
      long = long;
      split = ap (λ (l : List Part). saves_of l cells) is ∙ sym (ap (λ (l : List ℤ). saves_of (front ++ part ∷ []) l) both)
          ∙ saves_more part front (take (length cells - part.count) cells) (drop (length cells - part.count) cells) before long;
    }

pub undone-append : (saves more : List SavedPart) (rows : Rows) → undone (saves ++ more) rows ≡ undone saves (undone more rows)
undone-append [] more rows = refl
undone-append (save ∷ saves) more rows = ap (put_back save) (undone-append saves more rows)

pub leads_on : (first second third : List SavedPart) (old rows new : Rows) → LeadsBack first second old rows
    → LeadsBack second third rows new → LeadsBack first third old new
leads_on first second third old rows new p q = record {
  more = p.more ++ q.more;
  added = q.added ∙ ap (λ (l : List SavedPart). l ++ q.more) p.added ∙ append_assoc first p.more q.more;
  back = undone-append p.more q.more new ∙ ap (undone p.more) q.back ∙ p.back;
}

pub kept_on : (keeps : Bool) (first second third : SavedParts) (old rows new : Rows)
    → LeadsBackIfKept keeps first second old rows → LeadsBackIfKept keeps second third rows new
    → LeadsBackIfKept keeps first third old new
kept_on true first second third old rows new p q = leads_on first.saves second.saves third.saves old rows new p q
kept_on false first second third old rows new p q = q ∙ p

-- all is as it was once the parts that were kept since are put back
pub put_back_all : (keeps : Bool) (first second third : SavedParts) (old rows new : Rows) → IsTrue keeps → LeadsBackIfKept keeps first second old rows →
    third.width ≡ first.width → third.saves ≡ take (length first.saves) second.saves
    → new ≡ undone (drop (length first.saves) second.saves) rows → (third ≡ first) × (new ≡ old)
put_back_all true first second third old rows new h p width saves back =
    let same : third.saves ≡ first.saves = rw (p.added, take-append_seam first.saves p.more) at saves in
    let parts : ℕ → List SavedPart → SavedParts = λ w l. record { width = w; saves = l } in
    (ap (λ w. parts w third.saves) width ∙ ap (parts first.width) same, (rw (p.added, drop-append_seam first.saves p.more) at back) ∙ p.back)
put_back_all false first second third old rows new h p width saves back = cc

pub kept_same : (keeps : Bool) (old new : SavedParts) (rows after : Rows) → new ≡ old → after ≡ rows → LeadsBackIfKept keeps old new rows after
kept_same true old new rows after e f = record { more = []; added = ap (λ (s : SavedParts). s.saves) e ∙ sym (append-nil old.saves); back = f }
kept_same false old new rows after e f = e

-- some parts are put back already
pub record IsPartlyUndone (count : ℕ) (old saves : List SavedPart) (rows new : Rows) : Type 0 where
  pub more : List SavedPart
  pub split : old ≡ saves ++ more
  pub back : new ≡ undone more rows
  pub enough : count ≤ length saves

-- what was saved of a row before it gained
saved_part : (a from : ℕ) (first : ℤ) (via row : List ℤ) (rows new : Rows) → IsRow a rows row
    → from + length via ≤ length rows → IsRelaxed a first (placed_at from via) rows new
    → IsPut a from (take (length via) (drop from row)) new rows
saved_part a from first via row rows new is inside r =
    let rest = length-drop from row in
    let long : length row ≡ length rows = is.long in
    let count : length (take (length via) (drop from row)) ≡ length via = length-take-le (length via) (drop from row) (omega arith) in
    record {
      inside = λ k lk. let lv : k < length via = rw count at lk in
          sym (is.says (from + k)) ∙ sym (ap weight_of (get_or-take (length via) (drop from row) k nothing lv ∙ get_or-drop from row k nothing));
      outside = λ b out.
          let none : weight_at (placed_at from via) b ≡ None = placed_outside from b via (rw count at out) in
          sym (rw (none, greater_none (entry rows a b)) at (r.at b));
      others = λ x b ne. sym (r.others x b ne);
    }

pub one_saved : (a from : ℕ) (first : ℤ) (via row cells : List ℤ) (saves more : List SavedPart) (rows new : Rows)
    → IsSquare (length rows) rows → IsSquare (length rows) new → a < length rows → IsRow a rows row
    → from + length via ≤ length rows →
    cells ≡ take (length via) (drop from row) → IsRelaxed a first (placed_at from via) rows new
    → more ≡ saves ++ record { row = a; from = from; cells = cells } ∷ [] → LeadsBack saves more rows new
one_saved a from first via row cells saves more rows new s t la is inside part r e =
    let rest = length-drop from row in
    let long : length row ≡ length rows = is.long in
    let count : length cells ≡ length via = ap length part ∙ length-take-le (length via) (drop from row) (omega arith) in
    let put : IsPut a from cells new rows = rw part (saved_part a from first via row rows new is inside r) in
    record {
      more = record { row = a; from = from; cells = cells } ∷ [];
      added = e;
      back =
          put_saved (length rows) a from cells rows new s t la (omega arith) put;
    }

-- ---- The marks stay where they lead while rows are saved and put back.

mark_kept : (count : ℕ) (saves more : List SavedPart) (rows new : Rows) → count ≤ length saves
    → LeadsBack saves more rows new → undone (drop count more) new ≡ undone (drop count saves) rows
mark_kept count saves more rows new low b =
    ap (λ (l : List SavedPart). undone l new) (ap (λ (l : List SavedPart). drop count l) b.added ∙ drop-append-le count saves b.more low)
    ∙ undone-append (drop count saves) b.more new ∙ ap (undone (drop count saves)) b.back

pub marks_kept : (most : ℕ) (counts : List ℕ) (saves more : List SavedPart) (rows new : Rows) → most ≤ length saves
    → AreNested most counts → LeadsBack saves more rows new
    → marked_rows more new counts ≡ marked_rows saves rows counts
marks_kept most [] saves more rows new low n b = refl
marks_kept most (count ∷ counts) saves more rows new low n b =
    let le : count ≤ most = n.0 in
    let first = mark_kept count saves more rows new (omega arith) b in
    let others = marks_kept count counts saves more rows new (omega arith) n.1 b in
    ap (λ (r : Rows). r ∷ marked_rows more new counts) first ∙ ap (λ (l : List Rows). undone (drop count saves) rows ∷ l) others

pub nested_weaker : (most n : ℕ) (counts : List ℕ) → most ≤ n → AreNested most counts → AreNested n counts
nested_weaker most n [] le h = tt
nested_weaker most n (count ∷ counts) le h = let low : count ≤ most = h.0 in (omega arith, h.1)

pub leads_from_take : (count : ℕ) (saves : List SavedPart) (rows : Rows) → LeadsBack (take count saves) saves (undone (drop count saves) rows) rows
leads_from_take count saves rows = record { more = drop count saves; added = sym (take-append-drop count saves); back = refl }

-- the marks before the last one, after going back to it
pub gone_back : (count : ℕ) (counts : List ℕ) (saves : List SavedPart) (rows : Rows) → count ≤ length saves
    → AreNested count counts → marked_rows saves rows counts ≡ marked_rows (take count saves)
    (undone (drop count saves) rows) counts
gone_back count counts saves rows low n =
    let long : length (take count saves) ≡ count = length-take-le count saves low in
    marks_kept count counts (take count saves) saves (undone (drop count saves) rows) rows (omega arith) n (leads_from_take count saves rows)

pub last_count : (counts before : List ℕ) (count : ℕ) → counts ≡ before ++ count ∷ [] → reverse counts ≡ count ∷ reverse before
last_count counts before count is = ap (λ (l : List ℕ). reverse l) is ∙ reverse-append before (count ∷ [])

-- the rows of the last mark
pub at_mark : (rows : Rows) (saved : SavedParts) (count : ℕ) (counts : List ℕ) → IsMarked rows saved (count ∷ counts)
    → IsMatrix (undone (drop count saved.saves) rows)
at_mark rows saved count counts m = All-head IsMatrix (undone (drop count saved.saves) rows) (marked_rows saved.saves rows counts) m.matrices

pub marks_before : (rows new : Rows) (saved fewer : SavedParts) (count : ℕ) (counts : List ℕ)
    → IsMarked rows saved (count ∷ counts) → fewer.saves ≡ take count saved.saves
    → new ≡ undone (drop count saved.saves) rows →
    marked_rows saved.saves rows counts ≡ marked_rows fewer.saves new counts
marks_before rows new saved fewer count counts m kept back =
    gone_back count counts saved.saves rows m.nested.0 m.nested.1
    ∙ sym (ap (λ (l : List SavedPart). marked_rows l new counts) kept ∙ ap (λ (r : Rows). marked_rows (take count saved.saves) r counts) back)

pub went_back : (rows new : Rows) (saved fewer : SavedParts) (count : ℕ) (counts : List ℕ)
    → IsMarked rows saved (count ∷ counts) → fewer.width ≡ saved.width → fewer.saves ≡ take count saved.saves
    → new ≡ undone (drop count saved.saves) rows →
    length new ≡ length rows → IsMarked new fewer counts
went_back rows new saved fewer count counts m width kept back size =
    let long : length fewer.saves ≡ count = ap length kept ∙ length-take-le count saved.saves m.nested.0 in
    record {
      matrix = subst IsMatrix (sym back) (at_mark rows saved count counts m);
      width = width ∙ m.width ∙ sym size;
      nested = nested_weaker count (length fewer.saves) counts (omega arith) m.nested.1;
      matrices = All-same IsMatrix (marked_rows fewer.saves new counts) (marked_rows saved.saves rows counts)
          (sym (marks_before rows new saved fewer count counts m kept back))
          (All-tail IsMatrix (undone (drop count saved.saves) rows) (marked_rows saved.saves rows counts) m.matrices);
    }

-- nothing is kept where there is no mark
pub no_counts : (empty : Bool) (n : ℕ) (counts : List ℕ) → empty ≡ (n == 0) → n ≡ length counts → not empty ≡ false → reverse counts ≡ []
no_counts empty n [] e long full = refl
no_counts true n (count ∷ counts) e long full = let none : n ≡ 0 = eqb-true n 0 (sym e) in absurd (omega arith)
no_counts false n (count ∷ counts) e long full = cc

pub some_counts : (empty : Bool) (n : ℕ) (counts : List ℕ) → empty ≡ (n == 0) → n ≡ length counts → not empty ≡ true → 0 < length counts
some_counts empty n (count ∷ counts) e long some = omega arith
some_counts empty n [] e long some = let full : empty ≡ true = rw long at e in let bad : not empty ≡ false = ap not full in cc

pub still_there : (keeps : Bool) (rows new : Rows) (saved more : SavedParts) (counts : List ℕ)
    → (keeps ≡ false → counts ≡ []) → IsMarked rows saved counts → LeadsBackIfKept keeps saved more rows new
    → marked_rows more.saves new counts ≡ marked_rows saved.saves rows counts
still_there true rows new saved more counts none m b = marks_kept (length saved.saves) counts saved.saves more.saves rows new (omega arith) m.nested b
still_there false rows new saved more counts none m b = rw (none refl) refl

still_nested : (keeps : Bool) (rows new : Rows) (saved more : SavedParts) (counts : List ℕ)
    → AreNested (length saved.saves) counts → LeadsBackIfKept keeps saved more rows new
    → AreNested (length more.saves) counts
still_nested true rows new saved more counts n b =
    let long : length more.saves ≡ length saved.saves + length b.more = ap length b.added ∙ length-append saved.saves b.more in
    nested_weaker (length saved.saves) (length more.saves) counts (omega arith) n
still_nested false rows new saved more counts n b = rw b n

pub still_marked : (keeps : Bool) (rows new : Rows) (saved more : SavedParts) (counts : List ℕ)
    → (keeps ≡ false → counts ≡ []) → IsMarked rows saved counts → IsMatrix new → more.width ≡ saved.width
    → length new ≡ length rows → LeadsBackIfKept keeps saved more rows new → IsMarked new more counts
still_marked keeps rows new saved more counts none m is width size b = record {
  matrix = is;
  width = width ∙ m.width ∙ sym size;
  nested = still_nested keeps rows new saved more counts m.nested b;
  matrices = All-same IsMatrix (marked_rows more.saves new counts) (marked_rows saved.saves rows counts)
      (still_there keeps rows new saved more counts none m b) m.matrices;
}
