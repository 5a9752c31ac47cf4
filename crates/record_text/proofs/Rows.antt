-- A text has one first fault, and none where its rows are those of a whole.
use Rattle.std.proofs.Common.{◌≡◌, ◌≢◌, ℕ, List, [], ◌∷◌, ◌++◌, map, length, refl, sym, ap, ◌∙◌, subst, append_assoc, append-nil, eqb, true, false, Bool, ℤ}
use Rattle.std.proofs.Common.{◌+◌, arith, length-append, ◌⊎◌, inl, inr, not}
use Rattle.std.specs.Char.{is_ascii_digit}
use Rattle.std.specs.Fmt.{decimal}
use Rattle.std.specs.List.{onto_first, join_with_byte, flat_map, AllByRecursion, list_all, All}
use Rattle.std.proofs.lemmas.Bool.{true≢false, and_parts, and_from, not-true, ne_eqb}
use Rattle.std.proofs.lemmas.List.Concat.{flat_map-append}
use Rattle.std.proofs.lemmas.List.Elements.{All-nil, All-cons}
use Rattle.std.proofs.lemmas.List.Splits.{join_with_byte-slice_split, slice_split_at}
use Rattle.record_text.specs.Kinds.{ended, HasNone}
use Rattle.record_text.specs.Text.{IsNumber, IsWritableTime, spaced, spaced_times}
use Rattle.record_text.specs.Rows.{line_pieces, RowFault, form, short, trailing, Begin, IsBroken, IsWrong, HasRowFault, missing, IsNeverLonger}
use Rattle.record_text.proofs.RowReads.{are_digits, numbers_of, spaced_as_times}

-- ---- The rows of a text, and the pieces between its LFs.

abbrev pub is_newline : ℕ → Bool
is_newline b = eqb b 10

-- ---- the pieces of a text

pub record Pieces (text : List ℕ) : Type 0 where
  pub first : List ℕ
  pub others : List (List ℕ)
  pub is : line_pieces text ≡ first ∷ others

pub some_pieces : (text : List ℕ) → Pieces text
some_pieces [] = record { first = []; others = []; is = refl }
some_pieces (x ∷ xs) = by_test (is_newline x) refl (some_pieces xs)
  where
    by_test : (b : Bool) → is_newline x ≡ b → Pieces xs → Pieces (x ∷ xs)
    by_test true e p = record { first = []; others = line_pieces xs; is = rw e refl }
    by_test false e p = record { first = x ∷ p.first; others = p.others; is = rw e (ap (onto_first x) p.is) }

joined : (rows : List (List ℕ)) → join_with_byte 10 (rows ++ [] ∷ []) ≡ flat_map ended rows
joined [] = refl
joined (row ∷ []) = sym (append-nil (ended row))
joined (row ∷ next ∷ rows) = ap (λ (rest : List ℕ). row ++ 10 ∷ rest) (joined (next ∷ rows)) ∙ sym (append_assoc row (10 ∷ []) (flat_map ended (next ∷ rows)))

-- a text whose line_pieces are rows and then nothing is that of the rows
pub text_from : (text : List ℕ) (rows : List (List ℕ)) → line_pieces text ≡ rows ++ [] ∷ [] → text ≡ flat_map ended rows
text_from text rows h = sym (join_with_byte-slice_split 10 text) ∙ ap (join_with_byte 10) h ∙ joined rows

pub no_text : (text : List ℕ) → line_pieces text ≡ [] ∷ [] → text ≡ []
no_text text h = text_from text [] h

pub not_nil : (xs : List ℕ) (b : Bool) → b ≡ eqb (length xs) 0 → b ≡ false → xs ≢ []
not_nil xs b e f none = let t : true ≡ false = sym (ap (λ (ys : List ℕ). eqb (length ys) 0) none) ∙ sym e ∙ f in absurd (true≢false t)

-- ---- rows without an LF

plain_all : (row : List ℕ) → HasNone row → All (λ b. is_newline b ≡ false) row
plain_all [] h = All-nil (λ b. is_newline b ≡ false)
plain_all (b ∷ bs) h = let p = and_parts (not (is_newline b)) _ h in All-cons (λ b. is_newline b ≡ false) b bs (not-true (is_newline b) p.0) (plain_all bs p.1)

-- the line_pieces of a record's text are its rows, and nothing
pub pieces_of : (rows : List (List ℕ)) → AllByRecursion HasNone rows → line_pieces (flat_map ended rows) ≡ rows ++ [] ∷ []
pieces_of [] all = refl
pieces_of (row ∷ rows) all =
    ap line_pieces (append_assoc row (10 ∷ []) (flat_map ended rows))
    ∙ slice_split_at is_newline row 10 (flat_map ended rows) (plain_all row all.0) refl
    ∙ ap (λ (ps : List (List ℕ)). row ∷ ps) (pieces_of rows all.1)

pub plain_append : (xs ys : List ℕ) → HasNone xs → HasNone ys → HasNone (xs ++ ys)
plain_append [] ys hx hy = hy
plain_append (x ∷ xs) ys hx hy = let p = and_parts (not (is_newline x)) _ hx in and_from (not (is_newline x)) _ p.0 (plain_append xs ys p.1 hy)

pub plain_digits : (ds : List ℕ) → list_all is_ascii_digit ds ≡ true → HasNone ds
plain_digits [] h = refl
plain_digits (d ∷ ds) h = let p = and_parts (is_ascii_digit d) _ h in and_from (not (is_newline d)) _ (ap not (one d p.0)) (plain_digits ds p.1)
  where
    one : (b : ℕ) → is_ascii_digit b ≡ true → is_newline b ≡ false
    one b h = ne_eqb b 10 (λ same. let g : is_ascii_digit 10 ≡ true = subst (λ (m : ℕ). is_ascii_digit m ≡ true) same h in cc)

pub plain_spaced : (ns : List ℕ) → AllByRecursion IsNumber ns → HasNone (spaced ns)
plain_spaced [] all = refl
plain_spaced (n ∷ ns) all = plain_append (decimal n) (spaced ns) (plain_digits (decimal n) (are_digits n all.0)) (plain_spaced ns all.1)

pub plain_times : (ts : List ℤ) → AllByRecursion IsWritableTime ts → HasNone (spaced_times ts)
plain_times ts all = let n = numbers_of ts all in rw n.is (ap (list_all (λ b. not (is_newline b))) (spaced_as_times n.numbers) ∙ plain_spaced n.numbers n.small)

-- ---- what is written

lines_text : {Line : Type 0} (row_of : Line → List ℕ) (lines : List Line) → flat_map (λ l. ended (row_of l)) lines ≡ flat_map ended (map row_of lines)
lines_text row_of [] = refl
lines_text row_of (l ∷ ls) = ap (λ (rest : List ℕ). ended (row_of l) ++ rest) (lines_text row_of ls)

-- rows and then lines, written one after the other, are the text of all
pub written : {Line : Type 0} (row_of : Line → List ℕ) (rows : List (List ℕ)) (lines : List Line)
    (head all items : List ℕ) → head ≡ flat_map ended rows → all ≡ head ++ flat_map (λ l. ended (row_of l)) lines
    → items ≡ all → items ≡ flat_map ended (rows ++ map row_of lines)
written row_of rows lines head all items h a i =
    i ∙ a ∙ ap (λ (t : List ℕ). t ++ flat_map (λ l. ended (row_of l)) lines) h
    ∙ ap (λ (t : List ℕ). flat_map ended rows ++ t) (lines_text row_of lines)
    ∙ sym (flat_map-append ended rows (map row_of lines))

pub snoc : (front : List (List ℕ)) (here : List ℕ) (back : List (List ℕ)) → (front ++ here ∷ []) ++ back ≡ front ++ here ∷ back
snoc front here back = append_assoc front (here ∷ []) back

-- ---- rows that some whole goes on from

pub record Stands (IsWhole : List (List ℕ) → Type 0) (front : List (List ℕ)) : Type 0 where
  pub begins : Begin IsWhole front
  pub unfinished : ¬ IsWhole front

pub missing_at : (IsWhole : List (List ℕ) → Type 0) (front : List (List ℕ)) (text : List ℕ) → Stands IsWhole front
    → line_pieces text ≡ text ∷ [] → HasRowFault IsWhole (front ++ line_pieces text) (length front + 1) (missing text)
missing_at IsWhole front [] s h = record {
  front = front;
  here = [];
  back = [];
  placed = refl;
  begins = s.begins;
  at = refl;
  wrong =
      (s.unfinished, refl, refl);
}
missing_at IsWhole front (b ∷ bs) s h = record {
  front = front;
  here = b ∷ bs;
  back = [];
  placed = ap (λ (ps : List (List ℕ)). front ++ ps) h;
  begins = s.begins;
  at = refl;
  wrong = (s.unfinished, λ e. cc);
}

pub form_at : (IsWhole : List (List ℕ) → Type 0) (front : List (List ℕ)) (text row rest : List ℕ) → Stands IsWhole front
    → ¬ Begin IsWhole (front ++ row ∷ []) → line_pieces text ≡ row ∷ line_pieces rest
    → HasRowFault IsWhole (front ++ line_pieces text) (length front + 1) form
form_at IsWhole front text row rest s never h =
    let p = some_pieces rest in
    record {
      front = front;
      here = row;
      back = p.first ∷ p.others;
      placed =
          ap (λ (ps : List (List ℕ)). front ++ ps) (h ∙ ap (λ (ps : List (List ℕ)). row ∷ ps) p.is);
      begins = s.begins;
      at = refl;
      wrong = (s.unfinished, never);
    }

pub trailing_at : (IsWhole : List (List ℕ) → Type 0) (front : List (List ℕ)) (text : List ℕ) → IsWhole front
    → Begin IsWhole front → text ≢ [] → HasRowFault IsWhole (front ++ line_pieces text) (length front + 1) trailing
trailing_at IsWhole front text whole begins some =
    let p = some_pieces text in
    record {
      front = front;
      here = p.first;
      back = p.others;
      placed = ap (λ (ps : List (List ℕ)). front ++ ps) p.is;
      begins = begins;
      at = refl;
      wrong = (
        whole,
        λ none. some (no_text text
            (p.is ∙ ap (λ (first : List ℕ). first ∷ p.others) none.0
            ∙ ap (λ (others : List (List ℕ)). [] ∷ others) none.1)),
      );
    }

-- ---- the rows of a whole have no fault

-- where the parts of rows and nothing are a front, a piece and more
abbrev pub AtEnd : List (List ℕ) → List (List ℕ) → List ℕ → List (List ℕ) → Type 0
AtEnd rows front here back = (front ≡ rows) × (here ≡ []) × (back ≡ [])

abbrev pub Inside : List (List ℕ) → List (List ℕ) → List ℕ → List (List ℕ) → Type 0
Inside rows front here back = (rest : List (List ℕ)) × (rows ≡ front ++ here ∷ rest) × (back ≡ rest ++ [] ∷ [])

pub cut : (rows front : List (List ℕ)) (here : List ℕ) (back : List (List ℕ)) → rows ++ [] ∷ [] ≡ front ++ here ∷ back
    → AtEnd rows front here back ⊎ Inside rows front here back
cut [] [] here back h = inl (refl, cc, cc)
cut [] (f ∷ []) here back h = absurd cc
cut [] (f ∷ g ∷ fs) here back h = absurd cc
cut (r ∷ rs) [] here back h = inr (rs, (let e : r ≡ here = cc in ap (λ (x : List ℕ). x ∷ rs) e), cc)
cut (r ∷ rs) (f ∷ fs) here back h =
    let e : r ≡ f = cc in
    let t : rs ++ [] ∷ [] ≡ fs ++ here ∷ back = cc in
    more e (cut rs fs here back t)
  where
    more : r ≡ f → AtEnd rs fs here back ⊎ Inside rs fs here back → AtEnd (r ∷ rs) (f ∷ fs) here back ⊎ Inside (r ∷ rs) (f ∷ fs) here back
    more e (inl (a, b, c)) = inl (ap (λ (x : List ℕ). x ∷ fs) (sym e) ∙ ap (λ (xs : List (List ℕ)). r ∷ xs) a, b, c)
    more e (inr (rest, a, b)) = inr (rest, ap (λ (x : List ℕ). x ∷ rs) e ∙ ap (λ (xs : List (List ℕ)). f ∷ xs) a, b)

pub not_ended : (rest : List (List ℕ)) → [] ≡ rest ++ [] ∷ [] → ⊥
not_ended rest h = omega (arith, ap length h, length-append rest ([] ∷ []))

pub whole_no_fault : (IsWhole : List (List ℕ) → Type 0) → IsNeverLonger IsWhole
    → (rows : List (List ℕ)) (line : ℕ) (what : RowFault) → IsWhole rows
    → HasRowFault IsWhole (rows ++ [] ∷ []) line what → ⊥
whole_no_fault IsWhole never rows line what whole f = by_what what f.back f.wrong (cut rows f.front f.here f.back f.placed)
  where
    goes_on : (rest : List (List ℕ)) → rows ≡ f.front ++ f.here ∷ rest → ¬ IsWhole f.front
    goes_on rest h front = let n = never f.front (f.here ∷ rest) front (subst IsWhole h whole) in cc

    begins : (rest : List (List ℕ)) → rows ≡ f.front ++ f.here ∷ rest → Begin IsWhole (f.front ++ f.here ∷ [])
    begins rest h = (rest, subst IsWhole (h ∙ sym (snoc f.front f.here rest)) whole)

    by_what : (what : RowFault) (back : List (List ℕ)) → IsWrong IsWhole f.front f.here back what
        → AtEnd rows f.front f.here back ⊎ Inside rows f.front f.here back → ⊥
    by_what form [] wrong (inl (a, b, c)) = wrong.1 b
    by_what form (next ∷ back) wrong (inl (a, b, c)) = cc
    by_what form [] wrong (inr (rest, h, b)) = not_ended rest b
    by_what form (next ∷ back) wrong (inr (rest, h, b)) = wrong.1 (begins rest h)
    by_what short back wrong (inl (a, b, c)) = wrong.0 (subst IsWhole (sym a) whole)
    by_what short back wrong (inr (rest, h, b)) = not_ended rest (sym wrong.2 ∙ b)
    by_what trailing back wrong (inl (a, b, c)) = wrong.1 (b, c)
    by_what trailing back wrong (inr (rest, h, b)) = goes_on rest h wrong.0

-- rows and nothing are those of one whole
pub same_rows : (rows others : List (List ℕ)) → rows ++ [] ∷ [] ≡ others ++ [] ∷ [] → rows ≡ others
same_rows rows others h = by_cut (cut rows others [] [] h)
  where
    by_cut : AtEnd rows others [] [] ⊎ Inside rows others [] [] → rows ≡ others
    by_cut (inl (a, b, c)) = sym a
    by_cut (inr (rest, a, b)) = absurd (not_ended rest b)

-- ---- and a text has one first fault

-- one place of a list
record Same (front other : List (List ℕ)) (here there : List ℕ) (back behind : List (List ℕ)) : Type 0 where
  fronts : front ≡ other
  heres : here ≡ there
  backs : back ≡ behind

-- a place that comes before another
record Before (front other : List (List ℕ)) (here there : List ℕ) (back behind : List (List ℕ)) : Type 0 where
  between : List (List ℕ)
  fronts : other ≡ front ++ here ∷ between
  backs : back ≡ between ++ there ∷ behind

abbrev Order : List (List ℕ) → List (List ℕ) → List ℕ → List ℕ → List (List ℕ) → List (List ℕ) → Type 0
Order front other here there back behind = Same front other here there back behind
    ⊎ (Before front other here there back behind ⊎ Before other front there here behind back)

order : (front other : List (List ℕ)) (here there : List ℕ) (back behind : List (List ℕ))
    → front ++ here ∷ back ≡ other ++ there ∷ behind → Order front other here there back behind
order [] [] x y xs ys h = inl (record { fronts = refl; heres = cc; backs = cc })
order [] (g ∷ gs) x y xs ys h =
    let e : g ≡ x = cc in
    inr (inl (record { between = gs; fronts = ap (λ (z : List ℕ). z ∷ gs) e; backs = cc }))
order (f ∷ fs) [] x y xs ys h =
    let e : f ≡ y = cc in
    inr (inr (record { between = fs; fronts = ap (λ (z : List ℕ). z ∷ fs) e; backs = cc }))
order (f ∷ fs) (g ∷ gs) x y xs ys h =
    let e : f ≡ g = cc in
    let t : fs ++ x ∷ xs ≡ gs ++ y ∷ ys = cc in
    behind e (order fs gs x y xs ys t)
  where
    behind : f ≡ g → Order fs gs x y xs ys → Order (f ∷ fs) (g ∷ gs) x y xs ys
    behind e (inl s) = inl (record { fronts = ap (λ (z : List ℕ). z ∷ fs) e ∙ ap (λ (zs : List (List ℕ)). g ∷ zs) s.fronts; heres = s.heres; backs = s.backs })
    behind e (inr (inl b)) = inr (inl (record {
      between = b.between;
      fronts = ap (λ (z : List ℕ). z ∷ gs) (sym e)
          ∙ ap (λ (zs : List (List ℕ)). f ∷ zs) b.fronts;
      backs = b.backs;
    }))
    behind e (inr (inr b)) = inr (inr (record {
      between = b.between;
      fronts = ap (λ (z : List ℕ). z ∷ fs) e ∙ ap (λ (zs : List (List ℕ)). g ∷ zs) b.fronts;
      backs = b.backs;
    }))

-- a piece that is the last, and is nothing, is not broken
not_last : (IsWhole : List (List ℕ) → Type 0) (front : List (List ℕ)) (here : List ℕ) (back : List (List ℕ))
    → IsBroken IsWhole front here back → here ≡ [] → back ≡ [] → ⊥
not_last IsWhole front here [] broken none last = broken none
not_last IsWhole front here (next ∷ back) broken none last = cc

-- what is wrong in one place is one thing
one_wrong : (IsWhole : List (List ℕ) → Type 0) (front : List (List ℕ)) (here : List ℕ) (back : List (List ℕ))
    (v w : RowFault) → IsWrong IsWhole front here back v → IsWrong IsWhole front here back w → v ≡ w
one_wrong W front here back form short a b = absurd (not_last W front here back a.1 b.1 b.2)
one_wrong W front here back form trailing a b = absurd (a.0 b.0)
one_wrong W front here back short form a b = absurd (not_last W front here back b.1 a.1 a.2)
one_wrong W front here back short trailing a b = absurd (a.0 b.0)
one_wrong W front here back trailing form a b = absurd (b.0 a.0)
one_wrong W front here back trailing short a b = absurd (b.0 a.0)
one_wrong W front here back v w a b = refl

-- a line before one that a whole goes on to is not wrong
right_before : (IsWhole : List (List ℕ) → Type 0) → IsNeverLonger IsWhole
    → (all : List (List ℕ)) (k l : ℕ) (a b : RowFault) (f : HasRowFault IsWhole all k a)
    (g : HasRowFault IsWhole all l b) → Before f.front g.front f.here g.here f.back g.back → ⊥
right_before IsWhole never all k l a b f g before = by_what a f.back f.wrong before.backs
  where
    more : List (List ℕ)
    more = before.between ++ g.begins.0

    goes_on : g.front ++ g.begins.0 ≡ f.front ++ f.here ∷ more
    goes_on = ap (λ (rows : List (List ℕ)). rows ++ g.begins.0) before.fronts ∙ append_assoc f.front (f.here ∷ before.between) g.begins.0

    begins : Begin IsWhole (f.front ++ f.here ∷ [])
    begins = (more, subst IsWhole (goes_on ∙ sym (snoc f.front f.here more)) g.begins.1)

    not_whole : ¬ IsWhole f.front
    not_whole whole = let n = never f.front (f.here ∷ more) whole (subst IsWhole goes_on g.begins.1) in cc

    some_back : (back : List (List ℕ)) → back ≡ before.between ++ g.here ∷ g.back → back ≡ [] → ⊥
    some_back back e none = omega (arith, ap length e, ap length none, length-append before.between (g.here ∷ g.back))

    by_what : (what : RowFault) (back : List (List ℕ)) → IsWrong IsWhole f.front f.here back what → back ≡ before.between ++ g.here ∷ g.back → ⊥
    by_what form [] wrong e = some_back [] e refl
    by_what form (next ∷ back) wrong e = wrong.1 begins
    by_what short back wrong e = some_back back e wrong.2
    by_what trailing back wrong e = not_whole wrong.0

pub one_fault : (IsWhole : List (List ℕ) → Type 0) → IsNeverLonger IsWhole
    → (all : List (List ℕ)) (k l : ℕ) (a b : RowFault) → HasRowFault IsWhole all k a → HasRowFault IsWhole all l b
    → (k ≡ l) × (a ≡ b)
one_fault IsWhole never all k l a b f g = by_order (order f.front g.front f.here g.here f.back g.back (sym f.placed ∙ g.placed))
  where
    here_too : Same f.front g.front f.here g.here f.back g.back → IsWrong IsWhole f.front f.here f.back b
    here_too s =
        subst (λ (front : List (List ℕ)). IsWrong IsWhole front f.here f.back b) (sym s.fronts)
        (subst (λ (here : List ℕ). IsWrong IsWhole g.front here f.back b) (sym s.heres)
        (subst (λ (back : List (List ℕ)). IsWrong IsWhole g.front g.here back b) (sym s.backs) g.wrong))

    by_order : Order f.front g.front f.here g.here f.back g.back → (k ≡ l) × (a ≡ b)
    by_order (inl s) = (
      f.at ∙ ap (λ (front : List (List ℕ)). length front + 1) s.fronts ∙ sym g.at,
      one_wrong IsWhole f.front f.here f.back a b f.wrong (here_too s),
    )
    by_order (inr (inl before)) = absurd (right_before IsWhole never all k l a b f g before)
    by_order (inr (inr before)) = absurd (right_before IsWhole never all l k b a g f before)
