-- What the layout of the network rows leads to.
use Rattle.std.proofs.Common.{◌≡◌, ℕ, zero, suc, true, List, [], ◌∷◌, ◌++◌, length, ℤ, refl, ap, subst, ◌+◌, ◌-◌, ◌≤◌, ◌<◌, eqb, map, pos, nat_abs, sym, ◌∙◌}
use Rattle.std.proofs.Common.{append_assoc, arith, Bool, false, take, drop, eq-eqb, ne_eqb, eqb-true, neg_ℤ}
use Rattle.std.specs.List.{AllByRecursion, All, AllPairs, prefix_len}
use Rattle.std.proofs.lemmas.List.{append-nil, length-append, length-map}
use Rattle.sch_reader.specs.Layout.{Layout, done, place, fits, row_of, ◌>>=◌, lags_to, network_row, network_rows, Place}
use Rattle.sch_reader.proofs.Layouts.{Reaches, Reaches-bind, through}
use Rattle.std.proofs.lemmas.List.Elements.{filter-append, All-nil, All-cons, All-head, All-weaker, All-from_recursion, recursion_from_All}
use Rattle.network.specs.declared.parts.Lag.{Lag}
use Rattle.network.specs.declared.limits.TheConstants.{MAX_LAG_WEIGHT}
use Rattle.network.specs.Problem.{IsWithin, IsLag, Problem, IsProject}
use Rattle.sch_reader.specs.declared.place.Place.TheVariants as places
use Rattle.sch_reader.specs.Text.{lags_from, network_numbers}
use Rattle.sch_reader.proofs.Printed.{within, exactly, up_to, is_between_from}
use Rattle.std.proofs.lemmas.Int.{ints}
use Rattle.std.proofs.lemmas.List.Kept.{AllPairs-cons}

-- ---- What the layout of a row leads to.

-- the number at a place, and what comes after it
pub record First {A : Type 0} (p : Place) (next : ℤ → Layout A) (zs : List ℤ) (y : A) : Type 0 where
  pub number : ℤ
  pub rest : List ℤ
  pub parts : zs ≡ number ∷ rest
  pub fit : fits p number ≡ true
  pub after : Reaches (next number) rest (done y)

pub first : {A : Type 0} (p : Place) (next : ℤ → Layout A) (zs : List ℤ) (y : A) → Reaches (place p next) zs (done y) → First p next zs y
first p next [] y h = absurd cc
first p next (z ∷ zs) y h = record { number = z; rest = zs; parts = refl; fit = h.0; after = h.1 }

pub finished : {A : Type 0} (x y : A) (zs : List ℤ) → Reaches (done x) zs (done y) → (zs ≡ []) × (x ≡ y)
finished x y [] h = (refl, cc)
finished x y (z ∷ zs) h = absurd h

-- a number and what follows it, each by another name
pub next_is : (zs xs ys : List ℤ) (x y : ℤ) → zs ≡ x ∷ xs → x ≡ y → xs ≡ ys → zs ≡ y ∷ ys
next_is zs xs ys x y e f g = cc

-- one list and then another, each by another name
pub joined_is : (zs xs ys us vs : List ℤ) → zs ≡ xs ++ ys → xs ≡ us → ys ≡ vs → zs ≡ us ++ vs
joined_is zs xs ys us vs e f g = cc

-- a list with nothing after it, by another name
pub alone_is : (zs xs ys us : List ℤ) → zs ≡ xs ++ ys → ys ≡ [] → xs ≡ us → zs ≡ us
alone_is zs xs ys us e none f = let n = append-nil xs in cc

-- a row of numbers is those numbers
pub record RowFound (n : ℕ) (p : Place) (zs xs : List ℤ) : Type 0 where
  pub same : zs ≡ xs
  pub len : length xs ≡ n
  pub fit : AllByRecursion (λ z. fits p z ≡ true) xs

pub row_found : (n : ℕ) (p : Place) (zs xs : List ℤ) → Reaches (row_of n p) zs (done xs) → RowFound n p zs xs
unfolding row_of
row_found zero p zs xs h =
    let f = finished [] xs zs h in
    subst (λ (v : List ℤ). RowFound 0 p zs v) f.1 (record { same = f.0; len = refl; fit = tt })
row_found (suc n) p zs xs h =
    let a = first p (λ z. row_of n p >>= λ others. done (z ∷ others)) zs xs h in
    let b = through (row_of n p) (λ others. done (a.number ∷ others)) a.rest xs a.after in
    let ih = row_found n p b.first b.value b.to_value in
    let e = finished (a.number ∷ b.value) xs b.second b.after in
    let same : zs ≡ a.number ∷ b.value = next_is zs a.rest b.value a.number a.number a.parts refl
    (alone_is a.rest b.first b.second b.value b.parts e.0 ih.same) in
    subst (λ (v : List ℤ). RowFound (suc n) p zs v) e.1 (record { same = same; len = ap suc ih.len; fit = (a.fit, ih.fit) })

pub row_again : (p : Place) (xs : List ℤ) → AllByRecursion (λ z. fits p z ≡ true) xs → Reaches (row_of (length xs) p) xs (done xs)
unfolding row_of
row_again p [] h = refl
row_again p (x ∷ xs) h = (
  h.0,
  subst (λ (r : List ℤ). Reaches (row_of (length xs) p >>= λ others. done (x ∷ others)) r (done (x ∷ xs))) (append-nil xs)
      (Reaches-bind (row_of (length xs) p) (λ others. done (x ∷ others)) (done (x ∷ xs)) xs xs [] (row_again p xs h.1) refl),
)

-- no arc's start is below that of the arc before
abbrev pub AreInOrder : ℕ → List Lag → Type 0
AreInOrder from [] = Unit {0}
AreInOrder from (a ∷ lags) = (from ≤ a.from) × AreInOrder a.from lags

-- an arc from this row
pub record RowLag (row last : ℕ) (a : Lag) : Type 0 where
  pub from : a.from ≡ row
  pub to : a.to ≤ last
  pub light : IsWithin MAX_LAG_WEIGHT a.weight

pub record LagsFound (row last : ℕ) (ends zs : List ℤ) (lags : List Lag) : Type 0 where
  pub weights : zs ≡ map (λ a. a.weight) lags
  pub to_ends : map (λ a. pos a.to) lags ≡ ends
  pub each : AllByRecursion (RowLag row last) lags

abbrev pub lag_of : ℕ → ℤ → ℤ → Lag
lag_of from end weight = record { from = from; to = nat_abs end; weight = weight }

lags_found : (row last : ℕ) (ends zs : List ℤ) (lags : List Lag)
    → AllByRecursion (λ z. fits (places.Successor row last) z ≡ true) ends → Reaches (lags_to row ends) zs (done lags)
    → LagsFound row last ends zs lags
unfolding lags_to
lags_found row last [] zs lags fit h =
    let f = finished [] lags zs h in
    subst (λ (v : List Lag). LagsFound row last [] zs v) f.1 (record { weights = f.0; to_ends = refl; each = tt })
lags_found row last (e ∷ ends) zs lags fit h =
    let a = first places.Lag (λ w. lags_to row ends >>= λ others. done (lag_of row e w ∷ others)) zs lags h in
    let b = through (lags_to row ends) (λ others. done (lag_of row e a.number ∷ others)) a.rest lags a.after in
    let ih = lags_found row last ends b.first b.value fit.1 b.to_value in
    let f = finished (lag_of row e a.number ∷ b.value) lags b.second b.after in
    let rest : a.rest ≡ map (λ a. a.weight) b.value = alone_is a.rest b.first b.second (map (λ a. a.weight) b.value) b.parts f.0 ih.weights in
    let n = up_to last e fit.0 in
    let light = within (neg_ℤ MAX_LAG_WEIGHT) MAX_LAG_WEIGHT a.number a.fit in
    let to_ends : pos (nat_abs e) ∷ map (λ a. pos a.to) b.value ≡ e ∷ ends =
    ap (λ (r : List ℤ). pos (nat_abs e) ∷ r) ih.to_ends ∙ ap (λ (x : ℤ). x ∷ ends) (sym n.0) in
    subst (λ (v : List Lag). LagsFound row last (e ∷ ends) zs v) f.1
    (record {
      weights = next_is zs a.rest (map (λ a. a.weight) b.value) a.number a.number a.parts refl rest;
      to_ends =
          to_ends;
      each = (record { from = refl; to = n.1; light = light }, ih.each);
    })

abbrev pub row_numbers : ℕ → List Lag → List ℤ
row_numbers row own = pos row ∷ pos 1 ∷ pos (length own) ∷ (map (λ a. pos a.to) own ++ map (λ a. a.weight) own)

pub record RowIs (last left row : ℕ) (zs : List ℤ) (lags : List Lag) : Type 0 where
  pub same : zs ≡ row_numbers row lags
  pub few : length lags ≤ left
  pub each : AllByRecursion (RowLag row last) lags

pub network_row_found : (last left row : ℕ) (zs : List ℤ) (lags : List Lag) → Reaches (network_row last left row) zs (done lags) → RowIs last left row zs lags
unfolding network_row
network_row_found last left row zs lags h =
    let id = first (places.Id row row) _ zs lags h in
    let mode = first (places.Mode row) _ id.rest lags id.after in
    let count = first (places.Count left) _ mode.rest lags mode.after in
    let ends = through (row_of (nat_abs count.number) (places.Successor row last)) (λ ends. lags_to row ends) count.rest lags count.after in
    let r = row_found (nat_abs count.number) (places.Successor row last) ends.first ends.value ends.to_value in
    let l = lags_found row last ends.value ends.second lags r.fit ends.after in
    let c = up_to left count.number count.fit in
    let len : length lags ≡ nat_abs count.number = sym (length-map lags (λ a. pos a.to)) ∙ ap length l.to_ends ∙ r.len in
    let numbers : count.number ≡ pos (length lags) = c.0 ∙ ap pos (sym len) in
    let rest : count.rest ≡ map (λ a. pos a.to) lags ++ map (λ a. a.weight) lags =
    joined_is count.rest ends.first ends.second (map (λ a. pos a.to) lags) (map (λ a. a.weight) lags) ends.parts (r.same ∙ sym l.to_ends) l.weights in
    let from_count : mode.rest ≡ pos (length lags) ∷ (map (λ a. pos a.to) lags ++ map (λ a. a.weight) lags) =
    next_is mode.rest count.rest _ count.number (pos (length lags)) count.parts numbers rest in
    record {
      same = next_is zs id.rest _ id.number (pos row) id.parts (exactly row id.number id.fit)
          (next_is id.rest mode.rest _ mode.number (pos 1) mode.parts (exactly 1 mode.number mode.fit) from_count);
      few = omega (arith, c.1, len);
      each = l.each;
    }

-- ---- the arcs of one row among all

pub kept : (row last : ℕ) (own : List Lag) → AllByRecursion (RowLag row last) own → lags_from row own ≡ own
kept row last [] h = refl
kept row last (a ∷ own) h = rw (eq-eqb a.from row h.0.from) (ap (λ (r : List Lag). a ∷ r) (kept row last own h.1))

gone : (i row last : ℕ) (own : List Lag) → row < i → AllByRecursion (RowLag row last) own → lags_from i own ≡ []
gone i row last [] lt h = refl
gone i row last (a ∷ own) lt h = rw (ne_eqb a.from i (λ e. absurd (omega (arith, e, h.0.from)))) (gone i row last own lt h.1)

pub later_gone : (row i : ℕ) (others : List Lag) → row < i → AreInOrder i others → lags_from row others ≡ []
later_gone row i [] lt h = refl
later_gone row i (a ∷ others) lt h = rw (ne_eqb a.from row (λ e. absurd (omega (arith, e, h.0)))) (later_gone row a.from others (omega (arith, h.0)) h.1)

pub skipped : (rows i row last : ℕ) (own others : List Lag) → row < i → AllByRecursion (RowLag row last) own
    → network_numbers rows i (own ++ others) ≡ network_numbers rows i others
skipped zero i row last own others lt h = refl
skipped (suc rows) i row last own others lt h =
    let here : lags_from i (own ++ others) ≡ lags_from i others = filter-append (λ a. eqb a.from i) own others
    ∙ ap (λ (r : List Lag). r ++ lags_from i others) (gone i row last own lt h) in
    rw (here, skipped rows (i + 1) row last own others (omega arith) h) refl

in_order : (row last : ℕ) (own others : List Lag) → AllByRecursion (RowLag row last) own → AreInOrder (row + 1) others → AreInOrder row (own ++ others)
in_order row last [] [] h g = tt
in_order row last [] (a ∷ others) h g = (omega (arith, g.0), g.1)
in_order row last (a ∷ own) others h g = (
  omega (arith, h.0.from),
  subst (λ (r : ℕ). AreInOrder r (own ++ others)) (sym h.0.from)
      (in_order row last own others h.1 g),
)

-- an arc that leads from an activity below this one
abbrev pub IsEnd : ℕ → ℕ → Lag → Type 0
IsEnd last below a = (a.to ≤ last) × (a.from < below) × IsWithin MAX_LAG_WEIGHT a.weight

pub record RowsFound (rows last left row : ℕ) (zs : List ℤ) (lags : List Lag) : Type 0 where
  pub same : zs ≡ network_numbers rows row lags
  pub few : length lags ≤ left
  pub order : AreInOrder row lags
  pub ends : AllByRecursion (IsEnd last (row + rows)) lags

both_ends : (row last rows : ℕ) (own others : List Lag) → AllByRecursion (RowLag row last) own → AllByRecursion (IsEnd last ((row + 1) + rows)) others
    → AllByRecursion (IsEnd last (row + suc rows)) (own ++ others)
both_ends row last rows [] [] h g = tt
both_ends row last rows [] (a ∷ others) h g = ((g.0.0, omega (arith, g.0.1), g.0.2), both_ends row last rows [] others tt g.1)
both_ends row last rows (a ∷ own) others h g = ((h.0.to, omega (arith, h.0.from), h.0.light), both_ends row last rows own others h.1 g)

pub network_rows_found : (rows last left row : ℕ) (zs : List ℤ) (lags : List Lag)
    → Reaches (network_rows rows last left row) zs (done lags) → RowsFound rows last left row zs lags
unfolding network_rows
network_rows_found zero last left row zs lags h =
    let f = finished [] lags zs h in
    subst (λ (v : List Lag). RowsFound 0 last left row zs v) f.1 (record { same = f.0; few = omega arith; order = tt; ends = tt })
network_rows_found (suc rows) last left row zs lags h =
    let a = through (network_row last left row) (λ own. network_rows rows last (left - length own) (row + 1) >>= λ others. done (own ++ others)) zs lags h in
    let b = through (network_rows rows last (left - length a.value) (row + 1)) (λ others. done (a.value ++ others)) a.second lags a.after in
    let own = network_row_found last left row a.first a.value a.to_value in
    let ih = network_rows_found rows last (left - length a.value) (row + 1) b.first b.value b.to_value in
    let f = finished (a.value ++ b.value) lags b.second b.after in
    let after : a.second ≡ network_numbers rows (row + 1) b.value =
    alone_is a.second b.first b.second (network_numbers rows (row + 1) b.value) b.parts f.0 ih.same in
    let here : lags_from row (a.value ++ b.value) ≡ a.value = filter-append (λ a. eqb a.from row) a.value b.value
    ∙ ap (λ (r : List Lag). r ++ lags_from row b.value) (kept row last a.value own.each)
    ∙ ap (λ (r : List Lag). a.value ++ r) (later_gone row (row + 1) b.value (omega arith) ih.order)
    ∙ append-nil a.value in
    let rest : network_numbers rows (row + 1) (a.value ++ b.value) ≡ a.second =
    skipped rows (row + 1) row last a.value b.value (omega arith) own.each ∙ sym after in
    let regroup : row_numbers row a.value ++ a.second ≡ pos row ∷ pos 1 ∷ pos (length a.value) ∷
    (map (λ a. pos a.to) a.value ++ (map (λ a. a.weight) a.value ++ a.second)) =
    ap (λ (r : List ℤ). pos row ∷ pos 1 ∷ pos (length a.value) ∷ r)
    (append_assoc (map (λ a. pos a.to) a.value) (map (λ a. a.weight) a.value) a.second) in
    let same : zs ≡ network_numbers (suc rows) row (a.value ++ b.value) = a.parts
    ∙ ap (λ (r : List ℤ). r ++ a.second) own.same ∙ regroup ∙ sym (rw (here, rest) refl) in
    subst (λ (v : List Lag). RowsFound (suc rows) last left row zs v) f.1
    (record {
      same = same;
      few = omega (arith, own.few, ih.few, length-append a.value b.value);
      order =
          in_order row last a.value b.value own.each ih.order;
      ends =
          both_ends row last rows a.value b.value own.each ih.ends;
    })

-- ---- The numbers of the network rows lead the layout to their end.

-- a layout, and then what is made of its value
pub Reaches-made : {A B : Type 0} (l : Layout A) (make : A → B) (x : A) (xs : List ℤ) → Reaches l xs (done x)
    → Reaches (l >>= λ v. done (make v)) xs (done (make x))
Reaches-made l make x xs h = subst (λ (r : List ℤ). Reaches (l >>= λ v. done (make v)) r (done (make x)))
    (append-nil xs) (Reaches-bind l (λ v. done (make v)) (done (make x)) x xs [] h refl)

same_lag : (row last : ℕ) (a : Lag) → RowLag row last a → lag_of row (pos a.to) a.weight ≡ a
same_lag row last a h = ap (λ (i : ℕ). record { from = i; to = a.to; weight = a.weight }) (sym h.from)

lags_again : (row last : ℕ) (lags : List Lag) → AllByRecursion (RowLag row last) lags
    → Reaches (lags_to row (map (λ a. pos a.to) lags)) (map (λ a. a.weight) lags) (done lags)
unfolding lags_to
lags_again row last [] h = refl
lags_again row last (a ∷ lags) h = (
  is_between_from (neg_ℤ MAX_LAG_WEIGHT) MAX_LAG_WEIGHT a.weight h.0.light.at_least h.0.light.at_most,
  subst (λ (b : Lag). Reaches (lags_to row (map (λ a. pos a.to) lags) >>= λ others.
      done (lag_of row (pos a.to) a.weight ∷ others)) (map (λ a. a.weight) lags) (done (b ∷ lags)))
      (same_lag row last a h.0)
      (Reaches-made (lags_to row (map (λ a. pos a.to) lags)) (λ others. lag_of row (pos a.to) a.weight ∷ others) lags
      (map (λ a. a.weight) lags) (lags_again row last lags h.1)),
)

ends_fit : (row last : ℕ) (lags : List Lag) → AllByRecursion (RowLag row last) lags
    → AllByRecursion (λ z. fits (places.Successor row last) z ≡ true) (map (λ a. pos a.to) lags)
ends_fit row last [] h = tt
ends_fit row last (a ∷ lags) h = (
  is_between_from (pos 0) (pos last) (pos a.to) (omega (arith, ints))
      (let t = h.0.to in omega (arith, ints)),
  ends_fit row last lags h.1,
)

pub network_row_again : (last left row : ℕ) (own : List Lag) → length own ≤ left → AllByRecursion (RowLag row last) own
    → Reaches (network_row last left row) (row_numbers row own) (done own)
unfolding network_row
network_row_again last left row own few each =
    let ends = map (λ (a : Lag). pos a.to) own in
    let len : length ends ≡ length own = length-map own (λ a. pos a.to) in
    let row_there : Reaches (row_of (length own) (places.Successor row last)) ends (done ends) =
    subst (λ (n : ℕ). Reaches (row_of n (places.Successor row last)) ends (done ends)) len
    (row_again (places.Successor row last) ends (ends_fit row last own each)) in (
      is_between_from (pos row) (pos row) (pos row) (omega (arith, ints)) (omega (arith, ints)),
      (
        is_between_from (pos 1) (pos 1) (pos 1) (omega (arith, ints)) (omega (arith, ints)),
        (
          is_between_from (pos 0) (pos left) (pos (length own)) (omega (arith, ints)) (omega (arith, ints)),
          Reaches-bind (row_of (length own) (places.Successor row last)) (λ e. lags_to row e) (done own) ends ends
              (map (λ a. a.weight) own) row_there (lags_again row last own each),
        ),
      ),
    )

-- ---- The numbers of all the network rows lead the layout to their end.

-- the arcs of one row, and those after it
record Split (row last below : ℕ) (lags : List Lag) : Type 0 where
  own : List Lag
  later : List Lag
  parts : lags ≡ own ++ later
  own_row : AllByRecursion (RowLag row last) own
  order : AreInOrder (row + 1) later
  ends : AllByRecursion (IsEnd last below) later

split_at : (row last below : ℕ) (a : Lag) (lags : List Lag) (b : Bool) → eqb a.from row ≡ b → row ≤ a.from
    → AreInOrder a.from lags → IsEnd last below a → AllByRecursion (IsEnd last below) lags
    → (a.from ≡ row → Split row last below lags) → Split row last below (a ∷ lags)
split_at row last below a lags true e le order end ends ih =
    let same = eqb-true a.from row e in
    let s = ih same in
    record {
      own = a ∷ s.own;
      later = s.later;
      parts = ap (λ (r : List Lag). a ∷ r) s.parts;
      own_row =
          (record { from = same; to = end.0; light = end.2 }, s.own_row);
      order = s.order;
      ends = s.ends;
    }
split_at row last below a lags false e le order end ends ih =
    let differ : a.from ≡ row → ⊥ = λ same. let t = eq-eqb a.from row same in absurd cc in
    let above : row + 1 ≤ a.from = omega (arith, differ) in
    record { own = []; later = a ∷ lags; parts = refl; own_row = tt; order = (above, order); ends = (end, ends) }

split_row : (row last below : ℕ) (lags : List Lag) → AreInOrder row lags → AllByRecursion (IsEnd last below) lags → Split row last below lags
split_row row last below [] order ends = record { own = []; later = []; parts = refl; own_row = tt; order = tt; ends = tt }
split_row row last below (a ∷ lags) order ends =
    split_at row last below a lags (eqb a.from row) refl order.0 order.1 ends.0 ends.1
    (λ same. split_row row last below lags (subst (λ (r : ℕ). AreInOrder r lags) same order.1) ends.1)

-- the numbers of the rows, by the arcs of the first and those after it
numbers_split : (rows row last : ℕ) (own later : List Lag) → AllByRecursion (RowLag row last) own
    → AreInOrder (row + 1) later → network_numbers (suc rows) row (own ++ later) ≡ row_numbers row own ++
    network_numbers rows (row + 1) later
numbers_split rows row last own later h order =
    let here : lags_from row (own ++ later) ≡ own = filter-append (λ a. eqb a.from row) own later
    ∙ ap (λ (r : List Lag). r ++ lags_from row later) (kept row last own h)
    ∙ ap (λ (r : List Lag). own ++ r) (later_gone row (row + 1) later (omega arith) order) ∙ append-nil own in
    let rest = skipped rows (row + 1) row last own later (omega arith) h in
    let grouped : (map (λ a. pos a.to) own ++ map (λ a. a.weight) own) ++ network_numbers rows (row + 1) later ≡ map
    (λ a. pos a.to) own ++ (map (λ a. a.weight) own ++ network_numbers rows (row + 1) later) =
    append_assoc (map (λ a. pos a.to) own) (map (λ a. a.weight) own) (network_numbers rows (row + 1) later) in
    rw (here, rest) (sym (ap (λ (r : List ℤ). pos row ∷ pos 1 ∷ pos (length own) ∷ r) grouped))

pub network_rows_again : (rows last left row below : ℕ) (lags : List Lag) → below ≡ row + rows → length lags ≤ left
    → AreInOrder row lags → AllByRecursion (IsEnd last below) lags
    → Reaches (network_rows rows last left row) (network_numbers rows row lags) (done lags)
unfolding network_rows
network_rows_again zero last left row below [] e few order ends = refl
network_rows_again zero last left row below (a ∷ lags) e few order ends = absurd (omega (arith, e, order.0, ends.0.1))
network_rows_again (suc rows) last left row below lags e few order ends =
    let s = split_row row last below lags order ends in
    let sizes : length lags ≡ length s.own + length s.later = ap length s.parts ∙ length-append s.own s.later in
    let first = network_row_again last left row s.own (omega (arith, sizes, few)) s.own_row in
    let rest = network_rows_again rows last (left - length s.own) (row + 1) below s.later (omega (arith, e)) (omega (arith, sizes, few)) s.order s.ends in
    let both = Reaches-bind (network_row last left row)
    (λ own. network_rows rows last (left - length own) (row + 1) >>= λ others. done (own ++ others))
    (done (s.own ++ s.later)) s.own (row_numbers row s.own) (network_numbers rows (row + 1) s.later) first
    (Reaches-made (network_rows rows last (left - length s.own) (row + 1)) (λ others. s.own ++ others) s.later (network_numbers rows (row + 1) s.later) rest) in
    let whole : Reaches (network_rows (suc rows) last left row) (network_numbers (suc rows) row (s.own ++ s.later))
    (done (s.own ++ s.later)) = subst (λ (zs : List ℤ).
    Reaches (network_rows (suc rows) last left row) zs (done (s.own ++ s.later)))
    (sym (numbers_split rows row last s.own s.later s.own_row s.order)) both in
    subst (λ (v : List Lag). Reaches (network_rows (suc rows) last left row) (network_numbers (suc rows) row v) (done v)) (sym s.parts) whole

-- ---- The given arcs of a project are those that the network rows take, in their order.

abbrev starts_rise : Lag → Lag → Type 0
starts_rise a b = a.from ≤ b.from

pub order_from : (from : ℕ) (lags : List Lag) → All (λ a. from ≤ a.from) lags → AllPairs (λ a b. a.from ≤ b.from) lags → AreInOrder from lags
order_from from [] low rise = tt
order_from from (a ∷ lags) low rise = (
  All-head (λ b. from ≤ b.from) a lags low,
  order_from a.from lags (λ j d lt. rise 0 (suc j) d (omega arith) (omega arith)) (λ i j d less inside. rise (suc i) (suc j) d (omega arith) (omega arith)),
)

-- no arc starts below the first, and none below one before it
pub record InOrder (from : ℕ) (lags : List Lag) : Type 0 where
  pub low : All (λ a. from ≤ a.from) lags
  pub rise : AllPairs (λ a b. a.from ≤ b.from) lags

pub in_order_all : (from : ℕ) (lags : List Lag) → AreInOrder from lags → InOrder from lags
in_order_all from [] h = record { low = All-nil (λ (a : Lag). from ≤ a.from); rise = λ i j d less inside. let no : j < 0 = inside in absurd (omega arith) }
in_order_all from (a ∷ lags) h =
    let others = in_order_all a.from lags h.1 in
    record {
      low = All-cons (λ (b : Lag). from ≤ b.from) a lags h.0
          (All-weaker (λ (b : Lag). a.from ≤ b.from) (λ (b : Lag). from ≤ b.from) (λ b le. omega (arith, h.0)) lags
          others.low);
      rise = AllPairs-cons starts_rise a lags others.low others.rise;
    }

end_is_lag : (last n : ℕ) → n ≡ last + 1 → (a : Lag) → IsEnd last n a → IsLag n a
end_is_lag last n e a h = record { from_activity = h.1; to_activity = omega (arith, h.0); light = h.2 }

lag_is_end : (last n : ℕ) → n ≡ last + 1 → (a : Lag) → IsLag n a → IsEnd last n a
lag_is_end last n e a h = (omega (arith, h.to_activity), h.from_activity, h.light)

pub lags_from_ends : (last n : ℕ) (lags : List Lag) → n ≡ last + 1 → AllByRecursion (IsEnd last n) lags → All (IsLag n) lags
lags_from_ends last n lags e h = All-weaker (IsEnd last n) (IsLag n) (end_is_lag last n e) lags (All-from_recursion (IsEnd last n) lags h)

pub ends_from_lags : (last n : ℕ) (lags : List Lag) → n ≡ last + 1 → All (IsLag n) lags → AllByRecursion (IsEnd last n) lags
ends_from_lags last n lags e h = recursion_from_All (IsEnd last n) lags (All-weaker (IsLag n) (IsEnd last n) (lag_is_end last n e) lags h)

-- ---- The arcs that are still to be written, as the rows of their activities take them from the front.

-- those from this activity on
pub record AreFrom (i : ℕ) (rest lags : List Lag) : Type 0 where
  pub order : AreInOrder i rest
  pub same : (j : ℕ) → i ≤ j → lags_from j rest ≡ lags_from j lags

-- the front that leads from an activity, and what follows it
record Cut (i : ℕ) (rest : List Lag) : Type 0 where
  own : take (prefix_len (λ a. eqb a.from i) rest) rest ≡ lags_from i rest
  order : AreInOrder (i + 1) (drop (prefix_len (λ a. eqb a.from i) rest) rest)
  same : (j : ℕ) → i + 1 ≤ j → lags_from j (drop (prefix_len (λ a. eqb a.from i) rest) rest) ≡ lags_from j rest

one_more : (i : ℕ) (a : Lag) (rest : List Lag) → eqb a.from i ≡ true → prefix_len (λ a. eqb a.from i) (a ∷ rest) ≡ suc (prefix_len (λ a. eqb a.from i) rest)
one_more i a rest e = rw e (omega arith)

cut_at : (i : ℕ) (a : Lag) (rest : List Lag) (b : Bool) → eqb a.from i ≡ b → i ≤ a.from → AreInOrder a.from rest → (a.from ≡ i → Cut i rest) → Cut i (a ∷ rest)
cut_at i a rest true e le order ih =
    let is : a.from ≡ i = eqb-true a.from i e in
    let c = ih is in
    let more = one_more i a rest e in
    record {
      own = rw (more, e) (ap (λ (r : List Lag). a ∷ r) c.own);
      order = rw (more) c.order;
      same = λ j lt. rw (more, ne_eqb a.from j (λ same. omega (arith, is, same))) (c.same j lt);
    }
cut_at i a rest false e le order ih =
    let differ : a.from ≡ i → ⊥ = λ same. let t = eq-eqb a.from i same in absurd cc in
    let above : i + 1 ≤ a.from = omega (arith, differ) in
    let gone : lags_from i rest ≡ [] = later_gone i a.from rest (omega arith) order in
    record {
      own = rw (e, gone) refl;
      order = rw (e) (above, order);
      same = λ j lt. rw (e) refl;
    }

cut : (i : ℕ) (rest : List Lag) → AreInOrder i rest → Cut i rest
cut i [] order = record { own = refl; order = tt; same = λ j lt. refl }
cut i (a ∷ rest) order = cut_at i a rest (eqb a.from i) refl order.0 order.1 (λ is. cut i rest (subst (λ (r : ℕ). AreInOrder r rest) is order.1))

-- the front is the arcs from the activity
pub own_arcs : (i : ℕ) (rest lags : List Lag) → AreFrom i rest lags → take (prefix_len (λ a. eqb a.from i) rest) rest ≡ lags_from i lags
own_arcs i rest lags h = (cut i rest h.order).own ∙ h.same i (omega arith)

-- and what follows it is left for the next ones
pub later_arcs : (i : ℕ) (rest lags : List Lag) → AreFrom i rest lags → AreFrom (i + 1) (drop (prefix_len (λ a. eqb a.from i) rest) rest) lags
later_arcs i rest lags h =
    let c = cut i rest h.order in
    record { order = c.order; same = λ j lt. c.same j lt ∙ h.same j (omega arith) }

-- at first all of them are left
pub all_arcs : (p : Problem) → IsProject p → AreFrom 0 p.lags p.lags
all_arcs p is = record { order = order_from 0 p.lags (λ i d lt. omega arith) is.lags_rise; same = λ j lt. refl }
