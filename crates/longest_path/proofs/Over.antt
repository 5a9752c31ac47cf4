-- A row that takes the way over one arc, entry by entry.
use Rattle.std.proofs.Common.{◌≡◌, ◌≢◌, refl, sym, ◌∙◌, ap, subst, ℕ, ◌+◌, ◌<◌, ◌≤◌, Option, None, Some, ◌⊎◌, inl, inr, arith, ℤ, ◌+ℤ◌, List, [], ◌++◌, length}
use Rattle.std.proofs.Common.{◌-◌, Bool, true, false, ◌≤ℤ◌, ◌<ℤ◌, take, drop, length-drop, FitsSigned, IfSome, Vec, int_lt, if◌then◌else◌}
use Rattle.std.proofs.lemmas.Bool.{cases_eq, cases_lt}
use Rattle.std.proofs.Math.ListN.{get_or-eq_default}
use Rattle.network.specs.declared.parts.Lag.{Lag}
use Rattle.network.specs.Walk.{entry, IsMatrixOf, weight, Rows}
use Rattle.longest_path.specs.Matrix.{greater, joined, Reaches, IsSquare, IsRow, IsRelaxed, HasSmallSums, weight_at, placed_at, IsRowOver, HasEntriesWithin}
use Rattle.longest_path.specs.Matrix.{GainsNothingAt, nothing, weight_of}
use Rattle.longest_path.specs.Insert.{EndGains, entry_over, IsEntryOver, IsTransitive, IsReadyRow, IsReady, StartGainsNothing}
use Rattle.network.proofs.Walks.{IsWalk-append, weight-append}
use Rattle.longest_path.proofs.OneArc.{IsGreatest-matrix}
use Rattle.std.proofs.lemmas.Int.{ints}
use Rattle.std.specs.Int.{w64}
use Rattle.std.specs.declared.alloc.Global.{Global}
use Rattle.std.specs.Vec.{with_items}
use Rattle.std.proofs.lemmas.List.{with_items_is, get_or-take, get_or-drop, length-take-le}
use Rattle.longest_path.proofs.Reach.{at_Reaches, Reaches-weaker, greater_none, joined_none, greater_same, same_some, joined-some, joined-parts, int_lt-true}
use Rattle.longest_path.proofs.Reach.{int_lt-false}
use Rattle.longest_path.proofs.Weights.{IsSquare-inside}
use Rattle.longest_path.proofs.Cells.{placed_inside, column_cases, placed_outside}
use Rattle.network.specs.declared.limits.TheConstants.{MAX_LAG_WEIGHT, MAX_WALK_WEIGHT}
use Rattle.network.specs.Problem.{IsWithin}
use Rattle.longest_path.specs.declared.grid.TheConstants.{MAX_FIRST_WEIGHT}
use Rattle.std.specs.Bool.{MatchBool}
use Rattle.longest_path.specs.declared.insert.TheConstants.{MAX_WAY_WITH}

pub kept_by : (w : ℤ) (o p : Option ℤ) → ((y : ℤ) → p ≡ Some y → Reaches (w +ℤ y) o) → o ≡ greater o (joined (Some w) p)
kept_by w o None h = sym (greater_none o)
kept_by w None (Some y) h = let r = h y refl in let bad : None ≡ Some r.0 = r.1 in cc
kept_by w (Some x) (Some y) h = let le : (w +ℤ y) ≤ℤ x = at_Reaches (w +ℤ y) x (Some x) refl (h y refl) in sym (greater_same x (w +ℤ y) le)

pub over_nothing : (w : ℤ) (o p q : Option ℤ) → ((x y : ℤ) → p ≡ Some x → q ≡ Some y → Reaches (x +ℤ w +ℤ y) o) → o ≡ greater o (joined (joined p (Some w)) q)
over_nothing w o None q h = sym (greater_none o)
over_nothing w o (Some x) q h = kept_by (x +ℤ w) o q (λ y e. h x y refl e)

-- a row that the way's end gains nothing for stays
pub no_gain : (a to : ℕ) (w : ℤ) (via : List ℤ) (rows : Rows) → Reaches w (entry rows a to) →
    ((b : ℕ) (x y : ℤ) → entry rows a to ≡ Some x → weight_at via b ≡ Some y → Reaches (x +ℤ y) (entry rows a b)) → IsRowOver a (Some w) via rows rows
no_gain a to w via rows r closed = record {
  at = λ b. kept_by w (entry rows a b) (weight_at via b) (λ y e.
      let le : w ≤ℤ r.0 = r.2 in
      Reaches-weaker (w +ℤ y) (r.0 +ℤ y) (entry rows a b) (omega (arith, ints)) (closed b r.0 y r.1 e));
  others = λ x b ne. refl;
}

pub row_over : (a : ℕ) (first : ℤ) (via : List ℤ) (old new : Rows) → IsRelaxed a first via old new → IsRowOver a (Some first) via old new
row_over a first via old new r = record { at = r.at; others = r.others }

-- a row that no way over the arc gains for
pub nothing_over : (a to : ℕ) (first : Option ℤ) (via : List ℤ) (rows : Rows) → ((w : ℤ) → first ≡ Some w → Reaches w (entry rows a to)) →
    ((b : ℕ) (x y : ℤ) → entry rows a to ≡ Some x → weight_at via b ≡ Some y → Reaches (x +ℤ y) (entry rows a b)) → IsRowOver a first via rows rows
nothing_over a to None via rows h closed = record { at = λ b. sym (greater_none (entry rows a b)); others = λ x b ne. refl }
nothing_over a to (Some w) via rows h closed = no_gain a to w via rows (h w refl) closed

-- the rows below a went over the arc, and the others are as they were
pub record IsHalfOver (n : ℕ) (e : Lag) (a : ℕ) (old rows : Rows) : Type 0 where
  pub square : IsSquare n rows
  pub done : (x b : ℕ) → x < a → IsEntryOver e old x b (entry rows x b)
  pub rest : (x b : ℕ) → a ≤ x → entry rows x b ≡ entry old x b

-- the cells are those of the arc's end, but that there may be nothing in a column that gains nothing in the row
-- of the arc's start: no row gains there
abbrev pub HoldsGains : Lag → List ℤ → Rows → Type 0
HoldsGains e cells rows = (b : ℕ) → (weight_at cells b ≡ entry rows e.to b) ⊎ ((weight_at cells b ≡ None) × StartGainsNothing e rows b)

-- a column in which the row of the arc's start gains nothing: no row does
column_stays : (e : Lag) (a b : ℕ) (old : Rows) → IsTransitive old → StartGainsNothing e old b → entry old a b ≡ entry_over e old a b
column_stays e a b old transitive none = over_nothing e.weight (entry old a b) (entry old a e.from) (entry old e.to b) (λ x y p q.
    let r = none y q in
    let le : (e.weight +ℤ y) ≤ℤ r.0 = r.2 in
    Reaches-weaker (x +ℤ e.weight +ℤ y) (x +ℤ r.0) (entry old a b) (omega (arith, ints)) (transitive a e.from b x r.0 p r.1))

entry_gained : (e : Lag) (a b : ℕ) (via : List ℤ) (old : Rows) → IsTransitive old → HoldsGains e via old →
    greater (entry old a b) (joined (joined (entry old a e.from) (Some e.weight)) (weight_at via b)) ≡ entry_over e old a b
entry_gained e a b via old transitive holds = elim (holds b) [
  | inl is ↦ ap (λ (o : Option ℤ). greater (entry old a b) (joined (joined (entry old a e.from) (Some e.weight)) o)) is
  | inr p ↦ rw (p.0, joined_none (joined (entry old a e.from) (Some e.weight)), greater_none (entry old a b)) (column_stays e a b old transitive p.1)
]

pub half_more : (n : ℕ) (e : Lag) (a : ℕ) (via : List ℤ) (old rows new : Rows) → IsHalfOver n e a old rows → IsTransitive old → HoldsGains e via old →
    IsSquare n new → IsRowOver a (joined (entry rows a e.from) (Some e.weight)) via rows new → IsHalfOver n e (a + 1) old new
half_more n e a via old rows new h transitive holds square r = record {
  square = square;
  done = λ x b less. elim (cases_eq x a) [
    | inl p ↦ let le : a ≤ a = omega arith in
        let whole : entry new a b ≡ greater (entry old a b) (joined (joined (entry old a e.from) (Some e.weight)) (weight_at via b)) =
        rw (h.rest a e.from le, h.rest a b le) at (r.at b) in
        rw p (whole ∙ entry_gained e a b via old transitive holds)
    | inr ne ↦ let lt : x < a = omega arith in r.others x b ne ∙ h.done x b lt
  ];
  rest = λ x b more. let ne : x ≢ a = omega arith in let le : a ≤ x = omega arith in r.others x b ne ∙ h.rest x b le;
}

-- there is no entry below the last row
pub all_over : (n : ℕ) (e : Lag) (a : ℕ) (old rows : Rows) → IsHalfOver n e a old rows → length old ≡ n → n ≤ a
    → (x b : ℕ) → IsEntryOver e old x b (entry rows x b)
all_over n e a old rows h long whole x b = elim (cases_lt x a) [
  | inl lt ↦ h.done x b lt
  | inr ge ↦ let far : length old ≤ x = omega arith in h.rest x b ge ∙ rw (get_or-eq_default old [] far) refl
]

-- the rows below a went through m, and the others are as they were
pub record IsHalfThrough (n m a : ℕ) (old rows : Rows) : Type 0 where
  pub square : IsSquare n rows
  pub done : (x b : ℕ) → x < a → entry rows x b ≡ greater (entry old x b) (joined (entry old x m) (entry old m b))
  pub rest : (x b : ℕ) → a ≤ x → entry rows x b ≡ entry old x b

pub through_more : (n m a : ℕ) (via : List ℤ) (old rows new : Rows) → IsHalfThrough n m a old rows → IsRow m old via
    → IsSquare n new → IsRowOver a (entry rows a m) via rows new → IsHalfThrough n m (a + 1) old new
through_more n m a via old rows new h is square r = record {
  square = square;
  done = λ x b less. elim (cases_eq x a) [
    | inl p ↦ let le : a ≤ a = omega arith in
        let whole : entry new a b ≡ greater (entry old a b) (joined (entry old a m) (entry old m b)) =
        rw (h.rest a m le, h.rest a b le, is.says b) at (r.at b) in
        rw p whole
    | inr ne ↦ let lt : x < a = omega arith in r.others x b ne ∙ h.done x b lt
  ];
  rest = λ x b more. let ne : x ≢ a = omega arith in let le : a ≤ x = omega arith in r.others x b ne ∙ h.rest x b le;
}

-- sums of entries are small
pub small_over : (first : ℤ) (via : List ℤ) (old : Rows)
    → ((k : ℕ) (y : ℤ) → weight_at via k ≡ Some y → (a : ℕ) × (b : ℕ) × (entry old a b ≡ Some y))
    → IsWithin MAX_FIRST_WEIGHT first → HasEntriesWithin MAX_WALK_WEIGHT old → HasSmallSums first via
small_over first via old is p within = λ k y e.
    let at = is k y e in
    let q : IsWithin MAX_WALK_WEIGHT y = within at.0 at.1 y at.2 in
    record { at_most = omega (arith, ints); at_least = omega (arith, ints) }

pub small_through : (m a : ℕ) (first : ℤ) (via : List ℤ) (old : Rows) → IsRow m old via → entry old a m ≡ Some first
    → HasEntriesWithin MAX_WALK_WEIGHT old → HasSmallSums first via
small_through m a first via old is at within =
    let p : IsWithin MAX_WALK_WEIGHT first = within a m first at in
    small_over first via old (λ k y e. (m, k, sym (is.says k) ∙ e)) (record { at_most = omega (arith, ints); at_least = omega (arith, ints) }) within

pub one_sum_fits : (x w : ℤ) → IsWithin MAX_WALK_WEIGHT x → IsWithin MAX_WALK_WEIGHT w → FitsSigned w64 (x +ℤ w)
one_sum_fits x w p light = omega (arith, ints)

pub transitive : (n : ℕ) (arcs : List Lag) (rows : Rows) → IsMatrixOf n arcs rows → IsTransitive rows
transitive n arcs rows m a v b x y p q =
    let s : IsSquare n rows = record { rows_long = m.square.0; columns_long = m.square.1 } in
    let i = IsSquare-inside n a v x rows s p in
    let j = IsSquare-inside n v b y rows s q in
    let g = IsGreatest-matrix n arcs rows m in
    let f = g.attained a v x i.0 i.1 p in
    let h = g.attained v b y j.0 j.1 q in
    let r = g.covered a b (f.0 ++ h.0) i.0 j.1 (IsWalk-append arcs a v b f.0 h.0 f.1 h.1) in
    Reaches-weaker (x +ℤ y) (weight (f.0 ++ h.0)) (entry rows a b) (rw (weight-append f.0 h.0, f.2, h.2) (omega (arith, ints))) r

pub some_small : (o : Option ℤ) (via : List ℤ) → ((x : ℤ) → o ≡ Some x → HasSmallSums x via) → IfSome o (λ x. HasSmallSums x via)
some_small None via h = tt
some_small (Some x) via h = h x refl

pub wide_kept : (v : Vec ℤ Global) (cells : List ℤ) (rows : Rows) → length cells ≡ v.len → length cells ≡ length rows
    → length (with_items v cells).items ≡ length rows
wide_kept v cells rows same wide = ap length (with_items_is v cells same) ∙ wide

pub some_within : (o : Option ℤ) → ((x : ℤ) → o ≡ Some x → IsWithin MAX_WALK_WEIGHT x) → IfSome o (λ x. IsWithin MAX_FIRST_WEIGHT x)
some_within None h = tt
some_within (Some x) h =
    let k : IsWithin MAX_WALK_WEIGHT x = h x refl in
    record { at_most = omega (arith, ints); at_least = omega (arith, ints) }

pub sum_within : (x w : ℤ) → IsWithin MAX_WALK_WEIGHT x → IsWithin MAX_LAG_WEIGHT w → IsWithin MAX_FIRST_WEIGHT (x +ℤ w)
sum_within x w p light = record { at_most = omega (arith, ints); at_least = omega (arith, ints) }

pub some_sum_fits : (o : Option ℤ) (w : ℤ) → ((x : ℤ) → o ≡ Some x → IsWithin MAX_WALK_WEIGHT x)
    → IsWithin MAX_WALK_WEIGHT w → IfSome o (λ x. IfSome (Some w) (λ y. FitsSigned w64 (x +ℤ y)))
some_sum_fits None w h light = tt
some_sum_fits (Some x) w h light = one_sum_fits x w (h x refl) light

-- what the cells say are entries of the row of the arc's end
held : (e : Lag) (via : List ℤ) (rows : Rows) → HoldsGains e via rows → (b : ℕ) (y : ℤ) → weight_at via b ≡ Some y → entry rows e.to b ≡ Some y
held e via rows holds b y h = elim (holds b) [ inl is ↦ sym is ∙ h | inr p ↦ let bad : None ≡ Some y = sym p.0 ∙ h in cc ]

-- a row that was not gone over yet is ready
pub ready_row : (n a : ℕ) (e : Lag) (from : ℕ) (via : List ℤ) (old rows : Rows) → IsHalfOver n e a old rows → a < n
    → from + length via ≤ n → HoldsGains e (placed_at from via) old → length old ≡ n → IsReady e old
    → IsReadyRow a e from via rows
ready_row n a e from via old rows h low inside holds size ready =
    let le : a ≤ a = omega arith in
    let long : length rows ≡ n = h.square.rows_long in
    let gains_before : (w : ℤ) → EndGains e rows a w → EndGains e old a w = λ w g. record {
      over = ap (λ (o : Option ℤ). joined o (Some e.weight)) (sym (h.rest a e.from le)) ∙ g.over;
      more = λ r. g.more (rw (h.rest a e.to le) r);
    } in
    record {
      square = rw long h.square;
      row = rw long low;
      from_vertex = rw (long, sym size) ready.from_vertex;
      to_vertex = rw (long, sym size) ready.to_vertex;
      inside = rw long inside;
      light = ready.light;
      entry_fits = λ x p. ready.fits a e.from x (sym (h.rest a e.from le) ∙ p);
      first_fits = λ w g. ready.first_fits a w (gains_before w g);
      fits = λ w g. small_over w via old (λ k y q. (e.to, from + k, held e (placed_at from via) old holds (from + k) y (placed_inside from k via ∙ q)))
          (ready.first_fits a w (gains_before w g)) ready.fits;
      closed = λ b x y p q. rw (h.rest a b le) (ready.transitive a e.to b x y (sym (h.rest a e.to le) ∙ p) (held e (placed_at from via) old holds b y q));
    }

-- the way to the arc's start and over it
pub reached_at : (x w y : ℤ) (o p : Option ℤ) → o ≡ Some x → joined o (Some w) ≡ Some y → Reaches (x +ℤ w) p → Reaches y p
reached_at x w y o p read e r = rw (same_some (x +ℤ w) y (joined o (Some w)) (joined-some x w o (Some w) read refl) e) at r

first_is : (o : Option ℤ) (w first : ℤ) → joined o (Some w) ≡ Some first → (x : ℤ) × (o ≡ Some x) × (first ≡ x +ℤ w)
first_is o w first e =
    let parts = joined-parts first o (Some w) e in
    (parts.0, parts.2, parts.4 ∙ ap (λ t. parts.0 +ℤ t) (same_some parts.1 w (Some w) parts.3 refl))

pub first_within : (o : Option ℤ) (w first : ℤ) → joined o (Some w) ≡ Some first
    → ((x : ℤ) → o ≡ Some x → IsWithin MAX_WALK_WEIGHT x) → IsWithin MAX_LAG_WEIGHT w → IsWithin MAX_FIRST_WEIGHT first
first_within o w first e fits light = let is = first_is o w first e in let P : ℤ → Type 0 = λ z.
    IsWithin MAX_FIRST_WEIGHT z in subst P (sym is.2) (sum_within is.0 w (fits is.0 is.1) light)

-- ---- The columns in which the row of an arc's start gains.

-- what a cell says, by the test
said_by : (z w : ℤ) (t : Bool) → int_lt nothing z ≡ t → (if t then Some z else None) ≡ Some w → (z ≡ w) × (nothing <ℤ z)
said_by z w true e h = (same_some z w (Some z) refl h, int_lt-true nothing z e)
said_by z w false e h = cc

said : (z w : ℤ) → weight_of z ≡ Some w → (z ≡ w) × (nothing <ℤ z)
said z w h = said_by z w (int_lt nothing z) refl h

says : (z : ℤ) → nothing <ℤ z → weight_of z ≡ Some z
says z above = ap (λ t. if t then Some z else None) (yes nothing z above)
  where
    yes : (x y : ℤ) → x <ℤ y → int_lt x y ≡ true
    yes x y lt = grind (arith, ints)

match_by : (P Q : Type 0) (t : Bool) → (t ≡ true → P) → (t ≡ false → Q) → MatchBool t P Q
match_by P Q true p q = p refl
match_by P Q false p q = q refl

-- a cell is below the way's where the column gains
pub gain_test : (first : ℤ) (via row : List ℤ) (b : ℕ) (x way : ℤ) → nothing ≤ℤ x → weight_of x ≡ weight_at row b
    → weight_of way ≡ joined (Some first) (weight_at via b) →
    MatchBool (int_lt x way) (GainsNothingAt first via row b → ⊥) (GainsNothingAt first via row b)
gain_test first via row b x way low here is = match_by (GainsNothingAt first via row b → ⊥) (GainsNothingAt first via row b) (int_lt x way)
    (λ t none.
    let lt : x <ℤ way = int_lt-true x way t in
    let parts = joined-parts way (Some first) (weight_at via b) (sym is ∙ says way (omega (arith, ints))) in
    let at : first ≡ parts.0 = same_some first parts.0 (Some first) refl parts.2 in
    let r = none parts.1 parts.3 in
    let cell : x ≡ r.0 = (said x r.0 (here ∙ r.1)).0 in
    let le : (first +ℤ parts.1) ≤ℤ r.0 = r.2 in
    let sum : way ≡ parts.0 +ℤ parts.1 = parts.4 in
    absurd (omega (arith, ints)))
    (λ t y e.
    let ge : way ≤ℤ x = int_lt-false x way t in
    let there = said way (first +ℤ y) (is ∙ ap (joined (Some first)) e) in
    let at : way ≡ first +ℤ y = there.0 in
    let above : nothing <ℤ way = there.1 in
    (x, sym here ∙ says x (omega (arith, ints)), omega (arith, ints)))

pub one_more : (b : ℕ) (first : ℤ) (via row : List ℤ) → ((k : ℕ) → k < b → GainsNothingAt first via row k)
    → GainsNothingAt first via row b → (k : ℕ) → k < b + 1 → GainsNothingAt first via row k
one_more b first via row before here k lt = elim (cases_eq k b) [ inl e ↦ rw e here | inr ne ↦ before k (omega arith) ]

pub one_less : (end : ℕ) (first : ℤ) (via row : List ℤ) → 0 < end → ((k : ℕ) → end ≤ k → GainsNothingAt first via row k)
    → GainsNothingAt first via row (end - 1) → (k : ℕ) → end - 1 ≤ k → GainsNothingAt first via row k
one_less end first via row some after here k le = elim (cases_eq k (end - 1)) [ inl e ↦ rw e here | inr ne ↦ after k (omega arith) ]

pub small_arc : (e : Lag) (via : List ℤ) (rows : Rows) → IsReady e rows → IsRow e.to rows via → HasSmallSums e.weight via
small_arc e via rows ready is =
    let light : IsWithin MAX_WALK_WEIGHT e.weight = ready.light in
    small_over e.weight via rows (λ k y h. (e.to, k, sym (is.says k) ∙ h)) (record { at_most = omega (arith, ints); at_least = omega (arith, ints) }) ready.fits

pub start_gains_nothing : (e : Lag) (row via : List ℤ) (rows : Rows) (b : ℕ) → IsRow e.from rows row
    → IsRow e.to rows via → GainsNothingAt e.weight via row b → StartGainsNothing e rows b
start_gains_nothing e row via rows b start end none = λ y h. rw (start.says b) at (none y (end.says b ∙ h))

pub part_long : (from end : ℕ) (via : List ℤ) → from ≤ end → end ≤ length via → length (take (end - from) (drop from via)) ≡ end - from
part_long from end via low inside = let rest = length-drop from via in length-take-le (end - from) (drop from via) (omega arith)

-- the part of the row of the arc's end that is left
pub holds_gains : (e : Lag) (from end : ℕ) (via : List ℤ) (rows : Rows) → IsRow e.to rows via → from ≤ end
    → end ≤ length rows → ((b : ℕ) → b < from → StartGainsNothing e rows b)
    → ((b : ℕ) → end ≤ b → StartGainsNothing e rows b) →
    HoldsGains e (placed_at from (take (end - from) (drop from via))) rows
holds_gains e from end via rows is low inside before after b =
    let long : length via ≡ length rows = is.long in
    let count = part_long from end via low (omega arith) in
    elim (column_cases from (length (take (end - from) (drop from via))) b) [
      | inl out ↦ inr (placed_outside from b (take (end - from) (drop from via)) out, elim out [ inl lt ↦ before b lt | inr ge ↦ after b (omega arith) ])
      | inr p ↦
          let lt : p.0 < end - from = rw count at p.1 in
          inl (rw p.2 (placed_inside from p.0 (take (end - from) (drop from via))
          ∙ ap weight_of (get_or-take (end - from) (drop from via) p.0 nothing lt
          ∙ get_or-drop from via p.0 nothing) ∙ is.says (from + p.0)))
    ]

-- ---- A way over one arc more fits.

pub way_small : (x y : ℤ) → IsWithin MAX_FIRST_WEIGHT x → IsWithin MAX_FIRST_WEIGHT y → IsWithin MAX_WAY_WITH (x +ℤ y)
way_small x y p q = record { at_most = omega (arith, ints); at_least = omega (arith, ints) }

pub way_fits : (z : ℤ) → IsWithin MAX_WAY_WITH z → FitsSigned w64 z
way_fits z p = omega (arith, ints)
