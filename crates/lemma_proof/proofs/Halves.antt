-- The two halves of a block: heads and tails, and what they tell.
use Rattle.std.proofs.Common.{◌≡◌, refl, sym, ◌∙◌, ap, subst, ℕ, ◌<◌, arith, ℤ, pos, ◌+ℤ◌, ◌≤ℤ◌, ◌<ℤ◌, Bool, true, false, List, [], ◌∷◌, ◌++◌, length, Option}
use Rattle.std.proofs.Common.{None, Some, inl, inr, ◌⊎◌}
use Rattle.std.specs.List.{Contains}
use Rattle.std.specs.Bool.{MatchBool}
use Rattle.std.specs.Option.{unwrap_or}
use Rattle.std.proofs.lemmas.Int.{ints}
use Rattle.std.proofs.lemmas.List.Elements.{Contains-append_cases, Contains-append_left, Contains-append_right, Contains-push_cases}
use Rattle.network.specs.declared.parts.Lag.{Lag}
use Rattle.network.specs.declared.limits.TheConstants.{MAX_WALK_WEIGHT}
use Rattle.network.specs.Problem.{IsWithin}
use Rattle.network.specs.Schedule.{start, Meets}
use Rattle.network.specs.Walk.{weight, IsMatrixOf, HasPositiveCycle, HasNoPositiveCycle, Rows, entry}
use Rattle.network.proofs.Schedules.{walk_holds}
use Rattle.longest_path.specs.Insert.{arc_of}
use Rattle.longest_path.specs.Matrix.{IsSquare}
use Rattle.longest_path.proofs.OneArc.{IsGreatest-matrix}
use Rattle.longest_path.proofs.Over.{transitive}
use Rattle.longest_path.proofs.Reach.{same_some}
use Rattle.longest_path.proofs.Weights.{square_of, IsSquare-inside}
use Rattle.lemma_proof.specs.Implied.{Implies, AreReached}
use Rattle.lemma_proof.specs.Heads.{HeadsOf, IsLight, IsTable, IsRowAt}
use Rattle.lemma_proof.specs.Rising.{AreAmong, AreThereAndBack, HaveRisen, IsLate, IsRisenBy, MeetEach}
use Rattle.lemma_proof.specs.Block.{converse_of, AreEnds, AreReaching, IsBlock, IsToldOf, told_by}
use Rattle.lemma_proof.specs.Halves.{AreConverse, AreHalves, AreLate, AreMet, AreRaised, AreToldBoth, AreTried, HaveBothRisen, IsCovered, IsListed, MayList}
use Rattle.lemma_proof.specs.Halves.{block_of, converses}
use Rattle.lemma_proof.proofs.Converse.{converse_back, converse_there, reached_back}
use Rattle.lemma_proof.proofs.Implying.{implied_part, implied_entry, implied_arc, implied_joined}
use Rattle.lemma_proof.proofs.Rising.{at_home, there_small}

-- ---- the other direction

pub converse_square : (rows columns : Rows) → AreConverse rows columns → IsTable columns → IsSquare (length rows) columns
converse_square rows columns c t = let P : ℕ → Type 0 = λ n. IsSquare n columns in subst P c.long (square_of columns t.matrix)

pub other_way : (rows columns : Rows) (there back : List ℤ) → AreConverse rows columns → IsTable columns → AreThereAndBack rows there back
    → AreThereAndBack columns back there
other_way rows columns there back c t both = record {
  long = both.back_long ∙ sym c.long;
  back_long = both.long ∙ sym c.long;
  met = λ a b w is.
      let ends = IsSquare-inside (length rows) a b w columns (converse_square rows columns c t) is in
      let on : (w +ℤ start back a) ≤ℤ start back b = both.back_met b a w (sym (c.entries b a ends.1 ends.0) ∙ is) in
      omega (arith, ints, on);
  back_met = λ a b w is.
      let ends = IsSquare-inside (length rows) a b w columns (converse_square rows columns c t) is in
      let on : (start there b +ℤ w) ≤ℤ start there a = both.met b a w (sym (c.entries b a ends.1 ends.0) ∙ is) in
      omega (arith, ints, on);
  low = both.back_low;
  back_low = both.low;
  closed = λ i li. let k = both.closed i (rw c.long at li) in omega (arith, ints, k);
}

pub converse_light : (rows columns : Rows) (e : Lag) → AreConverse rows columns → IsLight (length rows) e → IsLight (length columns) (converse_of e)
converse_light rows columns e c light = record { from_activity = rw c.long light.to_activity; to_activity = rw c.long light.from_activity; light = light.light }

pub among_converses : (arcs all : List Lag) → AreAmong arcs all → AreAmong (converses arcs) (converses all)
among_converses arcs all among e c = converse_back all (converse_of e) (among (converse_of e) (converse_there arcs e c))

pub reached_among : (rows : Rows) (arcs all : List Lag) (s : List ℤ) → AreAmong arcs all → AreReached (length rows) rows arcs s
    → AreReached (length rows) rows all s
reached_among rows arcs all s among reached i li own m =
    implied_part (own ++ arcs) (own ++ all) (arc_of 0 i (start s i)) (λ e c. elim (Contains-append_cases own arcs e c) [
      | inl first ↦ Contains-append_left own all e first
      | inr second ↦ Contains-append_right own all e (among e second)
    ]) (reached i li own m)

pub reaching_back : (rows columns : Rows) (more : List Lag) (s : List ℤ) → AreConverse rows columns → IsTable columns
    → AreReached (length columns) columns (converses more) s → AreReaching (length rows) rows more s
reaching_back rows columns more s c t reached = reached_back rows columns more (converses more) s (converse_square rows columns c t) c (converse_there more)
    reached

pub tails_small : (rows columns : Rows) (there back : List ℤ) → AreConverse rows columns → IsTable columns → AreThereAndBack rows there back → (i : ℕ)
    → i < length rows → IsWithin MAX_WALK_WEIGHT (start back i)
tails_small rows columns there back c t both i li = there_small columns back there t (other_way rows columns there back c t both) i (rw c.long li)

-- ---- what heads and tails tell

start_low : (rows : Rows) (there back : List ℤ) → IsTable rows → AreThereAndBack rows there back → start there 0 ≤ℤ pos 0
start_low rows there back t both = let k = both.closed 0 t.some in omega (arith, ints, k, both.back_low)

covered_met : (x y : HeadsOf) (e : Lag) → IsTable x.rows → AreThereAndBack x.rows x.heads y.heads → MeetEach x.arcs x.heads → IsLight (length x.rows) e
    → IsCovered x y e → Meets x.heads e
covered_met x y e t both between light covered = elim covered [
  | inl listed ↦ between e listed
  | inr touches ↦ by touches
]
  where
    by : (((e.from ≡ 0) × (e.weight ≤ℤ start x.heads e.to)) ⊎ ((e.to ≡ 0) × (e.weight ≤ℤ start y.heads e.from))) → Meets x.heads e
    by (inl (is, low)) =
        let first : start x.heads e.from ≤ℤ pos 0 = rw is (start_low x.rows x.heads y.heads t both) in
        omega (arith, ints, first, low)
    by (inr (is, low)) =
        let round : (start x.heads e.from +ℤ start y.heads e.from) ≤ℤ pos 0 = both.closed e.from light.from_activity in
        let last : pos 0 ≤ℤ start x.heads e.to = rw is both.low in
        omega (arith, ints, round, last, low)

all_met : (more : List Lag) (x y : HeadsOf) → IsTable x.rows → AreHalves more x y true → (own : List Lag) → IsMatrixOf (length x.rows) own x.rows → (e : Lag)
    → Contains (own ++ more) e → Meets x.heads e
all_met more x y h halves own m e c = elim (Contains-append_cases own more e c) [
  | inl first ↦
      let ends = m.inside e first in
      let there = (IsGreatest-matrix (length x.rows) own x.rows m).covered e.from e.to (e ∷ []) ends.0 ends.1 (first, refl, refl) in
      let le : weight (e ∷ []) ≤ℤ there.0 = there.2 in
      let on : (start x.heads e.from +ℤ there.0) ≤ℤ start x.heads e.to = halves.both.met e.from e.to there.0 there.1 in
      omega (arith, ints)
  | inr second ↦ covered_met x y e h halves.both halves.met.between (halves.light e second) (halves.met.covered e second)
]

pub live_told : (more : List Lag) (x y : HeadsOf) → IsTable x.rows → AreHalves more x y true → (own : List Lag) → IsMatrixOf (length x.rows) own x.rows
    → HasNoPositiveCycle (own ++ more)
live_told more x y h halves own m a es w =
    let round : (start x.heads a +ℤ weight es) ≤ℤ start x.heads a = walk_holds (own ++ more) x.heads (all_met more x y h halves own m) a a es w in
    omega (arith, ints)

-- a way from 0 over one of the arcs and back that weighs more than 0
cycle_there : (more : List Lag) (x y : HeadsOf) (settled : Bool) (e : Lag) → IsTable y.rows → AreHalves more x y settled → Contains more e
    → pos 0 <ℤ ((start x.heads e.from +ℤ e.weight) +ℤ start y.heads e.to) → (own : List Lag) → IsMatrixOf (length x.rows) own x.rows
    → HasPositiveCycle (own ++ more)
cycle_there more x y settled e k halves there above own m =
    let light = halves.light e there in
    let first : Implies (own ++ more) (arc_of 0 e.from (start x.heads e.from)) = halves.reached e.from light.from_activity own m in
    let over : Implies (own ++ more) (arc_of e.from e.to e.weight) = implied_arc (own ++ more) e (Contains-append_right own more e there) in
    let last : Implies (own ++ more) (arc_of e.to 0 (start y.heads e.to)) =
    reaching_back x.rows y.rows more y.heads halves.converse k halves.reaching e.to light.to_activity own m in
    let round = implied_joined (own ++ more) 0 e.to 0 (start x.heads e.from +ℤ e.weight) (start y.heads e.to)
    (implied_joined (own ++ more) 0 e.from e.to (start x.heads e.from) e.weight first over) last in
    let high : ((start x.heads e.from +ℤ e.weight) +ℤ start y.heads e.to) ≤ℤ weight round.walk = round.weighs in
    (0, round.walk, record { closed = round.goes; positive = omega (arith, ints, above) })

pub is_block : (more : List Lag) (x y : HeadsOf) (settled : Bool) → AreHalves more x y settled → IsTable x.rows → IsTable y.rows → IsBlock (block_of more x y)
is_block more x y settled halves h k = record {
  matrix = h.matrix;
  full = h.full;
  some = h.some;
  light = halves.light;
  ends = record { reached = halves.reached; reaching = reaching_back x.rows y.rows more y.heads halves.converse k halves.reaching };
}

-- ---- with no arc beside the matrix

pub first_both : (rows columns : Rows) (heads tails : List ℤ) → IsTable rows → AreConverse rows columns → IsRowAt rows 0 heads → IsRowAt columns 0 tails
    → AreThereAndBack rows heads tails
first_both rows columns heads tails t c one two =
    let column : (b : ℕ) → b < length rows → entry rows b 0 ≡ Some (start tails b) = λ b lb. sym (c.entries b 0 lb t.some) ∙ two.says b (rw c.long lb) in
    record {
      long = one.long;
      back_long = two.long ∙ c.long;
      met = λ a b w is.
          let ends = IsSquare-inside (length rows) a b w rows (square_of rows t.matrix) is in
          let through = transitive (length rows) t.matrix.arcs rows t.matrix.matrix 0 a b (start heads a) w (one.says a ends.0) is in
          let same : through.0 ≡ start heads b = same_some through.0 (start heads b) (entry rows 0 b) through.1 (one.says b ends.1) in
          let on : (start heads a +ℤ w) ≤ℤ through.0 = through.2 in
          omega (arith, ints, same, on);
      back_met = λ a b w is.
          let ends = IsSquare-inside (length rows) a b w rows (square_of rows t.matrix) is in
          let through = transitive (length rows) t.matrix.arcs rows t.matrix.matrix a b 0 w (start tails b) is (column b ends.1) in
          let same : through.0 ≡ start tails a = same_some through.0 (start tails a) (entry rows a 0) through.1 (column a ends.0) in
          let on : (w +ℤ start tails b) ≤ℤ through.0 = through.2 in
          omega (arith, ints, same, on);
      low = by_home (start heads 0) (one.says 0 t.some);
      back_low = by_home (start tails 0) (column 0 t.some);
      closed = λ i li.
          let through = transitive (length rows) t.matrix.arcs rows t.matrix.matrix 0 i 0 (start heads i) (start tails i) (one.says i li) (column i li) in
          let on : (start heads i +ℤ start tails i) ≤ℤ through.0 = through.2 in
          let round : Implies t.matrix.arcs (arc_of 0 0 through.0) =
          implied_entry (length rows) t.matrix.arcs rows 0 0 through.0 t.matrix.matrix t.some t.some through.1 in
          let high : through.0 ≤ℤ weight round.walk = round.weighs in
          let low : weight round.walk ≤ℤ pos 0 = t.matrix.matrix.no_cycle 0 round.walk round.goes in
          omega (arith, ints, on, high, low);
    }
  where
    by_home : (z : ℤ) → entry rows 0 0 ≡ Some z → pos 0 ≤ℤ z
    by_home z is =
        let home = at_home rows t 0 t.some in
        let same : home.0 ≡ z = same_some home.0 z (entry rows 0 0) home.1 is in
        let low : pos 0 ≤ℤ home.0 = home.2 in
        omega (arith, ints, same, low)

pub first_reached : (rows : Rows) (more : List Lag) (heads : List ℤ) → IsTable rows → IsRowAt rows 0 heads → AreReached (length rows) rows more heads
first_reached rows more heads t one i li own m =
    implied_part own (own ++ more) (arc_of 0 i (start heads i)) (λ f d. Contains-append_left own more f d)
    (implied_entry (length rows) own rows 0 i (start heads i) m t.some li (one.says i li))

none_in : (P : Lag → Type 0) (e : Lag) → Contains [] e → P e
none_in P e c = absurd (omega (arith, c.1))

pub first_halves : (x y : HeadsOf) → AreConverse x.rows y.rows → IsTable x.rows → IsTable y.rows → x.arcs ≡ [] → y.arcs ≡ [] → IsRowAt x.rows 0 x.heads
    → IsRowAt y.rows 0 y.heads → AreThereAndBack x.rows x.tried y.tried → AreHalves [] x y true
first_halves x y c t u none back_none one two tried = record {
  converse = c;
  light = none_in (IsLight (length x.rows));
  part = λ e there. rw none at there;
  back_part = λ e there. rw back_none at there;
  both = first_both x.rows y.rows x.heads y.heads t c one two;
  tried = tried;
  reached = first_reached x.rows [] x.heads t one;
  reaching = first_reached y.rows [] y.heads u two;
  met = record { between = λ e there. none_in (Meets x.heads) e (rw none at there); covered = none_in (IsCovered x y) };
}

-- ---- an arc more

more_light : (n : ℕ) (more : List Lag) (e : Lag) → ((f : Lag) → Contains more f → IsLight n f) → IsLight n e → (f : Lag) → Contains (more ++ e ∷ []) f
    → IsLight n f
more_light n more e before light f c = elim (Contains-push_cases more e f c) [ inl old ↦ before f old | inr is ↦ subst (IsLight n) is light ]

newest : (more : List Lag) (e : Lag) → Contains (more ++ e ∷ []) e
newest more e = Contains-append_right more (e ∷ []) e (0, omega arith, refl)

pub unsettled : (more : List Lag) (x y : HeadsOf) (settled : Bool) → AreHalves more x y settled → AreHalves more x y false
unsettled more x y settled h = record {
  converse = h.converse;
  light = h.light;
  part = h.part;
  back_part = h.back_part;
  both = h.both;
  tried = h.tried;
  reached = h.reached;
  reaching = h.reaching;
  met = record {};
}

-- an arc beside the matrix that the halves may list
pub listed_halves : (more : List Lag) (x y x' y' : HeadsOf) (e : Lag) (settled : Bool) → AreHalves more x y settled → IsLight (length x.rows) e
    → MayList e x x' → MayList (converse_of e) y y' → AreHalves (more ++ e ∷ []) x' y' false
listed_halves more x y x' y' e settled h light one two =
    rw (one.same, two.same)
    (record {
      converse = h.converse;
      light = more_light (length x.rows) more e h.light light;
      part = λ f c. elim (one.only f c) [
        | inl old ↦ Contains-append_left more (e ∷ []) f (h.part f old)
        | inr is ↦ subst (Contains (more ++ e ∷ [])) is (newest more e)
      ];
      back_part = λ f c. elim (two.only f c) [
        | inl old ↦ among_converses more (more ++ e ∷ []) (λ g d. Contains-append_left more (e ∷ []) g d) f (h.back_part f old)
        | inr is ↦ subst (Contains (converses (more ++ e ∷ []))) is (converse_back (more ++ e ∷ []) e (newest more e))
      ];
      both = h.both;
      tried = h.tried;
      reached = reached_among x.rows more (more ++ e ∷ []) x.heads (λ g d. Contains-append_left more (e ∷ []) g d) h.reached;
      reaching = reached_among y.rows (converses more) (converses (more ++ e ∷ [])) y.heads
          (among_converses more (more ++ e ∷ []) (λ g d. Contains-append_left more (e ∷ []) g d)) h.reaching;
      met = record {};
    })

among_both : (e : Lag) (arcs all : List Lag) → Contains all e → AreAmong arcs all → AreAmong (e ∷ arcs) all
among_both e arcs all there among f c = elim (Contains-append_cases (e ∷ []) arcs f c) [
  | inl first ↦ elim (Contains-push_cases [] e f first) [ inl none ↦ absurd (omega (arith, none.1)) | inr is ↦ subst (Contains all) is there ]
  | inr second ↦ among f second
]

-- and by which they rise
pub risen_halves : (more : List Lag) (x y x' y' : HeadsOf) (e : Lag) → AreHalves more x y false → Contains more e → HaveBothRisen e x y x' y'
    → AreHalves more x' y' false
risen_halves more x y x' y' e h there risen =
    rw (risen.heads, risen.tails)
    (record {
      converse = h.converse;
      light = h.light;
      part = h.part;
      back_part = h.back_part;
      both = risen.both;
      tried = h.tried;
      reached = risen.reached more (among_both e x.arcs more there h.part) h.reached;
      reaching = risen.reaching (converses more) (among_both (converse_of e) y.arcs (converses more) (converse_back more e there) h.back_part) h.reaching;
      met = record {};
    })

met_before : (more : List Lag) (x y x' : HeadsOf) (e : Lag) → AreHalves more x y true → MayList e x x' → (f : Lag) → Contains x'.arcs f → Meets x'.heads f
    ⊎ (e ≡ f)
met_before more x y x' e h one f c = elim (one.only f c) [
  | inl old ↦ inl (rw one.same (h.met.between f old))
  | inr is ↦ inr is
]

-- heads and tails that met all arcs before meet one more that they rose by
pub met_more : (more : List Lag) (x y x' y' x'' y'' : HeadsOf) (e : Lag) → IsLight (length x.rows) e → AreHalves more x y true → MayList e x x'
    → MayList (converse_of e) y y' → IsListed e x'.arcs → HaveBothRisen e x' y' x'' y'' → AreRaised e x' y' x'' y'' true → AreMet (more ++ e ∷ []) x'' y''
met_more more x y x' y' x'' y'' e light h one two listed risen raised = record {
  between = λ f c. raised.met (met_before more x y x' e h one) f (rw arcs at c);
  covered = λ f c. elim (Contains-push_cases more e f c) [
    | inl old ↦ old_covered f (h.light f old) (h.met.covered f old)
    | inr is ↦ subst (IsCovered x'' y'') is new_covered
  ];
}
  where
    arcs : x''.arcs ≡ x'.arcs
    arcs = ap (λ (z : HeadsOf). z.arcs) risen.heads

    grown : (i : ℕ) → i < length x.rows → start x.heads i ≤ℤ start x''.heads i
    grown i li = rw one.same at (raised.grown i (rw one.same li))

    back_grown : (i : ℕ) → i < length x.rows → start y.heads i ≤ℤ start y''.heads i
    back_grown i li = rw two.same at (raised.back_grown i (rw one.same li))

    old_covered : (f : Lag) → IsLight (length x.rows) f → IsCovered x y f → IsCovered x'' y'' f
    old_covered f small (inl c) = inl (rw arcs (one.kept f c))
    old_covered f small (inr (inl (is, low))) = let up = grown f.to small.to_activity in inr (inl (is, omega (arith, ints, up, low)))
    old_covered f small (inr (inr (is, low))) = let up = back_grown f.from small.from_activity in inr (inr (is, omega (arith, ints, up, low)))

    by_listed : IsListed e x'.arcs → IsCovered x'' y'' e
    by_listed (inl c) = inl (rw arcs c)
    by_listed (inr (inl is)) =
        let first : pos 0 ≤ℤ start x'.heads e.from = rw (one.same, is) h.both.low in
        inr (inl (is, omega (arith, ints, first, raised.over)))
    by_listed (inr (inr is)) =
        let first : pos 0 ≤ℤ start y'.heads e.to = rw (two.same, is) h.both.back_low in
        inr (inr (is, omega (arith, ints, first, raised.back_over)))

    new_covered : IsCovered x'' y'' e
    new_covered = by_listed listed

pub settled_halves : (more : List Lag) (x y : HeadsOf) → AreHalves more x y false → AreMet more x y → AreHalves more x y true
settled_halves more x y h met = record {
  converse = h.converse;
  light = h.light;
  part = h.part;
  back_part = h.back_part;
  both = h.both;
  tried = h.tried;
  reached = h.reached;
  reaching = h.reaching;
  met = met;
}

late_among : (more : List Lag) (x y : HeadsOf) (e f : Lag) → AreHalves more x y false → Contains more e → Contains (e ∷ x.arcs) f
    ⊎ Contains (converse_of e ∷ y.arcs) (converse_of f) → Contains more f
late_among more x y e f h there (inl c) = among_both e x.arcs more there h.part f c
late_among more x y e f h there (inr c) = converse_there more (converse_of f)
    (among_both (converse_of e) y.arcs (converses more) (converse_back more e there) h.back_part (converse_of f) c)

pub late_told : (more : List Lag) (x y x' y' : HeadsOf) (e : Lag) → IsTable y.rows → AreHalves more x y false → Contains more e → HaveBothRisen e x y x' y'
    → AreLate e x y x' y' → (own : List Lag) → IsMatrixOf (length x'.rows) own x'.rows → HasPositiveCycle (own ++ more)
late_told more x y x' y' e t h there risen late own m =
    let k = risen_halves more x y x' y' e h there risen in
    let u : IsTable y'.rows = rw risen.tails t in
    cycle_there more x' y' false late.arc u k (late_among more x y e late.arc h there late.among) late.above own m

-- ---- a trial

pub tried_halves : (more : List Lag) (x y x' y' : HeadsOf) (e : Lag) (settled : Bool) → AreHalves more x y settled → AreTried e x y x' y'
    → AreHalves more x' y' settled
tried_halves more x y x' y' e settled h tried =
    rw (tried.heads, tried.tails)
    (record {
      converse = h.converse;
      light = h.light;
      part = h.part;
      back_part = h.back_part;
      both = h.both;
      tried = tried.both;
      reached = h.reached;
      reaching = h.reaching;
      met = by settled h.met;
    })
  where
    by : (b : Bool) → MatchBool b (AreMet more x y) (Unit {0})
        → MatchBool b (AreMet more (record x { tried = x'.tried }) (record y { tried = y'.tried })) (Unit {0})
    by true m = record { between = m.between; covered = m.covered }
    by false m = m

pub tried_ends : (more : List Lag) (x y x' y' : HeadsOf) (e : Lag) (settled : Bool) → IsTable y.rows → AreHalves more x y settled → AreTried e x y x' y'
    → AreEnds x.rows (more ++ e ∷ []) x'.tried y'.tried
tried_ends more x y x' y' e settled t h tried =
    let all : List Lag = more ++ e ∷ [] in
    let before : AreAmong more (more ++ e ∷ []) = λ f c. Contains-append_left more (e ∷ []) f c in
    let reached = tried.reached (more ++ e ∷ []) (among_both e x.arcs (more ++ e ∷ []) (newest more e) (λ f c. before f (h.part f c)))
    (reached_among x.rows more (more ++ e ∷ []) x.heads before h.reached) in
    let back = among_converses more (more ++ e ∷ []) before in
    let reaching = tried.reaching (converses (more ++ e ∷ []))
    (among_both (converse_of e) y.arcs (converses (more ++ e ∷ [])) (converse_back (more ++ e ∷ []) e (newest more e)) (λ f c. back f (h.back_part f c)))
    (reached_among y.rows (converses more) (converses (more ++ e ∷ [])) y.heads back h.reaching) in
    record { reached = reached; reaching = reaching_back x.rows y.rows (more ++ e ∷ []) y'.tried h.converse t reaching }

-- ---- both halves after one rise each

converse_sym : (rows columns : Rows) → AreConverse rows columns → AreConverse columns rows
converse_sym rows columns c = record { long = sym c.long; entries = λ a b la lb. sym (c.entries b a (rw c.long at lb) (rw c.long at la)) }

pub heads_risen : (e : Lag) (x y x' : HeadsOf) → x' ≡ record x { heads = x'.heads } → HaveRisen x.rows (e ∷ x.arcs) y.heads x.heads x'.heads
    → HaveBothRisen e x y x' y
heads_risen e x y x' same h = record { heads = same; tails = refl; both = h.both; reached = h.reached; reaching = λ all among r. r }

pub both_risen : (e : Lag) (x y x' y' : HeadsOf) → AreConverse x.rows y.rows → IsTable x.rows → x' ≡ record x { heads = x'.heads }
    → y' ≡ record y { heads = y'.heads } → HaveRisen x.rows (e ∷ x.arcs) y.heads x.heads x'.heads
    → HaveRisen y.rows (converse_of e ∷ y.arcs) x'.heads y.heads y'.heads → HaveBothRisen e x y x' y'
both_risen e x y x' y' c t same back_same h k = record {
  heads = same;
  tails = back_same;
  both = other_way y.rows x.rows y'.heads x'.heads (converse_sym x.rows y.rows c) t k.both;
  reached = h.reached;
  reaching = k.reached;
}

pub heads_late : (e : Lag) (x y x' : HeadsOf) → IsLate (e ∷ x.arcs) x'.heads y.heads → AreLate e x y x' y
heads_late e x y x' late = record { arc = late.arc; among = inl late.among; above = late.above }

pub tails_late : (e : Lag) (x y x' y' : HeadsOf) → IsLate (converse_of e ∷ y.arcs) y'.heads x'.heads → AreLate e x y x' y'
tails_late e x y x' y' late = record { arc = converse_of late.arc; among = inr late.among; above = let k = late.above in omega (arith, ints, k) }

pub both_raised : (e : Lag) (x y x' y' : HeadsOf) (first second settled : Bool) → AreConverse x.rows y.rows
    → HaveRisen x.rows (e ∷ x.arcs) y.heads x.heads x'.heads → HaveRisen y.rows (converse_of e ∷ y.arcs) x'.heads y.heads y'.heads
    → IsRisenBy e x.arcs y.heads x.heads x'.heads (Some first) → IsRisenBy (converse_of e) y.arcs x'.heads y.heads y'.heads (Some second)
    → (settled ≡ true → first ≡ true) → AreRaised e x y x' y' settled
both_raised e x y x' y' first second settled c h k told back_told both = record {
  over = told.0;
  back_over = back_told.0;
  grown = h.grown;
  back_grown = λ i li. k.grown i (rw c.long li);
  met = by settled both;
}
  where
    met : first ≡ true → ((f : Lag) → Contains x.arcs f → Meets x.heads f ⊎ (e ≡ f)) → MeetEach x.arcs x'.heads
    met is = rw is at told.1

    by : (b : Bool) → (b ≡ true → first ≡ true) → MatchBool b (((f : Lag) → Contains x.arcs f → Meets x.heads f ⊎ (e ≡ f)) → MeetEach x.arcs x'.heads)
        (Unit {0})
    by true is = met (is refl)
    by false is = tt

still_tried : (x b z : HeadsOf) → b ≡ record x { tried = x.heads } → z ≡ record b { tried = z.tried } → z ≡ record x { tried = z.tried }
still_tried x b z first next = next ∙ ap (λ (h : HeadsOf). record h { tried = z.tried }) first

pub both_tried : (e : Lag) (x y b d x' y' : HeadsOf) → AreConverse x.rows y.rows → IsTable x.rows → b ≡ record x { tried = x.heads }
    → d ≡ record y { tried = y.heads } → x' ≡ record b { tried = x'.tried } → y' ≡ record d { tried = y'.tried }
    → HaveRisen x.rows (e ∷ x.arcs) y.heads x.heads x'.tried → HaveRisen y.rows (converse_of e ∷ y.arcs) x'.tried y.heads y'.tried → AreTried e x y x' y'
both_tried e x y b d x' y' c t begun back_begun same back_same h k = record {
  heads = still_tried x b x' begun same;
  tails = still_tried y d y' back_begun back_same;
  both = other_way y.rows x.rows y'.tried x'.tried (converse_sym x.rows y.rows c) t k.both;
  reached = h.reached;
  reaching = k.reached;
}

-- ---- a block that begins anew, and one with an arc more

pub begun_halves : (more : List Lag) (x y x' y' : HeadsOf) (settled : Bool) → AreHalves more x y settled → IsTable x.rows → IsTable y.rows
    → x' ≡ record x { arcs = []; heads = x'.heads } → y' ≡ record y { arcs = []; heads = y'.heads } → IsRowAt x.rows 0 x'.heads → IsRowAt y.rows 0 y'.heads
    → AreHalves [] x' y' true
begun_halves more x y x' y' settled h t u same back_same one two =
    let begun : HeadsOf = record x { arcs = []; heads = x'.heads } in
    let back : HeadsOf = record y { arcs = []; heads = y'.heads } in
    subst (λ (a : HeadsOf). AreHalves [] a y' true) (sym same)
    (subst (λ (a : HeadsOf). AreHalves [] (record x { arcs = []; heads = x'.heads }) a true) (sym back_same)
    (first_halves begun back h.converse t u refl refl one two h.tried))

pub told_halves : (more : List Lag) (x y x' y' x'' y'' : HeadsOf) (e : Lag) (told : Option Bool) → IsLight (length x.rows) e → AreHalves more x y true
    → MayList e x x' → MayList (converse_of e) y y' → IsListed e x'.arcs → HaveBothRisen e x' y' x'' y'' → AreToldBoth e x' y' x'' y'' told
    → AreHalves (more ++ e ∷ []) x'' y'' (unwrap_or told false)
told_halves more x y x' y' x'' y'' e told light h one two listed risen by = by_told told by
  where
    here : AreHalves (more ++ e ∷ []) x'' y'' false
    here = risen_halves (more ++ e ∷ []) x' y' x'' y'' e (listed_halves more x y x' y' e true h light one two) (newest more e) risen

    by_told : (o : Option Bool) → AreToldBoth e x' y' x'' y'' o → AreHalves (more ++ e ∷ []) x'' y'' (unwrap_or o false)
    by_told None late = here
    by_told (Some false) raised = here
    by_told (Some true) raised = settled_halves (more ++ e ∷ []) x'' y'' here (met_more more x y x' y' x'' y'' e light h one two listed risen raised)

pub told_more : (more : List Lag) (x y x' y' x'' y'' : HeadsOf) (e : Lag) (told : Option Bool) → IsTable x.rows → IsTable y.rows → IsLight (length x.rows) e
    → AreHalves more x y true → MayList e x x' → MayList (converse_of e) y y' → IsListed e x'.arcs → HaveBothRisen e x' y' x'' y''
    → AreToldBoth e x' y' x'' y'' told → IsToldOf (length x''.rows) x''.rows (more ++ e ∷ []) (told_by told)
told_more more x y x' y' x'' y'' e told t u light h one two listed risen by = by_told told by
  where
    table : IsTable x''.rows
    table = subst (λ (a : HeadsOf). IsTable a.rows) (sym risen.heads) (subst (λ (a : HeadsOf). IsTable a.rows) (sym one.same) t)

    back_table : IsTable y'.rows
    back_table = subst (λ (a : HeadsOf). IsTable a.rows) (sym two.same) u

    by_told : (o : Option Bool) → AreToldBoth e x' y' x'' y'' o → IsToldOf (length x''.rows) x''.rows (more ++ e ∷ []) (told_by o)
    by_told None late = late_told (more ++ e ∷ []) x' y' x'' y'' e back_table (listed_halves more x y x' y' e true h light one two) (newest more e) risen late
    by_told (Some false) raised = tt
    by_told (Some true) raised = live_told (more ++ e ∷ []) x'' y'' table (told_halves more x y x' y' x'' y'' e (Some true) light h one two listed risen raised)
