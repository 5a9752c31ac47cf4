-- What lines refute, they refute beside more arcs, and beside other lemmas that have those which they use.
use Rattle.std.proofs.Common.{ℕ, get_or, List, [], arith, ℤ, pos, ◌≤ℤ◌, ◌<ℤ◌, ◌≡◌, subst, ⊎_elim, ◌⊎◌, inl, inr, ◌∷◌, ◌++◌, Option, None, Some}
use Rattle.std.specs.List.{All, AllPairs, Contains}
use Rattle.std.proofs.lemmas.Int.{ints}
use Rattle.std.proofs.lemmas.List.Elements.{All-contains, All-weaker, Contains-append_cases, Contains-append_left, Contains-append_right}
use Rattle.network.specs.declared.parts.Lag.{Lag}
use Rattle.network.specs.Problem.{Problem}
use Rattle.network.specs.Walk.{IsWalk, weight, HasPositiveCycle}
use Rattle.network.proofs.Walks.{IsWalk-append, weight-append}
use Rattle.lemma_proof.proofs.Implying.{implied_arc, implied_part}
use Rattle.lemma_proof.specs.Reasons.{Implies, IsClique, IsLoad, MustRun, RunApart, RunsWithin, StartsAfterEnd, reverse_of}
use Rattle.lemma_proof.specs.declared.line.Interval.{Interval}
use Rattle.lemma_proof.specs.declared.line.Line.{Line}
use Rattle.lemma_proof.specs.declared.line.Line.TheVariants.{Force, Use, Push}
use Rattle.lemma_proof.specs.declared.line.WindowOverload.{WindowOverload}
use Rattle.lemma_proof.specs.declared.line.WindowOverload.TheVariants.{Load, Clique, Tour}
use Rattle.lemma_proof.specs.Slots.{HaveDelays, IsSmall}
use Rattle.lemma_proof.specs.Tours.{BeginsAfterEnd, IsInterval, IsTour, LieApart, LiesWithin}
use Rattle.lemma_proof.specs.Lines.{AreRefuted, HasDelays, HasUsed, HaveUsed, KeepsDelays, IsIn, IsOverload, IsPushed, IsUse, Shows, Slots, StayRefuted}

-- what some arcs imply, more arcs do, too
abbrev pub Gives : List Lag → List Lag → Type 0
Gives more arcs = (e : Lag) → Contains arcs e → Implies more e

walk_given : (arcs more : List Lag) (a b : ℕ) (es : List Lag) → Gives more arcs → IsWalk arcs a es b → (walk : List Lag)
    × IsWalk more a walk b × (weight es ≤ℤ weight walk)
walk_given arcs more a b [] gives w = ([], w, omega (arith, ints))
walk_given arcs more a b (e ∷ es) gives w =
    let first = gives e w.0 in
    let le : e.weight ≤ℤ weight first.walk = first.weighs in
    let goes : IsWalk more a first.walk e.to = subst (λ (v : ℕ). IsWalk more v first.walk e.to) w.1 first.goes in
    let rest = walk_given arcs more e.to b es gives w.2 in
    let low : weight es ≤ℤ weight rest.0 = rest.2 in
    (first.walk ++ rest.0, IsWalk-append more a e.to b first.walk rest.0 goes rest.1, omega (arith, ints, weight-append first.walk rest.0))

pub implied_given : (arcs more : List Lag) (e : Lag) → Gives more arcs → Implies arcs e → Implies more e
implied_given arcs more e gives i =
    let there = walk_given arcs more e.from e.to i.walk gives i.goes in
    let le : e.weight ≤ℤ weight i.walk = i.weighs in
    let low : weight i.walk ≤ℤ weight there.0 = there.2 in
    record { walk = there.0; goes = there.1; weighs = omega (arith, ints) }

pub cycle_given : (arcs more : List Lag) → Gives more arcs → HasPositiveCycle arcs → HasPositiveCycle more
cycle_given arcs more gives cycle =
    let there = walk_given arcs more cycle.0 cycle.0 cycle.1 gives cycle.2.closed in
    let above : pos 0 <ℤ weight cycle.1 = cycle.2.positive in
    let low : weight cycle.1 ≤ℤ weight there.0 = there.2 in
    (cycle.0, there.0, record { closed = there.1; positive = omega (arith, ints) })

pub gives_more : (arcs more : List Lag) (e : Lag) → Gives more arcs → Gives (more ++ e ∷ []) (arcs ++ e ∷ [])
gives_more arcs more e gives f c =
    ⊎_elim
    (λ (old : Contains arcs f). implied_part more (more ++ e ∷ []) f (λ g d. Contains-append_left more (e ∷ []) g d) (gives f old))
    (λ (last : Contains (e ∷ []) f). implied_arc (more ++ e ∷ []) f (Contains-append_right more (e ∷ []) f last))
    (Contains-append_cases arcs (e ∷ []) f c)

-- ---- lemmas that stay where they are

has_delays : (others lemmas : Slots) → ((slot : ℕ) (lemma : List Lag) → IsIn lemmas slot lemma → IsIn others slot lemma)
    → (over : WindowOverload) → HasDelays others lemmas over
has_delays others lemmas have (Load resource from to) = tt
has_delays others lemmas have (Clique from to members) = tt
has_delays others lemmas have (Tour from to intervals) = λ small i j d lt inside known. record {
  slot = known.slot;
  says = record { lemma = known.says.lemma; found = have known.slot known.says.lemma known.says.found; says = known.says.says };
}

has_used : (others lemmas : Slots) → ((slot : ℕ) (lemma : List Lag) → IsIn lemmas slot lemma → IsIn others slot lemma)
    → (line : Line) → HasUsed others lemmas line
has_used others lemmas have (Force pair) = tt
has_used others lemmas have (Use slot) = have slot
has_used others lemmas have (Push arc over) = has_delays others lemmas have over

-- where all lemmas are there, so are those that lines use
pub have_used : (others lemmas : Slots) →
    ((slot : ℕ) (lemma : List Lag) → IsIn lemmas slot lemma → IsIn others slot lemma) → (lines : List Line)
    → HaveUsed others lemmas lines
have_used others lemmas have [] = record {}
have_used others lemmas have (line ∷ lines) = (has_used others lemmas have line, have_used others lemmas have lines)

-- ---- each reason

must_run_given : (p : Problem) (arcs more : List Lag) (from to : ℤ) (i m : ℕ) → Gives more arcs → MustRun p arcs from to i m → MustRun p more from to i m
must_run_given p arcs more from to i m gives r = record {
  within_activity = r.within_activity;
  within_window = r.within_window;
  late = implied_given arcs more _ gives r.late;
  early = implied_given arcs more _ gives r.early;
}

load_given : (p : Problem) (k : ℕ) (from to : ℤ) (arcs more : List Lag) → Gives more arcs → IsLoad p arcs k from to → IsLoad p more k from to
load_given p k from to arcs more gives l = record {
  in_range = l.in_range;
  units = l.units;
  some = l.some;
  window = l.window;
  parts = l.parts;
  each = λ i lt. ⊎_elim (λ (none : l.parts i ≡ 0). inl none)
      (λ (r : MustRun p arcs from to i (l.parts i)). inr (must_run_given p arcs more from to i (l.parts i) gives r))
      (l.each i lt);
  over = l.over;
}

apart_given : (p : Problem) (arcs more : List Lag) (i j : ℕ) → Gives more arcs → RunApart p arcs i j → RunApart p more i j
apart_given p arcs more i j gives apart =
    ⊎_elim
    (λ rivals. inl rivals)
    (λ (order : StartsAfterEnd p arcs i j ⊎ StartsAfterEnd p arcs j i). inr (⊎_elim
    (λ (one : StartsAfterEnd p arcs i j). inl (implied_given arcs more _ gives one))
    (λ (other : StartsAfterEnd p arcs j i). inr (implied_given arcs more _ gives other))
    order))
    apart

clique_given : (p : Problem) (from to : ℤ) (members : List ℕ) (arcs more : List Lag) → Gives more arcs
    → IsClique p arcs from to members → IsClique p more from to members
clique_given p from to members arcs more gives c = record {
  several = c.several;
  are_members = c.are_members;
  apart = λ i j d lt inside. apart_given p arcs more (get_or members i d) (get_or members j d) gives (c.apart i j d lt inside);
  inside = All-weaker (RunsWithin p arcs from to) (RunsWithin p more from to)
      (λ i r. record { late = implied_given arcs more _ gives r.late; early = implied_given arcs more _ gives r.early })
      members c.inside;
  over = c.over;
}

interval_apart : (lemmas others : Slots) (arcs more : List Lag) (m k : Interval) → KeepsDelays others lemmas m k
    → Gives more arcs → LieApart lemmas arcs m k → LieApart others more m k
interval_apart lemmas others arcs more m k kept gives apart =
    ⊎_elim
    (λ (first : BeginsAfterEnd arcs m k). inl (implied_given arcs more _ gives first))
    (λ (rest : BeginsAfterEnd arcs k m ⊎ HaveDelays lemmas m k). inr (⊎_elim
    (λ (second : BeginsAfterEnd arcs k m). inl (implied_given arcs more _ gives second))
    (λ (known : HaveDelays lemmas m k). inr (kept known))
    rest))
    apart

tour_given : (p : Problem) (lemmas others : Slots) (from to : ℤ) (intervals : List Interval) (arcs more : List Lag)
    → (All IsSmall intervals → AllPairs (KeepsDelays others lemmas) intervals) → Gives more arcs
    → IsTour p lemmas arcs from to intervals → IsTour p others more from to intervals
tour_given p lemmas others from to intervals arcs more have gives t =
    let small : All IsSmall intervals = All-weaker (IsInterval p) IsSmall (λ m is. is.small) intervals t.are_intervals in
    record {
      some = t.some;
      rising = t.rising;
      are_intervals = t.are_intervals;
      inside = All-weaker (LiesWithin arcs from to) (LiesWithin more from to)
          (λ m r. record { late = implied_given arcs more _ gives r.late; early = implied_given arcs more _ gives r.early })
          intervals t.inside;
      apart = λ i j d lt inside. interval_apart lemmas others arcs more (get_or intervals i d) (get_or intervals j d)
          (have small i j d lt inside) gives (t.apart i j d lt inside);
      over = t.over;
    }

overload_given : (p : Problem) (lemmas others : Slots) (over : WindowOverload) (arcs more : List Lag)
    → HasDelays others lemmas over → Gives more arcs → IsOverload p lemmas arcs over → IsOverload p others more over
overload_given p lemmas others (Load resource from to) arcs more have gives over = (over.0, load_given p resource from to arcs more gives over.1)
overload_given p lemmas others (Clique from to members) arcs more have gives over = (over.0, clique_given p from to members arcs more gives over.1)
overload_given p lemmas others (Tour from to intervals) arcs more have gives over = (
  over.0,
  tour_given p lemmas others from to intervals arcs more have gives over.1,
)

pushed_given : (p : Problem) (lemmas others : Slots) (arc : Option Lag) (over : WindowOverload) (arcs more : List Lag)
    (e : Lag) → HasDelays others lemmas over → Gives more arcs → IsPushed p lemmas arcs arc over e
    → IsPushed p others more arc over e
pushed_given p lemmas others None over arcs more e have gives pushed = (overload_given p lemmas others over arcs more have gives pushed.0, pushed.1)
pushed_given p lemmas others (Some f) over arcs more e have gives pushed = (
  pushed.0,
  ⊎_elim
      (λ (implied : Implies arcs f). inl (implied_given arcs more f gives implied))
      (λ (ends : IsOverload p lemmas (arcs ++ reverse_of f ∷ []) over).
      inr (overload_given p lemmas others over (arcs ++ reverse_of f ∷ []) (more ++ reverse_of f ∷ []) have
      (gives_more arcs more (reverse_of f) gives) ends))
      pushed.1,
  pushed.2,
)

use_given : (lemmas others : Slots) (slot : ℕ) (arcs more : List Lag) (e : Lag) → HasUsed others lemmas (Use slot)
    → Gives more arcs → IsUse lemmas arcs slot e → IsUse others more slot e
use_given lemmas others slot arcs more e has gives u = record {
  lemma = u.lemma;
  found = has u.lemma u.found;
  left = u.left;
  is_left = record { place = u.is_left.place; is = u.is_left.is; others = λ i f at other. implied_given arcs more f gives (u.is_left.others i f at other) };
  reverse = u.reverse;
}

pub shown_given : (p : Problem) (lemmas others : Slots) (arcs more : List Lag) (line : Line) (e : Lag)
    → HasUsed others lemmas line → Gives more arcs → Shows p lemmas arcs line e → Shows p others more line e
shown_given p lemmas others arcs more (Force pair) e has gives shown = (
  record { incompatible = shown.0.incompatible; too_late = implied_given arcs more _ gives shown.0.too_late },
  shown.1,
)
shown_given p lemmas others arcs more (Use slot) e has gives shown = use_given lemmas others slot arcs more e has gives shown
shown_given p lemmas others arcs more (Push arc over) e has gives shown = pushed_given p lemmas others arc over arcs more e has gives shown

pub refuted_given : (p : Problem) (lemmas others : Slots) (arcs more : List Lag) (lines : List Line)
    → HaveUsed others lemmas lines → Gives more arcs → AreRefuted p lemmas arcs lines → AreRefuted p others more lines
refuted_given p lemmas others arcs more [] have gives refuted = cycle_given arcs more gives refuted
refuted_given p lemmas others arcs more (line ∷ lines) have gives refuted =
    ⊎_elim
    (λ (cycle : HasPositiveCycle arcs). inl (cycle_given arcs more gives cycle))
    (λ (next : (e : Lag) × Shows p lemmas arcs line e × AreRefuted p lemmas (arcs ++ e ∷ []) lines).
    inr (
      next.0,
      shown_given p lemmas others arcs more line next.0 have.0 gives next.1,
      refuted_given p lemmas others (arcs ++ next.0 ∷ []) (more ++ next.0 ∷ []) lines have.1
          (gives_more arcs more next.0 gives) next.2,
    ))
    refuted

pub stay_refuted : StayRefuted
stay_refuted p lemmas others arcs more lines refuted have implied =
    refuted_given p lemmas others arcs more lines have (λ e c. All-contains (Implies more) arcs e implied c) refuted
