-- The proof of a lemma: lines of which each shows one arc more, until the arcs close a walk of positive weight.
use Rattle.std.specs.Prelude.{◌≡◌, ◌≢◌, ◌⊎◌, ◌++◌, ◌∷◌, [], ℕ, ℤ, pos, List, Option, None, Some, slice_get}
use Rattle.std.specs.List.{All, AllByRecursion, AllPairs}
use Rattle.std.specs.Option.{option_to_list}
use Rattle.network.specs.declared.parts.Lag.{Lag}
use Rattle.network.specs.declared.parts.Pair.{Pair}
use Rattle.network.specs.Problem.{IsTime, IsWithin, Problem, pair_arc}
use Rattle.network.specs.Schedule.{Meets, IsFeasible}
use Rattle.network.specs.Walk.{HasPositiveCycle}
use Rattle.longest_path.specs.Insert.{arc_of}
use Rattle.forbidden_sets.specs.Incompatible.{AreIncompatible}
use Rattle.lemma_proof.specs.Reasons.{EndsAfterStart, Implies, IsClique, IsLoad, JoinsActivities, reverse_of}
pub use Rattle.lemma_proof.specs.Slots.{IsIn, Slots}
use Rattle.lemma_proof.specs.Slots.{HaveDelays, IsSmall}
use Rattle.lemma_proof.specs.Tours.{IsTour}
use Rattle.lemma_proof.specs.declared.weights.TheConstants.{MAX_ARC_WEIGHT}
use Rattle.lemma_proof.specs.declared.line.Interval.{Interval}
use Rattle.lemma_proof.specs.declared.line.Line.{Line}
use Rattle.lemma_proof.specs.declared.line.Line.TheVariants.{Force, Use, Push}
use Rattle.lemma_proof.specs.declared.line.WindowOverload.{WindowOverload}
use Rattle.lemma_proof.specs.declared.line.WindowOverload.TheVariants.{Load, Clique, Tour}

-- an arc between two activities, with a weight within the limits
pub record IsArc (p : Problem) (e : Lag) : Type 0 where
  pub joins : JoinsActivities p e
  pub light : IsWithin MAX_ARC_WEIGHT e.weight

-- both ends of the window are times
pub record IsWindow (from to : ℤ) : Type 0 where
  pub from_time : IsTime from
  pub to_time : IsTime to

-- no starts meet this arc
abbrev pub impossible : Lag
impossible = arc_of 0 0 (pos 1)

-- the two can't run at the same time, and the second can't come first (immediate selection, after Carlier and
-- Pinson 1989)
pub record IsForced (p : Problem) (arcs : List Lag) (pair : Pair) : Type 0 where
  pub incompatible : AreIncompatible p pair
  pub too_late : EndsAfterStart p arcs pair.after pair.before

-- all arcs of the lemma are implied but one at most, which is this one
pub record IsLeft (arcs lemma : List Lag) (e : Lag) : Type 0 where
  pub place : ℕ
  pub is : slice_get lemma place ≡ Some e
  pub others : (i : ℕ) (f : Lag) → slice_get lemma i ≡ Some f → i ≢ place → Implies arcs f

-- the arc is the reverse of the one that the lemma of a slot leaves
pub record IsUse (lemmas : Slots) (arcs : List Lag) (slot : ℕ) (e : Lag) : Type 0 where
  pub lemma : List Lag
  pub found : IsIn lemmas slot lemma
  pub left : Lag
  pub is_left : IsLeft arcs lemma left
  pub reverse : e ≡ reverse_of left

-- what must run in a window asks for more than there is, or members that run one at a time, or intervals that lie one
-- after another, take longer than it is
abbrev pub IsOverload : Problem → Slots → List Lag → WindowOverload → Type 0
IsOverload p lemmas arcs (Load resource from to) = IsWindow from to × IsLoad p arcs resource from to
IsOverload p lemmas arcs (Clique from to members) = IsWindow from to × IsClique p arcs from to members
IsOverload p lemmas arcs (Tour from to intervals) = IsWindow from to × IsTour p lemmas arcs from to intervals

-- the arcs have the overload, so that no schedule meets them; or, where an arc is named, it is implied, or they have it
-- with the arc's reverse, so that each schedule which meets them meets the arc
abbrev pub IsPushed : Problem → Slots → List Lag → Option Lag → WindowOverload → Lag → Type 0
IsPushed p lemmas arcs None over e = IsOverload p lemmas arcs over × (e ≡ impossible)
IsPushed p lemmas arcs (Some f) over e =
    IsArc p f × (Implies arcs f ⊎ IsOverload p lemmas (arcs ++ reverse_of f ∷ []) over) × (e ≡ f)

-- the line shows of each schedule that meets these arcs, and all arcs of no lemma, that it meets one arc more
abbrev pub Shows : Problem → Slots → List Lag → Line → Lag → Type 0
Shows p lemmas arcs (Force pair) e = IsForced p arcs pair × (e ≡ pair_arc p pair)
Shows p lemmas arcs (Use slot) e = IsUse lemmas arcs slot e
Shows p lemmas arcs (Push arc over) e = IsPushed p lemmas arcs arc over e

-- the lines show arc after arc, until these close a walk of positive weight; the lines after that are idle
abbrev pub AreRefuted : Problem → Slots → List Lag → List Line → Type 0
AreRefuted p lemmas arcs [] = HasPositiveCycle arcs
AreRefuted p lemmas arcs (line ∷ lines) =
    HasPositiveCycle arcs ⊎ ((e : Lag) × Shows p lemmas arcs line e × AreRefuted p lemmas (arcs ++ e ∷ []) lines)

-- ---- What holds of refuted arcs.

-- the schedule meets all arcs of no lemma
abbrev pub MeetsNone : List ℤ → Slots → Type 0
MeetsNone s lemmas = (slot : ℕ) (lemma : List Lag) → IsIn lemmas slot lemma → ¬ All (Meets s) lemma

-- no feasible schedule meets refuted arcs and all arcs of no lemma
abbrev pub NoneMeetsRefuted : Type 0
NoneMeetsRefuted =
    (p : Problem) (lemmas : Slots) (arcs : List Lag) (lines : List Line) → AreRefuted p lemmas arcs lines →
    (s : List ℤ) → IsFeasible p s → MeetsNone s lemmas → All (Meets s) arcs → ⊥

-- some arcs imply each of these
abbrev pub ImplyAll : List Lag → List Lag → Type 0
ImplyAll others arcs = All (Implies others) arcs

-- the delays that lemmas say of two intervals are said there, too
abbrev pub KeepsDelays : Slots → Slots → Interval → Interval → Type 0
KeepsDelays others lemmas m k = HaveDelays lemmas m k → HaveDelays others m k

-- those of each two of the intervals are; of intervals beyond the limits nothing is used
abbrev pub HasDelays : Slots → Slots → WindowOverload → Type 0
HasDelays others lemmas (Load resource from to) = Unit {0}
HasDelays others lemmas (Clique from to members) = Unit {0}
HasDelays others lemmas (Tour from to intervals) = All IsSmall intervals → AllPairs (KeepsDelays others lemmas) intervals

-- what a line uses is there, too: a lemma in the same slot, or delays of the intervals of a tour
abbrev pub HasUsed : Slots → Slots → Line → Type 0
HasUsed others lemmas (Force pair) = Unit {0}
HasUsed others lemmas (Use slot) = (lemma : List Lag) → IsIn lemmas slot lemma → IsIn others slot lemma
HasUsed others lemmas (Push arc over) = HasDelays others lemmas over

-- what each of the lines uses is
abbrev pub HaveUsed : Slots → Slots → List Line → Type 0
HaveUsed others lemmas lines = AllByRecursion (HasUsed others lemmas) lines

-- what lines refute, they refute beside more arcs, and beside other lemmas that have those which they use
abbrev pub StayRefuted : Type 0
StayRefuted =
    (p : Problem) (lemmas others : Slots) (arcs more : List Lag) (lines : List Line) → AreRefuted p lemmas arcs lines →
    HaveUsed others lemmas lines → ImplyAll more arcs → AreRefuted p others more lines

-- each arc of each lemma is one between activities
abbrev pub AreLemmas : Problem → Slots → Type 0
AreLemmas p lemmas = (slot : ℕ) (lemma : List Lag) → IsIn lemmas slot lemma → All (IsArc p) lemma

-- ---- What refutes the arcs of a lemma beside those of the root.

-- the lemma's arcs are such, and lines refute them with the root's
pub record IsRefuted (p : Problem) (lemmas : Slots) (own arcs : List Lag) (lines : List Line) : Type 0 where
  pub are_arcs : All (IsArc p) arcs
  pub refuted : AreRefuted p lemmas (own ++ arcs) lines

-- the lines of these places
abbrev pub picked : List Line → List ℕ → List Line
picked lines [] = []
picked lines (place ∷ places) = option_to_list (slice_get lines place) ++ picked lines places
