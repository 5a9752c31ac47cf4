-- The bytes of a log.
use Rattle.std.specs.Prelude.{◌<◌, ◌≤◌, ℕ, ℤ, pos, ◌+◌, ◌*◌, ◌^◌, ◌-ℤ◌, neg_ℤ, if◌then◌else◌, ◌==◌, Bool, true, false}
use Rattle.std.specs.Prelude.{Some, None, List, [], ◌∷◌, ◌++◌, codes, length}
use Rattle.std.specs.List.{flat_map, sum_by, AllByRecursion}
use Rattle.std.specs.Ordering.{int_eq}
use Rattle.network.specs.declared.parts.Lag.{Lag}
use Rattle.network.specs.Problem.{IsWithin}
use Rattle.lemma_proof.specs.declared.line.Line.{Line}
use Rattle.lemma_proof.specs.declared.line.Line.TheVariants.{Force, Use, Push}
use Rattle.lemma_proof.specs.declared.line.Interval.{Interval}
use Rattle.lemma_proof.specs.declared.line.WindowOverload.{WindowOverload}
use Rattle.lemma_proof.specs.declared.line.WindowOverload.TheVariants.{Load, Clique, Tour}
use Rattle.lemma_log.specs.declared.event.Event.{Event}
use Rattle.lemma_log.specs.declared.event.Event.TheVariants as event
use Rattle.network.specs.declared.verdict.Verdict.{Verdict}
use Rattle.network.specs.declared.verdict.Verdict.TheVariants as verdict
use Rattle.lemma_log.specs.declared.writable.TheConstants.{MAX_ARCS, MAX_NUMBERS}
use Rattle.lemma_log.specs.Numbers.{number_text, signed_text}

-- what a log begins with
abbrev pub title_text : List ℕ
title_text = codes "record 3" ++ 10 ∷ []

-- ---- arcs

-- an arc from activity 0, another to activity 0, or one of others, by the remainder of the first number by 3
abbrev pub arc_text : Lag → List ℕ
arc_text e =
    if e.from == 0 then number_text (3 * e.to) ++ signed_text e.weight
    else if e.to == 0 then number_text (3 * e.from + 1) ++ signed_text (neg_ℤ e.weight)
    else number_text (3 * e.from + 2) ++ number_text e.to ++ signed_text e.weight

-- ---- lines, whose kind is the remainder of the first number by 8

-- where a window is that is so long
abbrev pub window_text : ℤ → ℤ → List ℕ
window_text from size = signed_text from ++ signed_text size

-- a load that shows an arc, or one that shows that no schedule is left; the first has a kind for windows of one period
abbrev pub load_text : Bool → ℕ → ℤ → ℤ → List ℕ
load_text false resource from size = number_text (8 * resource + 2) ++ window_text from size
load_text true resource from size =
    if int_eq size (pos 1) then number_text (8 * resource + 3) ++ signed_text from
    else number_text (8 * resource + 4) ++ window_text from size

abbrev pub clique_kind : Bool → ℕ
clique_kind false = 5
clique_kind true = 6

-- an activity, where its interval begins, and how long that is
abbrev pub interval_text : Interval → List ℕ
interval_text interval = number_text interval.activity ++ signed_text interval.at ++ number_text interval.length

-- what says whether a tour shows an arc
abbrev pub flag : Bool → ℕ
flag false = 0
flag true = 1

-- an overload that shows an arc, or not
abbrev pub overload_text : Bool → WindowOverload → List ℕ
overload_text shows (Load resource from to) = load_text shows resource from (to -ℤ from)
overload_text shows (Clique from to members) =
    number_text (8 * length members + clique_kind shows) ++ window_text from (to -ℤ from) ++ flat_map number_text members
overload_text shows (Tour from to intervals) =
    number_text (8 * length intervals + 7) ++ window_text from (to -ℤ from) ++ number_text (flag shows) ++ flat_map interval_text intervals

abbrev pub line_text : Line → List ℕ
line_text (Use slot) = number_text (8 * slot)
line_text (Force pair) = number_text (8 * pair.before + 1) ++ number_text pair.after
line_text (Push None over) = overload_text false over
line_text (Push (Some e) over) = overload_text true over ++ arc_text e

-- ---- events, whose kind is the remainder of the first number by 4

abbrev pub claim_text : Verdict → List ℕ
claim_text (verdict.Optimal makespan) = number_text (4 * 0 + 3) ++ signed_text makespan
claim_text (verdict.Bound bound) = number_text (4 * 1 + 3) ++ signed_text bound
claim_text verdict.NoSchedule = number_text (4 * 2 + 3)

-- an event without the number of its bytes
abbrev pub body_text : Event → List ℕ
body_text (event.Lemma slot arcs lines) =
    number_text (4 * slot) ++ number_text (length arcs) ++ flat_map arc_text arcs ++ flat_map line_text lines
body_text (event.Drop slot) = number_text (4 * slot + 1)
body_text (event.Schedule starts) = number_text (4 * length starts + 2) ++ flat_map signed_text starts
body_text (event.Claim c) = claim_text c

-- an event: how many bytes follow, and these
abbrev pub event_text : Event → List ℕ
event_text e = number_text (length (body_text e)) ++ body_text e

-- ---- what is read back

-- a slot, an activity, a resource, a length or a count within the limits
abbrev pub IsIndex : ℕ → Type 0
IsIndex n = n < 2 ^ 60

-- a weight, a start, a makespan, a bound or an end of a window within the limits
abbrev pub IsAmount : ℤ → Type 0
IsAmount v = IsWithin (pos (2 ^ 60)) v

pub record IsWritableArc (e : Lag) : Type 0 where
  pub from : IsIndex e.from
  pub to : IsIndex e.to
  pub weight : IsAmount e.weight

pub record IsWritableInterval (interval : Interval) : Type 0 where
  pub activity : IsIndex interval.activity
  pub at : IsAmount interval.at
  pub size : IsIndex interval.length

abbrev pub IsWritableOverload : WindowOverload → Type 0
IsWritableOverload (Load resource from to) = IsIndex resource × IsAmount from × IsAmount to
IsWritableOverload (Clique from to members) =
    IsIndex (length members) × IsAmount from × IsAmount to × AllByRecursion IsIndex members
IsWritableOverload (Tour from to intervals) =
    IsIndex (length intervals) × IsAmount from × IsAmount to × AllByRecursion IsWritableInterval intervals

-- of how many members or intervals an overload is
abbrev pub spread : WindowOverload → ℕ
spread (Load resource from to) = 0
spread (Clique from to members) = length members
spread (Tour from to intervals) = length intervals

-- how many numbers a line has at most
abbrev pub line_numbers : Line → ℕ
line_numbers (Use slot) = 2
line_numbers (Force pair) = 2
line_numbers (Push arc over) = 3 * spread over + 7

abbrev pub IsWritableLine : Line → Type 0
IsWritableLine (Use slot) = IsIndex slot
IsWritableLine (Force pair) = IsIndex pair.before × IsIndex pair.after
IsWritableLine (Push None over) = IsWritableOverload over
IsWritableLine (Push (Some e) over) = IsWritableOverload over × IsWritableArc e

abbrev pub IsWritableClaim : Verdict → Type 0
IsWritableClaim (verdict.Optimal makespan) = IsAmount makespan
IsWritableClaim (verdict.Bound bound) = IsAmount bound
IsWritableClaim verdict.NoSchedule = Unit {0}

abbrev pub IsWritableBody : Event → Type 0
IsWritableBody (event.Lemma slot arcs lines) =
    IsIndex slot × (length arcs ≤ MAX_ARCS) × AllByRecursion IsWritableArc arcs × AllByRecursion IsWritableLine lines
    × (sum_by line_numbers lines ≤ MAX_NUMBERS)
IsWritableBody (event.Drop slot) = IsIndex slot
IsWritableBody (event.Schedule starts) = IsIndex (length starts) × AllByRecursion IsAmount starts
IsWritableBody (event.Claim c) = IsWritableClaim c

-- an event all of whose numbers are within the limits, the number of its bytes and those of a lemma's arcs and lines too
pub record IsWritable (e : Event) : Type 0 where
  pub size : length (body_text e) < 2 ^ 63
  pub body : IsWritableBody e
