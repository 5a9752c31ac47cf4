-- How the bytes of a log are read.
use Rattle.std.specs.Prelude.{ℕ, Bool, false, zero, suc, ℤ, pos, negsuc, ◌-◌, ◌^◌, ◌/◌, ◌%◌, ◌+ℤ◌, neg_ℤ, if◌then◌else◌}
use Rattle.std.specs.Prelude.{◌==◌, ◌||◌, Option, Some, None, option_map, Result, Ok, Err, List, [], ◌∷◌, length}
use Rattle.std.specs.Prelude.{nat_lt, nat_eq, take, drop}
use Rattle.std.specs.List.{starts_with}
use Rattle.std.specs.Result.{result_ok}
use Rattle.network.specs.declared.parts.Lag.{Lag}
use Rattle.network.specs.Problem.{IsBetween}
use Rattle.lemma_proof.specs.declared.line.Line.{Line}
use Rattle.lemma_proof.specs.declared.line.Line.TheVariants.{Force, Use, Push}
use Rattle.lemma_proof.specs.declared.line.Interval.{Interval}
use Rattle.lemma_proof.specs.declared.line.WindowOverload.{WindowOverload}
use Rattle.lemma_proof.specs.declared.line.WindowOverload.TheVariants.{Load, Clique, Tour}
use Rattle.lemma_log.specs.declared.event.Event.{Event}
use Rattle.lemma_log.specs.declared.event.Event.TheVariants as event
use Rattle.network.specs.declared.verdict.Verdict.TheVariants as verdict
use Rattle.lemma_log.specs.declared.fault.DecodeFault.{DecodeFault}
use Rattle.lemma_log.specs.declared.fault.DecodeFault.TheVariants as fault
use Rattle.lemma_log.specs.declared.number.TheConstants.{MAX_DIGITS}
use Rattle.lemma_log.specs.declared.writable.TheConstants.{MAX_ARCS, MAX_BYTES}
use Rattle.lemma_log.specs.Numbers.{Part, digits_in}
use Rattle.lemma_log.specs.Text.{title_text}

-- ---- one part after another

-- what follows a part, read by its value
abbrev pub then_read : {A B : Type 0} → Option (Part A) → (A → List ℕ → Option B) → Option B
then_read (Some part) read = read part.value part.left
then_read None read = None

-- a part as another value
abbrev pub part_as : {A B : Type 0} → (A → B) → Option (Part A) → Option (Part B)
part_as of (Some part) = Some (record { value = of part.value; left = part.left })
part_as of None = None

-- so many parts
abbrev pub many_in : {A : Type 0} → (List ℕ → Option (Part A)) → ℕ → List ℕ → Option (Part (List A))
many_in read zero bytes = Some (record { value = []; left = bytes })
many_in read (suc count) bytes = then_read (read bytes) (λ x left. part_as (λ xs. x ∷ xs) (many_in read count left))

-- ---- numbers

unfoldable pub number_in : List ℕ → Option (Part ℕ)
number_in bytes = result_ok (digits_in MAX_DIGITS bytes)

abbrev pub unzigzag : ℕ → ℤ
unzigzag n = if n % 2 == 0 then pos (n / 2) else negsuc (n / 2)

-- one of two whole numbers whose sum fits 64 bits
abbrev pub IsAddend : ℤ → Type 0
IsAddend v = IsBetween (negsuc (2 ^ 62 - 1)) (pos (2 ^ 62 - 1)) v

unfoldable pub signed_in : List ℕ → Option (Part ℤ)
signed_in bytes = part_as unzigzag (number_in bytes)

-- ---- arcs

abbrev pub weighted : ℕ → ℕ → List ℕ → Option (Part Lag)
weighted from to bytes = part_as (λ v. record { from = from; to = to; weight = v }) (signed_in bytes)

abbrev pub arc_back : ℕ → List ℕ → Option (Part Lag)
arc_back from bytes = part_as (λ v. record { from = from; to = 0; weight = neg_ℤ v }) (signed_in bytes)

abbrev pub arc_between : ℕ → List ℕ → Option (Part Lag)
arc_between from bytes = then_read (number_in bytes) (weighted from)

-- the arc of a kind, and of the number that has it
abbrev pub arc_of : ℕ → ℕ → List ℕ → Option (Part Lag)
arc_of kind at bytes =
    if kind == 0 then weighted 0 at bytes
    else if kind == 1 then arc_back at bytes
    else arc_between at bytes

unfoldable pub arc_in : List ℕ → Option (Part Lag)
arc_in bytes = then_read (number_in bytes) (λ first. arc_of (first % 3) (first / 3))

-- ---- lines

abbrev pub load_in : ℕ → List ℕ → Option (Part WindowOverload)
load_in resource bytes =
    then_read (signed_in bytes) (λ from left. part_as (λ size. Load resource from (from +ℤ size)) (signed_in left))

-- in a window of one period
abbrev pub short_load_in : ℕ → List ℕ → Option (Part WindowOverload)
short_load_in resource bytes = part_as (λ from. Load resource from (from +ℤ pos 1)) (signed_in bytes)

abbrev pub members_in : ℕ → List ℕ → Option (Part (List ℕ))
members_in count bytes = many_in number_in count bytes

abbrev pub clique_in : ℕ → List ℕ → Option (Part WindowOverload)
clique_in count bytes =
    then_read (signed_in bytes) (λ from left. then_read (signed_in left) (λ size more. part_as (Clique from (from +ℤ size)) (members_in count more)))

abbrev pub sized : ℕ → ℤ → List ℕ → Option (Part Interval)
sized activity at bytes = part_as (λ size. record { activity = activity; at = at; length = size }) (number_in bytes)

unfoldable pub interval_in : List ℕ → Option (Part Interval)
interval_in bytes = then_read (number_in bytes) (λ activity left. then_read (signed_in left) (sized activity))

-- a tour, and what says whether it shows an arc
pub record Flagged : Type 0 where
  pub flag : ℕ
  pub tour : WindowOverload

abbrev pub flagged_of : ℤ → ℤ → ℕ → List Interval → Flagged
flagged_of from size flag intervals = record { flag = flag; tour = Tour from (from +ℤ size) intervals }

abbrev pub flagged_tour_in : ℕ → List ℕ → Option (Part Flagged)
flagged_tour_in count bytes =
    then_read (signed_in bytes) (λ from left. then_read (signed_in left) (λ size more. then_read (number_in more)
    (λ flag rest. part_as (flagged_of from size flag) (many_in interval_in count rest))))

-- the overload of a kind, and of the number that has it
abbrev pub overload_of : ℕ → ℕ → List ℕ → Option (Part WindowOverload)
overload_of kind at bytes =
    if kind == 2 then load_in at bytes
    else if kind == 3 then short_load_in at bytes
    else if kind == 4 then load_in at bytes
    else if kind == 5 then clique_in at bytes
    else if kind == 6 then clique_in at bytes
    else None

abbrev pub bare_line : WindowOverload → List ℕ → Option (Part Line)
bare_line over bytes = Some (record { value = Push None over; left = bytes })

abbrev pub arc_line : WindowOverload → List ℕ → Option (Part Line)
arc_line over bytes = part_as (λ e. Push (Some e) over) (arc_in bytes)

-- the line of an overload of a kind: one that shows an arc, or not
abbrev pub pushed : ℕ → WindowOverload → List ℕ → Option (Part Line)
pushed kind over bytes = if kind == 2 || kind == 5 then bare_line over bytes else arc_line over bytes

abbrev pub push_of : ℕ → ℕ → List ℕ → Option (Part Line)
push_of kind at bytes = then_read (overload_of kind at bytes) (pushed kind)

-- the line of a tour: one that shows an arc, or not
abbrev pub flagged : ℕ → WindowOverload → List ℕ → Option (Part Line)
flagged flag tour bytes =
    if flag == 0 then bare_line tour bytes
    else if flag == 1 then arc_line tour bytes
    else None

abbrev pub tour_of : ℕ → List ℕ → Option (Part Line)
tour_of count bytes = then_read (flagged_tour_in count bytes) (λ part. flagged part.flag part.tour)

abbrev pub force_of : ℕ → List ℕ → Option (Part Line)
force_of before bytes = part_as (λ after. Force (record { before = before; after = after })) (number_in bytes)

-- the line of a kind, and of the number that has it
abbrev pub line_of : ℕ → ℕ → List ℕ → Option (Part Line)
line_of kind at bytes =
    if kind == 0 then Some (record { value = Use at; left = bytes })
    else if kind == 1 then force_of at bytes
    else if kind == 7 then tour_of at bytes
    else push_of kind at bytes

unfoldable pub line_in : List ℕ → Option (Part Line)
line_in bytes = then_read (number_in bytes) (λ first. line_of (first % 8) (first / 8))

-- lines up to the end of the bytes, so many at most
abbrev pub lines_in : ℕ → List ℕ → Option (List Line)
lines_in most [] = Some []
lines_in zero (b ∷ bs) = None
lines_in (suc most) (b ∷ bs) = then_read (line_in (b ∷ bs)) (λ line left. option_map (λ lines. line ∷ lines) (lines_in most left))

-- ---- events

-- a part after which nothing is left
abbrev pub last : {A : Type 0} → A → List ℕ → Option A
last value [] = Some value
last value (b ∷ bs) = None

abbrev pub lemma_lines : ℕ → List Lag → List ℕ → Option Event
lemma_lines slot arcs bytes = option_map (event.Lemma slot arcs) (lines_in (length bytes) bytes)

abbrev pub lemma_of : ℕ → List ℕ → Option Event
lemma_of slot bytes = then_read (number_in bytes) (λ count left. then_read (many_in arc_in count left) (lemma_lines slot))

abbrev pub schedule_of : ℕ → List ℕ → Option Event
schedule_of count bytes = then_read (many_in signed_in count bytes) (λ starts. last (event.Schedule starts))

abbrev pub optimal_of : List ℕ → Option Event
optimal_of bytes = then_read (signed_in bytes) (λ makespan. last (event.Claim (verdict.Optimal makespan)))

abbrev pub bound_of : List ℕ → Option Event
bound_of bytes = then_read (signed_in bytes) (λ bound. last (event.Claim (verdict.Bound bound)))

abbrev pub claim_of : ℕ → List ℕ → Option Event
claim_of at bytes =
    if at == 0 then optimal_of bytes
    else if at == 1 then bound_of bytes
    else if at == 2 then last (event.Claim verdict.NoSchedule) bytes
    else None

-- the event of a kind, and of the number that has it
abbrev pub event_of : ℕ → ℕ → List ℕ → Option Event
event_of kind at bytes =
    if kind == 0 then lemma_of at bytes
    else if kind == 1 then last (event.Drop at) bytes
    else if kind == 2 then schedule_of at bytes
    else claim_of at bytes

-- the event whose bytes these are, without the number of them
unfoldable pub event_in : List ℕ → Option Event
event_in bytes = then_read (number_in bytes) (λ first. event_of (first % 4) (first / 4))

-- ---- a limit

-- of a number that says how many arcs follow
abbrev pub is_beyond : Option (Part ℕ) → Bool
is_beyond (Some count) = nat_lt MAX_ARCS count.value
is_beyond None = false

-- of so many bytes, a number that has the kind, and what follows
abbrev pub is_long_at : ℕ → Option (Part ℕ) → Bool
is_long_at size (Some first) = if first.value % 4 == 0 then nat_lt MAX_BYTES size || is_beyond (number_in first.left) else false
is_long_at size None = false

-- whether the bytes of an event are those of a lemma, and more than it may have, or say that it has more arcs than it may
unfoldable pub is_long : List ℕ → Bool
is_long bytes = is_long_at (length bytes) (number_in bytes)

-- the event whose bytes these all are, where it may be so long
abbrev pub known : Option Event → Result Event DecodeFault
known (Some e) = Ok e
known None = Err fault.Form

abbrev pub whole_in : List ℕ → Result Event DecodeFault
whole_in body = if is_long body then Err fault.Long else known (event_in body)

-- ---- an event and what follows it

-- so many bytes, and what follows them
abbrev pub cut : Result (Part ℕ) DecodeFault → Result (Part (List ℕ)) DecodeFault
cut (Ok size) =
    if nat_lt (length size.left) size.value then Err fault.Short
    else Ok (record { value = take size.value size.left; left = drop size.value size.left })
cut (Err f) = Err f

-- the bytes of an event without the number of them, and what follows
unfoldable pub frame_in : List ℕ → Result (Part (List ℕ)) DecodeFault
frame_in bytes = cut (digits_in MAX_DIGITS bytes)

abbrev pub with_left : Result Event DecodeFault → List ℕ → Result (Part Event) DecodeFault
with_left (Ok e) left = Ok (record { value = e; left = left })
with_left (Err f) left = Err f

abbrev pub framed : Result (Part (List ℕ)) DecodeFault → Result (Part Event) DecodeFault
framed (Ok frame) = with_left (whole_in frame.value) frame.left
framed (Err f) = Err f

-- the event that bytes begin with
abbrev pub read_in : List ℕ → Result (Part Event) DecodeFault
read_in bytes = framed (frame_in bytes)

-- how many bytes the title has, where bytes begin with it
abbrev pub title_in : List ℕ → Result ℕ DecodeFault
title_in bytes =
    if starts_with nat_eq bytes title_text then Ok (length title_text)
    else if starts_with nat_eq title_text bytes then Err fault.Short
    else Err fault.Form
