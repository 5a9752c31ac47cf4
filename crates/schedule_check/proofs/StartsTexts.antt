-- A text has no fault exactly where each of its lines is right and each activity has just one.
use Rattle.std.proofs.Common.{◌≡◌, ℕ, ◌+◌, ◌<◌, ◌≤◌, Bool, true, false, cond, List, [], ◌∷◌, ◌++◌, length, get_or, refl, arith, Option, Some, None, eqb, ltb}
use Rattle.std.proofs.Common.{eq-eqb, zero, suc, ◌^◌, map, drop, sym, ap, ◌∙◌, ℤ, is_none, is_some, pos, negsuc, nat_abs, unwrap_or, lt-ltb, le-ltb, ltb-true}
use Rattle.std.proofs.Common.{ltb-false, ne_eqb}
use Rattle.std.specs.List.{AllByRecursion, count_by, position_or_len, All, range_with_len}
use Rattle.std.specs.Option.{option_map}
use Rattle.std.proofs.lemmas.Bool.Decides.{nat_tests}
use Rattle.std.proofs.lemmas.List.Elements.{All-from_recursion, recursion_from_All}
use Rattle.std.proofs.lemmas.List.Sums.{sum_by-cons, fails_before_first}
use Rattle.words.specs.declared.TheConstants.{MAX_TEXT_BYTES}
use Rattle.schedule_check.specs.declared.entry.Entry.TheVariants.{Nothing, Gives, Wrong}
use Rattle.schedule_check.specs.declared.fault.StartsFault.TheVariants as faults
use Rattle.schedule_check.specs.Starts.{entries, start_in, start_given, starts_given, or_else, entry_fault, line_fault, missing_fault, starts_fault}
use Rattle.schedule_check.specs.Starts.{GivesStartOf, gives, IsStartsText, spaces, given, entry_of, line_entries, is_answer, starts_of, first_fault}
use Rattle.schedule_check.specs.Starts.{with_entries, Entry, StartsFault}
use Rattle.schedule_check.proofs.Tables.{given_later, given_at, given_length, fine_parts, both_none, none_missing, same_first_fault, all_entries}
use Rattle.std.specs.Str.Lines.{lines, lines_of_parts, strip_carriage_return}
use Rattle.std.proofs.lemmas.Int.{ints}
use Rattle.std.proofs.lemmas.List.{length-map}
use Rattle.std.proofs.lemmas.List.FromFn.{length-map-range_with_len}
use Rattle.network.specs.Problem.{IsTime}
use Rattle.words.specs.Words.{words, natural, integer, pieces}
use Rattle.schedule_check.specs.declared.entry.TheConstants.{ACTIVITY_DIGITS, START_DIGITS}
use Rattle.words.proofs.WordLaws.{integer-below}
use Rattle.std.proofs.lemmas.List.Splits.{length-slice_split}

count-cons : (a : ℕ) (e : Entry) (es : List Entry) → count_by (gives a) (e ∷ es) ≡ cond (gives a e) 1 0 + count_by (gives a) es
count-cons a e es = sum_by-cons (λ y. cond (gives a y) 1 0) e es

-- ---- lines without a fault are right, and give no activity two starts

right_from : (n : ℕ) (before : List Entry) (line : ℕ) (es : List Entry) → line_fault n before line es ≡ None → AllByRecursion (GivesStartOf n) es
right_from n before line [] fine = tt
right_from n before line (e ∷ es) fine =
    let parts = both_none (entry_fault n before line e) (line_fault n (before ++ e ∷ []) (line + 1) es) fine in
    (right e parts.0, right_from n (before ++ e ∷ []) (line + 1) es parts.1)
  where
    right : (e : Entry) → entry_fault n before line e ≡ None → GivesStartOf n e
    right Nothing h = tt
    right Wrong h = absurd (cc)
    right (Gives b s) h = ltb-true b n (fine_parts b line (ltb b n) (is_some (start_given before b)) h).0

-- how often an activity was given a start, with one entry more
add_given : (g s : Option ℤ) (k : ℕ) → (is_some s ≡ true → is_some g ≡ false)
    → cond (is_some (cond (is_some g) g s)) 1 0 + k ≤ 1 → cond (is_some g) 1 0 + (cond (is_some s) 1 0 + k) ≤ 1
add_given (Some g) (Some s) k first h = absurd (let bad = first refl in cc)
add_given g s k first h = omega arith

take_given : (g s : Option ℤ) (k : ℕ) → cond (is_some g) 1 0 + (cond (is_some s) 1 0 + k) ≤ 1 → cond (is_some (cond (is_some g) g s)) 1 0 + k ≤ 1
take_given None None k h = omega arith
take_given None (Some s) k h = omega arith
take_given (Some g) None k h = omega arith
take_given (Some g) (Some s) k h = omega arith

same_number : (b a : ℕ) → eqb b a ≡ true → b ≡ a
same_number b a h = grind (arith, nat_tests)

-- an entry without a fault gives an activity its first start
is_first : (n : ℕ) (before : List Entry) (line a : ℕ) (e : Entry) → entry_fault n before line e ≡ None
    → is_some (start_in a e) ≡ true → is_some (start_given before a) ≡ false
is_first n before line a Nothing fine h = absurd (cc)
is_first n before line a Wrong fine h = absurd (cc)
is_first n before line a (Gives b s) fine h =
    let same : b ≡ a = same_number b a (named (eqb b a) h) in
    rw (← same) ((fine_parts b line (ltb b n) (is_some (start_given before b)) fine).1)
  where
    named : (v : Bool) → is_some (cond v (Some s) None) ≡ true → v ≡ true
    named true k = refl
    named false k = absurd (cc)

once_from : (n : ℕ) (before : List Entry) (line : ℕ) (es : List Entry) (a : ℕ) → line_fault n before line es ≡ None
    → cond (is_some (start_given before a)) 1 0 + count_by (gives a) es ≤ 1
once_from n before line [] a fine = at_most (is_some (start_given before a))
  where
    at_most : (b : Bool) → cond b 1 0 + 0 ≤ 1
    at_most true = omega arith
    at_most false = omega arith
once_from n before line (e ∷ es) a fine =
    let parts = both_none (entry_fault n before line e) (line_fault n (before ++ e ∷ []) (line + 1) es) fine in
    let rest : cond (is_some (start_given (before ++ e ∷ []) a)) 1 0 + count_by (gives a) es ≤ 1 = once_from n (before ++ e ∷ []) (line + 1) es a parts.1 in
    let more : cond (is_some (cond (is_some (start_given before a)) (start_given before a) (start_in a e))) 1 0 +
    count_by (gives a) es ≤ 1 = rw (given_later before e a) at rest in
    rw (count-cons a e es) (add_given (start_given before a) (start_in a e) (count_by (gives a) es) (is_first n before line a e parts.0) more)

-- ---- and lines that are right and give none two have no fault

fine_from : (n : ℕ) (before : List Entry) (line : ℕ) (es : List Entry) → AllByRecursion (GivesStartOf n) es
    → ((a : ℕ) → a < n → cond (is_some (start_given before a)) 1 0 + count_by (gives a) es ≤ 1)
    → line_fault n before line es ≡ None
fine_from n before line [] right once = refl
fine_from n before line (e ∷ es) right once =
    let here : entry_fault n before line e ≡ None = fine e right.0 (λ a lt. rw (count-cons a e es) at (once a lt)) in
    let rest : line_fault n (before ++ e ∷ []) (line + 1) es ≡ None = fine_from n (before ++ e ∷ []) (line + 1) es right.1 (λ a lt.
    rw (given_later before e a) (take_given (start_given before a) (start_in a e) (count_by (gives a) es) (rw (count-cons a e es) at (once a lt)))) in
    rw here rest
  where
    fine : (e : Entry) → GivesStartOf n e →
        ((a : ℕ) → a < n → cond (is_some (start_given before a)) 1 0 + (cond (gives a e) 1 0 + count_by (gives a) es) ≤
        1) → entry_fault n before line e ≡ None
    fine Nothing r h = refl
    fine Wrong r h = absurd r
    fine (Gives b s) r h =
        let named : eqb b b ≡ true = eq-eqb b b refl in
        let most : cond (is_some (start_given before b)) 1 0 + (1 + count_by (gives b) es) ≤ 1 = rw named at (h b r) in
        let new : is_some (start_given before b) ≡ false = none (is_some (start_given before b)) most in
        rw (lt-ltb b n r, new) refl
      where
        none : (v : Bool) → cond v 1 0 + (1 + count_by (gives b) es) ≤ 1 → v ≡ false
        none true k = absurd (omega arith)
        none false k = refl

-- ---- an activity that has a line has a start

counted : (es : List Entry) (a : ℕ) → is_some (start_given es a) ≡ true → 1 ≤ count_by (gives a) es
counted [] a h = absurd (cc)
counted (e ∷ es) a h = rw (count-cons a e es) (by (start_in a e) (counted es a) h)
  where
    by : (o : Option ℤ) → (is_some (start_given es a) ≡ true → 1 ≤ count_by (gives a) es)
        → is_some (cond (is_some o) o (start_given es a)) ≡ true → 1 ≤ cond (is_some o) 1 0 + count_by (gives a) es
    by None rest k = omega (arith, rest k)
    by (Some s) rest k = omega arith

given_by_count : (es : List Entry) (a : ℕ) → 1 ≤ count_by (gives a) es → is_some (start_given es a) ≡ true
given_by_count [] a h = absurd (omega arith)
given_by_count (e ∷ es) a h = by (start_in a e) (given_by_count es a) (rw (count-cons a e es) at h)
  where
    by : (o : Option ℤ) → (1 ≤ count_by (gives a) es → is_some (start_given es a) ≡ true)
        → 1 ≤ cond (is_some o) 1 0 + count_by (gives a) es → is_some (cond (is_some o) o (start_given es a)) ≡ true
    by None rest k = rest (omega arith)
    by (Some s) rest k = refl

none_or_some : (o : Option ℤ) → is_none o ≡ false → is_some o ≡ true
none_or_some None h = absurd (cc)
none_or_some (Some s) h = refl

some_or_none : (o : Option ℤ) → is_some o ≡ true → is_none o ≡ false
some_or_none None h = absurd (cc)
some_or_none (Some s) h = refl

-- where no activity is missing, each has a start
given_all : (n : ℕ) (es : List Entry) (a : ℕ) → missing_fault (starts_given n es) ≡ None → a < n → is_some (start_given es a) ≡ true
given_all n es a fine lt =
    let found : List (Option ℤ) = starts_given n es in
    let long : length found ≡ n = given_length n es in
    let past : length found ≤ position_or_len is_none found =
    ltb-false (position_or_len is_none found) (length found)
    (no_place (ltb (position_or_len is_none found) (length found)) fine) in
    let here : is_none (get_or found a None) ≡ false = fails_before_first is_none found a None (omega arith) in
    none_or_some (start_given es a) (rw (given_at n es a lt) at here)
  where
    no_place : (v : Bool) → option_map faults.Missing (cond v (Some (position_or_len is_none (starts_given n es))) None) ≡ None → v ≡ false
    no_place true k = absurd (cc)
    no_place false k = refl

none_lacks : (n : ℕ) (es : List Entry) → ((a : ℕ) → a < n → is_some (start_given es a) ≡ true) → missing_fault (starts_given n es) ≡ None
none_lacks n es given =
    none_missing (starts_given n es) n (given_length n es) (λ k lt. rw (given_at n es k lt) (some_or_none (start_given es k) (given k lt)))

-- ---- the law

short_enough : (b : Bool) (o : Option StartsFault) → cond b (Some faults.TooLong) o ≡ None → (b ≡ false) × (o ≡ None)
short_enough true o h = absurd (cc)
short_enough false o h = (refl, h)

pub IsStartsText-from_fault : (n : ℕ) (text : List ℕ) → starts_fault n text ≡ None → IsStartsText n text
IsStartsText-from_fault n text fine =
    let parts = short_enough (ltb MAX_TEXT_BYTES (length text))
    (or_else (line_fault n [] 1 (entries text)) (missing_fault (starts_given n (entries text)))) fine in
    let both = both_none (line_fault n [] 1 (entries text)) (missing_fault (starts_given n (entries text))) parts.1 in
    record {
      short = ltb-false MAX_TEXT_BYTES (length text) parts.0;
      right = All-from_recursion (GivesStartOf n) (entries text) (right_from n [] 1 (entries text) both.0);
      once = λ a lt. omega (arith, once_from n [] 1 (entries text) a both.0, counted (entries text) a (given_all n (entries text) a both.1 lt));
    }

pub no_fault-from_text : (n : ℕ) (text : List ℕ) → IsStartsText n text → starts_fault n text ≡ None
no_fault-from_text n text t =
    let es : List Entry = entries text in
    let lines : line_fault n [] 1 es ≡ None = fine_from n [] 1 es (recursion_from_All (GivesStartOf n) es t.right) (λ a lt. omega (arith, t.once a lt)) in
    let all : missing_fault (starts_given n es) ≡ None = none_lacks n es (λ a lt. given_by_count es a (omega (arith, t.once a lt))) in
    rw (le-ltb MAX_TEXT_BYTES (length text) t.short, lines, all) refl

-- a text with a fault is none
pub not_starts_text : (n : ℕ) (text : List ℕ) (fault : StartsFault) → starts_fault n text ≡ Some fault → ¬ (IsStartsText n text)
not_starts_text n text fault has = λ t. absurd (let none = no_fault-from_text n text t in cc)

-- ---- What a text of starts gives, and its first fault.

short_text : (text : List ℕ) → length text ≤ MAX_TEXT_BYTES → ltb MAX_TEXT_BYTES (length text) ≡ false
short_text text short = le-ltb MAX_TEXT_BYTES (length text) short

-- the first fault of the lines, as the code finds it from an empty table on
pub lines_fault : (n : ℕ) (text : List ℕ) (found : List (Option ℤ)) (fault : Option StartsFault)
    → found ≡ starts_given n [] → fault ≡ first_fault found 1 (entries text) → line_fault n [] 1 (entries text) ≡ fault
lines_fault n text found fault empty is =
    sym (is ∙ ap (λ (t : List (Option ℤ)). first_fault t 1 (entries text)) empty ∙ same_first_fault n [] 1 (entries text))

-- the table after lines that have no fault
pub lines_table : (n : ℕ) (text : List ℕ) (found after : List (Option ℤ)) → found ≡ starts_given n []
    → line_fault n [] 1 (entries text) ≡ None → after ≡ with_entries found (entries text)
    → after ≡ starts_given n (entries text)
lines_table n text found after empty fine put =
    put ∙ ap (λ (t : List (Option ℤ)). with_entries t (entries text)) empty ∙ all_entries n [] 1 (entries text) fine

-- the fault of a text is that of its lines
pub fault_of_lines : (n : ℕ) (text : List ℕ) (fault : StartsFault) → length text ≤ MAX_TEXT_BYTES
    → line_fault n [] 1 (entries text) ≡ Some fault → starts_fault n text ≡ Some fault
fault_of_lines n text fault short has = rw (short_text text short, has) refl

-- and where they have none, that of the table
pub fault_of_table : (n : ℕ) (text : List ℕ) (table : List (Option ℤ)) (fault : Option StartsFault)
    → length text ≤ MAX_TEXT_BYTES → line_fault n [] 1 (entries text) ≡ None → table ≡ starts_given n (entries text)
    → missing_fault table ≡ fault → starts_fault n text ≡ fault
fault_of_table n text table fault short fine is missing =
    rw (short_text text short, fine, ← is) missing

-- ---- each start is a time

abbrev IsTimely : Entry → Type 0
IsTimely (Gives activity start) = IsTime start
IsTimely _ = Unit {0}

-- what a start's digits spell is a time
time_of_digits : (z : ℤ) → nat_abs z < 10 ^ START_DIGITS → IsTime z
time_of_digits (pos n) below = record { at_least = omega (arith, ints); at_most = omega (arith, ints) }
time_of_digits (negsuc n) below = record { at_least = omega (arith, ints); at_most = omega (arith, ints) }

given_timely : (a : Option ℕ) (o : Option ℤ) → ((z : ℤ) → o ≡ Some z → IsTime z) → IsTimely (given a o)
given_timely (Some a) (Some z) h = h z refl
given_timely a o h = tt

entry_timely : (words : List (List ℕ)) → IsTimely (entry_of words)
unfolding entry_of
entry_timely (a ∷ s ∷ []) = given_timely (natural ACTIVITY_DIGITS a) (integer START_DIGITS s)
    (λ z spelled. time_of_digits z (integer-below START_DIGITS s z spelled))
entry_timely words = tt

lines_timely : (ls : List (List ℕ)) → AllByRecursion IsTimely (line_entries ls)
lines_timely [] = tt
lines_timely (line ∷ ls) = (entry_timely (words spaces line), lines_timely ls)

entries_timely : (text : List ℕ) → AllByRecursion IsTimely (entries text)
entries_timely text = by_answer (is_answer text)
  where
    by_answer : (b : Bool) → AllByRecursion IsTimely (cond b (Nothing ∷ line_entries (drop 1 (lines text))) (line_entries (lines text)))
    by_answer true = (tt, lines_timely (drop 1 (lines text)))
    by_answer false = lines_timely (lines text)

zero_time : IsTime (pos 0)
zero_time = record { at_least = omega (arith, ints); at_most = omega (arith, ints) }

start_timely : (es : List Entry) (activity : ℕ) → AllByRecursion IsTimely es → IsTime (unwrap_or (start_given es activity) (pos 0))
start_timely [] activity all = zero_time
start_timely (e ∷ es) activity all = first (start_in activity e) (in_entry e all.0) (start_timely es activity all.1)
  where
    by_name : (b : Bool) (start : ℤ) → IsTime start → IsTime (unwrap_or (cond b (Some start) None) (pos 0))
    by_name true start h = h
    by_name false start h = zero_time

    in_entry : (e : Entry) → IsTimely e → IsTime (unwrap_or (start_in activity e) (pos 0))
    in_entry (Gives named start) h = by_name (eqb named activity) start h
    in_entry e h = zero_time

    first : (o : Option ℤ) → IsTime (unwrap_or o (pos 0)) → IsTime (unwrap_or (start_given es activity) (pos 0))
        → IsTime (unwrap_or (cond (is_some o) o (start_given es activity)) (pos 0))
    first None h rest = rest
    first (Some s) h rest = h

-- the starts that a text gives are times within the limits
pub starts_within : (n : ℕ) (text : List ℕ) → All IsTime (starts_of n text)
starts_within n text = All-from_recursion IsTime (starts_of n text) (each 0 n)
  where
    each : (a n : ℕ) → AllByRecursion IsTime (map (λ start. unwrap_or start (pos 0)) (map (start_given (entries text)) (range_with_len a n)))
    each a zero = tt
    each a (suc n) = (start_timely (entries text) a (entries_timely text), each (a + 1) n)

-- there is one for each activity
pub starts_count : (n : ℕ) (text : List ℕ) → length (starts_of n text) ≡ n
starts_count n text =
    length-map (starts_given n (entries text)) (λ (start : Option ℤ). unwrap_or start (pos 0)) ∙ length-map-range_with_len (start_given (entries text)) 0 n

-- ---- The lines of a text, from its front.

-- a piece that others follow is a line
line_of_part : (front : List ℕ) (others : List (List ℕ)) → 0 < length others
    → lines_of_parts (front ∷ others) ≡ strip_carriage_return front ∷ lines_of_parts others
line_of_part front [] some = absurd (omega arith)
line_of_part front (next ∷ others) some = refl

-- a line that ends with a newline
pub lines-first : (text front rest : List ℕ) → pieces 10 text ≡ front ∷ pieces 10 rest → lines text ≡ strip_carriage_return front ∷ lines rest
lines-first text front rest split =
    ap lines_of_parts split ∙ line_of_part front (pieces 10 rest) (omega (arith, length-slice_split (λ b. eqb b 10) rest))

-- a last line that ends with none
pub lines-last : (text : List ℕ) → pieces 10 text ≡ text ∷ [] → 0 < length text → lines text ≡ text ∷ []
lines-last text one some =
    let full : eqb (length text) 0 ≡ false = ne_eqb (length text) 0 (λ empty. omega arith) in
    ap lines_of_parts one ∙ rw full refl
