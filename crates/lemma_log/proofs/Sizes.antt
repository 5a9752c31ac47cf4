-- How many bytes what is written has at most.
use Rattle.std.proofs.Common.{◌≡◌, ℕ, zero, suc, ◌+◌, ◌*◌, ◌/◌, ◌%◌, ◌≤◌, ℤ, neg_ℤ, ◌-ℤ◌, Bool, true, false, cond, ◌==◌, nat_lt, List, [], ◌∷◌, ◌++◌, length, Option, None, Some, arith, pos}
use Rattle.std.specs.List.{flat_map, sum_by}
use Rattle.std.specs.Ordering.{int_eq}
use Rattle.std.proofs.lemmas.List.{length-append}
use Rattle.std.proofs.lemmas.List.Sums.{sum_by-cons}
use Rattle.network.specs.declared.parts.Lag.{Lag}
use Rattle.lemma_proof.specs.declared.line.Interval.{Interval}
use Rattle.lemma_proof.specs.declared.line.Line.{Line}
use Rattle.lemma_proof.specs.declared.line.Line.TheVariants.{Force, Use, Push}
use Rattle.lemma_proof.specs.declared.line.WindowOverload.{WindowOverload}
use Rattle.lemma_proof.specs.declared.line.WindowOverload.TheVariants.{Load, Clique, Tour}
use Rattle.lemma_log.specs.Numbers.{digits_text, number_text, signed_text, zigzag}
use Rattle.lemma_log.specs.Text.{arc_text, clique_kind, flag, interval_text, line_numbers, line_text, load_text, overload_text, spread, window_text}

cond_short : (b : Bool) (xs ys : List ℕ) (most : ℕ) → length xs ≤ most → length ys ≤ most → length (cond b xs ys) ≤ most
cond_short true xs ys most first second = first
cond_short false xs ys most first second = second

digits_short : (most n : ℕ) → length (digits_text most n) ≤ most
unfolding digits_text
digits_short zero n = omega arith
digits_short (suc most) n =
    let rest = digits_short most (n / 128) in
    cond_short (nat_lt n 128) (n ∷ []) ((n % 128 + 128) ∷ digits_text most (n / 128)) (suc most) (omega arith) (omega (arith, rest))

number_short : (n : ℕ) → length (number_text n) ≤ 19
unfolding number_text
number_short n = digits_short 19 n

signed_short : (v : ℤ) → length (signed_text v) ≤ 19
signed_short v = number_short (zigzag v)

two : (a b : List ℕ) (m n : ℕ) → length a ≤ m → length b ≤ n → length (a ++ b) ≤ m + n
two a b m n first second = omega (arith, length-append a b, first, second)

each_short : {A : Type 0} (text : A → List ℕ) (most : ℕ) → ((x : A) → length (text x) ≤ most) → (xs : List A)
    → length (flat_map text xs) ≤ most * length xs
each_short text most short [] = omega arith
each_short text most short (x ∷ xs) =
    let rest = each_short text most short xs in
    let first = short x in
    omega (arith, length-append (text x) (flat_map text xs), rest, first)

sums_short : {A : Type 0} (text : A → List ℕ) (size : A → ℕ) → ((x : A) → length (text x) ≤ 19 * size x) → (xs : List A)
    → length (flat_map text xs) ≤ 19 * sum_by size xs
sums_short text size short [] = omega arith
sums_short text size short (x ∷ xs) =
    let rest = sums_short text size short xs in
    let first = short x in
    omega (arith, length-append (text x) (flat_map text xs), sum_by-cons size x xs, rest, first)

arc_short : (e : Lag) → length (arc_text e) ≤ 57
arc_short e =
    cond_short (e.from == 0) (number_text (3 * e.to) ++ signed_text e.weight)
    (cond (e.to == 0) (number_text (3 * e.from + 1) ++ signed_text (neg_ℤ e.weight))
    ((number_text (3 * e.from + 2) ++ number_text e.to) ++ signed_text e.weight)) 57
    (omega (arith, two (number_text (3 * e.to)) (signed_text e.weight) 19 19 (number_short (3 * e.to)) (signed_short e.weight)))
    (cond_short (e.to == 0) (number_text (3 * e.from + 1) ++ signed_text (neg_ℤ e.weight))
    ((number_text (3 * e.from + 2) ++ number_text e.to) ++ signed_text e.weight) 57
    (omega (arith, two (number_text (3 * e.from + 1)) (signed_text (neg_ℤ e.weight)) 19 19 (number_short (3 * e.from + 1)) (signed_short (neg_ℤ e.weight))))
    (two (number_text (3 * e.from + 2) ++ number_text e.to) (signed_text e.weight) 38 19
    (two (number_text (3 * e.from + 2)) (number_text e.to) 19 19 (number_short (3 * e.from + 2)) (number_short e.to))
    (signed_short e.weight)))

window_short : (from size : ℤ) → length (window_text from size) ≤ 38
window_short from size = two (signed_text from) (signed_text size) 19 19 (signed_short from) (signed_short size)

interval_short : (m : Interval) → length (interval_text m) ≤ 57
interval_short m = two (number_text m.activity ++ signed_text m.at) (number_text m.length) 38 19
    (two (number_text m.activity) (signed_text m.at) 19 19 (number_short m.activity) (signed_short m.at)) (number_short m.length)

load_short : (shows : Bool) (resource : ℕ) (from size : ℤ) → length (load_text shows resource from size) ≤ 57
load_short false resource from size =
    two (number_text (8 * resource + 2)) (window_text from size) 19 38 (number_short (8 * resource + 2)) (window_short from size)
load_short true resource from size =
    cond_short (int_eq size (pos 1)) (number_text (8 * resource + 3) ++ signed_text from)
    (number_text (8 * resource + 4) ++ window_text from size) 57
    (omega (arith, two (number_text (8 * resource + 3)) (signed_text from) 19 19 (number_short (8 * resource + 3)) (signed_short from)))
    (two (number_text (8 * resource + 4)) (window_text from size) 19 38 (number_short (8 * resource + 4)) (window_short from size))

over_short : (shows : Bool) (over : WindowOverload) → length (overload_text shows over) ≤ 57 * spread over + 76
over_short shows (Load resource from to) = omega (arith, load_short shows resource from (to -ℤ from))
over_short shows (Clique from to members) =
    let head = two (number_text (8 * length members + clique_kind shows)) (window_text from (to -ℤ from)) 19 38
    (number_short (8 * length members + clique_kind shows)) (window_short from (to -ℤ from)) in
    let rest = each_short number_text 19 number_short members in
    omega (
      arith,
      head,
      rest,
      length-append
          (number_text (8 * length members + clique_kind shows) ++ window_text from (to -ℤ from)) (flat_map number_text members),
    )
over_short shows (Tour from to intervals) =
    let head = two (number_text (8 * length intervals + 7)) (window_text from (to -ℤ from)) 19 38
    (number_short (8 * length intervals + 7)) (window_short from (to -ℤ from)) in
    let more = two (number_text (8 * length intervals + 7) ++ window_text from (to -ℤ from)) (number_text (flag shows)) 57 19
    head (number_short (flag shows)) in
    let rest = each_short interval_text 57 interval_short intervals in
    omega (
      arith,
      more,
      rest,
      length-append
          ((number_text (8 * length intervals + 7) ++ window_text from (to -ℤ from)) ++ number_text (flag shows))
          (flat_map interval_text intervals),
    )

line_short : (line : Line) → length (line_text line) ≤ 19 * line_numbers line
line_short (Use slot) = omega (arith, number_short (8 * slot))
line_short (Force pair) =
    two (number_text (8 * pair.before + 1)) (number_text pair.after) 19 19 (number_short (8 * pair.before + 1)) (number_short pair.after)
line_short (Push None over) = omega (arith, over_short false over)
line_short (Push (Some e) over) = omega (arith, over_short true over, arc_short e, length-append (overload_text true over) (arc_text e))

-- a lemma of few arcs, and lines of few numbers
pub lemma_short : (slot : ℕ) (arcs : List Lag) (lines : List Line) → length arcs ≤ 1024 → sum_by line_numbers lines ≤ 50000
    → length (number_text (4 * slot) ++ (number_text (length arcs) ++ (flat_map arc_text arcs ++ flat_map line_text lines))) ≤ 1048576
lemma_short slot arcs lines few short =
    let arcs_short = each_short arc_text 57 arc_short arcs in
    let lines_short = sums_short line_text line_numbers line_short lines in
    omega (
      arith,
      few,
      short,
      number_short (4 * slot),
      number_short (length arcs),
      arcs_short,
      lines_short,
      length-append (number_text (4 * slot)) (number_text (length arcs) ++ (flat_map arc_text arcs ++ flat_map line_text lines)),
      length-append (number_text (length arcs)) (flat_map arc_text arcs ++ flat_map line_text lines),
      length-append (flat_map arc_text arcs) (flat_map line_text lines),
    )
