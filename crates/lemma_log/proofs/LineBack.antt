-- Lines are read back.
use Rattle.std.proofs.Common.{◌≡◌, ◌≤◌, ◌<◌, ℕ, ◌+◌, ◌-◌, ◌*◌, ◌/◌, ◌%◌, ◌^◌, ℤ, pos, negsuc, ◌+ℤ◌, ◌-ℤ◌, Bool, true, false, cond, List, [], ◌∷◌, ◌++◌, length}
use Rattle.std.proofs.Common.{Option, Some, None, option_map, refl, ap, ◌∙◌, append_assoc, arith}
use Rattle.std.specs.List.{flat_map, AllByRecursion}
use Rattle.std.specs.Ordering.{int_eq}
use Rattle.std.proofs.lemmas.Bool.Decides.{Decides-int_eq}
use Rattle.std.proofs.lemmas.Int.{ints}
use Rattle.std.proofs.lemmas.List.{length-append}
use Rattle.network.specs.declared.parts.Lag.{Lag}
use Rattle.network.specs.Problem.{IsWithin}
use Rattle.lemma_proof.specs.declared.line.Interval.{Interval}
use Rattle.lemma_proof.specs.declared.line.Line.{Line}
use Rattle.lemma_proof.specs.declared.line.Line.TheVariants.{Force, Use, Push}
use Rattle.lemma_proof.specs.declared.line.WindowOverload.TheVariants.{Load, Clique, Tour}
use Rattle.lemma_log.specs.Numbers.{digits_in, number_text, zigzag, signed_text}
use Rattle.lemma_log.specs.Text.{arc_text, interval_text, window_text, line_text, IsIndex, IsAmount, IsWritableArc, IsWritableInterval, IsWritableLine}
use Rattle.lemma_log.specs.Reading.{then_read, part_as, number_in, signed_in, load_in, short_load_in, clique_in, flagged, flagged_tour_in, interval_in, sized, pushed, line_of, line_in, lines_in}
use Rattle.lemma_log.proofs.PartsBack.{index_back, number_back, opened, signed_back, amount_back, many_back, lag_back}
use Rattle.lemma_log.proofs.Lined.{more_lines}

-- ---- windows

place_small : (v : ℤ) → IsWithin (pos (2 ^ 61)) v → zigzag v < 2 ^ 63
place_small (pos n) h = omega (arith, ints, h.at_most)
place_small (negsuc n) h = omega (arith, ints, h.at_least)

size_within : (from to : ℤ) → IsAmount from → IsAmount to → IsWithin (pos (2 ^ 61)) (to -ℤ from)
size_within from to hf ht = record {
  at_least = omega (arith, ints, hf.at_most, ht.at_least);
  at_most = omega (arith, ints, hf.at_least, ht.at_most);
}

end_again : (from to : ℤ) → from +ℤ (to -ℤ from) ≡ to
end_again from to = omega (arith, ints)

size_back : (from to : ℤ) (rest : List ℕ) → IsAmount from → IsAmount to
    → signed_in (signed_text (to -ℤ from) ++ rest) ≡ Some (record { value = to -ℤ from; left = rest })
size_back from to rest hf ht = signed_back (to -ℤ from) rest (place_small (to -ℤ from) (size_within from to hf ht))

-- ---- overloads

load_back : (r : ℕ) (from to : ℤ) (rest : List ℕ) → IsAmount from → IsAmount to
    → load_in r (signed_text from ++ (signed_text (to -ℤ from) ++ rest)) ≡ Some
    (record { value = Load r from to; left = rest })
load_back r from to rest hf ht =
    rw (amount_back from (signed_text (to -ℤ from) ++ rest) hf, size_back from to rest hf ht, end_again from to)

short_load_back : (r : ℕ) (from to : ℤ) (rest : List ℕ) → to -ℤ from ≡ pos 1 → IsAmount from
    → short_load_in r (signed_text from ++ rest) ≡ Some (record { value = Load r from to; left = rest })
short_load_back r from to rest one hf =
    let last : from +ℤ pos 1 ≡ to = omega (arith, ints) in
    rw (amount_back from rest hf, last)

clique_back : (from to : ℤ) (members : List ℕ) (rest : List ℕ) → IsAmount from → IsAmount to
    → AllByRecursion IsIndex members → clique_in (length members)
    (signed_text from ++ (signed_text (to -ℤ from) ++ (flat_map number_text members ++ rest))) ≡ Some
    (record { value = Clique from to members; left = rest })
clique_back from to members rest hf ht all =
    rw (
      amount_back from (signed_text (to -ℤ from) ++ (flat_map number_text members ++ rest)) hf,
      size_back from to (flat_map number_text members ++ rest) hf ht,
      end_again from to,
      many_back number_in number_text IsIndex index_back members rest all,
    )

interval_parts : (a b c d : List ℕ) → ((a ++ b) ++ c) ++ d ≡ a ++ (b ++ (c ++ d))
interval_parts a b c d = simp append_assoc

interval_back : (m : Interval) (rest : List ℕ) → IsWritableInterval m → interval_in (interval_text m ++ rest) ≡ Some (record { value = m; left = rest })
unfolding interval_in
interval_back m rest h =
    ap interval_in (interval_parts (number_text m.activity) (signed_text m.at) (number_text m.length) rest)
    ∙ opened m.activity (signed_text m.at ++ (number_text m.length ++ rest))
    (λ activity left. then_read (signed_in left) (sized activity)) (omega (arith, h.activity))
    ∙ ap (λ part. then_read part (sized m.activity)) (amount_back m.at (number_text m.length ++ rest) h.at)
    ∙ ap (part_as (λ size. record { activity = m.activity; at = m.at; length = size })) (index_back m.length rest h.size)

flagged_back : (flag : ℕ) (from to : ℤ) (intervals : List Interval) (rest : List ℕ) → flag < 2 → IsAmount from
    → IsAmount to → AllByRecursion IsWritableInterval intervals → flagged_tour_in (length intervals)
    (signed_text from ++ (signed_text (to -ℤ from) ++ (number_text flag ++ (flat_map interval_text intervals ++ rest))))
    ≡ Some (record { value = record { flag = flag; tour = Tour from to intervals }; left = rest })
flagged_back flag from to intervals rest small hf ht all =
    rw (
      amount_back from (signed_text (to -ℤ from) ++ (number_text flag ++ (flat_map interval_text intervals ++ rest))) hf,
      size_back from to (number_text flag ++ (flat_map interval_text intervals ++ rest)) hf ht,
      number_back flag (flat_map interval_text intervals ++ rest) (omega (arith, small)),
      many_back interval_in interval_text IsWritableInterval interval_back intervals rest all,
      end_again from to,
    )

-- ---- lines

-- a number that has its kind as its remainder by 8
eighths : {B : Type 0} (n kind at : ℕ) (rest : List ℕ) (more : ℕ → ℕ → List ℕ → Option B) → n ≡ 8 * at + kind → kind < 8
    → IsIndex at → then_read (number_in (number_text n ++ rest)) (λ first. more (first % 8) (first / 8)) ≡ more kind at
    rest
eighths n kind at rest more e few small =
    let rem : n % 8 ≡ kind = omega arith in
    let quo : n / 8 ≡ at = omega arith in
    opened n rest (λ first. more (first % 8) (first / 8)) (omega arith) ∙ rw (rem, quo)

line_opened : (n kind at : ℕ) (rest : List ℕ) → n ≡ 8 * at + kind → kind < 8 → IsIndex at → line_in (number_text n ++ rest) ≡ line_of kind at rest
unfolding line_in
line_opened n kind at rest e few small = eighths n kind at rest line_of e few small

-- a line that is read back, whatever follows
abbrev IsBack : List ℕ → Line → Type 0
IsBack bytes line = (rest : List ℕ) → line_in (bytes ++ rest) ≡ Some (record { value = line; left = rest })

-- ---- the bytes of a line, one part after another

parts3 : (a b c d : List ℕ) → ((a ++ b) ++ c) ++ d ≡ a ++ (b ++ (c ++ d))
parts3 a b c d = simp append_assoc

parts4 : (a b c d e : List ℕ) → ((a ++ (b ++ c)) ++ d) ++ e ≡ a ++ (b ++ (c ++ (d ++ e)))
parts4 a b c d e = simp append_assoc

parts5 : (a b c d e f : List ℕ) → (((a ++ (b ++ c)) ++ d) ++ e) ++ f ≡ a ++ (b ++ (c ++ (d ++ (e ++ f))))
parts5 a b c d e f = simp append_assoc

bare_load : (r : ℕ) (from to : ℤ) → IsIndex r → IsAmount from → IsAmount to
    → IsBack (number_text (8 * r + 2) ++ window_text from (to -ℤ from)) (Push None (Load r from to))
bare_load r from to hr hf ht rest =
    simp append_assoc (line_opened (8 * r + 2) 2 r (signed_text from ++ (signed_text (to -ℤ from) ++ rest)) refl
    (omega arith) hr ∙ ap (λ part. then_read part (pushed 2)) (load_back r from to rest hf ht))

bare_clique : (from to : ℤ) (members : List ℕ) → IsIndex (length members) → IsAmount from → IsAmount to
    → AllByRecursion IsIndex members → IsBack
    (number_text (8 * length members + 5) ++ window_text from (to -ℤ from) ++ flat_map number_text members)
    (Push None (Clique from to members))
bare_clique from to members few hf ht all rest =
    simp append_assoc (line_opened (8 * length members + 5) 5 (length members)
    (signed_text from ++ (signed_text (to -ℤ from) ++ (flat_map number_text members ++ rest))) refl (omega arith)
    few ∙ ap (λ part. then_read part (pushed 5)) (clique_back from to members rest hf ht all))

shown_clique : (from to : ℤ) (members : List ℕ) (e : Lag) → IsIndex (length members) → IsAmount from → IsAmount to
    → AllByRecursion IsIndex members → IsWritableArc e
    → IsBack ((number_text (8 * length members + 6) ++ window_text from (to -ℤ from) ++ flat_map number_text members) ++
    arc_text e) (Push (Some e) (Clique from to members))
shown_clique from to members e few hf ht all he rest =
    ap line_in (parts5 (number_text (8 * length members + 6)) (signed_text from) (signed_text (to -ℤ from))
    (flat_map number_text members) (arc_text e) rest)
    ∙ (line_opened (8 * length members + 6) 6 (length members)
    (signed_text from ++ (signed_text (to -ℤ from) ++ (flat_map number_text members ++ (arc_text e ++ rest)))) refl
    (omega arith) few ∙ ap (λ part. then_read part (pushed 6))
    (clique_back from to members (arc_text e ++ rest) hf ht all)
    ∙ ap (part_as (λ f. Push (Some f) (Clique from to members))) (lag_back e rest he))

parts6 : (a b c d e f g : List ℕ)
    → ((((a ++ (b ++ c)) ++ d) ++ e) ++ f) ++ g ≡ a ++ (b ++ (c ++ (d ++ (e ++ (f ++ g)))))
parts6 a b c d e f g = simp append_assoc

bare_tour : (from to : ℤ) (intervals : List Interval) → IsIndex (length intervals) → IsAmount from → IsAmount to
    → AllByRecursion IsWritableInterval intervals → IsBack
    (((number_text (8 * length intervals + 7) ++ window_text from (to -ℤ from)) ++ number_text 0) ++
    flat_map interval_text intervals) (Push None (Tour from to intervals))
bare_tour from to intervals few hf ht all rest =
    ap line_in (parts5 (number_text (8 * length intervals + 7)) (signed_text from) (signed_text (to -ℤ from))
    (number_text 0) (flat_map interval_text intervals) rest)
    ∙ (line_opened (8 * length intervals + 7) 7 (length intervals)
    (signed_text from ++ (signed_text (to -ℤ from) ++ (number_text 0 ++ (flat_map interval_text intervals ++ rest))))
    refl (omega arith) few
    ∙ ap (λ part. then_read part (λ found. flagged found.flag found.tour))
    (flagged_back 0 from to intervals rest (omega arith) hf ht all))

shown_tour : (from to : ℤ) (intervals : List Interval) (e : Lag) → IsIndex (length intervals) → IsAmount from
    → IsAmount to → AllByRecursion IsWritableInterval intervals → IsWritableArc e → IsBack
    ((((number_text (8 * length intervals + 7) ++ window_text from (to -ℤ from)) ++ number_text 1) ++
    flat_map interval_text intervals) ++ arc_text e) (Push (Some e) (Tour from to intervals))
shown_tour from to intervals e few hf ht all he rest =
    ap line_in (parts6 (number_text (8 * length intervals + 7)) (signed_text from) (signed_text (to -ℤ from))
    (number_text 1) (flat_map interval_text intervals) (arc_text e) rest)
    ∙ (line_opened (8 * length intervals + 7) 7 (length intervals)
    (signed_text from ++
    (signed_text (to -ℤ from) ++ (number_text 1 ++ (flat_map interval_text intervals ++ (arc_text e ++ rest))))) refl
    (omega arith) few
    ∙ ap (λ part. then_read part (λ found. flagged found.flag found.tour))
    (flagged_back 1 from to intervals (arc_text e ++ rest) (omega arith) hf ht all)
    ∙ ap (part_as (λ f. Push (Some f) (Tour from to intervals))) (lag_back e rest he))

long_load : (r : ℕ) (from to : ℤ) (e : Lag) → IsIndex r → IsAmount from → IsAmount to → IsWritableArc e
    → IsBack ((number_text (8 * r + 4) ++ window_text from (to -ℤ from)) ++ arc_text e) (Push (Some e) (Load r from to))
long_load r from to e hr hf ht he rest =
    ap line_in (parts4 (number_text (8 * r + 4)) (signed_text from) (signed_text (to -ℤ from)) (arc_text e) rest)
    ∙ (line_opened (8 * r + 4) 4 r (signed_text from ++ (signed_text (to -ℤ from) ++ (arc_text e ++ rest))) refl
    (omega arith) hr ∙ ap (λ part. then_read part (pushed 4)) (load_back r from to (arc_text e ++ rest) hf ht)
    ∙ ap (part_as (λ f. Push (Some f) (Load r from to))) (lag_back e rest he))

short_load : (r : ℕ) (from to : ℤ) (e : Lag) → to -ℤ from ≡ pos 1 → IsIndex r → IsAmount from → IsWritableArc e
    → IsBack ((number_text (8 * r + 3) ++ signed_text from) ++ arc_text e) (Push (Some e) (Load r from to))
short_load r from to e one hr hf he rest =
    ap line_in (parts3 (number_text (8 * r + 3)) (signed_text from) (arc_text e) rest)
    ∙ (line_opened (8 * r + 3) 3 r (signed_text from ++ (arc_text e ++ rest)) refl (omega arith) hr
    ∙ ap (λ part. then_read part (pushed 3)) (short_load_back r from to (arc_text e ++ rest) one hf)
    ∙ ap (part_as (λ f. Push (Some f) (Load r from to))) (lag_back e rest he))

shown_load : (b : Bool) (r : ℕ) (from to : ℤ) (e : Lag) → int_eq (to -ℤ from) (pos 1) ≡ b → IsIndex r → IsAmount from
    → IsAmount to → IsWritableArc e → IsBack
    (cond b (number_text (8 * r + 3) ++ signed_text from) (number_text (8 * r + 4) ++ window_text from (to -ℤ from)) ++
    arc_text e) (Push (Some e) (Load r from to))
shown_load true r from to e is hr hf ht he = short_load r from to e ((Decides-int_eq (to -ℤ from) (pos 1)).0 is) hr hf he
shown_load false r from to e is hr hf ht he = long_load r from to e hr hf ht he

pub line_back : (line : Line) → IsWritableLine line → IsBack (line_text line) line
line_back (Use slot) h rest = line_opened (8 * slot) 0 slot rest (omega arith) (omega arith) h
line_back (Force pair) h rest =
    rw append_assoc (line_opened (8 * pair.before + 1) 1 pair.before (number_text pair.after ++ rest) refl (omega arith)
    h.0 ∙ ap (part_as (λ after. Force (record { before = pair.before; after = after })))
    (index_back pair.after rest h.1))
line_back (Push None (Load r from to)) h rest = bare_load r from to h.0 h.1 h.2 rest
line_back (Push None (Clique from to members)) h rest = bare_clique from to members h.0 h.1 h.2 h.3 rest
line_back (Push None (Tour from to intervals)) h rest = bare_tour from to intervals h.0 h.1 h.2 h.3 rest
line_back (Push (Some e) (Tour from to intervals)) h rest = shown_tour from to intervals e h.0.0 h.0.1 h.0.2 h.0.3 h.1 rest
line_back (Push (Some e) (Load r from to)) h rest = shown_load (int_eq (to -ℤ from) (pos 1)) r from to e refl h.0.0 h.0.1 h.0.2 h.1 rest
line_back (Push (Some e) (Clique from to members)) h rest = shown_clique from to members e h.0.0 h.0.1 h.0.2 h.0.3 h.1 rest

-- ---- lines up to the end

no_line : line_in [] ≡ None
unfolding line_in number_in digits_in
no_line = refl

some_bytes : (bytes : List ℕ) (line : Line) → line_in (bytes ++ []) ≡ Some (record { value = line; left = [] }) → 0 < length bytes
some_bytes [] line h = absurd (let e = no_line in cc)
some_bytes (b ∷ bs) line h = omega arith

pub lines_back : (lines : List Line) (most : ℕ) → length (flat_map line_text lines) ≤ most
    → AllByRecursion IsWritableLine lines → lines_in most (flat_map line_text lines) ≡ Some lines
lines_back [] most room all = refl
lines_back (line ∷ lines) most room all =
    let some = some_bytes (line_text line) line (line_back line all.0 []) in
    let sum = length-append (line_text line) (flat_map line_text lines) in
    more_lines most (line_text line ++ flat_map line_text lines) line (flat_map line_text lines) (omega arith)
    (omega arith) (line_back line all.0 (flat_map line_text lines))
    ∙ ap (option_map (λ ls. line ∷ ls)) (lines_back lines (most - 1) (omega arith) all.1)
