-- Reading rows: what is read is spelled so, and what is spelled is read.
use Rattle.std.proofs.Common.{◌≡◌, ℕ, zero, suc, ◌<◌, ◌≤◌, ◌^◌, List, [], ◌∷◌, ◌++◌, map, length, get_or, Option, Some, None, Bool, true, false, cond, eqb}
use Rattle.std.proofs.Common.{refl, sym, ap, ◌∙◌, subst, arith, rules, length-append, not, append-nil, ◌≢◌, ℤ, pos, negsuc, codes}
use Rattle.std.specs.List.{slice_index, list_all, join_with_byte, All, AllByRecursion}
use Rattle.std.specs.Char.{is_ascii_digit}
use Rattle.std.specs.Fmt.{decimal}
use Rattle.std.specs.Str.Parse.{digits_value}
use Rattle.std.proofs.lemmas.Fmt.{digits_decimal, digits_value-decimal, length-decimal-le, decimal_digit, decimal_nonempty, first_decimal, decimal-digits_value}
use Rattle.std.proofs.Math.Bool.{and-false}
use Rattle.std.proofs.lemmas.Bool.{and_parts, ne_eqb, not-true}
use Rattle.std.proofs.lemmas.List.Splits.{slice_split_at, slice_split_none, join_with_byte-slice_split}
use Rattle.record_text.specs.Text.{IsNumber, spaced, IsWritableLine, row_of, IsWritableTime, IsWritableClaim, spaced_times, claim_rows}
use Rattle.record_text.specs.Reading.{has_leading_zero, number, with_number, numbers, Parts, with_word, parts_of, fields, leaf, force_of, split_of, line_from}
use Rattle.record_text.specs.Reading.{line_in, line_of, numbers_in, numbers_after, only_time, makespan_in, some_times, starts_in}
use Rattle.words.specs.Words.{is_numeral, natural}
use Rattle.words.proofs.WordLaws.{AreDigits, numerals, digits_value-below, natural-Some}
use Rattle.std.proofs.lemmas.Bool.Decides.{nat_tests}
use Rattle.record_text.specs.declared.fields.TheConstants.{MAX_NUMBER_DIGITS}
use Rattle.std.specs.Str.{bytes_eq}
use Rattle.std.proofs.lemmas.List.Elements.{All-nil, All-cons}
use Rattle.record_text.specs.declared.line.Line.TheVariants as kind
use Rattle.record_text.specs.Tree.{HasMembers, count_members, Line, Claim}
use Rattle.std.specs.Cmp.Lexicographic.{same_text}
use Rattle.record_text.specs.declared.line.Claim.TheVariants as claims

abbrev pub left_size : Option (List ℕ) → ℕ
left_size (Some rest) = suc (length rest)
left_size None = 0

-- ---- one number

no_leading_zero : (n : ℕ) → IsNumber n → has_leading_zero (decimal n) ≡ false
no_leading_zero zero small = rw (decimal_digit 0 (omega arith)) refl
no_leading_zero (suc n) small =
    let first : 48 < get_or (decimal (suc n)) 0 0 = first_decimal (suc n) (omega arith) (omega (arith, small)) in
    let other : eqb (slice_index (decimal (suc n)) 0) 48 ≡ false = ne_eqb (slice_index (decimal (suc n)) 0) 48 (λ same. omega (arith, first, same)) in
    rw other (and-false _)

pub are_digits : (n : ℕ) → IsNumber n → AreDigits (decimal n)
are_digits n small = digits_decimal numerals n (omega (arith, small))

pub number_again : (n : ℕ) → IsNumber n → number (decimal n) ≡ Some n
unfolding number
number_again n small =
    let wide : n < 2 ^ 64 = omega (arith, small) in
    rw (no_leading_zero n small)
    (natural-Some MAX_NUMBER_DIGITS (decimal n) (are_digits n small) (decimal_nonempty n wide)
    (length-decimal-le MAX_NUMBER_DIGITS n (omega arith) small wide)
    ∙ ap Some (digits_value-decimal numerals n wide))

-- so many digits, and the number that they spell
record Spelled (word : List ℕ) (n : ℕ) : Type 0 where
  digits : AreDigits word
  some : 0 < length word
  few : length word ≤ MAX_NUMBER_DIGITS
  value : digits_value 10 word ≡ n

spelled : (word : List ℕ) (n : ℕ) (b : Bool) → is_numeral MAX_NUMBER_DIGITS word ≡ b → cond b (Some (digits_value 10 word)) None ≡ Some n → Spelled word n
spelled word n false e h = absurd cc
spelled word n true e h = record { digits = grind (arith, nat_tests); some = grind (arith, nat_tests); few = grind (arith, nat_tests); value = cc }

pub natural_small : (word : List ℕ) (n : ℕ) → natural MAX_NUMBER_DIGITS word ≡ Some n → IsNumber n
natural_small word n h = let s = spelled word n (is_numeral MAX_NUMBER_DIGITS word) refl h
    in rw (← s.value) (digits_value-below word MAX_NUMBER_DIGITS s.digits s.few)

alone : (word : List ℕ) → has_leading_zero word ≡ false → 0 < length word → get_or word 0 0 ≡ 48 → length word ≡ 1
alone word e some first = grind (arith, nat_tests)

number_taken : (word : List ℕ) (n : ℕ) (b : Bool) → has_leading_zero word ≡ b
    → cond b None (natural MAX_NUMBER_DIGITS word) ≡ Some n → (word ≡ decimal n) × IsNumber n
number_taken word n true e h = absurd cc
number_taken word n false e h =
    let s = spelled word n (is_numeral MAX_NUMBER_DIGITS word) refl h in
    let below : digits_value 10 word < 10 ^ MAX_NUMBER_DIGITS = digits_value-below word MAX_NUMBER_DIGITS s.digits s.few in
    (sym (decimal-digits_value numerals word s.digits s.some (alone word e s.some) (omega (arith, below))) ∙ ap decimal s.value, rw (← s.value) below)

pub number_takes : (word : List ℕ) (n : ℕ) → number word ≡ Some n → (word ≡ decimal n) × IsNumber n
unfolding number
number_takes word n h = number_taken word n (has_leading_zero word) refl h

-- ---- numbers

pub numbers_again : (ns : List ℕ) → AllByRecursion IsNumber ns → numbers (map decimal ns) ≡ Some ns
numbers_again [] all = refl
numbers_again (n ∷ ns) all = rw (number_again n all.0, numbers_again ns all.1) refl

record Taken (word : List ℕ) (rest : List (List ℕ)) (ns : List ℕ) : Type 0 where
  first : ℕ
  others : List ℕ
  is : ns ≡ first ∷ others
  one : number word ≡ Some first
  more : numbers rest ≡ Some others

taken : (word : List ℕ) (rest : List (List ℕ)) (ns : List ℕ) (a : Option ℕ) (b : Option (List ℕ)) → number word ≡ a
    → numbers rest ≡ b → with_number a b ≡ Some ns → Taken word rest ns
taken word rest ns (Some n) (Some others) e f h = record { first = n; others = others; is = cc; one = e; more = f }
taken word rest ns a b e f h = absurd cc

pub numbers_take : (ws : List (List ℕ)) (ns : List ℕ) → numbers ws ≡ Some ns → (ws ≡ map decimal ns) × AllByRecursion IsNumber ns
numbers_take [] ns h = let none : ns ≡ [] = cc in rw none (refl, tt)
numbers_take (w ∷ ws) ns h =
    let t = taken w ws ns (number w) (numbers ws) refl refl h in
    let one = number_takes w t.first t.one in
    let more = numbers_take ws t.others t.more in
    rw t.is (ap (λ (v : List ℕ). v ∷ ws) one.0 ∙ ap (λ (vs : List (List ℕ)). decimal t.first ∷ vs) more.0, (one.1, more.1))

-- ---- fields

abbrev pub is_space : ℕ → Bool
is_space b = eqb b 32

digit_at : (ds : List ℕ) (i d : ℕ) → i < length ds → AreDigits ds → is_ascii_digit (get_or ds i d) ≡ true
digit_at [] i d lt h = absurd (omega arith)
digit_at (c ∷ cs) zero d lt h = (and_parts (is_ascii_digit c) (list_all is_ascii_digit cs) h).0
digit_at (c ∷ cs) (suc i) d lt h = digit_at cs i d (omega arith) (and_parts (is_ascii_digit c) (list_all is_ascii_digit cs) h).1

not_space : (b : ℕ) → is_ascii_digit b ≡ true → is_space b ≡ false
not_space b h = ne_eqb b 32 (λ same. let g : is_ascii_digit 32 ≡ true = subst (λ (m : ℕ). is_ascii_digit m ≡ true) same h in cc)

pub no_space : (n : ℕ) → IsNumber n → All (λ b. is_space b ≡ false) (decimal n)
no_space n small k d lt = not_space (get_or (decimal n) k d) (digit_at (decimal n) k d lt (are_digits n small))

pub words_spaced : (word : List ℕ) (ns : List ℕ) → All (λ b. is_space b ≡ false) word → AllByRecursion IsNumber ns
    → fields (word ++ spaced ns) ≡ word ∷ map decimal ns
words_spaced word [] none all = let e : word ++ [] ≡ word = search rules in rw e (slice_split_none is_space word none)
words_spaced word (n ∷ ns) none all =
    slice_split_at is_space word 32 (decimal n ++ spaced ns) none refl
    ∙ ap (λ (ws : List (List ℕ)). word ∷ ws) (words_spaced (decimal n) ns (no_space n all.0) all.1)

joined : (word : List ℕ) (ns : List ℕ) → join_with_byte 32 (word ∷ map decimal ns) ≡ word ++ spaced ns
joined word [] = search rules
joined word (n ∷ ns) = ap (λ (rest : List ℕ). word ++ 32 ∷ rest) (joined (decimal n) ns)

pub row_joined : (row word : List ℕ) (ns : List ℕ) → fields row ≡ word ∷ map decimal ns → row ≡ word ++ spaced ns
row_joined row word ns h = sym (join_with_byte-slice_split 32 row) ∙ ap (join_with_byte 32) h ∙ joined word ns

-- ---- a row's parts

pub parts_again : (word : List ℕ) (ns : List ℕ) → All (λ b. is_space b ≡ false) word → AllByRecursion IsNumber ns
    → parts_of (fields (word ++ spaced ns)) ≡ Some (record { word = word; numbers = ns })
parts_again word ns none all = rw (words_spaced word ns none all, numbers_again ns all) refl

pub parts_from : (ws : List (List ℕ)) (p : Parts) → parts_of ws ≡ Some p → (ws ≡ p.word ∷ map decimal p.numbers) × AllByRecursion IsNumber p.numbers
parts_from [] p h = absurd cc
parts_from (w ∷ ws) p h = by_numbers (numbers ws) refl h
  where
    by_numbers : (o : Option (List ℕ)) → numbers ws ≡ o → with_word w o ≡ Some p → (w ∷ ws ≡ p.word ∷ map decimal p.numbers) × AllByRecursion IsNumber p.numbers
    by_numbers None e h = absurd cc
    by_numbers (Some ns) e h =
        let is : p ≡ record { word = w; numbers = ns } = cc in
        let t = numbers_take ws ns e in
        rw is (ap (λ (vs : List (List ℕ)). w ∷ vs) t.0, t.1)

pub parts_take : (row : List ℕ) (p : Parts) → parts_of (fields row) ≡ Some p → (row ≡ p.word ++ spaced p.numbers) × AllByRecursion IsNumber p.numbers
parts_take row p h = let f = parts_from (fields row) p h in (row_joined row p.word p.numbers f.0, f.1)

pub all_numbers : (ns : List ℕ) → AllByRecursion IsNumber ns → All IsNumber ns
all_numbers [] all k d lt = absurd (omega arith)
all_numbers (n ∷ ns) all zero d lt = all.0
all_numbers (n ∷ ns) all (suc k) d lt = all_numbers ns all.1 k d (omega arith)

pub spaced_long : (ns : List ℕ) → length ns ≤ length (spaced ns)
spaced_long [] = omega arith
spaced_long (n ∷ ns) = omega (arith, spaced_long ns, length-append (32 ∷ decimal n) (spaced ns))

-- ---- Reading the line that a row is.

-- what a word that is tested to be none has
abbrev plain : List ℕ → Type 0
plain word = All (λ b. is_space b ≡ false) word

pub plain_word : (word : List ℕ) → list_all (λ b. not (is_space b)) word ≡ true → plain word
plain_word [] h = All-nil (λ b. is_space b ≡ false)
plain_word (b ∷ bs) h = let p = and_parts (not (is_space b)) _ h in All-cons (λ b. is_space b ≡ false) b bs (not-true (is_space b) p.0) (plain_word bs p.1)

-- ---- what is spelled is read

pub line_again : (line : Line) → IsWritableLine line → HasMembers line → line_of (row_of line) ≡ Some line
line_again (kind.Force pair) small some =
    ap line_in (parts_again (codes "force") (pair.before ∷ pair.after ∷ []) (plain_word (codes "force") refl)
    (small.0, (small.1, tt)))
line_again kind.Solved small some = ap line_in (parts_again (codes "solved") [] (plain_word (codes "solved") refl) tt)
line_again kind.Cut small some = ap line_in (parts_again (codes "cut") [] (plain_word (codes "cut") refl) tt)
line_again kind.Dead small some = ap line_in (parts_again (codes "dead") [] (plain_word (codes "dead") refl) tt)
line_again (kind.Split resource []) small some = absurd (omega arith)
line_again (kind.Split resource (i ∷ members)) small some =
    ap line_in (parts_again (codes "split") (resource ∷ i ∷ members) (plain_word (codes "split") refl)
    (small.0, small.1))

-- ---- what is read is spelled so

-- the line's row is this word and these numbers
record Said (word : List ℕ) (ns : List ℕ) (line : Line) : Type 0 where
  row : row_of line ≡ word ++ spaced ns
  small : IsWritableLine line
  some : HasMembers line

force_said : (ns : List ℕ) (line : Line) → AllByRecursion IsNumber ns → force_of ns ≡ Some line → Said (codes "force") ns line
force_said (i ∷ j ∷ []) line all h = let is : line ≡ kind.Force (record { before = i; after = j }) = cc
    in rw is (record { row = refl; small = (all.0, all.1.0); some = tt })
force_said ns line all h = absurd cc

split_said : (ns : List ℕ) (line : Line) → AllByRecursion IsNumber ns → split_of ns ≡ Some line → Said (codes "split") ns line
split_said (i ∷ j ∷ ns) line all h = let is : line ≡ kind.Split i (j ∷ ns) = cc in rw is (record { row = refl; small = (all.0, all.1); some = omega arith })
split_said ns line all h = absurd cc

leaf_said : (own line : Line) (ns : List ℕ) → IsWritableLine own → HasMembers own → leaf own ns ≡ Some line → Said (row_of own) ns line
leaf_said own line [] small some h = let is : line ≡ own = cc in rw is (record { row = sym (append-nil (row_of own)); small = small; some = some })
leaf_said own line (n ∷ ns) small some h = absurd cc

-- a word that is the text, or another
pub said_or : {A : Type 0} (P : List ℕ → Type 0) (word text : List ℕ) (a b : Option A) (x : A) → (a ≡ Some x → P text)
    → (b ≡ Some x → P word) → cond (bytes_eq word text) a b ≡ Some x → P word
said_or {A} P word text a b x one other h = by_test (bytes_eq word text) refl h
  where
    by_test : (t : Bool) → bytes_eq word text ≡ t → cond t a b ≡ Some x → P word
    by_test true e h = subst P (sym (same_text word text (sym e))) (one h)
    by_test false e h = other h

line_said : (word ns : List ℕ) (line : Line) → AllByRecursion IsNumber ns → line_from word ns ≡ Some line → Said word ns line
line_said word ns line all h =
    let P : List ℕ → Type 0 = λ w. Said w ns line in
    said_or P word (codes "force") (force_of ns) _ line (force_said ns line all) (λ h.
    said_or P word (codes "split") (split_of ns) _ line (split_said ns line all) (λ h.
    said_or P word (codes "solved") (leaf kind.Solved ns) _ line (leaf_said kind.Solved line ns tt tt) (λ h.
    said_or P word (codes "cut") (leaf kind.Cut ns) _ line (leaf_said kind.Cut line ns tt tt) (λ h.
    said_or P word (codes "dead") (leaf kind.Dead ns) None line (leaf_said kind.Dead line ns tt tt) (λ h. absurd cc) h) h) h) h) h

pub line_takes : (row : List ℕ) (line : Line) → line_of row ≡ Some line → (row_of line ≡ row) × IsWritableLine line × HasMembers line
line_takes row line h = by_parts (parts_of (fields row)) refl h
  where
    by_parts : (o : Option Parts) → parts_of (fields row) ≡ o → line_in o ≡ Some line → (row_of line ≡ row) × IsWritableLine line × HasMembers line
    by_parts None e h = absurd cc
    by_parts (Some p) e h = let t = parts_take row p e in let s = line_said p.word p.numbers line t.1 h in (s.row ∙ sym t.0, s.small, s.some)

pub few_members : (line : Line) → count_members line ≤ length (row_of line)
few_members (kind.Split resource members) = omega (arith, spaced_long (resource ∷ members), length-append (codes "split") (spaced (resource ∷ members)))
few_members line = omega arith

pub members_fit : (row : List ℕ) (line : Line) → line_of row ≡ Some line → count_members line ≤ length row
members_fit row line h = omega (arith, few_members line, ap length (line_takes row line h).0)

-- ---- Reading the rows of a claim.

-- ---- times as numbers

-- times that a text can hold are numbers
pub record Numbers (times : List ℤ) : Type 0 where
  pub numbers : List ℕ
  pub is : times ≡ map pos numbers
  pub small : AllByRecursion IsNumber numbers

pub numbers_of : (times : List ℤ) → AllByRecursion IsWritableTime times → Numbers times
numbers_of [] all = record { numbers = []; is = refl; small = tt }
numbers_of (pos n ∷ times) all = let more = numbers_of times all.1
    in record { numbers = n ∷ more.numbers; is = ap (λ (ts : List ℤ). pos n ∷ ts) more.is; small = (all.0, more.small) }
numbers_of (negsuc n ∷ times) all = absurd all.0

pub spaced_as_times : (ns : List ℕ) → spaced_times (map pos ns) ≡ spaced ns
spaced_as_times [] = refl
spaced_as_times (n ∷ ns) = ap (λ (rest : List ℕ). (32 ∷ decimal n) ++ rest) (spaced_as_times ns)

pub writable_times : (ns : List ℕ) → AllByRecursion IsNumber ns → AllByRecursion IsWritableTime (map pos ns)
writable_times [] all = tt
writable_times (n ∷ ns) all = (all.0, writable_times ns all.1)

-- ---- numbers after a word

pub after_again : (word : List ℕ) (ns : List ℕ) → list_all (λ b. not (is_space b)) word ≡ true
    → bytes_eq word word ≡ true → AllByRecursion IsNumber ns → numbers_after word (word ++ spaced ns) ≡ Some ns
after_again word ns plain same all = rw (parts_again word ns (plain_word word plain) all, same) refl

pub after_takes : (word row ns : List ℕ) → numbers_after word row ≡ Some ns → (row ≡ word ++ spaced ns) × AllByRecursion IsNumber ns
after_takes word row ns h = by_parts (parts_of (fields row)) refl h
  where
    by_test : (p : Parts) → parts_of (fields row) ≡ Some p → (b : Bool) → bytes_eq p.word word ≡ b
        → cond b (Some p.numbers) None ≡ Some ns → (row ≡ word ++ spaced ns) × AllByRecursion IsNumber ns
    by_test p e false f h = absurd cc
    by_test p e true f h =
        let t = parts_take row p e in
        let is : p.numbers ≡ ns = cc in (
          t.0 ∙ ap (λ (w : List ℕ). w ++ spaced p.numbers) (same_text p.word word (sym f))
              ∙ ap (λ (v : List ℕ). word ++ spaced v) is,
          subst (AllByRecursion IsNumber) is t.1,
        )

    by_parts : (o : Option Parts) → parts_of (fields row) ≡ o → numbers_in word o ≡ Some ns → (row ≡ word ++ spaced ns) × AllByRecursion IsNumber ns
    by_parts None e h = absurd cc
    by_parts (Some p) e h = by_test p e (bytes_eq p.word word) refl h

-- ---- the makespan

pub makespan_again : (z : ℤ) → IsWritableTime z → makespan_in (codes "optimal" ++ spaced_times (z ∷ [])) ≡ Some z
makespan_again (pos n) small = ap only_time (after_again (codes "optimal") (n ∷ []) refl refl (small, tt))
makespan_again (negsuc n) small = absurd small

pub makespan_takes : (row : List ℕ) (z : ℤ) → makespan_in row ≡ Some z → (row ≡ codes "optimal" ++ spaced_times (z ∷ [])) × IsWritableTime z
makespan_takes row z h = by_numbers (numbers_after (codes "optimal") row) refl h
  where
    by_numbers : (o : Option (List ℕ)) → numbers_after (codes "optimal") row ≡ o → only_time o ≡ Some z
        → (row ≡ codes "optimal" ++ spaced_times (z ∷ [])) × IsWritableTime z
    by_numbers (Some (n ∷ [])) e h =
        let t = after_takes (codes "optimal") row (n ∷ []) e in
        let is : z ≡ pos n = cc in
        rw is (t.0, t.1.0)
    by_numbers o e h = absurd cc

-- ---- the starts

pub starts_again : (times : List ℤ) → 0 < length times → AllByRecursion IsWritableTime times → starts_in (codes "starts" ++ spaced_times times) ≡ Some times
starts_again times some all = let n = numbers_of times all in rw n.is (as_numbers n.numbers n.small (subst (λ (ts : List ℤ). 0 < length ts) n.is some))
  where
    as_numbers : (ns : List ℕ) → AllByRecursion IsNumber ns → 0 < length (map pos ns)
        → starts_in (codes "starts" ++ spaced_times (map pos ns)) ≡ Some (map pos ns)
    as_numbers [] all some = absurd (omega arith)
    as_numbers (n ∷ ns) all some = ap (λ (text : List ℕ). starts_in (codes "starts" ++ text)) (spaced_as_times (n ∷ ns))
        ∙ ap some_times (after_again (codes "starts") (n ∷ ns) refl refl all)

pub starts_take : (row : List ℕ) (times : List ℤ) → starts_in row ≡ Some times
    → (row ≡ codes "starts" ++ spaced_times times) × (0 < length times) × AllByRecursion IsWritableTime times
starts_take row times h = by_numbers (numbers_after (codes "starts") row) refl h
  where
    by_numbers : (o : Option (List ℕ)) → numbers_after (codes "starts") row ≡ o → some_times o ≡ Some times
        → (row ≡ codes "starts" ++ spaced_times times) × (0 < length times) × AllByRecursion IsWritableTime times
    by_numbers (Some (n ∷ ns)) e h =
        let t = after_takes (codes "starts") row (n ∷ ns) e in
        let is : times ≡ map pos (n ∷ ns) = cc in
        rw is (t.0 ∙ ap (λ (text : List ℕ). codes "starts" ++ text) (sym (spaced_as_times (n ∷ ns))), omega arith, writable_times (n ∷ ns) t.1)
    by_numbers o e h = absurd cc

-- ---- a claim's rows say one claim

pub other_word : (z : ℤ) → codes "no schedule" ≢ (codes "optimal" ++ spaced_times (z ∷ []))
other_word z h = let e : 110 ≡ 111 = ap (λ (text : List ℕ). get_or text 0 0) h in omega (arith, e)

pub claim_injective : (a b : Claim) (x y : List (List ℕ)) → IsWritableClaim a → IsWritableClaim b → claim_rows a ++ x ≡ claim_rows b ++ y → (a ≡ b) × (x ≡ y)
claim_injective claims.NoSchedule claims.NoSchedule x y wa wb h = (refl, cc)
claim_injective claims.NoSchedule (claims.Optimal m S) x y wa wb h =
    let e : codes "no schedule" ≡ codes "optimal" ++ spaced_times (m ∷ []) = cc in absurd (other_word m e)
claim_injective (claims.Optimal m S) claims.NoSchedule x y wa wb h =
    let e : codes "no schedule" ≡ codes "optimal" ++ spaced_times (m ∷ []) = cc in absurd (other_word m e)
claim_injective (claims.Optimal m S) (claims.Optimal n T) x y wa wb h =
    let e : codes "optimal" ++ spaced_times (m ∷ []) ≡ codes "optimal" ++ spaced_times (n ∷ []) = cc in
    let f : codes "starts" ++ spaced_times S ≡ codes "starts" ++ spaced_times T = cc in
    let rest : x ≡ y = cc in
    let p : Some m ≡ Some n = sym (makespan_again m wa.0) ∙ ap makespan_in e ∙ makespan_again n wb.0 in
    let q : Some S ≡ Some T = sym (starts_again S wa.1 wa.2) ∙ ap starts_in f ∙ starts_again T wb.1 wb.2 in
    (cc, rest)
