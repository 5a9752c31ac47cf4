-- The words of a text, from its front.
use Rattle.std.proofs.Common.{◌≡◌, ℕ, zero, suc, ◌+◌, ◌<◌, ◌≤◌, Bool, true, false, cond, not, List, [], ◌∷◌, length, take, drop, get_or, Option, Some, None}
use Rattle.std.proofs.Common.{refl, sym, ap, ◌∙◌, add-one, add-zero, drop-drop, arith, nat_abs, ◌^◌, Result, Ok, rules, lit<, unwrap_or, ℤ, pos, IfSome}
use Rattle.std.proofs.Common.{ltb-false, length-take, length-drop, get_or-drop, take_all}
use Rattle.std.specs.List.{filter, slice_split, position, position_or_len, list_all}
use Rattle.std.proofs.Math.Seq.{drop-cons, drop-length}
use Rattle.std.proofs.lemmas.List.Quantifiers.{position-Some}
use Rattle.std.proofs.lemmas.List.Splits.{slice_split_first, slice_split_none, slice_split-cons_yes}
use Rattle.std.proofs.lemmas.List.Sums.{fails_before_first, AllPass-from_list_all}
use Rattle.words.specs.Words.{is_word, is_numeral, natural, negated, integer}
use Rattle.std.specs.Char.{is_ascii_digit}
use Rattle.std.specs.Option.{option_map}
use Rattle.std.specs.Result.{result_ok}
use Rattle.std.specs.Str.{IsUtf8}
use Rattle.std.specs.Str.Parse.{digits_value, ParsesUnsigned, starts_with_minus}
use Rattle.std.proofs.Math.Nat.{pow-le-pow_right}
use Rattle.std.proofs.lemmas.Bool.Decides.{nat_tests}
use Rattle.std.proofs.lemmas.Str.{IsUtf8-from_ascii}
use Rattle.std.proofs.lemmas.Str.Ascii.{IsAscii-from_all}
use Rattle.std.proofs.lemmas.Str.Parse.{IsNumeralModel, numerals_by_value, digits_value_short, parse_gives}
use Rattle.words.specs.declared.numeral.TheConstants.{MAX_DIGITS}

-- the parts between what passes a test, without those that are empty
abbrev pub parts_by : (ℕ → Bool) → List ℕ → List (List ℕ)
parts_by p text = filter is_word (slice_split p text)

option_is : (b : Bool) (n k : ℕ) → cond b (Some n) None ≡ Some k → n ≡ k
option_is true n k e = cc
option_is false n k e = absurd cc

no_option : (b : Bool) (n : ℕ) → cond b (Some n) None ≡ None → b ≡ false
no_option true n e = absurd cc
no_option false n e = refl

-- where nothing passes, no place is before the first that does
nowhere : (p : ℕ → Bool) (text : List ℕ) → position p text ≡ None → length text ≤ position_or_len p text
nowhere p text none = ltb-false _ _ (no_option _ _ none)

-- ---- pieces

-- a byte that is there ends a piece
pub pieces-Some : (p : ℕ → Bool) (text : List ℕ) (end : ℕ) → position p text ≡ Some end
    → slice_split p text ≡ take end text ∷ slice_split p (drop (end + 1) text)
pieces-Some p text end found =
    let at : position_or_len p text ≡ end = option_is _ _ _ found in
    let below : position_or_len p text < length text = omega (arith, (position-Some p text end 0 found).0) in
    rw at at (slice_split_first p text 0 below)

-- where it is not, the text is one piece
pub pieces-None : (p : ℕ → Bool) (text : List ℕ) → position p text ≡ None → slice_split p text ≡ text ∷ []
pieces-None p text none =
    let past = nowhere p text none in
    slice_split_none p text (λ k d lt. fails_before_first p text k d (omega (arith, past)))

-- what follows a byte
pub drop_one : (n : ℕ) (xs : List ℕ) → drop (n + 1) xs ≡ drop 1 (drop n xs)
drop_one n xs = sym (rw drop-drop refl)

-- ---- words

-- a separator at the front is passed over
passed : (p : ℕ → Bool) (b : ℕ) (bs : List ℕ) → p b ≡ true → parts_by p (b ∷ bs) ≡ parts_by p bs
passed p b bs h = rw (slice_split-cons_yes p b bs h) refl

-- separators at the front are passed over
skipped : (p : ℕ → Bool) (k : ℕ) (text : List ℕ) → k ≤ length text → ((i : ℕ) → i < k → p (get_or text i 0) ≡ true) → parts_by p (drop k text) ≡ parts_by p text
skipped p zero text le h = refl
skipped p (suc k) [] le h = absurd (omega arith)
skipped p (suc k) (b ∷ bs) le h = skipped p k bs (omega arith) (λ i lt. h (suc i) (omega arith)) ∙ sym (passed p b bs (h 0 (omega arith)))

true_from_not : (b : Bool) → not b ≡ false → b ≡ true
true_from_not true h = refl
true_from_not false h = absurd cc

false_from_not : (b : Bool) → not b ≡ true → b ≡ false
false_from_not true h = absurd cc
false_from_not false h = refl

-- separators alone hold no word
pub words-None : (p : ℕ → Bool) (text : List ℕ) → position (λ b. not (p b)) text ≡ None → parts_by p text ≡ []
words-None p text none =
    let past = nowhere (λ b. not (p b)) text none in
    sym (skipped p (length text) text (omega arith) (λ i lt. true_from_not _ (fails_before_first (λ b. not (p b)) text i 0 (omega (arith, past)))))
    ∙ ap (parts_by p) (drop-length text)

-- a part that is not empty is a word
kept : (word : List ℕ) (others : List (List ℕ)) → 0 < length word → filter is_word (word ∷ others) ≡ word ∷ filter is_word others
kept [] others some = absurd (omega arith)
kept (b ∷ bs) others some = refl

-- a word, and then what follows it
ends_at : (p : ℕ → Bool) (text : List ℕ) (o : Option ℕ) → position p text ≡ o → 0 < length text → p (get_or text 0 0) ≡ false
    → (parts_by p text ≡ take (unwrap_or o (length text)) text ∷ parts_by p (drop (unwrap_or o (length text)) text)) × (0 < unwrap_or o (length text))
ends_at p text None none some first =
    (rw (take_all (length text) text (omega arith), drop-length text) (ap (filter is_word) (pieces-None p text none) ∙ kept text [] some), some)
ends_at p text (Some zero) found some first = absurd (cc (position-Some p text zero 0 found).1)
ends_at p text (Some (suc end)) found some first =
    let is = position-Some p text (suc end) 0 found in
    let split = rw add-one at (pieces-Some p text (suc end) found) in
    let rest : parts_by p (drop (suc end) text) ≡ parts_by p (drop (suc (suc end)) text) =
    ap (parts_by p) (drop-cons text (suc end) 0 is.0)
    ∙ passed p (get_or text (suc end) 0) (drop (suc (suc end)) text) is.1 in (
      ap (filter is_word) split ∙ kept (take (suc end) text) (slice_split p (drop (suc (suc end)) text))
          (omega (arith, length-take (suc end) text, is.0))
          ∙ ap (λ (others : List (List ℕ)). take (suc end) text ∷ others) (sym rest),
      omega arith,
    )

-- what stands before the first word is passed over, and then the word comes
pub words-Some : (p : ℕ → Bool) (text : List ℕ) (start : ℕ) (o : Option ℕ) → position (λ b. not (p b)) text ≡ Some start → position p (drop start text) ≡ o
    → (parts_by p text ≡ take (unwrap_or o (length (drop start text))) (drop start text) ∷ parts_by p
    (drop (unwrap_or o (length (drop start text))) (drop start text)))
    × (0 < unwrap_or o (length (drop start text)))
words-Some p text start o found end =
    let is = position-Some (λ b. not (p b)) text start 0 found in
    let first : get_or (drop start text) 0 0 ≡ get_or text start 0 = rw (get_or-drop, add-zero) refl in
    let some : 0 < length (drop start text) = omega (arith, length-drop start text, is.0) in
    let is_text : p (get_or (drop start text) 0 0) ≡ false = ap p first ∙ false_from_not _ is.1 in
    let word = ends_at p (drop start text) o end some is_text in
    let front = skipped p start text (omega (arith, is.0)) (λ i lt. true_from_not _ (is.2 i lt)) in
    (sym front ∙ word.0, word.1)

-- ---- What digits spell.

abbrev pub AreDigits : List ℕ → Type 0
AreDigits digits = list_all is_ascii_digit digits ≡ true

-- the digits of a number, as std knows them
pub numerals : IsNumeralModel AreDigits (digits_value 10)
numerals = numerals_by_value AreDigits (search rules)

below_128 : (c : ℕ) → is_ascii_digit c ≡ true → c < 128
below_128 c h = grind (arith, nat_tests)

-- digits are text
pub IsUtf8-digits : (digits : List ℕ) → AreDigits digits → IsUtf8 digits
IsUtf8-digits digits are = IsUtf8-from_ascii digits
    (IsAscii-from_all digits (λ k d lt. below_128 (get_or digits k d)
    (AllPass-from_list_all is_ascii_digit digits are k d lt)))

-- so many digits spell a number below that power of ten
pub digits_value-below : (digits : List ℕ) (most : ℕ) → AreDigits digits → length digits ≤ most → digits_value 10 digits < 10 ^ most
digits_value-below digits most are few = digits_value_short numerals digits most are few

-- where what is asked for holds, that is the number
pub natural-Some : (most : ℕ) (word : List ℕ) → AreDigits word → 0 < length word → length word ≤ most → natural most word ≡ Some (digits_value 10 word)
natural-Some most word are some few = grind (arith, nat_tests)

-- what `parse` makes of so many digits
pub parsed : {E : Type 0} (most : ℕ) (word text : List ℕ) (r : Result ℕ E) → most ≤ MAX_DIGITS → text ≡ word
    → AreDigits word → 0 < length word → length word ≤ most
    → ParsesUnsigned 64 10 text r → (result_ok r ≡ natural most word) × IfSome (result_ok r) (λ n. n < 10 ^ MAX_DIGITS)
parsed most word text r few_digits same are some few parses =
    let wide : 10 ^ most ≤ 10 ^ MAX_DIGITS = pow-le-pow_right (lit< tt) few_digits in
    let below = digits_value-below word most are few in
    let small : digits_value 10 word < 10 ^ MAX_DIGITS = omega (arith, wide, below) in
    let gives : r ≡ Ok (digits_value 10 word) = parse_gives numerals 64 word r (rw same at parses) are some (omega (arith, small)) in
    rw gives (sym (natural-Some most word are some few), small)

-- what digits spell is below that power of ten
pub natural-below : (most : ℕ) (word : List ℕ) (n : ℕ) → natural most word ≡ Some n → n < 10 ^ most
natural-below most word n spelled = numeral (is_numeral most word) refl spelled
  where
    numeral : (b : Bool) → is_numeral most word ≡ b → cond b (Some (digits_value 10 word)) None ≡ Some n → n < 10 ^ most
    numeral true is e =
        let value : digits_value 10 word ≡ n = cc in
        let are : AreDigits word = grind (arith, nat_tests) in
        let few : length word ≤ most = grind (arith, nat_tests) in
        rw (← value) (digits_value-below word most are few)
    numeral false is e = absurd cc

mapped : (f : ℕ → ℤ) (o : Option ℕ) (z : ℤ) → option_map f o ≡ Some z → (n : ℕ) × (o ≡ Some n) × (f n ≡ z)
mapped f None z h = absurd cc
mapped f (Some n) z h = (n, refl, cc)

nat_abs-negated : (n : ℕ) → nat_abs (negated n) ≡ n
nat_abs-negated zero = refl
nat_abs-negated (suc n) = refl

-- and what a sign and digits spell is as near to 0
pub integer-below : (most : ℕ) (word : List ℕ) (z : ℤ) → integer most word ≡ Some z → nat_abs z < 10 ^ most
unfolding integer
integer-below most word z spelled = by_sign (starts_with_minus word) spelled
  where
    by_sign : (b : Bool) → cond b (option_map negated (natural most (drop 1 word))) (option_map pos (natural most word)) ≡ Some z → nat_abs z < 10 ^ most
    by_sign true h = let m = mapped negated (natural most (drop 1 word)) z h in rw (← m.2, nat_abs-negated) (natural-below most (drop 1 word) m.0 m.1)
    by_sign false h = let m = mapped pos (natural most word) z h in rw (← m.2) (natural-below most word m.0 m.1)
