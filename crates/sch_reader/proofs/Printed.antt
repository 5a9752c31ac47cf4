-- What the reader makes of a printed number, and how long it is.
use Rattle.std.proofs.Common.{◌≡◌, ℕ, suc, ◌≤◌, ◌<◌, ◌^◌, Bool, true, false, eqb, List, [], ◌∷◌, ◌++◌, length, map, get_or, ℤ, pos, negsuc, Option, Some, refl}
use Rattle.std.proofs.Common.{ap, ◌∙◌, append_assoc, length-append, arith, nat_abs, ◌≤ℤ◌, ◌+◌, ◌-◌, take, drop, sym, ◌*◌, subst, codes, int_le}
use Rattle.std.specs.List.{All, filter, flat_map, join_with_byte, range_with_len}
use Rattle.std.specs.Char.{is_ascii_digit}
use Rattle.std.specs.Fmt.{decimal, signed_decimal}
use Rattle.std.proofs.lemmas.Bool.{ne_eqb, and_parts}
use Rattle.std.proofs.lemmas.Bool.Decides.{nat_tests}
use Rattle.std.proofs.lemmas.Fmt.{digits_decimal, digits_value-decimal, length-decimal-le, decimal_nonempty}
use Rattle.std.proofs.lemmas.Int.{ints}
use Rattle.std.proofs.lemmas.List.Elements.{All-cons, All-head, All-tail}
use Rattle.std.proofs.lemmas.List.Splits.{slice_split-cons_yes, slice_split_at}
use Rattle.std.proofs.lemmas.List.Sums.{AllPass-from_list_all}
use Rattle.network.specs.declared.limits.TheConstants.{MAX_LAG_WEIGHT}
use Rattle.network.specs.Problem.{IsWithin, IsBetween}
use Rattle.words.specs.Words.{is_in, is_word, words, natural, integer}
use Rattle.words.proofs.WordLaws.{AreDigits, numerals, natural-Some}
use Rattle.sch_reader.specs.Text.{blanks, text_words, token, bracketed, line, tabbed, arcs_row, amounts_row, capacity_rows}
use Rattle.sch_reader.specs.Layout.{is_between}
use Rattle.std.proofs.lemmas.List.{append-nil, take_all, map-append}
use Rattle.std.proofs.lemmas.List.Concat.{flat_map-append}
use Rattle.std.proofs.lemmas.List.FromFn.{map-range_with_len_more}
use Rattle.network.specs.declared.parts.Lag.{Lag}

-- ---- words

abbrev pub is_blank : ℕ → Bool
is_blank b = is_in blanks b

abbrev pub IsUnbroken : List ℕ → Type 0
IsUnbroken word = All (λ b. is_blank b ≡ false) word

-- a blank is passed over
pub blank_passed : (b : ℕ) (rest : List ℕ) → is_blank b ≡ true → text_words (b ∷ rest) ≡ text_words rest
unfolding words
blank_passed b rest h = ap (filter is_word) (slice_split-cons_yes is_blank b rest h)

-- a word ends at a blank
pub word_taken : (word : List ℕ) (b : ℕ) (rest : List ℕ) → 0 < length word → IsUnbroken word → is_blank b ≡ true
    → text_words (word ++ b ∷ rest) ≡ word ∷ text_words rest
unfolding words
word_taken [] b rest some none h = absurd (omega arith)
word_taken (c ∷ word) b rest some none h = ap (filter is_word) (slice_split_at is_blank (c ∷ word) b rest none h)

-- ---- numbers

digit_no_blank : (c : ℕ) → is_ascii_digit c ≡ true → is_blank c ≡ false
digit_no_blank c h = grind (arith, nat_tests)

digits_unbroken : (digits : List ℕ) → AreDigits digits → IsUnbroken digits
digits_unbroken digits are k d lt = digit_no_blank (get_or digits k d) (AllPass-from_list_all is_ascii_digit digits are k d lt)

minus_no_digit : (c : ℕ) → c ≡ 45 → is_ascii_digit c ≡ true → ⊥
minus_no_digit c e d = grind (arith, nat_tests)

no_minus : (digits : List ℕ) → AreDigits digits → 0 < length digits → eqb (get_or digits 0 0) 45 ≡ false
no_minus digits are some = ne_eqb (get_or digits 0 0) 45 (λ e. minus_no_digit (get_or digits 0 0) e (AllPass-from_list_all is_ascii_digit digits are 0 0 some))

-- a number of up to 7 digits
pub record IsShort (n : ℕ) (word : List ℕ) : Type 0 where
  pub digits : AreDigits word
  pub some : 0 < length word
  pub size : length word ≤ 7
  pub number : natural 9 word ≡ Some n

pub decimal_short : (n : ℕ) → n < 10000000 → IsShort n (decimal n)
decimal_short n small =
    let fits : n < 2 ^ 64 = omega arith in
    let digits = digits_decimal numerals n fits in
    let some = decimal_nonempty n fits in
    let size = length-decimal-le 7 n (omega arith) (omega arith) fits in
    record {
      digits = digits;
      some = some;
      size = size;
      number =
          natural-Some 9 (decimal n) digits some (omega (arith, size)) ∙ ap Some (digits_value-decimal numerals n fits);
    }

token_decimal : (n : ℕ) (word : List ℕ) → IsShort n word → token word ≡ Some (pos n)
unfolding token integer
token_decimal n word h = rw (no_minus word h.digits h.some, h.number) refl

token_negative : (n : ℕ) (word : List ℕ) → IsShort (suc n) word → token (45 ∷ word) ≡ Some (negsuc n)
unfolding token integer
token_negative n word h = rw (h.number) refl

-- a word is a token of a number, and has no blank in it
pub record IsToken (word : List ℕ) (z : ℤ) : Type 0 where
  pub some : 0 < length word
  pub size : length word ≤ 8
  pub unbroken : IsUnbroken word
  pub spelled : token word ≡ Some z

pub decimal_token : (n : ℕ) → n < 10000000 → IsToken (decimal n) (pos n)
decimal_token n small =
    let h = decimal_short n small in
    record { some = h.some; size = omega (arith, h.size); unbroken = digits_unbroken (decimal n) h.digits; spelled = token_decimal n (decimal n) h }

pub signed_token : (z : ℤ) → IsWithin MAX_LAG_WEIGHT z → IsToken (signed_decimal z) z
signed_token (pos n) h = decimal_token n (omega (arith, ints, h.at_most))
signed_token (negsuc n) h =
    let s = decimal_short (suc n) (omega (arith, ints, h.at_least)) in
    record {
      some = omega arith;
      size = omega (arith, s.size);
      unbroken =
          All-cons (λ b. is_blank b ≡ false) 45 (decimal (suc n)) refl (digits_unbroken (decimal (suc n)) s.digits);
      spelled = token_negative n (decimal (suc n)) s;
    }

-- ---- what is printed for a number

-- before a blank it is read as that number
pub record Prints (word : List ℕ) (z : ℤ) : Type 0 where
  pub size : length word ≤ 10
  pub reads : (b : ℕ) (rest : List ℕ) → is_blank b ≡ true → map token (text_words (word ++ b ∷ rest)) ≡ Some z ∷ map token (text_words rest)

token_read : (word : List ℕ) (z : ℤ) → IsToken word z → (b : ℕ) (rest : List ℕ) → is_blank b ≡ true
    → map token (text_words (word ++ b ∷ rest)) ≡ Some z ∷ map token (text_words rest)
token_read word z h b rest blank = ap (map token) (word_taken word b rest h.some h.unbroken blank)
    ∙ ap (λ (o : Option ℤ). o ∷ map token (text_words rest)) h.spelled

token_prints : (word : List ℕ) (z : ℤ) → IsToken word z → Prints word z
token_prints word z h = record { size = omega (arith, h.size); reads = token_read word z h }

pub decimal_prints : (n : ℕ) → n < 10000000 → Prints (decimal n) (pos n)
decimal_prints n small = token_prints (decimal n) (pos n) (decimal_token n small)

pub signed_prints : (z : ℤ) → IsWithin MAX_LAG_WEIGHT z → Prints (signed_decimal z) z
signed_prints z h = token_prints (signed_decimal z) z (signed_token z h)

pub zero_prints : Prints (codes "0") (pos 0)
unfolding token integer words
zero_prints = token_prints (codes "0") (pos 0) (record { some = omega arith; size = omega arith; unbroken = digits_unbroken (48 ∷ []) refl; spelled = refl })

pub one_prints : Prints (codes "1") (pos 1)
unfolding token integer words
one_prints = token_prints (codes "1") (pos 1) (record { some = omega arith; size = omega arith; unbroken = digits_unbroken (49 ∷ []) refl; spelled = refl })

-- brackets are blanks
pub bracketed_prints : (z : ℤ) → IsWithin MAX_LAG_WEIGHT z → Prints (bracketed z) z
bracketed_prints z h =
    let t = signed_token z h in
    let word = signed_decimal z in
    record {
      size = omega (arith, t.size, length-append word (93 ∷ []));
      reads = λ b rest blank.
          let regroup : text_words (bracketed z ++ b ∷ rest) ≡ text_words (91 ∷ (word ++ 93 ∷ b ∷ rest)) =
          ap (λ (r : List ℕ). text_words (91 ∷ r)) (append_assoc word (93 ∷ []) (b ∷ rest)) in
          ap (map token) (regroup ∙ blank_passed 91 (word ++ 93 ∷ b ∷ rest) refl)
          ∙ token_read word z t 93 (b ∷ rest) refl
          ∙ ap (λ (r : List (List ℕ)). Some z ∷ map token r) (blank_passed b rest blank);
    }

-- ---- What fits a place, as bounds.

le_from_test : (a b : ℤ) → int_le a b ≡ true → a ≤ℤ b
le_from_test a b h = grind (arith, ints)

test : (a b : ℤ) → a ≤ℤ b → int_le a b ≡ true
test a b h = grind (arith, ints)

pub within : (low high z : ℤ) → is_between low high z ≡ true → IsBetween low high z
within low high z h =
    let p = and_parts (int_le low z) (int_le z high) h in
    record { at_least = le_from_test low z p.0; at_most = le_from_test z high p.1 }

pub is_between_from : (low high z : ℤ) → low ≤ℤ z → z ≤ℤ high → is_between low high z ≡ true
is_between_from low high z a b = rw (test low z a, test z high b) refl

-- one number alone
pub exactly : (k : ℕ) (z : ℤ) → is_between (pos k) (pos k) z ≡ true → z ≡ pos k
exactly k z h = let p = within (pos k) (pos k) z h in omega (arith, ints, p.at_least, p.at_most)

-- a number up to another
pub up_to : (most : ℕ) (z : ℤ) → is_between (pos 0) (pos most) z ≡ true → (z ≡ pos (nat_abs z)) × (nat_abs z ≤ most)
up_to most (pos n) h = let p = within (pos 0) (pos most) (pos n) h in (refl, omega (arith, ints, p.at_most))
up_to most (negsuc n) h = let p = within (pos 0) (pos most) (negsuc n) h in absurd (omega (arith, ints, p.at_least))

-- ---- A row's line, as it is written: a word, and then each other word with a tab before it.

pub joined : (word : List ℕ) (others : List (List ℕ)) → join_with_byte 9 (word ∷ others) ≡ word ++ flat_map tabbed others
joined word [] = sym (append-nil word)
joined word (next ∷ others) = ap (λ (r : List ℕ). word ++ (9 ∷ r)) (joined next others)

pub line_is : (word : List ℕ) (others : List (List ℕ)) → line (word ∷ others) ≡ word ++ (flat_map tabbed others ++ codes "\n")
line_is word others = ap (λ (r : List ℕ). r ++ codes "\n") (joined word others) ∙ append_assoc word (flat_map tabbed others) (codes "\n")

pub amounts_line : (old first second whole : List ℕ) (i : ℕ) (time : ℤ) (demands : List ℤ)
    → first ≡ old ++ (decimal i ++ (codes "\t1\t" ++ signed_decimal time))
    → second ≡ first ++ flat_map tabbed (map signed_decimal demands)
    → whole ≡ second ++ codes "\n" → whole ≡ old ++ line (amounts_row i time demands)
amounts_line old first second whole i time demands a b c =
    rw (c, b, a, line_is (decimal i) (codes "1" ∷ signed_decimal time ∷ map signed_decimal demands)) (simp append_assoc refl)

-- the other words of a row of arcs
others_of_arcs : (count : List ℕ) (ends weights : List (List ℕ)) (end : List ℕ)
    → flat_map tabbed (codes "1" ∷ count ∷ (ends ++ weights)) ++ end ≡ codes "\t1\t" ++ (count ++ (flat_map tabbed ends ++ (flat_map tabbed weights ++ end)))
others_of_arcs count ends weights end =
    let both = ap (λ (r : List ℕ). r ++ end) (flat_map-append tabbed ends weights) ∙ append_assoc (flat_map tabbed ends) (flat_map tabbed weights) end in
    ap (λ (r : List ℕ). codes "\t1\t" ++ r) (append_assoc count (flat_map tabbed (ends ++ weights)) end ∙ ap (λ (r : List ℕ). count ++ r) both)

pub arcs_line : (old first second third whole : List ℕ) (i : ℕ) (lags : List Lag)
    → first ≡ old ++ (decimal i ++ (codes "\t1\t" ++ decimal (length lags)))
    → second ≡ first ++ flat_map tabbed (map (λ a. decimal a.to) lags)
    → third ≡ second ++ flat_map tabbed (map (λ a. bracketed a.weight) lags) → whole ≡ third ++ codes "\n" → whole ≡ old ++ line (arcs_row i lags)
arcs_line old first second third whole i lags a b c d =
    let ends = map (λ a. decimal a.to) lags in
    let weights = map (λ a. bracketed a.weight) lags in
    let row = line_is (decimal i) (codes "1" ∷ decimal (length lags) ∷ (ends ++ weights))
    ∙ ap (λ (r : List ℕ). decimal i ++ r) (others_of_arcs (decimal (length lags)) ends weights (codes "\n")) in
    rw (d, c, b, a, row) (simp append_assoc refl)

pub capacities_line : (old first second whole : List ℕ) (capacities : List ℤ) → 1 ≤ length capacities
    → first ≡ old ++ signed_decimal (get_or capacities 0 (pos 0))
    → second ≡ first ++ flat_map tabbed (map signed_decimal (take (length capacities - 1) (drop 1 capacities)))
    → whole ≡ second ++ codes "\n" → whole ≡ old ++ flat_map line (capacity_rows capacities)
capacities_line old first second whole [] some a b c = absurd (omega arith)
capacities_line old first second whole (z ∷ zs) some a b c =
    let word = signed_decimal z in
    let words = map signed_decimal zs in
    let all : take (length (z ∷ zs) - 1) zs ≡ zs = take_all (length (z ∷ zs) - 1) zs (omega arith) in
    let rest : second ≡ first ++ flat_map tabbed words = b ∙ ap (λ (r : List ℤ). first ++ flat_map tabbed (map signed_decimal r)) all in
    rw (c, rest, a, append-nil (line (word ∷ words)), line_is word words) (simp append_assoc refl)

-- one row more
pub row_more : (old now later : List ℕ) (f : ℕ → List (List ℕ)) (i : ℕ) → now ≡ old ++ flat_map line (map f (range_with_len 0 i)) → later ≡ now ++ line (f i)
    → later ≡ old ++ flat_map line (map f (range_with_len 0 (i + 1)))
row_more old now later f i a b =
    let before = flat_map line (map f (range_with_len 0 i)) in
    let more : flat_map line (map f (range_with_len 0 (i + 1))) ≡ before ++ line (f i) =
    ap (flat_map line) (map-range_with_len_more f 0 i i (omega arith))
    ∙ flat_map-append line (map f (range_with_len 0 i)) (f i ∷ [])
    ∙ ap (λ (r : List ℕ). before ++ r) (append-nil (line (f i))) in
    b ∙ ap (λ (r : List ℕ). r ++ line (f i)) a ∙ append_assoc old before (line (f i)) ∙ sym (ap (λ (r : List ℕ). old ++ r) more)

-- ---- Lines of printed numbers, read again.

-- each word prints its number
abbrev pub AllPrint : List (List ℕ) → List ℤ → Type 0
AllPrint [] [] = Unit {0}
AllPrint [] (z ∷ zs) = ⊥
AllPrint (word ∷ others) [] = ⊥
AllPrint (word ∷ others) (z ∷ zs) = Prints word z × AllPrint others zs

pub AllPrint-append : (words more : List (List ℕ)) (zs ys : List ℤ) → AllPrint words zs → AllPrint more ys → AllPrint (words ++ more) (zs ++ ys)
AllPrint-append [] more [] ys h g = g
AllPrint-append (word ∷ words) more (z ∷ zs) ys h g = (h.0, AllPrint-append words more zs ys h.1 g)
AllPrint-append words more zs ys h g = absurd h

pub AllPrint-map : {X : Type 0} (P : X → Type 0) (f : X → List ℕ) (g : X → ℤ) (xs : List X)
    → ((x : X) → P x → Prints (f x) (g x)) → All P xs → AllPrint (map f xs) (map g xs)
AllPrint-map P f g [] prints each = tt
AllPrint-map P f g (x ∷ xs) prints each = (prints x (All-head P x xs each), AllPrint-map P f g xs prints (All-tail P x xs each))

-- A text of numbers: at most 11 bytes for each, and read as these before whatever comes after it.
pub record Writes (text : List ℕ) (numbers : List ℤ) : Type 0 where
  pub size : length text ≤ 11 * length numbers
  pub reads : (rest : List ℕ) → map token (text_words (text ++ rest)) ≡ map Some numbers ++ map token (text_words rest)

pub line_writes : (word : List ℕ) (others : List (List ℕ)) (z : ℤ) (zs : List ℤ) → Prints word z → AllPrint others zs → Writes (line (word ∷ others)) (z ∷ zs)
line_writes word [] z [] p h = record {
  size = omega (arith, p.size, length-append word (10 ∷ []));
  reads = λ rest. ap (λ (r : List ℕ). map token (text_words r)) (append_assoc word (10 ∷ []) rest) ∙ p.reads 10 rest refl;
}
line_writes word (next ∷ others) z (y ∷ zs) p h =
    let more = line_writes next others y zs h.0 h.1 in
    let tail = line (next ∷ others) in
    let same : line (word ∷ next ∷ others) ≡ word ++ 9 ∷ tail = append_assoc word (9 ∷ join_with_byte 9 (next ∷ others)) (10 ∷ []) in
    let all : Writes (word ++ 9 ∷ tail) (z ∷ y ∷ zs) = record {
      size = omega (arith, p.size, more.size, length-append word (9 ∷ tail));
      reads = λ rest. ap (λ (r : List ℕ). map token (text_words r)) (append_assoc word (9 ∷ tail) rest)
          ∙ p.reads 9 (tail ++ rest) refl ∙ ap (λ (r : List (Option ℤ)). Some z ∷ r) (more.reads rest);
    } in
    subst (λ (t : List ℕ). Writes t (z ∷ y ∷ zs)) (sym same) all
line_writes word others z zs p h = absurd h

pub Writes-nil : Writes [] []
Writes-nil = record { size = omega arith; reads = λ rest. refl }

pub Writes-append : (text more : List ℕ) (zs ys : List ℤ) → Writes text zs → Writes more ys → Writes (text ++ more) (zs ++ ys)
Writes-append text more zs ys h g = record {
  size = omega (arith, h.size, g.size, length-append text more, length-append zs ys);
  reads = λ rest.
      let first = ap (λ (r : List ℕ). map token (text_words r)) (append_assoc text more rest) ∙ h.reads (more ++ rest) in
      let second = ap (λ (r : List (Option ℤ)). map Some zs ++ r) (g.reads rest) in
      let grouped = ap (λ (r : List (Option ℤ)). r ++ map token (text_words rest)) (map-append Some zs ys)
      ∙ append_assoc (map Some zs) (map Some ys) (map token (text_words rest)) in
      first ∙ second ∙ sym grouped;
}
