-- What was read of an input stands for all that it tells: a text within the limit is all of it, and a
-- longer one is too long either way.
use Rattle.std.proofs.Common.{◌≡◌, ◌≢◌, ℕ, ℤ, ◌+◌, ◌<◌, List, length, take, refl, sym, ap, subst, ◌∙◌, arith, inl, inr, ◌⊎◌, Some, ◌≤◌, [], ◌++◌, drop, Option}
use Rattle.std.proofs.Common.{Bool, true, false, None, append-nil, length-take, take_all}
use Rattle.std.proofs.lemmas.Bool.{cases_order, lt-ltb}
use Rattle.network.specs.Problem.{Problem, activity_count, IsProject}
use Rattle.schedule_check.specs.declared.fault.StartsFault.TheVariants as starts
use Rattle.schedule_check.specs.Starts.{starts_fault}
use Rattle.sch_reader.specs.declared.fault.SchFault.{SchFault}
use Rattle.sch_reader.specs.declared.fault.SchFault.TheVariants as texts
use Rattle.sch_reader.specs.Text.{Spells, IsFirstFault}
use Rattle.words.specs.declared.TheConstants.{MAX_TEXT_BYTES}
use Rattle.devices.specs.declared.fault.Fault.{Fault}
use Rattle.devices.specs.declared.fault.Fault.TheVariants as faults
use Rattle.devices.specs.Faults.{fault_of}
use Rattle.devices.specs.Texts.{SpellsOne, HasFault, GivesStarts, IsFirstStartsFault, IsSearchRefusal}
use Rattle.devices.specs.Runs.{ReadsOn}
use Rattle.std.proofs.Math.Seq.{take-add, take-append_seam}
use Rattle.std.proofs.KnownBytes.{Appends-trans, Consumes-trans}
use Rattle.std.specs.Io.KnownBytes.{Appends, Consumes, IsAtEnd}

pub same_or_long : (most : ℕ) (text bytes : List ℕ) → text ≡ take (most + 1) bytes → (text ≡ bytes) ⊎ ((most < length text) × (most < length bytes))
same_or_long most text bytes e = by_length (length bytes) refl
  where
    long : length text ≡ length (take (most + 1) bytes)
    long = ap length e

    by_length : (n : ℕ) → length bytes ≡ n → (text ≡ bytes) ⊎ ((most < length text) × (most < length bytes))
    by_length n is = elim (cases_order n (most + 1)) [
      | inl one_more ↦ inr (omega (arith, long, length-take (most + 1) bytes), omega arith)
      | inr apart ↦ elim apart [
        | inl small ↦ inl (e ∙ take_all (most + 1) bytes (omega arith))
        | inr large ↦ inr (omega (arith, long, length-take (most + 1) bytes), omega arith)
      ]
    ]

-- a text that was read as a project spells it
pub spells_one : {Told : List ℕ → Type 0} (p : Problem) (text : List ℕ) (P : Problem → Type 0) → IsProject p
    × ((bytes : List ℕ) → Told bytes → Spells bytes p) → Told text → P p → SpellsOne text P
spells_one p text P read told has = record { project = p; is_project = read.0; spells = read.1 text told; has = has }

pub spells_whole : (text bytes : List ℕ) (p : Problem) → text ≡ take (MAX_TEXT_BYTES + 1) bytes → Spells text p → Spells bytes p
spells_whole text bytes p e h = elim (same_or_long MAX_TEXT_BYTES text bytes e) [
  | inl same ↦ subst (λ (t : List ℕ). Spells t p) same h
  | inr long ↦ let size = h.size in absurd (omega (arith, long.0))
]

pub fault_whole : (text bytes : List ℕ) (fault : Fault) → text ≡ take (MAX_TEXT_BYTES + 1) bytes → HasFault text fault → HasFault bytes fault
fault_whole text bytes fault e h = elim (same_or_long MAX_TEXT_BYTES text bytes e) [
  | inl same ↦ subst (λ (t : List ℕ). HasFault t fault) same h
  | inr long ↦ record {
    none = λ p is spells. let size = spells.size in absurd (omega (arith, long.1));
    cause = h.cause;
    first = elim h.first [
      | inl too ↦ inl (record { long = long.1; fault_is = too.fault_is })
      | inr short ↦ let size = short.0 in absurd (omega (arith, long.0))
    ];
    told = h.told;
  }
]

-- what the reader says of a text that it refuses, for want of memory aside
pub refused_by : (text : List ℕ) (cause : SchFault) (fault : Fault) → fault ≡ fault_of cause
    → ((p : Problem) → IsProject p → Spells text p → cause ≡ texts.Memory)
    → (cause ≢ texts.Memory → IsFirstFault text cause) → fault ≢ faults.Memory
    → HasFault text fault
refused_by text cause fault is only first other =
    let apart : cause ≢ texts.Memory = λ e. other (is ∙ ap fault_of e) in
    record { none = λ p is' spells. apart (only p is' spells); cause = cause; first = first apart; told = is }

-- ---- texts of starts

long_starts : (n : ℕ) (text : List ℕ) → MAX_TEXT_BYTES < length text → starts_fault n text ≡ Some starts.TooLong
long_starts n text h = rw (lt-ltb MAX_TEXT_BYTES (length text) h) refl

-- the first fault of what was read is that of all that the input tells
fault_of_all : (n : ℕ) (text bytes : List ℕ) → text ≡ take (MAX_TEXT_BYTES + 1) bytes → starts_fault n bytes ≡ starts_fault n text
fault_of_all n text bytes e = elim (same_or_long MAX_TEXT_BYTES text bytes e) [
  | inl same ↦ ap (λ (t : List ℕ). starts_fault n t) (sym same)
  | inr long ↦ long_starts n bytes long.1 ∙ sym (long_starts n text long.0)
]

pub starts_fault_whole : (p : Problem) (text bytes : List ℕ) (fault : Fault) → text ≡ take (MAX_TEXT_BYTES + 1) bytes
    → IsFirstStartsFault p text fault → IsFirstStartsFault p bytes fault
starts_fault_whole p text bytes fault e h = record {
  cause = h.cause;
  first = fault_of_all (activity_count p) text bytes e ∙ h.first;
  told = h.told;
}

-- and so are the starts that it gives
pub starts_whole : (p : Problem) (text bytes : List ℕ) (P : List ℤ → Type 0) → text ≡ take (MAX_TEXT_BYTES + 1) bytes
    → GivesStarts p text P → GivesStarts p bytes P
starts_whole p text bytes P e h = elim (same_or_long MAX_TEXT_BYTES text bytes e) [
  | inl same ↦ subst (λ (t : List ℕ). GivesStarts p t P) same h
  | inr long ↦ let fault = long_starts (activity_count p) text long.0 in let none = h.read in cc
]

-- a text that gives no starts is refused
pub refuses_start : (start : Bool) (text more : List ℕ) (fault : Fault) → start ≡ true → SpellsOne text (λ p. IsFirstStartsFault p more fault) →
    IsSearchRefusal start text more fault
refuses_start true text more fault on h = inr h
refuses_start false text more fault on h = cc

-- ---- Pieces that a device gave or took, one after another.

-- a front of the bytes was taken, and then a front of the rest
pub taken_more : (old mid new : Option (List ℕ)) (bytes : List ℕ) (i n : ℕ) → Appends old mid (take i bytes)
    → Appends mid new (take n (drop i bytes)) → Appends old new (take (i + n) bytes)
taken_more old mid new bytes i n p q = rw (take-add i n bytes) (Appends-trans old mid new (take i bytes) (take n (drop i bytes)) p q)

-- what was read is a beginning of what the input told
begins : (xs text ys : List ℕ) → xs ≡ text ++ ys → take (length text) xs ≡ text
begins xs text ys p = rw p (take-append_seam text ys)

-- all was read: the limit and one byte, or all there is
whole_to_limit : (old new : Option (List ℕ)) (text bytes : List ℕ) (most : ℕ) → Consumes old new text
    → old ≡ Some bytes → length text ≡ most → text ≡ take most bytes
whole_to_limit None new text bytes most p e same = cc
whole_to_limit (Some xs) None text bytes most p e same = absurd p
whole_to_limit (Some xs) (Some ys) text bytes most p e same =
    let front = begins xs text ys p in
    let is : xs ≡ bytes = cc in
    rw (same, is) at (sym front)

whole_to_end : (old new : Option (List ℕ)) (text bytes : List ℕ) (most : ℕ) → Consumes old new text → IsAtEnd new
    → old ≡ Some bytes → length text ≤ most → text ≡ take most bytes
whole_to_end None new text bytes most p end e within = cc
whole_to_end (Some xs) None text bytes most p end e within = absurd p
whole_to_end (Some xs) (Some ys) text bytes most p end e within =
    let is : bytes ≡ xs = cc in
    let all : bytes ≡ text = is ∙ p ∙ ap (λ (r : List ℕ). text ++ r) end ∙ append-nil text in
    rw all (sym (take_all most text within))

-- what was read from the beginning is what the input gave
pub all_read : (most : ℕ) (told after : Option (List ℕ)) (text : List ℕ) → ReadsOn most [] told text after → Consumes told after text
all_read most told after text read = subst (λ (t : List ℕ). Consumes told after t) (sym read.is) read.given

-- what was read to the limit or the end is all that the input tells, up to the limit
pub reads_whole : (most : ℕ) (told after : Option (List ℕ)) (text bytes : List ℕ) → ReadsOn most [] told text after
    → told ≡ Some bytes → text ≡ take most bytes
reads_whole most told after text bytes read is =
    let given = all_read most told after text read in
    elim read.enough [
      | inl full ↦ whole_to_limit told after text bytes most given is full
      | inr end ↦ whole_to_end told after text bytes most given end is read.within
    ]

-- and so is what was read on after a front of it
pub reads_rest : (most : ℕ) (told after : Option (List ℕ)) (head text rest : List ℕ) → ReadsOn most head told text after
    → told ≡ Some rest → text ≡ take most (head ++ rest)
reads_rest most told after head text rest read is =
    let later : Consumes (Some rest) after read.piece = subst (λ (o : Option (List ℕ)). Consumes o after read.piece) is read.given in
    let all : Consumes (Some (head ++ rest)) after (head ++ read.piece) =
    Consumes-trans (Some (head ++ rest)) (Some rest) after head read.piece refl later in
    reads_whole most (Some (head ++ rest)) after text (head ++ rest) (record {
      piece = text;
      is = refl;
      given = subst (λ (t : List ℕ). Consumes (Some (head ++ rest)) after t) (sym read.is) all;
      within = read.within;
      enough = read.enough;
    }) refl

-- a front was read, and the rest is left
pub rest_left : (told after : Option (List ℕ)) (head bytes : List ℕ) → Consumes told after head → told ≡ Some bytes
    → (rest : List ℕ) × (after ≡ Some rest) × (bytes ≡ head ++ rest)
rest_left None after head bytes p e = cc
rest_left (Some xs) None head bytes p e = absurd p
rest_left (Some xs) (Some ys) head bytes p e = let same : xs ≡ bytes = cc in (ys, refl, sym same ∙ p)
