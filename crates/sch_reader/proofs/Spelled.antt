-- What the answer of the whole reading says of a text: the project that it spells, or its first fault.
use Rattle.std.proofs.Common.{◌≡◌, ◌≢◌, ℕ, ◌≤◌, ◌<◌, List, [], ◌∷◌, ◌++◌, length, ℤ, Option, Some, None, Result, Ok, Err, refl, sym, ap, subst, ◌∙◌, inl, inr}
use Rattle.std.proofs.Common.{arith, IsOk, OnErr, append-nil}
use Rattle.network.specs.Problem.{Problem, IsProject}
use Rattle.sch_reader.specs.declared.fault.SchFault.TheVariants as faults
use Rattle.sch_reader.specs.declared.place.Place.TheVariants as places
use Rattle.words.specs.declared.TheConstants.{MAX_TEXT_BYTES}
use Rattle.sch_reader.specs.Text.{text_words, token, flat, Spell, Spells, IsFirstWordFault, IsFirstFault, misfit_of}
use Rattle.sch_reader.specs.Layout.{project_text, misfit, SchFault, Place}
use Rattle.sch_reader.specs.Reading.{Cursor, ◌>>=◌, reading, ended, whole_reading}
use Rattle.sch_reader.proofs.Readings.{WasRead, reading_was}
use Rattle.sch_reader.proofs.Exact.{start, fault_is_first, spelled_is_read}
use Rattle.sch_reader.proofs.Whole.{exact}

answer : Problem → Result Problem SchFault
answer p = Ok p

-- ---- a project that was read

after_all : (text : List ℕ) (q p : Problem) (c : Cursor) (rest : List (List ℕ)) → length text ≤ MAX_TEXT_BYTES
    → c.rest ≡ rest → WasRead project_text 0 (text_words text) q c → ended q c.index rest ≡ Ok p → IsProject p
    × Spells text p
after_all text q p c (w ∷ more) size is was e = absurd cc
after_all text q p c [] size is was e =
    let f = exact.found was.numbers q was.reached in
    let all : text_words text ≡ was.front = was.parts ∙ ap (λ (r : List (List ℕ)). was.front ++ r) is ∙ append-nil was.front in
    let spelled : Spell (text_words text) (flat q) =
    subst (λ (zs : List ℤ). Spell (text_words text) zs) (sym f.1)
    (subst (λ (t : List (List ℕ)). Spell t was.numbers) (sym all) was.spelled) in
    let same : q ≡ p = cc in
    subst (λ (r : Problem). IsProject r × Spells text r) same (f.0, record { size = size; spelled = spelled })

by_reading : (text : List ℕ) (p : Problem) (r : Result (Problem × Cursor) SchFault) → length text ≤ MAX_TEXT_BYTES
    → reading project_text (start (text_words text)) ≡ r → (r >>= λ x. ended x.0 x.1.index x.1.rest) ≡ Ok p
    → IsProject p × Spells text p
by_reading text p (Ok x) size is h = after_all text x.0 p x.1 x.1.rest size refl (reading_was project_text 0 (text_words text) x.0 x.1 is) h
by_reading text p (Err d) size is h = absurd cc

-- what is read is spelled
pub read_is_spelled : (text : List ℕ) (p : Problem) → length text ≤ MAX_TEXT_BYTES → whole_reading (text_words text) ≡ Ok p → IsProject p × Spells text p
unfolding whole_reading
read_is_spelled text p size h = by_reading text p (reading project_text (start (text_words text))) size refl h

-- a text spells at most one project
pub spelled_once : (text : List ℕ) (p q : Problem) → IsProject p → IsProject q → Spells text p → Spells text q → p ≡ q
spelled_once text p q fit fit' s t =
    let one = spelled_is_read exact text p fit s in
    let other = spelled_is_read exact text q fit' t in
    cc

-- what was read is what the text spells
pub read_alone : (text : List ℕ) (p q : Problem) → whole_reading (text_words text) ≡ Ok p → IsProject q → Spells text q → p ≡ q
read_alone text p q h fit s = let other = spelled_is_read exact text q fit s in cc

-- ---- a fault

-- a fault that can be nothing but Memory is Memory
memory_alone : (e : SchFault) → (e ≢ faults.Memory → ⊥) → e ≡ faults.Memory
memory_alone faults.Memory h = refl
memory_alone e h = absurd (h (λ x. absurd cc))

-- where the text spells a project the fault is Memory
pub fault_of_spelled : (text : List ℕ) (p : Problem) (e : SchFault) → IsProject p → Spells text p
    → (e ≢ faults.Memory → whole_reading (text_words text) ≡ Err e) → e ≡ faults.Memory
fault_of_spelled text p e fit s h = memory_alone e (λ other. let a = spelled_is_read exact text p fit s in let b = h other in absurd cc)

pub first_fault : (text : List ℕ) (e : SchFault) → length text ≤ MAX_TEXT_BYTES → whole_reading (text_words text) ≡ Err e → IsFirstFault text e
first_fault text e size h = fault_is_first exact text e size h

misfit_short : (p : Place) (index : ℕ) (z : ℤ) → misfit p index z ≢ faults.TooLong
misfit_short places.Activities index z e = absurd cc
misfit_short places.Resources index z e = absurd cc
misfit_short places.OtherResources index z e = absurd cc
misfit_short (places.Id row id) index z e = absurd cc
misfit_short (places.Mode row) index z e = absurd cc
misfit_short (places.Count left) index z e = absurd cc
misfit_short (places.Successor row last) index z e = absurd cc
misfit_short places.Lag index z e = absurd cc
misfit_short (places.Nothing row) index z e = absurd cc
misfit_short places.Amount index z e = absurd cc

misfit_of_short : (p : Place) (index : ℕ) (o : Option ℤ) → misfit_of p index o ≢ faults.TooLong
misfit_of_short p index None e = absurd cc
misfit_of_short p index (Some z) e = misfit_short p index z e

-- a word's fault is not TooLong
word_fault : (text : List (List ℕ)) (e : SchFault) → IsFirstWordFault text e → e ≢ faults.TooLong
word_fault text e (inl s) is = let k = s.fault_is in absurd cc
word_fault text e (inr (inl g)) is = let k = g.fault_is in absurd cc
word_fault text e (inr (inr m)) is = misfit_of_short m.here (length m.front) (token m.word) (sym m.fault_is ∙ is)

-- only a long text is too long
long_from_fault : (text : List ℕ) (e : SchFault) → IsFirstFault text e → e ≡ faults.TooLong → MAX_TEXT_BYTES < length text
long_from_fault text e (inl long) is = long.long
long_from_fault text e (inr other) is = absurd (word_fault (text_words text) e other.1 is)

pub not_long : (text : List ℕ) (e : SchFault) → length text ≤ MAX_TEXT_BYTES
    → (e ≢ faults.Memory → whole_reading (text_words text) ≡ Err e) → e ≢ faults.TooLong
not_long text e size h is =
    let other : e ≢ faults.Memory = λ memory. absurd cc in
    let long = long_from_fault text e (first_fault text e size (h other)) is in
    omega arith

-- ---- the parts that were read

-- a call that is refused only for what is no project is not refused for one
pub is_made : {X Y : Type 0} (r : Result X Y) (p : Problem) → OnErr r (¬ IsProject p) → IsProject p → IsOk r
is_made (Ok x) p h fit = refl
is_made (Err e) p h fit = absurd (h fit)
