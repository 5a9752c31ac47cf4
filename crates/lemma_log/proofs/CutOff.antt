-- Bytes of an event that are cut off are short.
use Rattle.std.proofs.Common.{◌≡◌, ◌≢◌, ◌≤◌, ◌<◌, ℕ, zero, suc, ◌-◌, List, [], ◌∷◌, ◌++◌, length, Result, Ok, Err, MatchResult, ◌⊎◌, inl, inr, refl, ap, arith}
use Rattle.std.proofs.lemmas.List.{length-append, take-append-le, drop-append-le}
use Rattle.std.proofs.lemmas.Bool.{cases_lt, lt-ltb, le-ltb}
use Rattle.lemma_log.specs.declared.event.Event.{Event}
use Rattle.lemma_log.specs.declared.fault.DecodeFault.{DecodeFault}
use Rattle.lemma_log.specs.declared.fault.DecodeFault.TheVariants.{Short, Form, Long, Memory}
use Rattle.lemma_log.specs.Numbers.{Part, digits_in, with_digit}
use Rattle.lemma_log.specs.Text.{body_text, event_text, IsWritable}
use Rattle.lemma_log.specs.Reading.{cut, frame_in, framed, read_in, whole_in, with_left}
use Rattle.lemma_log.specs.Law.{ReadsBack}
use Rattle.lemma_log.proofs.Digits.{read_none, read_empty, read_low, read_high, number_again}
use Rattle.lemma_log.proofs.EventBack.{read_back}

-- what is read of bytes, and what is read where more follow them
abbrev pub IsStable : {A : Type 0} → List ℕ → Result (Part A) DecodeFault → Result (Part A) DecodeFault → Type 0
IsStable {A} more here there =
    MatchResult here (λ part. there ≡ Ok (record { value = part.value; left = part.left ++ more })) (λ fault. fault ≢ Short → there ≡ Err fault)

digit_stable : (more : List ℕ) (digit : ℕ) (here there : Result (Part ℕ) DecodeFault) → IsStable more here there
    → IsStable more (with_digit digit here) (with_digit digit there)
digit_stable more digit (Ok part) there h = ap (with_digit digit) h
digit_stable more digit (Err fault) there h = λ ne. ap (with_digit digit) (h ne)

stable_by : (most b : ℕ) (bs more : List ℕ) → IsStable more (digits_in most bs) (digits_in most (bs ++ more))
    → (b < 128) ⊎ (128 ≤ b) → IsStable more (digits_in (suc most) (b ∷ bs)) (digits_in (suc most) (b ∷ (bs ++ more)))
stable_by most b bs more h (inl low) = rw (read_low most b bs low, read_low most b (bs ++ more) low) refl
stable_by most b bs more h (inr high) = rw (read_high most b bs high, read_high most b (bs ++ more) high)
    (digit_stable more (b - 128) (digits_in most bs) (digits_in most (bs ++ more)) h)

stable : (most : ℕ) (bytes more : List ℕ) → IsStable more (digits_in most bytes) (digits_in most (bytes ++ more))
stable zero bytes more = rw (read_none zero bytes refl, read_none zero (bytes ++ more) refl) (λ ne. refl)
stable (suc most) [] more = rw (read_empty (suc most) (omega arith)) (λ ne. absurd (ne refl))
stable (suc most) (b ∷ bs) more = stable_by most b bs more (stable most bs more) (cases_lt b 128)

same_part : {A : Type 0} (r : Result (Part A) DecodeFault) (p q : Part A) → r ≡ Ok p → r ≡ Ok q → p ≡ q
same_part r p q h k = cc

some_length : (more : List ℕ) → more ≢ [] → 0 < length more
some_length [] ne = absurd (ne refl)
some_length (b ∷ bs) ne = omega arith

-- ---- what is read stays where more follows

cut_stable_by : (more : List ℕ) (size : Part ℕ) → (length size.left < size.value) ⊎ (size.value ≤ length size.left)
    → IsStable more (cut (Ok size)) (cut (Ok (record { value = size.value; left = size.left ++ more })))
cut_stable_by more size (inl few) = rw (lt-ltb (length size.left) size.value few) (λ ne. absurd (ne refl))
cut_stable_by more size (inr enough) =
    let there : size.value ≤ length (size.left ++ more) = omega (arith, enough, length-append size.left more) in
    rw (
      le-ltb (length size.left) size.value enough,
      le-ltb (length (size.left ++ more)) size.value there,
      take-append-le size.value size.left more enough,
      drop-append-le size.value size.left more enough,
    ) refl

cut_stable : (more : List ℕ) (here there : Result (Part ℕ) DecodeFault) → IsStable more here there → IsStable more (cut here) (cut there)
cut_stable more (Ok size) there h = rw h (cut_stable_by more size (cases_lt (length size.left) size.value))
cut_stable more (Err fault) there h = λ ne. ap cut (h ne)

frame_stable : (bytes more : List ℕ) → IsStable more (frame_in bytes) (frame_in (bytes ++ more))
unfolding frame_in
frame_stable bytes more = cut_stable more (digits_in 9 bytes) (digits_in 9 (bytes ++ more)) (stable 9 bytes more)

framed_stable : (more : List ℕ) (here there : Result (Part (List ℕ)) DecodeFault) → IsStable more here there → IsStable more (framed here) (framed there)
framed_stable more (Ok frame) there h = rw h (by_event (whole_in frame.value))
  where
    by_event : (found : Result Event DecodeFault) → IsStable more (with_left found frame.left) (with_left found (frame.left ++ more))
    by_event (Ok e) = refl
    by_event (Err fault) = λ ne. refl
framed_stable more (Err fault) there h = λ ne. ap framed (h ne)

-- an event that is read is read where more follows it, and what is no event is none then
pub read_stable : (bytes more : List ℕ) → IsStable more (read_in bytes) (read_in (bytes ++ more))
read_stable bytes more = framed_stable more (frame_in bytes) (frame_in (bytes ++ more)) (frame_stable bytes more)

-- fewer bytes follow the number than it says
cut_short : (here : Result (Part ℕ) DecodeFault) (body more : List ℕ) → more ≢ []
    → IsStable more here (Ok (record { value = length body; left = body })) → cut here ≡ Err Short
cut_short (Ok part) body more ne h =
    let same = same_part (Ok (record { value = length body; left = body }))
    (record { value = length body; left = body }) (record { value = part.value; left = part.left ++ more }) refl h
    in
    let value : length body ≡ part.value = ap (λ (p : Part ℕ). p.value) same in
    let left : body ≡ part.left ++ more = ap (λ (p : Part ℕ). p.left) same in
    let few : length part.left < part.value = omega (arith, length-append part.left more, ap length left, some_length more ne) in
    rw (lt-ltb (length part.left) part.value few)
cut_short (Err Short) body more ne h = refl
cut_short (Err Form) body more ne h = absurd (let e = h (λ is. cc) in cc)
cut_short (Err Long) body more ne h = absurd (let e = h (λ is. cc) in cc)
cut_short (Err Memory) body more ne h = absurd (let e = h (λ is. cc) in cc)

frame_short : (bytes more : List ℕ) (e : Event) → IsWritable e → bytes ++ more ≡ event_text e → more ≢ [] → frame_in bytes ≡ Err Short
unfolding frame_in
frame_short bytes more e w is ne =
    let whole : digits_in 9 (bytes ++ more) ≡ Ok (record { value = length (body_text e); left = body_text e }) =
    rw is (number_again (length (body_text e)) (body_text e) w.size) in
    cut_short (digits_in 9 bytes) (body_text e) more ne (rw whole at (stable 9 bytes more))

pub read_short : (bytes more : List ℕ) (e : Event) → IsWritable e → bytes ++ more ≡ event_text e → more ≢ [] → read_in bytes ≡ Err Short
read_short bytes more e w is ne = ap framed (frame_short bytes more e w is ne)

-- ---- the law

written : (bytes rest : List ℕ) (e : Event) → IsWritable e → bytes ≡ event_text e ++ rest → read_in bytes ≡ Ok (record { value = e; left = rest })
written bytes rest e w is = rw is (read_back e rest w)

pub back_read : (bytes left : List ℕ) (e : Event) (count : ℕ) → read_in bytes ≡ Ok (record { value = e; left = left })
    → count ≡ length bytes - length left → ReadsBack bytes (Ok (record { event = e; count = count }))
back_read bytes left e count h is = record {
  reads = λ f rest w spelled.
      let same = same_part (read_in bytes) (record { value = e; left = left }) (record { value = f; left = rest }) h (written bytes rest f w spelled) in
      let event : e ≡ f = ap (λ (p : Part Event). p.value) same in
      let after : left ≡ rest = ap (λ (p : Part Event). p.left) same in
      (event, omega (arith, ap length spelled, ap length after, length-append (event_text f) rest));
  short = λ f more w spelled ne. let few = read_short bytes more f w spelled ne in absurd cc;
}

memory_only : (bytes rest : List ℕ) (e : Event) (fault : DecodeFault) → (fault ≢ Memory → read_in bytes ≡ Err fault)
    → read_in bytes ≡ Ok (record { value = e; left = rest }) → fault ≡ Memory
memory_only bytes rest e Memory h same = refl
memory_only bytes rest e Short h same = absurd (let is = h (λ no. cc) in cc)
memory_only bytes rest e Form h same = absurd (let is = h (λ no. cc) in cc)
memory_only bytes rest e Long h same = absurd (let is = h (λ no. cc) in cc)

pub back_fault : (bytes : List ℕ) (fault : DecodeFault) → (fault ≢ Memory → read_in bytes ≡ Err fault) → ReadsBack bytes (Err fault)
back_fault bytes fault h = record {
  reads = λ e rest w spelled. memory_only bytes rest e fault h (written bytes rest e w spelled);
  short = λ e more w spelled ne no. let few = read_short bytes more e w spelled ne in let is = h no in cc;
}
