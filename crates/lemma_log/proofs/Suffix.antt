-- What follows an event is the end of the bytes.
use Rattle.std.proofs.Common.{◌≡◌, ◌<◌, ◌≤◌, ℕ, zero, suc, ◌-◌, List, [], ◌∷◌, ◌++◌, length, take, drop, Result, Ok, Err, MatchResult, ◌⊎◌, inl, inr, refl, sym}
use Rattle.std.proofs.Common.{ap, ◌∙◌, subst, append_assoc, arith}
use Rattle.std.proofs.lemmas.List.{length-append, take-append-drop}
use Rattle.std.proofs.lemmas.Bool.{cases_lt, lt-ltb, le-ltb}
use Rattle.std.proofs.Math.Seq.{drop-append_seam}
use Rattle.lemma_log.specs.declared.event.Event.{Event}
use Rattle.lemma_log.specs.declared.fault.DecodeFault.{DecodeFault}
use Rattle.lemma_log.specs.Numbers.{Part, digits_in, with_digit}
use Rattle.lemma_log.specs.Reading.{cut, frame_in, framed, read_in, whole_in, with_left}
use Rattle.lemma_log.proofs.Digits.{read_none, read_empty, read_low, read_high}

-- what is left of the bytes is their end
abbrev IsEnd : {A : Type 0} → List ℕ → Result (Part A) DecodeFault → Type 0
IsEnd {A} bytes read = MatchResult read (λ part. (front : List ℕ) × (bytes ≡ front ++ part.left)) (λ fault. Unit {0})

digit_end : (b : ℕ) (bs : List ℕ) (digit : ℕ) (high : Result (Part ℕ) DecodeFault) → IsEnd bs high → IsEnd (b ∷ bs) (with_digit digit high)
digit_end b bs digit (Ok part) h = (b ∷ h.0, ap (λ (rest : List ℕ). b ∷ rest) h.1)
digit_end b bs digit (Err fault) h = tt

digits_end_by : (most b : ℕ) (bs : List ℕ) → IsEnd bs (digits_in most bs) → (b < 128) ⊎ (128 ≤ b) → IsEnd (b ∷ bs) (digits_in (suc most) (b ∷ bs))
digits_end_by most b bs h (inl low) = rw (read_low most b bs low) (b ∷ [], refl)
digits_end_by most b bs h (inr high) = rw (read_high most b bs high) (digit_end b bs (b - 128) (digits_in most bs) h)

digits_end : (most : ℕ) (bytes : List ℕ) → IsEnd bytes (digits_in most bytes)
digits_end zero bytes = rw (read_none zero bytes refl) tt
digits_end (suc most) [] = rw (read_empty (suc most) (omega arith)) tt
digits_end (suc most) (b ∷ bs) = digits_end_by most b bs (digits_end most bs) (cases_lt b 128)

cut_end_by : (bytes : List ℕ) (size : Part ℕ) → IsEnd bytes (Ok size) → (length size.left < size.value)
    ⊎ (size.value ≤ length size.left) → IsEnd bytes (cut (Ok size))
cut_end_by bytes size h (inl few) = rw (lt-ltb (length size.left) size.value few) tt
cut_end_by bytes size h (inr enough) =
    rw (le-ltb (length size.left) size.value enough) (
      h.0 ++ take size.value size.left,
      h.1 ∙ ap (λ (rest : List ℕ). h.0 ++ rest) (sym (take-append-drop size.value size.left))
          ∙ sym (append_assoc h.0 (take size.value size.left) (drop size.value size.left)),
    )

cut_end : (bytes : List ℕ) (size : Result (Part ℕ) DecodeFault) → IsEnd bytes size → IsEnd bytes (cut size)
cut_end bytes (Ok size) h = cut_end_by bytes size h (cases_lt (length size.left) size.value)
cut_end bytes (Err fault) h = tt

frame_end : (bytes : List ℕ) → IsEnd bytes (frame_in bytes)
unfolding frame_in
frame_end bytes = cut_end bytes (digits_in 9 bytes) (digits_end 9 bytes)

framed_end : (bytes : List ℕ) (frame : Result (Part (List ℕ)) DecodeFault) → IsEnd bytes frame → IsEnd bytes (framed frame)
framed_end bytes (Ok frame) h = by_event (whole_in frame.value)
  where
    by_event : (found : Result Event DecodeFault) → IsEnd bytes (with_left found frame.left)
    by_event (Ok e) = h
    by_event (Err fault) = tt
framed_end bytes (Err fault) h = tt

read_end : (bytes : List ℕ) → IsEnd bytes (read_in bytes)
read_end bytes = framed_end bytes (frame_in bytes) (frame_end bytes)

seam : (bytes front left : List ℕ) (count : ℕ) → bytes ≡ front ++ left → count ≡ length bytes - length left → left ≡ drop count bytes
seam bytes front left count is many =
    let long : count ≡ length front = omega (arith, many, ap length is, length-append front left) in
    rw (long, is) (sym (drop-append_seam front left))

end_is : (bytes left : List ℕ) (e : Event) → read_in bytes ≡ Ok (record { value = e; left = left }) → (front : List ℕ) × (bytes ≡ front ++ left)
end_is bytes left e h = subst (λ (read : Result (Part Event) DecodeFault). IsEnd bytes read) h (read_end bytes)

-- so many bytes are those of the event
left_after : (bytes left : List ℕ) (e : Event) (count : ℕ) → read_in bytes ≡ Ok (record { value = e; left = left })
    → count ≡ length bytes - length left → left ≡ drop count bytes
left_after bytes left e count h is = let end = end_is bytes left e h in seam bytes end.0 left count end.1 is

pub first_read : (bytes left : List ℕ) (e : Event) (count : ℕ) → read_in bytes ≡ Ok (record { value = e; left = left })
    → count ≡ length bytes - length left → read_in bytes ≡ Ok (record { value = e; left = drop count bytes })
first_read bytes left e count h is = h ∙ ap (λ (rest : List ℕ). Ok (record { value = e; left = rest })) (left_after bytes left e count h is)
