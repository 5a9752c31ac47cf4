-- Texts of logs spell their events, and no others.
use Rattle.std.proofs.Common.{◌≡◌, ℕ, List, [], ◌∷◌, ◌++◌, Result, Ok, Err, refl, sym, ap, ◌∙◌, subst, append_assoc, arith}
use Rattle.std.specs.List.{flat_map, AllByRecursion}
use Rattle.std.proofs.lemmas.List.{append-nil}
use Rattle.lemma_log.specs.declared.event.Event.{Event}
use Rattle.lemma_log.specs.declared.fault.DecodeFault.{DecodeFault}
use Rattle.lemma_log.specs.declared.fault.DecodeFault.TheVariants.{Short}
use Rattle.lemma_log.specs.Numbers.{Part}
use Rattle.lemma_log.specs.Text.{event_text, title_text, IsWritable}
use Rattle.lemma_log.specs.Reading.{cut, frame_in, framed, read_in}
use Rattle.lemma_log.specs.Logs.{AreFirst, LogIsOne, LogIsSpelled}
use Rattle.lemma_log.proofs.Digits.{read_empty}
use Rattle.lemma_log.proofs.EventBack.{read_back}

first_written : (events : List Event) (rest : List ℕ) → AllByRecursion IsWritable events → AreFirst (flat_map event_text events ++ rest) events rest
first_written [] rest all = refl
first_written (e ∷ events) rest all = (
  flat_map event_text events ++ rest,
  rw (append_assoc (event_text e) (flat_map event_text events) rest) (read_back e (flat_map event_text events ++ rest) all.0),
  first_written events rest all.1,
)

pub log_is_spelled : LogIsSpelled
log_is_spelled events all = record {
  body = flat_map event_text events;
  title = refl;
  first = subst (λ (bytes : List ℕ). AreFirst bytes events []) (append-nil (flat_map event_text events)) (first_written events [] all);
}

-- ---- one log

frame_none : frame_in [] ≡ Err Short
unfolding frame_in
frame_none = ap cut (read_empty 9 (omega arith))

-- no bytes are no event
pub read_none : read_in [] ≡ Err Short
read_none = ap framed frame_none

same_part : (r : Result (Part Event) DecodeFault) (p q : Part Event) → r ≡ Ok p → r ≡ Ok q → p ≡ q
same_part r p q h k = cc

one_first : (bytes : List ℕ) (events others : List Event) → AreFirst bytes events [] → AreFirst bytes others [] → events ≡ others
one_first bytes [] [] h k = refl
one_first bytes [] (f ∷ others) h k = absurd (let few = read_none in let is = rw (sym h) at k.1 in cc)
one_first bytes (e ∷ events) [] h k = absurd (let few = read_none in let is = rw (sym k) at h.1 in cc)
one_first bytes (e ∷ events) (f ∷ others) h k =
    let same = same_part (read_in bytes) (record { value = e; left = h.0 }) (record { value = f; left = k.0 }) h.1 k.1 in
    let event : e ≡ f = ap (λ (p : Part Event). p.value) same in
    let left : k.0 ≡ h.0 = sym (ap (λ (p : Part Event). p.left) same) in
    let rest : events ≡ others = one_first h.0 events others h.2 (subst (λ (b : List ℕ). AreFirst b others []) left k.2) in
    cc

same_body : (a b : List ℕ) → title_text ++ a ≡ title_text ++ b → a ≡ b
same_body a b h = cc

pub log_is_one : LogIsOne
log_is_one text events others h k =
    let body : h.body ≡ k.body = same_body h.body k.body (sym h.title ∙ k.title) in
    one_first k.body events others (subst (λ (b : List ℕ). AreFirst b events []) body h.first) k.first
