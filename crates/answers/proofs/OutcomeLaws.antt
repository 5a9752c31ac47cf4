-- What is said of an outcome is an answer of `solve`.
use Rattle.std.proofs.Common.{◌≡◌, true, false, Some, None, inl, inr, arith, ℕ, List, [], ◌∷◌, ◌++◌, map, ℤ, pos, negsuc, Option, refl, sym, ap, ◌∙◌}
use Rattle.std.proofs.Common.{append_assoc, codes}
use Rattle.network.specs.declared.outcome.Outcome.{Outcome}
use Rattle.network.specs.declared.outcome.Outcome.TheVariants.{Optimal, NoSchedule, Stopped}
use Rattle.answers.specs.Outcomes.{FoundIsTrue, SaidIsTrue}
use Rattle.std.specs.List.{join_with_byte}
use Rattle.std.specs.Fmt.{signed_decimal}
use Rattle.json.specs.Print.{escape, escape_byte}
use Rattle.serde_json.specs.Data.{number}
use Rattle.serde_json.specs.View.{items_of}
use Rattle.serde_json.specs.Find.{of_integer, is_float}
use Rattle.serde_json.specs.Written as written
use Rattle.serde_json.specs.Written.{has_float, items_have_float, compact_text, items_text}
use Rattle.answers.specs.Figured.{figured_data}
use Rattle.answers.specs.declared.json_text.Figures.{Figures}
use Rattle.answers.specs.Answers.{number_text, list_text, json_line, number_data, list_data, answer_data}

pub said_is_true : SaidIsTrue
said_is_true p (Optimal best) alone json exit written is below said = inl (record {
  starts = best.starts;
  feasible = is.found.feasible;
  shortest = is.verdict;
  text = said.1;
  status = said.0;
})
said_is_true p NoSchedule alone json exit written is below said = inr (inl (record { none = is.verdict; text = said.1; status = said.0 }))
said_is_true p (Stopped (Some best) bound) alone json exit written is below said = inr (inr (inl (record {
  starts = best.starts;
  bound = bound;
  feasible = is.found.feasible;
  holds = is.verdict;
  below = below;
  text = said.1;
  status = said.0;
})))
said_is_true p (Stopped None bound) alone json exit written is below said =
    inr (inr (inr (record { bound = bound; holds = is.verdict; text = said.1; status = said.0 })))

pub found_is_true : FoundIsTrue
found_is_true p None outcome json exit written is within said = said_is_true p outcome false json exit written is (λ (e : false ≡ true). cc) said
found_is_true p (Some from) (Optimal best) json exit written is within said = inl (record {
  starts = best.starts;
  feasible = is.found.feasible;
  shortest = is.verdict;
  text = said.1;
  status = said.0;
})
found_is_true p (Some from) NoSchedule json exit written is within said = absurd within
found_is_true p (Some from) (Stopped (Some best) bound) json exit written is within said = inr (record {
  starts = best.starts;
  bound = bound;
  feasible = is.found.feasible;
  no_longer = within;
  holds = is.verdict;
  text = said.1;
  status = said.0;
})
found_is_true p (Some from) (Stopped None bound) json exit written is within said = absurd within

-- ---- The answer as JSON: it has no float, and its compact text is the line.

-- ---- no float

integer_no_float : (z : ℤ) → is_float (of_integer z) ≡ false
integer_no_float (pos n) = refl
integer_no_float (negsuc n) = refl

items_no_float : (zs : List ℤ) → items_have_float (items_of (map (λ z. number (of_integer z)) zs)) ≡ false
items_no_float [] = refl
items_no_float (z ∷ zs) = rw (integer_no_float z, items_no_float zs) refl

number_no_float : (o : Option ℤ) → has_float (number_data o) ≡ false
number_no_float None = refl
number_no_float (Some z) = integer_no_float z

list_no_float : (o : Option (List ℤ)) → has_float (list_data o) ≡ false
list_no_float None = refl
list_no_float (Some zs) = items_no_float zs

pub answer_no_float : (bound makespan : Option ℤ) (starts : Option (List ℤ)) (status : List ℕ) → has_float (answer_data bound makespan starts status) ≡ false
answer_no_float bound makespan starts status = rw (number_no_float bound, number_no_float makespan, list_no_float starts) refl

pub figured_no_float : (f : Figures) (bound makespan : Option ℤ) (starts : Option (List ℤ)) (status : List ℕ)
    → has_float (figured_data f bound makespan starts status) ≡ false
figured_no_float f bound makespan starts status = rw (number_no_float bound, number_no_float makespan, list_no_float starts) refl

-- ---- the compact text

integer_printed : (z : ℤ) → written.number_text (of_integer z) ≡ signed_decimal z
integer_printed (pos n) = refl
integer_printed (negsuc n) = refl

number_printed : (o : Option ℤ) → compact_text (number_data o) ≡ number_text o
number_printed None = refl
number_printed (Some z) = integer_printed z

-- the numbers of a list, and its bracket
items_printed : (z : ℤ) (zs : List ℤ) → items_text false (items_of (map (λ z. number (of_integer z)) (z ∷ zs))) ≡
    join_with_byte 44 (map signed_decimal (z ∷ zs)) ++ codes "]"
items_printed z [] = ap (λ (r : List ℕ). r ++ codes "]") (integer_printed z)
items_printed z (y ∷ zs) =
    let rest = join_with_byte 44 (map signed_decimal (y ∷ zs)) in
    ap (λ (r : List ℕ). r ++ (44 ∷ items_text false (items_of (map (λ z. number (of_integer z)) (y ∷ zs)))))
    (integer_printed z) ∙ ap (λ (r : List ℕ). signed_decimal z ++ (44 ∷ r)) (items_printed y zs)
    ∙ sym (append_assoc (signed_decimal z) (44 ∷ rest) (codes "]"))

list_printed : (o : Option (List ℤ)) → compact_text (list_data o) ≡ list_text o
list_printed (Some (z ∷ zs)) = ap (λ (r : List ℕ). 91 ∷ r) (items_printed z zs)
list_printed o = refl

-- one part of the line, and then what comes after it
part : (here key rest after : List ℕ) → rest ++ codes "\n" ≡ after → (here ++ (key ++ rest)) ++ codes "\n" ≡ here ++ (key ++ after)
part here key rest after e =
    append_assoc here (key ++ rest) (codes "\n") ∙ ap (λ (r : List ℕ). here ++ r) (append_assoc key rest (codes "\n") ∙ ap (λ (r : List ℕ). key ++ r) e)

-- the text of the value is the line, where the status needs no escapes
pub answer_printed : (bound makespan : Option ℤ) (starts : Option (List ℤ)) (status : List ℕ) → escape status ≡ status
    → compact_text (answer_data bound makespan starts status) ++ codes "\n" ≡ json_line bound makespan starts status
unfolding escape_byte
answer_printed bound makespan starts status plain =
    let word = (status ++ 34 ∷ []) ++ 125 ∷ [] in
    let end : word ++ codes "\n" ≡ status ++ codes "\"}\n" = append_assoc (status ++ 34 ∷ []) (125 ∷ []) (codes "\n")
    ∙ append_assoc status (34 ∷ []) (125 ∷ codes "\n") in
    let third = part (list_text starts) (codes ",\"status\":\"") word (status ++ codes "\"}\n") end in
    let after_starts = list_text starts ++ (codes ",\"status\":\"" ++ word) in
    let second = part (number_text makespan) (codes ",\"starts\":") after_starts _ third in
    let after_makespan = number_text makespan ++ (codes ",\"starts\":" ++ after_starts) in
    let first = part (number_text bound) (codes ",\"makespan\":") after_makespan _ second in
    rw (number_printed bound, number_printed makespan, list_printed starts, plain) (ap (λ (r : List ℕ). codes "{\"bound\":" ++ r) first)
