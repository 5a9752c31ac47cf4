-- Lines up to the end of the bytes, read one after another.
use Rattle.std.proofs.Common.{◌≡◌, ◌≤◌, ◌<◌, ℕ, zero, suc, ◌-◌, List, [], ◌∷◌, ◌++◌, length, Option, Some, None, option_map, refl, sym, ap, ◌∙◌, append_assoc}
use Rattle.std.proofs.Common.{arith}
use Rattle.lemma_proof.specs.declared.line.Line.{Line}
use Rattle.lemma_log.specs.Reading.{line_in, lines_in}

-- some were found, and the others are still to be read of what is left
pub record IsHalfway (bytes : List ℕ) (found : List Line) (left : List ℕ) : Type 0 where
  pub most : ℕ
  pub room : length left ≤ most
  pub read_so : lines_in (length bytes) bytes ≡ option_map (λ ls. found ++ ls) (lines_in most left)

as_before : (o : Option (List Line)) → o ≡ option_map (λ ls. [] ++ ls) o
as_before (Some ls) = refl
as_before None = refl

pub start : (bytes : List ℕ) → IsHalfway bytes [] bytes
start bytes = record { most = length bytes; room = omega arith; read_so = as_before (lines_in (length bytes) bytes) }

more_found : (found : List Line) (x : Line) (o : Option (List Line))
    → option_map (λ ls. found ++ ls) (option_map (λ ls. x ∷ ls) o) ≡ option_map (λ ls. (found ++ x ∷ []) ++ ls) o
more_found found x (Some ls) = ap Some (sym (append_assoc found (x ∷ []) ls))
more_found found x None = refl

pub more_lines : (most : ℕ) (left : List ℕ) (x : Line) (rest : List ℕ) → 0 < length left → 0 < most
    → line_in left ≡ Some (record { value = x; left = rest })
    → lines_in most left ≡ option_map (λ ls. x ∷ ls) (lines_in (most - 1) rest)
more_lines most [] x rest some room e = absurd (omega arith)
more_lines zero (b ∷ bs) x rest some room e = absurd (omega arith)
more_lines (suc most) (b ∷ bs) x rest some room e =
    let less : suc most - 1 ≡ most = omega arith in
    rw (e, less)

pub step : (bytes : List ℕ) (found : List Line) (left : List ℕ) (x : Line) (rest : List ℕ) → IsHalfway bytes found left
    → 0 < length left → line_in left ≡ Some (record { value = x; left = rest }) → length rest < length left
    → IsHalfway bytes (found ++ x ∷ []) rest
step bytes found left x rest h some e less = record {
  most = h.most - 1;
  room = omega (arith, h.room);
  read_so = h.read_so ∙ ap (option_map (λ ls. found ++ ls))
      (more_lines h.most left x rest some (omega (arith, h.room)) e) ∙ more_found found x (lines_in (h.most - 1) rest);
}

none_more : (most : ℕ) (left : List ℕ) → 0 < length left → line_in left ≡ None → lines_in most left ≡ None
none_more most [] some e = absurd (omega arith)
none_more zero (b ∷ bs) some e = refl
none_more (suc most) (b ∷ bs) some e = rw e

-- what is left begins with no line
pub none : (bytes : List ℕ) (found : List Line) (left : List ℕ) → IsHalfway bytes found left → 0 < length left
    → line_in left ≡ None → lines_in (length bytes) bytes ≡ None
none bytes found left h some e = h.read_so ∙ ap (option_map (λ ls. found ++ ls)) (none_more h.most left some e)

no_more : (most : ℕ) (left : List ℕ) → length left ≡ 0 → lines_in most left ≡ Some []
no_more most [] e = refl
no_more most (b ∷ bs) e = absurd (omega arith)

-- nothing is left
pub all : (bytes : List ℕ) (found : List Line) (left : List ℕ) → IsHalfway bytes found left → length left ≡ 0
    → lines_in (length bytes) bytes ≡ Some (found ++ [])
all bytes found left h e = h.read_so ∙ ap (option_map (λ ls. found ++ ls)) (no_more h.most left e)
