-- Numbers as bytes, and how they are read.
use Rattle.std.specs.Prelude.{ℕ, suc, zero, ℤ, pos, negsuc, ◌+◌, ◌-◌, ◌*◌, ◌/◌, ◌%◌, if◌then◌else◌, nat_lt, Result, Ok, Err, List, [], ◌∷◌}
use Rattle.lemma_log.specs.declared.fault.DecodeFault.{DecodeFault}
use Rattle.lemma_log.specs.declared.fault.DecodeFault.TheVariants.{Short, Form}

-- ---- bytes

-- the digits of a number to the base 128, lowest first, so many at most; each but the last has 128 added
unfoldable pub digits_text : ℕ → ℕ → List ℕ
digits_text zero n = []
digits_text (suc most) n = if nat_lt n 128 then n ∷ [] else (n % 128 + 128) ∷ digits_text most (n / 128)

-- a number below 2 ^ 133
unfoldable pub number_text : ℕ → List ℕ
number_text n = digits_text 19 n

-- 0, -1, 1, -2 .. in this order
abbrev pub zigzag : ℤ → ℕ
zigzag (pos n) = 2 * n
zigzag (negsuc n) = 2 * n + 1

-- a whole number
abbrev pub signed_text : ℤ → List ℕ
signed_text v = number_text (zigzag v)

-- ---- reading

-- what was read of some bytes, and those that follow it
pub record Part (A : Type 0) : Type 0 where
  pub value : A
  pub left : List ℕ

-- a digit that others follow
abbrev pub with_digit : ℕ → Result (Part ℕ) DecodeFault → Result (Part ℕ) DecodeFault
with_digit low (Ok high) = Ok (record { value = low + 128 * high.value; left = high.left })
with_digit low (Err fault) = Err fault

-- the number that bytes begin with, where it has so many digits at most
unfoldable pub digits_in : ℕ → List ℕ → Result (Part ℕ) DecodeFault
digits_in zero bytes = Err Form
digits_in (suc most) [] = Err Short
digits_in (suc most) (b ∷ bs) = if nat_lt b 128 then Ok (record { value = b; left = bs }) else with_digit (b - 128) (digits_in most bs)
