-- Reading the places of a layout one after the other, with the first fault that is met.
use Rattle.std.specs.Prelude.{◌≡◌, ◌≢◌, Bool, true, false, ℕ, ◌+◌, List, [], ◌∷◌, ℤ, Option, Some, None, Result, Ok, Err}
use Rattle.sch_reader.specs.declared.fault.SchFault.TheVariants as faults
use Rattle.sch_reader.specs.Text.{token}
use Rattle.network.specs.Problem.{Problem}
use Rattle.sch_reader.specs.Layout.{Layout, done, place, fits, misfit, project_text, SchFault, Place}

-- the words that are left, and how many came before
pub record Cursor : Type 0 where
  pub index : ℕ
  pub rest : List (List ℕ)

infixl 10 ◌>>=◌
abbrev pub ◌>>=◌ : {A B : Type 0} → Result A SchFault → (A → Result B SchFault) → Result B SchFault
(Ok x) >>= f = f x
(Err e) >>= f = Err e

abbrev pub if_fits : Bool → Place → ℕ → ℤ → Result ℤ SchFault
if_fits true p index z = Ok z
if_fits false p index z = Err (misfit p index z)

-- the number at a place, where the word there is a token of it
abbrev pub fitted : Place → ℕ → Option ℤ → Result ℤ SchFault
fitted p index None = Err (faults.Token index)
fitted p index (Some z) = if_fits (fits p z) p index z

abbrev pub number_of : Place → ℕ → List (List ℕ) → Result (ℤ × Cursor) SchFault
number_of p index [] = Err (faults.Short index)
number_of p index (w ∷ ws) =
    fitted p index (token w) >>= λ z. Ok (z, record { index = index + 1; rest = ws })

-- the number at a place
unfoldable pub number_at : Place → Cursor → Result (ℤ × Cursor) SchFault
number_at p c = number_of p c.index c.rest

-- what a layout reads
abbrev pub reading : {A : Type 0} → Layout A → Cursor → Result (A × Cursor) SchFault
reading (done x) c = Ok (x, c)
reading (place p next) c = number_at p c >>= λ x. reading (next x.0) x.1

-- the whole text
abbrev pub ended : Problem → ℕ → List (List ℕ) → Result Problem SchFault
ended p index [] = Ok p
ended p index (w ∷ ws) = Err (faults.Trailing index)

unfoldable pub whole_reading : List (List ℕ) → Result Problem SchFault
whole_reading words =
    reading project_text (record { index = 0; rest = words }) >>= λ x. ended x.0 x.1.index x.1.rest

-- What a function returned, seen by view, is what reading gives, unless memory ran out, and it left
-- the reader there.
abbrev pub Reads :
    {X Y : Type 0} → (X → Y) → Result X SchFault → Cursor → Result (Y × Cursor) SchFault → Type 0
Reads view (Ok x) after read = read ≡ Ok (view x, after)
Reads view (Err e) after read = e ≢ faults.Memory → read ≡ Err e

abbrev pub Gives : {X Y : Type 0} → (X → Y) → Result X SchFault → Result Y SchFault → Type 0
Gives view (Ok x) read = read ≡ Ok (view x)
Gives view (Err e) read = e ≢ faults.Memory → read ≡ Err e
