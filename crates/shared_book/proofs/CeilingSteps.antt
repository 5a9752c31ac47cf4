-- Each step on the ceiling keeps the ceiling rule.
use Rattle.std.proofs.Common.{◌≡◌, ◌≢◌, ℕ, zero, suc, ◌<◌, List, [], ◌∷◌, ◌++◌, length, All, Any, set, get_or, sym, subst, arith, ◌⊎◌, ◌≤◌, min, slice_index}
use Rattle.std.proofs.Common.{slice_set, refl, inl, inr, le_refl}
use Rattle.std.proofs.lemmas.Grind.{common_steps}
use Rattle.std.proofs.lemmas.List.Elements.{All-get_or, All-set, All-weaker, All-push}
use mathlib.Core.Option.{some, some-injective, some-ne-none}
use mathlib.Core.Logic.{dite}
use native.Mathlib.Decide.{ℕ_discrete}
use lib.ListN.{get_elem?}
use Rattle.std.proofs.lemmas.Bool.{cases_lt}
use Rattle.atomic_table.specs.Table.{State, Me, Allows, Splits, keeps}
use Rattle.atomic_table.proofs.Lists.{set_again}
use Rattle.shared_book.specs.declared.ceiling_seat.View.{View}
use Rattle.shared_book.specs.Ceiling.{Sees, Lowers, HoldsLeast, number_of}

-- ---- Facts of each element, and of some element, of a list.

module _ {X : Type 0} where
  -- an element that is read is one of the list, at its place
  get_or-read : (xs : List X) (i : ℕ) (x d : X) → get_elem? xs i ≡ some x → (i < length xs) × (get_or xs i d ≡ x)
  get_or-read [] i x d read = absurd (some-ne-none x (sym read))
  get_or-read (y ∷ ys) zero x d read = (omega arith, some-injective y x read)
  get_or-read (y ∷ ys) (suc i) x d read = let there = get_or-read ys i x d read in (omega arith, there.1)

  module _ (P : X → Type 0) where
    pub All-read : (xs : List X) (i : ℕ) (x : X) → get_elem? xs i ≡ some x → All P xs → P x
    All-read xs i x read all = let there = get_or-read xs i x x read in subst P there.1 (All-get_or P xs i x there.0 all)

    -- an element is replaced by one that has the property
    pub Any-set_here : (xs : List X) (i : ℕ) (x y : X) → get_elem? xs i ≡ some x → P y → Any P (set xs i y)
    Any-set_here xs i x y read p = let there = get_or-read xs i x x read in (i, y, grind (arith, common_steps), grind (arith, common_steps), p)

    -- an element is replaced by one that has the property where the first had it
    pub Any-set_kept : (xs : List X) (i : ℕ) (x y : X) → get_elem? xs i ≡ some x → (P x → P y) → Any P xs → Any P (set xs i y)
    Any-set_kept xs i x y read kept (k, z, in_range, is, p) =
        let there = get_or-read xs i x z read in
        dite (ℕ_discrete k i)
        (λ (here : k ≡ i). Any-set_here xs i x y read (kept (let same : z ≡ x = grind arith in subst P same p)))
        (λ (elsewhere : k ≢ i). (k, z, grind (arith, common_steps), grind (arith, common_steps), p))

    pub Any-push_kept : (xs : List X) (y : X) → Any P xs → Any P (xs ++ y ∷ [])
    Any-push_kept xs y (k, z, in_range, is, p) = (k, z, grind (arith, common_steps), grind (arith, common_steps), p)

-- a ceiling that falls to n holds n, and so does the first of no words, which reads as 0
slice_set-first : (words : List ℕ) (n : ℕ) → n ≤ slice_index words 0 → slice_index (slice_set words 0 n) 0 ≡ n
slice_set-first [] n falls = omega arith
slice_set-first (x ∷ xs) n falls = refl

-- a step of the seat `seat`, which knew and had offered `old`, in a table that keeps the rule
module _ {S : Type 0} (s : State S View) (seat : ℕ) (old : View) (rule : HoldsLeast s) (read : get_elem? s.views seat ≡ some old) where
  known : number_of s ≤ old.known
  known = All-read (λ view. number_of s ≤ view.known) s.views seat old read rule.at_most_known

  offered : old.known ≤ old.offered
  offered = All-read (λ view. view.known ≤ view.offered) s.views seat old read rule.known_at_most_offered

  -- the ceiling falls to n
  falls : (n : ℕ) (new : View) → n ≤ number_of s → n ≤ new.known → new.known ≤ new.offered → Any (λ view. view.offered ≡ n) (slice_set s.views seat new)
      → HoldsLeast record { words = slice_set s.words 0 n; homes = s.homes; views = slice_set s.views seat new }
  falls n new down below_known below_offered some_offered =
      let holds = slice_set-first s.words n down in
      let lower : All (λ view. n ≤ view.known) s.views =
      All-weaker (λ view. number_of s ≤ view.known) (λ view. n ≤ view.known) (λ view above. omega arith) s.views
      rule.at_most_known in
      record {
        at_most_known = subst (λ number. All (λ view. number ≤ view.known) (slice_set s.views seat new)) (sym holds)
            (All-set (λ view. n ≤ view.known) s.views seat new below_known lower);
        known_at_most_offered = All-set (λ view. view.known ≤ view.offered) s.views seat new below_offered rule.known_at_most_offered;
        was_offered = subst (λ number. Any (λ view. view.offered ≡ number) (slice_set s.views seat new)) (sym holds) some_offered;
      }

  -- where the ceiling is below `number` it stays, and who offered it did so before; else this seat offers what it falls to
  offers : (number : ℕ) (new : View) → new.offered ≡ min old.offered number → Any (λ view. view.offered ≡ min (number_of s) number) (slice_set s.views seat new)
  offers number new adds = go (cases_lt (number_of s) number)
    where
      go : (number_of s < number) ⊎ (number ≤ number_of s) → Any (λ view. view.offered ≡ min (number_of s) number) (slice_set s.views seat new)
      go (inl below) =
          let stays : number_of s ≡ min (number_of s) number = omega arith in
          let before = subst (λ n. Any (λ view. view.offered ≡ n) s.views) stays rule.was_offered in
          Any-set_kept (λ view. view.offered ≡ min (number_of s) number) s.views seat old new read (λ was. omega arith) before
      go (inr above) =
          let knew = known in
          let had = offered in
          Any-set_here (λ view. view.offered ≡ min (number_of s) number) s.views seat old new read (omega arith)

pub sees : {S : Type 0} (slots seat : ℕ) (me : Me S View) → Allows HoldsLeast slots seat me 0 (λ n. n) (λ found after. Sees me.0 found after.0)
sees slots seat me s rule full read fits =
    let old = me.0 in
    let found = number_of s in
    let new : View = record old { known = found } in
    let knew = known s seat old rule read in
    let had = offered s seat old rule read in
    let some_offered = Any-set_kept (λ view. view.offered ≡ found) s.views seat old new read (λ was. was) rule.was_offered in
    (new, keeps, tt, falls s seat old rule read found new (le_refl found) (le_refl found) (omega arith) some_offered, (knew, refl))

pub lowers : {S : Type 0} (slots seat number : ℕ) (me : Me S View)
    → Allows HoldsLeast slots seat me 0 (λ n. min n number) (λ found after. Lowers me.0 found number after.0)
lowers slots seat number me s rule full read fits =
    let old = me.0 in
    let found = number_of s in
    let new : View = record { known = min (min old.known found) number; offered = min old.offered number } in
    let knew = known s seat old rule read in
    let had = offered s seat old rule read in (
      new,
      keeps,
      tt,
      falls s seat old rule read (min found number) new (omega arith) (omega arith) (omega arith)
          (offers s seat old rule read number new refl),
      (knew, refl),
    )

pub splits : {S : Type 0} (seat : ℕ) (view : View) → Splits {S = S} HoldsLeast seat view view view
splits seat view s rule read =
    subst (λ views. HoldsLeast record { words = s.words; homes = s.homes; views = views ++ view ∷ [] }) (sym (set_again s.views seat view read)) record {
      at_most_known = All-push (λ v. number_of s ≤ v.known) s.views view rule.at_most_known (known s seat view rule read);
      known_at_most_offered = All-push (λ v. v.known ≤ v.offered) s.views view rule.known_at_most_offered (offered s seat view rule read);
      was_offered = Any-push_kept (λ v. v.offered ≡ number_of s) s.views view rule.was_offered;
    }
