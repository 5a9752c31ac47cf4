-- What the table of starts holds, and what it lacks.
use Rattle.std.proofs.Common.{◌≡◌, ℕ, zero, suc, ◌+◌, ◌<◌, ◌≤◌, Bool, true, false, cond, List, [], ◌∷◌, ◌++◌, length, get_or, map, take, refl, sym, ap, ◌∙◌}
use Rattle.std.proofs.Common.{arith, Option, Some, None, eqb, ltb, ⊎_elim, ◌⊎◌, inl, inr, ◌≢◌, append_assoc, replicate, eq-eqb, if◌then◌else◌, ℤ, pos, is_none}
use Rattle.std.proofs.Common.{is_some, unwrap_or}
use Rattle.std.proofs.Math.ListN.{length-set}
use Rattle.std.proofs.lemmas.List.{get_or-set_same, get_or-set_other, take_more, map-append, append-nil}
use Rattle.std.specs.List.{position_or_len, range_with_len}
use Rattle.std.proofs.lemmas.Bool.{lt-ltb, le-ltb, ltb-true, cases_lt, ne_eqb}
use Rattle.std.proofs.lemmas.List.FromFn.{get_or-map-range_with_len, length-map-range_with_len, fill_by_all}
use Rattle.std.proofs.lemmas.List.Sums.{position_or_len_is}
use Rattle.schedule_check.specs.declared.entry.Entry.TheVariants.{Nothing, Gives, Wrong}
use Rattle.schedule_check.specs.declared.fault.StartsFault.TheVariants as faults
use Rattle.schedule_check.specs.Starts.{start_in, start_given, starts_given, entry_fault, line_fault, missing_fault, or_else, table_fault, with_entry}
use Rattle.schedule_check.specs.Starts.{first_fault, with_entries, Entry, StartsFault}

pub positive : (n : ℕ) (b : Bool) → b ≡ eqb n 0 → b ≡ false → 0 < n
positive zero b e f = absurd (cc)
positive (suc n) b e f = omega arith

-- the first activity without a start
pub missing_at : (found : List (Option ℤ)) (n : ℕ) → n < length found
    → ((k : ℕ) → k < n → is_none (get_or found k None) ≡ false) → get_or found n None ≡ None
    → missing_fault found ≡ Some (faults.Missing n)
missing_at found n lt before none =
    let at : position_or_len is_none found ≡ n = position_or_len_is is_none found n None (omega arith) before (λ inside. ap is_none none) in
    let inside : ltb n (length found) ≡ true = lt-ltb n (length found) lt in
    rw (at, inside) refl

pub none_missing : (found : List (Option ℤ)) (n : ℕ) → length found ≡ n → ((k : ℕ) → k < n → is_none (get_or found k None) ≡ false) → missing_fault found ≡ None
none_missing found n all before =
    let at : position_or_len is_none found ≡ n = position_or_len_is is_none found n None (omega arith) before (λ inside. absurd (omega arith)) in
    let past : ltb n (length found) ≡ false = le-ltb n (length found) (omega arith) in
    rw (at, past) refl

pub given_more : (found : List (Option ℤ)) (n : ℕ) (s : ℤ) → get_or found n None ≡ Some s
    → ((k : ℕ) → k < n → is_none (get_or found k None) ≡ false) → (k : ℕ) → k < n + 1
    → is_none (get_or found k None) ≡ false
given_more found n s at before k below =
    ⊎_elim
    (λ (earlier : k < n). before k earlier)
    (λ (same : n ≤ k). let e : k ≡ n = omega arith in rw (e, at) refl)
    (cases_lt k n)

pub taken_more : (found : List (Option ℤ)) (n : ℕ) (s : ℤ) (starts news : List ℤ) → n < length found
    → get_or found n None ≡ Some s → starts ≡ map (λ start. unwrap_or start (pos 0)) (take n found)
    → news ≡ starts ++ s ∷ [] →
    news ≡ map (λ start. unwrap_or start (pos 0)) (take (n + 1) found)
taken_more found n s starts news lt at is more =
    rw (take_more found n None lt, map-append (λ (start : Option ℤ). unwrap_or start (pos 0)) (take n found) (get_or found n None ∷ []), at, more, is) refl

-- ---- the table is what the entries give

pub given_later : (before : List Entry) (e : Entry) (activity : ℕ)
    → start_given (before ++ e ∷ []) activity ≡
    (if is_some (start_given before activity) then start_given before activity else start_in activity e)
given_later [] e activity = last (start_in activity e)
  where
    last : (o : Option ℤ) → cond (is_some o) o None ≡ o
    last None = refl
    last (Some s) = refl
given_later (f ∷ before) e activity = first (start_in activity f) (given_later before e activity)
  where
    first : (o : Option ℤ) → start_given (before ++ e ∷ []) activity ≡ cond (is_some (start_given before activity))
        (start_given before activity) (start_in activity e)
        → cond (is_some o) o (start_given (before ++ e ∷ []) activity) ≡ cond
        (is_some (cond (is_some o) o (start_given before activity)))
        (cond (is_some o) o (start_given before activity)) (start_in activity e)
    first None rest = rest
    first (Some s) rest = refl

pub given_at : (n : ℕ) (es : List Entry) (activity : ℕ) → activity < n → get_or (starts_given n es) activity None ≡ start_given es activity
given_at n es activity lt = get_or-map-range_with_len (start_given es) 0 n activity activity None lt (omega arith)

pub given_length : (n : ℕ) (es : List Entry) → length (starts_given n es) ≡ n
given_length n es = length-map-range_with_len (start_given es) 0 n

-- an entry has the same fault by the table as by the entries before it
same_fault : (n : ℕ) (before : List Entry) (line : ℕ) (e : Entry) → table_fault (starts_given n before) line e ≡ entry_fault n before line e
same_fault n before line Nothing = refl
same_fault n before line Wrong = refl
same_fault n before line (Gives activity start) =
    rw (given_length n before) (by_place (ltb activity n) refl)
  where
    by_place : (b : Bool) → ltb activity n ≡ b
        → cond b (cond (is_some (get_or (starts_given n before) activity None)) (Some (faults.Repeated line)) None)
        (Some (faults.Activity line)) ≡ cond b
        (cond (is_some (start_given before activity)) (Some (faults.Repeated line)) None) (Some (faults.Activity line))
    by_place false e = refl
    by_place true e = rw (given_at n before activity (ltb-true activity n e)) refl

-- an entry without a fault gives an activity its first start
pub fine_parts : (activity line : ℕ) (b d : Bool)
    → cond b (cond d (Some (faults.Repeated line)) None) (Some (faults.Activity line)) ≡ None → (b ≡ true) × (d ≡ false)
fine_parts activity line true false h = (refl, refl)
fine_parts activity line b d h = absurd (cc)

none_by : (o : Option ℤ) → is_some o ≡ false → o ≡ None
none_by None h = refl
none_by (Some s) h = absurd (cc)

or_none : (o : Option ℤ) → cond (is_some o) o None ≡ o
or_none None = refl
or_none (Some s) = refl

same_or_other : (k m : ℕ) → (k ≡ m) ⊎ (k ≢ m)
same_or_other k m =
    ⊎_elim
    (λ (less : k < m). inr (λ e. absurd (omega arith)))
    (λ (more : m ≤ k). ⊎_elim (λ (less : m < k). inr (λ e. absurd (omega arith))) (λ (least : k ≤ m). inl (omega arith)) (cases_lt m k))
    (cases_lt k m)

-- the table with one entry more, which has no fault
pub more_given : (n : ℕ) (before : List Entry) (line : ℕ) (e : Entry) → entry_fault n before line e ≡ None
    → with_entry (starts_given n before) e ≡ starts_given n (before ++ e ∷ [])
more_given n before line e fine =
    fill_by_all (start_given (before ++ e ∷ [])) (with_entry (starts_given n before) e) n None (same_length e)
    (λ k lt. place e fine k lt ∙ sym (given_later before e k))
  where
    same_length : (e : Entry) → length (with_entry (starts_given n before) e) ≡ n
    same_length (Gives activity start) = length-set (starts_given n before) activity (Some start) ∙ given_length n before
    same_length e = given_length n before

    place : (e : Entry) → entry_fault n before line e ≡ None → (k : ℕ) → k < n
        → get_or (with_entry (starts_given n before) e) k None ≡ cond (is_some (start_given before k))
        (start_given before k) (start_in k e)
    place Nothing fine k lt = given_at n before k lt ∙ sym (or_none (start_given before k))
    place Wrong fine k lt = absurd (cc)
    place (Gives activity start) fine k lt =
        let parts = fine_parts activity line (ltb activity n) (is_some (start_given before activity)) fine in
        let inside : activity < length (starts_given n before) = omega (arith, given_length n before, ltb-true activity n parts.0) in
        ⊎_elim
        (λ (same : k ≡ activity).
        let first : start_given before activity ≡ None = none_by (start_given before activity) parts.1 in
        let named : eqb activity activity ≡ true = eq-eqb activity activity refl in
        rw (same, get_or-set_same (starts_given n before) activity (Some start) None inside, first, named) refl)
        (λ (other : k ≢ activity).
        let unnamed : eqb activity k ≡ false = ne_eqb activity k (λ e. other (sym e)) in
        rw (
          get_or-set_other (starts_given n before) activity k (Some start) None other,
          given_at n before k lt,
          unnamed,
        ) (sym (or_none (start_given before k))))
        (same_or_other k activity)

-- from a table on, the first fault and what is left are those of the entries
pub same_first_fault : (n : ℕ) (before : List Entry) (line : ℕ) (es : List Entry) → first_fault (starts_given n before) line es ≡ line_fault n before line es
same_first_fault n before line [] = refl
same_first_fault n before line (e ∷ es) = by_fault (entry_fault n before line e) refl (same_first_fault n (before ++ e ∷ []) (line + 1) es)
  where
    by_fault : (o : Option StartsFault) → entry_fault n before line e ≡ o
        → first_fault (starts_given n (before ++ e ∷ [])) (line + 1) es ≡ line_fault n (before ++ e ∷ []) (line + 1) es
        → or_else (table_fault (starts_given n before) line e)
        (first_fault (with_entry (starts_given n before) e) (line + 1) es) ≡ or_else (entry_fault n before line e)
        (line_fault n (before ++ e ∷ []) (line + 1) es)
    by_fault None fine rest = rw (same_fault n before line e, fine, more_given n before line e fine) rest
    by_fault (Some fault) has rest = rw (same_fault n before line e, has) refl

-- no first fault of two
pub both_none : (o p : Option StartsFault) → or_else o p ≡ None → (o ≡ None) × (p ≡ None)
both_none None p h = (refl, h)
both_none (Some fault) p h = absurd (cc)

pub all_entries : (n : ℕ) (before : List Entry) (line : ℕ) (es : List Entry) → line_fault n before line es ≡ None
    → with_entries (starts_given n before) es ≡ starts_given n (before ++ es)
all_entries n before line [] fine = ap (starts_given n) (sym (append-nil before))
all_entries n before line (e ∷ es) fine =
    let parts = both_none (entry_fault n before line e) (line_fault n (before ++ e ∷ []) (line + 1) es) fine in
    ap (λ (found : List (Option ℤ)). with_entries found es) (more_given n before line e parts.0)
    ∙ all_entries n (before ++ e ∷ []) (line + 1) es parts.1 ∙ ap (starts_given n) (append_assoc before (e ∷ []) es)

-- a table with no entries
pub empty_table : (n : ℕ) → replicate n None ≡ starts_given n []
empty_table n = sym (map_constant 0 n)
  where
    map_constant : (a n : ℕ) → map (start_given []) (range_with_len a n) ≡ replicate n None
    map_constant a zero = refl
    map_constant a (suc n) = ap (λ (os : List (Option ℤ)). None ∷ os) (map_constant (a + 1) n)
