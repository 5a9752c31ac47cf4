-- What reading a layout says of the words that it went through.
use Rattle.std.proofs.Common.{◌≡◌, ℕ, ◌+◌, Bool, true, false, List, [], ◌∷◌, ◌++◌, length, ℤ, Option, Some, None, Result, Ok, Err, refl, sym, ap, subst, ◌∙◌}
use Rattle.std.proofs.Common.{arith, add-zero, suc, ◌-◌, ◌≤◌, ◌<◌, get_or, drop, nat_abs, append_assoc, append-nil, length-append}
use Rattle.sch_reader.specs.declared.fault.SchFault.TheVariants as faults
use Rattle.sch_reader.specs.Text.{token, Spell, misfit_of}
use Rattle.sch_reader.specs.Layout.{Layout, done, place, fits, misfit, ◌>>=◌ as ◌then◌, at, row_of, lags_to, network_row, network_rows, request_row}
use Rattle.sch_reader.specs.Layout.{request_rows, Requests, both, no_requests, SchFault, Place}
use Rattle.sch_reader.specs.Reading.{Cursor, ◌>>=◌, fitted, if_fits, number_at, reading}
use Rattle.sch_reader.proofs.Layouts.{Reaches}
use Rattle.std.proofs.Math.Seq.{drop-cons}
use Rattle.std.proofs.Math.ListN.{drop_of_length-le}
use Rattle.network.specs.declared.limits.TheConstants.{MAX_LAGS}
use Rattle.sch_reader.specs.declared.place.Place.TheVariants as places
use Rattle.network.specs.declared.parts.Lag.{Lag}

-- the words that a value was read from
pub record WasRead {A : Type 0} (l : Layout A) (index : ℕ) (rest : List (List ℕ)) (x : A) (after : Cursor) : Type 0 where
  pub front : List (List ℕ)
  pub numbers : List ℤ
  pub parts : rest ≡ front ++ after.rest
  pub spelled : Spell front numbers
  pub reached : Reaches l numbers (done x)
  pub index_is : after.index ≡ index + length front

abbrev answer : {A : Type 0} → A → Result A SchFault
answer x = Ok x

answer_is : {A : Type 0} (x y : A) → answer x ≡ answer y → x ≡ y
answer_is x y e = cc

-- the cursor after one word
abbrev next_cursor : ℕ → List (List ℕ) → Cursor
next_cursor index ws = record { index = index + 1; rest = ws }

abbrev found : ℤ → ℕ → List (List ℕ) → Result (ℤ × Cursor) SchFault
found z index ws = Ok (z, next_cursor index ws)

-- the step at a number
read_fit : {A : Type 0} (p : Place) (next : ℤ → Layout A) (index : ℕ) (w : List ℕ) (ws : List (List ℕ)) (z : ℤ)
    (b : Bool) (x : A) (after : Cursor) → token w ≡ Some z → fits p z ≡ b
    → (reading (next z) (next_cursor index ws) ≡ Ok (x, after) → WasRead (next z) (index + 1) ws x after)
    → ((if_fits b p index z >>= λ v. found v index ws) >>= λ y. reading (next y.0) y.1) ≡ Ok (x, after) → WasRead (place p next) index (w ∷ ws) x after
read_fit p next index w ws z true x after t f ih e =
    let r = ih e in
    let spelled : Spell (w ∷ r.front) (z ∷ r.numbers) = rw (t, r.spelled) refl in
    record {
      front = w ∷ r.front;
      numbers = z ∷ r.numbers;
      parts = ap (λ (q : List (List ℕ)). w ∷ q) r.parts;
      spelled =
          spelled;
      reached = (f, r.reached);
      index_is = omega (arith, r.index_is);
    }
read_fit p next index w ws z false x after t f ih e = absurd cc

-- the step at one place
read_on : {A : Type 0} (p : Place) (next : ℤ → Layout A) (index : ℕ) (w : List ℕ) (ws : List (List ℕ)) (o : Option ℤ) (x : A) (after : Cursor) → token w ≡ o
    → ((z : ℤ) → reading (next z) (next_cursor index ws) ≡ Ok (x, after) → WasRead (next z) (index + 1) ws x after)
    → ((fitted p index o >>= λ v. found v index ws) >>= λ y. reading (next y.0) y.1) ≡ Ok (x, after) → WasRead (place p next) index (w ∷ ws) x after
read_on p next index w ws None x after t ih e = absurd cc
read_on p next index w ws (Some z) x after t ih e = read_fit p next index w ws z (fits p z) x after t refl (ih z) e

pub reading_was : {A : Type 0} (l : Layout A) (index : ℕ) (rest : List (List ℕ)) (x : A) (after : Cursor)
    → reading l (record { index = index; rest = rest }) ≡ Ok (x, after) → WasRead l index rest x after
unfolding number_at
reading_was (done y) index rest x after e =
    let both = answer_is (y, record { index = index; rest = rest }) (x, after) e in
    record {
      front = [];
      numbers = [];
      parts = ap (λ q. q.1.rest) both;
      spelled = refl;
      reached =
          ap (λ q. done q.0) both;
      index_is = omega (arith, ap (λ q. q.1.index) both);
    }
reading_was (place p next) index [] x after e = absurd cc
reading_was (place p next) index (w ∷ ws) x after e = read_on p next index w ws (token w) x after refl (λ z. reading_was (next z) (index + 1) ws x after) e

-- why a place is not read
pub data StopsAt (p : Place) (index : ℕ) (back : List (List ℕ)) (e : SchFault) : Type 0 where
  ends : back ≡ [] → e ≡ faults.Short index → StopsAt p index back e
  stops : (w : List ℕ) (more : List (List ℕ)) → back ≡ w ∷ more → ((z : ℤ) → token w ≡ Some z → fits p z ≡ false)
      → e ≡ misfit_of p index (token w) → StopsAt p index back e

-- the words before a fault
pub record Stopped {A : Type 0} (l : Layout A) (index : ℕ) (rest : List (List ℕ)) (e : SchFault) : Type 0 where
  pub front : List (List ℕ)
  pub back : List (List ℕ)
  pub numbers : List ℤ
  pub here : Place
  pub next : ℤ → Layout A
  pub parts : rest ≡ front ++ back
  pub spelled : Spell front numbers
  pub reached : Reaches l numbers (place here next)
  pub why : StopsAt here (index + length front) back e

abbrev failed : {A : Type 0} → SchFault → Result A SchFault
failed e = Err e

fault_is : {A : Type 0} (d e : SchFault) → failed {A = A} d ≡ failed e → d ≡ e
fault_is d e h = cc

further : {A : Type 0} (p : Place) (next : ℤ → Layout A) (index : ℕ) (w : List ℕ) (ws : List (List ℕ)) (z : ℤ)
    (e : SchFault) → token w ≡ Some z → fits p z ≡ true → Stopped (next z) (index + 1) ws e
    → Stopped (place p next) index (w ∷ ws) e
further p next index w ws z e t f r =
    let spelled : Spell (w ∷ r.front) (z ∷ r.numbers) = rw (t, r.spelled) refl in
    let at : (index + 1) + length r.front ≡ index + length (w ∷ r.front) = omega arith in
    record {
      front = w ∷ r.front;
      back = r.back;
      numbers = z ∷ r.numbers;
      here = r.here;
      next = r.next;
      parts =
          ap (λ (q : List (List ℕ)). w ∷ q) r.parts;
      spelled = spelled;
      reached = (f, r.reached);
      why =
          subst (λ (i : ℕ). StopsAt r.here i r.back e) at r.why;
    }

stop_fit : {A : Type 0} (p : Place) (next : ℤ → Layout A) (index : ℕ) (w : List ℕ) (ws : List (List ℕ)) (z : ℤ)
    (b : Bool) (e : SchFault) → token w ≡ Some z → fits p z ≡ b
    → (reading (next z) (next_cursor index ws) ≡ Err e → Stopped (next z) (index + 1) ws e)
    → ((if_fits b p index z >>= λ v. found v index ws) >>= λ y. reading (next y.0) y.1) ≡ Err e → Stopped (place p next) index (w ∷ ws) e
stop_fit p next index w ws z true e t f ih h = further p next index w ws z e t f (ih h)
stop_fit p next index w ws z false e t f ih h =
    let e_is : e ≡ misfit_of p index (token w) = rw t (sym (fault_is {A = _} (misfit p index z) e h)) in
    let no : (y : ℤ) → token w ≡ Some y → fits p y ≡ false = λ y (g : token w ≡ Some y). let same : z ≡ y = cc in subst (λ (v : ℤ). fits p v ≡ false) same f in
    let at : index ≡ index + 0 = omega arith in
    record {
      front = [];
      back = w ∷ ws;
      numbers = [];
      here = p;
      next = next;
      parts = refl;
      spelled = refl;
      reached =
          refl;
      why = subst (λ (i : ℕ). StopsAt p i (w ∷ ws) e) at (stops w ws refl no e_is);
    }

stop_on : {A : Type 0} (p : Place) (next : ℤ → Layout A) (index : ℕ) (w : List ℕ) (ws : List (List ℕ)) (o : Option ℤ) (e : SchFault) → token w ≡ o
    → ((z : ℤ) → reading (next z) (next_cursor index ws) ≡ Err e → Stopped (next z) (index + 1) ws e)
    → ((fitted p index o >>= λ v. found v index ws) >>= λ y. reading (next y.0) y.1) ≡ Err e → Stopped (place p next) index (w ∷ ws) e
stop_on p next index w ws None e t ih h =
    let e_is : e ≡ misfit_of p index (token w) = rw t (sym (fault_is (faults.Token index) e h)) in
    let no : (y : ℤ) → token w ≡ Some y → fits p y ≡ false = λ y (g : token w ≡ Some y). absurd cc in
    let at : index ≡ index + 0 = omega arith in
    record {
      front = [];
      back = w ∷ ws;
      numbers = [];
      here = p;
      next = next;
      parts = refl;
      spelled = refl;
      reached =
          refl;
      why = subst (λ (i : ℕ). StopsAt p i (w ∷ ws) e) at (stops w ws refl no e_is);
    }
stop_on p next index w ws (Some z) e t ih h = stop_fit p next index w ws z (fits p z) e t refl (ih z) h

pub reading_stops : {A : Type 0} (l : Layout A) (index : ℕ) (rest : List (List ℕ)) (e : SchFault)
    → reading l (record { index = index; rest = rest }) ≡ Err e → Stopped l index rest e
unfolding number_at
reading_stops (done y) index rest e h = absurd cc
reading_stops (place p next) index [] e h =
    let at : index ≡ index + 0 = omega arith in
    let e_is : e ≡ faults.Short index = sym (fault_is (faults.Short index) e h) in
    record {
      front = [];
      back = [];
      numbers = [];
      here = p;
      next = next;
      parts = refl;
      spelled = refl;
      reached = refl;
      why = subst (λ (i : ℕ). StopsAt p i [] e) at (ends refl e_is);
    }
reading_stops (place p next) index (w ∷ ws) e h = stop_on p next index w ws (token w) e refl (λ z. reading_stops (next z) (index + 1) ws e) h

-- what numbers lead to is read from words that spell them, whatever follows
pub reading_again : {A : Type 0} (l : Layout A) (x : A) (numbers : List ℤ) (index : ℕ) (front more : List (List ℕ))
    → Reaches l numbers (done x) → Spell front numbers
    → reading l (record { index = index; rest = front ++ more }) ≡ Ok (x, record { index = index + length front; rest = more })
unfolding number_at
reading_again l x [] index [] more h s =
    subst (λ (j : Layout _). reading j (record { index = index; rest = more }) ≡ Ok
    (x, record { index = index + 0; rest = more })) (sym h) (rw (add-zero) refl)
reading_again (done y) x (z ∷ zs) index front more h s = absurd h
reading_again (place p next) x (z ∷ zs) index (w ∷ ws) more h s =
    let t : token w ≡ Some z = cc in
    let others : Spell ws zs = cc in
    let at : (index + 1) + length ws ≡ index + length (w ∷ ws) = omega arith in
    rw (t, h.0) (reading_again (next z) x zs (index + 1) ws more h.1 others ∙ ap (λ (i : ℕ). Ok (x, record { index = i; rest = more })) at)
reading_again l x numbers index front more h s = absurd cc

bind_assoc : {A B C : Type 0} (r : Result A SchFault) (f : A → Result B SchFault) (g : B → Result C SchFault)
    (h : A → Result C SchFault) → ((x : A) → h x ≡ (f x >>= g)) → (r >>= h) ≡ ((r >>= f) >>= g)
bind_assoc (Ok x) f g h e = e x
bind_assoc (Err d) f g h e = refl

-- one layout after another is read one after the other
pub reading_bind : {A B : Type 0} (l : Layout A) (f : A → Layout B) (c : Cursor) → reading (l then f) c ≡ (reading l c >>= λ x. reading (f x.0) x.1)
reading_bind (done x) f c = refl
reading_bind (place p next) f c = bind_assoc (number_at p c) (λ x. reading (next x.0) x.1) (λ x. reading (f x.0) x.1)
    (λ x. reading (next x.0 then f) x.1) (λ x. reading_bind (next x.0) f x.1)

-- ---- Reading one layout after another, as a loop does.

-- what was read before, and what is still read
abbrev pub with_front : {A : Type 0} → (A → A → A) → A → Result (A × Cursor) SchFault → Result (A × Cursor) SchFault
with_front join front read = read >>= λ x. Ok (join front x.0, x.1)

-- one turn's layout, and then those of the turns after it
abbrev pub chained : {X A : Type 0} → (A → A → A) → (X → A) → Layout X → (X → Layout A) → Layout A
chained join f l rest = l then λ x. rest x then λ xs. done (join (f x) xs)

abbrev pub IsAssoc : {A : Type 0} → (A → A → A) → Type 0
IsAssoc {A} join = (x y z : A) → join (join x y) z ≡ join x (join y z)

regroup : {A : Type 0} (join : A → A → A) (assoc : IsAssoc join) (front piece : A) (read : Result (A × Cursor) SchFault)
    → with_front join front (with_front join piece read) ≡ with_front join (join front piece) read
regroup join assoc front piece (Ok x) = ap (λ (ns : _). Ok (ns, x.1)) (sym (assoc front piece x.0))
regroup join assoc front piece (Err f) = refl

pub turn : {X A : Type 0} (join : A → A → A) (assoc : IsAssoc join) (f : X → A) (l : Layout X) (rest : X → Layout A)
    (front : A) (c after : Cursor) (x : X) (total : Result (A × Cursor) SchFault) → reading l c ≡ Ok (x, after)
    → with_front join front (reading (chained join f l rest) c) ≡ total → with_front join (join front (f x)) (reading (rest x) after) ≡ total
turn join assoc f l rest front c after x total h so_far =
    let one : reading (chained join f l rest) c ≡ with_front join (f x) (reading (rest x) after) =
    reading_bind l (λ y. rest y then λ xs. done (join (f y) xs)) c
    ∙ rw h (reading_bind (rest x) (λ xs. done (join (f x) xs)) after) in
    sym (regroup join assoc front (f x) (reading (rest x) after)) ∙ ap (with_front join front) (sym one) ∙ so_far

pub fails : {X A : Type 0} (join : A → A → A) (f : X → A) (l : Layout X) (rest : X → Layout A) (front : A) (c : Cursor)
    (e : SchFault) (total : Result (A × Cursor) SchFault) → reading l c ≡ Err e
    → with_front join front (reading (chained join f l rest) c) ≡ total → total ≡ Err e
fails join f l rest front c e total h so_far =
    let one : reading (chained join f l rest) c ≡ Err e = reading_bind l (λ y. rest y then λ xs. done (join (f y) xs)) c ∙ rw h refl in
    sym so_far ∙ ap (with_front join front) one

pub at_ok : (p : Place) (c after : Cursor) (z : ℤ) → number_at p c ≡ Ok (z, after) → reading (at p) c ≡ Ok (z, after)
at_ok p c after z h = rw h refl

pub at_err : (p : Place) (c : Cursor) (e : SchFault) → number_at p c ≡ Err e → reading (at p) c ≡ Err e
at_err p c e h = rw h refl

append_assoc_is : {A : Type 0} → IsAssoc {A = List A} ◌++◌
append_assoc_is x y z = append_assoc x y z

-- ---- numbers

abbrev pub numbers_so_far : List ℤ → ℕ → Place → Cursor → Result (List ℤ × Cursor) SchFault
numbers_so_far front left p c = with_front ◌++◌ front (reading (row_of left p) c)

pub row_turn : (p : Place) (count i : ℕ) (front : List ℤ) (c after : Cursor) (z : ℤ)
    (total : Result (List ℤ × Cursor) SchFault) → i < count → number_at p c ≡ Ok (z, after)
    → numbers_so_far front (count - i) p c ≡ total → numbers_so_far (front ++ z ∷ []) (count - (i + 1)) p after ≡ total
unfolding row_of
row_turn p count i front c after z total lt h so_far =
    let k : count - i ≡ suc (count - (i + 1)) = omega arith in
    turn ◌++◌ append_assoc_is (λ v. v ∷ []) (at p) (λ v. row_of (count - (i + 1)) p) front c after z total (at_ok p c after z h) (rw k at so_far)

pub row_fails : (p : Place) (count i : ℕ) (front : List ℤ) (c : Cursor) (e : SchFault)
    (total : Result (List ℤ × Cursor) SchFault) → i < count → number_at p c ≡ Err e
    → numbers_so_far front (count - i) p c ≡ total → total ≡ Err e
unfolding row_of
row_fails p count i front c e total lt h so_far =
    let k : count - i ≡ suc (count - (i + 1)) = omega arith in
    fails ◌++◌ (λ v. v ∷ []) (at p) (λ v. row_of (count - (i + 1)) p) front c e total (at_err p c e h) (rw k at so_far)

pub row_ends : (p : Place) (count i : ℕ) (front : List ℤ) (c : Cursor) (total : Result (List ℤ × Cursor) SchFault)
    → count ≤ i → numbers_so_far front (count - i) p c ≡ total → total ≡ Ok (front, c)
unfolding row_of
row_ends p count i front c total le so_far =
    let k : count - i ≡ 0 = omega arith in
    sym (rw k at so_far) ∙ ap (λ (ns : List ℤ). Ok (ns, c)) (append-nil front)

-- ---- the lags of a row

abbrev pub lags_so_far : List Lag → ℕ → List ℤ → Cursor → Result (List Lag × Cursor) SchFault
lags_so_far front from lag_ends c = with_front ◌++◌ front (reading (lags_to from lag_ends) c)

abbrev lag_of : ℕ → ℤ → ℤ → Lag
lag_of from end weight = record { from = from; to = nat_abs end; weight = weight }

pub lags_turn : (from : ℕ) (lag_ends : List ℤ) (i : ℕ) (d : ℤ) (front : List Lag) (c after : Cursor) (z : ℤ)
    (total : Result (List Lag × Cursor) SchFault) → i < length lag_ends → number_at places.Lag c ≡ Ok (z, after)
    → lags_so_far front from (drop i lag_ends) c ≡ total
    → lags_so_far (front ++ lag_of from (get_or lag_ends i d) z ∷ []) from (drop (i + 1) lag_ends) after ≡ total
unfolding lags_to
lags_turn from lag_ends i d front c after z total lt h so_far =
    let e : i + 1 ≡ suc i = omega arith in
    rw e (turn ◌++◌ append_assoc_is (λ v. lag_of from (get_or lag_ends i d) v ∷ []) (at places.Lag)
    (λ v. lags_to from (drop (suc i) lag_ends)) front c after z total (at_ok places.Lag c after z h)
    (rw (drop-cons lag_ends i d lt) at so_far))

pub lags_fail : (from : ℕ) (lag_ends : List ℤ) (i : ℕ) (d : ℤ) (front : List Lag) (c : Cursor) (e : SchFault)
    (total : Result (List Lag × Cursor) SchFault) → i < length lag_ends → number_at places.Lag c ≡ Err e
    → lags_so_far front from (drop i lag_ends) c ≡ total → total ≡ Err e
unfolding lags_to
lags_fail from lag_ends i d front c e total lt h so_far =
    fails ◌++◌ (λ v. lag_of from (get_or lag_ends i d) v ∷ []) (at places.Lag)
    (λ v. lags_to from (drop (suc i) lag_ends)) front c e total (at_err places.Lag c e h)
    (rw (drop-cons lag_ends i d lt) at so_far)

pub lags_end : (from : ℕ) (lag_ends : List ℤ) (i : ℕ) (front : List Lag) (c : Cursor)
    (total : Result (List Lag × Cursor) SchFault) → length lag_ends ≤ i
    → lags_so_far front from (drop i lag_ends) c ≡ total → total ≡ Ok (front, c)
unfolding lags_to
lags_end from lag_ends i front c total le so_far =
    sym (rw (drop_of_length-le lag_ends le) at so_far) ∙ ap (λ (ns : List Lag). Ok (ns, c)) (append-nil front)

-- ---- the network rows

abbrev pub networks_so_far : List Lag → ℕ → ℕ → ℕ → Cursor → Result (List Lag × Cursor) SchFault
networks_so_far front rows last row c = with_front ◌++◌ front (reading (network_rows rows last (MAX_LAGS - length front) row) c)

pub networks_turn : (rows last row : ℕ) (front : List Lag) (c after : Cursor) (lags : List Lag)
    (total : Result (List Lag × Cursor) SchFault) → row < rows
    → reading (network_row last (MAX_LAGS - length front) row) c ≡ Ok (lags, after)
    → networks_so_far front (rows - row) last row c ≡ total → networks_so_far (front ++ lags) (rows - (row + 1)) last (row + 1) after ≡ total
unfolding network_rows
networks_turn rows last row front c after lags total lt h so_far =
    let k : rows - row ≡ suc (rows - (row + 1)) = omega arith in
    let left : MAX_LAGS - length (front ++ lags) ≡ MAX_LAGS - length front - length lags = omega (arith, length-append front lags) in
    rw left (turn ◌++◌ append_assoc_is (λ v. v) (network_row last (MAX_LAGS - length front) row)
    (λ v. network_rows (rows - (row + 1)) last (MAX_LAGS - length front - length v) (row + 1)) front c after lags
    total h (rw k at so_far))

pub networks_fail : (rows last row : ℕ) (front : List Lag) (c : Cursor) (e : SchFault)
    (total : Result (List Lag × Cursor) SchFault) → row < rows
    → reading (network_row last (MAX_LAGS - length front) row) c ≡ Err e
    → networks_so_far front (rows - row) last row c ≡ total → total ≡ Err e
unfolding network_rows
networks_fail rows last row front c e total lt h so_far =
    let k : rows - row ≡ suc (rows - (row + 1)) = omega arith in
    fails ◌++◌ (λ v. v) (network_row last (MAX_LAGS - length front) row)
    (λ v. network_rows (rows - (row + 1)) last (MAX_LAGS - length front - length v) (row + 1)) front c e total h
    (rw k at so_far)

pub networks_end : (rows last row : ℕ) (front : List Lag) (c : Cursor) (total : Result (List Lag × Cursor) SchFault)
    → rows ≤ row → networks_so_far front (rows - row) last row c ≡ total → total ≡ Ok (front, c)
unfolding network_rows
networks_end rows last row front c total le so_far =
    let k : rows - row ≡ 0 = omega arith in
    sym (rw k at so_far) ∙ ap (λ (ns : List Lag). Ok (ns, c)) (append-nil front)

-- ---- the request rows

both_assoc : IsAssoc both
both_assoc x y z = ap (λ (v : List ℤ). record { durations = v; demands = (x.demands ++ y.demands) ++ z.demands })
    (append_assoc x.durations y.durations z.durations)
    ∙ ap (λ (v : List (List ℤ)). record { durations = x.durations ++ (y.durations ++ z.durations); demands = v }) (append_assoc x.demands y.demands z.demands)

both_nil : (x : Requests) → both x no_requests ≡ x
both_nil x = ap (λ (v : List ℤ). record { durations = v; demands = x.demands ++ [] }) (append-nil x.durations)
    ∙ ap (λ (v : List (List ℤ)). record { durations = x.durations; demands = v }) (append-nil x.demands)

abbrev pub requests_so_far : Requests → ℕ → ℕ → ℕ → ℕ → Cursor → Result (Requests × Cursor) SchFault
requests_so_far front rows last resources id c = with_front both front (reading (request_rows rows last resources id) c)

abbrev one_request : ℤ × List ℤ → Requests
one_request r = record { durations = r.0 ∷ []; demands = r.1 ∷ [] }

pub requests_turn : (rows last resources id : ℕ) (front : Requests) (c after : Cursor) (r : ℤ × List ℤ)
    (total : Result (Requests × Cursor) SchFault) → id < rows
    → reading (request_row last resources id) c ≡ Ok (r, after)
    → requests_so_far front (rows - id) last resources id c ≡ total
    → requests_so_far (both front (one_request r)) (rows - (id + 1)) last resources (id + 1) after ≡ total
unfolding request_rows
requests_turn rows last resources id front c after r total lt h so_far =
    let k : rows - id ≡ suc (rows - (id + 1)) = omega arith in
    turn both both_assoc one_request (request_row last resources id)
    (λ v. request_rows (rows - (id + 1)) last resources (id + 1)) front c after r total h (rw k at so_far)

pub requests_fail : (rows last resources id : ℕ) (front : Requests) (c : Cursor) (e : SchFault)
    (total : Result (Requests × Cursor) SchFault) → id < rows → reading (request_row last resources id) c ≡ Err e
    → requests_so_far front (rows - id) last resources id c ≡ total → total ≡ Err e
unfolding request_rows
requests_fail rows last resources id front c e total lt h so_far =
    let k : rows - id ≡ suc (rows - (id + 1)) = omega arith in
    fails both one_request (request_row last resources id) (λ v. request_rows (rows - (id + 1)) last resources (id + 1)) front c e total h (rw k at so_far)

pub requests_end : (rows last resources id : ℕ) (front : Requests) (c : Cursor)
    (total : Result (Requests × Cursor) SchFault) → rows ≤ id
    → requests_so_far front (rows - id) last resources id c ≡ total → total ≡ Ok (front, c)
unfolding request_rows
requests_end rows last resources id front c total le so_far =
    let k : rows - id ≡ 0 = omega arith in
    sym (rw k at so_far) ∙ ap (λ (ns : Requests). Ok (ns, c)) (both_nil front)
