-- The exact faults of the reader, from the law that the layout leads to flat lists of projects alone.
use Rattle.std.proofs.Common.{◌≡◌, ℕ, ◌+◌, ◌≤◌, true, List, [], ◌∷◌, ◌++◌, length, ℤ, Result, Ok, Err, refl, sym, ap, subst, ◌∙◌, append_assoc, inl, inr, arith}
use Rattle.std.proofs.Common.{append-nil}
use Rattle.sch_reader.specs.declared.fault.SchFault.TheVariants as faults
use Rattle.sch_reader.specs.Text.{text_words, flat, Spell, Spells, BeginsProject, IsWholeProject, IsFirstWordFault, IsFirstFault}
use Rattle.words.specs.declared.TheConstants.{MAX_TEXT_BYTES}
use Rattle.network.specs.Problem.{Problem, IsProject}
use Rattle.sch_reader.specs.Layout.{Layout, done, place, fits, project_text, SchFault, Place}
use Rattle.sch_reader.specs.Reading.{Cursor, ◌>>=◌, reading, ended, whole_reading}
use Rattle.sch_reader.proofs.Layouts.{Reaches, Reaches-trans, Reaches-rest, completed, place_after_is}
use Rattle.sch_reader.proofs.Readings.{WasRead, reading_was, Stopped, StopsAt, ends, stops, reading_stops, reading_again}

-- the layout leads to just the flat lists of projects
pub record IsExact : Type 0 where
  pub found : (zs : List ℤ) (p : Problem) → Reaches project_text zs (done p) → IsProject p × (flat p ≡ zs)
  pub again : (p : Problem) → IsProject p → Reaches project_text (flat p) (done p)

-- what leads to a place begins a project, and is none
begins_at : IsExact → (zs : List ℤ) (here : Place) (next : ℤ → Layout Problem) → Reaches project_text zs (place here next) → BeginsProject zs
begins_at law zs here next h =
    let c = completed (place here next) in
    let f = law.found (zs ++ c.numbers) c.value (Reaches-trans project_text (place here next) (done c.value) zs c.numbers h c.leads) in
    (c.value, c.numbers, f.0, f.1)

not_whole : IsExact → (zs : List ℤ) (here : Place) (next : ℤ → Layout Problem) → Reaches project_text zs (place here next) → IsWholeProject zs → ⊥
not_whole law zs here next h w =
    let g : Reaches project_text zs (done w.0) = subst (λ (v : List ℤ). Reaches project_text v (done w.0)) w.2 (law.again w.0 w.1) in
    let at : Reaches project_text (zs ++ []) (done w.0) = subst (λ (v : List ℤ). Reaches project_text v (done w.0)) (sym (append-nil zs)) g in
    let same : place here next ≡ done w.0 = Reaches-rest project_text (place here next) (done w.0) zs [] h at in
    absurd cc

fits_there : IsExact → (zs : List ℤ) (here : Place) (next : ℤ → Layout Problem) (z : ℤ)
    → Reaches project_text zs (place here next) → BeginsProject (zs ++ z ∷ []) → fits here z ≡ true
fits_there law zs here next z h b =
    let g : Reaches project_text (zs ++ (z ∷ b.1)) (done b.0) =
    subst (λ (v : List ℤ). Reaches project_text v (done b.0)) (b.3 ∙ append_assoc zs (z ∷ []) b.1)
    (law.again b.0 b.2) in
    (Reaches-rest project_text (place here next) (done b.0) zs (z ∷ b.1) h g).0

stopped_is : IsExact → (text : List (List ℕ)) (e : SchFault) (s : Stopped project_text 0 text e)
    → StopsAt s.here (0 + length s.front) s.back e → IsFirstWordFault text e
stopped_is law text e s (ends none is) =
    let all : text ≡ s.front = s.parts ∙ ap (λ (r : List (List ℕ)). s.front ++ r) none ∙ append-nil s.front in
    let len : 0 + length s.front ≡ length text = omega (arith, ap length all) in
    inl (record {
      numbers = s.numbers;
      spelled = subst (λ (t : List (List ℕ)). Spell t s.numbers) (sym all) s.spelled;
      begins = begins_at law s.numbers s.here s.next s.reached;
      more =
          not_whole law s.numbers s.here s.next s.reached;
      fault_is = is ∙ ap (λ (i : ℕ). faults.Short i) len;
    })
stopped_is law text e s (stops w more back refuses is) =
    let len : 0 + length s.front ≡ length s.front = omega arith in
    inr (inr (record {
      front = s.front;
      word = w;
      rest = more;
      numbers = s.numbers;
      here = s.here;
      parts = s.parts ∙ ap (λ (r : List (List ℕ)). s.front ++ r) back;
      spelled = s.spelled;
      begins = begins_at law s.numbers s.here s.next s.reached;
      ends = λ z t b. let f = refuses z t in let g = fits_there law s.numbers s.here s.next z s.reached b in absurd cc;
      here_is = place_after_is project_text s.here s.next s.numbers s.reached;
      fault_is = rw len at is;
    }))

after_all : IsExact → (text : List (List ℕ)) (e : SchFault) (p : Problem) (c : Cursor) (rest : List (List ℕ))
    → c.rest ≡ rest → WasRead project_text 0 text p c → ended p c.index rest ≡ Err e → IsFirstWordFault text e
after_all law text e p c [] is r h = absurd cc
after_all law text e p c (w ∷ more) is r h =
    let f = law.found r.numbers p r.reached in
    let len : c.index ≡ length r.front = omega (arith, r.index_is) in
    let e_is : e ≡ faults.Trailing c.index = cc in
    inr (inl (record {
      front = r.front;
      word = w;
      rest = more;
      numbers = r.numbers;
      parts = r.parts
          ∙ ap (λ (q : List (List ℕ)). r.front ++ q) is;
      spelled = r.spelled;
      whole = (p, f.0, f.1);
      fault_is = e_is
          ∙ ap (λ (i : ℕ). faults.Trailing i) len;
    }))

abbrev pub start : List (List ℕ) → Cursor
start text = record { index = 0; rest = text }

by_reading : IsExact → (text : List (List ℕ)) (e : SchFault) (r : Result (Problem × Cursor) SchFault)
    → reading project_text (start text) ≡ r → (r >>= λ x. ended x.0 x.1.index x.1.rest) ≡ Err e
    → IsFirstWordFault text e
by_reading law text e (Ok x) is h = after_all law text e x.0 x.1 x.1.rest refl (reading_was project_text 0 text x.0 x.1 is) h
by_reading law text e (Err d) is h =
    let same : d ≡ e = cc in
    let s = reading_stops project_text 0 text e (rw (← same) is) in
    stopped_is law text e s s.why

-- each fault is the first one
pub fault_is_first : IsExact → (text : List ℕ) (e : SchFault) → length text ≤ MAX_TEXT_BYTES → whole_reading (text_words text) ≡ Err e → IsFirstFault text e
unfolding whole_reading
fault_is_first law text e size h = inr (size, by_reading law (text_words text) e (reading project_text (start (text_words text))) refl h)

-- what is spelled is read
pub spelled_is_read : IsExact → (text : List ℕ) (p : Problem) → IsProject p → Spells text p → whole_reading (text_words text) ≡ Ok p
unfolding whole_reading
spelled_is_read law text p fit s =
    let again = reading_again project_text p (flat p) 0 (text_words text) [] (law.again p fit) s.spelled in
    let read : reading project_text (start (text_words text)) ≡ Ok
    (p, record { index = 0 + length (text_words text); rest = [] }) =
    ap (λ (ws : List (List ℕ)). reading project_text (start ws)) (sym (append-nil (text_words text))) ∙ again in
    rw read refl
