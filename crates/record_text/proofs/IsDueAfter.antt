-- Rows that are read one after another, each as a line, until none is due: the text of a tree, or of blocks.
use Rattle.std.proofs.Common.{◌≡◌, ◌≢◌, ℕ, zero, suc, ◌+◌, ◌<◌, Some, None, List, [], ◌∷◌, ◌++◌, map, length, refl, sym, ap, ◌∙◌, subst, arith, append_assoc}
use Rattle.std.proofs.Common.{append-nil, length-append}
use Rattle.std.proofs.lemmas.List.{length-map, map-append}
use Rattle.record_text.specs.Kinds.{Rules, RulesHold, IsDueAfter}
use Rattle.record_text.specs.Rows.{line_pieces, form, trailing, Begin, HasRowFault, missing}
use Rattle.record_text.proofs.Rows.{Stands, missing_at, form_at, trailing_at}

pub leads_append : {Line : Type 0} {row_of : Line → List ℕ} (m : Rules row_of) (due : ℕ) (xs ys : List Line)
    (mid after : ℕ) → IsDueAfter m due xs mid → IsDueAfter m mid ys after → IsDueAfter m due (xs ++ ys) after
leads_append m due [] ys mid after e h = subst (λ (n : ℕ). IsDueAfter m n ys after) (sym e) h
leads_append m due (x ∷ xs) ys mid after e h = (e.0, e.1, leads_append m (m.next due x) xs ys mid after e.2 h)

lasts : {Line : Type 0} {row_of : Line → List ℕ} → Rules row_of → ℕ → List Line
lasts m zero = []
lasts m (suc n) = m.last ∷ lasts m n

leads_lasts : {Line : Type 0} {row_of : Line → List ℕ} (m : Rules row_of) → RulesHold m → (n : ℕ) → IsDueAfter m n (lasts m n) 0
unfolding lasts
leads_lasts m h zero = refl
leads_lasts m h (suc n) =
    let less : n ≡ m.next (suc n) m.last = omega (arith, h.next_last (suc n) (omega arith)) in
    (omega arith, h.reads_last (suc n) (omega arith), subst (λ (k : ℕ). IsDueAfter m k (lasts m n) 0) less (leads_lasts m h n))

-- ---- what goes on from rows that lead somewhere

pub record Others {Line : Type 0} {row_of : Line → List ℕ} (m : Rules row_of) (xs ys : List Line) (more : List (List ℕ)) (after : ℕ) : Type 0 where
  pub others : List Line
  pub is : ys ≡ xs ++ others
  pub rows : map row_of others ≡ more
  pub leads : IsDueAfter m after others 0

pub others_of : {Line : Type 0} {row_of : Line → List ℕ} (m : Rules row_of) (due : ℕ) (xs ys : List Line)
    (more : List (List ℕ)) (after : ℕ) → IsDueAfter m due xs after → IsDueAfter m due ys 0
    → map row_of ys ≡ map row_of xs ++ more → Others m xs ys more after
others_of {Line} {row_of} m due [] ys more after lx ly h = record { others = ys; is = refl; rows = h; leads = subst (λ (n : ℕ). IsDueAfter m n ys 0) lx ly }
others_of {Line} {row_of} m due (x ∷ xs) [] more after lx ly h = absurd cc
others_of {Line} {row_of} m due (x ∷ xs) (y ∷ ys) more after lx ly h =
    let first : row_of y ≡ row_of x = cc in
    let rest : map row_of ys ≡ map row_of xs ++ more = cc in
    let found : Some y ≡ Some x = sym ly.1 ∙ ap (m.read due) first ∙ lx.1 in
    let same : y ≡ x = cc in
    let o = others_of m (m.next due x) xs ys more after lx.2 (subst (λ (k : Line). IsDueAfter m (m.next due k) ys 0) same ly.2) rest in
    record { others = o.others; is = ap (λ (k : Line). k ∷ ys) same ∙ ap (λ (ks : List Line). x ∷ ks) o.is; rows = o.rows; leads = o.leads }

-- nothing goes on once nothing is due
pub none_more : {Line : Type 0} {row_of : Line → List ℕ} (m : Rules row_of) (xs ys : List Line) (more : List (List ℕ))
    → IsDueAfter m 1 xs 0 → IsDueAfter m 1 ys 0 → map row_of ys ≡ map row_of xs ++ more → (more ≡ []) × (ys ≡ xs)
none_more {Line} {row_of} m xs ys more lx ly h = let o = others_of m 1 xs ys more 0 lx ly h in ended o.others o.is o.rows o.leads
  where
    ended : (others : List Line) → ys ≡ xs ++ others → map row_of others ≡ more → IsDueAfter m 0 others 0 → (more ≡ []) × (ys ≡ xs)
    ended [] is rows leads = (sym rows, is ∙ append-nil xs)
    ended (l ∷ ls) is rows leads = absurd (omega (arith, leads.0))

-- ---- wholes that begin with some rows, and go on with lines

pub record Grammar (IsWhole : List (List ℕ) → Type 0) {Line : Type 0} {row_of : Line → List ℕ} (m : Rules row_of) (head : List (List ℕ)) : Type 0 where
  pub rules : RulesHold m
  pub whole : (lines : List Line) → IsDueAfter m 1 lines 0 → IsWhole (head ++ map row_of lines)
  pub lines : (more : List (List ℕ)) → IsWhole (head ++ more) → (lines : List Line) × IsDueAfter m 1 lines 0 × (map row_of lines ≡ more)

lines_begin : (W : List (List ℕ) → Type 0) {Line : Type 0} {row_of : Line → List ℕ} (m : Rules row_of)
    (head : List (List ℕ)) → Grammar W m head → (xs : List Line) (due : ℕ) → IsDueAfter m 1 xs due
    → Begin W (head ++ map row_of xs)
lines_begin W {Line} {row_of} m head g xs due leads =
    let back = lasts m due in
    let same : head ++ map row_of (xs ++ back) ≡ (head ++ map row_of xs) ++ map row_of back =
    ap (λ (rows : List (List ℕ)). head ++ rows) (map-append row_of xs back)
    ∙ sym (append_assoc head (map row_of xs) (map row_of back)) in
    (map row_of back, subst W same (g.whole (xs ++ back) (leads_append m 1 xs back due 0 leads (leads_lasts m g.rules due))))

lines_open : (W : List (List ℕ) → Type 0) {Line : Type 0} {row_of : Line → List ℕ} (m : Rules row_of)
    (head : List (List ℕ)) → Grammar W m head → (xs : List Line) (due : ℕ) → IsDueAfter m 1 xs due → 0 < due
    → ¬ W (head ++ map row_of xs)
lines_open W {Line} {row_of} m head g xs due leads some whole =
    let (ys, ly, same) = g.lines (map row_of xs) whole in
    let o = others_of m 1 xs ys [] due leads ly (same ∙ sym (append-nil (map row_of xs))) in
    ended o.others o.rows o.leads
  where
    ended : (others : List Line) → map row_of others ≡ [] → IsDueAfter m due others 0 → ⊥
    ended [] e l = omega (arith, l, some)
    ended (y ∷ ys) e l = cc

lines_never : (W : List (List ℕ) → Type 0) {Line : Type 0} {row_of : Line → List ℕ} (m : Rules row_of)
    (head : List (List ℕ)) → Grammar W m head → (xs : List Line) (due : ℕ) (row : List ℕ) → IsDueAfter m 1 xs due
    → m.read due row ≡ None → ¬ Begin W ((head ++ map row_of xs) ++ row ∷ [])
lines_never W {Line} {row_of} m head g xs due row leads none (rest, whole) =
    let same : ((head ++ map row_of xs) ++ row ∷ []) ++ rest ≡ head ++ (map row_of xs ++ row ∷ rest) =
    append_assoc (head ++ map row_of xs) (row ∷ []) rest ∙ append_assoc head (map row_of xs) (row ∷ rest) in
    let (ys, ly, rows) = g.lines (map row_of xs ++ row ∷ rest) (subst W same whole) in
    let o = others_of m 1 xs ys (row ∷ rest) due leads ly rows in
    first o.others o.rows o.leads
  where
    first : (others : List Line) → map row_of others ≡ row ∷ rest → IsDueAfter m due others 0 → ⊥
    first [] e l = cc
    first (y ∷ ys) e l = let is : row_of y ≡ row = cc in let f : Some y ≡ None = sym l.1 ∙ ap (m.read due) is ∙ none in cc

stands : (W : List (List ℕ) → Type 0) {Line : Type 0} {row_of : Line → List ℕ} (m : Rules row_of) (head : List (List ℕ))
    → Grammar W m head → (xs : List Line) (due : ℕ) → IsDueAfter m 1 xs due → 0 < due → Stands W (head ++ map row_of xs)
stands W {Line} {row_of} m head g xs due leads some =
    record { begins = lines_begin W m head g xs due leads; unfinished = lines_open W m head g xs due leads some }

-- ---- a text of which so many lines were read, the next of them numbered so

pub record Reached {Line : Type 0} {row_of : Line → List ℕ} (m : Rules row_of) (head : List (List ℕ))
    (lines : List Line) (due line : ℕ) (text rest : List ℕ) : Type 0 where
  pub leads : IsDueAfter m 1 lines due
  pub parts : line_pieces text ≡ map row_of lines ++ line_pieces rest
  pub at : line ≡ length head + length lines + 1

pub reached_more : {Line : Type 0} {row_of : Line → List ℕ} (m : Rules row_of) → RulesHold m
    → (head : List (List ℕ)) (lines : List Line) (due line : ℕ) (text rest row more : List ℕ) (found : Line)
    → Reached m head lines due line text rest → 0 < due → line_pieces rest ≡ row ∷ line_pieces more
    → m.read due row ≡ Some found →
    Reached m head (lines ++ found ∷ []) (m.next due found) (line + 1) text more
reached_more {Line} {row_of} m hold head lines due line text rest row more found r some h is =
    let row_is : row_of found ≡ row = hold.takes due row found is in
    record {
      leads = leads_append m 1 lines (found ∷ []) due (m.next due found) r.leads
          (some, subst (λ (text : List ℕ). m.read due text ≡ Some found) (sym row_is) is, refl);
      parts =
          r.parts ∙ ap (λ (ps : List (List ℕ)). map row_of lines ++ ps) (h ∙ ap (λ (one : List ℕ). one ∷ line_pieces more) (sym row_is))
          ∙ sym (append_assoc (map row_of lines) (row_of found ∷ []) (line_pieces more))
          ∙ ap (λ (ps : List (List ℕ)). ps ++ line_pieces more) (sym (map-append row_of lines (found ∷ [])));
      at = omega (arith, r.at, length-append lines (found ∷ []));
    }

-- where the parts of the rest have a fault, the whole text has it
moved : (W : List (List ℕ) → Type 0) {Line : Type 0} {row_of : Line → List ℕ} (m : Rules row_of) (head : List (List ℕ))
    (lines : List Line) (due line : ℕ) (text rest : List ℕ) → Reached m head lines due line text rest
    → (line ≡ length (head ++ map row_of lines) + 1)
    × (((head ++ map row_of lines) ++ line_pieces rest) ≡ head ++ line_pieces text)
moved W {Line} {row_of} m head lines due line text rest r = (
  omega (arith, r.at, length-append head (map row_of lines), length-map lines row_of),
  append_assoc head (map row_of lines) (line_pieces rest) ∙ ap (λ (ps : List (List ℕ)). head ++ ps) (sym r.parts),
)

pub reached_missing : (W : List (List ℕ) → Type 0) {Line : Type 0} {row_of : Line → List ℕ} (m : Rules row_of)
    (head : List (List ℕ)) → Grammar W m head → (lines : List Line) (due line : ℕ) (text rest : List ℕ)
    → Reached m head lines due line text rest → 0 < due → line_pieces rest ≡ rest ∷ []
    → HasRowFault W (head ++ line_pieces text) line (missing rest)
reached_missing W {Line} {row_of} m head g lines due line text rest r some h =
    let e = moved W m head lines due line text rest r in
    rw e.0 (subst (λ (ps : List (List ℕ)). HasRowFault W ps (length (head ++ map row_of lines) + 1) (missing rest)) e.1
    (missing_at W (head ++ map row_of lines) rest (stands W m head g lines due r.leads some) h))

pub reached_form : (W : List (List ℕ) → Type 0) {Line : Type 0} {row_of : Line → List ℕ} (m : Rules row_of)
    (head : List (List ℕ)) → Grammar W m head → (lines : List Line) (due line : ℕ) (text rest row more : List ℕ)
    → Reached m head lines due line text rest → 0 < due → line_pieces rest ≡ row ∷ line_pieces more
    → m.read due row ≡ None → HasRowFault W (head ++ line_pieces text) line form
reached_form W {Line} {row_of} m head g lines due line text rest row more r some h none =
    let e = moved W m head lines due line text rest r in
    rw e.0 (subst (λ (ps : List (List ℕ)). HasRowFault W ps (length (head ++ map row_of lines) + 1) form) e.1
    (form_at W (head ++ map row_of lines) rest row more (stands W m head g lines due r.leads some)
    (lines_never W m head g lines due row r.leads none) h))

pub reached_trailing : (W : List (List ℕ) → Type 0) {Line : Type 0} {row_of : Line → List ℕ} (m : Rules row_of)
    (head : List (List ℕ)) → Grammar W m head → (lines : List Line) (due line : ℕ) (text rest : List ℕ)
    → Reached m head lines due line text rest → due ≡ 0 → rest ≢ []
    → HasRowFault W (head ++ line_pieces text) line trailing
reached_trailing W {Line} {row_of} m head g lines due line text rest r none some =
    let e = moved W m head lines due line text rest r in
    rw e.0 (subst (λ (ps : List (List ℕ)). HasRowFault W ps (length (head ++ map row_of lines) + 1) trailing) e.1
    (trailing_at W (head ++ map row_of lines) rest (g.whole lines (subst (IsDueAfter m 1 lines) none r.leads)) (lines_begin W m head g lines due r.leads) some))
