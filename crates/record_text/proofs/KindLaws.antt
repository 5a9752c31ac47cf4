-- The text of a record, whatever its kind, has no fault, and is that of no other record; a text has one first fault.
use Rattle.std.proofs.Common.{◌≡◌, ◌≢◌, ℕ, ◌≤◌, List, [], ◌∷◌, ◌++◌, map, length, refl, sym, ap, ◌∙◌, subst, arith, append_assoc, append-nil, length-append}
use Rattle.std.proofs.Common.{◌⊎◌, inl, inr, ◌+◌, Result, Ok, Err, IfOk, IfErr, MatchResult}
use Rattle.std.specs.List.{AllByRecursion}
use Rattle.record_text.specs.declared.fault.RecordFault.{RecordFault}
use Rattle.record_text.specs.declared.fault.RecordFaultKind.TheVariants as why
use Rattle.record_text.specs.Kinds.{RecordOf, Kind, head_rows, rows_of, record_text, IsRecord, Spells, AreRows, MAX_RECORD_BYTES, Rules, IsDueAfter, HasNone}
use Rattle.record_text.specs.Kinds.{Facts}
use Rattle.record_text.specs.Rows as rows
use Rattle.record_text.specs.Rows.{line_pieces, RowFault, Begin, HasRowFault, IsNeverLonger, missing}
use Rattle.record_text.specs.TextFaults.{HasFault, IsFirstTextFault, IsMissing, IsOther, IsTitleFault, RecordIsOne, FirstFaultIsOne, FaultIsNoRecord, why_of}
use Rattle.record_text.specs.TextFaults.{form}
use Rattle.record_text.proofs.FirstWrong.{fault_at, is_memory}
use Rattle.record_text.proofs.IsDueAfter.{Grammar, none_more}
use Rattle.record_text.proofs.Rows.{text_from, pieces_of, Stands, missing_at, form_at, same_rows, whole_no_fault, one_fault}

pub first_is : {xs ys : List (List ℕ)} {x y : List ℕ} → x ∷ xs ≡ y ∷ ys → x ≡ y
first_is h = cc

tail : {xs ys : List (List ℕ)} {x y : List ℕ} → x ∷ xs ≡ y ∷ ys → xs ≡ ys
tail h = cc

plain_append : (xs ys : List (List ℕ)) → AllByRecursion HasNone xs → AllByRecursion HasNone ys → AllByRecursion HasNone (xs ++ ys)
plain_append [] ys hx hy = hy
plain_append (x ∷ xs) ys hx hy = (hx.0, plain_append xs ys hx.1 hy)

-- ---- any rows

module _ {Claim Line : Type 0} (k : Kind Claim Line) where
  -- what is written is its record's text
  pub spells_written : (text : List ℕ) (r : RecordOf Claim Line) → IsRecord k r → text ≡ record_text k r
      → length (record_text k r) ≤ MAX_RECORD_BYTES → Spells k text r
  spells_written text r is same size = record { of_record = is; size = rw same size; spelled = same }

  pub text_found : (text rest rest2 : List ℕ) (claim : Claim) (lines : List Line) → length text ≤ MAX_RECORD_BYTES
      → line_pieces text ≡ k.title ∷ line_pieces rest → line_pieces rest ≡ k.claim_rows claim ++ line_pieces rest2
      → line_pieces rest2 ≡ map k.row_of lines ++ [] ∷ [] → IsRecord k (record { claim = claim; lines = lines }) →
      Spells k text (record { claim = claim; lines = lines })
  text_found text rest rest2 claim lines size first second third of_record = record {
    of_record = of_record;
    size = size;
    spelled = text_from text (head_rows k claim ++ map k.row_of lines)
        (first ∙ ap (λ (ps : List (List ℕ)). k.title ∷ ps)
        (second ∙ ap (λ (ps : List (List ℕ)). k.claim_rows claim ++ ps) third)
        ∙ sym (append_assoc (head_rows k claim) (map k.row_of lines) ([] ∷ [])));
  }

  pub named : (all : List (List ℕ)) (line : ℕ) (what : RowFault) (fault : RecordFault)
      → fault ≡ record { line = line; kind = why_of what } → HasRowFault (AreRows k) all line what → HasFault k all fault
  named all line what fault is f = rw is (record { what = what; kind = refl; row = f })

  pub missing_fault : (front : List (List ℕ)) (text : List ℕ) (fault : RecordFault) → Stands (AreRows k) front
      → line_pieces text ≡ text ∷ [] → fault ≡ record { line = length front + 1; kind = why_of (missing text) }
      → HasFault k (front ++ line_pieces text) fault
  missing_fault front text fault s h is = named _ _ (missing text) fault is (missing_at (AreRows k) front text s h)

  pub form_fault : (front : List (List ℕ)) (text row rest : List ℕ) (fault : RecordFault) → Stands (AreRows k) front
      → ¬ Begin (AreRows k) (front ++ row ∷ []) → line_pieces text ≡ row ∷ line_pieces rest
      → fault ≡ form (length front + 1) → HasFault k (front ++ line_pieces text) fault
  form_fault front text row rest fault s never h is = named _ _ rows.form fault is (form_at (AreRows k) front text row rest s never h)

  -- rows after the first that are those of no claim
  pub no_claim : (rows : List (List ℕ)) →
      ((claim : Claim) (x rest : List (List ℕ)) → k.IsClaim claim → k.claim_rows claim ++ x ≡ rows ++ rest → ⊥)
      → ¬ Begin (AreRows k) (k.title ∷ rows)
  no_claim rows none (rest, (r, is, h)) = none r.claim (map k.row_of r.lines) rest is.claim (tail h)

  -- what is spelled is read, unless memory ran out
  pub only_read : RecordIsOne k → FaultIsNoRecord k
      → (text : List ℕ) (r : RecordOf Claim Line) (result : Result (RecordOf Claim Line) RecordFault)
      → IfOk result (λ q. Spells k text q) → IfErr result
      (λ fault. fault.kind ≢ why.Memory → IsFirstTextFault k text fault) → Spells k text r
      → MatchResult result (λ q. q ≡ r) (λ fault. fault.kind ≡ why.Memory)
  only_read one apart text r (Ok q) found fault s = one text q r found s
  only_read one apart text r (Err e) found fault s = is_memory e.kind (λ other. apart text r e s (fault other))

-- ---- the rows of a kind of which this is proved

module _ {Claim Line : Type 0} {k : Kind Claim Line} {m : Rules k.row_of} (f : Facts k m) where
  pub record_from : (claim : Claim) (lines : List Line) (due : ℕ) → k.IsClaim claim → IsDueAfter m 1 lines due → due ≡ 0
      → IsRecord k (record { claim = claim; lines = lines })
  record_from claim lines due wc leads none = let w = f.whole lines (subst (IsDueAfter m 1 lines) none leads) in record { claim = wc; lines = w.0; whole = w.1 }

  leads_of : (r : RecordOf Claim Line) → IsRecord k r → IsDueAfter m 1 r.lines 0
  leads_of r is = f.leads r.lines is.lines is.whole

  -- the records of a claim
  pub grammar : (claim : Claim) → k.IsClaim claim → Grammar (AreRows k) m (head_rows k claim)
  grammar claim w = record {
    rules = f.rules;
    whole = λ lines leads. (record { claim = claim; lines = lines }, record_from claim lines 0 w leads refl, refl);
    lines = λ more (r, is, h). (r.lines, leads_of r is, (f.one_claim r.claim claim (map k.row_of r.lines) more is.claim w (tail h)).1);
  }

  -- no record's rows go on from another's
  never_longer : (q r : RecordOf Claim Line) → IsRecord k q → IsRecord k r → (more : List (List ℕ)) → rows_of k r ≡ rows_of k q ++ more → (more ≡ []) × (r ≡ q)
  never_longer q r iq ir more h =
      let i = f.one_claim r.claim q.claim (map k.row_of r.lines) (map k.row_of q.lines ++ more) ir.claim iq.claim
      (tail (h ∙ append_assoc (head_rows k q.claim) (map k.row_of q.lines) more)) in
      let n = none_more m q.lines r.lines more (leads_of q iq) (leads_of r ir) i.1 in
      (n.0, ap (λ (claim : Claim). the claim r.lines) i.0 ∙ ap (λ (lines : List Line). the q.claim lines) n.1)
    where
      the : Claim → List Line → RecordOf Claim Line
      the claim lines = record { claim = claim; lines = lines }

  rows_never_longer : IsNeverLonger (AreRows k)
  rows_never_longer rows more (q, iq, e) (r, ir, h) = (never_longer q r iq ir more (h ∙ ap (λ (rows : List (List ℕ)). rows ++ more) (sym e))).0

  -- ---- the pieces of a record's text

  plain_lines : (lines : List Line) → AllByRecursion k.IsLine lines → AllByRecursion HasNone (map k.row_of lines)
  plain_lines [] w = tt
  plain_lines (l ∷ ls) w = (f.line_plain l w.0, plain_lines ls w.1)

  record_pieces : (text : List ℕ) (r : RecordOf Claim Line) → Spells k text r → line_pieces text ≡ rows_of k r ++ [] ∷ []
  record_pieces text r s =
      let plain = plain_append (k.claim_rows r.claim) (map k.row_of r.lines) (f.claim_plain r.claim s.of_record.claim)
      (plain_lines r.lines s.of_record.lines) in
      ap line_pieces s.spelled ∙ pieces_of (rows_of k r) (f.title_plain, plain)

  -- ---- the laws

  pub spells_one : RecordIsOne k
  spells_one text q r sq sr =
      let same : rows_of k q ≡ rows_of k r = same_rows (rows_of k q) (rows_of k r) (sym (record_pieces text q sq) ∙ record_pieces text r sr) in
      sym (never_longer q r sq.of_record sr.of_record [] (sym same ∙ sym (append-nil (rows_of k q)))).1

  pub spells_no_fault : FaultIsNoRecord k
  spells_no_fault text r fault s (inl (long, is)) = omega (arith, long, s.size)
  spells_no_fault text r fault s (inr (size, h)) =
      whole_no_fault (AreRows k) rows_never_longer (rows_of k r) fault.line h.what (r, s.of_record, refl)
      (subst (λ (ps : List (List ℕ)). HasRowFault (AreRows k) ps fault.line h.what) (record_pieces text r s) h.row)

  pub first_fault_is_one : FirstFaultIsOne k
  first_fault_is_one text a b (inl long) (inl too) = long.1 ∙ sym too.1
  first_fault_is_one text a b (inl long) (inr short) = absurd (omega (arith, long.0, short.0))
  first_fault_is_one text a b (inr short) (inl long) = absurd (omega (arith, long.0, short.0))
  first_fault_is_one text a b (inr g) (inr h) =
      let same = one_fault (AreRows k) rows_never_longer (line_pieces text) a.line b.line g.1.what h.1.what g.1.row h.1.row in
      let whys : a.kind ≡ b.kind = g.1.kind ∙ ap why_of same.1 ∙ sym h.1.kind in
      ap (λ (line : ℕ). fault_at line a.kind) same.0 ∙ ap (fault_at b.line) whys

  -- ---- the rows before the lines

  few_open : (front : List (List ℕ)) → length front ≤ 2 → ¬ AreRows k front
  few_open front few (r, is, h) = by_lines r.lines (leads_of r is) (ap length h ∙ refl) (length-append (head_rows k r.claim) (map k.row_of r.lines))
    where
      by_lines : (lines : List Line) → IsDueAfter m 1 lines 0
          → length (head_rows k r.claim ++ map k.row_of lines) ≡ length front
          → length (head_rows k r.claim ++ map k.row_of lines) ≡ length (head_rows k r.claim) + length
          (map k.row_of lines) → ⊥
      by_lines [] leads same e = omega (arith, leads)
      by_lines (l ∷ ls) leads same e = omega (arith, few, same, e, f.some_rows r.claim)

  -- two rows or fewer that a claim's text begins with
  pub stands_in : (claim : Claim) (front more : List (List ℕ)) → k.IsClaim claim → head_rows k claim ≡ front ++ more
      → length front ≤ 2 → Stands (AreRows k) front
  stands_in claim front more w h few =
      let leads : IsDueAfter m 1 (m.last ∷ []) 0 = (omega arith, f.rules.reads_last 1 (omega arith), omega (arith, f.rules.next_last 1 (omega arith))) in
      let same : rows_of k (record { claim = claim; lines = m.last ∷ [] }) ≡ front ++ (more ++ k.row_of m.last ∷ []) =
      ap (λ (rows : List (List ℕ)). rows ++ k.row_of m.last ∷ []) h ∙ append_assoc front more (k.row_of m.last ∷ [])
      in
      record {
        begins = (
          _,
          (
            record { claim = claim; lines = m.last ∷ [] },
            record_from claim (m.last ∷ []) 0 w leads refl,
            same,
          ),
        );
        unfinished = few_open front few;
      }

  pub stands_second : Stands (AreRows k) (k.title ∷ [])
  stands_second = stands_in f.example (k.title ∷ []) (k.claim_rows f.example) f.example_is refl (omega arith)

  pub title_fault : (text : List ℕ) (fault : RecordFault) → IsTitleFault k.title text fault → IsFirstTextFault k text fault
  title_fault text fault (inl long) = inl long
  title_fault text fault (inr (size, here)) = inr (size, by_row here)
    where
      stands : Stands (AreRows k) []
      stands = stands_in f.example [] (head_rows k f.example) f.example_is refl (omega arith)

      by_row : IsMissing text 1 fault ⊎ IsOther k.title text fault → HasFault k (line_pieces text) fault
      by_row (inl e) = missing_fault k [] text fault stands e.0 e.1
      by_row (inr o) = form_fault k [] text o.row o.rest fault stands (λ (rest, (r, is, h)). o.other (sym (first_is h))) o.first o.told
