-- Events are read back.
use Rattle.std.proofs.Common.{◌≡◌, ◌≤◌, ◌<◌, ℕ, suc, ◌+◌, ◌*◌, ◌/◌, ◌%◌, ◌^◌, ℤ, List, [], ◌++◌, length, false, Some, option_map, Ok, refl, sym, ap, ◌∙◌}
use Rattle.std.proofs.Common.{append_assoc, arith}
use Rattle.std.specs.List.{flat_map, AllByRecursion}
use Rattle.std.proofs.lemmas.List.{append-nil, length-append}
use Rattle.std.proofs.lemmas.Bool.{le-ltb}
use Rattle.std.proofs.Math.Dec.{eqb-suc-zero}
use Rattle.std.proofs.Math.Seq.{take-append_seam, drop-append_seam}
use Rattle.network.specs.declared.parts.Lag.{Lag}
use Rattle.lemma_proof.specs.declared.line.Line.{Line}
use Rattle.lemma_log.specs.declared.event.Event.{Event}
use Rattle.lemma_log.specs.declared.event.Event.TheVariants as event
use Rattle.network.specs.declared.verdict.Verdict.{Verdict}
use Rattle.network.specs.declared.verdict.Verdict.TheVariants as verdict
use Rattle.lemma_log.specs.Numbers.{digits_in, number_text, signed_text}
use Rattle.lemma_log.specs.Text.{arc_text, line_text, claim_text, body_text, event_text, IsIndex, IsAmount, IsWritableArc, IsWritableClaim, IsWritableBody}
use Rattle.lemma_log.specs.Text.{IsWritable}
use Rattle.lemma_log.specs.Reading.{then_read, many_in, signed_in, arc_in, last, lemma_lines, event_of, event_in, is_long, is_long_at, whole_in, known, cut}
use Rattle.lemma_log.specs.Reading.{frame_in, with_left, framed, read_in}
use Rattle.lemma_log.proofs.Digits.{number_again}
use Rattle.lemma_log.proofs.PartsBack.{number_back, opened, amount_back, many_back, lag_back}
use Rattle.lemma_log.proofs.LineBack.{lines_back}
use Rattle.lemma_log.proofs.Sizes.{lemma_short}

-- ---- bodies

-- a number that has its kind as its remainder by 4
event_opened : (n kind at : ℕ) (rest : List ℕ) → n ≡ 4 * at + kind → kind < 4 → IsIndex at → event_in (number_text n ++ rest) ≡ event_of kind at rest
unfolding event_in
event_opened n kind at rest e few small =
    let rem : n % 4 ≡ kind = omega arith in
    let quo : n / 4 ≡ at = omega arith in
    opened n rest (λ first. event_of (first % 4) (first / 4)) (omega arith) ∙ rw (rem, quo)

parts4 : (a b c d : List ℕ) → ((a ++ b) ++ c) ++ d ≡ a ++ (b ++ (c ++ d))
parts4 a b c d = simp append_assoc

lemma_back : (slot : ℕ) (arcs : List Lag) (lines : List Line) → IsWritableBody (event.Lemma slot arcs lines)
    → event_in (body_text (event.Lemma slot arcs lines)) ≡ Some (event.Lemma slot arcs lines)
lemma_back slot arcs lines h =
    ap event_in (parts4 (number_text (4 * slot)) (number_text (length arcs)) (flat_map arc_text arcs) (flat_map line_text lines))
    ∙ event_opened (4 * slot) 0 slot (number_text (length arcs) ++ (flat_map arc_text arcs ++ flat_map line_text lines)) (omega arith) (omega arith) h.0
    ∙ opened (length arcs) (flat_map arc_text arcs ++ flat_map line_text lines)
    (λ count left. then_read (many_in arc_in count left) (lemma_lines slot))
    (let few : length arcs ≤ 1024 = h.1 in omega arith)
    ∙ ap (λ part. then_read part (lemma_lines slot)) (many_back arc_in arc_text IsWritableArc lag_back arcs (flat_map line_text lines) h.2)
    ∙ ap (option_map (event.Lemma slot arcs)) (lines_back lines (length (flat_map line_text lines)) (omega arith) h.3)

schedule_back : (starts : List ℤ) → IsIndex (length starts) → AllByRecursion IsAmount starts
    → event_in (body_text (event.Schedule starts) ++ []) ≡ Some (event.Schedule starts)
schedule_back starts few all =
    ap event_in (append_assoc (number_text (4 * length starts + 2)) (flat_map signed_text starts) [])
    ∙ event_opened (4 * length starts + 2) 2 (length starts) (flat_map signed_text starts ++ []) refl (omega arith) few
    ∙ ap (λ part. then_read part (λ found. last (event.Schedule found))) (many_back signed_in signed_text IsAmount amount_back starts [] all)

claim_back : (c : Verdict) → IsWritableClaim c → event_in (claim_text c ++ []) ≡ Some (event.Claim c)
claim_back (verdict.Optimal makespan) h =
    ap event_in (append_assoc (number_text 3) (signed_text makespan) [])
    ∙ event_opened 3 3 0 (signed_text makespan ++ []) refl (omega arith) (omega arith)
    ∙ ap (λ part. then_read part (λ found. last (event.Claim (verdict.Optimal found)))) (amount_back makespan [] h)
claim_back (verdict.Bound bound) h =
    ap event_in (append_assoc (number_text 7) (signed_text bound) [])
    ∙ event_opened 7 3 1 (signed_text bound ++ []) refl (omega arith) (omega arith)
    ∙ ap (λ part. then_read part (λ found. last (event.Claim (verdict.Bound found)))) (amount_back bound [] h)
claim_back verdict.NoSchedule h = event_opened 11 3 2 [] refl (omega arith) (omega arith)

body_back : (e : Event) → IsWritableBody e → event_in (body_text e) ≡ Some e
body_back (event.Lemma slot arcs lines) h = lemma_back slot arcs lines h
body_back (event.Drop slot) h = ap event_in (sym (append-nil (number_text (4 * slot + 1)))) ∙ event_opened (4 * slot + 1) 1 slot [] refl (omega arith) h
body_back (event.Schedule starts) h = ap event_in (sym (append-nil (body_text (event.Schedule starts)))) ∙ schedule_back starts h.0 h.1
body_back (event.Claim c) h = ap event_in (sym (append-nil (claim_text c))) ∙ claim_back c h

-- ---- limits

long_opened : (n : ℕ) (rest : List ℕ) → n < 2 ^ 63
    → is_long (number_text n ++ rest) ≡ is_long_at (length (number_text n ++ rest)) (Some (record { value = n; left = rest }))
unfolding is_long
long_opened n rest h = ap (is_long_at (length (number_text n ++ rest))) (number_back n rest h)

-- an event of another kind
other_kind : (n kind at : ℕ) (rest : List ℕ) → n ≡ 4 * at + suc kind → kind < 3 → IsIndex at → is_long (number_text n ++ rest) ≡ false
other_kind n kind at rest e few small =
    let rem : n % 4 ≡ suc kind = omega arith in
    long_opened n rest (omega arith) ∙ rw (rem, eqb-suc-zero kind) refl

short_lemma : (slot count : ℕ) (rest : List ℕ) → IsIndex slot → count ≤ 1024
    → length (number_text (4 * slot) ++ (number_text count ++ rest)) ≤ 1048576
    → is_long (number_text (4 * slot) ++ (number_text count ++ rest)) ≡ false
short_lemma slot count rest small few short =
    let rem : 4 * slot % 4 ≡ 0 = omega arith in
    let size : count < 2 ^ 63 = omega arith in
    long_opened (4 * slot) (number_text count ++ rest) (omega arith)
    ∙ rw (rem, le-ltb 1048576 (length (number_text (4 * slot) ++ (number_text count ++ rest))) short, number_back count rest size, le-ltb 1024 count few) refl

body_is_short : (e : Event) → IsWritableBody e → is_long (body_text e) ≡ false
body_is_short (event.Lemma slot arcs lines) h =
    ap is_long (parts4 (number_text (4 * slot)) (number_text (length arcs)) (flat_map arc_text arcs) (flat_map line_text lines))
    ∙ short_lemma slot (length arcs) (flat_map arc_text arcs ++ flat_map line_text lines) h.0 h.1
    (lemma_short slot arcs lines h.1 h.4)
body_is_short (event.Drop slot) h = ap is_long (sym (append-nil (number_text (4 * slot + 1)))) ∙ other_kind (4 * slot + 1) 0 slot [] refl (omega arith) h
body_is_short (event.Schedule starts) h = other_kind (4 * length starts + 2) 1 (length starts) (flat_map signed_text starts) refl (omega arith) h.0
body_is_short (event.Claim (verdict.Optimal makespan)) h = other_kind 3 2 0 (signed_text makespan) refl (omega arith) (omega arith)
body_is_short (event.Claim (verdict.Bound bound)) h = other_kind 7 2 1 (signed_text bound) refl (omega arith) (omega arith)
body_is_short (event.Claim verdict.NoSchedule) h = ap is_long (sym (append-nil (number_text 11))) ∙ other_kind 11 2 2 [] refl (omega arith) (omega arith)

whole_back : (e : Event) → IsWritableBody e → whole_in (body_text e) ≡ Ok e
whole_back e h = rw (body_is_short e h) (ap known (body_back e h))

-- ---- frames

cut_back : (body rest : List ℕ) → cut (Ok (record { value = length body; left = body ++ rest })) ≡ Ok (record { value = body; left = rest })
cut_back body rest =
    let room : length body ≤ length (body ++ rest) = omega (arith, length-append body rest) in
    rw (le-ltb (length (body ++ rest)) (length body) room, take-append_seam body rest, drop-append_seam body rest)

frame_back : (body rest : List ℕ) → length body < 2 ^ 63 → frame_in ((number_text (length body) ++ body) ++ rest) ≡ Ok (record { value = body; left = rest })
unfolding frame_in
frame_back body rest h =
    ap (λ bytes. cut (digits_in 9 bytes)) (append_assoc (number_text (length body)) body rest)
    ∙ ap cut (number_again (length body) (body ++ rest) h)
    ∙ cut_back body rest

pub read_back : (e : Event) (rest : List ℕ) → IsWritable e → read_in (event_text e ++ rest) ≡ Ok (record { value = e; left = rest })
read_back e rest h =
    ap framed (frame_back (body_text e) rest h.size) ∙ ap (λ found. with_left found rest) (whole_back e h.body)
