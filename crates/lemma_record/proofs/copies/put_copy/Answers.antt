use Rattle.std.proofs.Common.{◌≡◌, ◌≤◌, length, Some, slice_get, refl, sym}
use Rattle.std.proofs.lemmas.List.{append-nil}
use Rattle.std.proofs.lemmas.Option.{slice_get_past, slice_get_read}
use Rattle.lemma_record.proofs.copies.put_copy.Goals as goal

pub returns-in_default : goal.returns-in_default
returns-in_default c =
    let past : length c.args.lines.now ≤ c.args.place = c.in_default.ensures.lookup.3 in
    rw (slice_get_past c.args.lines.now c.args.place past) (sym (append-nil c.args.copies.now.items))

pub returns : goal.returns
returns c =
    let at = c.in-Some.ensures.lookup in
    let is : slice_get c.args.lines.now c.args.place ≡ Some c.in-Some.line.now =
    slice_get_read c.args.lines.now (length c.args.lines.now) c.args.place c.in-Some.line.now refl at.3.0 at.1 in
    let copy : c.in_ok-line_copy.field-0 ≡ c.in-Some.line.now = c.in_ok-line_copy.ensures in
    rw (is, ← copy) c.in_ok-push.ensures.items
