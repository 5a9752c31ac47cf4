use Rattle.std.proofs.Common.{◌≡◌, ◌++◌, List, ℕ, ap, refl, ◌∙◌, string_bytes, to_z-of_z, rules, SFits, to_z, of_z, w64}
use Rattle.sch_reader.specs.Text.{line, amounts_row, request_row}
use Rattle.sch_reader.proofs.Printed.{row_more}
use Rattle.sch_reader.proofs.canonical.put_request_rows.Goals as goal

pub loop-activity-preserved : goal.loop-activity-preserved
loop-activity-preserved c =
    let project = c.args.project.now in
    let activity = c.loop-activity.activity in
    let time = c.duration-duration.result in
    let fits : SFits w64 time = search rules in
    let kept : to_z w64 (of_z w64 time) ≡ time = to_z-of_z fits in
    let row : amounts_row activity (to_z w64 (of_z w64 time)) c.demands.result.now ≡ request_row project activity =
    rw (kept, c.duration-duration.ensures.value, c.demands.ensures.value) refl in
    row_more (string_bytes c.args.out.now) (string_bytes c.loop-activity.out) (string_bytes c.put_amounts_row.new.out)
    (request_row project) activity c.loop-activity.invariant
    (c.in_ok-put_amounts_row.ensures ∙ ap (λ (words : List (List ℕ)). string_bytes c.loop-activity.out ++ line words) row)
