use Rattle.std.proofs.lemmas.Result.{err_from_is_err_and}
use Rattle.std.proofs.lemmas.Int.{to_z-of_z}
use Rattle.std.proofs.Common.{◌≡◌, refl, rules, nat_abs, SFits, w64}
use Rattle.sch_reader.specs.Layout.{network_row}
use Rattle.sch_reader.proofs.Readings.{reading_bind}
use Rattle.sch_reader.proofs.text.network_row.Goals as goal

pub returns-in_err-ends : goal.returns-in_err-ends
unfolding network_row
returns-in_err-ends c =
    let p = err_from_is_err_and c.from_residual-in_err-ends.result c.from_residual-in_err-ends.ensures.1 in
    let fits : SFits w64 c.in_ok-count.count = search rules in
    let n : c.unsigned_abs-count.result ≡ nat_abs c.in_ok-count.count = simp to_z-of_z at c.unsigned_abs-count.ensures.value in
    rw (p.1, p.2) (λ h. let m = c.in_err-ends.ensures h
    in rw (
      c.in_ok-number.ensures.reads,
      c.in_ok-number-2.ensures.reads,
      c.in_ok-count.ensures.reads,
      reading_bind,
      ← n,
      m,
    ) refl)
