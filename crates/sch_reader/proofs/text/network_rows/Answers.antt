use Rattle.std.proofs.Common.{rules, arith, ◌≡◌, ◌++◌, ◌+◌, ◌-◌, length}
use Rattle.std.proofs.lemmas.Result.{err_from_is_err_and}
use Rattle.network.specs.declared.limits.TheConstants.{MAX_LAGS}
use Rattle.sch_reader.specs.Layout.{network_rows}
use Rattle.sch_reader.specs.Reading.{reading}
use Rattle.sch_reader.proofs.Readings.{networks_turn, networks_fail, networks_end}
use Rattle.sch_reader.proofs.text.network_rows.Goals as goal

pub returns-in_err-of_row : goal.returns-in_err-of_row
returns-in_err-of_row c =
    let p = err_from_is_err_and c.from_residual.result c.from_residual.ensures.1 in
    let left : c.saturating_sub-left.result ≡ MAX_LAGS - length c.loop-row.lags.items =
    omega (arith, c.saturating_sub-left.ensures, c.len.ensures, c.loop-row.lags.ok.0) in
    rw (p.1, p.2) (λ h. networks_fail (c.args.activities + 2) (c.args.activities + 1) c.loop-row.row
    c.loop-row.lags.items c.loop-row.reader c.in_err-of_row.field-0.0
    (reading (network_rows (c.args.activities + 2) (c.args.activities + 1) MAX_LAGS 0) c.args.reader.now)
    c.loop-row-test.true (rw left at (c.in_err-of_row.ensures h)) c.loop-row.invariant)

pub loop-row-preserved : goal.loop-row-preserved
loop-row-preserved c =
    let left : c.saturating_sub-left.result ≡ MAX_LAGS - length c.loop-row.lags.items =
    omega (arith, c.saturating_sub-left.ensures, c.len.ensures, c.loop-row.lags.ok.0) in
    let items : c.extend_from_slice.new.self.items ≡ c.loop-row.lags.items ++ c.in_ok-of_row.of_row.items = search rules in
    rw items (networks_turn (c.args.activities + 2) (c.args.activities + 1) c.loop-row.row c.loop-row.lags.items
    c.loop-row.reader c.network_row.new.reader c.in_ok-of_row.of_row.items
    (reading (network_rows (c.args.activities + 2) (c.args.activities + 1) MAX_LAGS 0) c.args.reader.now)
    c.loop-row-test.true (rw left at c.in_ok-of_row.ensures) c.loop-row.invariant)

pub returns : goal.returns
returns c = networks_end (c.args.activities + 2) (c.args.activities + 1) c.loop-row.row c.loop-row.lags.items
    c.loop-row.reader (reading (network_rows (c.args.activities + 2) (c.args.activities + 1) MAX_LAGS 0)
    c.args.reader.now) c.loop-row-test.false c.loop-row.invariant
