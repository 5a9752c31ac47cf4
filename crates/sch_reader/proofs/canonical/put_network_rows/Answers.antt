use Rattle.std.proofs.Common.{◌≡◌, ◌++◌, List, take, sym, ap, subst, ◌∙◌, string_bytes, append-nil}
use Rattle.std.proofs.lemmas.List.Sums.{prefix_len-le-length}
use Rattle.network.specs.declared.parts.Lag.{Lag}
use Rattle.sch_reader.specs.Text.{lags_from, line, arcs_row, network_row}
use Rattle.sch_reader.proofs.Printed.{row_more}
use Rattle.sch_reader.proofs.NetworkRows.{AreFrom, own_arcs, later_arcs, all_arcs}
use Rattle.sch_reader.proofs.canonical.put_network_rows.Goals as goal

pub loop-activity-init : goal.loop-activity-init
loop-activity-init c =
    let project = c.args.project.now in
    record {
      written = sym (append-nil (string_bytes c.args.out.now));
      left = subst (λ (lags : List Lag). AreFrom 0 lags project.lags) (sym c.lags-rest.ensures.value) (all_arcs project c.lags-rest.ensures.limits);
    }

pub split_at-requires : goal.split_at-requires
split_at-requires c = rw (c.count_from-count.ensures) (prefix_len-le-length _ c.loop-activity.rest.now)

pub loop-activity-preserved : goal.loop-activity-preserved
loop-activity-preserved c =
    let project = c.args.project.now in
    let activity = c.loop-activity.activity in
    let rest = c.loop-activity.rest.now in
    let left = c.loop-activity.invariant.left in
    let own : c.split_at.result.0.now ≡ lags_from activity project.lags = c.split_at.ensures.front
    ∙ ap (λ k. take k rest) c.count_from-count.ensures ∙ own_arcs activity rest project.lags left in
    let row = ap (λ (lags : List Lag). string_bytes c.loop-activity.out ++ line (arcs_row activity lags)) own in
    record {
      written = row_more (string_bytes c.args.out.now) (string_bytes c.loop-activity.out)
          (string_bytes c.put_arcs_row.new.out) (network_row project) activity c.loop-activity.invariant.written
          (c.in_ok-put_arcs_row.ensures ∙ row);
      left = rw (c.split_at.ensures.back, c.count_from-count.ensures) (later_arcs activity rest project.lags left);
    }
