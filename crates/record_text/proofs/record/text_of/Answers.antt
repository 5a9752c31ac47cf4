use Rattle.std.proofs.Common.{◌≡◌, ◌++◌, List, ℕ, ap, ◌∙◌, rules, string_bytes}
use Rattle.std.specs.List.{flat_map}
use Rattle.record_text.specs.Kinds.{head_rows, ended}
use Rattle.record_text.proofs.Rows.{written}
use Rattle.record_text.proofs.record.text_of.Goals as goal

pub returns : goal.returns
returns g c =
    let k = g.L.RecordLine.kind in
    let claim = c.args.claim.now in
    let title : string_bytes c.push_str.new.self ≡ k.title = c.in_ok-push_str.ensures.bytes
    ∙ ap (λ (empty : List ℕ). empty ++ c.title.result.now) c.new-out.ensures.bytes ∙ c.title.ensures in
    let ended_title : string_bytes c.push_str-2.new.self ≡ ended k.title = c.in_ok-push_str-2.ensures.bytes ∙ ap ended title in
    let head : string_bytes c.put_claim.new.out ≡ flat_map ended (head_rows k claim) = c.in_ok-put_claim.ensures
    ∙ ap (λ (t : List ℕ). t ++ flat_map ended (k.claim_rows claim)) ended_title in
    let bytes : c.into_bytes.result.items ≡ string_bytes c.put_lines.new.out = search rules in
    written k.row_of (head_rows k claim) c.args.lines.now (string_bytes c.put_claim.new.out)
    (string_bytes c.put_lines.new.out) c.into_bytes.result.items head c.in_ok-put_lines.ensures bytes
