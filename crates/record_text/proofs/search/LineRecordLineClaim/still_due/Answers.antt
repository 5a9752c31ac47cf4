use Rattle.std.proofs.Common.{rules, ◌≤◌, length, ap, arith}
use Rattle.record_text.specs.Kinds.{MAX_RECORD_BYTES}
use Rattle.record_text.specs.Text.{row_of}
use Rattle.record_text.specs.Tree.{Line}
use Rattle.record_text.specs.declared.line.Line.TheVariants as kind
use Rattle.record_text.proofs.RowReads.{few_members}
use Rattle.record_text.proofs.search.LineRecordLineClaim.still_due.Goals as goal

pub overflow_mul-result : goal.overflow_mul-result
overflow_mul-result c =
    let few : length c.as_slice-count.result.now ≤ MAX_RECORD_BYTES =
    omega (
      arith,
      few_members (kind.Split c.in-Split.resource c.in-Split.members),
      c.requires.row,
      ap (λ (line : Line). length (row_of line)) c.in-Split.is,
      ap length c.as_slice-count.ensures,
    ) in
    search rules

pub overflow_add-result : goal.overflow_add-result
overflow_add-result c =
    let few : length c.as_slice-count.result.now ≤ MAX_RECORD_BYTES =
    omega (
      arith,
      few_members (kind.Split c.in-Split.resource c.in-Split.members),
      c.requires.row,
      ap (λ (line : Line). length (row_of line)) c.in-Split.is,
      ap length c.as_slice-count.ensures,
    ) in
    search rules
