use Rattle.std.proofs.Common.{◌≡◌, ◌∙◌, sym, subst, ap, map, length, List, ℤ, Option, None, Some, arith, pos, unwrap_or}
use Rattle.std.proofs.lemmas.Result.{err_from_is_err_and, IfOk-weaker, IfErr-weaker, on_ok_weaker}
use Rattle.std.specs.List.{All}
use Rattle.network.specs.Problem.{IsTime}
use Rattle.schedule_check.specs.Starts.{starts_fault, starts_of, missing_fault, StartsFault}
use Rattle.schedule_check.proofs.StartsTexts.{starts_count, starts_within, fault_of_lines, fault_of_table, IsStartsText-from_fault, not_starts_text}
use Rattle.schedule_check.proofs.starts_text.read_starts.Goals as goal

-- the fault of the text is that of the table
whole : (c : goal.After-drop-table) (fault : Option StartsFault) → missing_fault c.deref.result.now ≡ fault
    → starts_fault c.args.activities c.args.text.now ≡ fault
whole c fault missing =
    fault_of_table c.args.activities c.args.text.now c.deref.result.now fault
    (omega (arith, c.if-text-gt-MAX_TEXT_BYTES.false)) c.in_ok-table.ensures.fine
    (c.deref.ensures.value ∙ c.in_ok-table.ensures.table) missing

-- and its starts are those of the table
read : (c : goal.After-drop-table) (starts : List ℤ)
    → starts ≡ map (λ start. unwrap_or start (pos 0)) c.deref.result.now
    → starts ≡ starts_of c.args.activities c.args.text.now
read c starts is = is ∙ ap (map (λ (start : Option ℤ). unwrap_or start (pos 0))) (c.deref.ensures.value ∙ c.in_ok-table.ensures.table)

pub returns-clause-accepted : goal.returns-clause-accepted
returns-clause-accepted c = on_ok_weaker c.all_starts.result (whole c None) c.all_starts.ensures.all

pub returns-clause-text : goal.returns-clause-text
returns-clause-text c =
    on_ok_weaker c.all_starts.result (λ missing. IsStartsText-from_fault c.args.activities c.args.text.now (whole c None missing)) c.all_starts.ensures.all

pub returns-clause-starts : goal.returns-clause-starts
returns-clause-starts c = IfOk-weaker c.all_starts.result _ _ (λ starts is. read c starts.items is) c.all_starts.ensures.starts

pub returns-clause-count : goal.returns-clause-count
returns-clause-count c =
    IfOk-weaker c.all_starts.result _ _ (λ starts is. ap length (read c starts.items is)
    ∙ starts_count c.args.activities c.args.text.now) c.all_starts.ensures.starts

pub returns-clause-within : goal.returns-clause-within
returns-clause-within c =
    let P : List ℤ → Type 0 = λ starts. All IsTime starts in
    IfOk-weaker c.all_starts.result _ _ (λ starts is.
    subst P (sym (read c starts.items is)) (starts_within c.args.activities c.args.text.now))
    c.all_starts.ensures.starts

pub returns-clause-fault : goal.returns-clause-fault
returns-clause-fault c = IfErr-weaker c.all_starts.result _ _ (λ fault missing other. whole c (Some fault) (missing other)) c.all_starts.ensures.fault

pub returns-clause-refused : goal.returns-clause-refused
returns-clause-refused c =
    IfErr-weaker c.all_starts.result _ _ (λ fault missing other.
    not_starts_text c.args.activities c.args.text.now fault (whole c (Some fault) (missing other)))
    c.all_starts.ensures.fault

pub returns-in_err-table-clause-refused : goal.returns-in_err-table-clause-refused
returns-in_err-table-clause-refused c =
    let p = err_from_is_err_and c.from_residual.result c.from_residual.ensures.1 in
    rw (p.1, p.2) (λ other. not_starts_text c.args.activities c.args.text.now c.in_err-table.field-0.0
    (fault_of_lines c.args.activities c.args.text.now c.in_err-table.field-0.0
    (omega (arith, c.if-text-gt-MAX_TEXT_BYTES.false)) (c.in_err-table.ensures.fault other)))
