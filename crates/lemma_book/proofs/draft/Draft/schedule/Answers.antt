use Rattle.std.proofs.Common.{◌≡◌, sym, rules, arith, pos, w64, SFits, ◌≤ℤ◌, ◌<ℤ◌}
use Rattle.std.proofs.lemmas.Int.{ints, to_z-of_z}
use Rattle.network.specs.Problem.{IsBetween}
use Rattle.network.specs.Schedule.{makespan}
use Rattle.lemma_book.specs.declared.deadline.TheConstants.{MAX_CEILING}
use Rattle.lemma_book.specs.Ledger.{LedgerOf, MayLead, ceiling_of}
use Rattle.lemma_book.specs.Premises.{ledger_of}
use Rattle.lemma_book.proofs.Ledgers.{led_within}
use Rattle.lemma_book.proofs.Claims.{makespan_low}
use Rattle.lemma_book.proofs.draft.Draft.schedule.Goals as goal

pub deadline-arc-requires : goal.deadline-arc-requires
deadline-arc-requires c =
    let l : LedgerOf = ledger_of c.self.inside.premises c.self.inside.best in
    let may : MayLead l c.args.starts = rw (sym c.self.view_is, c.as_slice.ensures) at (c.in_ok-may_lead.ensures.0 c.if-not-branch.false) in
    let fits : SFits w64 c.last_of.result = search rules in
    let last : c.last_of.result ≡ makespan c.args.starts = rw c.as_slice-2.ensures at c.last_of.ensures in
    let two = rw (c.activity_count.ensures.value, c.project.ensures) at c.if-prove.false in
    let low : pos 0 ≤ℤ makespan c.args.starts = makespan_low c.self.inside.premises.project c.args.starts two may.feasible in
    let high = c.self.invariant.at_most in
    let shorter : makespan c.args.starts <ℤ ceiling_of l = may.shorter in
    let within : IsBetween (pos 0) MAX_CEILING c.last_of.result =
    record { at_least = omega (arith, ints, last, low); at_most = omega (arith, ints, last, shorter, high) } in
    simp to_z-of_z within

pub invariant_of-self-2 : goal.invariant_of-self-2
invariant_of-self-2 c =
    let l : LedgerOf = ledger_of c.self.inside.premises c.self.inside.best in
    let may : MayLead l c.args.starts = rw (sym c.self.view_is, c.as_slice.ensures) at (c.in_ok-may_lead.ensures.0 c.if-not-branch.false) in
    let two = rw (c.activity_count.ensures.value, c.project.ensures) at c.if-prove.false in
    let low : pos 0 ≤ℤ makespan c.args.starts = makespan_low l.project c.args.starts two may.feasible in
    led_within l c.args.starts c.self.invariant may.shorter low
