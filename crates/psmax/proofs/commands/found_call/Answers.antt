use Rattle.std.proofs.Common.{inl, inr}
use Rattle.clap.specs.Words.{found_of}
use Rattle.command_line.proofs.Named.{named, ok_some}
use Rattle.psmax.specs.Calls.{IsCallOf, IsCheckOf, IsSolveOf}
use Rattle.psmax.proofs.commands.found_call.Goals as goal

pub returns-in-Some-earliest-default-clause-of : goal.returns-in-Some-earliest-default-clause-of
returns-in-Some-earliest-default-clause-of c =
    let i = c.in-Some-earliest-default in
    inl (named c.args.matches.now _ i.field-0-0.now (found_of i.field-0-1.now) _ i.ensures.name i.ensures.rows i.is-earliest
    c.earliest_call.ensures.job)

pub returns-in-Some-solve-default-clause-of : goal.returns-in-Some-solve-default-clause-of
returns-in-Some-solve-default-clause-of c =
    let i = c.in-Some-solve-default in
    ok_some (IsSolveOf (found_of i.found.now)) (IsCallOf c.args.matches.now) c.solve_call.result
    (λ call is. inr (inl (named c.args.matches.now _ i.field-0-0.now (found_of i.found.now) _ i.ensures.name i.ensures.rows i.is-solve is)))
    c.solve_call.ensures.of

pub returns-in-Some-check-default-clause-of : goal.returns-in-Some-check-default-clause-of
returns-in-Some-check-default-clause-of c =
    let i = c.in-Some-check-default in
    ok_some (IsCheckOf (found_of i.found.now)) (IsCallOf c.args.matches.now) c.check_call.result
    (λ call is.
    inr (inr (inl (named c.args.matches.now _ i.field-0-0.now (found_of i.found.now) _ i.ensures.name i.ensures.rows i.is-check is))))
    c.check_call.ensures.of

pub returns-in-Some-tidy-default-clause-of : goal.returns-in-Some-tidy-default-clause-of
returns-in-Some-tidy-default-clause-of c =
    let i = c.in-Some-tidy-default in
    inr (inr (inr (named c.args.matches.now _ i.field-0-0.now (found_of i.field-0-1.now) _ i.ensures.name i.ensures.rows i.is-tidy
    c.tidy_call.ensures.job)))
