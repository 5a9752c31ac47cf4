use Rattle.std.proofs.Common.{inr}
use Rattle.clap.specs.Words.{found_of}
use Rattle.command_line.proofs.Named.{named}
use Rattle.psprove.proofs.Works.{solved_work}
use Rattle.psprove.proofs.commands.found_work.Goals as goal

pub returns-in_ok-solve_of-in-Some-solve-default : goal.returns-in_ok-solve_of-in-Some-solve-default
returns-in_ok-solve_of-in-Some-solve-default c =
    let i = c.in-Some-solve-default in
    let done = c.in_ok-solve_of-in-Some-solve-default in
    solved_work c.args.matches.now i.field-0-0.now (found_of i.found.now) done.field-0 i.ensures.name i.ensures.rows i.is-solve done.ensures

pub returns-in_ok-join_of-in-Some-join-default : goal.returns-in_ok-join_of-in-Some-join-default
returns-in_ok-join_of-in-Some-join-default c =
    let i = c.in-Some-join-default in
    inr (named c.args.matches.now _ i.field-0-0.now (found_of i.found.now) _ i.ensures.name i.ensures.rows i.is-join
    c.in_ok-join_of-in-Some-join-default.ensures)

pub returns-in_ok-project-in-Some-trim-default : goal.returns-in_ok-project-in-Some-trim-default
returns-in_ok-project-in-Some-trim-default c =
    let i = c.in-Some-trim-default in
    named c.args.matches.now _ i.field-0-0.now (found_of i.found.now) _ i.ensures.name i.ensures.rows i.is-trim
    c.in_ok-project-in-Some-trim-default.ensures

pub returns-in-Some : goal.returns-in-Some
returns-in-Some c =
    let i = c.in-Some-verify-default in
    let is = rw c.in-Some.is at c.in_ok-call-in-Some-verify-default.ensures in
    named c.args.matches.now _ i.field-0-0.now (found_of i.found.now) _ i.ensures.name i.ensures.rows i.is-verify is
