use Rattle.clap.specs.Words.{found_of}
use Rattle.command_line.proofs.Named.{named}
use Rattle.psmax.proofs.commands.found.Goals as goal

pub returns-in-Some-clause-of : goal.returns-in-Some-clause-of
returns-in-Some-clause-of c =
    let i = c.in-Some-verify-default in
    let is = rw c.in-Some.is at c.in_ok-call.ensures in
    named c.args.matches.now _ i.field-0-0.now (found_of i.found.now) _ i.ensures.name i.ensures.rows i.is-verify is
