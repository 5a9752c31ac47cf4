use Rattle.run_tests.proofs.workers.desks.two_told.Given as goal

abbrev pub ghosts-ends_of_two-L-Ledger : goal.ghosts-ends_of_two-L-Ledger
ghosts-ends_of_two-L-Ledger g a = record { name = a.blanks.accepted.name; parts = a.blanks.accepted.parts }

abbrev pub ghosts-ends_of_two-S-Ledger : goal.ghosts-ends_of_two-S-Ledger
ghosts-ends_of_two-S-Ledger g a = record { name = a.blanks.steps.name; parts = a.blanks.steps.parts }
