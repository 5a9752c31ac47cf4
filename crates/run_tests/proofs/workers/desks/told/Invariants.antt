use Rattle.run_tests.proofs.workers.desks.told.Given as goal

abbrev pub ghosts-left_by-L-Ledger : goal.ghosts-left_by-L-Ledger
ghosts-left_by-L-Ledger g a = record { name = a.blanks.accepted.name; parts = a.blanks.accepted.parts }

abbrev pub ghosts-left_by-S-Ledger : goal.ghosts-left_by-S-Ledger
ghosts-left_by-S-Ledger g a = record { name = a.blanks.steps.name; parts = a.blanks.steps.parts }
