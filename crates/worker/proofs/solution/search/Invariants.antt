use Rattle.worker.proofs.solution.search.Given as goal

abbrev pub ghosts-search_with-L-Ledger : goal.ghosts-search_with-L-Ledger
ghosts-search_with-L-Ledger g a = record { name = a.blanks.accepted.name; parts = a.blanks.accepted.parts }

abbrev pub ghosts-search_with-S-Ledger : goal.ghosts-search_with-S-Ledger
ghosts-search_with-S-Ledger g a = record { name = a.blanks.steps.name; parts = a.blanks.steps.parts }
