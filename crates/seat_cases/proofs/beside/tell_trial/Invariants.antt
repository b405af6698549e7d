use Rattle.seat_cases.proofs.beside.tell_trial.Given as goal

-- the hub that was just opened
abbrev pub ghosts-do_through : goal.ghosts-do_through
ghosts-do_through g a = record { table = a.opened.table; badge = a.opened.badge }
