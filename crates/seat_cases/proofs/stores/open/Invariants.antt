use Rattle.seat_cases.proofs.stores.open.Given as goal

-- the hub that was just opened
abbrev pub ghosts-tell_opened : goal.ghosts-tell_opened
ghosts-tell_opened g a = record { table = a.opened.table; badge = a.opened.badge }
