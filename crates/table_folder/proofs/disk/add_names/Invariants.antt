use Rattle.std.proofs.Common.{IsTrue, All, map, string_bytes}
use Rattle.table_folder.specs.Names.{is_listed}
use Rattle.table_folder.proofs.disk.add_names.Given as goal

-- the names so far are shown
abbrev pub invariant-loop-file : goal.invariant-loop-file
invariant-loop-file g l = All (λ name. IsTrue (is_listed l.listed name)) (map string_bytes l.names.items)
