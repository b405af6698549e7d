use Rattle.std.proofs.Common.{◌≡◌, map, take}
use Rattle.std.specs.Prelude.{filter, string_bytes}
use Rattle.table_folder.specs.Loads.{is_of_log}
use Rattle.table_folder.proofs.loading.log_names.Given as goal

abbrev pub invariant-loop-name : goal.invariant-loop-name
invariant-loop-name l = map string_bytes l.found.items ≡ filter is_of_log (map string_bytes (take l.name-index l.names))
