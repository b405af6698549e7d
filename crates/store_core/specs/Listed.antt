-- The names that a store listed.
use Rattle.std.specs.Prelude.{ℕ, List, map}
use Rattle.std.specs.String.{string_bytes}
use Rattle.store_core.specs.declared.names.Names.{Names}

-- the names, in the order in which they were listed
abbrev pub listed : Names → List (List ℕ)
listed names = map string_bytes names.shared.value.items
