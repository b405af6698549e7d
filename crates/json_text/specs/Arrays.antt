-- The members of a text that is an array of JSON.
use Rattle.std.specs.Prelude.{ℕ, List, Option, option_and_then}
use Rattle.serde_json.specs.Data.{Items}
use Rattle.serde_json.specs.Find.{as_array}
use Rattle.serde_json.specs.Read.{read}

abbrev pub array_in : List ℕ → Option Items
array_in text = option_and_then as_array (read text)
