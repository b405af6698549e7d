-- What a `Metadata` stands for.
use Rattle.std.specs.Prelude.{ℕ, List, string_bytes}
use Rattle.serde_json.specs.Data.{Data}
use Rattle.field_metadata.specs.Metadata.{value_of}
use Rattle.field_metadata.specs.declared.metadata.Metadata.{Metadata}

-- the JSON text that is kept
abbrev pub text_of : {A : Type 0} → Metadata A → List ℕ
text_of m = string_bytes m.text

-- the JSON object that a field's metadata is
abbrev pub metadata_of : {A : Type 0} → Metadata A → Data
metadata_of m = value_of (text_of m)
