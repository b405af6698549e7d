-- The names of checkpoints (Delta PROTOCOL.md, "UUID-named checkpoint").
use Rattle.std.specs.Prelude.{◌≡◌, ◌≤◌, ℕ, List, ◌++◌, true, codes, is_some, length, take, unwrap_or}
use Rattle.std.specs.Fmt.{decimal}
use Rattle.delta_actions.specs.Names.{twenty_digits, greatest_version}
use Rattle.sha1.specs.Sha1.{sha1}
use Rattle.uuid.specs.Parts.{with_variant, with_version, zero_bytes}
use Rattle.uuid.specs.Text.{hyphenated_text, lower, parsed}
use Rattle.uuid.specs.declared.Variant.TheVariants.{RFC4122}
use Rattle.uuid.specs.declared.Version.TheVariants as versions

-- the UUID of version 5 (RFC 9562) of a text in a namespace
abbrev pub named_id : (namespace name : List ℕ) → List ℕ
named_id namespace name = with_version (with_variant (take 16 (sha1 (namespace ++ name))) RFC4122) versions.Sha1

-- the table's id as a UUID, or the nil UUID where it isn't one
abbrev pub table_namespace : List ℕ → List ℕ
table_namespace table_id = unwrap_or (parsed table_id) zero_bytes

-- the UUID in the name of a version's checkpoint
abbrev pub checkpoint_id : (version : ℕ) (table_id : List ℕ) → List ℕ
checkpoint_id version table_id = named_id (table_namespace table_id) (codes "checkpoint " ++ decimal version)

-- the name of a version's checkpoint with the text of a UUID
abbrev pub name_with : (version : ℕ) (id : List ℕ) → List ℕ
name_with version id = codes "_delta_log/" ++ (twenty_digits version ++ (codes ".checkpoint." ++ (id ++ codes ".json")))

-- the name of a version's checkpoint as this product makes it
abbrev pub checkpoint_name : (version : ℕ) (table_id : List ℕ) → List ℕ
checkpoint_name version table_id = name_with version (hyphenated_text lower (checkpoint_id version table_id))

-- The name is one of a version's checkpoint: with any UUID, in the form with hyphens.
pub record IsCheckpointName (version : ℕ) (name : List ℕ) : Type 0 where
  pub id : List ℕ
  pub is : name ≡ name_with version id
  pub small : version ≤ greatest_version
  pub hyphenated : length id ≡ 36
  pub uuid : is_some (parsed id) ≡ true
