-- Which tables are read, and which are written: this product's rule, over the fields of Delta PROTOCOL.md, "Protocol
-- Evolution", "Table Features" and "Change Metadata".
use Rattle.std.specs.Prelude.{◌≡◌, ℕ, ◌==◌, List, [], ◌∷◌, Bool, false, not, ◌||◌, bytes_eq, codes, Option, Some, None, Result, Ok, Err, option_and_then, is_some, string_bytes, if◌then◌else◌}
use Rattle.std.specs.List.{list_any}
use Rattle.serde_json.specs.Find.{get}
use Rattle.outcomes.specs.Outcome.{Said, refuses, says_nothing}
use Rattle.outcomes.specs.Results.{◌>>=◌, or_refusal, refused_as, refused_if}
use Rattle.delta_actions.specs.Action.{Action, ProtocolAction, MetaDataAction}
use Rattle.delta_actions.specs.In.{meta_data_in, protocol_in}
use Rattle.schema_tree.specs.Fault as schemas
use Rattle.schema_tree.specs.Reading.{schema_of}
use Rattle.schema_tree.specs.Tree as tree
use Rattle.schema_tree.specs.Tree.{Tree, Fields, no_fields, field}
use Rattle.delta_replay.specs.declared.support.SupportError.{SupportError}
use Rattle.delta_replay.specs.declared.support.SupportError.TheVariants as errors
use Rattle.delta_replay.specs.declared.support.SupportFault.{SupportFault}
use Rattle.delta_replay.specs.declared.support.SupportFault.TheVariants as faults
use Rattle.delta_replay.specs.Keys.{at, the_meta_data, the_protocol}

-- Why a table isn't read.
pub data Unsupported : Type 0 where
  no_protocol : Unsupported
  no_meta_data : Unsupported
  reader_version : (n : ℕ) → Unsupported
  feature : (name : List ℕ) → Unsupported
  partitioned : Unsupported
  bad_schema : schemas.Fault → Unsupported

-- the feature that a reader knows
abbrev pub is_known_to_readers : List ℕ → Bool
is_known_to_readers name = bytes_eq name (codes "v2Checkpoint")

-- the first feature that isn't known
abbrev pub first_unknown : (List ℕ → Bool) → List (List ℕ) → Option (List ℕ)
first_unknown known [] = None
first_unknown known (name ∷ names) = if known name then first_unknown known names else Some name

-- no feature that isn't known
abbrev pub unless_unknown : Option (List ℕ) → Result (Unit {0}) Unsupported
unless_unknown None = Ok tt
unless_unknown (Some name) = Err (feature name)

-- Reader version 1, or 3 with known features; features at version 1 aren't looked at.
abbrev pub readable_protocol : ProtocolAction → Result (Unit {0}) Unsupported
readable_protocol p =
    if p.min_reader_version == 1 then Ok tt else
    (if p.min_reader_version == 3 then unless_unknown (first_unknown is_known_to_readers p.reader_features) else Err (reader_version p.min_reader_version))

-- no partition columns
abbrev pub unless_partitioned : List (List ℕ) → Result (Unit {0}) Unsupported
unless_partitioned [] = Ok tt
unless_partitioned (column ∷ columns) = Err partitioned

-- the schema of a metadata's text
abbrev pub schema_told : MetaDataAction → Result Tree Unsupported
schema_told m = refused_as bad_schema (schema_of m.schema_string)

-- The schema of a table with this protocol and this metadata, where it is read, or the first of these: no protocol, no
-- metadata, the reader's version, a feature, partition columns, and the schema's text.
abbrev pub readable_by : Option ProtocolAction → Option MetaDataAction → Result Tree Unsupported
readable_by protocol metadata = do
  p ← or_refusal protocol no_protocol
  m ← or_refusal metadata no_meta_data
  version ← readable_protocol p
  whole ← unless_partitioned m.partition_columns
  schema_told m

-- the newest protocol and the newest metadata of a log
abbrev pub protocol_of_log : List (List Action) → Option ProtocolAction
protocol_of_log log = option_and_then protocol_in (at the_protocol log)

abbrev pub meta_data_of_log : List (List Action) → Option MetaDataAction
meta_data_of_log log = option_and_then meta_data_in (at the_meta_data log)

-- the schema that a log's newest metadata tells, whatever the protocol asks of a reader
abbrev pub schema_of_log : List (List Action) → Result Tree Unsupported
schema_of_log log = do
  m ← or_refusal (meta_data_of_log log) no_meta_data
  schema_told m

-- the schema of a table that is read
abbrev pub readable : List (List Action) → Result Tree Unsupported
readable log = readable_by (protocol_of_log log) (meta_data_of_log log)

-- ---- tables that are written

-- the features that a writer of this crate knows
abbrev pub is_known_to_writers : List ℕ → Bool
is_known_to_writers name = list_any (λ known. bytes_eq name known) (codes "appendOnly" ∷ codes "invariants" ∷ codes "domainMetadata" ∷ codes "v2Checkpoint" ∷ [])

-- a feature is among these
abbrev pub has_feature : (wanted : List ℕ) → List (List ℕ) → Bool
has_feature wanted names = list_any (λ name. bytes_eq name wanted) names

-- Writer version 7, with `domainMetadata` among the features and none that isn't known.
abbrev pub writable_protocol : ProtocolAction → Result (Unit {0}) Unsupported
writable_protocol p = do
  version ← refused_if (not (p.min_writer_version == 7)) (feature (codes "domainMetadata"))
  domains ← refused_if (not (has_feature (codes "domainMetadata") p.writer_features)) (feature (codes "domainMetadata"))
  unless_unknown (first_unknown is_known_to_writers p.writer_features)

-- whether a field, at any depth, has this key at the top of its metadata
abbrev mutual
  pub has_key_inside : List ℕ → Tree → Bool
  has_key_inside key (tree.leaf p) = false
  has_key_inside key (tree.struct fs) = have_key_inside key fs
  has_key_inside key (tree.array t nullable) = has_key_inside key t
  has_key_inside key (tree.map k v nullable) = has_key_inside key k || has_key_inside key v

  pub have_key_inside : List ℕ → Fields → Bool
  have_key_inside key no_fields = false
  have_key_inside key (field name t nullable metadata fs) = is_some (get key metadata) || (has_key_inside key t || have_key_inside key fs)

-- The schema of a table that is written: it is read, its protocol is one that is written, and no field has invariants.
abbrev pub writable : List (List Action) → Result Tree Unsupported
writable log = do
  schema ← readable log
  p ← or_refusal (protocol_of_log log) no_protocol
  known ← writable_protocol p
  plain ← refused_if (has_key_inside (codes "delta.invariants") schema) (feature (codes "invariants"))
  Ok schema

-- Whether a checkpoint is put: the table is written, and the features of both its readers and its writers have
-- `v2Checkpoint`.
abbrev pub checkpointable : List (List Action) → Result (Unit {0}) Unsupported
checkpointable log = do
  schema ← writable log
  p ← or_refusal (protocol_of_log log) no_protocol
  refused_if (not (has_feature (codes "v2Checkpoint") p.reader_features) || not (has_feature (codes "v2Checkpoint") p.writer_features)) (feature (codes "v2Checkpoint"))

-- ---- what the code's faults say

-- a fault of the code by its meaning
abbrev pub fault_of : SupportFault → Unsupported
fault_of faults.NoProtocol = no_protocol
fault_of faults.NoMetadata = no_meta_data
fault_of (faults.Feature name) = feature (string_bytes name)
fault_of faults.Partitioned = partitioned
fault_of (faults.ReaderVersion n) = reader_version n
fault_of (faults.BadSchema fault) = bad_schema (schemas.fault_of fault)

-- what an error says: its fault, or nothing, where memory ran out
abbrev pub says : SupportError → Said Unsupported
says errors.Memory = says_nothing
says (errors.Fault fault) = refuses (fault_of fault)

-- the error tells this feature, or memory ran out
abbrev pub TellsFeature : List ℕ → SupportError → Type 0
TellsFeature name errors.Memory = Unit {0}
TellsFeature name (errors.Fault fault) = fault_of fault ≡ feature name
