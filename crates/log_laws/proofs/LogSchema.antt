-- A lawful log is read, written and put as a checkpoint by the table's schema.
use Rattle.std.proofs.Common.{◌≡◌, Bool, true, false, List, [], ◌∷◌, Option, Some, Ok, refl}
use Rattle.std.specs.Prelude.{codes}
use Rattle.std.specs.Option.{option_or}
use Rattle.schema_tree.specs.Reading.{schema_of}
use Rattle.schema_tree.specs.Tree.{Tree}
use Rattle.store_core.specs.Objects.{Objects}
use Rattle.delta_actions.specs.Action as actions
use Rattle.delta_actions.specs.Action.{add, meta_data, protocol, txn, MetaDataAction}
use Rattle.delta_replay.specs.Keys.{the_protocol, the_meta_data, newest}
use Rattle.delta_replay.specs.Support.{checkpointable, feature, has_key_inside, meta_data_of_log, readable, writable}
use Rattle.outcomes.specs.Results.{◌>>=◌, refused_if}
use Rattle.table_model.specs.Table.{Entry, creation, group, close}
use Rattle.table_store.specs.Commits.{StandFor, without_commit_info, table_protocol}
use Rattle.table_store.specs.Schema.{Schema}
use Rattle.table_store.proofs.LawfulLogLemmas.{AreMadeFor}
use Rattle.log_laws.proofs.LogNewest.{IsNoGroups, newest-cons, newest_beside, none_in_group, of_commit, stays}

-- the protocol that a creation has is found
abbrev IsProtocol : Option actions.Action → Type 0
IsProtocol found = found ≡ Some (protocol table_protocol)

-- metadata without partition columns is found, with a text that is read as the schema
abbrev IsTold : Schema → Option actions.Action → Type 0
IsTold schema found = (metadata : MetaDataAction) × (found ≡ Some (meta_data metadata)) × (metadata.partition_columns ≡ []) × (schema_of metadata.schema_string ≡ Ok schema)

-- a group has no protocol
no_protocol : IsNoGroups the_protocol
no_protocol (txn t) is = refl
no_protocol (add a) is = refl
no_protocol _ is = absurd cc

-- and no metadata
no_meta_data : IsNoGroups the_meta_data
no_meta_data (txn t) is = refl
no_meta_data (add a) is = refl
no_meta_data _ is = absurd cc

-- behind any commit that stands for an entry the protocol stays
protocol_on : (schema : Schema) (found : Option actions.Action) (entry : Entry) (beside : List actions.Action) → IsProtocol found → StandFor schema entry beside → IsProtocol (option_or (of_commit the_protocol beside) found)
protocol_on schema found creation beside told stand = rw stand.actions refl
protocol_on schema found (group bs) beside told stand = rw (none_in_group the_protocol no_protocol beside stand.only) told
protocol_on schema found (close application) beside told stand = rw stand.actions told

-- and the metadata
told_on : (schema : Schema) (found : Option actions.Action) (entry : Entry) (beside : List actions.Action) → IsTold schema found → StandFor schema entry beside → IsTold schema (option_or (of_commit the_meta_data beside) found)
told_on schema found creation beside told stand = rw stand.actions (stand.metadata, refl, stand.unpartitioned, stand.schema_string)
told_on schema found (group bs) beside told stand = rw (none_in_group the_meta_data no_meta_data beside stand.only) told
told_on schema found (close application) beside told stand = rw stand.actions told

-- the creation's commit has the protocol
first_protocol : (schema : Schema) (beside : List actions.Action) → StandFor schema creation beside → IsProtocol (of_commit the_protocol beside)
first_protocol schema beside stand = rw stand.actions refl

-- and the metadata
first_told : (schema : Schema) (beside : List actions.Action) → StandFor schema creation beside → IsTold schema (of_commit the_meta_data beside)
first_told schema beside stand = rw stand.actions (stand.metadata, refl, stand.unpartitioned, stand.schema_string)

module _ (objects : Objects) (schema : Schema) (rest : List Entry) where
  -- the protocol of a table's log
  log_protocol : (commits : List (List actions.Action)) → AreMadeFor objects schema (creation ∷ rest) commits → IsProtocol (newest the_protocol commits)
  log_protocol [] made = absurd made
  log_protocol (commit ∷ commits) made =
      let first : IsProtocol (of_commit the_protocol commit) = rw (newest_beside the_protocol (λ told. refl) commit) (first_protocol schema (without_commit_info commit) made.0) in
      rw (newest-cons the_protocol commit commits) (stays objects schema the_protocol (λ told. refl) IsProtocol (protocol_on schema) (of_commit the_protocol commit) rest commits first made.2)

  -- the metadata of a table's log
  log_told : (commits : List (List actions.Action)) → AreMadeFor objects schema (creation ∷ rest) commits → IsTold schema (newest the_meta_data commits)
  log_told [] made = absurd made
  log_told (commit ∷ commits) made =
      let first : IsTold schema (of_commit the_meta_data commit) = rw (newest_beside the_meta_data (λ told. refl) commit) (first_told schema (without_commit_info commit) made.0) in
      rw (newest-cons the_meta_data commit commits) (stays objects schema the_meta_data (λ told. refl) (IsTold schema) (told_on schema) (of_commit the_meta_data commit) rest commits first made.2)

  -- A table of a schema is read.
  pub log_readable : (commits : List (List actions.Action)) → AreMadeFor objects schema (creation ∷ rest) commits → readable commits ≡ Ok schema
  log_readable commits made =
      let told = log_told commits made in
      rw (log_protocol commits made, told.1, told.2, told.3) refl

  -- A table of a schema is written, unless a field has invariants.
  pub log_writable : (commits : List (List actions.Action)) → AreMadeFor objects schema (creation ∷ rest) commits
      → writable commits ≡ (refused_if (has_key_inside (codes "delta.invariants") schema) (feature (codes "invariants")) >>= λ plain. Ok schema)
  log_writable commits made =
      let told = log_told commits made in
      rw (log_protocol commits made, told.1, told.2, told.3) refl

  -- Its checkpoint is put, unless a field has invariants.
  pub log_checkpointable : (commits : List (List actions.Action)) → AreMadeFor objects schema (creation ∷ rest) commits
      → checkpointable commits ≡ refused_if (has_key_inside (codes "delta.invariants") schema) (feature (codes "invariants"))
  log_checkpointable commits made =
      let told = log_told commits made in
      rw (log_protocol commits made, told.1, told.2, told.3) (by_fields (has_key_inside (codes "delta.invariants") schema))
    where
      by_fields : (barred : Bool) → ((refused_if barred (feature (codes "invariants")) >>= λ plain. Ok schema) >>= λ (schema : Tree). refused_if false (feature (codes "v2Checkpoint"))) ≡ refused_if barred (feature (codes "invariants"))
      by_fields true = refl
      by_fields false = refl

  -- It has a metadata.
  pub log_meta_data : (commits : List (List actions.Action)) → AreMadeFor objects schema (creation ∷ rest) commits → (metadata : MetaDataAction) × (meta_data_of_log commits ≡ Some metadata)
  log_meta_data commits made =
      let told = log_told commits made in
      (told.0, rw told.1 refl)

  -- The schema of a table that is written is the one that its creation tells.
  pub one_writable : (commits : List (List actions.Action)) → AreMadeFor objects schema (creation ∷ rest) commits → (found : Tree) → writable commits ≡ Ok found → found ≡ schema
  one_writable commits made found is = by_fields (has_key_inside (codes "delta.invariants") schema) (rw (log_writable commits made) at is)
    where
      by_fields : (barred : Bool) → (refused_if barred (feature (codes "invariants")) >>= λ plain. Ok schema) ≡ Ok found → found ≡ schema
      by_fields true wrong = absurd cc
      by_fields false same = cc
