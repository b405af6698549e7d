-- What the metadata of a snapshot tells.
use Rattle.std.proofs.Common.{◌≡◌, Bor, Global, IfOk, Option, Some, None, Result, Ok, Err, option_map, sym, ap}
use Rattle.outcomes.specs.Outcome.{Gives}
use Rattle.outcomes.specs.Results.{◌>>=◌}
use Rattle.schema_tree.specs.Schema.{tree_of}
use Rattle.schema_tree.specs.Tree.{Tree}
use Rattle.schema_tree.specs.declared.schema.Schema.{Schema}
use Rattle.delta_actions.specs.Action.{ProtocolAction, meta_data, meta_data_view}
use Rattle.delta_actions.specs.declared.action.MetaData.{MetaData}
use Rattle.delta_replay.specs.Snapshots.{TellsSchema}
use Rattle.delta_replay.specs.Support.{Unsupported, readable_by, readable_protocol, says, schema_told, unless_partitioned}
use Rattle.delta_replay.specs.declared.kept.Snapshot.{Snapshot}
use Rattle.delta_replay.specs.declared.support.SupportError.{SupportError}

-- what is told behind two tests
behind_tests : (version whole : Result (Unit {0}) Unsupported) (told : Result Tree Unsupported) (schema : Tree) → (version >>= λ (v : Unit {0}). whole >>= λ (w : Unit {0}). told) ≡ Ok schema → told ≡ Ok schema
behind_tests (Ok v) (Ok w) told schema read = read
behind_tests (Ok v) (Err fault) told schema read = absurd cc
behind_tests (Err fault) whole told schema read = absurd cc

-- the schema of a table that is read is told by its metadata
told_by : (s : Snapshot) (p : Option ProtocolAction) (found : Option (Bor MetaData)) (schema : Tree) → option_map (λ (m : Bor MetaData). m.now) found ≡ s.meta_data
    → readable_by p (option_map (λ (m : Bor MetaData). meta_data_view m.now) found) ≡ Ok schema → TellsSchema s schema
told_by s None found schema same read = absurd cc
told_by s (Some p) None schema same read = absurd cc
told_by s (Some p) (Some m) schema same read = (
  meta_data_view m.now,
  ap (option_map (λ (kept : MetaData). meta_data (meta_data_view kept))) (sym same),
  behind_tests (readable_protocol p) (unless_partitioned (meta_data_view m.now).partition_columns) (schema_told (meta_data_view m.now)) schema read,
)

pub tells_schema : (s : Snapshot) (p : Option ProtocolAction) (found : Option (Bor MetaData)) (result : Result (Schema Global) SupportError) → option_map (λ (m : Bor MetaData). m.now) found ≡ s.meta_data
    → Gives says tree_of result (readable_by p (option_map (λ (m : Bor MetaData). meta_data_view m.now) found)) → IfOk result (λ schema. TellsSchema s (tree_of schema))
tells_schema s p found (Ok schema) same gives = told_by s p found (tree_of schema) same gives
tells_schema s p found (Err error) same gives = tt
