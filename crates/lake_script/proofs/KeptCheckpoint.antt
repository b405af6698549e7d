-- A checkpoint over a store that keeps a table: what it is told, and that the store goes on to keep the table.
use Rattle.std.proofs.Common.{◌≡◌, ℕ, ◌-◌, Bool, true, false, List, [], ◌∷◌, length, Option, Some, None, Result, Ok, Err, refl, sym, ap, subst, ◌∙◌, if◌then◌else◌}
use Rattle.std.specs.Prelude.{codes, is_some, nat_lt}
use Rattle.schema_tree.specs.Tree.{Tree}
use Rattle.store_core.specs.Objects.{Objects, with_object}
use Rattle.delta_actions.specs.Action as actions
use Rattle.delta_checkpoint.specs.Names.{IsCheckpointName, checkpoint_name}
use Rattle.delta_replay.specs.Support.{feature, has_key_inside, meta_data_of_log}
use Rattle.outcomes.specs.Results.{◌>>=◌, refused_as, refused_if}
use Rattle.table_model.specs.Table.{Entry, creation}
use Rattle.commit_core.specs.Texts.{refused}
use Rattle.snapshot_core.specs.Faults.{bad_log, unsupported}
use Rattle.snapshot_core.specs.Taking.{most_checkpoint_bytes}
use Rattle.lake_script.specs.Checkpoints.{Checkpoint, NotPut, by_log, too_large, checkpoint_by_bytes, checkpoint_for, checkpoint_reply, checkpointed_at, not_put_text, with_checkpoint, IsWellPut}
use Rattle.script_lines.specs.Lines.{checkpoint, task}
use Rattle.lake_script.specs.Sound.{IsSoundStatement}
use Rattle.lake_script.specs.Tables as tables
use Rattle.lake_script.specs.Tables.{TableState, nothing, table}
use Rattle.lake_script.specs.Told as told
use Rattle.lake_script.specs.Keeps.{HasNoOther, Keeps}
use Rattle.commit_core.proofs.Callers.{AreMadeFor}
use Rattle.read_laws.proofs.Callers.{made_of, are_made, count_kept, log_kept}
use Rattle.commit_core.proofs.Callers.{log_checkpointable, log_meta_data, log_of_nothing}
use Rattle.lake_script.proofs.KeptPuts.{kept_checkpoint, same_files}
use Rattle.outcomes.specs.Lines.{with_newline}

-- a store of nothing has no checkpoint
over_nothing : (bytes : List ℕ) → checkpoint_by_bytes [] bytes ≡ Err (by_log (bad_log 0))
over_nothing bytes = rw log_of_nothing refl

-- a checkpoint that is put is no data file
no_other : (objects : Objects) (entries : List Entry) (version : ℕ) (name bytes : List ℕ) → IsCheckpointName version name → HasNoOther objects entries → HasNoOther (with_object objects name bytes) entries
no_other objects entries version name bytes named own = λ application number utf8 small some.
    own application number utf8 small (ap is_some (sym (same_files objects version name bytes named application number)) ∙ some)

module _ (objects : Objects) (schema : Tree) (entries : List Entry) (keeps : Keeps objects (table schema entries)) (bytes : List ℕ) where
  -- the commits that were made for the entries
  abbrev commits : List (List actions.Action)
  commits = made_of objects schema 0 entries keeps.0.kept

  made : AreMadeFor objects schema (creation ∷ keeps.0.rest) commits
  made = subst (λ (es : List Entry). AreMadeFor objects schema es commits) keeps.0.begins (are_made objects schema 0 entries keeps.0.kept)

  -- what is put, by whether a field has invariants and the bytes pass the limit
  abbrev put_by : (barred over : Bool) → Result Checkpoint NotPut
  put_by barred over =
      refused_as by_log (refused_as unsupported (refused_if barred (feature (codes "invariants"))) >>= λ fine. Ok commits) >>= λ (found : List (List actions.Action)).
      refused_if over too_large >>= λ fits. checkpoint_for (length entries - 1) (meta_data_of_log found)

  put_is : checkpoint_by_bytes objects bytes ≡ put_by (has_key_inside (codes "delta.invariants") schema) (nat_lt most_checkpoint_bytes (length bytes))
  put_is = rw (log_kept objects schema entries keeps.0, log_checkpointable objects schema keeps.0.rest commits made, count_kept objects schema entries keeps.0) refl

  -- what it is told, and what is kept behind it
  abbrev IsAsTold : (barred : Bool) → Result Checkpoint NotPut → Type 0
  IsAsTold barred put =
      (checkpoint_reply put
      ≡ (if barred then with_newline (refused (not_put_text (by_log (unsupported (feature (codes "invariants")))))) else with_newline (checkpointed_at (length entries - 1))))
      × Keeps (with_checkpoint objects bytes put) (table schema entries)

  by_metadata : (metadata : actions.MetaDataAction) (found : Option actions.MetaDataAction) → found ≡ Some metadata → IsWellPut (checkpoint_for (length entries - 1) found) → IsAsTold false (checkpoint_for (length entries - 1) found)
  by_metadata metadata None is well = absurd cc
  by_metadata metadata (Some m) is well =
      let version = length entries - 1 in
      let name = checkpoint_name version m.id in
      (refl, (kept_checkpoint objects version name bytes well schema entries keeps.0, no_other objects entries version name bytes well keeps.1))

  by_tests : (barred over : Bool) → IsWellPut (put_by barred over) → IsAsTold barred (put_by barred over)
  by_tests true over well = (refl, keeps)
  by_tests false true well = absurd well
  by_tests false false well =
      let metadata = log_meta_data objects schema keeps.0.rest commits made in
      by_metadata metadata.0 (meta_data_of_log commits) metadata.1 well

  -- a checkpoint over a table
  over_table : IsWellPut (checkpoint_by_bytes objects bytes) → IsAsTold (has_key_inside (codes "delta.invariants") schema) (checkpoint_by_bytes objects bytes)
  over_table well = rw put_is (by_tests (has_key_inside (codes "delta.invariants") schema) (nat_lt most_checkpoint_bytes (length bytes)) (rw put_is at well))

-- A checkpoint is told as by the table, and the store goes on to keep it.
pub checkpoint_told : (objects : Objects) (state : TableState) (printed : List ℕ) → Keeps objects state → IsSoundStatement objects (task checkpoint) printed
    → (told.reply_to_statement objects (task checkpoint) printed ≡ tables.table_reply_to_statement state (task checkpoint))
    × Keeps (told.left_by_statement objects (task checkpoint) printed) (tables.table_left_by_statement state (task checkpoint))
checkpoint_told objects nothing printed keeps sound = rw keeps (rw (over_nothing printed) (refl, refl))
checkpoint_told objects (table schema entries) printed keeps sound = over_table objects schema entries keeps printed sound
