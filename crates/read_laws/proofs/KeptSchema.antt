-- A read of a table that is kept goes by the table's schema: each commit and each sound checkpoint that tells one tells that.
use Rattle.std.proofs.Common.{◌≡◌, ◌≤◌, ℕ, zero, suc, List, [], ◌∷◌, length, map, take, drop, Bool, true, false, Option, Some, None, IfSome, Result, Ok, Err, refl, sym, ap, subst, ◌∙◌, arith}
use Rattle.std.specs.Prelude.{if◌then◌else◌, min, nat_le, option_and_then}
use Rattle.std.specs.List.{AllByRecursion, filter_map}
use Rattle.std.specs.Option.{option_or}
use Rattle.std.proofs.lemmas.Bool.Decides.{nat_tests}
use Rattle.std.proofs.lemmas.List.{length-take-le}
use Rattle.outcomes.specs.Results.{◌>>=◌, or_refusal, refused_as}
use Rattle.schema_tree.specs.Fault.{Fault}
use Rattle.schema_tree.specs.Reading.{schema_of}
use Rattle.schema_tree.specs.Tree.{Tree}
use Rattle.store_core.specs.Objects.{Objects, names_of}
use Rattle.delta_actions.specs.Action.{Action, MetaDataAction, ProtocolAction}
use Rattle.delta_actions.specs.In.{meta_data_in}
use Rattle.delta_replay.specs.Keys.{Key, at, last}
use Rattle.delta_replay.specs.Support as support
use Rattle.delta_replay.specs.Support.{Unsupported, bad_schema, meta_data_of_log, protocol_of_log, readable, readable_by, readable_protocol, schema_told, unless_partitioned}
use Rattle.table_log.specs.Counts.{commit_count}
use Rattle.table_log.specs.Lists.{first}
use Rattle.table_log.specs.Restoring.{HasSoundCheckpoints, Restored, RestoresWell, checkpoint_in}
use Rattle.table_log.specs.Versions.{Version, commit, commits_in, versions_from, versions_of}
use Rattle.table_log.proofs.Callers.{IsCheckpointFound, checkpoint_leaves, commit_is, found_parts, last_found, one_commit, read_parts, same_values}
use Rattle.log_reading.specs.FromCheckpoints.{CheckpointSchema, first_schema, front_behind, from_version, in_force_at, later_schema, first_read, newest_schema, schema_below, schema_by, schema_of_checkpoint, schema_upto, start_if}
use Rattle.log_reading.specs.InForce.{SchemaText, in_force_from, schema_text_at, schema_text_of, with_schema}
use Rattle.log_reading.proofs.Callers.{meta_data_in_one, schema_parts}
use Rattle.table_model.specs.Table.{Entry, creation, group, close}
use Rattle.table_model.specs.declared.reading.Offset.{Offset}
use Rattle.source_core.specs.TableCommits.{StandFor, without_commit_info}
use Rattle.source_core.specs.Tailing.{ReadRefusal, schema_at, schema_for, unless_none, unsupported, versions_at}
use Rattle.source_core.proofs.Callers.{AreMadeFor, log_readable, some_commits}
use Rattle.read_laws.specs.Kept.{KeepsTable, KeptFrom}
use Rattle.read_laws.proofs.KeptLog.{are_made, made_of}
use Rattle.read_laws.proofs.KeptTail.{no_meta_data, none_of_group, same_meta_data}
use Rattle.read_laws.proofs.KeptVersions.{commits_stand, count_kept, versions_kept}

module _ (schema : Tree) where
  -- what is told, if anything is, is this schema
  abbrev IsOwn : Option SchemaText → Type 0
  IsOwn found = IfSome found (λ told. told.schema ≡ schema)

  -- so it is with each of these versions
  abbrev TellOwn : List Version → Type 0
  TellOwn versions = AllByRecursion (λ version. IsOwn (schema_text_at version)) versions

  -- ---- the schema in force

  -- either of two that are told
  or_own : (one other : Option SchemaText) → IsOwn one → IsOwn other → IsOwn (option_or one other)
  or_own None other own others = others
  or_own (Some told) other own others = own

  -- all that these versions tell, and so the first and the last of it
  all_own : (versions : List Version) → TellOwn versions → AllByRecursion (λ told. told.schema ≡ schema) (filter_map schema_text_at versions)
  all_own [] own = tt
  all_own (found ∷ more) own = by_found (schema_text_at found) refl own.0 (all_own more own.1)
    where
      by_found : (told : Option SchemaText) → schema_text_at found ≡ told → IsOwn told → AllByRecursion (λ told. told.schema ≡ schema) (filter_map schema_text_at more)
          → AllByRecursion (λ told. told.schema ≡ schema) (filter_map schema_text_at (found ∷ more))
      by_found None e is later = rw e later
      by_found (Some told) e is later = rw e (is, later)

  first_own : (tell : List SchemaText) → AllByRecursion (λ told. told.schema ≡ schema) tell → IsOwn (first tell)
  first_own [] own = tt
  first_own (told ∷ tell) own = own.0

  last_own : (tell : List SchemaText) → AllByRecursion (λ told. told.schema ≡ schema) tell → IsOwn (last tell)
  last_own [] own = tt
  last_own (told ∷ []) own = own.0
  last_own (told ∷ other ∷ tell) own = last_own (other ∷ tell) own.1

  -- the first of the versions, those behind them, and those that are looked at
  take_own : (n : ℕ) (versions : List Version) → TellOwn versions → TellOwn (take n versions)
  take_own zero versions own = tt
  take_own (suc n) [] own = tt
  take_own (suc n) (found ∷ more) own = (own.0, take_own n more own.1)

  drop_own : (n : ℕ) (versions : List Version) → TellOwn versions → TellOwn (drop n versions)
  drop_own zero versions own = own
  drop_own (suc n) [] own = tt
  drop_own (suc n) (found ∷ more) own = drop_own n more own.1

  from_own : (n : ℕ) (versions : List Version) → TellOwn versions → TellOwn (from_version n versions)
  from_own zero versions own = own
  from_own (suc n) [] own = tt
  from_own (suc n) (found ∷ more) own = (tt, from_own n more own.1)

  -- so the schema in force is this one
  force_own : (front : Option SchemaText) (version : ℕ) (versions : List Version) → IsOwn front → TellOwn versions → IsOwn (in_force_from front version versions)
  force_own front version versions is own =
      let upto = take (suc version) versions in
      let behind = drop (suc version) versions in
      or_own _ _ (or_own _ _ (last_own (filter_map schema_text_at upto) (all_own upto (take_own (suc version) versions own))) is)
      (first_own (filter_map schema_text_at behind) (all_own behind (drop_own (suc version) versions own)))

  -- also where a checkpoint tells one
  in_force_own : (version : ℕ) (found : Option CheckpointSchema) (versions : List Version) → IfSome found (λ s. IsOwn (schema_of_checkpoint s)) → TellOwn versions → IsOwn (in_force_at version found versions)
  in_force_own version None versions is own = force_own None version versions tt own
  in_force_own version (Some s) versions is own = by_order (nat_le s.version version)
    where
      by_order : (b : Bool) → IsOwn (if b then in_force_from (schema_of_checkpoint s) version versions else option_or (in_force_from None version (take (suc s.version) versions)) (schema_of_checkpoint s))
      by_order true = force_own (schema_of_checkpoint s) version versions is own
      by_order false = or_own _ _ (force_own None version (take (suc s.version) versions) tt (take_own (suc s.version) versions own)) is

  -- ---- what commits tell

  -- the commit of an entry
  one_tells : (entry : Entry) (made : List Action) → StandFor schema entry (without_commit_info made) → IsOwn (schema_text_at (commit made))
  one_tells entry made stand = rw (same_meta_data made) (beside_tells entry (without_commit_info made) stand)
    where
      beside_tells : (e : Entry) (beside : List Action) → StandFor schema e beside → IsOwn (schema_text_of (last (filter_map meta_data_in beside)))
      beside_tells creation beside stand = rw (stand.actions, stand.schema_string) refl
      beside_tells (group bs) beside stand = rw (none_of_group meta_data_in no_meta_data beside stand.only) tt
      beside_tells (close application) beside stand = rw stand.actions tt

  -- those of several
  all_tell : (objects : Objects) (entries : List Entry) (commits : List (List Action)) → AreMadeFor objects schema entries commits → TellOwn (map commit commits)
  all_tell objects [] [] made = tt
  all_tell objects [] (one ∷ commits) made = absurd made
  all_tell objects (entry ∷ entries) [] made = absurd made
  all_tell objects (entry ∷ entries) (one ∷ commits) made = (one_tells entry one made.0, all_tell objects entries commits made.2)

  -- the metadata of a table that is read by this schema
  read_own : (protocol : Option ProtocolAction) (metadata : Option MetaDataAction) → readable_by protocol metadata ≡ Ok schema → IsOwn (schema_text_of metadata)
  read_own protocol None is = tt
  read_own None (Some m) is = absurd cc
  read_own (Some p) (Some m) is = by_protocol (readable_protocol p) is
    where
      by_schema : (read : Result Tree Fault) → refused_as bad_schema read ≡ Ok schema → IsOwn (with_schema m.schema_string read)
      by_schema (Err fault) is = tt
      by_schema (Ok read) is = let same : read ≡ schema = cc in same

      by_columns : (whole : Result (Unit {0}) Unsupported) → (whole >>= λ whole. schema_told m) ≡ Ok schema → IsOwn (with_schema m.schema_string (schema_of m.schema_string))
      by_columns (Err wrong) is = absurd cc
      by_columns (Ok whole) is = by_schema (schema_of m.schema_string) is

      by_protocol : (version : Result (Unit {0}) Unsupported) → (version >>= λ version. unless_partitioned m.partition_columns >>= λ whole. schema_told m) ≡ Ok schema → IsOwn (with_schema m.schema_string (schema_of m.schema_string))
      by_protocol (Err wrong) is = absurd cc
      by_protocol (Ok version) is = by_columns (unless_partitioned m.partition_columns) is

-- ---- what checkpoints tell

-- of entries that are kept the first ones are
front_kept : (objects : Objects) (schema : Tree) (n version : ℕ) (entries : List Entry) → KeptFrom objects schema version entries → KeptFrom objects schema version (take n entries)
front_kept objects schema zero version entries kept = tt
front_kept objects schema (suc n) version [] kept = tt
front_kept objects schema (suc n) version (entry ∷ entries) kept = (kept.0, kept.1, front_kept objects schema n (suc version) entries kept.2)

-- so a table's first commits are read by its schema
front_read : (objects : Objects) (schema : Tree) (rest : List Entry) → KeptFrom objects schema 0 (creation ∷ rest) → (version : ℕ) → version ≤ length rest → (log : List (List Action))
    → commits_in 0 (versions_from (suc version) 0 objects) ≡ Ok log → readable log ≡ Ok schema
front_read objects schema rest kept version within log read =
    let entries : List Entry = creation ∷ take version rest in
    let front : KeptFrom objects schema 0 entries = front_kept objects schema (suc version) 0 (creation ∷ rest) kept in
    let made = made_of objects schema 0 entries front in
    let long : length (take version rest) ≡ version = length-take-le version rest within in
    let stand : versions_from (suc version) 0 objects ≡ map commit made = ap (λ (n : ℕ). versions_from (suc n) 0 objects) (sym long) ∙ commits_stand objects schema 0 entries front in
    let whole : Ok made ≡ Ok log = sym (some_commits made (omega arith)) ∙ ap (commits_in 0) (sym stand) ∙ read in
    let same : log ≡ made = cc in
    ap readable same ∙ log_readable objects schema (take version rest) made (are_made objects schema 0 entries front)

module _ (objects : Objects) (schema : Tree) (entries : List Entry) (keeps : KeepsTable objects schema entries) where
  module _ (well : HasSoundCheckpoints objects) where
    -- and so is each sound checkpoint of them
    checkpoint_read : (bound : ℕ) (name : List ℕ) (r : Restored) → bound ≤ commit_count objects → IsCheckpointFound bound objects name r → readable (r.actions ∷ []) ≡ Ok schema
    checkpoint_read bound name r short found =
        let sound = well name r.version found.bytes found.told found.stands (r.actions, found.reads) in
        let lines = commit_is found.bytes r.actions (read_parts found.bytes r.version r.actions found.reads).0 in
        let own : r.actions ≡ sound.checkpoint.actions = one_commit found.bytes r.actions sound.checkpoint.actions lines sound.checkpoint.lines in
        let leaves : (key : Key) → at key (r.actions ∷ []) ≡ at key sound.commits =
        λ key. ap (λ (actions : List Action). at key (actions ∷ [])) own ∙ checkpoint_leaves found.bytes r.version sound.commits sound.checkpoint key in
        let kept : KeptFrom objects schema 0 (creation ∷ keeps.rest) = subst (KeptFrom objects schema 0) keeps.begins keeps.kept in
        let many : commit_count objects ≡ suc (length keeps.rest) = count_kept objects schema entries keeps ∙ ap length keeps.begins in
        (same_values (r.actions ∷ []) sound.commits leaves).read ∙ front_read objects schema keeps.rest kept r.version (omega (arith, found.below, short, many)) sound.commits sound.stand

    -- so the schema that one tells is the table's
    below_own : (bound : ℕ) (name : List ℕ) (s : CheckpointSchema) → bound ≤ commit_count objects → schema_below bound objects name ≡ Some s → IsOwn schema (schema_of_checkpoint s)
    below_own bound name s short is = by_found (checkpoint_in bound objects name) refl is
      where
        by_found : (found : Option Restored) → checkpoint_in bound objects name ≡ found → option_and_then schema_by found ≡ Some s → IsOwn schema (schema_of_checkpoint s)
        by_found None e at = absurd cc
        by_found (Some r) e at =
            let parts = schema_parts r s at in
            let read = checkpoint_read bound name r short (found_parts bound objects name r e) in
            let own : IsOwn schema (schema_text_at (commit r.actions)) =
            subst (λ (m : Option MetaDataAction). IsOwn schema (schema_text_of m)) (meta_data_in_one r.actions) (read_own schema (protocol_of_log (r.actions ∷ [])) (meta_data_of_log (r.actions ∷ [])) read) in
            subst (IsOwn schema) (parts.tells ∙ sym parts.reads) own

    -- that of the newest one up to a version
    upto_own : (version : ℕ) → IfSome (schema_upto version objects) (λ s. IsOwn schema (schema_of_checkpoint s))
    unfolding newest_schema
    upto_own version = by_found (schema_upto version objects) refl
      where
        by_found : (told : Option CheckpointSchema) → schema_upto version objects ≡ told → IfSome told (λ s. IsOwn schema (schema_of_checkpoint s))
        by_found None e = tt
        by_found (Some s) e =
            let found = last_found (schema_below (min (suc version) (commit_count objects)) objects) (names_of objects) s e in
            below_own (min (suc version) (commit_count objects)) found.0 s (grind (arith, nat_tests)) found.1

    -- or of the first one behind it
    either_own : (version : ℕ) → IfSome (option_or (schema_upto version objects) (later_schema version objects)) (λ s. IsOwn schema (schema_of_checkpoint s))
    either_own version = by_upto (schema_upto version objects) (upto_own version)
      where
        by_later : (one : Option CheckpointSchema) → IfSome (option_and_then (λ (later : CheckpointSchema). schema_upto later.version objects) one) (λ s. IsOwn schema (schema_of_checkpoint s))
        by_later None = tt
        by_later (Some later) = upto_own later.version

        by_upto : (one : Option CheckpointSchema) → IfSome one (λ s. IsOwn schema (schema_of_checkpoint s)) → IfSome (option_or one (later_schema version objects)) (λ s. IsOwn schema (schema_of_checkpoint s))
        by_upto None own = by_later (first_schema version objects)
        by_upto (Some s) own = own

  -- ---- a read

  -- the schema that a read starts with
  start_own : (use_checkpoints : Bool) (version : ℕ) → RestoresWell use_checkpoints objects → IfSome (start_if use_checkpoints version objects).schema (λ s. IsOwn schema (schema_of_checkpoint s))
  start_own false version well = tt
  start_own true version well = either_own (well refl) version

  -- the versions that it looks at
  looked_own : (use_checkpoints : Bool) (place : Offset) → TellOwn schema (versions_at use_checkpoints objects place)
  looked_own use_checkpoints place =
      let all : TellOwn schema (versions_of objects) =
      subst (TellOwn schema) (sym (versions_kept objects schema entries keeps)) (all_tell schema objects entries (made_of objects schema 0 entries keeps.kept) (are_made objects schema 0 entries keeps.kept)) in
      from_own schema (first_read place.version (start_if use_checkpoints place.version objects)) (versions_of objects) all

  -- The schema that a read of the table goes by is the table's, from sound checkpoints too.
  pub schema_kept : (use_checkpoints : Bool) (place : Offset) (told : SchemaText) → RestoresWell use_checkpoints objects → schema_at use_checkpoints objects place ≡ Ok told → told.schema ≡ schema
  unfolding schema_for
  schema_kept use_checkpoints place told well is =
      let start = start_if use_checkpoints place.version objects in
      let versions = versions_at use_checkpoints objects place in
      let force : in_force_at place.version start.schema versions ≡ Some told = by_all (unless_none versions) (refused_as unsupported (readable (front_behind start.newest versions))) (in_force_at place.version start.schema versions) is in
      subst (IsOwn schema) force (in_force_own schema place.version start.schema versions (start_own use_checkpoints place.version well) (looked_own use_checkpoints place))
    where
      by_all : (some : Result (Unit {0}) ReadRefusal) (read : Result Tree ReadRefusal) (found : Option SchemaText)
          → (some >>= λ some. read >>= λ read. or_refusal found (unsupported support.no_meta_data)) ≡ Ok told → found ≡ Some told
      by_all (Err wrong) read found is = absurd cc
      by_all (Ok some) (Err wrong) found is = absurd cc
      by_all (Ok some) (Ok read) None is = absurd cc
      by_all (Ok some) (Ok read) (Some found) is = let same : found ≡ told = cc in ap Some same
