-- A read of the front of a log that hands out all that it was to is one of the whole log.
use Rattle.std.proofs.Common.{◌≡◌, ◌∙◌, ◌<◌, ◌≤◌, ◌+◌, ℕ, zero, suc, List, [], ◌∷◌, length, Option, Some, None, Result, Ok, Err, refl, sym, ap, subst, arith}
use Rattle.std.specs.Prelude.{Bool, false, if◌then◌else◌, min, nat_le, slice_get, take, true, IsSome}
use Rattle.std.proofs.lemmas.Bool.Decides.{nat_tests}
use Rattle.store_core.specs.Objects.{Objects, IsInOrder, object_at}
use Rattle.store_core.specs.Names.{commit_name}
use Rattle.delta_actions.specs.Action.{Action}
use Rattle.delta_replay.specs.Support.{Unsupported, no_meta_data, readable}
use Rattle.schema_tree.specs.Tree.{Tree}
use Rattle.table_model.specs.declared.reading.Offset.{Offset}
use Rattle.table_log.specs.Counts.{commit_count}
use Rattle.table_log.specs.Restoring.{Restored}
use Rattle.table_log.specs.Versions.{Version, commit_of, missing, version_at, version_by, version_read, versions_from, versions_of}
use Rattle.table_log.proofs.Callers.{versions_long}
use Rattle.log_reading.specs.FromCheckpoints.{CheckpointSchema, Start, first_behind, first_read, from_version, front_behind, in_force_at, start_at}
use Rattle.log_reading.specs.InForce.{SchemaText}
use Rattle.log_reading.specs.Reads.{first_standing}
use Rattle.source_core.specs.SourceSessions.{read_told}
use Rattle.source_core.specs.Tailing.{ReadRefusal, ReadRows, handed_by, schema_at, schema_for, unless_none, unsupported, versions_at}
use Rattle.source_core.proofs.LookedReads.{handed_alike}
use Rattle.source_core.proofs.LookedSchemas.{none_alike}
use Rattle.outcomes.specs.Results.{◌>>=◌, or_refusal, refused_as}
use Rattle.front_reads.specs.Fronts.{IsFrontBehind, front_of_log}
use Rattle.front_reads.proofs.FrontForce.{behind_same, first_upto, in_force_front, looked_front}
use Rattle.front_reads.proofs.FrontHanding.{first_low, handed_front}
use Rattle.front_reads.proofs.FrontNames.{object_whole}
use Rattle.front_reads.proofs.FrontStarts.{looked_same, schemas}

-- ---- which versions stand

-- what stands at each of the versions
got_from : (left from : ℕ) (objects : Objects) (i : ℕ) → i < left → slice_get (versions_from left from objects) i ≡ Some (version_at objects (from + i))
unfolding versions_from
got_from zero from objects i lt = absurd (omega (arith, lt))
got_from (suc left) from objects zero lt = ap (λ (v : ℕ). Some (version_at objects v)) (omega arith)
got_from (suc left) from objects (suc i) lt = got_from left (from + 1) objects i (omega (arith, lt)) ∙ ap (λ (v : ℕ). Some (version_at objects v)) (omega arith)

-- a commit that stands isn't missing
not_missing : (found : Option (List ℕ)) → IsSome found → version_by found ≡ missing → ⊥
not_missing None stands is = absurd cc
not_missing (Some bytes) stands is = by_read (commit_of bytes) is
  where
    by_read : (read : Option (List Action)) → version_read read ≡ missing → ⊥
    by_read None e = cc
    by_read (Some actions) e = cc

-- none is missing from the first version on from which all stand
stands_low : (objects : Objects) (version : ℕ) → ((other : ℕ) → version ≤ other → other < commit_count objects → IsSome (object_at objects (commit_name other))) → first_standing (versions_of objects) ≤ version
stands_low objects version stand = first_low version (versions_of objects) (λ i le lt missed.
    let short : i < commit_count objects = subst (λ (n : ℕ). i < n) (versions_long (commit_count objects) 0 objects) lt in
    let there : Some (version_at objects i) ≡ Some missing = sym (got_from (commit_count objects) 0 objects i short ∙ ap (λ (v : ℕ). Some (version_at objects v)) (omega arith)) ∙ missed in
    not_missing (object_at objects (commit_name i)) (stand i le short) cc)

-- ---- how a read begins

-- what a read that begins has found
record Begins (start : Start) (versions : List Version) (offset : Offset) (told : SchemaText) : Type 0 where
  read : Tree
  reads : readable (front_behind start.newest versions) ≡ Ok read
  force : in_force_at offset.version start.schema versions ≡ Some told

begun : (start : Start) (versions : List Version) (offset : Offset) (told : SchemaText) → schema_for start versions offset ≡ Ok told → Begins start versions offset told
unfolding schema_for
begun start versions offset told is = by_none (unless_none versions) is
  where
    by_force : (read : Tree) → readable (front_behind start.newest versions) ≡ Ok read → (found : Option SchemaText) → in_force_at offset.version start.schema versions ≡ found → or_refusal found (unsupported no_meta_data) ≡ Ok told → Begins start versions offset told
    by_force read e None f is = absurd cc
    by_force read e (Some one) f is = record { read = read; reads = e; force = f ∙ cc }

    by_read : (found : Result Tree Unsupported) → readable (front_behind start.newest versions) ≡ found
        → (refused_as unsupported found >>= λ read. or_refusal (in_force_at offset.version start.schema versions) (unsupported no_meta_data)) ≡ Ok told → Begins start versions offset told
    by_read (Err fault) e is = absurd cc
    by_read (Ok read) e is = by_force read e (in_force_at offset.version start.schema versions) refl is

    by_none : (some : Result (Unit {0}) ReadRefusal)
        → (some >>= λ some. refused_as unsupported (readable (front_behind start.newest versions)) >>= λ read. or_refusal (in_force_at offset.version start.schema versions) (unsupported no_meta_data)) ≡ Ok told → Begins start versions offset told
    by_none (Err refusal) is = absurd cc
    by_none (Ok some) is = by_read (readable (front_behind start.newest versions)) refl is

-- and a read begins by it
begins : (start : Start) (versions : List Version) (offset : Offset) (told : SchemaText) → unless_none versions ≡ Ok tt → Begins start versions offset told → schema_for start versions offset ≡ Ok told
unfolding schema_for
begins start versions offset told some b = rw (some, b.reads, b.force) refl

-- the commits by which it is tested whether a table is read are the same wherever a read begins
behind_alike : (version : ℕ) (newest : Option Restored) (schema : Option CheckpointSchema) (versions : List Version) → front_behind newest (from_version (first_behind version newest schema) versions) ≡ front_behind newest versions
behind_alike version None schema versions = refl
behind_alike version (Some r) schema versions = behind_same r (first_behind version (Some r) schema) versions (first_upto version r schema)

-- a log has a version where it has one at some place
has_some : (versions : List Version) → 0 < length versions → unless_none versions ≡ Ok tt
has_some [] long = absurd (omega (arith, long))
has_some (version ∷ versions) long = refl

-- ---- the whole read

-- what is looked at first isn't behind the read's version
first_low_enough : (version : ℕ) (newest : Option Restored) (schema : Option CheckpointSchema) → first_behind version newest schema ≤ version
first_low_enough version None schema = omega arith
first_low_enough version (Some r) None = omega arith
first_low_enough version (Some r) (Some s) = by_test (nat_le s.version version) refl
  where
    by_test : (b : Bool) → nat_le s.version version ≡ b → (if b then min (suc r.version) s.version else 0) ≤ version
    by_test true e = grind (arith, nat_tests, e)
    by_test false e = omega arith

-- what a read told, taken apart
record Tells (objects : Objects) (max : ℕ) (offset : Offset) (told : Tree × ReadRows) : Type 0 where
  schema : SchemaText
  goes : schema_at true objects offset ≡ Ok schema
  hands : handed_by objects schema (versions_at true objects offset) max offset ≡ Ok told.1
  same : schema.schema ≡ told.0

tells : (objects : Objects) (max : ℕ) (offset : Offset) (known : List ℕ) (told : Tree × ReadRows) → read_told (record { place = offset; max = max; use_checkpoints = true; known = known }) objects ≡ Ok told → Tells objects max offset told
tells objects max offset known told is = by_schema (schema_at true objects offset) refl is
  where
    by_handed : (schema : SchemaText) → schema_at true objects offset ≡ Ok schema → (handed : Result ReadRows ReadRefusal) → handed_by objects schema (versions_at true objects offset) max offset ≡ handed
        → (handed >>= λ rows. Ok (schema.schema, rows)) ≡ Ok told → Tells objects max offset told
    by_handed schema e (Err refusal) h is = absurd cc
    by_handed schema e (Ok rows) h is = record { schema = schema; goes = e; hands = h ∙ cc; same = cc }

    by_schema : (found : Result SchemaText ReadRefusal) → schema_at true objects offset ≡ found
        → (found >>= λ schema. handed_by objects schema (versions_at true objects offset) max offset >>= λ rows. Ok (schema.schema, rows)) ≡ Ok told → Tells objects max offset told
    by_schema (Err refusal) e is = absurd cc
    by_schema (Ok schema) e is = by_handed schema e (handed_by objects schema (versions_at true objects offset) max offset) refl is

module _ (objects : Objects) (front max : ℕ) (offset : Offset) (rises : IsInOrder objects) (is : IsFrontBehind objects offset.version front) where
  -- the schema of the front is that of the whole, where the whole table is read
  schema_whole : (end : Offset) (any told : SchemaText) → schema_at true objects end ≡ Ok any → schema_at true (front_of_log front objects) offset ≡ Ok told → schema_at true objects offset ≡ Ok told
  schema_whole end any told ends goes =
      let one = begun (start_at end.version objects) (versions_at true objects end) end any ends in
      let ahead = begun (start_at offset.version (front_of_log front objects)) (versions_at true (front_of_log front objects) offset) offset told goes in
      let behind = is.behind in
      let within = is.within in
      let long : 0 < length (versions_of objects) = subst (λ (n : ℕ). 0 < n) (sym (versions_long (commit_count objects) 0 objects)) (omega (arith, behind, within)) in
      begins (start_at offset.version objects) (versions_at true objects offset) offset told
      (none_alike (first_read offset.version (start_at offset.version objects)) (versions_of objects) ∙ has_some (versions_of objects) long)
      (record {
        read = one.read;
        reads = ap readable (behind_alike offset.version (start_at offset.version objects).newest (start_at offset.version objects).schema (versions_of objects)
            ∙ sym (behind_alike end.version (start_at offset.version objects).newest (start_at end.version objects).schema (versions_of objects))) ∙ one.reads;
        force = in_force_front front offset.version (start_at offset.version (front_of_log front objects)).schema (start_at offset.version objects).schema (versions_at true objects offset) told is.behind
            (schemas offset.version front objects rises is) (ap (in_force_at offset.version (start_at offset.version (front_of_log front objects)).schema) (sym (looked_same offset.version front objects rises is)) ∙ ahead.force);
      })

  -- So what the front hands out is what the whole log does, where that is all that was wanted.
  pub read_whole : (end : Offset) (known others : List ℕ) (any told : Tree × ReadRows) → 0 < max → read_told (record { place = end; max = 0; use_checkpoints = true; known = others }) objects ≡ Ok any
      → read_told (record { place = offset; max = max; use_checkpoints = true; known = known }) (front_of_log front objects) ≡ Ok told → length told.1.rows ≡ max
      → read_told (record { place = offset; max = max; use_checkpoints = true; known = known }) objects ≡ Ok told
  read_whole end known others any told some ends goes all =
      let one = tells objects 0 end others any ends in
      let ahead = tells (front_of_log front objects) max offset known told goes in
      let whole = schema_whole end one.schema ahead.schema one.goes ahead.goes in
      let first = first_read offset.version (start_at offset.version objects) in
      let low = first_low_enough offset.version (start_at offset.version objects).newest (start_at offset.version objects).schema in
      let looked : versions_at true (front_of_log front objects) offset ≡ from_version first (take front (versions_of objects)) = looked_same offset.version front objects rises is ∙ sym (looked_front front first (versions_of objects)) in
      let handed : handed_by (front_of_log front objects) ahead.schema (take front (versions_of objects)) max offset ≡ Ok told.1 =
      sym (handed_alike (front_of_log front objects) ahead.schema first (take front (versions_of objects)) max offset low)
      ∙ (ap (λ (versions : List Version). handed_by (front_of_log front objects) ahead.schema versions max offset) (sym looked) ∙ ahead.hands) in
      let within : front ≤ length (versions_of objects) = subst (λ (n : ℕ). front ≤ n) (sym (versions_long (commit_count objects) 0 objects)) is.within in
      let hands : handed_by objects ahead.schema (versions_at true objects offset) max offset ≡ Ok told.1 =
      handed_alike objects ahead.schema first (versions_of objects) max offset low
      ∙ handed_front (front_of_log front objects) objects (object_whole front objects) ahead.schema (versions_of objects) front max offset told.1 is.behind within (stands_low objects offset.version is.stand) some handed all in
      rw (whole, hands) (ap (λ (schema : Tree). Ok (schema, told.1)) ahead.same)
