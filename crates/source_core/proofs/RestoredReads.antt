-- Where checkpoints are sound, a read from one on hands out what a read of all commits does.
use Rattle.std.proofs.Common.{◌≡◌, ◌≤◌, ◌+◌, ℕ, zero, suc, List, [], ◌∷◌, ◌++◌, length, map, take, drop, Bool, true, false, Option, Some, None, refl, sym, ap, ◌∙◌, arith}
use Rattle.std.specs.Prelude.{Result, Ok, Err, if◌then◌else◌, min, nat_le, option_and_then}
use Rattle.std.specs.Option.{option_or}
use Rattle.std.proofs.lemmas.Bool.Decides.{nat_tests}
use Rattle.std.proofs.lemmas.List.{length-map, take-append-drop}
use Rattle.delta_actions.specs.Action.{Action}
use Rattle.delta_checkpoint.proofs.Restored.{checkpoint_leaves, one_commit}
use Rattle.delta_replay.specs.Keys.{Key, at}
use Rattle.delta_replay.specs.Support.{readable}
use Rattle.outcomes.specs.Results.{◌>>=◌, or_refusal}
use Rattle.store_core.specs.Objects.{Objects, names_of}
use Rattle.table_log.specs.Counts.{commit_count}
use Rattle.log_reading.specs.FromCheckpoints.{CheckpointSchema, Start, first_behind, first_read, first_schema, from_version, front_behind, in_force_at, later_schema, looked_at, newest_schema, no_start, schema_below, schema_by, schema_upto, start_at}
use Rattle.log_reading.specs.InForce.{SchemaText, in_force, in_force_from}
use Rattle.log_reading.specs.Reads.{front}
use Rattle.table_log.specs.Restoring.{HasSoundCheckpoints, Restored, RestoresWell, checkpoint_in, restored}
use Rattle.table_log.specs.Versions.{Version, missing, unreadable, commit, commits_in, version_at, versions_from, versions_of}
use Rattle.table_log.proofs.Callers.{IsCheckpointFound, commit_is, found_parts, last_found, newest_found, read_parts, versions_long}
use Rattle.log_reading.proofs.Callers.{SchemaParts, schema_parts}
use Rattle.table_model.specs.declared.reading.Offset.{Offset}
use Rattle.log_offsets.specs.Offsets.{offset_of}
use Rattle.log_rows.specs.Tailing.{ReadRows, ReadRefusal, bad_offset, handed_by, read_by, schema_at, schema_for, versions_at}
use Rattle.source_core.specs.TailTexts.{handed_text, tailed}
use Rattle.source_core.proofs.LookedReads.{handed_alike}
use Rattle.source_core.proofs.LookedSchemas.{force_earlier, force_later, front_alike, none_alike}

-- ---- a log's first commits

-- so many of its versions
take_from : (n m from : ℕ) (objects : Objects) → n ≤ m → take n (versions_from m from objects) ≡ versions_from n from objects
unfolding versions_from
take_from zero m from objects le = refl
take_from (suc n) zero from objects le = absurd (omega (arith, le))
take_from (suc n) (suc m) from objects le = ap (λ (rest : List Version). version_at objects from ∷ rest) (take_from n m (from + 1) objects (omega (arith, le)))

-- versions that are read are commits
are_commits : (version : ℕ) (found : List Version) (commits : List (List Action)) → commits_in version found ≡ Ok commits → found ≡ map commit commits
are_commits version [] commits is = let none : [] ≡ commits = cc in ap (map commit) none
are_commits version (missing ∷ more) commits is = absurd cc
are_commits version (unreadable ∷ more) commits is = absurd cc
are_commits version (commit actions ∷ more) commits is = by_rest (commits_in (suc version) more) refl (are_commits (suc version) more) is
  where
    by_rest : (rest : Result (List (List Action)) ℕ) → commits_in (suc version) more ≡ rest → ((others : List (List Action)) → commits_in (suc version) more ≡ Ok others → more ≡ map commit others)
        → (rest >>= λ (others : List (List Action)). Ok (actions ∷ others)) ≡ Ok commits → commit actions ∷ more ≡ map commit commits
    by_rest (Err wrong) read later at = absurd cc
    by_rest (Ok others) read later at =
        let own : actions ∷ others ≡ commits = cc in
        ap (λ (rest : List Version). commit actions ∷ rest) (later others read) ∙ ap (map commit) own

-- A checkpoint is one of a log's first commits.
record IsOfFirst (objects : Objects) (r : Restored) : Type 0 where
  commits : List (List Action)
  behind : List Version
  long : length commits ≡ suc r.version
  whole : versions_of objects ≡ map commit commits ++ behind
  same : (key : Key) → at key (r.actions ∷ []) ≡ at key commits

-- a sound one is
sound_found : (bound : ℕ) (objects : Objects) (name : List ℕ) (r : Restored) → bound ≤ commit_count objects → HasSoundCheckpoints objects → IsCheckpointFound bound objects name r → IsOfFirst objects r
sound_found bound objects name r short well found =
    let sound = well name r.version found.bytes found.told found.stands (r.actions, found.reads) in
    let lines = commit_is found.bytes r.actions (read_parts found.bytes r.version r.actions found.reads).0 in
    let own : r.actions ≡ sound.checkpoint.actions = one_commit found.bytes r.actions sound.checkpoint.actions lines sound.checkpoint.lines in
    let read : versions_from (suc r.version) 0 objects ≡ map commit sound.commits = are_commits 0 (versions_from (suc r.version) 0 objects) sound.commits sound.stand in
    let front : take (suc r.version) (versions_of objects) ≡ map commit sound.commits = take_from (suc r.version) (commit_count objects) 0 objects (omega (arith, found.below, short)) ∙ read in
    record {
      commits = sound.commits;
      behind = drop (suc r.version) (versions_of objects);
      long = sym (length-map sound.commits commit) ∙ (ap length (sym read) ∙ versions_long (suc r.version) 0 objects);
      whole = sym (take-append-drop (suc r.version) (versions_of objects)) ∙ ap (λ (those : List Version). those ++ drop (suc r.version) (versions_of objects)) front;
      same = λ key. ap (λ (actions : List Action). at key (actions ∷ [])) own ∙ checkpoint_leaves found.bytes r.version sound.commits sound.checkpoint key;
    }

-- A schema is that of such a checkpoint.
record IsOfOne (objects : Objects) (s : CheckpointSchema) : Type 0 where
  r : Restored
  first : IsOfFirst objects r
  tells : schema_by r ≡ Some s

module _ (objects : Objects) (well : HasSoundCheckpoints objects) where
  -- the newest checkpoint, and each that tells a schema
  sound_newest : (r : Restored) → restored (commit_count objects) objects ≡ Some r → IsOfFirst objects r
  sound_newest r is =
      let found = newest_found (commit_count objects) objects r is in
      sound_found (commit_count objects) objects found.0 r (omega arith) well found.1

  sound_schema : (bound : ℕ) (name : List ℕ) (s : CheckpointSchema) → bound ≤ commit_count objects → schema_below bound objects name ≡ Some s → IsOfOne objects s
  sound_schema bound name s short is = by_found (checkpoint_in bound objects name) refl is
    where
      by_found : (found : Option Restored) → checkpoint_in bound objects name ≡ found → option_and_then schema_by found ≡ Some s → IsOfOne objects s
      by_found None e at = absurd cc
      by_found (Some r) e at = record { r = r; first = sound_found bound objects name r short well (found_parts bound objects name r e); tells = at }

  sound_upto : (version : ℕ) (s : CheckpointSchema) → schema_upto version objects ≡ Some s → IsOfOne objects s
  unfolding newest_schema
  sound_upto version s is =
      let found = last_found (schema_below (min (suc version) (commit_count objects)) objects) (names_of objects) s is in
      sound_schema (min (suc version) (commit_count objects)) found.0 s (grind (arith, nat_tests)) found.1

  sound_start : (version : ℕ) (s : CheckpointSchema) → (start_at version objects).schema ≡ Some s → IsOfOne objects s
  sound_start version s is = by_own (schema_upto version objects) refl is
    where
      by_later : (one : Option CheckpointSchema) → option_and_then (λ (first : CheckpointSchema). schema_upto first.version objects) one ≡ Some s → IsOfOne objects s
      by_later None at = absurd cc
      by_later (Some first) at = sound_upto first.version s at

      by_own : (one : Option CheckpointSchema) → schema_upto version objects ≡ one → option_or one (later_schema version objects) ≡ Some s → IsOfOne objects s
      by_own None e at = by_later (first_schema version objects) at
      by_own (Some own) e at = sound_upto version s (e ∙ at)

-- ---- reads

-- no version from its own on is left out
first_before : (version : ℕ) (start : Start) → first_read version start ≤ version
first_before version start = by_parts start.newest start.schema
  where
    by_test : (v n : ℕ) (b : Bool) → nat_le v version ≡ b → (if b then min n v else 0) ≤ version
    by_test v n true e = grind (arith, nat_tests, e)
    by_test v n false e = omega arith

    by_parts : (newest : Option Restored) (schema : Option CheckpointSchema) → first_behind version newest schema ≤ version
    by_parts None schema = omega arith
    by_parts (Some r) None = omega arith
    by_parts (Some r) (Some s) = by_test s.version (suc r.version) (nat_le s.version version) refl

-- nor one behind the newest checkpoint
first_short : (version : ℕ) (r : Restored) (schema : Option CheckpointSchema) → first_behind version (Some r) schema ≤ suc r.version
first_short version r None = omega arith
first_short version r (Some s) = by_test (nat_le s.version version)
  where
    by_test : (b : Bool) → (if b then min (suc r.version) s.version else 0) ≤ suc r.version
    by_test true = grind (arith, nat_tests)
    by_test false = omega arith

module _ (objects : Objects) (version : ℕ) where
  abbrev all : List Version
  all = versions_of objects

  -- the table is read alike
  same_front : (newest : Option Restored) (schema : Option CheckpointSchema) → ((r : Restored) → newest ≡ Some r → IsOfFirst objects r)
      → readable (front_behind newest (from_version (first_behind version newest schema) all)) ≡ readable (front all)
  same_front None schema sound = refl
  same_front (Some r) schema sound =
      let is = sound r refl in
      ap (λ (versions : List Version). readable (front_behind (Some r) (from_version (first_behind version (Some r) schema) versions))) is.whole
      ∙ (front_alike r is.commits is.behind is.long is.same (first_behind version (Some r) schema) (first_short version r schema) ∙ sym (ap (λ (versions : List Version). readable (front versions)) is.whole))

  -- no more is left out than the checkpoint tells
  first_told : (newest : Option Restored) (s : CheckpointSchema) → first_behind version newest (Some s) ≤ s.version
  first_told None s = omega arith
  first_told (Some r) s = by_test (nat_le s.version version)
    where
      by_test : (b : Bool) → (if b then min (suc r.version) s.version else 0) ≤ s.version
      by_test true = grind (arith, nat_tests)
      by_test false = omega arith

  -- and nothing in front of one of a later version
  first_all : (newest : Option Restored) (s : CheckpointSchema) → nat_le s.version version ≡ false → first_behind version newest (Some s) ≡ 0
  first_all None s later = refl
  first_all (Some r) s later = ap (λ (b : Bool). if b then min (suc r.version) s.version else 0) later

  -- the schema in force is the same
  same_force : (newest : Option Restored) (schema : Option CheckpointSchema) → ((s : CheckpointSchema) → schema ≡ Some s → IsOfOne objects s)
      → in_force_at version schema (from_version (first_behind version newest schema) all) ≡ in_force version all
  same_force None None sound = refl
  same_force (Some r) None sound = refl
  same_force newest (Some s) sound = by_order (nat_le s.version version) refl
    where
      one : IsOfOne objects s
      one = sound s refl

      is : IsOfFirst objects one.r
      is = one.first

      own : SchemaParts one.r s
      own = schema_parts one.r s one.tells

      by_order : (b : Bool) → nat_le s.version version ≡ b → in_force_at version (Some s) (from_version (first_behind version newest (Some s)) all) ≡ in_force version all
      by_order true e =
          let n = first_behind version newest (Some s) in
          let short = first_told newest s in
          let at = own.version in
          rw e
          (ap (λ (told : Option SchemaText). in_force_from told version (from_version n all)) own.reads
          ∙ (ap (λ (versions : List Version). in_force_from (Some own.told) version (from_version n versions)) is.whole
          ∙ (force_later one.r is.commits is.behind is.long is.same version n own.told own.tells (grind (arith, nat_tests, e, at)) (omega (arith, short, at))
          ∙ sym (ap (in_force version) is.whole))))
      by_order false e =
          let at = own.version in
          rw (first_all newest s e, e)
          (ap (λ (told : Option SchemaText). option_or (in_force version (take (suc s.version) all)) told) own.reads
          ∙ (ap (λ (v : ℕ). option_or (in_force version (take (suc v) all)) (Some own.told)) at
          ∙ (ap (λ (versions : List Version). option_or (in_force version (take (suc one.r.version) versions)) (Some own.told)) is.whole
          ∙ (force_earlier one.r is.commits is.behind is.long is.same version own.told own.tells (grind (arith, nat_tests, e, at))
          ∙ sym (ap (in_force version) is.whole)))))

-- a read goes by the same schema
same_schema : (objects : Objects) (place : Offset) (start : Start) → ((r : Restored) → start.newest ≡ Some r → IsOfFirst objects r) → ((s : CheckpointSchema) → start.schema ≡ Some s → IsOfOne objects s)
    → schema_for start (looked_at place.version start (versions_of objects)) place ≡ schema_for no_start (versions_of objects) place
unfolding schema_for
same_schema objects place start newest schema =
    rw (none_alike (first_read place.version start) (versions_of objects), same_front objects place.version start.newest start.schema newest, same_force objects place.version start.newest start.schema schema) refl

-- what follows is the same, where it is for each that was read
onward : {A B : Type 0} (read : Result A ReadRefusal) (f g : A → Result B ReadRefusal) → ((x : A) → f x ≡ g x) → (read >>= f) ≡ (read >>= g)
onward (Ok x) f g same = same x
onward (Err refusal) f g same = refl

module _ (objects : Objects) (well : HasSoundCheckpoints objects) (place : Offset) where
  -- the schema, and then the rows
  both_alike : {B : Type 0} (max : ℕ) (f : SchemaText → ReadRows → Result B ReadRefusal) → (schema_at true objects place >>= λ told. handed_by objects told (versions_at true objects place) max place >>= f told)
      ≡ (schema_at false objects place >>= λ told. handed_by objects told (versions_at false objects place) max place >>= f told)
  both_alike max f =
      ap (λ (read : Result SchemaText ReadRefusal). read >>= λ told. handed_by objects told (versions_at true objects place) max place >>= f told)
      (same_schema objects place (start_at place.version objects) (sound_newest objects well) (sound_start objects well place.version))
      ∙ onward (schema_at false objects place) _ _
      (λ told. ap (λ (handed : Result ReadRows ReadRefusal). handed >>= f told)
      (handed_alike objects told (first_read place.version (start_at place.version objects)) (versions_of objects) max place (first_before place.version (start_at place.version objects))))

  rows_alike : (max : ℕ) → read_by true objects max place ≡ read_by false objects max place
  rows_alike max =
      ap (λ (read : Result SchemaText ReadRefusal). read >>= λ told. handed_by objects told (versions_at true objects place) max place)
      (same_schema objects place (start_at place.version objects) (sound_newest objects well) (sound_start objects well place.version))
      ∙ onward (schema_at false objects place) _ _
      (λ told. handed_alike objects told (first_read place.version (start_at place.version objects)) (versions_of objects) max place (first_before place.version (start_at place.version objects)))

-- Where checkpoints are sound, a read from one on hands out the same.
pub read_alike : (use_checkpoints : Bool) (objects : Objects) → RestoresWell use_checkpoints objects → (max : ℕ) (place : Offset) → read_by use_checkpoints objects max place ≡ read_by false objects max place
read_alike false objects well max place = refl
read_alike true objects well max place = rows_alike objects (well refl) place max

-- And it tells the same.
pub tailed_alike : (use_checkpoints : Bool) (objects : Objects) → RestoresWell use_checkpoints objects → (max : ℕ) (offset : List ℕ) → tailed use_checkpoints objects max offset ≡ tailed false objects max offset
unfolding tailed
tailed_alike false objects well max offset = refl
tailed_alike true objects well max offset =
    onward (or_refusal (offset_of offset) bad_offset) _ _ (λ place. both_alike objects (well refl) place max (λ told handed. Ok (handed_text told.schema handed)))
