-- What is put and told of a log that is read from sound checkpoints is what is put and told of it as a whole.
use Rattle.std.proofs.Common.{◌≡◌, ◌∙◌, ℕ, Bool, false, List, Result, Ok, Err, refl, sym, ap, subst}
use Rattle.std.specs.Prelude.{option_to_list}
use Rattle.outcomes.specs.Outcome.{IsSaid}
use Rattle.outcomes.specs.Results.{◌>>=◌, refused_as}
use Rattle.store_core.specs.Objects.{Objects, with_object}
use Rattle.delta_actions.specs.Action.{Action}
use Rattle.delta_checkpoint.specs.Checkpoints.{IsCheckpoint}
use Rattle.delta_replay.specs.All.{ListsAll}
use Rattle.delta_replay.specs.Keys.{Key, at, the_meta_data, the_protocol}
use Rattle.delta_replay.specs.Lists.{ListsClosed, ListsEach}
use Rattle.delta_replay.specs.Support.{Unsupported, checkpointable, readable}
use Rattle.table_log.specs.Restoring.{AreAlike, AreCheckpointsSound, IsSoundCheckpoint, RestoresWell, replayed}
use Rattle.table_log.specs.Versions.{commits_in, log_of, versions_from}
use Rattle.table_log.proofs.Callers.{own_checkpoint, same_values, replayed_alike, sound_with, whole_log}
use Rattle.snapshot_core.specs.Faults.{Reason, bad_log, checked_for_checkpoint, readable_log, says, unsupported}
use Rattle.snapshot_core.specs.Taking.{IsNewestCheckpoint, IsRefusal, IsCheckpointTooLarge, PutsCheckpoint}
use Rattle.snapshot_core.specs.Telling.{TellsLists, TellsSnapshot}
use Rattle.snapshot_core.specs.declared.fault.SnapshotFault.{SnapshotFault}
use Rattle.snapshot_core.specs.declared.fault.SnapshotFault.TheVariants as faults

-- ---- lists of logs that leave the same

module _ (log other : List (List Action)) (same : (key : Key) → at key log ≡ at key other) where
  -- each kind of them
  each_same : {T : Type 0} (key : List ℕ → Key) (action : T → Action) (name : T → List ℕ) (list : List T) → ListsEach log key action name list → ListsEach other key action name list
  each_same key action name list lists = record {
    ordered = lists.ordered;
    stand = λ x has. sym (same (key (name x))) ∙ lists.stand x has;
    whole = λ x is. lists.whole x (same (key (name x)) ∙ is);
  }

  -- the closed streams
  closed_same : (list : List (List ℕ)) → ListsClosed log list → ListsClosed other list
  closed_same list lists =
      let closed = (same_values log other same).closed in
      record {
        ordered = lists.ordered;
        stand = λ application has. sym (closed application) ∙ lists.stand application has;
        whole = λ application text is. lists.whole application text (closed application ∙ is);
      }

  -- all of them
  pub all_same : (list : List Action) → ListsAll log list → ListsAll other list
  all_same list lists = record {
    numbers = lists.numbers;
    domains = lists.domains;
    files = lists.files;
    tombstones = lists.tombstones;
    parts = rw (← same the_protocol, ← same the_meta_data) lists.parts;
    all_numbers = each_same _ _ _ _ lists.all_numbers;
    all_domains = each_same _ _ _ _ lists.all_domains;
    all_files = each_same _ _ _ _ lists.all_files;
    all_tombstones = each_same _ _ _ _ lists.all_tombstones;
  }

  -- A checkpoint of the one is one of the other.
  pub checkpoint_same : (bytes : List ℕ) (version : ℕ) → IsCheckpoint bytes version log → IsCheckpoint bytes version other
  checkpoint_same bytes version is = record {
    actions = is.actions;
    lines = is.lines;
    told = is.told;
    whole = record { keys = λ key. is.whole.keys key ∙ ap option_to_list (same key); known = is.whole.known };
  }

  newest_same : (objects : Objects) (version : ℕ) (bytes : List ℕ) → IsNewestCheckpoint objects log version bytes → IsNewestCheckpoint objects other version bytes
  newest_same objects version bytes is = record {
    newest = is.newest;
    checkpoint = checkpoint_same bytes version is.checkpoint;
    ordered = (is.ordered.0, all_same is.ordered.0 is.ordered.1, is.ordered.2);
  }

  lists_same : (front text : List ℕ) → TellsLists log front text → TellsLists other front text
  lists_same front text tells = record {
    numbers = tells.numbers;
    closed = tells.closed;
    files = tells.files;
    parts = tells.parts;
    all_numbers = each_same _ _ _ _ tells.all_numbers;
    all_closed = closed_same tells.closed tells.all_closed;
    all_files = each_same _ _ _ _ tells.all_files;
  }

-- ---- the whole log

-- the commits of a log that is read
pub record IsReadWhole (objects : Objects) (log : List (List Action)) : Type 0 where
  pub commits : List (List Action)
  pub read : replayed false objects ≡ Ok commits
  pub same : (key : Key) → at key log ≡ at key commits

by_whole : (objects : Objects) (log : List (List Action)) (whole : Result (List (List Action)) ℕ) → log_of objects ≡ whole → AreAlike (Ok log) whole → IsReadWhole objects log
by_whole objects log (Ok commits) is alike = record { commits = commits; read = is; same = alike }
by_whole objects log (Err version) is alike = absurd alike

module _ (use_checkpoints : Bool) (objects : Objects) (well : RestoresWell use_checkpoints objects) where
  -- a log that is read is read whole too
  read_whole : (log : List (List Action)) → replayed use_checkpoints objects ≡ Ok log → IsReadWhole objects log
  read_whole log read = by_whole objects log (log_of objects) refl (subst (λ (r : Result (List (List Action)) ℕ). AreAlike r (log_of objects)) read (replayed_alike use_checkpoints objects well))

  -- A checkpoint that is put is that of the whole log.
  pub puts_alike : (version : ℕ) (name bytes : List ℕ) → PutsCheckpoint use_checkpoints objects version name bytes → PutsCheckpoint false objects version name bytes
  puts_alike version name bytes puts =
      let whole = read_whole puts.commits puts.read in
      let values = same_values puts.commits whole.commits whole.same in
      record {
        commits = whole.commits;
        read = whole.read;
        supported = sym values.checkpointed ∙ puts.supported;
        id = puts.id;
        of_table = record { meta_data = puts.of_table.meta_data; newest = sym values.metadata ∙ puts.of_table.newest; is = puts.of_table.is };
        checkpoint = newest_same puts.commits whole.commits whole.same objects version bytes puts.checkpoint;
        fits = puts.fits;
        named = puts.named;
        found = puts.found;
      }

  -- So is one that is too large.
  large_alike : IsCheckpointTooLarge use_checkpoints objects → IsCheckpointTooLarge false objects
  large_alike large =
      let whole = read_whole large.commits large.read in
      let values = same_values large.commits whole.commits whole.same in
      record {
        commits = whole.commits;
        read = whole.read;
        supported = sym values.checkpointed ∙ large.supported;
        version = large.version;
        bytes = large.bytes;
        checkpoint = newest_same large.commits whole.commits whole.same objects large.version large.bytes large.checkpoint;
        large = large.large;
      }

  -- What a snapshot tells, the whole log leaves.
  pub tells_alike : (text : List ℕ) → TellsSnapshot use_checkpoints objects text → TellsSnapshot false objects text
  tells_alike text tells =
      let whole = read_whole tells.commits tells.read in
      let values = same_values tells.commits whole.commits whole.same in
      record {
        commits = whole.commits;
        read = whole.read;
        schema = tells.schema;
        supported = sym values.read ∙ tells.supported;
        version = tells.version;
        newest = tells.newest;
        protocol = tells.protocol;
        of_log = sym values.protocols ∙ tells.of_log;
        schema_text = tells.schema_text;
        printed = tells.printed;
        lists = lists_same tells.commits whole.commits whole.same _ text tells.lists;
      }

-- ---- refusals

-- two results that are refused alike
abbrev AreRefusedAlike : {A : Type 0} → Result A Reason → Result A Reason → Type 0
AreRefusedAlike {A} one other = (reason : Reason) → one ≡ Err reason → other ≡ Err reason

-- a refusal that is said of the one is said of the other
said_alike : {A : Type 0} (fault : SnapshotFault) (one other : Result A Reason) → AreRefusedAlike one other → IsSaid (says fault) one → IsSaid (says fault) other
said_alike (faults.BadLog version) one other alike said = alike (bad_log version) said
said_alike (faults.Unsupported why) one other alike said = alike _ said
said_alike faults.Lost one other alike said = tt
said_alike faults.Memory one other alike said = tt
said_alike faults.TooLarge one other alike said = absurd said

-- what is tested of logs that leave the same
module _ {X : Type 0} (tests : List (List Action) → Result X Unsupported) (tested : (log other : List (List Action)) → ((key : Key) → at key log ≡ at key other) → tests log ≡ tests other) where
  abbrev by_log : Result (List (List Action)) ℕ → Result (List (List Action)) Reason
  by_log read = refused_as bad_log read >>= λ (commits : List (List Action)). refused_as unsupported (tests commits) >>= λ fine. Ok commits

  refused_alike : (read whole : Result (List (List Action)) ℕ) → AreAlike read whole → AreRefusedAlike (by_log read) (by_log whole)
  refused_alike (Ok log) (Ok other) alike reason is = by_test (tests log) (tests other) (tested log other alike) is
    where
      by_test : (one two : Result X Unsupported) → one ≡ two → (refused_as unsupported one >>= λ fine. Ok log) ≡ Err reason → (refused_as unsupported two >>= λ fine. Ok other) ≡ Err reason
      by_test (Ok x) two same is = absurd cc
      by_test (Err why) two same is = rw (← same) is
  refused_alike (Ok log) (Err version) alike reason is = absurd alike
  refused_alike (Err version) (Ok log) alike reason is = absurd alike
  refused_alike (Err version) (Err other) alike reason is = rw (← alike) is

module _ (use_checkpoints : Bool) (objects : Objects) (well : RestoresWell use_checkpoints objects) where
  -- what a checkpoint is refused for, the whole log says
  checked_alike : AreRefusedAlike (checked_for_checkpoint use_checkpoints objects) (checked_for_checkpoint false objects)
  checked_alike = refused_alike checkpointable (λ log other same. (same_values log other same).checkpointed) (replayed use_checkpoints objects) (log_of objects) (replayed_alike use_checkpoints objects well)

  -- A checkpoint that isn't put is refused for what the whole log says.
  pub refusal_alike : (fault : SnapshotFault) → IsRefusal use_checkpoints fault objects → IsRefusal false fault objects
  refusal_alike faults.TooLarge refusal = large_alike use_checkpoints objects well refusal
  refusal_alike (faults.BadLog version) refusal = said_alike (faults.BadLog version) _ _ checked_alike refusal
  refusal_alike (faults.Unsupported why) refusal = said_alike (faults.Unsupported why) _ _ checked_alike refusal
  refusal_alike faults.Lost refusal = tt
  refusal_alike faults.Memory refusal = tt

  -- So is a snapshot that isn't told.
  pub unread_alike : (fault : SnapshotFault) → IsSaid (says fault) (readable_log use_checkpoints objects) → IsSaid (says fault) (readable_log false objects)
  unread_alike fault said =
      said_alike fault _ _ (refused_alike readable (λ log other same. (same_values log other same).read) (replayed use_checkpoints objects) (log_of objects) (replayed_alike use_checkpoints objects well)) said

-- ---- a put keeps checkpoints sound

-- A checkpoint that is put is sound, and leaves the others so.
pub put_sound : (every : Bool) (objects : Objects) (version : ℕ) (name bytes : List ℕ) → PutsCheckpoint false objects version name bytes → AreCheckpointsSound every objects → AreCheckpointsSound every (with_object objects name bytes)
put_sound every objects version name bytes puts sound =
    let own : IsSoundCheckpoint objects version bytes = record {
      commits = puts.commits;
      stand = ap (λ (count : ℕ). commits_in 0 (versions_from count 0 objects)) puts.checkpoint.newest ∙ whole_log objects puts.commits puts.read;
      checkpoint = puts.checkpoint.checkpoint;
    } in
    sound_with objects name bytes every version (own_checkpoint version name puts.found) own sound
