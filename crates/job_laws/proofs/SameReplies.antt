-- Over the log and the files that a line may look at it is told what it is told over all objects.
use Rattle.std.proofs.Common.{◌≡◌, ◌∙◌, ◌-◌, ℕ, false, List, Option, Result, Ok, Err, IfOk, length, refl, sym, ap, subst}
use Rattle.std.specs.Prelude.{nat_lt}
use Rattle.outcomes.specs.Results.{◌>>=◌, refused_as, refused_if}
use Rattle.store_core.specs.Objects.{Objects, object_at}
use Rattle.delta_actions.specs.Action.{Action}
use Rattle.delta_replay.specs.Support.{meta_data_of_log}
use Rattle.store_core.specs.Names.{commit_name}
use Rattle.table_folder.specs.Loads.{loaded}
use Rattle.snapshot_core.specs.Faults as faults
use Rattle.snapshot_core.specs.Faults.{readable_log}
use Rattle.snapshot_core.specs.Taking.{IsNewestCheckpoint, most_checkpoint_bytes}
use Rattle.snapshot_core.specs.Telling.{TellsSnapshot}
use Rattle.lake_script.specs.Checkpoints.{by_log, checkpoint_by_bytes, checkpoint_for, checkpoint_reply, newest_version, snapshot_reply, too_large}
use Rattle.script_lines.specs.Lines.{append, checkpoint, close, tail, Statement, create, foreign, hex, history, show, snapshot, task, tries, look, world}
use Rattle.lake_script.specs.Replies.{put_word}
use Rattle.lake_script.specs.Told.{created_reply, in_hex, reply_to_statement, shown, sink_reply, tailed_reply, IsPrintedStatement}
use Rattle.job_laws.specs.Looking.{LooksWithin}
use Rattle.job_laws.proofs.Loaded.{commit_loaded, loaded_at}
use Rattle.job_laws.proofs.SameLogs.{same_count, same_replayed}
use Rattle.job_laws.proofs.SameReads.{same_appended, same_checked, same_closed, same_created, same_history, same_readable, same_tailed}
use Rattle.outcomes.specs.Lines.{with_newline}

-- ---- what lines are told

-- a version's commit
same_commit : (files : List (List ℕ)) (objects : Objects) (version : ℕ) → object_at (loaded files objects) (commit_name version) ≡ object_at objects (commit_name version)
same_commit files objects version = loaded_at files objects (commit_name version) (commit_loaded files version)

-- the newest version
same_newest : (files : List (List ℕ)) (objects : Objects) → newest_version (loaded files objects) ≡ newest_version objects
same_newest files objects = ap (λ count. count - 1) (same_count files objects)

-- the checkpoint of the newest version
pub same_checkpoint : (files : List (List ℕ)) (objects : Objects) (bytes : List ℕ) → checkpoint_by_bytes (loaded files objects) bytes ≡ checkpoint_by_bytes objects bytes
same_checkpoint files objects bytes =
    λ i. refused_as by_log (same_checked files objects i) >>= λ commits. refused_if (nat_lt most_checkpoint_bytes (length bytes)) too_large >>= λ fits. checkpoint_for (same_newest files objects i) (meta_data_of_log commits)

pub same_reply : (objects : Objects) (statement : Statement) (files : List (List ℕ)) (printed : List ℕ) → LooksWithin objects statement files → reply_to_statement (loaded files objects) statement printed ≡ reply_to_statement objects statement printed
same_reply objects (create id at schema) files printed within = ap created_reply (same_created files objects id at schema printed)
same_reply objects (task (append application number at rows)) files printed within = ap sink_reply (same_appended files objects application number at rows (within _ refl))
same_reply objects (task (close application at)) files printed within = ap sink_reply (same_closed files objects application)
same_reply objects (task checkpoint) files printed within = ap checkpoint_reply (same_checkpoint files objects printed)
same_reply objects (task (tail max offset)) files printed within = ap tailed_reply (same_tailed files objects max offset within)
same_reply objects (look snapshot) files printed within = ap (λ (log : Result (List (List Action)) faults.Reason). snapshot_reply log printed) (same_readable files objects)
same_reply objects (look history) files printed within = same_history files objects
same_reply objects (look (show version)) files printed within = ap shown (same_commit files objects version)
same_reply objects (look (hex name)) files printed within = ap in_hex (loaded_at files objects name (within name refl))
same_reply objects (tries count) files printed within = refl
same_reply objects (world line) files printed within = refl
same_reply objects (foreign version action) files printed within = ap (λ (found : Option (List ℕ)). with_newline (put_word found)) (same_commit files objects version)

-- ---- the texts that stand beside lines

-- what holds of a value holds of what it is equal to, by what the one says of the other
if_both : {A E : Type 0} (one other : Result A E) (P Q : A → Type 0) → one ≡ other → ((a : A) → P a → Q a) → IfOk one P → IfOk other Q
if_both {A} {E} one other P Q is all holds = by_case other (subst (λ (r : Result A E). IfOk r P) is holds)
  where
    by_case : (r : Result A E) → IfOk r P → IfOk r Q
    by_case (Ok a) has = all a has
    by_case (Err e) has = tt

-- the newest version's checkpoint
newest_printed : (files : List (List ℕ)) (objects : Objects) (log : List (List Action)) (bytes : List ℕ) → IsNewestCheckpoint (loaded files objects) log (newest_version (loaded files objects)) bytes → IsNewestCheckpoint objects log (newest_version objects) bytes
newest_printed files objects log bytes is =
    subst (λ (version : ℕ). IsNewestCheckpoint objects log version bytes) (same_newest files objects) (record { newest = is.newest ∙ same_count files objects; checkpoint = is.checkpoint; ordered = is.ordered })

-- the text of a snapshot
snapshot_printed : (files : List (List ℕ)) (objects : Objects) (text : List ℕ) → TellsSnapshot false (loaded files objects) text → TellsSnapshot false objects text
snapshot_printed files objects text tells = record {
  commits = tells.commits;
  read = sym (same_replayed files objects) ∙ tells.read;
  schema = tells.schema;
  supported = tells.supported;
  version = tells.version;
  newest = tells.newest ∙ same_count files objects;
  protocol = tells.protocol;
  of_log = tells.of_log;
  schema_text = tells.schema_text;
  printed = tells.printed;
  lists = tells.lists;
}

pub same_printed : (objects : Objects) (statement : Statement) (files : List (List ℕ)) (printed : List ℕ) → LooksWithin objects statement files → IsPrintedStatement (loaded files objects) statement printed → IsPrintedStatement objects statement printed
same_printed objects (create id at schema) files printed within is = is
same_printed objects (task checkpoint) files printed within is =
    if_both (faults.checked_for_checkpoint false (loaded files objects)) (faults.checked_for_checkpoint false objects) _ _ (same_checked files objects) (λ commits. newest_printed files objects commits printed) is
same_printed objects (look snapshot) files printed within is =
    if_both (readable_log false (loaded files objects)) (readable_log false objects) _ _ (same_readable files objects) (λ commits. snapshot_printed files objects printed) is
same_printed objects _ files printed within is = tt
