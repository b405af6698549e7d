-- What lines that put a checkpoint or tell the snapshot are told, by what the calls for them tell.
use Rattle.std.proofs.Common.{◌≡◌, ◌≢◌, ℕ, ◌++◌, false, true, List, [], Ok, length, inl, inr, refl, sym, ap, ◌∙◌, arith}
use Rattle.std.specs.Prelude.{codes, nat_lt}
use Rattle.std.proofs.lemmas.Bool.{le-ltb, lt-ltb}
use Rattle.outcomes.specs.Outcome.{IsSaid}
use Rattle.store_core.specs.Objects.{Objects, with_object}
use Rattle.delta_checkpoint.specs.Names.{checkpoint_name}
use Rattle.delta_replay.specs.Support.{fault_of}
use Rattle.delta_replay.specs.SupportTexts as supports
use Rattle.delta_replay.specs.declared.support.SupportFault.{SupportFault}
use Rattle.delta_replay.specs.declared.support.SupportFault.TheVariants.{NoProtocol, NoMetadata, Feature, Partitioned, ReaderVersion, BadSchema}
use Rattle.source_core.specs.TailFaults.{support_text}
use Rattle.commit_core.specs.Texts.{refused}
use Rattle.snapshot_core.specs.Faults.{checked_for_checkpoint, readable_log, says}
use Rattle.snapshot_core.specs.Taking.{most_checkpoint_bytes, IsRefusal, IsCheckpointTooLarge, PutsCheckpoint}
use Rattle.snapshot_core.specs.Telling.{TellsSnapshot}
use Rattle.snapshot_core.specs.declared.fault.SnapshotFault.{SnapshotFault}
use Rattle.snapshot_core.specs.declared.fault.SnapshotFault.TheVariants as faults
use Rattle.lake_script.specs.declared.reply.LineReply.TheVariants.{Checkpointed, NoSnapshot}
use Rattle.lake_script.specs.Checkpoints.{checkpoint_by_bytes, newest_version}
use Rattle.script_lines.specs.Lines.{Statement, checkpoint, look, snapshot, task}
use Rattle.lake_script.specs.ReplyView.{reply_text, is_short_reply}
use Rattle.lake_script.specs.Runs.{Executes, Has, IsShort, no_room_to_tell}
use Rattle.lake_script.specs.Sound.{IsExecuted}
use Rattle.outcomes.specs.Lines.{with_newline}

-- the two texts of what a table lacks are the same
pub support_is : (why : SupportFault) → supports.fault_text why ≡ support_text (fault_of why)
support_is NoProtocol = refl
support_is NoMetadata = refl
support_is (Feature name) = refl
support_is Partitioned = refl
support_is (ReaderVersion n) = refl
support_is (BadSchema fault) = refl

module _ (objects : Objects) (version : ℕ) (name bytes : List ℕ) (puts : PutsCheckpoint false objects version name bytes) where
  newest_is : newest_version objects ≡ version
  newest_is = omega (arith, puts.checkpoint.newest)

  put_is : checkpoint_by_bytes objects bytes ≡ Ok (record { version = version; name = name })
  put_is =
      rw (puts.read, puts.supported, le-ltb most_checkpoint_bytes (length bytes) puts.fits, puts.of_table.newest, newest_is)
      (ap (λ (text : List ℕ). Ok (record { version = version; name = text })) (sym (puts.named ∙ ap (checkpoint_name version) puts.of_table.is)))

  -- a checkpoint that was put is told, and what was put is well made
  pub put_executed : (after : Objects) → after ≡ with_object objects name bytes → IsExecuted objects (task checkpoint) (reply_text (Checkpointed version)) after
  put_executed after left = record {
    text = bytes;
    printed = rw (puts.read, puts.supported, newest_is) puts.checkpoint;
    told = rw put_is refl;
    left = rw put_is left;
    sound = rw put_is puts.found;
  }

-- what stands in the log is told, and nothing is put
log_executed : (objects : Objects) (fault : SnapshotFault) → IsSaid (says fault) (checked_for_checkpoint false objects) → is_short_reply (NoSnapshot fault) ≡ false → fault ≢ faults.Lost
    → IsExecuted objects (task checkpoint) (reply_text (NoSnapshot fault)) objects
log_executed objects (faults.BadLog version) said enough kept = record {
  text = [];
  printed = rw said tt;
  told = rw said refl;
  left = rw said refl;
  sound = rw said tt;
}
log_executed objects (faults.Unsupported why) said enough kept = record {
  text = [];
  printed = rw said tt;
  told = rw said (ap (λ (text : List ℕ). with_newline (refused (codes "K8 Unsupported " ++ text))) (support_is why));
  left = rw said refl;
  sound = rw said tt;
}
log_executed objects faults.Lost said enough kept = absurd (kept refl)
log_executed objects faults.Memory said enough kept = absurd cc
log_executed objects faults.TooLarge said enough kept = absurd said

-- the same of each refusal of a checkpoint that isn't short
pub refusal_executed : (objects : Objects) (fault : SnapshotFault) → IsRefusal false fault objects → is_short_reply (NoSnapshot fault) ≡ false → fault ≢ faults.Lost
    → IsExecuted objects (task checkpoint) (reply_text (NoSnapshot fault)) objects
refusal_executed objects faults.TooLarge refusal enough kept = absurd cc
refusal_executed objects (faults.BadLog version) refusal enough kept = log_executed objects (faults.BadLog version) refusal enough kept
refusal_executed objects (faults.Unsupported why) refusal enough kept = log_executed objects (faults.Unsupported why) refusal enough kept
refusal_executed objects faults.Lost refusal enough kept = absurd (kept refl)
refusal_executed objects faults.Memory refusal enough kept = absurd cc

-- a line that is executed has what it asks for
pub has_executed : (objects : Objects) (statement : Statement) (reply : List ℕ) (after : Objects) → IsExecuted objects statement reply after → Executes objects statement reply after
has_executed objects statement reply after executed = inl (executed.text, executed.printed, executed.told, executed.left)

-- a checkpoint that is too large is told so
large_told : (objects : Objects) → IsCheckpointTooLarge false objects → Has objects (task checkpoint) (reply_text (NoSnapshot faults.TooLarge)) objects
large_told objects large =
    let newest : newest_version objects ≡ large.version = omega (arith, large.checkpoint.newest) in
    let over : nat_lt most_checkpoint_bytes (length large.bytes) ≡ true = lt-ltb most_checkpoint_bytes (length large.bytes) large.large in (
      large.bytes,
      rw (large.read, large.supported, newest) large.checkpoint,
      rw (large.read, large.supported, over) refl,
      rw (large.read, large.supported, over) refl,
    )

-- A checkpoint that isn't put is told what its refusal says, or of want of memory.
pub refusal_told : (objects : Objects) (fault : SnapshotFault) → IsRefusal false fault objects → fault ≢ faults.Lost → Executes objects (task checkpoint) (reply_text (NoSnapshot fault)) objects
refusal_told objects faults.TooLarge refusal kept = inl (large_told objects refusal)
refusal_told objects (faults.BadLog version) refusal kept = has_executed objects (task checkpoint) _ objects (log_executed objects (faults.BadLog version) refusal refl kept)
refusal_told objects (faults.Unsupported why) refusal kept = has_executed objects (task checkpoint) _ objects (log_executed objects (faults.Unsupported why) refusal refl kept)
refusal_told objects faults.Lost refusal kept = absurd (kept refl)
refusal_told objects faults.Memory refusal kept = inr (refl, refl)

-- which refusals are short
pub refusal_short : (objects : Objects) (fault : SnapshotFault) → IsRefusal false fault objects → is_short_reply (NoSnapshot fault) ≡ true → IsShort objects (task checkpoint) (reply_text (NoSnapshot fault))
refusal_short objects faults.TooLarge refusal short = inr (refl, refusal)
refusal_short objects faults.Memory refusal short = inl refl
refusal_short objects _ refusal short = cc

-- ---- a snapshot

-- a snapshot that is told
pub snapshot_executed : (objects : Objects) (text : List ℕ) → TellsSnapshot false objects text → IsExecuted objects (look snapshot) text objects
snapshot_executed objects text tells = record {
  text = text;
  printed = rw (tells.read, tells.supported) tells;
  told = rw (tells.read, tells.supported) refl;
  left = refl;
  sound = tt;
}

-- a snapshot that isn't
pub unread_executed : (objects : Objects) (fault : SnapshotFault) → IsSaid (says fault) (readable_log false objects) → is_short_reply (NoSnapshot fault) ≡ false → fault ≢ faults.Lost
    → IsExecuted objects (look snapshot) (reply_text (NoSnapshot fault)) objects
unread_executed objects (faults.BadLog version) said enough kept = record {
  text = [];
  printed = rw said tt;
  told = rw said refl;
  left = refl;
  sound = tt;
}
unread_executed objects (faults.Unsupported why) said enough kept = record {
  text = [];
  printed = rw said tt;
  told = rw said (ap (λ (text : List ℕ). with_newline (refused (codes "K8 Unsupported " ++ text))) (support_is why));
  left = refl;
  sound = tt;
}
unread_executed objects faults.Lost said enough kept = absurd (kept refl)
unread_executed objects faults.Memory said enough kept = absurd cc
unread_executed objects faults.TooLarge said enough kept = absurd said

-- it is told what the refusal says, or of want of memory
pub unread_told : (objects : Objects) (fault : SnapshotFault) → IsSaid (says fault) (readable_log false objects) → fault ≢ faults.Lost → Executes objects (look snapshot) (reply_text (NoSnapshot fault)) objects
unread_told objects (faults.BadLog version) said kept = has_executed objects (look snapshot) _ objects (unread_executed objects (faults.BadLog version) said refl kept)
unread_told objects (faults.Unsupported why) said kept = has_executed objects (look snapshot) _ objects (unread_executed objects (faults.Unsupported why) said refl kept)
unread_told objects faults.Lost said kept = absurd (kept refl)
unread_told objects faults.Memory said kept = inr (refl, refl)
unread_told objects faults.TooLarge said kept = absurd said

-- and it is short for want of memory alone
pub unread_short : (objects : Objects) (fault : SnapshotFault) → IsSaid (says fault) (readable_log false objects) → is_short_reply (NoSnapshot fault) ≡ true → reply_text (NoSnapshot fault) ≡ no_room_to_tell
unread_short objects faults.TooLarge said short = absurd said
unread_short objects faults.Memory said short = refl
unread_short objects _ said short = cc
