-- What lines are told over any store, by what the calls for them tell.
use Rattle.std.proofs.Common.{◌≡◌, ◌≢◌, ◌⊎◌, ℕ, List, Bool, true, false, Option, None, Some, Result, Ok, Err, inl, inr, refl, sym, ap, subst}
use Rattle.std.specs.Prelude.{◌++◌, IfOk, OnOk, codes, option_map}
use Rattle.hex.specs.Hex.{encode_lower}
use Rattle.outcomes.specs.Outcome.{IsSaid}
use Rattle.outcomes.specs.Lines.{with_newline}
use Rattle.store_core.specs.Calls.{CountsFault, HasLanded, HasRisen, IsUntouched, MayHaveLanded, StandsAfter}
use Rattle.store_core.specs.Objects.{object_at}
use Rattle.store_core.specs.declared.fault.StoreFault.{StoreFault}
use Rattle.store_core.specs.declared.fault.StoreFault.TheVariants as stores
use Rattle.store_core.specs.declared.store.Put.{Put}
use Rattle.store_core.specs.declared.store.Put.TheVariants as puts
use Rattle.session_core.specs.Stores.{State, MayAnswerPut}
use Rattle.session_core.specs.Talks.{told_put}
use Rattle.store_core.specs.Names.{commit_name}
use Rattle.commit_core.specs.Creating.{Creates, IsLostCreation}
use Rattle.commit_core.specs.Texts.{refused}
use Rattle.commit_core.specs.declared.fault.CreateFault.{CreateFault}
use Rattle.commit_core.specs.declared.fault.CreateFault.TheVariants as creating
use Rattle.batch_core.specs.declared.fault.SinkFault.{SinkFault}
use Rattle.batch_core.specs.declared.fault.SinkFault.TheVariants as sinks
use Rattle.snapshot_core.specs.Faults.{readable_log, says}
use Rattle.snapshot_core.specs.Taking.{IsRefusal, MayHavePutCheckpoint}
use Rattle.snapshot_core.specs.declared.fault.SnapshotFault.{SnapshotFault}
use Rattle.snapshot_core.specs.declared.fault.SnapshotFault.TheVariants as snapshots
use Rattle.source_core.specs.TailFaults as tails
use Rattle.source_core.specs.Tailing.{ReadRefusal}
use Rattle.log_rows.specs.declared.tail_fault.TailFault.{TailFault}
use Rattle.log_rows.specs.declared.tail_fault.TailFault.TheVariants as tail_faults
use Rattle.script_lines.specs.Lines.{look, snapshot}
use Rattle.lake_script.specs.declared.reply.LineReply.TheVariants as replies
use Rattle.lake_script.specs.AnyStore.{TellsLook, PutsForeign, TellsCheckpoint, TellsCreation, TellsForeign, TellsLoss, TellsSnapshotLine, lost_to_append, lost_to_create, lost_to_read, lost_to_show, lost_to_tell}
use Rattle.lake_script.specs.ReplyView.{reply_text, says_lost}
use Rattle.lake_script.specs.declared.faults.Fault.TheVariants.{NoSuchName}
use Rattle.lake_script.specs.Replies.{fault_text}
use Rattle.lake_script.specs.Runs.{no_room_to_read, no_room_to_show, no_room_to_tell}
use Rattle.lake_script.specs.Told.{in_hex, tailed_reply}
use Rattle.lake_script.proofs.CheckpointLemmas.{support_is}

-- ---- which replies say that a call was lost

pub creation_lost : (fault : CreateFault) → says_lost (replies.NotCreated fault) ≡ true → reply_text (replies.NotCreated fault) ≡ lost_to_create
creation_lost creating.Lost is = refl
creation_lost _ is = cc

pub sink_lost : (fault : SinkFault) → says_lost (replies.SinkRefused fault) ≡ true → (version : Option ℕ) × (reply_text (replies.SinkRefused fault) ≡ lost_to_append version)
sink_lost (sinks.Lost version) is = (version, refl)
sink_lost _ is = cc

pub snapshot_lost : (fault : SnapshotFault) → says_lost (replies.NoSnapshot fault) ≡ true → reply_text (replies.NoSnapshot fault) ≡ lost_to_tell
snapshot_lost snapshots.Lost is = refl
snapshot_lost _ is = cc

pub tail_lost : (fault : TailFault) → says_lost (replies.NotTailed fault) ≡ true → reply_text (replies.NotTailed fault) ≡ lost_to_read
tail_lost tail_faults.Lost is = refl
tail_lost _ is = cc

pub history_lost : (fault : StoreFault) → says_lost (replies.NoHistory fault) ≡ true → reply_text (replies.NoHistory fault) ≡ lost_to_tell
history_lost stores.Lost is = refl
history_lost stores.Memory is = cc

pub unanswered_lost : (fault : StoreFault) → says_lost (replies.Unanswered fault) ≡ true → reply_text (replies.Unanswered fault) ≡ lost_to_show
unanswered_lost stores.Lost is = refl
unanswered_lost stores.Memory is = cc

-- ---- lines that put something

module _ (old new : State) (count later : ℕ) where
  -- a creation that is refused
  pub creation_told : (is_reliable : Type 0) (id : List ℕ) (at : ℕ) (schema : List ℕ) (fault : CreateFault) → Creates is_reliable id at schema (Err fault) old.0 new.0
      → (fault ≡ creating.Memory → new.0 ≡ old.0) → (fault ≡ creating.Lost → IsLostCreation id at schema old new × HasRisen count later) → (fault ≢ creating.Lost → (new.1 ≡ old.1) × (later ≡ count))
      → TellsCreation is_reliable id at schema (reply_text (replies.NotCreated fault)) old new count later
  creation_told is_reliable id at schema creating.Lost creates memory lost kept = (Err creating.Lost, refl, creates, lost refl)
  creation_told is_reliable id at schema creating.Memory creates memory lost kept = (Err creating.Memory, refl, creates, ((memory refl, (kept (λ wrong. cc)).0), (kept (λ wrong. cc)).1))
  creation_told is_reliable id at schema creating.TableExists creates memory lost kept = (Err creating.TableExists, refl, creates, kept (λ wrong. cc))
  creation_told is_reliable id at schema (creating.BadSchema why) creates memory lost kept = (Err (creating.BadSchema why), refl, creates, kept (λ wrong. cc))
  creation_told is_reliable id at schema creating.BadId creates memory lost kept = (Err creating.BadId, refl, creates, kept (λ wrong. cc))
  creation_told is_reliable id at schema creating.TooLarge creates memory lost kept = (Err creating.TooLarge, refl, creates, kept (λ wrong. cc))

  -- a checkpoint that isn't put
  pub checkpoint_told : (use_checkpoints : Bool) (fault : SnapshotFault) → IsRefusal use_checkpoints fault old.0
      → (fault ≡ snapshots.Lost → MayHavePutCheckpoint use_checkpoints old new × HasRisen count later) → (fault ≢ snapshots.Lost → IsUntouched old new × (later ≡ count))
      → TellsCheckpoint use_checkpoints (reply_text (replies.NoSnapshot fault)) old new count later
  checkpoint_told use_checkpoints snapshots.Lost refusal lost kept = (Err snapshots.Lost, refl, lost refl)
  checkpoint_told use_checkpoints snapshots.Memory refusal lost kept = (Err snapshots.Memory, refl, (refusal, (kept (λ wrong. cc)).0, (kept (λ wrong. cc)).1))
  checkpoint_told use_checkpoints (snapshots.BadLog version) refusal lost kept = (Err (snapshots.BadLog version), refl, (refusal, (kept (λ wrong. cc)).0, (kept (λ wrong. cc)).1))
  checkpoint_told use_checkpoints (snapshots.Unsupported why) refusal lost kept = (Err (snapshots.Unsupported why), refl, (refusal, (kept (λ wrong. cc)).0, (kept (λ wrong. cc)).1))
  checkpoint_told use_checkpoints snapshots.TooLarge refusal lost kept = (Err snapshots.TooLarge, refl, (refusal, (kept (λ wrong. cc)).0, (kept (λ wrong. cc)).1))

  -- what became of another tool's commit, by what the store says of the put of these bytes under this name
  pub foreign_put : (version : ℕ) (action name bytes : List ℕ) → name ≡ commit_name version → bytes ≡ with_newline action → (answer : Result Put StoreFault)
      → IfOk answer (λ put. StandsAfter put bytes (object_at new.0 name)) → OnOk answer (HasLanded name bytes old new) → (answer ≡ Ok puts.Created → object_at old.0 name ≡ None)
      → (answer ≡ Err stores.Lost → MayHaveLanded name bytes old new) → (answer ≡ Err stores.Memory → IsUntouched old new) → CountsFault answer count later → PutsForeign version action answer old new count later
  foreign_put version action name bytes is same (Ok put) stands landed created lost memory counts = (
    subst (λ (n : List ℕ). MayAnswerPut old n (with_newline action) (told_put put) new) is
        (subst (λ (b : List ℕ). MayAnswerPut old name b (told_put put) new) same (landed, stands, (λ made. created (ap (λ (one : Put). Ok one) made)))),
    counts,
  )
  foreign_put version action name bytes is same (Err stores.Lost) stands landed created lost memory counts = (
    subst (λ (n : List ℕ). MayHaveLanded n (with_newline action) old new) is (subst (λ (b : List ℕ). MayHaveLanded name b old new) same (lost refl)),
    counts,
  )
  foreign_put version action name bytes is same (Err stores.Memory) stands landed created lost memory counts = (memory refl, counts)

  -- the count of faults behind it
  pub put_counts : (version : ℕ) (action : List ℕ) (answer : Result Put StoreFault) → PutsForeign version action answer old new count later → CountsFault answer count later
  put_counts version action (Ok put) so = so.1
  put_counts version action (Err stores.Lost) so = so.1
  put_counts version action (Err stores.Memory) so = so.1

  -- one that was put is told, and one that wasn't or was lost
  pub put_told : (version : ℕ) (action : List ℕ) (put : Put) → PutsForeign version action (Ok put) old new count later → TellsForeign version action (reply_text (replies.Put put)) old new count later
  put_told version action puts.Created so = (Ok puts.Created, refl, so)
  put_told version action puts.Exists so = (Ok puts.Exists, refl, so)

  pub unput_told : (version : ℕ) (action : List ℕ) (fault : StoreFault) → PutsForeign version action (Err fault) old new count later → TellsForeign version action (reply_text (replies.Unanswered fault)) old new count later
  unput_told version action stores.Lost so = (Err stores.Lost, refl, so)
  unput_told version action stores.Memory so = (Err stores.Memory, refl, so)

  -- ---- lines that put nothing

  -- what is shown, told of and read isn't, where the store gives no answer
  pub shown_told : (told : Type 0) (fault : StoreFault) → IsUntouched old new → CountsFault {X = Unit {0}} (Err fault) count later
      → TellsLook told (reply_text (replies.Unanswered fault) ≡ no_room_to_show) (reply_text (replies.Unanswered fault) ≡ lost_to_show) old new count later
  shown_told told stores.Lost same counts = (same, inr (refl, counts))
  shown_told told stores.Memory same counts = (same, inl (inr refl, counts))

  pub history_told : (told : Type 0) (fault : StoreFault) → IsUntouched old new → CountsFault {X = Unit {0}} (Err fault) count later
      → TellsLook told (reply_text (replies.NoHistory fault) ≡ no_room_to_tell) (reply_text (replies.NoHistory fault) ≡ lost_to_tell) old new count later
  history_told told stores.Lost same counts = (same, inr (refl, counts))
  history_told told stores.Memory same counts = (same, inl (inr refl, counts))

  -- a read, by whether it tells of a lost call
  pub read_told : (told no_room lost_call : Type 0) (lost : Bool) → IsUntouched old new → (lost ≡ true → lost_call × HasRisen count later) → (lost ≡ false → (told ⊎ no_room) × (later ≡ count))
      → TellsLook told no_room lost_call old new count later
  read_told told no_room lost_call true same lost kept = (same, inr (lost refl))
  read_told told no_room lost_call false same lost kept = (same, inl (kept refl))

  -- a snapshot that isn't told
  pub snapshot_told : (use_checkpoints : Bool) (fault : SnapshotFault) → IsSaid (says fault) (readable_log use_checkpoints old.0) → IsUntouched old new
      → (fault ≡ snapshots.Lost → HasRisen count later) → (fault ≢ snapshots.Lost → later ≡ count) → TellsSnapshotLine use_checkpoints (reply_text (replies.NoSnapshot fault)) old new count later
  snapshot_told use_checkpoints snapshots.Lost said same lost kept = (same, inr (refl, lost refl))
  snapshot_told use_checkpoints snapshots.Memory said same lost kept = (same, inl (inr refl, kept (λ wrong. cc)))
  snapshot_told use_checkpoints (snapshots.BadLog version) said same lost kept = (same, inl (inl (inr (_, said, refl)), kept (λ wrong. cc)))
  snapshot_told use_checkpoints (snapshots.Unsupported why) said same lost kept =
      (same, inl (inl (inr (_, said, ap (λ (text : List ℕ). with_newline (refused (codes "K8 Unsupported " ++ text))) (support_is why))), kept (λ wrong. cc)))
  snapshot_told use_checkpoints snapshots.TooLarge said same lost kept = absurd said

  -- the loss of a call that it tells of
  pub snapshot_loss : (fault : SnapshotFault) → (fault ≡ snapshots.Lost → HasRisen count later) → (fault ≢ snapshots.Lost → later ≡ count) → TellsLoss (look snapshot) (replies.NoSnapshot fault) count later
  snapshot_loss snapshots.Lost lost kept = record { lost = λ is. lost refl; counted = λ is. absurd cc; told_lost = λ is. refl }
  snapshot_loss _ lost kept = record { lost = λ is. absurd cc; counted = λ is. kept (λ wrong. cc); told_lost = λ is. absurd cc }

-- ---- a read

-- what a refusal of a read says is told, or that memory was wanted
pub refusal_answers : (fault : TailFault) (said : Result (List ℕ) ReadRefusal) → fault ≢ tail_faults.Lost → IsSaid (tails.says (tails.read_refusal_view fault)) said
    → (reply_text (replies.NotTailed fault) ≡ tailed_reply said) ⊎ (reply_text (replies.NotTailed fault) ≡ no_room_to_read)
refusal_answers tail_faults.Memory said unlost is = inr refl
refusal_answers tail_faults.Lost said unlost is = absurd (unlost refl)
refusal_answers tail_faults.BadOffsetText said unlost is = inl (sym (ap tailed_reply is))
refusal_answers (tail_faults.Unsupported fault) said unlost is = inl (sym (ap tailed_reply is))
refusal_answers (tail_faults.BeyondLog next) said unlost is = inl (sym (ap tailed_reply is))
refusal_answers (tail_faults.VersionGone first) said unlost is = inl (sym (ap tailed_reply is))
refusal_answers (tail_faults.RowsRemoved version) said unlost is = inl (sym (ap tailed_reply is))
refusal_answers (tail_faults.SchemaChanged version) said unlost is = inl (sym (ap tailed_reply is))
refusal_answers (tail_faults.BadPlace version) said unlost is = inl (sym (ap tailed_reply is))
refusal_answers (tail_faults.MissingFile path) said unlost is = inl (sym (ap tailed_reply is))
refusal_answers (tail_faults.BadFile version file fault) said unlost is = inl (sym (ap tailed_reply is))
refusal_answers (tail_faults.BadLog version) said unlost is = inl (sym (ap tailed_reply is))

-- ---- an object in hexadecimal

-- its digits are told, or that it doesn't stand
pub digits_told : (digits : List ℕ) (object : Option (List ℕ)) → Some digits ≡ option_map encode_lower object → with_newline digits ≡ in_hex object
digits_told digits None is = cc
digits_told digits (Some bytes) is = let same : digits ≡ encode_lower bytes = cc in ap with_newline same

pub none_told : (object : Option (List ℕ)) → None ≡ option_map encode_lower object → with_newline (refused (fault_text NoSuchName)) ≡ in_hex object
none_told None is = refl
none_told (Some bytes) is = cc
