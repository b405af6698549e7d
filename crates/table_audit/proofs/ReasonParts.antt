-- What a reason says, from the parts that it is told of.
use Rattle.std.proofs.Common.{◌≡◌, ◌<◌, ℕ, suc, List, [], ◌∷◌, Contains, Some, Ok, String, Global, length, get_or, map, string_bytes, refl, sym, ap, subst, ◌∙◌, arith}
use Rattle.std.proofs.lemmas.List.{get_or-map, length-map}
use Rattle.delta_actions.specs.Action as actions
use Rattle.delta_actions.specs.Action.{AddAction}
use Rattle.delta_actions.specs.Commit.{IsCommit}
use Rattle.delta_actions.specs.Names.{data_file_name}
use Rattle.delta_actions.specs.declared.fault.ActionFault.{ActionFault}
use Rattle.store_core.specs.Names.{commit_name}
use Rattle.store_core.specs.Objects.{Objects, object_at}
use Rattle.table_check.specs.Walked.{IsWalked}
use Rattle.table_log.specs.Restoring.{checkpoint_version}
use Rattle.table_log.specs.Versions.{commits_in, versions_from}
use Rattle.table_model.specs.Table.{Batch}
use Rattle.table_store.specs.Commits.{without_commit_info}
use Rattle.table_store.specs.Groups.{added, numbers}
use Rattle.table_store.specs.Schema.{Schema}
use Rattle.table_store.proofs.GroupLemmas.{files_count}
use Rattle.table_audit.specs.Reasons.{AreNoFiles, AreOld, AreTogether, IsCommitBehind, IsNoBatch, IsNoClose, IsNoFile, IsNoNext, IsOldNumber, IsOtherCheckpoint, IsReasonOf, IsUnread}
use Rattle.table_audit.specs.Walks.{IsWalk}
use Rattle.table_audit.specs.declared.reason.Reason.{Reason}
use Rattle.table_audit.specs.declared.reason.Reason.TheVariants.{BadCommit, NoCreation, NoEntry, Twice, NotAbove, Closed, OtherFile, CommitBehindGap, CheckpointBehindGap, BadCheckpoint, OtherCheckpoint}
use Rattle.table_audit.specs.declared.walk.Walk.{Walk}

-- what is at a place is one of all
pub contains_at : {A B : Type 0} (f : A → B) (xs : List A) (i : ℕ) (x : A) → i < length xs → x ≡ get_or xs i x → Contains (map f xs) (f x)
contains_at f xs i x low at = (i, omega (arith, low, length-map xs f), get_or-map f xs i x (f x) low ∙ ap f (sym at))

-- ---- of one to of all

pub one_old : (log : List (List actions.Action)) (version : ℕ) (ns : List (List ℕ × ℕ)) (n : List ℕ × ℕ) (reason : Reason) → Contains ns n → IsOldNumber log n reason → AreOld log version ns reason
one_old log version ns n (NoEntry at) among is = absurd is
one_old log version ns n (Twice at application) among is = absurd is
one_old log version ns n _ among is = (n, among, is)

pub batch_by_file : (objects : Objects) (schema : Schema) (n : List ℕ × ℕ) (file : AddAction) (reason : Reason) → IsNoFile objects schema (data_file_name n.0 n.1) reason → IsNoBatch objects schema n file reason
batch_by_file objects schema n file (OtherFile number application) is = absurd is
batch_by_file objects schema n file _ is = is

pub one_no_file : (objects : Objects) (schema : Schema) (version : ℕ) (ns : List (List ℕ × ℕ)) (files : List AddAction) (n : List ℕ × ℕ) (file : AddAction) (reason : Reason)
    → AreTogether ns files n file → IsNoBatch objects schema n file reason → AreNoFiles objects schema version ns files reason
one_no_file objects schema version ns files n file (NoEntry at) together is = absurd is
one_no_file objects schema version ns files n file _ together is = (n, file, together, is)

-- ---- a commit's actions

no_batches : (bs : List Batch) → map {A = Batch} {B = List ℕ × ℕ} (λ b. (b.application, b.number)) bs ≡ [] → bs ≡ []
no_batches [] is = refl
no_batches (b ∷ bs) is = absurd cc

module _ (objects : Objects) (schema : Schema) (version : ℕ) (log : List (List actions.Action)) (beside : List actions.Action) where
  pub next_by_numbers : (reason : Reason) → AreOld log version (numbers beside) reason → IsNoNext objects schema version log beside reason
  next_by_numbers (NoEntry at) is = (is.0, λ bs some group. some (no_batches bs (sym group.numbered ∙ is.1)))
  next_by_numbers (Twice at application) is = is
  next_by_numbers (NotAbove number application last) is = is
  next_by_numbers (Closed number application) is = is
  next_by_numbers _ is = absurd is.2

  pub next_by_files : (reason : Reason) → AreNoFiles objects schema version (numbers beside) (added beside) reason → IsNoNext objects schema version log beside reason
  next_by_files (NoEntry at) is = (is.0, λ bs some group. is.1 (files_count (numbers beside) (added beside) group.files))
  next_by_files (Twice at application) is = absurd is.3
  next_by_files (NotAbove number application last) is = absurd is.3
  next_by_files (Closed number application) is = absurd is.3
  next_by_files _ is = is

  pub reason_behind : (reason : Reason) → IsCommitBehind objects schema version log beside → IsNoNext objects schema version log beside reason → IsReasonOf objects version reason
  reason_behind (BadCommit at fault) behind is = absurd is.3
  reason_behind NoCreation behind is = absurd is.3
  reason_behind (CommitBehindGap at) behind is = absurd is.3
  reason_behind (CheckpointBehindGap name) behind is = absurd is.3
  reason_behind (BadCheckpoint name fault) behind is = absurd is.3
  reason_behind (OtherCheckpoint name) behind is = absurd is.3
  reason_behind _ behind is = (schema, log, beside, behind, is)

  -- a commit behind those that were walked over
  pub behind_walked : IsWalked objects schema version log → (bytes : List ℕ) (made : List actions.Action) → object_at objects (commit_name version) ≡ Some bytes → IsCommit bytes made → beside ≡ without_commit_info made → IsNoClose beside
      → IsCommitBehind objects schema version log beside
  behind_walked walked bytes made there lines is no_close = record {
    created = walked.stand.0;
    before = walked.read;
    stands = (bytes, there, (made, lines, is));
    no_close = no_close;
  }

-- seen through the numbers and the files that were picked
pub old_picked : (log : List (List actions.Action)) (version : ℕ) (reason : Reason) (ns picked : List (List ℕ × ℕ)) → ns ≡ picked → AreOld log version picked reason → AreOld log version ns reason
old_picked log version reason ns picked same is = subst (λ (ms : List (List ℕ × ℕ)). AreOld log version ms reason) (sym same) is

pub no_files_seen : (objects : Objects) (schema : Schema) (version : ℕ) (reason : Reason) (ns picked : List (List ℕ × ℕ)) (files taken : List AddAction) → ns ≡ picked → files ≡ taken
    → AreNoFiles objects schema version picked taken reason → AreNoFiles objects schema version ns files reason
no_files_seen objects schema version reason ns picked files taken same alike is =
    subst (λ (ms : List (List ℕ × ℕ)). AreNoFiles objects schema version ms files reason) (sym same) (subst (λ (fs : List AddAction). AreNoFiles objects schema version picked fs reason) (sym alike) is)

-- ---- a checkpoint

module _ (objects : Objects) (version : ℕ) (name bytes : List ℕ) (told : String Global) (same : string_bytes told ≡ name) (tells : checkpoint_version name ≡ Some version) (there : object_at objects name ≡ Some bytes) where
  pub bad_checkpoint : (fault : ActionFault) → IsUnread fault bytes → IsReasonOf objects version (BadCheckpoint told fault)
  bad_checkpoint fault unread = (ap checkpoint_version same ∙ tells, (bytes, ap (object_at objects) same ∙ there, unread))

  pub other_checkpoint : (walk : Walk) (is : IsWalk objects walk) → walk.next ≡ suc version → IsOtherCheckpoint version is.log bytes → IsReasonOf objects version (OtherCheckpoint told)
  other_checkpoint walk is last other = (ap checkpoint_version same ∙ tells, (is.log, read, (bytes, ap (object_at objects) same ∙ there, other)))
    where
      read : commits_in 0 (versions_from (suc version) 0 objects) ≡ Ok is.log
      read = subst (λ (v : ℕ). commits_in 0 (versions_from v 0 objects) ≡ Ok is.log) last is.walked.read
