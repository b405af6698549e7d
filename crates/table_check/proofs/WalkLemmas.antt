-- The walk over a log, a version at a time.
use Rattle.std.proofs.Common.{◌≡◌, ℕ, suc, List, [], ◌∷◌, ◌++◌, map, Some, Ok, refl, sym, ap, subst, ◌∙◌, add-one, length-append, arith, inl, inr}
use Rattle.std.specs.List.{AllByRecursion}
use Rattle.std.proofs.lemmas.Bool.{cases_lt}
use Rattle.std.proofs.lemmas.Simd.{map-map}
use Rattle.delta_actions.specs.Action.{Action}
use Rattle.delta_actions.specs.Commit.{IsCommit}
use Rattle.store_core.specs.Names.{commit_name}
use Rattle.delta_actions.specs.Printing.{IsPrintable}
use Rattle.delta_checkpoint.specs.Checkpoints.{IsCheckpoint}
use Rattle.delta_replay.specs.Keys.{last_number}
use Rattle.store_core.specs.Objects.{Objects, object_at}
use Rattle.table_log.specs.Restoring.{IsSoundCheckpoint, checkpoint_version}
use Rattle.table_log.specs.Versions.{commits_in, versions_from}
use Rattle.table_log.proofs.Callers.{front_behind, of_commit}
use Rattle.table_model.specs.Lawful.{IsLawful, Suits}
use Rattle.table_model.specs.Table as tables
use Rattle.table_model.specs.Table.{Batch, Entry, creation, group, close}
use Rattle.table_model.proofs.Callers.{last_number as last_of_numbers, new_is_lawful}
use Rattle.table_model.proofs.Kept.{each_push}
use Rattle.table_store.specs.Commits.{IsCommitOf}
use Rattle.table_store.specs.Holds.{FilesStand}
use Rattle.table_store.specs.Schema.{Schema}
use Rattle.table_store.proofs.GivenFiles.{files_stand}
use Rattle.table_store.proofs.HeldLemmas.{HoldsFirst-push}
use Rattle.table_store.proofs.LawfulLogLemmas.{AreMadeFor}
use Rattle.log_laws.proofs.Callers.{front_made, log_last, log_open}
use Rattle.table_check.specs.Below.{AreCheckpointsSoundBelow}
use Rattle.table_check.specs.Following.{AreNewIn, IsAboveLast, IsNewToTable, IsNewIn, MayFollow}
use Rattle.table_check.specs.Walked.{IsWalked}
use Rattle.table_check.proofs.LawfulNext.{close_kept, group_kept}

-- the application and the number of a batch
abbrev named : Batch → List ℕ × ℕ
named b = (b.application, b.number)

module _ (objects : Objects) where
  -- one commit more is read
  one_read : (version : ℕ) (bytes : List ℕ) (made : List Action) → object_at objects (commit_name version) ≡ Some bytes → IsCommit bytes made → commits_in version (versions_from 1 version objects) ≡ Ok (made ∷ [])
  unfolding versions_from
  one_read version bytes made there lines = rw (there, of_commit bytes made lines) refl

  -- The first commit is walked over.
  pub first_walked : (schema : Schema) (bytes : List ℕ) (made : List Action) → object_at objects (commit_name 0) ≡ Some bytes → IsCommitOf schema creation bytes → IsCommit bytes made → AllByRecursion IsPrintable made
      → IsWalked objects schema 1 (made ∷ [])
  first_walked schema bytes made there commit lines printable = record {
    later = [];
    stand = ((bytes, there, commit), files_stand objects schema creation tt, tt, tt);
    lawful = new_is_lawful;
    at = refl;
    read = one_read 0 bytes made there lines;
    printable = (printable, tt);
  }

  module _ (schema : Schema) (version : ℕ) (log : List (List Action)) (walked : IsWalked objects schema version log) where
    pub made_for : AreMadeFor objects schema (creation ∷ walked.later) log
    made_for = front_made objects schema (creation ∷ walked.later) log walked.stand (subst (λ (v : ℕ). commits_in 0 (versions_from v 0 objects) ≡ Ok log) (sym walked.at) walked.read)

    -- what is new in the log is new in the table
    new_batch : (b : Batch) → IsNewIn log (named b) → IsNewToTable (creation ∷ walked.later) b
    new_batch b new =
        let entries = creation ∷ walked.later in
        let last : last_number b.application log ≡ tables.last_item (tables.numbers_by b.application entries) =
        log_last objects schema b.application entries log made_for ∙ sym (last_of_numbers b.application entries) in
        (subst (IsAboveLast b.number) last new.0, log_open objects schema b.application entries log made_for new.1)

    new_batches : (bs : List Batch) → AllByRecursion (IsNewIn log) (map named bs) → AllByRecursion (IsNewToTable (creation ∷ walked.later)) bs
    new_batches [] new = tt
    new_batches (b ∷ bs) new = (new_batch b new.0, new_batches bs new.1)

    suits : (bs : List Batch) → AreNewIn log (map named bs) → Suits (creation ∷ walked.later) (group bs)
    suits bs new = (
      λ none. new.0 (ap (map named) none),
      rw (map-map (λ (n : List ℕ × ℕ). n.0) named bs) at new.1,
    )

    lawful_with : (entry : Entry) → MayFollow log entry → IsLawful ((creation ∷ walked.later) ++ entry ∷ [])
    lawful_with creation may = absurd may
    lawful_with (group bs) may = group_kept walked.later bs walked.lawful (suits bs may) (new_batches bs may.2)
    lawful_with (close application) may = close_kept application walked.later walked.lawful

    -- A commit more is walked over.
    pub more_walked : (entry : Entry) (bytes : List ℕ) (made : List Action) → object_at objects (commit_name version) ≡ Some bytes → IsCommitOf schema entry bytes → IsCommit bytes made
        → AllByRecursion IsPrintable made → FilesStand objects schema entry → MayFollow log entry → IsWalked objects schema (suc version) (log ++ made ∷ [])
    more_walked entry bytes made there commit lines printable files may = record {
      later = walked.later ++ entry ∷ [];
      stand = HoldsFirst-push objects schema 0 version (creation ∷ walked.later) entry (omega (arith, walked.at)) walked.stand (bytes, there, commit) files;
      lawful = lawful_with entry may;
      at = omega (arith, walked.at, length-append walked.later (entry ∷ []));
      read = subst (λ (v : ℕ). commits_in 0 (versions_from v 0 objects) ≡ Ok (log ++ made ∷ [])) (add-one version) (front_behind version 1 objects log (made ∷ []) walked.read (one_read version bytes made there lines));
      printable = each_push (AllByRecursion IsPrintable) log made walked.printable printable;
    }

  -- a checkpoint of the commits that were walked over
  pub checkpoint_walked : (schema : Schema) (version : ℕ) (log : List (List Action)) (bytes : List ℕ) → IsWalked objects schema (suc version) log → IsCheckpoint bytes version log → IsSoundCheckpoint objects version bytes
  checkpoint_walked schema version log bytes walked checkpoint = record { commits = log; stand = walked.read; checkpoint = checkpoint }

  -- the checkpoints of a version more
  pub sound_below_more : (version : ℕ) → AreCheckpointsSoundBelow objects version
      → ((name bytes : List ℕ) → checkpoint_version name ≡ Some version → object_at objects name ≡ Some bytes → IsSoundCheckpoint objects version bytes) → AreCheckpointsSoundBelow objects (suc version)
  sound_below_more version below own name at bytes told low there =
      elim (cases_lt at version) [
        | inl before ↦ below name at bytes told before there
        | inr past ↦
            let same : at ≡ version = omega (arith, low, past) in
            subst (λ (v : ℕ). IsSoundCheckpoint objects v bytes) (sym same) (own name bytes (subst (λ (v : ℕ). checkpoint_version name ≡ Some v) same told) there)
      ]
