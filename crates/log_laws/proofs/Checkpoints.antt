-- A checkpoint, alone and with commits behind it, leaves what the first commits of its log leave.
use Rattle.std.proofs.Common.{◌≡◌, ◌∙◌, ℕ, suc, ◌+◌, List, [], ◌∷◌, ◌++◌, Ok, ap}
use Rattle.store_core.specs.Objects.{Objects}
use Rattle.delta_actions.specs.Action.{Action}
use Rattle.delta_actions.specs.Commit.{IsCommit}
use Rattle.table_log.proofs.Callers.{checkpoint_leaves, one_commit}
use Rattle.delta_replay.specs.Keys.{Key, at}
use Rattle.table_log.specs.Restoring.{IsSoundCheckpoint}
use Rattle.table_log.specs.Versions.{commits_in, versions_from}
use Rattle.table_log.proofs.Callers.{front_behind, same_behind}

module _ (objects : Objects) (version : ℕ) (bytes : List ℕ) (actions : List Action) (sound : IsSoundCheckpoint objects version bytes) (lines : IsCommit bytes actions) where
  -- alone
  alone : (key : Key) → at key (actions ∷ []) ≡ at key sound.commits
  alone key =
      let same : actions ≡ sound.checkpoint.actions = one_commit bytes actions sound.checkpoint.actions lines sound.checkpoint.lines in
      ap (λ (own : List Action). at key (own ∷ [])) same ∙ checkpoint_leaves bytes version sound.commits sound.checkpoint key

  -- With the commits of later versions behind it.
  pub checkpoint_front : (count : ℕ) (later : List (List Action)) → commits_in (suc version) (versions_from count (suc version) objects) ≡ Ok later
      → (commits : List (List Action)) × (commits_in 0 (versions_from (suc version + count) 0 objects) ≡ Ok commits) × ((key : Key) → at key (actions ∷ later) ≡ at key commits)
  checkpoint_front count later read =
      (sound.commits ++ later, front_behind (suc version) count objects sound.commits later sound.stand read, same_behind (actions ∷ []) sound.commits later alone)
