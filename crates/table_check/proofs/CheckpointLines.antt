-- Which lines are a checkpoint's: the same as another's, in any order.
use Rattle.std.proofs.Common.{◌≡◌, ℕ, ◌≤◌, true, not, List, [], ◌∷◌, length, map, Option, Some, None, Result, Ok, Err, refl, sym, ap, ap₂, subst, ◌∙◌, arith}
use Rattle.std.specs.Prelude.{filter, option_to_list}
use Rattle.std.specs.List.{AllByRecursion}
use Rattle.std.specs.List.Sorted.{IsPermutation}
use Rattle.std.proofs.lemmas.List.Sorted.{Contains-permutation, IsPermutation-map, IsPermutation-sym, IsPermutation-trans}
use Rattle.serde_json.specs.Data.{null}
use Rattle.delta_actions.specs.Action.{Action, CheckpointMetadataAction, checkpoint_metadata, other}
use Rattle.delta_actions.specs.Actions.{action_of_line}
use Rattle.delta_actions.specs.Commit.{IsCommit}
use Rattle.delta_actions.specs.Wrong.{Wrong}
use Rattle.delta_checkpoint.specs.Checkpoints.{IsCheckpoint, is_metadata}
use Rattle.delta_checkpoint.proofs.Restored.{one_commit}
use Rattle.delta_replay.specs.Keys.{Key, the_protocol, the_meta_data, number_of, domain_of, file_of, at, is_of}
use Rattle.delta_replay.specs.Whole.{HasKey}
use Rattle.table_check.specs.Lines.{AreLinesOf, ArePrintedOf}
use Rattle.table_check.proofs.Counts.{Among, all_from, among_from, among_kept, among_to, count, count_permuted, each_among, kept_among, kept_of_kept, one_kept}

-- ---- lines tell their actions

-- the action of a line that reads as one
action_or : Result Action Wrong → Action
action_or (Ok action) = action
action_or (Err wrong) = other [] null

-- lines that were printed of actions read as them
read_again : (lines : List (List ℕ)) (actions : List Action) → ArePrintedOf lines actions → map (λ line. action_or (action_of_line line)) lines ≡ actions
unfolding action_or
read_again [] [] printed = refl
read_again [] (action ∷ actions) printed = absurd printed
read_again (line ∷ lines) [] printed = absurd printed
read_again (line ∷ lines) (action ∷ actions) printed = ap₂ (λ (x : Action) (xs : List Action). x ∷ xs) (ap action_or printed.1) (read_again lines actions printed.2)

-- actions of the same lines are the same, in some order
pub same_actions : (lines : List (List ℕ)) (actions others : List Action) → AreLinesOf lines actions → AreLinesOf lines others → IsPermutation actions others
same_actions lines actions others first second =
    let read : List ℕ → Action = λ line. action_or (action_of_line line) in
    let texts = IsPermutation-trans first.printed lines second.printed first.same (IsPermutation-sym second.printed lines second.same) in
    let both = IsPermutation-map read first.printed second.printed texts in
    subst (λ (xs : List Action). IsPermutation xs others) (read_again first.printed actions first.are)
    (subst (λ (xs : List Action). IsPermutation (map read first.printed) xs) (read_again second.printed others second.are) both)

-- ---- what tells of the checkpoint is of no key

no_key : (m : CheckpointMetadataAction) (key : Key) → is_of key (checkpoint_metadata m) ≡ true → ⊥
no_key m the_protocol is = cc
no_key m the_meta_data is = cc
no_key m (number_of application) is = cc
no_key m (domain_of domain) is = cc
no_key m (file_of path) is = cc

other_with_key : (key : Key) (action : Action) → is_of key action ≡ true → not (is_metadata action) ≡ true
other_with_key key (checkpoint_metadata m) is = absurd (no_key m key is)
other_with_key key action is = refl

-- one at most
one_at_most : (o : Option Action) → length (option_to_list o) ≤ 1
one_at_most None = omega arith
one_at_most (Some action) = omega arith

-- those of a key stand among the others
pub among_others : (key : Key) (actions : List Action) → filter (is_of key) (filter (λ action. not (is_metadata action)) actions) ≡ filter (is_of key) actions
among_others key actions = kept_of_kept (is_of key) (λ action. not (is_metadata action)) actions (λ action among is. other_with_key key action is)

-- ---- the same actions in another order

module _ (bytes others : List ℕ) (version : ℕ) (log : List (List Action)) (actions : List Action) (lines : IsCommit bytes actions) (own : IsCheckpoint others version log) (same : IsPermutation actions own.actions) where
  there : (x : Action) → Among x actions → Among x own.actions
  there x among = among_from x own.actions (Contains-permutation actions own.actions x same (among_to x actions among))

  told : filter is_metadata actions ≡ checkpoint_metadata (record { version = version }) ∷ []
  told = one_kept is_metadata actions own.actions there (count_permuted is_metadata actions own.actions same) (omega (arith, ap length own.told)) ∙ own.told

  keys : (key : Key) → filter (is_of key) (filter (λ action. not (is_metadata action)) actions) ≡ option_to_list (at key log)
  keys key =
      let of_own : filter (is_of key) own.actions ≡ option_to_list (at key log) = sym (among_others key own.actions) ∙ own.whole.keys key in
      let few : count (is_of key) own.actions ≤ 1 = omega (arith, ap length of_own, one_at_most (at key log)) in
      among_others key actions ∙ (one_kept (is_of key) actions own.actions there (count_permuted (is_of key) actions own.actions same) few ∙ of_own)

  known : AllByRecursion HasKey (filter (λ action. not (is_metadata action)) actions)
  known = all_from HasKey (filter (λ action. not (is_metadata action)) actions) (λ x among.
      let kept = among_kept (λ action. not (is_metadata action)) x actions among in
      each_among HasKey x (filter (λ action. not (is_metadata action)) own.actions) own.whole.known (kept_among (λ action. not (is_metadata action)) x own.actions (there x kept.0) kept.1))

  -- The same actions as a checkpoint's, in another order, are a checkpoint too.
  pub reordered : IsCheckpoint bytes version log
  reordered = record { actions = actions; lines = lines; told = told; whole = record { keys = keys; known = known } }

-- Lines that are the same as those of a checkpoint are one.
pub same_lines : (bytes others : List ℕ) (version : ℕ) (log : List (List Action)) (lines : List (List ℕ)) (actions own : List Action) → IsCommit bytes actions → IsCommit others own → AreLinesOf lines actions → AreLinesOf lines own
    → IsCheckpoint others version log → IsCheckpoint bytes version log
same_lines bytes others version log lines actions own read own_read first second is =
    let one : own ≡ is.actions = one_commit others own is.actions own_read is.lines in
    reordered bytes others version log actions read is (subst (IsPermutation actions) one (same_actions lines actions own first second))
