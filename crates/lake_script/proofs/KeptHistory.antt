-- What is told of the versions of a store that keeps a table: a line for each entry.
use Rattle.std.proofs.Common.{◌≡◌, ℕ, suc, ◌<◌, List, [], ◌∷◌, ◌++◌, map, length, Option, Some, None, cond, refl, sym, ap, ap₂, ◌∙◌, append-nil, arith}
use Rattle.std.specs.Fmt.{decimal}
use Rattle.std.specs.List.{flat_map}
use Rattle.std.specs.Option.{is_none}
use Rattle.std.specs.Str.{IsUtf8}
use Rattle.schema_tree.specs.Tree.{Tree}
use Rattle.store_core.specs.Objects.{Objects}
use Rattle.delta_actions.specs.Action as actions
use Rattle.table_model.specs.Table.{Batch, Entry, creation, group, close}
use Rattle.serde_json.specs.Data.{Data}
use Rattle.delta_actions.specs.Action.{add, commit_info, domain_metadata, txn}
use Rattle.delta_actions.specs.In.{commit_info_in}
use Rattle.delta_replay.specs.Closes.{Closes}
use Rattle.commit_core.specs.TableCommits.{StandFor, without_commit_info, closed_domain}
use Rattle.commit_core.specs.Groups.{AreTxnsAndAdds, numbers}
use Rattle.commit_core.proofs.Callers.{named}
use Rattle.commit_core.proofs.Callers.{AreMadeFor}
use Rattle.commit_core.proofs.CloseLemmas.{closes_found}
use Rattle.table_log.specs.Versions.{commit}
use Rattle.commit_core.specs.Histories.{action_told, close_told, number_told, history_from, history_in, history_of, bad_log}
use Rattle.lake_script.specs.Tables as tables
use Rattle.lake_script.specs.Tables.{entry_told}
use Rattle.read_laws.specs.Kept.{KeepsTable}
use Rattle.read_laws.proofs.Callers.{made_of, are_made, versions_kept, has_commits}
use Rattle.commit_core.proofs.Callers.{says_so, versions_of_nothing}
use Rattle.outcomes.specs.Lines.{with_newline}

-- what tells only of the commit isn't told
silent : (action : actions.Action) (info : Data) → commit_info_in action ≡ Some info → action_told action ≡ []
silent (commit_info d) info is = refl
silent _ info is = absurd cc

-- one action in front, which may tell only of the commit
told_in_front : (action : actions.Action) (info : Option Data) (made : List actions.Action) → commit_info_in action ≡ info → flat_map action_told made ≡ flat_map action_told (without_commit_info made)
    → flat_map action_told (action ∷ made) ≡ flat_map action_told (cond (is_none info) (action ∷ without_commit_info made) (without_commit_info made))
told_in_front action None made is behind = ap (λ (told : List ℕ). action_told action ++ told) behind
told_in_front action (Some info) made is behind = rw (silent action info is) behind

told-without_commit_info : (made : List actions.Action) → flat_map action_told made ≡ flat_map action_told (without_commit_info made)
told-without_commit_info [] = refl
told-without_commit_info (action ∷ made) = told_in_front action (commit_info_in action) made refl (told-without_commit_info made)

-- of a group the numbers of its `txn` actions are told
group_told : (beside : List actions.Action) → AreTxnsAndAdds beside → flat_map action_told beside ≡ flat_map (λ n. number_told n.0 n.1) (numbers beside)
group_told [] only = refl
group_told (txn t ∷ beside) only = ap₂ (λ (a b : List ℕ). a ++ b) (append-nil (number_told t.app_id t.version)) (group_told beside only)
group_told (add a ∷ beside) only = group_told beside only
group_told (_ ∷ beside) only = absurd cc

-- and these are the numbers of its batches
batches_told : (bs : List Batch) → flat_map (λ n. number_told n.0 n.1) (map named bs) ≡ flat_map (λ b. number_told b.application b.number) bs
batches_told [] = refl
batches_told (b ∷ bs) = ap (λ (told : List ℕ). number_told b.application b.number ++ told) (batches_told bs)

-- a close is told
close_is_told : (application : List ℕ) → IsUtf8 application → action_told (domain_metadata (closed_domain application)) ≡ close_told application
close_is_told application text =
    let closes : Closes application (domain_metadata (closed_domain application)) =
    record { metadata = closed_domain application; is = refl; kept = refl; named = refl; says = says_so application; text = text } in
    rw (closes_found application (domain_metadata (closed_domain application)) closes) refl

-- what is told of a commit's actions is what is told of its entry
entry_is_told : (schema : Tree) (entry : Entry) (beside : List actions.Action) → StandFor schema entry beside → flat_map action_told beside ≡ entry_told entry
entry_is_told schema creation beside stand = rw stand.actions refl
entry_is_told schema (group bs) beside stand =
    group_told beside stand.only ∙ ap (flat_map (λ (n : List ℕ × ℕ). number_told n.0 n.1)) stand.numbered ∙ batches_told bs ∙ sym (append-nil (flat_map (λ (b : Batch). number_told b.application b.number) bs))
entry_is_told schema (close application) beside stand =
    rw stand.actions (ap (λ (told : List ℕ). told ++ []) (close_is_told application stand.text))

-- the lines of commits that stand for entries are those of the entries
lines_told : (objects : Objects) (schema : Tree) (version : ℕ) (entries : List Entry) (commits : List (List actions.Action)) → AreMadeFor objects schema entries commits → history_from version (map commit commits) ≡ tables.table_history_from version entries
unfolding history_from
lines_told objects schema version [] [] made = refl
lines_told objects schema version [] (first ∷ commits) made = absurd made
lines_told objects schema version (entry ∷ entries) [] made = absurd made
lines_told objects schema version (entry ∷ entries) (first ∷ commits) made =
    rw (lines_told objects schema (suc version) entries commits made.2)
    (ap (λ (told : List ℕ). with_newline (decimal version ++ told) ++ tables.table_history_from (suc version) entries) (told-without_commit_info first ∙ entry_is_told schema entry (without_commit_info first) made.0))

-- where a commit stands, its line is told
told_from_first : (commits : List (List actions.Action)) → 0 < length commits → history_in (map commit commits) ≡ history_from 0 (map commit commits)
told_from_first [] some = absurd (omega arith)
told_from_first (first ∷ commits) some = refl

-- What is told of the versions of a store that keeps a table is what is told of its entries.
pub history_told : (objects : Objects) (schema : Tree) (entries : List Entry) → KeepsTable objects schema entries → history_of objects ≡ tables.table_history_from 0 entries
history_told objects schema entries kept =
    let commits = made_of objects schema 0 entries kept.kept in
    rw (versions_kept objects schema entries kept)
    (told_from_first commits (has_commits objects schema entries kept) ∙ lines_told objects schema 0 entries commits (are_made objects schema 0 entries kept.kept))

-- a store of nothing has no log
pub history_of_nothing : history_of [] ≡ bad_log 0
history_of_nothing = rw versions_of_nothing refl
