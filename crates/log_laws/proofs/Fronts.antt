-- The first commits of a log leave what the first entries of its table tell.
use Rattle.std.proofs.Common.{◌≡◌, ◌∙◌, ℕ, suc, List, [], ◌∷◌, ◌++◌, length, Ok, sym, ap, subst}
use Rattle.store_core.specs.Objects.{Objects}
use Rattle.delta_actions.specs.Action as actions
use Rattle.table_log.specs.Versions.{commits_in, versions_from}
use Rattle.table_model.specs.Lawful.{IsLawful}
use Rattle.table_model.specs.Table.{Entry}
use Rattle.table_model.proofs.Callers.{Begins-front, lawful-front}
use Rattle.table_store.specs.Holds.{Holds, HoldsFirst}
use Rattle.table_store.specs.Schema.{Schema}
use Rattle.table_store.specs.Sound.{IsSound}
use Rattle.table_store.proofs.LawfulLogLemmas.{AreMadeFor}
use Rattle.log_laws.proofs.Growth.{lawful_table}
use Rattle.log_laws.proofs.LogEntries.{all_commits, are_made, commits_stand, held_first, made_of}

-- the first of what stands
first_of : (objects : Objects) (schema : Schema) (version : ℕ) (entries later : List Entry) → HoldsFirst objects schema version (entries ++ later) → HoldsFirst objects schema version entries
first_of objects schema version [] later stand = tt
first_of objects schema version (entry ∷ entries) later stand = (stand.0, stand.1, stand.2, first_of objects schema (suc version) entries later stand.3)

-- The first entries of a sound table stand, and are a lawful table.
pub front_stands : (objects : Objects) (schema : Schema) (entries later : List Entry) → IsSound objects → Holds objects schema (entries ++ later) → HoldsFirst objects schema 0 entries × IsLawful entries
front_stands objects schema entries later sound holds =
    let lawful = lawful_table objects sound schema (entries ++ later) holds in
    (first_of objects schema 0 entries later (held_first objects schema 0 (entries ++ later) holds), lawful-front entries later lawful (Begins-front entries later lawful.begins))

-- The first commits, where they are read, stand for the first entries.
pub front_made : (objects : Objects) (schema : Schema) (entries : List Entry) (commits : List (List actions.Action)) → HoldsFirst objects schema 0 entries → commits_in 0 (versions_from (length entries) 0 objects) ≡ Ok commits
    → AreMadeFor objects schema entries commits
front_made objects schema entries commits stand read =
    let made = made_of objects schema 0 entries stand in
    let both = sym (all_commits 0 made) ∙ (sym (ap (commits_in 0) (commits_stand objects schema 0 entries stand)) ∙ read) in
    let same : made ≡ commits = cc in
    subst (AreMadeFor objects schema entries) same (are_made objects schema 0 entries stand)
