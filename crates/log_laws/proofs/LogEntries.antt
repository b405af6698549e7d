-- The log of a sound store: a commit for each entry, and as many versions as there are entries.
use Rattle.std.proofs.Common.{◌≡◌, ℕ, suc, ◌+◌, ◌<◌, ◌≤◌, false, true, List, [], ◌∷◌, map, length, IsSome, Ok, refl, sym, ap, subst, ◌∙◌, add-one, arith, inl, inr}
use Rattle.std.proofs.lemmas.Bool.{cases_eq, cases_lt}
use Rattle.store_core.specs.Objects.{Objects, object_at}
use Rattle.delta_actions.specs.Action as actions
use Rattle.store_core.specs.Names.{commit_name, greatest_version}
use Rattle.table_log.specs.Counts.{commit_count}
use Rattle.table_log.specs.Versions.{commit, versions_from, versions_of, commits_in, commits_of, log_of}
use Rattle.table_log.proofs.Callers.{count_is, of_commit, stands_below}
use Rattle.table_model.specs.Lawful.{Begins}
use Rattle.table_model.specs.Table.{Entry, creation, group, close}
use Rattle.table_store.specs.Holds.{HoldsFirst, HoldsFrom}
use Rattle.table_store.specs.Schema.{Schema}
use Rattle.table_store.specs.Sound.{IsSound}
use Rattle.table_store.proofs.HoldingEnds.{HoldsFrom-fit}
use Rattle.table_store.proofs.LawfulLogLemmas.{AreMadeFor}

-- ---- how many versions there are

-- each commit from a version on stands
stands_at : (objects : Objects) (schema : Schema) (version wanted : ℕ) (entries : List Entry) → HoldsFrom objects schema version entries → version ≤ wanted → wanted < version + length entries
    → IsSome (object_at objects (commit_name wanted))
stands_at objects schema version wanted [] holds low high = absurd (omega arith)
stands_at objects schema version wanted (entry ∷ entries) holds low high =
    elim (cases_eq wanted version) [
      | inl here ↦ rw (here, holds.0.1) refl
      | inr later ↦ stands_at objects schema (suc version) wanted entries holds.3 (omega (arith, later)) (omega arith)
    ]

module _ (objects : Objects) (sound : IsSound objects) where
  -- each entry has a version that a commit can have
  entries_fit : length sound.entries ≤ suc greatest_version
  entries_fit = omega (arith, HoldsFrom-fit objects sound.schema 0 sound.entries sound.holds)

  -- there are as many entries as versions, or fewer
  few_entries : length sound.entries ≤ commit_count objects
  few_entries =
      elim (cases_lt (commit_count objects) (length sound.entries)) [
        | inr few ↦ few
        | inl many ↦
            let there : IsSome (object_at objects (commit_name (commit_count objects))) = stands_at objects sound.schema 0 (commit_count objects) sound.entries sound.holds (omega arith) (omega (arith, many)) in
            let below : commit_count objects < commit_count objects = stands_below objects (commit_count objects) (omega (arith, many, entries_fit)) there in
            absurd (omega (arith, below))
      ]

  -- A sound store has as many versions as its table has entries.
  pub sound_count : commit_count objects ≡ length sound.entries
  sound_count = count_is objects (length sound.entries) entries_fit below stands
    where
      below : (version : ℕ) → version ≤ greatest_version → IsSome (object_at objects (commit_name version)) → version < length sound.entries
      below version fits there =
          elim (cases_lt version (length sound.entries)) [
            | inl low ↦ low
            | inr past ↦ let none : false ≡ true = rw (sound.ends version past fits) at there in absurd cc
          ]

      stands : (version : ℕ) → suc version ≡ length sound.entries → IsSome (object_at objects (commit_name version))
      stands version is = stands_at objects sound.schema 0 version sound.entries sound.holds (omega arith) (omega (arith, is))

-- ---- what stands at each

-- what is held is held first
abbrev pub held_first : (objects : Objects) (schema : Schema) (version : ℕ) (entries : List Entry) → HoldsFrom objects schema version entries → HoldsFirst objects schema version entries
held_first objects schema version [] holds = tt
held_first objects schema version (entry ∷ entries) holds = (holds.0, holds.1, holds.2, held_first objects schema _ entries holds.3)

module _ (objects : Objects) (schema : Schema) where
  -- the actions of the commits that stand
  abbrev pub made_of : (version : ℕ) (entries : List Entry) → HoldsFirst objects schema version entries → List (List actions.Action)
  made_of version [] stand = []
  made_of version (entry ∷ entries) stand = stand.0.2.actions ∷ made_of (suc version) entries stand.3

  -- they stand for the entries
  pub are_made : (version : ℕ) (entries : List Entry) (stand : HoldsFirst objects schema version entries) → AreMadeFor objects schema entries (made_of version entries stand)
  are_made version [] stand = tt
  are_made version (entry ∷ entries) stand = (stand.0.2.stand, stand.1, are_made (suc version) entries stand.3)

  -- they are what the versions have
  pub commits_stand : (version : ℕ) (entries : List Entry) (stand : HoldsFirst objects schema version entries) → versions_from (length entries) version objects ≡ map commit (made_of version entries stand)
  unfolding versions_from
  commits_stand version [] stand = refl
  commits_stand version (entry ∷ entries) stand =
      let more : versions_from (length entries) (suc version) objects ≡ map commit (made_of (suc version) entries stand.3) = commits_stand (suc version) entries stand.3 in
      rw (stand.0.1, of_commit stand.0.0 stand.0.2.actions stand.0.2.commit, add-one, more) refl

-- there is a commit for each entry
pub made_length : (objects : Objects) (schema : Schema) (entries : List Entry) (commits : List (List actions.Action)) → AreMadeFor objects schema entries commits → length commits ≡ length entries
made_length objects schema [] [] made = refl
made_length objects schema [] (first ∷ commits) made = absurd made
made_length objects schema (entry ∷ entries) [] made = absurd made
made_length objects schema (entry ∷ entries) (first ∷ commits) made = ap suc (made_length objects schema entries commits made.2)

-- ---- the log

-- where each version has a commit, there are all of them
pub all_commits : (version : ℕ) (commits : List (List actions.Action)) → commits_in version (map commit commits) ≡ Ok commits
all_commits version [] = refl
all_commits version (made ∷ commits) = rw (all_commits (suc version) commits) refl

-- and they are a log's, where there is one
pub some_commits : (commits : List (List actions.Action)) → 0 < length commits → commits_of (map commit commits) ≡ Ok commits
some_commits [] some = absurd (omega arith)
some_commits (made ∷ commits) some = all_commits 0 (made ∷ commits)

-- The commits of a log that can be read: they stand for the entries, of which the first is the creation.
pub record IsLogOfEntries (objects : Objects) (schema : Schema) (entries : List Entry) (commits : List (List actions.Action)) : Type 0 where
  pub rest : List Entry
  pub begins : entries ≡ creation ∷ rest
  pub made : AreMadeFor objects schema entries commits

-- commits that are read for entries are a log of them
log_by : (objects : Objects) (schema : Schema) (entries : List Entry) (made commits : List (List actions.Action)) → Begins entries → AreMadeFor objects schema entries made
    → commits_of (map commit made) ≡ Ok commits → IsLogOfEntries objects schema entries commits
log_by objects schema [] [] commits begins are told = absurd cc
log_by objects schema [] (first ∷ made) commits begins are told = absurd are
log_by objects schema (creation ∷ rest) [] commits begins are told = absurd are
log_by objects schema (creation ∷ rest) (first ∷ made) commits begins are told =
    let read = sym (all_commits 0 (first ∷ made)) ∙ told in
    let same : first ∷ made ≡ commits = cc in
    record { rest = rest; begins = refl; made = subst (AreMadeFor objects schema (creation ∷ rest)) same are }
log_by objects schema (group bs ∷ rest) made commits begins are told = absurd begins
log_by objects schema (close application ∷ rest) made commits begins are told = absurd begins

-- The log of a sound store, where it can be read, has a commit for each entry.
pub sound_log : (objects : Objects) (sound : IsSound objects) → (commits : List (List actions.Action)) → log_of objects ≡ Ok commits → IsLogOfEntries objects sound.schema sound.entries commits
unfolding log_of
sound_log objects sound commits told =
    let stand = held_first objects sound.schema 0 sound.entries sound.holds in
    let made = made_of objects sound.schema 0 sound.entries stand in
    let versions : versions_of objects ≡ map commit made =
    ap (λ (count : ℕ). versions_from count 0 objects) (sound_count objects sound) ∙ commits_stand objects sound.schema 0 sound.entries stand in
    log_by objects sound.schema sound.entries made commits sound.lawful.begins (are_made objects sound.schema 0 sound.entries stand) (rw versions at told)
