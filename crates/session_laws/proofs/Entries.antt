-- Which entries of a table stand in a store, and the files of their batches.
use Rattle.std.proofs.Common.{◌≡◌, ◌∙◌, ◌<◌, ◌≤◌, ◌+◌, ℕ, zero, suc, List, [], ◌∷◌, length, slice_get, Option, Some, None, Contains, inl, inr, refl, sym, ap, subst, arith}
use Rattle.std.proofs.lemmas.Bool.{cases_lt}
use Rattle.std.proofs.lemmas.List.Elements.{Contains-append_cases}
use Rattle.store_core.specs.Objects.{Objects, object_at}
use Rattle.delta_actions.specs.Action as actions
use Rattle.delta_actions.specs.Commit.{IsCommit}
use Rattle.store_core.specs.Names.{commit_name, greatest_version}
use Rattle.table_model.specs.Table.{Batch, Entry, batches, batches_of}
use Rattle.table_model.proofs.Callers.{each_has}
use Rattle.table_store.specs.Commits.{IsCommitOf, StandFor, without_commit_info}
use Rattle.table_store.specs.Holds.{FileStands, FilesStand, Holds, HoldsFrom, HoldsFirst, Stands}
use Rattle.table_store.specs.Schema.{Schema}
use Rattle.table_store.specs.Sound.{IsSound}
use Rattle.table_store.proofs.Callers.{batch_files}
use Rattle.table_store.proofs.HoldingOne.{one_commit, one_entry, some_is}
use Rattle.commit_core.proofs.Callers.{count_held, sound_count}

-- ---- files

-- the file of each batch stands
pub batch_file : (objects : Objects) (schema : Schema) (version : ℕ) (entries : List Entry) (b : Batch) → HoldsFirst objects schema version entries → Contains (batches entries) b → FileStands objects schema b
batch_file objects schema version [] b stand has = absurd (omega (arith, has.1))
batch_file objects schema version (entry ∷ entries) b stand has =
    elim (Contains-append_cases (batches_of entry) (batches entries) b has) [
      | inl here ↦ each_has (FileStands objects schema) (batches_of entry) b (batch_files objects schema entry stand.1) here
      | inr later ↦ batch_file objects schema (suc version) entries b stand.3 later
    ]

-- ---- versions

-- what stands at a version of a table
pub record IsEntryAt (objects : Objects) (schema : Schema) (entries : List Entry) (place version : ℕ) : Type 0 where
  pub entry : Entry
  pub is : slice_get entries place ≡ Some entry
  pub stands : Stands objects (commit_name version) (IsCommitOf schema entry)
  pub files : FilesStand objects schema entry

entry_later : (objects : Objects) (schema : Schema) (first : Entry) (entries : List Entry) (place version : ℕ) → IsEntryAt objects schema entries place version → IsEntryAt objects schema (first ∷ entries) (suc place) version
entry_later objects schema first entries place version at = record { entry = at.entry; is = at.is; stands = at.stands; files = at.files }

pub entry_at : (objects : Objects) (schema : Schema) (from place : ℕ) (entries : List Entry) → HoldsFrom objects schema from entries → place < length entries → IsEntryAt objects schema entries place (from + place)
entry_at objects schema from place [] holds within = absurd (omega (arith, within))
entry_at objects schema from zero (entry ∷ entries) holds within =
    let here : from ≡ from + 0 = omega arith in
    subst (λ (v : ℕ). IsEntryAt objects schema (entry ∷ entries) 0 v) here (record { entry = entry; is = refl; stands = holds.0; files = holds.1 })
entry_at objects schema from (suc place) (entry ∷ entries) holds within =
    let there : suc from + place ≡ from + suc place = omega arith in
    subst (λ (v : ℕ). IsEntryAt objects schema (entry ∷ entries) (suc place) v) there (entry_later objects schema entry entries place (suc from + place) (entry_at objects schema (suc from) place entries holds.3 (omega (arith, within))))

-- ---- what stands under a commit's name

module _ (objects : Objects) (schema : Schema) (entries : List Entry) (sound : IsSound objects) (holds : Holds objects schema entries) where
  -- no commit stands past the table's entries
  pub within_table : (version : ℕ) (bytes : List ℕ) → version ≤ greatest_version → object_at objects (commit_name version) ≡ Some bytes → version < length entries
  within_table version bytes small stands =
      elim (cases_lt version (length entries)) [
        | inl low ↦ low
        | inr past ↦
            let same : length entries ≡ length sound.entries = sym (count_held objects sound schema entries holds) ∙ sound_count objects sound in
            let wrong : ◌≡◌ {A = Option (List ℕ)} (Some bytes) None = sym stands ∙ sound.ends version (omega (arith, past, same)) small in
            absurd cc
      ]

  -- Where the commit of an entry stands, whose files stand, the table has that entry at its version.
  pub has_entry : (version : ℕ) (bytes : List ℕ) (made : List actions.Action) (entry : Entry) → version ≤ greatest_version → object_at objects (commit_name version) ≡ Some bytes → IsCommit bytes made
      → StandFor schema entry (without_commit_info made) → FilesStand objects schema entry → slice_get entries version ≡ Some entry
  has_entry version bytes made entry small stands commit own files =
      let from : 0 + version ≡ version = omega arith in
      let at = subst (λ (v : ℕ). IsEntryAt objects schema entries version v) from (entry_at objects schema 0 version entries holds (within_table version bytes small stands)) in
      let same : at.stands.0 ≡ bytes = some_is at.stands.0 bytes (sym at.stands.1 ∙ stands) in
      let lists : at.stands.2.actions ≡ made = one_commit bytes at.stands.2.actions made (subst (λ (t : List ℕ). IsCommit t at.stands.2.actions) same at.stands.2.commit) commit in
      let found : StandFor schema at.entry (without_commit_info made) = subst (λ (m : List actions.Action). StandFor schema at.entry (without_commit_info m)) lists at.stands.2.stand in
      at.is ∙ ap (λ (e : Entry). Some e) (one_entry objects schema at.entry entry (without_commit_info made) found own at.files.given files.given)
