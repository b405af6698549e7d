-- The commits behind the first one of a sound store have no metadata.
use Rattle.std.proofs.Common.{◌≡◌, ◌∙◌, ◌+◌, ◌≤◌, ◌<◌, ◌||◌, ℕ, zero, suc, List, [], ◌∷◌, length, slice_get, Bool, false, Option, Some, None, refl, sym, ap, subst, arith}
use Rattle.std.specs.List.{AllByRecursion, list_any}
use Rattle.store_core.specs.Objects.{Objects, object_at}
use Rattle.delta_actions.specs.Action.{Action, add, checkpoint_metadata, commit_info, domain_metadata, meta_data, other, protocol, remove, sidecar, txn}
use Rattle.delta_actions.specs.Commit.{IsCommit}
use Rattle.store_core.specs.Names.{commit_name, greatest_version}
use Rattle.delta_replay.specs.Keys.{is_of, the_meta_data}
use Rattle.table_log.specs.Versions.{commit, commit_of, version_at, version_by, version_read}
use Rattle.table_log.proofs.CommitBytes.{commit_is}
use Rattle.table_model.specs.Lawful.{Begins, IsLater}
use Rattle.table_model.specs.Table.{Entry, creation, group, close}
use Rattle.table_store.specs.Commits.{StandFor, without_commit_info}
use Rattle.table_store.specs.Groups.{AreTxnsAndAdds}
use Rattle.table_store.specs.Schema.{Schema}
use Rattle.table_store.specs.Sound.{IsSound}
use Rattle.table_store.proofs.HoldingOne.{one_commit, some_is}
use Rattle.commit_core.specs.CommitSessions.{StandFrom}
use Rattle.sink_core.specs.SinkSessions.{tell_metadata}
use Rattle.sink_core.proofs.WinnerLemmas.{stand_parts}
use Rattle.session_laws.proofs.Entries.{IsEntryAt, entry_at, within_table}

-- ---- the actions of a commit

abbrev has_metadata : List Action → Bool
has_metadata made = list_any (is_of the_meta_data) made

-- the commit's own action has none
beside : (made : List Action) → has_metadata made ≡ has_metadata (without_commit_info made)
beside [] = refl
beside (commit_info value ∷ made) = beside made
beside (protocol p ∷ made) = beside made
beside (meta_data m ∷ made) = refl
beside (add a ∷ made) = beside made
beside (txn t ∷ made) = beside made
beside (remove r ∷ made) = beside made
beside (domain_metadata d ∷ made) = beside made
beside (checkpoint_metadata m ∷ made) = beside made
beside (sidecar value ∷ made) = beside made
beside (other key value ∷ made) = beside made

-- nor have a group's
plain_group : (made : List Action) → AreTxnsAndAdds made → has_metadata made ≡ false
plain_group [] only = refl
plain_group (txn t ∷ made) only = plain_group made only
plain_group (add a ∷ made) only = plain_group made only
plain_group (_ ∷ made) only = absurd cc

-- nor any later entry's
plain_entry : (schema : Schema) (entry : Entry) (made : List Action) → IsLater entry → StandFor schema entry (without_commit_info made) → has_metadata made ≡ false
plain_entry schema creation made later stand = absurd later
plain_entry schema (group bs) made later stand = beside made ∙ plain_group (without_commit_info made) stand.only
plain_entry schema (close application) made later stand = beside made ∙ ap has_metadata stand.actions

-- ---- entries

some_entry : (one another : Entry) → Some one ≡ Some another → one ≡ another
some_entry one another is = cc

-- behind the first entry of a lawful table each is a later one
later_at : (entries : List Entry) (place : ℕ) (entry : Entry) → AllByRecursion IsLater entries → slice_get entries place ≡ Some entry → IsLater entry
later_at [] place entry later is = absurd cc
later_at (first ∷ entries) zero entry later is = subst IsLater (some_entry first entry is) later.0
later_at (first ∷ entries) (suc place) entry later is = later_at entries place entry later.1 is

later_entry : (entries : List Entry) (place : ℕ) (entry : Entry) → Begins entries → 0 < place → slice_get entries place ≡ Some entry → IsLater entry
later_entry [] place entry begins some is = absurd cc
later_entry (creation ∷ entries) zero entry begins some is = absurd (omega (arith, some))
later_entry (creation ∷ entries) (suc place) entry begins some is = later_at entries place entry begins is
later_entry (_ ∷ entries) place entry begins some is = absurd begins

-- ---- what stands

-- a version that has a commit has its bytes
record HasCommit (found : Option (List ℕ)) (made : List Action) : Type 0 where
  bytes : List ℕ
  stands : found ≡ Some bytes
  is : IsCommit bytes made

commit_there : (found : Option (List ℕ)) (made : List Action) → version_by found ≡ commit made → HasCommit found made
commit_there None made is = absurd cc
commit_there (Some bytes) made is = by_read (commit_of bytes) refl is
  where
    by_read : (read : Option (List Action)) → commit_of bytes ≡ read → version_read read ≡ commit made → HasCommit (Some bytes) made
    by_read None reads is = absurd cc
    by_read (Some those) reads is =
        let same : those ≡ made = cc in
        record { bytes = bytes; stands = refl; is = commit_is bytes made (reads ∙ ap (λ (m : List Action). Some m) same) }

module _ (objects : Objects) (sound : IsSound objects) where
  -- a commit behind the first one
  plain_commit : (version : ℕ) (made : List Action) → 0 < version → version ≤ greatest_version → version_at objects version ≡ commit made → has_metadata made ≡ false
  plain_commit version made some small is =
      let there = commit_there (object_at objects (commit_name version)) made is in
      let from : 0 + version ≡ version = omega arith in
      let at = subst (λ (v : ℕ). IsEntryAt objects sound.schema sound.entries version v) from
      (entry_at objects sound.schema 0 version sound.entries sound.holds (within_table objects sound.schema sound.entries sound sound.holds version there.bytes small there.stands)) in
      let same : at.stands.0 ≡ there.bytes = some_is at.stands.0 there.bytes (sym at.stands.1 ∙ there.stands) in
      let lists : at.stands.2.actions ≡ made = one_commit there.bytes at.stands.2.actions made (subst (λ (t : List ℕ). IsCommit t at.stands.2.actions) same at.stands.2.commit) there.is in
      plain_entry sound.schema at.entry made (later_entry sound.entries version at.entry sound.lawful.begins some at.is) (subst (λ (m : List Action). StandFor sound.schema at.entry (without_commit_info m)) lists at.stands.2.stand)

  -- the commits that stand from a version on, if that isn't the first
  pub plain_commits : (version : ℕ) (commits : List (List Action)) → 0 < version → version + length commits ≤ suc greatest_version → StandFrom objects version commits → tell_metadata commits ≡ false
  plain_commits version [] some few stand = refl
  plain_commits version (one ∷ more) some few stand =
      let parts = stand_parts objects version one more stand in
      let first : has_metadata one ≡ false = plain_commit version one some (omega (arith, few)) parts.0 in
      let rest : tell_metadata more ≡ false = plain_commits (suc version) more (omega (arith, some)) (omega (arith, few)) parts.1 in
      ap (λ (b : Bool). b || tell_metadata more) first ∙ rest
