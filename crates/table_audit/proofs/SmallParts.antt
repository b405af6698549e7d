-- No version below one has a file that is too large.
use Rattle.std.proofs.Common.{◌≡◌, ◌≤◌, ℕ, suc, List, [], None, Some, string_bytes, sym, ap, subst, ◌∙◌, arith, inl, inr}
use Rattle.std.specs.List.{AllByRecursion}
use Rattle.std.proofs.lemmas.Bool.{cases_lt}
use Rattle.delta_actions.specs.Action.{Action, AddAction}
use Rattle.delta_actions.specs.Commit.{IsCommit}
use Rattle.delta_actions.specs.Names.{data_file_name}
use Rattle.store_core.specs.Names.{commit_name, greatest_version}
use Rattle.store_core.specs.Objects.{Objects, names_of, object_at}
use Rattle.store_core.proofs.Callers.{named}
use Rattle.table_check.proofs.WalkEnds.{told_commit}
use Rattle.table_log.proofs.Callers.{checkpoint_named}
use Rattle.table_model.specs.Table.{creation}
use Rattle.table_store.specs.Commits.{IsClose, IsCommitOf, IsCreation, without_commit_info}
use Rattle.table_store.specs.Groups.{added, numbers}
use Rattle.table_store.specs.Holds.{Stands}
use Rattle.table_store.specs.Schema.{Schema}
use Rattle.table_store.proofs.HoldingOne.{one_commit, some_is}
use Rattle.table_store.proofs.HoldingSchema.{one_creation_of}
use Rattle.table_audit.specs.LargeFiles.{AreSmall, AreToHold, HasNoLargeBelow, IsLargeAt, StandsLarge}
use Rattle.table_audit.specs.Reasons.{IsNamedBehindGap}
use Rattle.table_audit.specs.Verdicts.{end_of}
use Rattle.table_audit.specs.Walks.{IsEnd}
use Rattle.table_audit.specs.declared.reason.Reason.{Reason}
use Rattle.table_audit.specs.declared.reason.Reason.TheVariants.{CommitBehindGap, CheckpointBehindGap}
use Rattle.table_audit.specs.declared.verdict.Verdict.{Verdict}
use Rattle.table_audit.specs.declared.verdict.Verdict.TheVariants.{Sound, Unsound}
use Rattle.table_audit.proofs.GroupParts.{all_at}

-- ---- names

-- what stands under the name of a number's file isn't too large
abbrev pub HasSmall : Objects → Schema → List ℕ × ℕ → Type 0
HasSmall objects schema n = StandsLarge objects schema (data_file_name n.0 n.1) → ⊥

module _ (objects : Objects) (schema : Schema) where
  -- fewer names
  pub small_named : (P Q : List ℕ → Type 0) → ((name : List ℕ) → Q name → P name) → AreSmall objects schema P → AreSmall objects schema Q
  small_named P Q follows small name is = small name (follows name is)

  -- all that have to hold batches
  pub all_small : (ns : List (List ℕ × ℕ)) (files : List AddAction) → AllByRecursion (HasSmall objects schema) ns → AreSmall objects schema (AreToHold ns files)
  all_small ns files all name holds large =
      let place = holds.2 in
      all_at (HasSmall objects schema) ns place.0 holds.0 all place.1 place.3 (subst (StandsLarge objects schema) (sym holds.3.1) large)

  -- where there are no numbers, there are none
  pub none_small : (ns : List (List ℕ × ℕ)) (files : List AddAction) → ns ≡ [] → AreSmall objects schema (AreToHold ns files)
  none_small ns files none = subst (λ (ms : List (List ℕ × ℕ)). AreSmall objects schema (AreToHold ms files)) (sym none) (all_small [] files tt)

-- a close has none
pub close_numbers : (application : List ℕ) (beside : List Action) → IsClose application beside → numbers beside ≡ []
close_numbers application beside is = ap numbers is.actions

-- nor has a creation
pub creation_numbers : (schema : Schema) (beside : List Action) → IsCreation schema beside → numbers beside ≡ []
creation_numbers schema beside is = ap numbers is.actions

-- ---- versions

-- below the first version there is none
pub none_below : (objects : Objects) → HasNoLargeBelow objects 0
none_below objects at name low is = omega (arith, low)

-- fewer versions
pub fewer_below : (objects : Objects) (version most : ℕ) → version ≤ most → HasNoLargeBelow objects most → HasNoLargeBelow objects version
fewer_below objects version most fewer below at name low is = below at name (omega (arith, fewer, low)) is

-- without a first commit there is no table
pub no_table : (objects : Objects) (version : ℕ) → object_at objects (commit_name 0) ≡ None → HasNoLargeBelow objects version
no_table objects version none at name low is = let wrong : None ≡ Some is.created.0 = sym none ∙ is.created.1 in absurd cc

-- one version more, whose files aren't too large
module _ (objects : Objects) (schema : Schema) (version : ℕ) (created : Stands objects (commit_name 0) (IsCommitOf schema creation)) (bytes : List ℕ) (there : object_at objects (commit_name version) ≡ Some bytes) where
  module _ (made beside : List Action) (lines : IsCommit bytes made) (same : beside ≡ without_commit_info made) (small : AreSmall objects schema (AreToHold (numbers beside) (added beside))) where
    none_here : (name : List ℕ) → IsLargeAt objects version name → ⊥
    none_here name is =
        let first : is.created.0 ≡ created.0 = some_is is.created.0 created.0 (sym is.created.1 ∙ created.1) in
        let table : is.schema ≡ schema = one_creation_of is.created.0 created.0 is.schema schema creation first is.created.2 created.2 in
        let read : is.adds.0 ≡ bytes = some_is is.adds.0 bytes (sym is.adds.1 ∙ there) in
        let adds = is.adds.2 in
        let actions : adds.0 ≡ made = one_commit bytes adds.0 made (subst (λ (b : List ℕ). IsCommit b adds.0) read adds.1) lines in
        let others : without_commit_info adds.0 ≡ beside = ap without_commit_info actions ∙ sym same in
        small name (subst (λ (b : List Action). AreToHold (numbers b) (added b) name) others adds.2) (subst (λ (s : Schema). StandsLarge objects s name) table is.large)

    pub one_more : HasNoLargeBelow objects version → HasNoLargeBelow objects (suc version)
    one_more below at name low is =
        elim (cases_lt at version) [
          | inl before ↦ below at name before is
          | inr past ↦ let here : at ≡ version = omega (arith, low, past) in none_here name (subst (λ (v : ℕ). IsLargeAt objects v name) here is)
        ]

-- ---- the end of a walk

-- what names tell is a version that a commit can have
small_version : (names : List (List ℕ)) (version : ℕ) (reason : Reason) → IsNamedBehindGap names version reason → version ≤ greatest_version
small_version names version (CommitBehindGap at) is = (named is.1.0 version is.1.2).1
small_version names version (CheckpointBehindGap name) is = (checkpoint_named (string_bytes name) version is.1).small
small_version names version _ is = absurd is

-- no commit stands from a walk's next version on up to the least that names tell
pub none_at_end : (objects : Objects) (next : ℕ) (verdict : Verdict) → HasNoLargeBelow objects next → IsEnd next (names_of objects) verdict → HasNoLargeBelow objects (end_of verdict)
none_at_end objects next (Sound versions) below end = subst (HasNoLargeBelow objects) (sym end.1) below
none_at_end objects next (Unsound u) below end = λ at name low is.
    elim (cases_lt at next) [
      | inl before ↦ below at name before is
      | inr past ↦
          let small = small_version (names_of objects) u.version u.reason end.1 in
          let told = told_commit objects next at is.adds.0 (omega (arith, low, small)) is.adds.1 past in
          let both : Some u.version ≡ Some told.0 = sym end.0 ∙ told.1 in
          let one : u.version ≡ told.0 = cc in
          absurd (omega (arith, one, told.2, low))
    ]
