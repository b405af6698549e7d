-- The versions of a store that keeps a table: a commit for each entry, and so its log.
use Rattle.std.proofs.Common.{◌≡◌, ℕ, suc, ◌+◌, ◌<◌, ◌≤◌, List, [], ◌∷◌, map, length, IsSome, Ok, refl, ap, ◌∙◌, add-one, arith, false, true, inl, inr}
use Rattle.std.proofs.lemmas.Bool.{cases_lt}
use Rattle.schema_tree.specs.Tree.{Tree}
use Rattle.store_core.specs.Objects.{Objects, object_at}
use Rattle.store_core.specs.Names.{commit_name, greatest_version}
use Rattle.table_model.specs.Table.{Entry}
use Rattle.table_log.specs.Counts.{commit_count}
use Rattle.table_log.specs.Versions.{commit, versions_from, versions_of, log_of}
use Rattle.table_log.proofs.Callers.{count_is, of_commit}
use Rattle.source_core.proofs.Callers.{made_length, some_commits}
use Rattle.read_laws.specs.Kept.{KeptFrom, KeepsTable}
use Rattle.read_laws.proofs.KeptLog.{made_of, are_made}

-- ---- how many versions there are

-- the commit of the last version stands
last_stands : (objects : Objects) (schema : Tree) (version end : ℕ) (entries : List Entry) → KeptFrom objects schema version entries → version ≤ end → suc end ≡ version + length entries → IsSome (object_at objects (commit_name end))
last_stands objects schema version end [] kept low is = absurd (omega arith)
last_stands objects schema version end (entry ∷ []) kept low is =
    let here : end ≡ version = omega arith in
    rw (here, kept.0.1) refl
last_stands objects schema version end (entry ∷ other ∷ entries) kept low is = last_stands objects schema (suc version) end (other ∷ entries) kept.2 (omega arith) (omega arith)

-- A store that keeps a table has as many versions as the table has entries.
pub count_kept : (objects : Objects) (schema : Tree) (entries : List Entry) → KeepsTable objects schema entries → commit_count objects ≡ length entries
count_kept objects schema entries kept = count_is objects (length entries) kept.fits below stands
  where
    below : (version : ℕ) → version ≤ greatest_version → IsSome (object_at objects (commit_name version)) → version < length entries
    below version small there =
        elim (cases_lt version (length entries)) [
          | inl low ↦ low
          | inr past ↦ let none : false ≡ true = rw (kept.ends version past small) at there in absurd cc
        ]

    stands : (version : ℕ) → suc version ≡ length entries → IsSome (object_at objects (commit_name version))
    stands version is = last_stands objects schema 0 version entries kept.kept (omega arith) (omega (arith, is))

-- ---- what stands at each

-- from a version on, the commits of the entries
pub commits_stand : (objects : Objects) (schema : Tree) (version : ℕ) (entries : List Entry) (kept : KeptFrom objects schema version entries)
    → versions_from (length entries) version objects ≡ map commit (made_of objects schema version entries kept)
unfolding versions_from
commits_stand objects schema version [] kept = refl
commits_stand objects schema version (entry ∷ entries) kept =
    let more : versions_from (length entries) (suc version) objects ≡ map commit (made_of objects schema (suc version) entries kept.2) = commits_stand objects schema (suc version) entries kept.2 in
    rw (kept.0.1, of_commit kept.0.0 kept.0.2.actions kept.0.2.commit, add-one, more) refl

-- Each version of a store that keeps a table is a commit that stands for the entry at its place.
pub versions_kept : (objects : Objects) (schema : Tree) (entries : List Entry) (kept : KeepsTable objects schema entries)
    → versions_of objects ≡ map commit (made_of objects schema 0 entries kept.kept)
versions_kept objects schema entries kept =
    ap (λ (count : ℕ). versions_from count 0 objects) (count_kept objects schema entries kept) ∙ commits_stand objects schema 0 entries kept.kept

-- ---- the log

-- a table that is kept has a commit at least
pub has_commits : (objects : Objects) (schema : Tree) (entries : List Entry) (kept : KeepsTable objects schema entries) → 0 < length (made_of objects schema 0 entries kept.kept)
has_commits objects schema entries kept =
    let all : length (made_of objects schema 0 entries kept.kept) ≡ length entries = made_length objects schema entries _ (are_made objects schema 0 entries kept.kept) in
    let some : length entries ≡ suc (length kept.rest) = ap (λ (es : List Entry). length es) kept.begins in
    omega arith

-- The log of a store that keeps a table has a commit for each entry.
pub log_kept : (objects : Objects) (schema : Tree) (entries : List Entry) (kept : KeepsTable objects schema entries)
    → log_of objects ≡ Ok (made_of objects schema 0 entries kept.kept)
unfolding log_of
log_kept objects schema entries kept = rw (versions_kept objects schema entries kept) (some_commits (made_of objects schema 0 entries kept.kept) (has_commits objects schema entries kept))
