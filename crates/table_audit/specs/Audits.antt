-- Which calls an audit makes of a reader, and which a look for what lies beside a table.
use Rattle.std.specs.Prelude.{◌≡◌, ◌⊎◌, ◌+◌, ◌++◌, ℕ, zero, suc, Bool, List, [], ◌∷◌, Option, None, Some, filter, is_some, map, take}
use Rattle.std.specs.List.{filter_map}
use Rattle.std.specs.List.Sorted.{IsPermutation}
use Rattle.delta_actions.specs.Action.{Action, AddAction}
use Rattle.delta_actions.specs.Commit.{IsCommit}
use Rattle.store_core.specs.Names.{commit_name, commit_version}
use Rattle.table_store.specs.Commits.{without_commit_info}
use Rattle.table_store.specs.Groups.{added}
use Rattle.table_audit.specs.Calls.{ReaderCall, lists, reads}
use Rattle.table_audit.specs.Listed as listed

-- What stands under these names was read, each once, in their order, whatever that told.
abbrev pub ReadInTurn : (names : List (List ℕ)) → List ReaderCall → Type 0
ReadInTurn [] calls = calls ≡ []
ReadInTurn (name ∷ names) calls = (told : Option (Option (List ℕ))) × (more : List ReaderCall) × (calls ≡ reads name told ∷ more) × ReadInTurn names more

-- so were those of a front of them
abbrev pub ReadFront : (names : List (List ℕ)) → List ReaderCall → Type 0
ReadFront names calls = (n : ℕ) × ReadInTurn (take n names) calls

-- ---- an audit

-- the names of files
abbrev pub names_of_files : List AddAction → List (List ℕ)
names_of_files files = map (λ file. file.path.key) files

-- Of the files that the commit of some bytes adds a front was read, each once, in their order.
abbrev pub ReadFiles : (bytes : List ℕ) → List ReaderCall → Type 0
ReadFiles bytes [] = Unit {0}
ReadFiles bytes (call ∷ calls) = (actions : List Action) × IsCommit bytes actions × ReadFront (names_of_files (added (without_commit_info actions))) (call ∷ calls)

-- The commit of a version was read once, which told its bytes, and then files that it adds.
abbrev pub ReadVersion : (version : ℕ) → List ReaderCall → Type 0
ReadVersion version calls = (bytes : List ℕ) × (files : List ReaderCall) × (calls ≡ reads (commit_name version) (Some (Some bytes)) ∷ files) × ReadFiles bytes files

-- So were so many versions from one on, in turn.
abbrev pub ReadVersions : (from count : ℕ) → List ReaderCall → Type 0
ReadVersions from zero calls = calls ≡ []
ReadVersions from (suc count) calls = (first : List ReaderCall) × (more : List ReaderCall) × ReadVersion from first × ReadVersions (suc from) count more × (calls ≡ first ++ more)

-- The commit of a version was read at most, and nothing behind it, whatever that told.
abbrev pub ReadLast : (version : ℕ) → List ReaderCall → Type 0
ReadLast version calls = (calls ≡ []) ⊎ ((told : Option (Option (List ℕ))) × (calls ≡ reads (commit_name version) told ∷ []))

-- Some versions from one on, and a last one at most.
abbrev pub ReadToEnd : (from : ℕ) → List ReaderCall → Type 0
ReadToEnd from calls = (count : ℕ) × (front : List ReaderCall) × (last : List ReaderCall) × ReadVersions from count front × ReadLast (from + count) last × (calls ≡ front ++ last)

-- Versions were read from one on, in turn; and of checkpoints, each with its version and its name, a front, each once
-- behind its version.
abbrev pub ReadLog : (checkpoints : List (ℕ × List ℕ)) → (from : ℕ) → List ReaderCall → Type 0
ReadLog [] from calls = ReadToEnd from calls
ReadLog (checkpoint ∷ checkpoints) from calls = ReadToEnd from calls
    ⊎ ((count : ℕ) × (front : List ReaderCall) × (told : Option (Option (List ℕ))) × (more : List ReaderCall) × ReadVersions from count front × (from + count ≡ suc checkpoint.0)
    × ReadLog checkpoints (suc checkpoint.0) more × (calls ≡ front ++ reads checkpoint.1 told ∷ more))

-- These are the checkpoints among names, each with its version, in some order.
abbrev pub AreCheckpointsOf : (names : List (List ℕ)) → List (ℕ × List ℕ) → Type 0
AreCheckpointsOf names checkpoints = IsPermutation (filter_map listed.told names) checkpoints

-- behind a listing of names, from the first version on, with the checkpoints among them
abbrev pub ReadListed : (told : Option (List (List ℕ))) → List ReaderCall → Type 0
ReadListed None calls = calls ≡ []
ReadListed (Some names) calls = (checkpoints : List (ℕ × List ℕ)) × AreCheckpointsOf names checkpoints × ReadLog checkpoints 0 calls

-- The calls of an audit: the names were listed once, first. Then commits were read, those of the versions from 0 on in
-- turn, each once, up to the first that told no bytes; behind each a front of the files that it adds, each once; and of
-- the checkpoints that were listed each once at most, behind the commit of its version.
abbrev pub Audits : List ReaderCall → Type 0
Audits calls = (told : Option (List (List ℕ))) × (more : List ReaderCall) × (calls ≡ lists told ∷ more) × ReadListed told more

-- ---- what lies beside a table

-- a name is that of a version's commit
abbrev pub is_commit_name : (name : List ℕ) → Bool
is_commit_name name = is_some (commit_version name)

-- behind a listing, the commits of a front of the names were read
abbrev pub ReadCommits : (told : Option (List (List ℕ))) → List ReaderCall → Type 0
ReadCommits None calls = calls ≡ []
ReadCommits (Some names) calls = (n : ℕ) × ReadInTurn (filter is_commit_name (take n names)) calls

-- The calls of a look for what lies beside a table: the names were listed once, first. Then the commits among them were
-- read, each once, in the order of the names; only a front of them where it failed.
abbrev pub LooksBeside : List ReaderCall → Type 0
LooksBeside calls = (told : Option (List (List ℕ))) × (more : List ReaderCall) × (calls ≡ lists told ∷ more) × ReadCommits told more

-- of a whole look: all of them
abbrev pub HasLookedBeside : List ReaderCall → Type 0
HasLookedBeside calls = (names : List (List ℕ)) × (more : List ReaderCall) × (calls ≡ lists (Some names) ∷ more) × ReadInTurn (filter is_commit_name names) more
