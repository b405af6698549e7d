-- What a put leaves of the table that a store holds.
use Rattle.std.proofs.Common.{◌≡◌, ◌≢◌, ℕ, zero, suc, ◌+◌, List, [], ◌∷◌, ◌++◌, length, None, Some, Contains, sym, subst, ◌∙◌, refl, arith}
use Rattle.std.specs.List.{AllByRecursion, flat_map}
use Rattle.std.proofs.lemmas.List.{append-nil}
use Rattle.std.proofs.lemmas.List.Elements.{Contains-append_left, Contains-append_right}
use Rattle.store_core.specs.Objects.{Objects, object_at, with_object, HasObjectsOf}
use Rattle.store_core.specs.ObjectLaws.{object_at-with_object_same, object_at-with_object_other, object_at-with_object_kept}
use Rattle.store_core.specs.Names.{commit_name}
use Rattle.delta_actions.specs.Names.{data_file_name}
use Rattle.table_store.specs.Schema.{Schema, path_name}
use Rattle.table_store.specs.Commits.{IsCommitOf}
use Rattle.table_store.specs.Holds.{EndsAt, Stands, FilesStand, IsFree, HoldsFrom}
use Rattle.table_model.specs.Table.{FileName, Entry, lacks}
use Rattle.table_store.proofs.GivenFiles.{all_free}
use Rattle.table_store.proofs.HoldingKept.{Stands-kept, FilesStand-kept}
use Rattle.table_store.proofs.HoldingNames.{commit_name-suc, commit_name-data_file_name}

-- what stands still stands
pub HasObjectsOf-put : (objects : Objects) (name bytes : List ℕ) → HasObjectsOf objects (with_object objects name bytes)
HasObjectsOf-put objects name bytes = λ other found. object_at-with_object_kept objects name bytes other found

Stands-put : (objects : Objects) (name bytes other : List ℕ) (P : List ℕ → Type 0) → Stands objects other P → Stands (with_object objects name bytes) other P
Stands-put objects name bytes = Stands-kept objects (with_object objects name bytes) (HasObjectsOf-put objects name bytes)

-- a put under a name that nothing is lacked under leaves what is lacked
lacked-put : (objects : Objects) (name bytes : List ℕ) (paths : List FileName) → ((path : FileName) → Contains paths path → path_name path ≡ name → ⊥) → AllByRecursion (λ path. object_at objects (path_name path) ≡ None) paths
    → AllByRecursion (λ path. object_at (with_object objects name bytes) (path_name path) ≡ None) paths
lacked-put objects name bytes [] free lacking = tt
lacked-put objects name bytes (path ∷ paths) free lacking = (
  object_at-with_object_other objects name bytes (path_name path) (free path (zero, omega arith, refl)) ∙ lacking.0,
  lacked-put objects name bytes paths (λ other among. free other (suc among.0, omega (arith, among.1), among.2)) lacking.1,
)

pub FilesStand-put : (objects : Objects) (name bytes : List ℕ) (schema : Schema) (entry : Entry) → IsFree (entry ∷ []) name → FilesStand objects schema entry → FilesStand (with_object objects name bytes) schema entry
FilesStand-put objects name bytes schema entry free files =
    FilesStand-kept objects (with_object objects name bytes) (HasObjectsOf-put objects name bytes) schema entry (lacked-put objects name bytes (lacks entry) (λ path among. free path (Contains-append_left (lacks entry) [] path among)) files.lacking) files

pub free_first : (entry : Entry) (entries : List Entry) (name : List ℕ) → IsFree (entry ∷ entries) name → IsFree (entry ∷ []) name
free_first entry entries name free path among =
    free path (Contains-append_left (lacks entry) (flat_map lacks entries) path (subst (λ (paths : List FileName). Contains paths path) (append-nil (lacks entry)) among))

pub free_rest : (entry : Entry) (entries : List Entry) (name : List ℕ) → IsFree (entry ∷ entries) name → IsFree entries name
free_rest entry entries name free path among = free path (Contains-append_right (lacks entry) (flat_map lacks entries) path among)

-- a put of another name than the next commit's leaves where the log ends
EndsAt-put : (objects : Objects) (name bytes : List ℕ) (version : ℕ) → commit_name version ≢ name → EndsAt objects version → EndsAt (with_object objects name bytes) version
EndsAt-put objects name bytes version apart ends = (ends.0, λ fits. object_at-with_object_other objects name bytes (commit_name version) apart ∙ ends.1 fits)

-- and it leaves the table
HoldsFrom-put : (objects : Objects) (name bytes : List ℕ) (schema : Schema) (version : ℕ) (entries : List Entry) → commit_name (version + length entries) ≢ name → IsFree entries name
    → HoldsFrom objects schema version entries → HoldsFrom (with_object objects name bytes) schema version entries
HoldsFrom-put objects name bytes schema version [] apart free holds = EndsAt-put objects name bytes version (subst (λ (n : ℕ). commit_name n ≢ name) (omega arith) apart) holds
HoldsFrom-put objects name bytes schema version (entry ∷ entries) apart free holds = (
  Stands-put objects name bytes (commit_name version) _ holds.0,
  FilesStand-put objects name bytes schema entry (free_first entry entries name free) holds.1,
  holds.2,
  HoldsFrom-put objects name bytes schema (suc version) entries (subst (λ (n : ℕ). commit_name n ≢ name) (omega arith) apart) (free_rest entry entries name free) holds.3,
)

pub HoldsFrom-data_file : (objects : Objects) (schema : Schema) (version : ℕ) (entries : List Entry) (application bytes : List ℕ) (number : ℕ) → IsFree entries (data_file_name application number) → HoldsFrom objects schema version entries
    → HoldsFrom (with_object objects (data_file_name application number) bytes) schema version entries
HoldsFrom-data_file objects schema version entries application bytes number free holds =
    HoldsFrom-put objects (data_file_name application number) bytes schema version entries (commit_name-data_file_name (version + length entries) application number) free holds

-- a commit that is put at the next version is one entry more
pub HoldsFrom-commit : (objects : Objects) (schema : Schema) (version next : ℕ) (entries : List Entry) (entry : Entry) (bytes : List ℕ) → next ≡ version + length entries
    → HoldsFrom objects schema version entries → IsCommitOf schema entry bytes → FilesStand objects schema entry → EndsAt objects (suc next)
    → HoldsFrom (with_object objects (commit_name next) bytes) schema version (entries ++ entry ∷ [])
HoldsFrom-commit objects schema version next [] entry bytes at holds commit file last =
    let same : version ≡ next = omega (arith, at) in
    let free : object_at objects (commit_name next) ≡ None = subst (λ (n : ℕ). object_at objects (commit_name n) ≡ None) same (holds.1 (omega (arith, at, last.0))) in
    let put : object_at (with_object objects (commit_name next) bytes) (commit_name next) ≡ Some bytes = object_at-with_object_same objects (commit_name next) bytes ∙ rw free refl in
    let behind : EndsAt (with_object objects (commit_name next) bytes) (suc next) = EndsAt-put objects (commit_name next) bytes (suc next) (commit_name-suc next) last in
    subst (λ (n : ℕ). HoldsFrom (with_object objects (commit_name next) bytes) schema n (entry ∷ [])) (sym same) (
      (bytes, put, commit),
      FilesStand-put objects (commit_name next) bytes schema entry (all_free (entry ∷ []) (commit_name next)) file,
      tt,
      behind,
    )
HoldsFrom-commit objects schema version next (first ∷ entries) entry bytes at holds commit file last = (
  Stands-put objects (commit_name next) bytes (commit_name version) _ holds.0,
  FilesStand-put objects (commit_name next) bytes schema first (all_free (first ∷ []) (commit_name next)) holds.1,
  holds.2,
  HoldsFrom-commit objects schema (suc version) next entries entry bytes (omega (arith, at)) holds.3 commit file last,
)
