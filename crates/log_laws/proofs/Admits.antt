-- Which commits may be put next.
use Rattle.std.proofs.Common.{◌≡◌, ◌≢◌, ℕ, ◌≤◌, false, List, [], ◌∷◌, length, map, refl, arith}
use Rattle.std.specs.List.{AllByRecursion}
use Rattle.store_core.specs.Objects.{Objects}
use Rattle.store_core.specs.Names.{greatest_version}
use Rattle.table_model.specs.Appends.{appended}
use Rattle.table_model.specs.declared.table.AppendAnswer.TheVariants.{Committed}
use Rattle.table_model.specs.Lawful.{AreDifferent, Follows, IsLater, IsLawful}
use Rattle.table_model.specs.Table.{Batch, Entry, creation, group, close, batches_of, is_stream_closed}
use Rattle.table_model.proofs.Grouped.{group_follows}
use Rattle.table_model.proofs.Kept.{close_follows, follows_keeps, new_is_lawful}
use Rattle.table_store.specs.Commits.{IsCommitOf}
use Rattle.table_store.specs.Holds.{FileStands, HoldsFirst}
use Rattle.table_store.proofs.Callers.{files_stand}
use Rattle.table_store.specs.Schema.{Schema}
use Rattle.table_store.specs.Sound.{IsAdmissible}
use Rattle.log_laws.specs.Sound.{IsSoundStore}
use Rattle.log_laws.proofs.EmptyStores.{nothing_sound}

-- A store of nothing is sound: nothing stands under the name of a checkpoint.
pub empty_sound : IsSoundStore []
empty_sound = record { table = nothing_sound; checkpoints = λ name version bytes named there asked. absurd cc }

-- A creation is admissible as the first commit.
pub creation_admissible : (objects : Objects) (schema : Schema) (bytes : List ℕ) → IsCommitOf schema creation bytes → IsAdmissible objects 0 bytes
creation_admissible objects schema bytes commit =
    record { schema = schema; entries = []; entry = creation; stand = tt; at = refl; fits = omega arith; commit = commit; files = files_stand objects schema creation tt; tells = tt; lawful = new_is_lawful }

module _ (objects : Objects) (schema : Schema) (first : Entry) (entries : List Entry) (stand : HoldsFirst objects schema 0 (first ∷ entries)) (lawful : IsLawful (first ∷ entries)) (fits : length (first ∷ entries) ≤ greatest_version) where
  -- So is an entry that follows the table, whose files stand, behind the table's versions.
  follows_admissible : (entry : Entry) (bytes : List ℕ) → IsLater entry → Follows (first ∷ entries) entry → IsCommitOf schema entry bytes → AllByRecursion (FileStands objects schema) (batches_of entry)
      → IsAdmissible objects (length (first ∷ entries)) bytes
  follows_admissible entry bytes later follows commit files = record {
    schema = schema;
    entries = first ∷ entries;
    entry = entry;
    stand = stand;
    at = refl;
    fits = fits;
    commit = commit;
    files = files_stand objects schema entry files;
    tells = tt;
    lawful = follows_keeps first entries entry lawful later follows;
  }

  -- That is so of batches of different applications, each of which the table takes;
  pub group_admissible : (bs : List Batch) (bytes : List ℕ) → bs ≢ [] → AreDifferent (map (λ b. b.application) bs) → AllByRecursion (λ b. appended b (first ∷ entries) ≡ Committed (length (first ∷ entries))) bs
      → IsCommitOf schema (group bs) bytes → AllByRecursion (FileStands objects schema) bs → IsAdmissible objects (length (first ∷ entries)) bytes
  group_admissible bs bytes some different new commit files = follows_admissible (group bs) bytes tt (group_follows (first ∷ entries) bs lawful some different new) commit files

  -- of one alone;
  pub batch_admissible : (b : Batch) (bytes : List ℕ) → appended b (first ∷ entries) ≡ Committed (length (first ∷ entries)) → IsCommitOf schema (group (b ∷ [])) bytes → FileStands objects schema b
      → IsAdmissible objects (length (first ∷ entries)) bytes
  batch_admissible b bytes new commit file = group_admissible (b ∷ []) bytes (λ (none : b ∷ [] ≡ []). absurd cc) ((λ among. omega (arith, among.1)), tt) (new, tt) commit (file, tt)

  -- and of the close of a stream that isn't closed.
  pub close_admissible : (application bytes : List ℕ) → is_stream_closed application (first ∷ entries) ≡ false → IsCommitOf schema (close application) bytes → IsAdmissible objects (length (first ∷ entries)) bytes
  close_admissible application bytes open_still commit = follows_admissible (close application) bytes tt (close_follows application (first ∷ entries) lawful) commit tt
