-- The files that entries give and the paths that they lack, by kinds: so far files are those of batches, and nothing is lacked.
use Rattle.std.proofs.Common.{◌≡◌, ℕ, List, [], ◌∷◌, map, Contains, arith}
use Rattle.std.specs.List.{AllByRecursion, flat_map}
use Rattle.store_core.specs.Objects.{Objects}
use Rattle.table_store.specs.Schema.{Schema}
use Rattle.table_store.specs.Holds.{GivenStands, FileStands, FilesStand, Lacks, IsFree}
use Rattle.table_model.specs.Table.{FileName, Batch, batch_file, Entry, creation, group, close, batches_of, lacks}

-- ---- what is lacked

pub lacks_none : (objects : Objects) (entry : Entry) → Lacks objects entry
lacks_none objects creation = tt
lacks_none objects (group bs) = tt
lacks_none objects (close application) = tt

pub all_lack : (objects : Objects) (entries : List Entry) → AllByRecursion (Lacks objects) entries
all_lack objects [] = tt
all_lack objects (entry ∷ entries) = (lacks_none objects entry, all_lack objects entries)

none_lacked : (entries : List Entry) (path : FileName) → Contains (flat_map lacks entries) path → ⊥
none_lacked [] path among = omega (arith, among.1)
none_lacked (creation ∷ entries) path among = none_lacked entries path among
none_lacked (group bs ∷ entries) path among = none_lacked entries path among
none_lacked (close application ∷ entries) path among = none_lacked entries path among

pub all_free : (entries : List Entry) (name : List ℕ) → IsFree entries name
all_free entries name path among is = none_lacked entries path among

-- ---- the files of batches

module _ (objects : Objects) (schema : Schema) where
  pub batches_given : (bs : List Batch) → AllByRecursion (FileStands objects schema) bs → AllByRecursion (GivenStands objects schema) (map batch_file bs)
  batches_given [] files = tt
  batches_given (b ∷ bs) files = (files.0, batches_given bs files.1)

  pub given_batches : (bs : List Batch) → AllByRecursion (GivenStands objects schema) (map batch_file bs) → AllByRecursion (FileStands objects schema) bs
  given_batches [] files = tt
  given_batches (b ∷ bs) files = (files.0, given_batches bs files.1)

  -- the files of an entry's batches stand where what it gives does
  pub batch_files : (entry : Entry) → FilesStand objects schema entry → AllByRecursion (FileStands objects schema) (batches_of entry)
  batch_files creation files = tt
  batch_files (group bs) files = given_batches bs files.given
  batch_files (close application) files = tt

  -- and it does where they do
  pub files_stand : (entry : Entry) → AllByRecursion (FileStands objects schema) (batches_of entry) → FilesStand objects schema entry
  files_stand creation files = record { given = tt; lacking = tt }
  files_stand (group bs) files = record { given = batches_given bs files; lacking = tt }
  files_stand (close application) files = record { given = tt; lacking = tt }
