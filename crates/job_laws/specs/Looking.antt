-- Which data files a line looks at. Of the log's folder it may look at every file.
use Rattle.std.specs.Prelude.{◌≡◌, ◌≤◌, ◌<◌, ℕ, List, Contains, Some, map, true}
use Rattle.store_core.specs.Objects.{Objects}
use Rattle.delta_actions.specs.Kinds.{PathAndKey}
use Rattle.delta_actions.specs.Names.{data_file_name}
use Rattle.table_log.specs.Counts.{commit_count}
use Rattle.table_log.specs.Versions.{Version, version_at}
use Rattle.table_folder.specs.Loads.{is_loaded}
use Rattle.table_model.specs.declared.reading.Offset.{Offset}
use Rattle.log_offsets.specs.Offsets.{offset_of}
use Rattle.lake_script.specs.Tailing.{paths_in}
use Rattle.script_lines.specs.Lines.{Statement, append, checkpoint, close, create, foreign, hex, history, show, snapshot, tail, task, tries, look, world}

-- the keys of paths
abbrev pub keys_of_paths : List PathAndKey → List (List ℕ)
keys_of_paths paths = map (λ path. path.key) paths

-- the data files that a version's commit adds new rows with, by the keys of their paths
abbrev pub files_in : Version → List (List ℕ)
files_in found = keys_of_paths (paths_in found)

-- A version of the log from an offset on has a commit that adds the file of this name.
pub record IsReadFrom (objects : Objects) (offset name : List ℕ) : Type 0 where
  pub place : Offset
  pub read : offset_of offset ≡ Some place
  pub version : ℕ
  pub from : place.version ≤ version
  pub small : version < commit_count objects
  pub added : Contains (files_in (version_at objects version)) name

-- The data file is one that a line may look at over these objects: an append looks at its batch's, and a read at those that
-- commits from its offset's version on add.
abbrev pub MayLookAt : Objects → Statement → (name : List ℕ) → Type 0
MayLookAt objects (task (append application number at items)) name = name ≡ data_file_name application number
MayLookAt objects (task (tail max offset)) name = IsReadFrom objects offset name
MayLookAt objects (look (hex own)) name = name ≡ own
MayLookAt objects (task (close application at)) name = ⊥
MayLookAt objects (task checkpoint) name = ⊥
MayLookAt objects (create id at schema) name = ⊥
MayLookAt objects (look snapshot) name = ⊥
MayLookAt objects (look history) name = ⊥
MayLookAt objects (look (show version)) name = ⊥
MayLookAt objects (tries most) name = ⊥
MayLookAt objects (world line) name = ⊥
MayLookAt objects (foreign version action) name = ⊥

-- a line looks at nothing but what is loaded with these data files
abbrev pub LooksWithin : Objects → Statement → (files : List (List ℕ)) → Type 0
LooksWithin objects statement files = (name : List ℕ) → MayLookAt objects statement name → is_loaded files name ≡ true
