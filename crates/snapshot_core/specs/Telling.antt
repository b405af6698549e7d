-- What a log leaves, as it is told: lines of text.
use Rattle.std.specs.Prelude.{◌≡◌, ℕ, suc, Bool, List, [], ◌∷◌, ◌++◌, Some, Ok, codes}
use Rattle.std.specs.Fmt.{decimal}
use Rattle.std.specs.List.{flat_map}
use Rattle.serde_json.specs.Data.{string}
use Rattle.serde_json.specs.Written.{compact_text}
use Rattle.schema_tree.specs.Tree.{Tree}
use Rattle.store_core.specs.Objects.{Objects}
use Rattle.delta_actions.specs.Action.{Action, AddAction, ProtocolAction, TxnAction, add, txn}
use Rattle.delta_replay.specs.Keys.{file_of, number_of}
use Rattle.delta_replay.specs.Lists.{ListsClosed, ListsEach}
use Rattle.delta_replay.specs.Support.{protocol_of_log, readable}
use Rattle.table_log.specs.Counts.{commit_count}
use Rattle.table_log.specs.Restoring.{replayed}
use Rattle.table_log.specs.SchemaTexts.{IsPrintedSchema}
use Rattle.outcomes.specs.Lines.{with_newline}

-- an application's id, as JSON
abbrev pub id_text : List ℕ → List ℕ
id_text application = compact_text (string application)

abbrev pub version_line : ℕ → List ℕ
version_line version = with_newline (codes "version " ++ decimal version)

-- the versions of a reader and of a writer
abbrev pub protocol_line : ProtocolAction → List ℕ
protocol_line p = with_newline (codes "protocol " ++ (decimal p.min_reader_version ++ (32 ∷ [] ++ decimal p.min_writer_version)))

-- the text that the schema is printed as
abbrev pub schema_line : List ℕ → List ℕ
schema_line text = with_newline (codes "schema " ++ text)

-- an application and the number that it has come to
abbrev pub number_line : TxnAction → List ℕ
number_line t = with_newline (codes "app " ++ (id_text t.app_id ++ (32 ∷ [] ++ decimal t.version)))

-- an application whose stream is closed
abbrev pub closed_line : (application : List ℕ) → List ℕ
closed_line application = with_newline (codes "closed " ++ id_text application)

-- a file by its path, as the log has it, and its size
abbrev pub path_line : (path : List ℕ) (size : ℕ) → List ℕ
path_line path size = with_newline (codes "file " ++ (path ++ (32 ∷ [] ++ decimal size)))

abbrev pub file_line : AddAction → List ℕ
file_line a = path_line a.path.text a.size

-- the version, the protocol and the schema
abbrev pub settings_text : ℕ → ProtocolAction → (schema : List ℕ) → List ℕ
settings_text version p schema = version_line version ++ (protocol_line p ++ schema_line schema)

-- Behind a front the text has a line for each application's number, each closed stream and each file of a log, each kind in
-- the order of its keys' bytes.
pub record TellsLists (log : List (List Action)) (front text : List ℕ) : Type 0 where
  pub numbers : List TxnAction
  pub closed : List (List ℕ)
  pub files : List AddAction
  pub parts : text ≡ front ++ (flat_map number_line numbers ++ (flat_map closed_line closed ++ flat_map file_line files))
  pub all_numbers : ListsEach log number_of txn (λ t. t.app_id) numbers
  pub all_closed : ListsClosed log closed
  pub all_files : ListsEach log file_of add (λ a. a.path.key) files

-- The text tells what a log leaves whose table is read: its newest version, the protocol and the schema, and then the
-- applications' numbers, the closed streams and the files.
pub record TellsSnapshot (use_checkpoints : Bool) (objects : Objects) (text : List ℕ) : Type 0 where
  pub commits : List (List Action)
  pub read : replayed use_checkpoints objects ≡ Ok commits
  pub schema : Tree
  pub supported : readable commits ≡ Ok schema
  pub version : ℕ
  pub newest : suc version ≡ commit_count objects
  pub protocol : ProtocolAction
  pub of_log : protocol_of_log commits ≡ Some protocol
  pub schema_text : List ℕ
  pub printed : IsPrintedSchema schema schema_text
  pub lists : TellsLists commits (settings_text version protocol schema_text) text
