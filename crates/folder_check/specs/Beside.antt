-- The lines in which it is told what lies beside a table in its folder.
use Rattle.std.specs.Prelude.{◌≡◌, ◌++◌, ◌&&◌, ℕ, Bool, List, codes, filter, map, nat_eq, not}
use Rattle.std.specs.List.{ends_with, starts_with}
use Rattle.serde_json.specs.Data.{string}
use Rattle.serde_json.specs.Written.{compact_text}
use Rattle.store_core.specs.Objects.{Objects, names_of}
use Rattle.table_audit.specs.Beside.{is_unnamed}

-- a name is a data file's: it stands in the table's own folder, and ends with `.parquet`
abbrev pub is_data_file : (name : List ℕ) → Bool
is_data_file name = not (starts_with nat_eq name (codes "_delta_log/")) && ends_with nat_eq name (codes ".parquet")

-- no data file's
abbrev pub is_stray : (name : List ℕ) → Bool
is_stray name = not (is_data_file name)

-- a line: a word, and a name as a JSON string
abbrev pub line_of : (word name : List ℕ) → List ℕ
line_of word name = word ++ (codes " " ++ compact_text (string name))

-- the names that the table doesn't know: of no commit and no checkpoint of a version, and of no data file that a commit
-- that can be read adds
abbrev pub unnamed_names : Objects → List (List ℕ)
unnamed_names objects = filter (is_unnamed objects) (names_of objects)

-- The lines tell what killed runs left, of which nothing is claimed; then each name that the table doesn't know and that
-- is no data file's, and then each that it doesn't know and that is one's, both in the order of their bytes.
abbrev pub AreBeside : (objects : Objects) → (lines : List (List ℕ)) → Type 0
AreBeside objects lines = (left : List (List ℕ)) × (lines ≡ map (line_of (codes "leftover")) left
    ++ (map (line_of (codes "stray")) (filter is_stray (unnamed_names objects))
    ++ map (line_of (codes "unnamed")) (filter is_data_file (unnamed_names objects))))
