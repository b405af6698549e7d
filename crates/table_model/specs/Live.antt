-- Which files a log leaves, and their rows as a collection.
use Rattle.std.specs.Prelude.{◌≡◌, List, [], ◌∷◌, ◌++◌, Bool, false, ◌==◌, ◌&&◌, filter, not, bytes_eq}
use Rattle.std.specs.List.{flat_map, count_by, list_any}
use Rattle.row_core.specs.Rows.{Row, same}
use Rattle.table_model.specs.Table.{FileName, of_batch, named, File, Entry, gives, takes, names}

-- whether two names are spelled the same
abbrev pub is_same_path : FileName → FileName → Bool
is_same_path (of_batch a n) (of_batch b m) = bytes_eq a b && n == m
is_same_path (named k) (named l) = bytes_eq k l
is_same_path p q = false

abbrev pub is_path_among : List FileName → FileName → Bool
is_path_among paths path = list_any (λ other. is_same_path path other) paths

-- the files behind an entry, where these stood before it
abbrev pub live_behind : List File → Entry → List File
live_behind files entry = filter (λ f. not (is_path_among (takes entry) f.path)) files ++ gives entry

abbrev pub live_from : List File → List Entry → List File
live_from files [] = files
live_from files (entry ∷ entries) = live_from (live_behind files entry) entries

-- the files that no later entry takes
abbrev pub live : List Entry → List File
live entries = live_from [] entries

abbrev pub rows_of_files : List File → List Row
rows_of_files files = flat_map (λ f. f.rows) files

-- the same rows, each as often
abbrev pub SameCounts : List Row → List Row → Type 0
SameCounts xs ys = (row : Row) → count_by (λ r. same r row) xs ≡ count_by (λ r. same r row) ys

-- ---- By the newest action of each path: of a lawful table the same

-- the files behind an entry: those whose path it doesn't name, and those that it gives
abbrev pub newest_behind : List File → Entry → List File
newest_behind files entry = filter (λ f. not (is_path_among (names entry) f.path)) files ++ gives entry

abbrev pub newest_from : List File → List Entry → List File
newest_from files [] = files
newest_from files (entry ∷ entries) = newest_from (newest_behind files entry) entries
