-- Which of a folder's files are loaded: those of its log, and some data files.
use Rattle.std.specs.Prelude.{ℕ, List, Bool, ◌||◌, nat_eq, codes, filter, bytes_eq}
use Rattle.std.specs.List.{list_any, starts_with}
use Rattle.store_core.specs.Objects.{Objects}

-- a file of the log's folder
unfoldable pub is_of_log : List ℕ → Bool
is_of_log name = starts_with nat_eq name (codes "_delta_log/")

-- a file of the log, or a data file of one of these names
abbrev pub is_loaded : (files : List (List ℕ)) → (name : List ℕ) → Bool
is_loaded files name = is_of_log name || list_any (bytes_eq name) files

-- the files that are loaded
abbrev pub loaded : (files : List (List ℕ)) → Objects → Objects
loaded files objects = filter (λ object. is_loaded files object.0) objects
