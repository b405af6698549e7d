-- Which names stand beside a table.
use Rattle.std.specs.Prelude.{◌&&◌, ℕ, List, bytes_eq, is_some, not, Bool, false}
use Rattle.std.specs.List.{list_any}
use Rattle.std.specs.Option.{option_map_or}
use Rattle.delta_actions.specs.Action.{Action}
use Rattle.delta_actions.specs.In.{add_in}
use Rattle.store_core.specs.Objects.{Objects, names_of, object_at}
use Rattle.table_check.specs.Named.{version_named}
use Rattle.store_core.specs.Names.{commit_version}
use Rattle.table_log.specs.Versions.{Version, missing, unreadable, commit, version_by}

-- an action adds the file of a name
abbrev pub adds : (name : List ℕ) → Action → Bool
adds name action = option_map_or (λ file. bytes_eq file.path.key name) (add_in action) false

-- so does what stands at a version
abbrev pub version_adds : (name : List ℕ) → Version → Bool
version_adds name missing = false
version_adds name unreadable = false
version_adds name (commit actions) = list_any (adds name) actions

-- so does what stands under another name, which is a commit's
abbrev pub name_adds : Objects → (name other : List ℕ) → Bool
name_adds objects name other = is_some (commit_version other) && version_adds name (version_by (object_at objects other))

-- a commit that can be read adds the file of a name
abbrev pub is_added : Objects → (name : List ℕ) → Bool
is_added objects name = list_any (name_adds objects name) (names_of objects)

-- The name is no commit's and no checkpoint's of a version, and no commit that can be read adds a file of it.
abbrev pub is_unnamed : Objects → (name : List ℕ) → Bool
is_unnamed objects name = not (is_some (version_named name)) && not (is_added objects name)
