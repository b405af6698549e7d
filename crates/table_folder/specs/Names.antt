-- Which names the files of a table's folder have.
use Rattle.std.specs.Prelude.{ℕ, List, [], ◌∷◌, Bool, false, ◌&&◌, ◌||◌, not, drop, length, nat_eq, nat_le, codes}
use Rattle.std.specs.Char.{is_ascii_digit}
use Rattle.std.specs.List.{list_all, list_any, starts_with}
use Rattle.table_folder.specs.declared.naming.Listed.{Listed}
use Rattle.table_folder.specs.declared.naming.Listed.TheVariants.{Table, Leftovers}

-- the bytes of `.` and `/`
abbrev pub dot : ℕ
dot = 46

abbrev pub slash : ℕ
slash = 47

-- a plain file name that doesn't begin with `.`
unfoldable pub is_shown : List ℕ → Bool
is_shown [] = false
is_shown (byte ∷ bytes) = not (nat_eq byte dot) && not (list_any (nat_eq slash) (byte ∷ bytes))

-- a file of the table's folder, or of its log's
unfoldable pub is_table_name : List ℕ → Bool
is_table_name name = is_shown name || (starts_with nat_eq name (codes "_delta_log/") && is_shown (drop 11 name))

-- a name under which a file is written before it gets its own: `.new-` and digits
unfoldable pub is_new : List ℕ → Bool
is_new name = nat_le 6 (length name) && starts_with nat_eq name (codes ".new-") && list_all is_ascii_digit (drop 5 name)

-- what a killed run may have left in the table's folder, or in its log's
unfoldable pub is_leftover : List ℕ → Bool
is_leftover name = is_new name || (starts_with nat_eq name (codes "_delta_log/") && is_new (drop 11 name))

-- a listing of these tells this name
abbrev pub is_listed : Listed → List ℕ → Bool
is_listed Table name = is_table_name name
is_listed Leftovers name = is_leftover name
