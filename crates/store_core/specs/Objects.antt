-- What stands in a store: a finite map from names to bytes, kept as its entries in rising order of the names' bytes.
use Rattle.std.specs.Prelude.{ℕ, List, Option, is_some, if◌then◌else◌, ◌≡◌, Some}
use Rattle.std.specs.declared.cmp.Ordering.{Ordering}
use Rattle.std.specs.Ordering.{nat_cmp}
use Rattle.std.specs.Str.{bytes_eq}
use Rattle.std.specs.Cmp.Lexicographic.{slice_cmp}
use Rattle.std.specs.List.Sorted.{IsStrictlySortedBy}
use Rattle.std.specs.Map.{lookup, keys_of}
use Rattle.std.specs.BTreeMap.{insert_entry}
use Rattle.outcomes.specs.Bytes.{IsBytes}

-- the objects of a store: names with their bytes
abbrev pub Objects : Type 0
Objects = List (List ℕ × List ℕ)

-- the order of names: byte by byte, as numbers
abbrev pub name_order : List ℕ → List ℕ → Ordering
name_order = slice_cmp nat_cmp

-- the bytes that stand under a name
abbrev pub object_at : Objects → List ℕ → Option (List ℕ)
object_at objects name = lookup (bytes_eq name) objects

-- all names that stand
abbrev pub names_of : Objects → List (List ℕ)
names_of objects = keys_of objects

-- the names strictly rise, so each stands once
abbrev pub IsInOrder : Objects → Type 0
IsInOrder objects = IsStrictlySortedBy name_order (names_of objects)

-- a put takes effect: a name that stands keeps its bytes, an absent one stands with these from now on
unfoldable pub with_object : Objects → List ℕ → List ℕ → Objects
with_object objects name bytes =
    if is_some (object_at objects name) then objects else insert_entry name_order objects name bytes

-- what stands in the one stands in the other, under its name and with its bytes
abbrev pub HasObjectsOf : (objects more : Objects) → Type 0
HasObjectsOf objects more = (name bytes : List ℕ) → object_at objects name ≡ Some bytes → object_at more name ≡ Some bytes

-- each object is of numbers of eight bits
abbrev pub AreBytes : Objects → Type 0
AreBytes objects = (name bytes : List ℕ) → object_at objects name ≡ Some bytes → IsBytes bytes
