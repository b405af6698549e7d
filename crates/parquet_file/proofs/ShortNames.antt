-- Whether the names of fields are short, one field after another.
use Rattle.std.proofs.Common.{◌≡◌, ℕ, ◌+◌, ◌<◌, ◌≤◌, length, get_or, drop, List, Bool, true, false, string_bytes, refl, sym, ap, ◌∙◌, nat_lt}
use Rattle.std.proofs.lemmas.Bool.{le-ltb, lt-ltb}
use Rattle.std.proofs.lemmas.List.{drop_all}
use Rattle.schema_tree.specs.Tree.{fields_of as tree_fields}
use Rattle.schema_tree.specs.View.{view as type_view, field_view as column_view, field_views as column_views}
use Rattle.schema_tree.specs.declared.node.Field.{Field, out-Field}
use Rattle.parquet_file.specs.Writing.{are_short_named, is_short_named}
use Rattle.parquet_file.proofs.CodeSteps.{member_here}
use Rattle.parquet_file.proofs.PutElements.{name_seen, type_seen}

abbrev pub all_short : {A : Type 0} → List (Field A) → Bool
all_short fs = are_short_named (tree_fields (column_views fs))

-- the name of the next field is too long
pub long_name : {A : Type 0} (fs : List (Field A)) (i : ℕ) (f : Field A) → i < length fs → f ≡ get_or fs i f
    → 67108864 < length (string_bytes (out-Field A f).name) → false ≡ all_short (drop i fs)
long_name {A} fs i f lt at long =
    let here = member_here column_view fs i f lt at in
    let test : nat_lt 67108864 (length (column_view f).name) ≡ true = lt-ltb _ _ (rw (← name_seen f) long) in
    rw (here, test) refl

-- a name inside the next field is too long
pub long_inside : {A : Type 0} (fs : List (Field A)) (i : ℕ) (f : Field A) → i < length fs → f ≡ get_or fs i f
    → length (string_bytes (out-Field A f).name) ≤ 67108864 → is_short_named (type_view (out-Field A f).data_type) ≡ false
    → false ≡ all_short (drop i fs)
long_inside {A} fs i f lt at short long =
    let here = member_here column_view fs i f lt at in
    let test : nat_lt 67108864 (length (column_view f).name) ≡ false = le-ltb _ _ (rw (← name_seen f) short) in
    let inside : is_short_named (column_view f).data_type ≡ false = ap is_short_named (sym (type_seen f)) ∙ long in
    rw (here, test, inside) refl

-- the names of the next field are short
pub one_short : {A : Type 0} (fs : List (Field A)) (i : ℕ) (f : Field A) → i < length fs → f ≡ get_or fs i f
    → length (string_bytes (out-Field A f).name) ≤ 67108864 → is_short_named (type_view (out-Field A f).data_type) ≡ true
    → all_short (drop (i + 1) fs) ≡ all_short (drop i fs)
one_short {A} fs i f lt at short inside_short =
    let here = member_here column_view fs i f lt at in
    let test : nat_lt 67108864 (length (column_view f).name) ≡ false = le-ltb _ _ (rw (← name_seen f) short) in
    let inside : is_short_named (column_view f).data_type ≡ true = ap is_short_named (sym (type_seen f)) ∙ inside_short in
    rw (here, test, inside) refl

pub none_long : {A : Type 0} (fs : List (Field A)) (i : ℕ) → length fs ≤ i → true ≡ all_short (drop i fs)
none_long fs i over = rw (drop_all i fs over) refl
