-- Whether fields are leaves, one after another.
use Rattle.std.proofs.Common.{◌≡◌, ℕ, ◌+◌, ◌<◌, ◌≤◌, length, get_or, drop, List, Bool, true, false, refl}
use Rattle.std.proofs.lemmas.List.{drop_all}
use Rattle.shred.specs.Shape.{fields_of}
use Rattle.shred.specs.Views.{field_view, field_views}
use Rattle.shred.specs.declared.shapes.ShapeField.{ShapeField}
use Rattle.parquet_file.specs.Internal.{are_leaves, is_leaf}
use Rattle.parquet_file.proofs.CodeSteps.{member_here}

abbrev pub all_leaves : List ShapeField → Bool
all_leaves fs = are_leaves (fields_of (field_views fs))

pub one_struct : (fs : List ShapeField) (i : ℕ) (f : ShapeField) → i < length fs → f ≡ get_or fs i f
    → is_leaf (field_view f).shape ≡ false → false ≡ all_leaves (drop i fs)
one_struct fs i f lt at inside =
    let here = member_here field_view fs i f lt at in
    rw (here, inside) refl

pub one_leaf : (fs : List ShapeField) (i : ℕ) (f : ShapeField) → i < length fs → f ≡ get_or fs i f
    → is_leaf (field_view f).shape ≡ true → all_leaves (drop (i + 1) fs) ≡ all_leaves (drop i fs)
one_leaf fs i f lt at inside =
    let here = member_here field_view fs i f lt at in
    rw (here, inside) refl

pub none_left : (fs : List ShapeField) (i : ℕ) → length fs ≤ i → true ≡ all_leaves (drop i fs)
none_left fs i over = rw (drop_all i fs over) refl
