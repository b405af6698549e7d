-- The first column without rows, one field after another.
use Rattle.std.proofs.Common.{◌≡◌, List, ◌∷◌, Option, Some, None, option_map, true, false, is_none, refl, ap, sym, ◌∙◌}
use Rattle.std.specs.Option.{option_or}
use Rattle.schema_tree.specs.Fault.{Path, path_inside}
use Rattle.schema_tree.specs.Tree.{Column, fields_of}
use Rattle.row_core.specs.Unsupported.{unsupported, unsupported_field}

-- what the first of these fields has
abbrev pub in_column : Column → Option Path
in_column c = option_map (path_inside c.name) (unsupported c.data_type)

pub found_here : (cs others : List Column) (c : Column) (p : Path) → cs ≡ c ∷ others → Some p ≡ in_column c → Some p ≡ unsupported_field (fields_of cs)
found_here cs others c p first found = ap (λ o. option_or o (unsupported_field (fields_of others))) found ∙ sym (ap (λ ds. unsupported_field (fields_of ds)) first)

pub not_here : (cs others : List Column) (c : Column) → cs ≡ c ∷ others → None ≡ in_column c → unsupported_field (fields_of others) ≡ unsupported_field (fields_of cs)
not_here cs others c first none = ap (λ o. option_or o (unsupported_field (fields_of others))) none ∙ sym (ap (λ ds. unsupported_field (fields_of ds)) first)

unless_none : (c : Column) (o other : Option Path) → false ≡ is_none o → false ≡ is_none (option_or (option_map (path_inside c.name) o) other)
unless_none c None other e = absurd cc
unless_none c (Some p) other e = refl

if_none : (c : Column) (o other : Option Path) → true ≡ is_none o → is_none other ≡ is_none (option_or (option_map (path_inside c.name) o) other)
if_none c None other e = refl
if_none c (Some p) other e = absurd cc

-- whether there are rows of these fields
pub without_rows : (cs others : List Column) (c : Column) → cs ≡ c ∷ others → false ≡ is_none (unsupported c.data_type) → false ≡ is_none (unsupported_field (fields_of cs))
without_rows cs others c first none = rw first (unless_none c (unsupported c.data_type) (unsupported_field (fields_of others)) none)

pub with_rows : (cs others : List Column) (c : Column) → cs ≡ c ∷ others → true ≡ is_none (unsupported c.data_type) → is_none (unsupported_field (fields_of others)) ≡ is_none (unsupported_field (fields_of cs))
with_rows cs others c first some = rw first (if_none c (unsupported c.data_type) (unsupported_field (fields_of others)) some)

pub none_is : {A : Type 0} (o : Option A) → is_none o ≡ true → o ≡ None
none_is None e = refl
none_is (Some x) e = absurd cc
