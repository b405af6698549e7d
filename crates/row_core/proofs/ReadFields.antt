-- The values of an object's fields, read one after another.
use Rattle.std.proofs.Common.{◌≡◌, List, [], ◌∷◌, ◌++◌, Some, None, Result, Ok, refl, ap, sym, ◌∙◌}
use Rattle.outcomes.specs.Outcome.{Said, IsSaid}
use Rattle.outcomes.specs.Results.{refused_as}
use Rattle.outcomes.proofs.Callers.{said_too, with_front, regroup}
use Rattle.serde_json.specs.Data.{Data, object, Members}
use Rattle.serde_json.specs.Find.{as_object}
use Rattle.schema_tree.specs.Tree.{Fields, Column, fields_of, struct}
use Rattle.row_core.specs.Fault.{Fault, inside}
use Rattle.row_core.specs.Reading.{value_of, field_values, unless_null, under, unknown_name}
use Rattle.row_core.specs.Rows.{Row, structure, values_of}

-- the value of a field where this stands, and that of a field of an object
abbrev pub told_value : Column → Data → Result Row Fault
told_value c d = refused_as (inside c.name) (unless_null c.nullable d (value_of c.data_type d))

abbrev pub column_value : Column → Data → Result Row Fault
column_value c d = told_value c (under c.name d)

pub first_fails : (front : List Row) (cs others : List Column) (c : Column) (d : Data) (whole : Result (List Row) Fault) (fault : Said Fault) → cs ≡ c ∷ others → with_front front (field_values (fields_of cs) d) ≡ whole → IsSaid fault (column_value c d) → IsSaid fault whole
first_fails front cs others c d whole fault first all h = said_too fault (column_value c d) whole (λ r e. sym all ∙ rw (first, e) refl) h

first_is : (cs others : List Column) (c : Column) (d : Data) (v : Row) → cs ≡ c ∷ others → column_value c d ≡ Ok v → field_values (fields_of cs) d ≡ with_front (v ∷ []) (field_values (fields_of others) d)
first_is cs others c d v first read = rw (first, read) refl

pub goes_on : (front : List Row) (cs others : List Column) (c : Column) (d : Data) (v : Row) (whole : Result (List Row) Fault) → cs ≡ c ∷ others → with_front front (field_values (fields_of cs) d) ≡ whole → column_value c d ≡ Ok v
    → with_front (front ++ v ∷ []) (field_values (fields_of others) d) ≡ whole
goes_on front cs others c d v whole first all read =
    sym (regroup front (v ∷ []) (field_values (fields_of others) d)) ∙ (ap (with_front front) (sym (first_is cs others c d v first read)) ∙ all)

-- where a field's value is none, neither is the object
pub struct_fails : (fs : Fields) (d : Data) (ms : Members) (fault : Said Fault) → d ≡ object ms → IsSaid fault (field_values fs (object ms)) → IsSaid fault (value_of (struct fs) d)
struct_fails fs d ms fault is h = said_too fault (field_values fs (object ms)) (value_of (struct fs) d) (λ r e. rw (is, e) refl) h

pub struct_is : (fs : Fields) (d : Data) (ms : Members) (vs : List Row) → as_object d ≡ Some ms → field_values fs d ≡ Ok vs → unknown_name fs ms ≡ None → value_of (struct fs) d ≡ Ok (structure (values_of vs))
struct_is fs d ms vs is read known = rw (is, read, known) refl
