-- The types that the values of a tree are written as.
use Rattle.std.specs.Prelude.{ℕ, ℤ, List, [], ◌∷◌, map, Option, Some, None, if◌then◌else◌}
use Rattle.std.specs.Ordering.{int_eq}
use Rattle.thrift_core.specs.declared.form.Form.{Form as CodeForm, fold-Form}
use Rattle.thrift_core.specs.declared.form.Form.TheOpen.{Form-F, FieldForm-F}
use Rattle.thrift_core.specs.declared.form.FieldForm.{FieldForm, fold-FieldForm}

mutual
  pub data Form : Type 0 where
    boolean_form : Form
    byte_form : Form
    int16_form : Form
    int32_form : Form
    int64_form : Form
    binary_form : Form
    list_form : Form → Form
    map_form : Form → Form → Form
    struct_form : Forms → Form

  -- the fields that a struct may have
  pub data Forms : Type 0 where
    no_forms : Forms
    field_form : ℤ → Form → Forms → Forms

abbrev pub forms : List (ℤ × Form) → Forms
forms [] = no_forms
forms (f ∷ fs) = field_form f.0 f.1 (forms fs)

-- one level of a form of the code, with each type inside already seen as its form
abbrev pub form_step : Form-F Form (ℤ × Form) → Form
form_step Form-F.Bool = boolean_form
form_step Form-F.Byte = byte_form
form_step Form-F.Int16 = int16_form
form_step Form-F.Int32 = int32_form
form_step Form-F.Int64 = int64_form
form_step Form-F.Binary = binary_form
form_step (Form-F.List member) = list_form member.now
form_step (Form-F.Map key value) = map_form key.now value.now
form_step (Form-F.Struct fields) = struct_form (forms fields.now)

abbrev pub field_form_step : FieldForm-F Form (ℤ × Form) → ℤ × Form
field_form_step f = (f.id, f.form)

abbrev pub form_view : CodeForm → Form
form_view = fold-Form Form (ℤ × Form) form_step field_form_step

abbrev pub field_form_view : FieldForm → ℤ × Form
field_form_view = fold-FieldForm Form (ℤ × Form) form_step field_form_step

abbrev pub field_form_views : List FieldForm → Forms
field_form_views fs = forms (map field_form_view fs)

-- the number of the type, that of a boolean as members and keys have it
abbrev pub number_of : Form → ℕ
number_of boolean_form = 2
number_of byte_form = 3
number_of int16_form = 4
number_of int32_form = 5
number_of int64_form = 6
number_of binary_form = 8
number_of (list_form member) = 9
number_of (map_form key value) = 11
number_of (struct_form fields) = 12

-- the type of a list's members
abbrev pub member_form : Form → Option Form
member_form (list_form member) = Some member
member_form other = None

-- the types of a map's keys and values
abbrev pub entry_forms : Form → Option (Form × Form)
entry_forms (map_form key value) = Some (key, value)
entry_forms other = None

-- the fields that a struct may have
abbrev pub forms_of : Form → Option Forms
forms_of (struct_form fields) = Some fields
forms_of other = None

-- the type of the field of this id
abbrev pub form_at : ℤ → Forms → Option Form
form_at id no_forms = None
form_at id (field_form i f fs) = if int_eq i id then Some f else form_at id fs
