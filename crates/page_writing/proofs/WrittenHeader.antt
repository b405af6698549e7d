-- A page's header is spelled by what is written for it, and says what it is to say.
use Rattle.std.proofs.Common.{◌≡◌, ℕ, ◌<◌, ◌≤◌, ◌^◌, ℤ, pos, negsuc, ◌<ℤ◌, List, [], ◌∷◌, Bool, true, false, Some, Ok, refl, arith, FitsSigned, w32}
use Rattle.std.proofs.lemmas.Int.{ints}
use Rattle.thrift_core.specs.Form.{Forms, forms, form_at, struct_form, int32_form}
use Rattle.thrift_core.specs.Spelling.{SpellsStruct}
use Rattle.thrift_core.specs.Tree.{Tree, fields_of, struct}
use Rattle.thrift_core.specs.Writing.{HasForm, FieldsHaveForm, written}
use Rattle.thrift_core.proofs.Callers.{struct_written}
use Rattle.parquet_pages.specs.Headers.{content_of, data_page, data_page_of, header_of}
use Rattle.parquet_pages.specs.Pages.{Leaf, has_levels, plain_header, rle_where}
use Rattle.page_writing.specs.Writing.{header_form, header_tree, number_field}

abbrev data_forms : Forms
data_forms = forms ((pos 1, int32_form) ∷ (pos 2, int32_form) ∷ (pos 3, int32_form) ∷ (pos 4, int32_form) ∷ [])

abbrev page_forms : Forms
page_forms =
    forms ((pos 1, int32_form) ∷ (pos 2, int32_form) ∷ (pos 3, int32_form) ∷ (pos 5, struct_form data_forms) ∷ [])

abbrev data_tree : ℕ → Tree
data_tree n = struct (fields_of (number_field 1 n ∷ number_field 2 0 ∷ number_field 3 3 ∷ number_field 4 3 ∷ []))

-- ---- the form

number_stands : (fs : Forms) (last : ℤ) (id n : ℕ) (others : List (ℤ × Tree)) → last <ℤ pos id → id ≤ 32767 → n < 2 ^ 31
    → form_at (pos id) fs ≡ Some int32_form → FieldsHaveForm fs (pos id) (fields_of others)
    → FieldsHaveForm fs last (fields_of (number_field id n ∷ others))
number_stands fs last id n others rises fits few at h =
    let number : FitsSigned w32 (pos n) = omega (arith, ints) in
    (rises, omega (arith, ints), int32_form, at, number, h)

data_has_form : (n : ℕ) → n < 2 ^ 31 → HasForm (struct_form data_forms) (data_tree n)
data_has_form n few = (
  data_forms,
  refl,
  number_stands data_forms (negsuc 32768) 1 n (number_field 2 0 ∷ number_field 3 3 ∷ number_field 4 3 ∷ []) (omega (arith, ints))
      (omega arith) few refl
      (number_stands data_forms (pos 1) 2 0 (number_field 3 3 ∷ number_field 4 3 ∷ []) (omega (arith, ints)) (omega arith)
      (omega arith) refl
      (number_stands data_forms (pos 2) 3 3 (number_field 4 3 ∷ []) (omega (arith, ints)) (omega arith) (omega arith) refl
      (number_stands data_forms (pos 3) 4 3 [] (omega (arith, ints)) (omega arith) (omega arith) refl tt))),
)

abbrev data_field : ℕ → ℤ × Tree
data_field n = (pos 5, data_tree n)

pub header_has_form : (n size : ℕ) → n < 2 ^ 31 → size < 2 ^ 31 → HasForm header_form (header_tree n size)
header_has_form n size few short =
    let inner : FieldsHaveForm page_forms (pos 3) (fields_of (data_field n ∷ [])) =
    (omega (arith, ints), omega (arith, ints), struct_form data_forms, refl, data_has_form n few, tt) in (
      page_forms,
      refl,
      number_stands page_forms (negsuc 32768) 1 0 (number_field 2 size ∷ number_field 3 size ∷ data_field n ∷ []) (omega (arith, ints))
          (omega arith) (omega arith) refl
          (number_stands page_forms (pos 1) 2 size (number_field 3 size ∷ data_field n ∷ []) (omega (arith, ints)) (omega arith) short
          refl
          (number_stands page_forms (pos 2) 3 size (data_field n ∷ []) (omega (arith, ints)) (omega arith) short refl inner)),
    )

pub header_spelled : (n size : ℕ) → n < 2 ^ 31 → size < 2 ^ 31
    → SpellsStruct (written header_form (header_tree n size)) (header_tree n size)
header_spelled n size few short = record {
  spelled = struct_written header_form (header_tree n size) (written header_form (header_tree n size))
      (header_has_form n size few short) refl refl;
  nesting = omega arith;
  values = omega arith;
}

-- ---- what it says

says_where : (told : Bool) (n size : ℕ)
    → header_of told (header_tree n size)
    ≡ Ok (record {
      page_type = pos 0;
      uncompressed_page_size = size;
      compressed_page_size = size;
      content = data_page n (pos 0) (rle_where told);
    })
unfolding header_of content_of data_page_of
says_where true n size = refl
says_where false n size = refl

pub header_says : (l : Leaf) (n size : ℕ) → header_of (has_levels l) (header_tree n size) ≡ Ok (plain_header l n size)
header_says l n size = says_where (has_levels l) n size
