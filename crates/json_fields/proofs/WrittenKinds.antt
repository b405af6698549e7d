-- What is written of each kind reads as it.
use Rattle.std.proofs.Common.{◌≡◌, ℕ, ◌<◌, ◌^◌, Bool, true, List, [], ◌∷◌, ◌++◌, map, Some, option_map, option_and_then, string_bytes, string_cmp, refl, sym, ap, ap₂, subst, ◌∙◌, append_assoc, append-nil}
use Rattle.std.proofs.lemmas.Bool.{and_parts}
use Rattle.std.specs.List.Sorted.{IsStrictlySortedBy}
use Rattle.std.specs.Map.{keys_of}
use Rattle.json.specs.Json as json
use Rattle.serde_json.specs.Data.{Data, null, boolean, number, string, array, object, unsigned, item, Members, no_members, member, put}
use Rattle.serde_json.specs.Read.{of_items, of_members}
use Rattle.serde_json.specs.View.{view, items_of, members_view}
use Rattle.serde_json.specs.Written.{blank_items, blank_members, number_text, items_outline, members_outline}
use Rattle.serde_json.proofs.Numbers.{number_of-decimal}
use Rattle.serde_json.proofs.Texts.{unless_float-number_of}
use Rattle.serde_json.proofs.Views.{Entry, put_last}
use Rattle.json_fields.specs.Kinds.{is_text_or_null, are_texts}
use Rattle.json_fields.specs.Printing.{count_data, texts_data}
use Rattle.json_fields.specs.Writing.{ReadsAgain}

pub text_reads : (t : List ℕ) → ReadsAgain (string t)
text_reads t = record { same = refl; integers = refl }

pub truth_reads : (b : Bool) → ReadsAgain (boolean b)
truth_reads b = record { same = refl; integers = refl }

pub count_reads : (n : ℕ) → n < 2 ^ 64 → ReadsAgain (count_data n)
count_reads n h = record {
  same = ap (option_map number) (number_of-decimal n h);
  integers = ap json.number (unless_float-number_of (number_text (unsigned n)) (unsigned n) (number_of-decimal n h));
}

-- ---- lists of texts

items_read : (ts : List (List ℕ)) → of_items (items_outline (items_of (map string ts))) ≡ Some (items_of (map string ts))
items_read [] = refl
items_read (t ∷ ts) = ap (option_map (item (string t))) (items_read ts)

items_integers : (ts : List (List ℕ)) → blank_items (items_outline (items_of (map string ts))) ≡ items_outline (items_of (map string ts))
items_integers [] = refl
items_integers (t ∷ ts) = ap (json.item (json.string t)) (items_integers ts)

pub texts_read : (ts : List (List ℕ)) → ReadsAgain (texts_data ts)
texts_read ts = record { same = ap (option_map array) (items_read ts); integers = ap json.array (items_integers ts) }

-- ---- maps of texts

text_or_null_reads : (d : Data) → is_text_or_null d ≡ true → ReadsAgain d
text_or_null_reads null h = record { same = refl; integers = refl }
text_or_null_reads (boolean b) h = absurd cc
text_or_null_reads (number n) h = absurd cc
text_or_null_reads (string s) h = text_reads s
text_or_null_reads (array ds) h = absurd cc
text_or_null_reads (object ms) h = absurd cc

entries_read : (done left : List Entry) → IsStrictlySortedBy string_cmp (keys_of (done ++ left)) → are_texts (members_view left) ≡ true
    → of_members (members_outline (members_view left)) (members_view done) ≡ Some (members_view (done ++ left))
entries_read done [] sorted h = ap (λ (es : List Entry). Some (members_view es)) (sym (append-nil done))
entries_read done (e ∷ left) sorted h =
    let parts = and_parts (is_text_or_null (view e.1)) (are_texts (members_view left)) h in
    let this = text_or_null_reads (view e.1) parts.0 in
    let whole : (done ++ e ∷ []) ++ left ≡ done ++ e ∷ left = append_assoc done (e ∷ []) left in
    let rest = entries_read (done ++ e ∷ []) left (subst (λ (es : List Entry). IsStrictlySortedBy string_cmp (keys_of es)) (sym whole) sorted) parts.1 in
    ap (option_and_then (λ (d : Data). of_members (members_outline (members_view left)) (put (string_bytes e.0) d (members_view done)))) this.same
    ∙ ap (of_members (members_outline (members_view left))) (put_last done e left sorted) ∙ rest ∙ ap (λ (es : List Entry). Some (members_view es)) whole

texts_integers : (ms : Members) → are_texts ms ≡ true → blank_members (members_outline ms) ≡ members_outline ms
texts_integers no_members h = refl
texts_integers (member k d ms) h =
    let parts = and_parts (is_text_or_null d) (are_texts ms) h in
    let this = text_or_null_reads d parts.0 in
    ap₂ (json.member k) this.integers (texts_integers ms parts.1)

pub map_reads : (es : List Entry) → IsStrictlySortedBy string_cmp (keys_of es) → are_texts (members_view es) ≡ true → ReadsAgain (object (members_view es))
map_reads es sorted h = record { same = ap (option_map object) (entries_read [] es sorted h); integers = ap json.object (texts_integers (members_view es) h) }
