-- The texts in values are UTF-8.
use Rattle.std.proofs.Common.{◌≡◌, List, [], ◌∷◌, All, true, map, refl, subst, ap, ◌∙◌}
use Rattle.std.specs.String.{string_bytes}
use Rattle.std.proofs.lemmas.List.Elements.{All-cons, All-nil}
use Rattle.std.proofs.lemmas.Str.{IsUtf8-string_bytes, is_utf8-from_IsUtf8}
use Rattle.row_core.specs.Rows.{Row, values_of}
use Rattle.row_core.specs.Views.{row_views, value_step, value_view}
use Rattle.row_core.specs.declared.value.Value.{Value, map-Value}
use Rattle.row_core.specs.declared.value.Value.TheOpen.{Value-F}
use Rattle.row_core.specs.declared.value.Value.TheFolds.{fold-roll-Value, ind-Value}
use Rattle.parquet_file.specs.File.{has_texts, have_texts}

abbrev HasTexts : Value → Type 0
HasTexts v = has_texts (value_view v) ≡ true

-- of values with a proof beside each
inner_have_texts : (vs : List ((v : Value) × HasTexts v))
    → have_texts (values_of (map value_view (map (λ e. e.0) vs))) ≡ true
inner_have_texts [] = refl
inner_have_texts (e ∷ vs) = rw (e.1, inner_have_texts vs) refl

layer_has_texts : (y : Value-F ((v : Value) × HasTexts v))
    → has_texts (value_step (map-Value Value Row value_view (map-Value ((v : Value) × HasTexts v) Value (λ e. e.0) y)))
    ≡ true
layer_has_texts Value-F.Null = refl
layer_has_texts (Value-F.Bool b) = refl
layer_has_texts (Value-F.Int z) = refl
layer_has_texts (Value-F.Text t) = is_utf8-from_IsUtf8 (string_bytes t) (IsUtf8-string_bytes t)
layer_has_texts (Value-F.Bytes v) = refl
layer_has_texts (Value-F.Struct vs) = inner_have_texts vs.items

value_has_texts : (v : Value) → HasTexts v
value_has_texts = ind-Value HasTexts (λ x y is.
    let here = subst (λ z. has_texts (value_step (map-Value Value Row value_view z)) ≡ true) is (layer_has_texts y) in
    ap has_texts (fold-roll-Value Row value_step x) ∙ here)

pub values_have_texts : (vs : List Value) → All (λ row. has_texts row ≡ true) (row_views vs)
values_have_texts [] = All-nil (λ row. has_texts row ≡ true)
values_have_texts (v ∷ vs) =
    All-cons (λ row. has_texts row ≡ true) (value_view v) (row_views vs) (value_has_texts v) (values_have_texts vs)
