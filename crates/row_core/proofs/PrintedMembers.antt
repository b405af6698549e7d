-- The tokens of a struct's members, and the values that they are written of.
use Rattle.std.proofs.Common.{◌≡◌, ℕ, zero, suc, ◌<◌, ◌≤◌, List, [], ◌∷◌, ◌++◌, length, get_or, refl, ap, sym, ◌∙◌, rules, arith, append_assoc}
use Rattle.json.specs.Token.{Token, key}
use Rattle.json.specs.Json as json
use Rattle.json.specs.Tree.{json_tokens, members_tokens}
use Rattle.serde_json.specs.Data.{Data}
use Rattle.serde_json.specs.Written.{outline}
use Rattle.row_core.specs.Printer.{value_at, data_by, layout_view, layout_views}
use Rattle.row_core.specs.Printing.{leaf_data}
use Rattle.row_core.specs.Rows.{null, values_of}
use Rattle.row_core.specs.Views.{value_view, row_views}
use Rattle.row_core.specs.declared.printer.Layout.{Layout, out-Layout}
use Rattle.row_core.specs.declared.printer.Layout as layouts
use Rattle.row_core.specs.declared.value.Value.{Value}

pub value_at-within : (vs : List Value) (i : ℕ) (v : Value) → i < length vs → v ≡ get_or vs i v → value_at i (values_of (row_views vs)) ≡ value_view v
value_at-within [] i v h at = absurd (omega arith)
value_at-within (w ∷ vs) zero v h at = ap value_view (sym at)
value_at-within (w ∷ vs) (suc i) v h at = value_at-within vs i v (omega arith) at

pub value_at-past : (vs : List Value) (i : ℕ) → length vs ≤ i → value_at i (values_of (row_views vs)) ≡ null
value_at-past [] i h = refl
value_at-past (w ∷ vs) zero h = absurd (omega arith)
value_at-past (w ∷ vs) (suc i) h = value_at-past vs i (omega arith)

-- a layout, part by part
pub place_seen : (l : Layout) → (out-Layout l).place ≡ (layout_view l).place
place_seen l = search (rules, layouts.the_lemmas)

pub printed_seen : (l : Layout) → data_by (layout_views (out-Layout l).members.entries) ≡ (layout_view l).printed
printed_seen l = search (rules, layouts.the_lemmas)

-- a null is printed as null by each layout
pub null_printed : (l : Layout) → leaf_data null ≡ (layout_view l).printed null
null_printed l = ap (λ print. print null) (printed_seen l)

-- one more member is written
pub one_written : (old named next : List Token) (k : List ℕ) (d e : Data) (ms : json.Members) → named ≡ old ++ key k ∷ [] → next ≡ named ++ json_tokens (outline d) → d ≡ e
    → next ++ members_tokens ms ≡ old ++ members_tokens (json.member k (outline e) ms)
one_written old named next k d e ms first then same =
    ap (λ ts. ts ++ members_tokens ms) (then ∙ ap (λ ts. ts ++ json_tokens (outline d)) first) ∙ append_assoc _ (json_tokens (outline d)) _ ∙ append_assoc old (key k ∷ []) _
    ∙ ap (λ x. old ++ members_tokens (json.member k (outline x) ms)) same
