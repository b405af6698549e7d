-- What is printed is of its kind again, and what is read can be printed: the laws of paths and formats.
use Rattle.std.specs.Prelude.{◌≡◌, ℕ, List, Bool, true, false, Option, Some, None, option_map, option_and_then, unwrap_or, codes, refl}
use Rattle.std.specs.Str.{is_utf8}
use Rattle.std.proofs.Common.{sym, ◌∙◌, subst}
use Rattle.percent_encoding.specs.Percent.{percent_decode}
use Rattle.serde_json.specs.Data.{Data, null, boolean, number, string, array, object}
use Rattle.serde_json.specs.Find.{as_str}
use Rattle.json_fields.specs.Kinds.{of_kind, field, is_text_map, text_map, no_texts}
use Rattle.json_fields.specs.KindLaws.{StandsFor, map_stands, is_map}
use Rattle.delta_actions.specs.Kinds.{PathAndKey, Format, path_and_key, file_path, format}
use Rattle.delta_actions.specs.Printing.{IsPath, path_data, format_data}

-- ---- paths

pub path_stands : (p : PathAndKey) → IsPath p → StandsFor file_path (path_data p) p
path_stands p h = record { is_there = refl; is = h }

path_at : (text : List ℕ) (b : Bool) (p : PathAndKey) → is_utf8 (percent_decode text) ≡ b → path_and_key text ≡ Some p → path_and_key p.text ≡ Some p
path_at text true p is e =
    let made : PathAndKey = record { text = text; key = percent_decode text } in
    let same : Some made ≡ Some p = sym (rw is refl) ∙ e in
    let s : made ≡ p = cc in
    subst (λ (q : PathAndKey). path_and_key q.text ≡ Some q) s (rw is refl)
path_at text false p is e = let f = rw is at e in absurd cc

path_holds : (o : Option (List ℕ)) (p : PathAndKey) → option_and_then path_and_key o ≡ Some p → IsPath p
path_holds None p e = absurd cc
path_holds (Some t) p e = path_at t (is_utf8 (percent_decode t)) p refl e

pub is_path : (d : Data) (p : PathAndKey) → file_path d ≡ Some p → IsPath p
is_path d p e = path_holds (as_str d) p e

-- ---- formats

format_again : (f : Format) → is_text_map f.options ≡ true → format (format_data f) ≡ Some f
format_again f h = let map = map_stands f.options h in rw (map.is_there, map.is) refl

pub format_stands : (f : Format) → is_text_map f.options ≡ true → StandsFor format (format_data f) f
format_stands f h = record { is_there = refl; is = format_again f h }

map_or_none : (d : Data) (r : Option Data) (x : Option Data) → text_map d ≡ r → option_map Some r ≡ Some x → is_text_map (unwrap_or x no_texts) ≡ true
map_or_none d None x is e = absurd cc
map_or_none d (Some m) x is e = let s : Some m ≡ x = cc in subst (λ (y : Option Data). is_text_map (unwrap_or y no_texts) ≡ true) s (is_map d m is)

options_hold : (n : Option Data) (x : Option Data) → of_kind text_map n ≡ Some x → is_text_map (unwrap_or x no_texts) ≡ true
options_hold None x e = let s : None ≡ x = cc in subst (λ (y : Option Data). is_text_map (unwrap_or y no_texts) ≡ true) s refl
options_hold (Some d) x e = map_or_none d (text_map d) x refl e

format_made : (o : Option (Option (List ℕ))) (p : Option (Option Data)) (f : Format) → ((x : Option Data) → p ≡ Some x → is_text_map (unwrap_or x no_texts) ≡ true)
    → option_and_then (λ provider. option_map (λ options. record { provider = unwrap_or provider (codes "parquet"); options = unwrap_or options no_texts }) p) o ≡ Some f → is_text_map f.options ≡ true
format_made None p f h e = absurd cc
format_made (Some a) None f h e = absurd cc
format_made (Some a) (Some x) f h e =
    let made : Format = record { provider = unwrap_or a (codes "parquet"); options = unwrap_or x no_texts } in
    let same : Some made ≡ Some f = e in
    let s : made ≡ f = cc in
    subst (λ (g : Format). is_text_map g.options ≡ true) s (h x refl)

pub is_format : (d : Data) (f : Format) → format d ≡ Some f → is_text_map f.options ≡ true
is_format null f e = absurd cc
is_format (boolean b) f e = absurd cc
is_format (number n) f e = absurd cc
is_format (string s) f e = absurd cc
is_format (array ds) f e = absurd cc
is_format (object ms) f e = format_made (of_kind as_str (field (codes "provider") (object ms))) (of_kind text_map (field (codes "options") (object ms))) f (options_hold (field (codes "options") (object ms))) e
