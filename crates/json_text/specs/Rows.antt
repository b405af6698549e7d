-- The values that rows are.
use Rattle.std.specs.Prelude.{ℕ, List, map, string_bytes, unwrap_or}
use Rattle.std.specs.Borrow.{Bor}
use Rattle.serde_json.specs.Data.{Data, null, Items, no_items}
use Rattle.serde_json.specs.Read.{read}
use Rattle.serde_json.specs.View.{items_of}
use Rattle.json_text.specs.Arrays.{array_in}
use Rattle.json_text.specs.View.{items_view}
use Rattle.json_text.specs.declared.array.ArrayText.{ArrayText}
use Rattle.json_text.specs.declared.rows.JsonRows.{JsonRows}
use Rattle.json_text.specs.declared.rows.JsonRows.TheVariants.{Values, Texts, Array}

-- the value of a text; one that is no JSON is null
abbrev pub text_data : List ℕ → Data
text_data text = unwrap_or (read text) null

abbrev pub texts_data : List (Bor (List ℕ)) → Items
texts_data texts = items_of (map (λ text. text_data text.now) texts)

-- the members of an array that owns its text
abbrev pub array_data : ArrayText → Items
array_data array = unwrap_or (array_in (string_bytes array.text)) no_items

abbrev pub rows_data : JsonRows → Items
rows_data (Values values) = items_view values.items
rows_data (Texts texts) = texts_data texts.items
rows_data (Array array) = array_data array
