-- What the text that is kept of a field's metadata stands for.
use Rattle.std.specs.Prelude.{◌≡◌, ℕ, List, true, false, unwrap_or, is_some}
use Rattle.serde_json.specs.Data.{Data, null}
use Rattle.serde_json.specs.Find.{as_object}
use Rattle.serde_json.specs.Read.{read}
use Rattle.serde_json.specs.Written.{has_float, compact_text}

-- the value of a text that is JSON
abbrev pub value_of : List ℕ → Data
value_of text = unwrap_or (read text) null

-- A JSON object's text, with no space and its keys in order of bytes; where a number has a fraction or an exponent, how it is written is left open.
pub record IsCompactObject (text : List ℕ) : Type 0 where
  pub object : is_some (as_object (value_of text)) ≡ true
  pub compact : has_float (value_of text) ≡ false → text ≡ compact_text (value_of text)
