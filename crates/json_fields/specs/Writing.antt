-- What is written of JSON values and of an object's fields, token by token, and the text that the tokens make.
use Rattle.std.specs.Prelude.{◌≡◌, ◌≤◌, ℕ, ◌++◌, List, [], ◌∷◌, false, Option, Some, None, IfSome}
use Rattle.std.specs.List.{AllByRecursion, flat_map}
use Rattle.std.specs.Str.{IsUtf8}
use Rattle.json.specs.Lex.{tokens}
use Rattle.json.specs.Print.{print}
use Rattle.json.specs.Token.{Token, key}
use Rattle.json.specs.Tree.{json_tokens}
use Rattle.serde_json.specs.Data.{Data, depth}
use Rattle.serde_json.specs.Read.{max_depth, of_json, read}
use Rattle.serde_json.specs.Written.{IsInOrder, blank, compact_text, has_float, outline}
use Rattle.json_fields.specs.Printing.{Field}

-- What is printed of the value reads as it: its numbers are whole and have 64 bits, and its objects have each key once,
-- in order.
pub record ReadsAgain (d : Data) : Type 0 where
  pub same : of_json (outline d) ≡ Some d
  pub integers : blank (outline d) ≡ outline d

-- the value was written behind what stood there, and what is printed of it reads as it
pub record IsWritten (d : Data) (old new : List Token) : Type 0 where
  pub appends : new ≡ old ++ json_tokens (outline d)
  pub reads : ReadsAgain d

-- a member's key and value; an absent one has no tokens
abbrev pub member_tokens : List ℕ → Option Data → List Token
member_tokens name None = []
member_tokens name (Some d) = key name ∷ json_tokens (outline d)

-- the fields that are printed, in the order in which they stand
abbrev pub fields_tokens : List Field → List Token
fields_tokens fs = flat_map (λ f. member_tokens f.0 f.1) fs

-- the fields were written behind what stood there, and what is printed of each value reads as it
pub record AreWritten (fs : List Field) (old new : List Token) : Type 0 where
  pub appends : new ≡ old ++ fields_tokens fs
  pub reads : AllByRecursion (λ f. IfSome f.1 ReadsAgain) fs

-- The text is UTF-8, has the value's members in order and no space between them, and reads as the value where that isn't
-- nested deeper than JSON is read; where no float stands in it, it is the one such text.
pub record IsTextOf (text : List ℕ) (d : Data) : Type 0 where
  pub order : IsInOrder text d
  pub compact : text ≡ print (tokens text)
  pub exact : has_float d ≡ false → text ≡ compact_text d
  pub utf8 : IsUtf8 text
  pub reads : depth d ≤ max_depth → read text ≡ Some d
