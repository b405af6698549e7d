-- JSON without a float reads again from its one text with no space.
use Rattle.std.proofs.Common.{◌≡◌, ◌≤◌, ◌∙◌, List, [], Option, Some, sym, ap, append-nil}
use Rattle.std.specs.Prelude.{ℕ, option_and_then}
use Rattle.json.specs.Json.{Json, if_last, value}
use Rattle.json.specs.Token.{Token}
use Rattle.json.specs.Lex.{tokens}
use Rattle.json.specs.Print.{print}
use Rattle.json.specs.Tree as tree
use Rattle.json.proofs.Printed.Tokens.{tokens-print}
use Rattle.json.proofs.Printed.Trees.{ArePrintable-json_tokens, value-json_tokens}
use Rattle.serde_json.specs.Data.{Data}
use Rattle.serde_json.specs.Read.{max_depth, of_json, read}
use Rattle.serde_json.specs.Written.{compact_text, outline}
use Rattle.serde_json.proofs.Texts.{print-outline}

-- a text of the value's tokens reads as it
pub tokens_read : (d : Data) (text : List ℕ) → tokens text ≡ tree.json_tokens (outline d) → tree.depth (outline d) ≤ max_depth → of_json (outline d) ≡ Some d → read text ≡ Some d
tokens_read d text found shallow same =
    let json = outline d in
    ap (λ (ts : List Token). option_and_then of_json (option_and_then (λ (p : Json × List Token). if_last p.0 p.1) (value max_depth ts))) (found ∙ sym (append-nil (tree.json_tokens json)))
    ∙ (ap (λ (v : Option (Json × List Token)). option_and_then of_json (option_and_then (λ (p : Json × List Token). if_last p.0 p.1) v)) (value-json_tokens json max_depth [] shallow) ∙ same)

module _ (d : Data) (numbers : tree.HasNumbers (outline d)) where
  -- the tokens of the text are those of the value
  pub text_tokens : tokens (compact_text d) ≡ tree.json_tokens (outline d)
  text_tokens = ap tokens (sym (print-outline d)) ∙ tokens-print (tree.json_tokens (outline d)) (ArePrintable-json_tokens (outline d) numbers)

  -- which are printed as it
  pub text_compact : compact_text d ≡ print (tokens (compact_text d))
  text_compact = sym (ap print text_tokens ∙ print-outline d)

  -- so it is read as the value
  pub text_read : tree.depth (outline d) ≤ max_depth → of_json (outline d) ≡ Some d → read (compact_text d) ≡ Some d
  text_read = tokens_read d (compact_text d) text_tokens
