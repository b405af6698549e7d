use Rattle.std.proofs.Common.{◌≡◌, ◌∷◌, ◌++◌, List, [], String, Global, drop, map, string_bytes, sym, ap, ◌∙◌, append_assoc, arith, rules}
use Rattle.std.proofs.lemmas.List.{drop_all}
use Rattle.std.proofs.lemmas.Result.{on_ok_weaker}
use Rattle.json.specs.Token.{Token, begin_array, end_array}
use Rattle.json.specs.Tree.{items_tokens}
use Rattle.serde_json.specs.Data.{string}
use Rattle.serde_json.specs.View.{items_of}
use Rattle.serde_json.specs.Written.{items_outline}
use Rattle.json_fields.specs.Views.{text_views}
use Rattle.json_fields.proofs.WrittenKinds.{texts_read}
use Rattle.json_fields.proofs.kind.VecStringFieldKind.write.Goals as goal

abbrev tokens_left : List (String Global) → List Token
tokens_left texts = items_tokens (items_outline (items_of (map string (map (λ s. string_bytes s) texts))))

pub returns-clause-ok : goal.returns-clause-ok
returns-clause-ok c =
    let old = c.args.out.now.tokens in
    let texts = c.deref-text-items.result.now in
    let none : drop c.loop-text.text-index texts ≡ [] = drop_all c.loop-text.text-index texts (omega arith) in
    let opened : c.begin_array.new.self.tokens ≡ old ++ begin_array ∷ [] = search rules in
    let inside : c.loop-text.out.tokens ++ end_array ∷ [] ≡ c.begin_array.new.self.tokens ++ tokens_left texts = ap (λ ss. c.loop-text.out.tokens ++ tokens_left ss) (sym none) ∙ c.loop-text.invariant.1 in
    on_ok_weaker c.end_array.result (λ e. record {
      appends =
          e ∙ inside ∙ ap (λ (ts : List Token). ts ++ tokens_left texts) opened ∙ append_assoc old (begin_array ∷ []) (tokens_left texts)
          ∙ ap (λ ss. old ++ begin_array ∷ tokens_left ss) c.deref-text-items.ensures.value;
      reads = texts_read (text_views c.args.self.now);
    }) c.end_array.ensures.ok
