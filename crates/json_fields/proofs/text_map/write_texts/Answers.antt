use Rattle.std.proofs.Common.{◌≡◌, ◌∷◌, ◌++◌, List, [], sym, ap, ◌∙◌, append_assoc, rules}
use Rattle.std.proofs.lemmas.Result.{on_ok_weaker}
use Rattle.json.specs.Token.{Token, begin_object, end_object}
use Rattle.json.specs.Tree.{members_tokens}
use Rattle.serde_json.specs.View.{members_view}
use Rattle.serde_json.specs.Written.{members_outline}
use Rattle.serde_json.proofs.Views.{Entry}
use Rattle.json_fields.proofs.WrittenKinds.{map_reads}
use Rattle.json_fields.proofs.text_map.write_texts.Goals as goal

abbrev tokens_left : List Entry → List Token
tokens_left members = members_tokens (members_outline (members_view members))

pub returns-clause-ok : goal.returns-clause-ok
returns-clause-ok c =
    let old = c.args.out.now.tokens in
    let members = c.args.members.now.entries in
    let none : c.loop-name.name-iterator ≡ [] = c.in-None.ensures.steps.0 in
    let opened : c.begin_object.new.self.tokens ≡ old ++ begin_object ∷ [] = search rules in
    let inside : c.loop-name.out.tokens ++ end_object ∷ [] ≡ c.begin_object.new.self.tokens ++ tokens_left members = ap (λ (left : List Entry). c.loop-name.out.tokens ++ tokens_left left) (sym none) ∙ c.loop-name.invariant.2 in
    on_ok_weaker c.end_object.result (λ e. record {
      appends = e ∙ inside ∙ ap (λ (ts : List Token). ts ++ tokens_left members) opened ∙ append_assoc old (begin_object ∷ []) (tokens_left members);
      reads = map_reads members c.iter-name-items.ensures.ordered c.requires;
    }) c.end_object.ensures.ok
