use Rattle.std.proofs.Common.{◌≡◌, ◌≤◌, ap, sym, subst, ◌∙◌, Some, string_bytes}
use Rattle.std.proofs.lemmas.Result.{IfOk-weaker}
use Rattle.serde_json.specs.Data.{depth}
use Rattle.serde_json.specs.Read.{max_depth}
use Rattle.serde_json.specs.View.{view}
use Rattle.serde_json.specs.Written.{has_float, compact_text}
use Rattle.schema_tree.specs.Printing.{data_of, struct_data, items_of_fields}
use Rattle.schema_tree.specs.Schema.{tree_of, columns_of}
use Rattle.schema_tree.specs.Tree.{fields_of}
use Rattle.schema_tree.specs.View.{field_views}
use Rattle.schema_tree.proofs.PrintedReads.{text_reads_again}
use Rattle.schema_tree.proofs.schema.Schema.to_text.Goals as goal

pub returns-clause-value : goal.returns-clause-value
returns-clause-value g c =
    let v = c.in_ok-struct_value.field-0 in
    let seen : view v ≡ data_of (tree_of c.args.self.now) = c.in_ok-struct_value.ensures ∙ ap struct_data (c.in_ok-items.ensures ∙ ap (λ fs. items_of_fields (fields_of (field_views fs))) c.deref.ensures.value) in
    let shallow : depth (view v) ≤ max_depth = subst (λ d. depth d ≤ max_depth) (sym seen) c.args.self.now.within_limits.nests in
    IfOk-weaker c.to_string.result _ _ (λ s reads. reads shallow ∙ ap Some seen) c.to_string.ensures.reads_back

pub returns-clause-reads : goal.returns-clause-reads
returns-clause-reads g c = IfOk-weaker c.to_string.result _ _ (λ s e. text_reads_again (string_bytes s) (fields_of (columns_of c.args.self.now)) c.args.self.now.within_limits e) (returns-clause-value g c)

pub returns-clause-text : goal.returns-clause-text
returns-clause-text g c =
    let v = c.in_ok-struct_value.field-0 in
    let seen : view v ≡ data_of (tree_of c.args.self.now) = c.in_ok-struct_value.ensures ∙ ap struct_data (c.in_ok-items.ensures ∙ ap (λ fs. items_of_fields (fields_of (field_views fs))) c.deref.ensures.value) in
    IfOk-weaker c.to_string.result _ _ (λ s text none. text (ap has_float seen ∙ none) ∙ ap compact_text seen) c.to_string.ensures.text
