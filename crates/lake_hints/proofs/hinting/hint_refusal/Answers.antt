use Rattle.std.proofs.Common.{ℕ, Bool, List, Option, option_map, subst}
use Rattle.lake_words.specs.Asked.{work_view}
use Rattle.lake_hints.specs.ErrorOutputs.{IsTextBehind, TellsText, TellsSome}
use Rattle.lake_hints.specs.Hints.{IsRowMeaning, IsSchemaHint, hint_line, is_no_json, limit_in, row_code_in, schema_in}
use Rattle.lake_hints.proofs.ErrorLemmas.{told_behind, told_in_turn}
use Rattle.lake_hints.proofs.hinting.hint_refusal.Goals as goal

pub returns : goal.returns
returns g c =
    let work = work_view c.args.job in
    let contents = g.E.Write.contents in
    let reply = c.args.reply.now in
    told_in_turn contents (IsRowMeaning (row_code_in reply))
    (IsTextBehind (hint_line (limit_in reply work c.args.rows)) (IsSchemaHint (is_no_json reply) (schema_in work)))
    c.args.err.now c.explain_row.new.err c.hint_schema.new.err c.explain_row.ensures
    (told_behind contents (IsSchemaHint (is_no_json reply) (schema_in work)) c.explain_row.new.err c.hint.new.err c.hint_schema.new.err (hint_line (limit_in reply work c.args.rows))
    (subst (λ (what : Option (List ℕ)). TellsText contents c.explain_row.new.err c.hint.new.err (hint_line what)) c.limit_passed.ensures c.hint.ensures)
    (subst (λ (schema : Option (List ℕ)). TellsSome contents (IsSchemaHint (is_no_json reply) schema) c.hint.new.err c.hint_schema.new.err) c.schema_of.ensures
    (subst (λ (is : Bool). TellsSome contents (IsSchemaHint is (option_map (λ schema. schema.now) c.schema_of.result)) c.hint.new.err c.hint_schema.new.err) c.is_no_json.ensures c.hint_schema.ensures)))
