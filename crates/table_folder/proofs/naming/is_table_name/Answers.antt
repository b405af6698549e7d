use Rattle.std.proofs.Common.{◌∙◌, sym, ap, drop}
use Rattle.std.specs.Prelude.{◌&&◌, ◌||◌, nat_eq, codes}
use Rattle.std.specs.List.{starts_with}
use Rattle.table_folder.specs.Names.{is_shown, is_table_name}
use Rattle.table_folder.proofs.naming.is_table_name.Goals as goal

pub returns : goal.returns
unfolding is_table_name
returns c =
    c.is_shown-2.ensures
    ∙ ap is_shown c.split_at.ensures.back
    ∙ ap (λ b. b && is_shown (drop 11 c.as_bytes-bytes.result.now)) (sym c.if-not-starts_with.false ∙ c.starts_with.ensures.value)
    ∙ ap (λ b. b || (starts_with nat_eq c.as_bytes-bytes.result.now (codes "_delta_log/") && is_shown (drop 11 c.as_bytes-bytes.result.now))) (sym c.if-is_shown.false ∙ c.is_shown.ensures)
    ∙ ap is_table_name c.as_bytes-bytes.ensures.value
