use Rattle.std.proofs.Common.{rules, tests, length, string_bytes, bytes_eq, sym, ◌∙◌}
use Rattle.std.proofs.lemmas.Bool.{ne_eqb}
use Rattle.std.proofs.lemmas.Iterator.{YieldsList-from_slice, YieldsList-from_zip}
use Rattle.std.proofs.lemmas.Iterator.Search.{all_from_yields_List}
use Rattle.parquet_file.proofs.CodeColumns.{zipped_path, uneven_path}
use Rattle.parquet_file.proofs.columns.same_path.Goals as goal

pub returns-then-names-path : goal.returns-then-names-path
returns-then-names-path g c =
    all_from_yields_List (λ p. bytes_eq p.0.items (string_bytes p.1)) c.all.new.self _ c.all.result c.all.ensures.ran (YieldsList-from_zip (YieldsList-from_slice c.args.names.now cc) (YieldsList-from_slice c.args.path.now cc)) (λ x b q k. search (rules, tests)) ∙ zipped_path c.args.names.now c.args.path.now c.if-names-path.true

pub returns-else-names-path : goal.returns-else-names-path
returns-else-names-path g c = ne_eqb (length c.args.names.now) (length c.args.path.now) c.if-names-path.false ∙ sym (uneven_path c.args.names.now c.args.path.now c.if-names-path.false)
