use Rattle.lake_bytes.specs.Reading.{ReadsFront}
use Rattle.parquet_pages.specs.Usual.{SpellsUsual}
use Rattle.parquet_pages.specs.Views.{header_view}
use Rattle.parquet_pages.proofs.UsualFields.{usual_is_read, usual_is_refused}
use Rattle.parquet_pages.proofs.header.read_header.Goals as goal

pub returns-in-Ok-clause-exact : goal.returns-in-Ok-clause-exact
returns-in-Ok-clause-exact c =
    let usual = c.in-Some.usual in
    let front : ReadsFront SpellsUsual c.args.bytes.now usual c.usual_header.new.cursor =
    rw (← c.new-cursor.ensures) c.in-Some.ensures.spelled in
    rw c.left.ensures (usual_is_read c.args.has_levels c.args.bytes.now c.usual_header.new.cursor usual
    (header_view c.in-Ok.header) front (c.in-Ok.ensures c.in-Some.ensures.of_data))

pub returns-in-Err-clause-exact : goal.returns-in-Err-clause-exact
returns-in-Err-clause-exact c =
    let usual = c.in-Some.usual in
    let front : ReadsFront SpellsUsual c.args.bytes.now usual c.usual_header.new.cursor =
    rw (← c.new-cursor.ensures) c.in-Some.ensures.spelled in
    rw c.bad_header.ensures (usual_is_refused c.args.has_levels c.args.bytes.now c.usual_header.new.cursor usual
    c.in-Err.fault front (c.in-Err.ensures c.in-Some.ensures.of_data))
