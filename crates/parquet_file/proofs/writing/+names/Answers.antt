use Rattle.std.proofs.Common.{sym, ap, ◌∙◌, arith}
use Rattle.parquet_file.specs.Writing.{is_short_named}
use Rattle.parquet_file.proofs.PutElements.{struct_seen}
use Rattle.parquet_file.proofs.ShortNames.{long_inside, long_name, none_long, one_short}
use Rattle.parquet_file.proofs.writing.+names.Goals.{are_short_named-then-len-gt-MAX_FILE_SIZE-via-then-len-gt-MAX_FILE_SIZE, are_short_named-then-len-gt-MAX_FILE_SIZE-via-else-len-gt-MAX_FILE_SIZE+then-not-is_short_named}
use Rattle.parquet_file.proofs.writing.+names.Goals as goal

pub is_short_named-returns-in-Struct : goal.is_short_named-returns-in-Struct
is_short_named-returns-in-Struct g t c =
    c.are_short_named.ensures ∙ ap is_short_named (sym (struct_seen c.in-Struct.fields c.deref.result.now c.args.node.now
    c.deref.ensures.value c.in-Struct.is))

pub are_short_named-returns-then-len-gt-MAX_FILE_SIZE : goal.are_short_named-returns-then-len-gt-MAX_FILE_SIZE
are_short_named-returns-then-len-gt-MAX_FILE_SIZE g t c =
    let fs = c.args.fields.now in
    let i = c.loop-field.field-index in
    let f = c.field-item.result in
    elim c.then-len-gt-MAX_FILE_SIZE.branch [
      | are_short_named-then-len-gt-MAX_FILE_SIZE-via-then-len-gt-MAX_FILE_SIZE w ↦
          long_name fs i f c.loop-field-test.true c.field-item.is
          (omega (arith, c.len.ensures, f.name.bytes.ok.0, w.if-len-gt-MAX_FILE_SIZE.true)) ∙ c.loop-field.invariant
      | are_short_named-then-len-gt-MAX_FILE_SIZE-via-else-len-gt-MAX_FILE_SIZE+then-not-is_short_named w ↦
          long_inside fs i f c.loop-field-test.true c.field-item.is
          (omega (arith, c.len.ensures, f.name.bytes.ok.0, w.if-len-gt-MAX_FILE_SIZE.false))
          (sym w.is_short_named.ensures ∙ w.if-not-is_short_named.true) ∙ c.loop-field.invariant
    ]

pub are_short_named-loop-field-preserved : goal.are_short_named-loop-field-preserved
are_short_named-loop-field-preserved g t c =
    let f = c.field-item.result in
    one_short c.args.fields.now c.loop-field.field-index f c.loop-field-test.true c.field-item.is
    (omega (arith, c.len.ensures, f.name.bytes.ok.0, c.if-len-gt-MAX_FILE_SIZE.false))
    (sym c.is_short_named.ensures ∙ c.if-not-is_short_named.false) ∙ c.loop-field.invariant

pub are_short_named-returns : goal.are_short_named-returns
are_short_named-returns g t c = none_long c.args.fields.now c.loop-field.field-index c.loop-field-test.false ∙ c.loop-field.invariant
