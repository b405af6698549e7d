use Rattle.std.proofs.Common.{◌≡◌, drop}
use Rattle.parquet_file.proofs.ShortNames.{all_short}
use Rattle.parquet_file.proofs.writing.+names.Given as goal

-- whether all names are short is up to the fields that are left
abbrev pub invariant-are_short_named-loop-field : goal.invariant-are_short_named-loop-field
invariant-are_short_named-loop-field g l = all_short (drop l.field-index l.fields) ≡ all_short l.fields
