-- What the types of the code stand for.
use Rattle.row_core.specs.Views.{row_views}
use Rattle.parquet_file.specs.Reading.{RowsPart}
use Rattle.parquet_file.specs.declared.rows.FilePart.{FilePart}

abbrev pub file_part_view : FilePart → RowsPart
file_part_view p = record { rows = row_views p.rows.items; total = p.total }
