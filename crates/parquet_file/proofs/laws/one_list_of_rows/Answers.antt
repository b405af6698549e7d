use Rattle.parquet_file.proofs.RowsOnly.{rows_one}
use Rattle.parquet_file.proofs.laws.one_list_of_rows.Goals as goal

pub returns : goal.returns
returns c = rows_one
