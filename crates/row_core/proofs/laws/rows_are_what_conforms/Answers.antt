use Rattle.row_core.specs.Printing.{data_of_row}
use Rattle.row_core.proofs.ConformsReads.{row_again}
use Rattle.row_core.proofs.ReadConforms.{row_conforms}
use Rattle.row_core.proofs.laws.rows_are_what_conforms.Goals as goal

pub returns : goal.returns
returns c = λ t r sound. (λ conforms. (data_of_row t r, row_again t r sound conforms), λ read. row_conforms t read.0 r read.1)
