use Rattle.schema_tree.proofs.PrintedReads.{reads_again}
use Rattle.schema_tree.proofs.laws.what_is_printed_reads_again.Goals as goal

pub returns : goal.returns
returns c = reads_again
