use Rattle.std.proofs.Common.{arith}
use Rattle.table_store.proofs.HoldingNames.{commit_name-data_file_name}
use Rattle.table_store.proofs.NamesOnce.{commit_name-once, data_file_name-once}
use Rattle.table_store.proofs.holding.names_stand_apart.Goals as goal

pub returns : goal.returns
returns c = record {
  commits = λ version other small. commit_name-once version other (omega arith);
  files = λ application second number other p q small. data_file_name-once application second number other p q (omega arith);
  commits_from_files = commit_name-data_file_name;
}
