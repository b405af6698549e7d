use Rattle.parquet_schema.proofs.SchemaLists.{list_found, list_read, one_tree}
use Rattle.parquet_schema.proofs.laws.a_list_has_one_tree.Goals as goal

pub returns-clause-found : goal.returns-clause-found
returns-clause-found c = list_found

pub returns-clause-only : goal.returns-clause-only
returns-clause-only c = list_read

pub returns-clause-one : goal.returns-clause-one
returns-clause-one c = one_tree
