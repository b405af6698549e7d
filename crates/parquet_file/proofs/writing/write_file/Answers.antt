-- A file is written for the rows, and it is a file of no others.
use Rattle.row_core.specs.Views.{row_views}
use Rattle.schema_tree.specs.Schema.{columns_of, tree_of}
use Rattle.schema_tree.specs.Tree.{fields_of as tree_fields}
use Rattle.parquet_file.proofs.TextsInValues.{values_have_texts}
use Rattle.parquet_file.proofs.WrittenFile.{answer_is_file, answer_is_of_no_other}
use Rattle.parquet_file.proofs.writing.write_file.Goals as goal

pub returns-clause-is_file : goal.returns-clause-is_file
returns-clause-is_file g c =
    answer_is_file (tree_fields (columns_of c.args.schema.now)) (row_views c.args.rows.now) c.file_of.result
    c.args.schema.now.within_limits c.requires.supported c.requires.conform (values_have_texts c.args.rows.now)
    c.file_of.ensures.exact

pub returns-clause-no_other : goal.returns-clause-no_other
returns-clause-no_other g c =
    answer_is_of_no_other (tree_of c.args.schema.now) (row_views c.args.rows.now) c.file_of.result
    c.args.schema.now.within_limits (returns-clause-is_file g c)
