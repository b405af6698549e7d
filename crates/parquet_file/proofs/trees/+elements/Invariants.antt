use Rattle.std.proofs.Common.{◌≡◌, ◌++◌, drop}
use Rattle.thrift_core.specs.View.{views}
use Rattle.parquet_file.proofs.PutElements.{elements_of}
use Rattle.parquet_file.proofs.trees.+elements.Given as goal

-- the nodes that are put and those of the fields that are left are all nodes
abbrev pub invariant-put_fields-loop-field : goal.invariant-put_fields-loop-field
invariant-put_fields-loop-field g l = views l.elements.items ++ elements_of (drop l.field-index l.fields) ≡ views l.fn.elements.items ++ elements_of l.fields
