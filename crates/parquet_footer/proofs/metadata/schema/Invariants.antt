use Rattle.std.proofs.Common.{◌≡◌, drop}
use Rattle.thrift_core.specs.View.{views}
use Rattle.thrift_core.specs.Fields.{each}
use Rattle.parquet_footer.specs.Metadata.{node_of, schema_of}
use Rattle.parquet_footer.specs.Views.{element_views}
use Rattle.outcomes.proofs.Callers.{with_front}
use Rattle.parquet_footer.proofs.metadata.schema.Given as goal

abbrev pub invariant-loop-other : goal.invariant-loop-other
invariant-loop-other g l = with_front (element_views l.elements.items) (each node_of (views (drop l.other-index l.others))) ≡ schema_of (views l.nodes)
