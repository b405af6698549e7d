use Rattle.std.proofs.Common.{◌≡◌, drop}
use Rattle.thrift_core.specs.View.{views}
use Rattle.thrift_core.specs.Fields.{each}
use Rattle.parquet_footer.specs.Metadata.{chunk_of}
use Rattle.parquet_footer.specs.Views.{chunk_views}
use Rattle.outcomes.proofs.Callers.{with_front}
use Rattle.parquet_footer.proofs.metadata.chunks.Given as goal

abbrev pub invariant-loop-member : goal.invariant-loop-member
invariant-loop-member g l = with_front (chunk_views l.chunks.items) (each chunk_of (views (drop l.member-index l.members))) ≡ each chunk_of (views l.members)
