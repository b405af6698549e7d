use Rattle.std.proofs.Common.{◌≡◌, drop}
use Rattle.thrift_core.specs.View.{views}
use Rattle.thrift_core.specs.Fields.{each}
use Rattle.parquet_footer.specs.Metadata.{group_of}
use Rattle.parquet_footer.specs.Views.{group_views}
use Rattle.outcomes.proofs.Callers.{with_front}
use Rattle.parquet_footer.proofs.metadata.groups.Given as goal

abbrev pub invariant-loop-member : goal.invariant-loop-member
invariant-loop-member g l = with_front (group_views l.groups.items) (each group_of (views (drop l.member-index l.members))) ≡ each group_of (views l.members)
