use Rattle.std.proofs.Common.{◌≡◌, ◌+◌, drop}
use Rattle.parquet_footer.specs.Views.{group_views}
use Rattle.parquet_file.specs.Reading.{claimed_rows}
use Rattle.parquet_file.proofs.groups.claims_add_up.Given as goal

-- what is left, and what the groups behind claim, differ as what was given and what all claim
abbrev pub invariant-loop-group : goal.invariant-loop-group
invariant-loop-group g l = l.left + claimed_rows (group_views l.groups) ≡ l.rows + claimed_rows (group_views (drop l.group-index l.groups))
