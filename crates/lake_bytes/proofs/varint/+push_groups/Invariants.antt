use Rattle.lake_bytes.proofs.varint.+push_groups.Given as goal

abbrev pub decreases-push_groups : goal.decreases-push_groups
decreases-push_groups l = l.number
