use Rattle.lake_bytes.proofs.varint.+read_groups.Given as goal

abbrev pub decreases-read_groups : goal.decreases-read_groups
decreases-read_groups l = l.most
