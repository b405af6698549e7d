use Rattle.snapshot_core.proofs.lines.file_line.Goals as goal

pub returns : goal.returns
returns c = rw c.text.ensures at c.path_line.ensures
