use Rattle.table_check.proofs.CheckpointSame.{lines_alike}
use Rattle.table_check.proofs.laws.a_checkpoint_has_one_list_of_lines.Goals as goal

pub returns : goal.returns
returns c = λ bytes others version log lines own_lines actions own read own_read printable printable_too are are_too sorted sorted_too first second.
    lines_alike version log bytes others lines own_lines actions own read own_read printable printable_too are are_too sorted sorted_too first second
