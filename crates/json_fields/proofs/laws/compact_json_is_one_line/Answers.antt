use Rattle.json_fields.proofs.OneLine.{compact_is_one_line}
use Rattle.json_fields.proofs.laws.compact_json_is_one_line.Goals as goal

pub returns : goal.returns
returns c = compact_is_one_line
