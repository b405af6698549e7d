use Rattle.std.proofs.Common.{string_bytes}
use Rattle.delta_actions.proofs.Lines.{same_key}
use Rattle.delta_actions.proofs.file_path.FilePath.has_key.Goals as goal

pub returns : goal.returns
returns c =
    same_key c.decodes_as.result (string_bytes c.args.self.now.text) (string_bytes c.args.other.now.text) _ _ c.args.self.now.decodes c.args.other.now.decodes
    c.as_bytes.ensures.value c.as_bytes-2.ensures.value c.decodes_as.ensures
