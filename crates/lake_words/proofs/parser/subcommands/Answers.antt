use Rattle.std.proofs.Common.{refl}
use Rattle.lake_words.proofs.parser.subcommands.Goals as goal

pub returns : goal.returns
returns c = refl
