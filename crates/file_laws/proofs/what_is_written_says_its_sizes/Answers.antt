use Rattle.file_laws.proofs.WrittenSizes.{sizes_said}
use Rattle.file_laws.proofs.what_is_written_says_its_sizes.Goals as goal

pub returns : goal.returns
returns c = sizes_said
