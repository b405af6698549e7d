use Rattle.commit_core.proofs.CreationTalks.{exactly}
use Rattle.commit_core.proofs.create_laws.a_creation_over_one_store.Goals as goal

pub returns : goal.returns
returns c = λ job before talk result old new. exactly job old new talk result
