use Rattle.std.proofs.Common.{arith}
use Rattle.std.specs.Prelude.{length}
use Rattle.table_store.proofs.HoldingPuts.{HoldsFrom-commit}
use Rattle.table_store.proofs.holding.a_commit_is_one_entry_more.Goals as goal

pub returns : goal.returns
returns c = λ objects schema entries entry bytes holds commit file tells last. HoldsFrom-commit objects schema 0 (length entries) entries entry bytes (omega arith) holds commit file last
