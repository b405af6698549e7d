use Rattle.std.proofs.Common.{refl}
use Rattle.lake_bytes.proofs.cursor.Cursor.next_i32.Goals as goal

pub returns-in-Err-clause-exact : goal.returns-in-Err-clause-exact
returns-in-Err-clause-exact c = c.in-Err.ensures.exact 32 refl
