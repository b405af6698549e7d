use Rattle.std.proofs.Common.{refl}
use Rattle.lake_bytes.proofs.cursor.Cursor.next_i16.Goals as goal

pub returns-in-Err-clause-exact : goal.returns-in-Err-clause-exact
returns-in-Err-clause-exact c = c.in-Err.ensures.exact 16 refl
