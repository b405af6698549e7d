use Rattle.std.proofs.Common.{◌++◌, codes, inr, refl, string_bytes}
use Rattle.lake_hints.proofs.noting.note_rowless.Goals as goal

pub returns-in-Some-clause-told : goal.returns-in-Some-clause-told
returns-in-Some-clause-told g c = rw c.in-Create.is (_, inr (c.in-Some.ensures, (string_bytes c.in-Some.columns ++ codes " none here", refl)), c.say.ensures)
