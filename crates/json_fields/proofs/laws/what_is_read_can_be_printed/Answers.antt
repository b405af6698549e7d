use Rattle.json_fields.proofs.Held.{optional_holds, needed_holds, defaulted_holds}
use Rattle.json_fields.proofs.laws.what_is_read_can_be_printed.Goals as goal

pub returns-clause-needed : goal.returns-clause-needed
returns-clause-needed g c = λ name body x e. needed_holds g.T.FieldKind.kind g.T.FieldKind.is_printable g.met.T.FieldKind.prints_back name body x e

pub returns-clause-defaulted : goal.returns-clause-defaulted
returns-clause-defaulted g c = λ name body x other standard e. defaulted_holds g.T.FieldKind.kind g.T.FieldKind.is_printable g.met.T.FieldKind.prints_back name other body x standard e

pub returns-clause-optional : goal.returns-clause-optional
returns-clause-optional g c = λ name body o e. optional_holds g.T.FieldKind.kind g.T.FieldKind.is_printable g.met.T.FieldKind.prints_back name body o e
