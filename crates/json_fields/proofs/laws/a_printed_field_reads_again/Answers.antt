use Rattle.json_fields.proofs.Lookup.{needed_again, defaulted_again, defaulted_missing, optional_of_kind}
use Rattle.json_fields.proofs.laws.a_printed_field_reads_again.Goals as goal

pub returns-clause-needed : goal.returns-clause-needed
returns-clause-needed g c = λ name fs x h is. needed_again g.T.FieldKind.kind name fs (g.T.FieldKind.printed x) x is (g.met.T.FieldKind.reads_back x h)

pub returns-clause-defaulted : goal.returns-clause-defaulted
returns-clause-defaulted g c = λ name fs x other h is. defaulted_again g.T.FieldKind.kind name other fs (g.T.FieldKind.printed x) x is (g.met.T.FieldKind.reads_back x h)

pub returns-clause-missing : goal.returns-clause-missing
returns-clause-missing g c = λ name fs other is. defaulted_missing g.T.FieldKind.kind name other fs is

pub returns-clause-optional : goal.returns-clause-optional
returns-clause-optional g c = λ name fs o h is. optional_of_kind g.T.FieldKind.kind g.T.FieldKind.printed g.T.FieldKind.is_printable g.met.T.FieldKind.reads_back name fs o h is
