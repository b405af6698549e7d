use Rattle.std.proofs.Common.{rules}
use Rattle.table_audit.proofs.CallParts.{commit_read, none_read}
use Rattle.table_audit.proofs.beside.add_files_under.Goals as goal

pub returns-then-is_none-clause-called : goal.returns-then-is_none-clause-called
returns-then-is_none-clause-called g c = none_read g.R.ObjectReader.makes _ c.args.name.now (search rules)

pub returns-in_err-bytes-clause-called : goal.returns-in_err-bytes-clause-called
returns-in_err-bytes-clause-called g c = commit_read g.R.ObjectReader.makes _ _ c.args.name.now _ (search rules) c.in_err-bytes.ensures.called

pub returns-in_default-clause-called : goal.returns-in_default-clause-called
returns-in_default-clause-called g c = commit_read g.R.ObjectReader.makes _ _ c.args.name.now _ (search rules) c.in_ok-bytes.ensures.called

pub returns-in_err-version-clause-called : goal.returns-in_err-version-clause-called
returns-in_err-version-clause-called g c = commit_read g.R.ObjectReader.makes _ _ c.args.name.now _ (search rules) c.in_ok-bytes.ensures.called

pub returns-in_err-add_files_of-clause-called : goal.returns-in_err-add_files_of-clause-called
returns-in_err-add_files_of-clause-called g c = commit_read g.R.ObjectReader.makes _ _ c.args.name.now _ (search rules) c.in_ok-bytes.ensures.called

pub returns-clause-called : goal.returns-clause-called
returns-clause-called g c = commit_read g.R.ObjectReader.makes _ _ c.args.name.now _ (search rules) c.in_ok-bytes.ensures.called
