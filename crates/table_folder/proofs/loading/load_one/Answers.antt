use Rattle.std.proofs.Common.{None, Some, refl, subst}
use Rattle.std.specs.Option.{option_map}
use Rattle.table_folder.specs.Traces.{reads}
use Rattle.table_folder.proofs.TraceLemmas.{on_fault}
use Rattle.table_folder.proofs.loading.load_one.Goals as goal

pub returns-in_err-bytes-clause-called : goal.returns-in_err-bytes-clause-called
returns-in_err-bytes-clause-called g c = (None, c.in_err-bytes.ensures.called, on_fault _ _ c.from_residual.result c.from_residual.ensures.1)

pub returns-in_default-clause-called : goal.returns-in_default-clause-called
returns-in_default-clause-called g c = (
  Some None,
  subst (λ found. g.F.Folder.makes c.args.folder.now (reads c.args.name.now (Some (option_map (λ bytes. bytes.items) found))) c.read.new.self) c.in_default.is c.in_ok-bytes.ensures.called,
  (None, refl, refl),
)

pub returns-in-Ok-clause-called : goal.returns-in-Ok-clause-called
returns-in-Ok-clause-called g c = (
  Some (Some c.in-Some.bytes.items),
  subst (λ found. g.F.Folder.makes c.args.folder.now (reads c.args.name.now (Some (option_map (λ bytes. bytes.items) found))) c.read.new.self) c.in-Some.is c.in_ok-bytes.ensures.called,
  (Some c.in-Some.bytes.items, refl, c.in-Ok.ensures.landed.0),
)

pub returns-in-Err-clause-called : goal.returns-in-Err-clause-called
returns-in-Err-clause-called g c = (
  Some (Some c.in-Some.bytes.items),
  subst (λ found. g.F.Folder.makes c.args.folder.now (reads c.args.name.now (Some (option_map (λ bytes. bytes.items) found))) c.read.new.self) c.in-Some.is c.in_ok-bytes.ensures.called,
  tt,
)
