use Rattle.std.proofs.Common.{◌≡◌, map, subst, sym}
use Rattle.table_folder.specs.Traces.{Traced}
use Rattle.folder_check.specs.Calls.{folder_call}
use Rattle.folder_check.proofs.CallParts.{checks_failed, checks_told, lines_of_same, traced_folder}
use Rattle.folder_check.proofs.reader.FolderReader.check.Goals as goal
use Rattle.folder_check.proofs.reader.FolderReader.check.Goals.{in-Ok, in-Err}

pub returns-clause-large : goal.returns-clause-large
returns-clause-large g c = λ steady.
    elim c.match-audit.branch [
      | in-Ok w ↦ rw w.report-is tt
      | in-Err w ↦ rw w.report-is (w.why.ensures.large (g.F.Folder.objects c.args.self.now.folder) (w.in-Err.ensures.large steady))
    ]

pub returns-clause-lies : goal.returns-clause-lies
returns-clause-lies g c = λ steady.
    let objects = g.F.Folder.objects c.args.self.now.folder in
    elim c.match-audit.branch [
      | in-Ok w ↦
          let same : g.F.Folder.objects c.audit.new.reader.folder ≡ objects = c.audit.ensures.untouched steady in
          rw w.report-is (lines_of_same w.lines_beside.result (g.F.Folder.objects c.audit.new.reader.folder) objects same (w.lines_beside.ensures.lies (c.audit.ensures.steady steady)))
      | in-Err w ↦ rw w.report-is tt
    ]

pub returns-clause-called : goal.returns-clause-called
returns-clause-called g c =
    let audit = c.audit.ensures.called in
    let traced = traced_folder (λ r. r.folder) g.F.Folder.makes c.args.self.now c.audit.new.reader audit.0 audit.1 in
    elim c.match-audit.branch [
      | in-Ok w ↦ rw w.self-is (checks_told g.F.Folder.makes _ _ _ audit.0 audit.2 traced _ _ w.report-is w.lines_beside.ensures.called)
      | in-Err w ↦
          let left = subst (λ f. Traced g.F.Folder.makes c.args.self.now.folder (map folder_call audit.0) f) (sym w.why.ensures.folder) traced in
          rw w.self-is (checks_failed g.F.Folder.makes _ _ _ audit.0 audit.2 left _ w.report-is)
    ]
