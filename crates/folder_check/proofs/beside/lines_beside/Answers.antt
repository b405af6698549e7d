use Rattle.std.proofs.Common.{◌≡◌, ◌++◌, List, ℕ, String, Global, filter, map, string_bytes, subst, sym, ap, ◌∙◌}
use Rattle.std.specs.Prelude.{codes}
use Rattle.table_folder.specs.Traces.{Traced}
use Rattle.folder_check.specs.Beside.{is_data_file, is_stray, line_of, unnamed_names}
use Rattle.folder_check.specs.Calls.{folder_call}
use Rattle.folder_check.proofs.CallParts.{around_alone, around_beside, traced_folder}
use Rattle.folder_check.proofs.beside.lines_beside.Goals as goal

pub returns-clause-lies : goal.returns-clause-lies
returns-clause-lies g c = λ steady.
    let objects = g.F.Folder.objects c.args.reader.now.folder in
    let here = c.leftovers.ensures.steady steady in
    let same : g.F.Folder.objects c.leftovers.new.self.folder ≡ objects = c.leftovers.ensures.untouched steady in
    let names : map string_bytes c.deref-2.result.now ≡ unnamed_names objects =
    ap (λ (ns : List (String Global)). map string_bytes ns) c.deref-2.ensures.value ∙ (c.in-Ok.ensures.told here ∙ ap unnamed_names same) in (
      map string_bytes c.deref.result.now,
      c.in_ok-lines_of.ensures ∙ ap (λ (ns : List (List ℕ)). map (line_of (codes "leftover")) (map string_bytes c.deref.result.now)
          ++ (map (line_of (codes "stray")) (filter is_stray ns) ++ map (line_of (codes "unnamed")) (filter is_data_file ns))) names,
    )

-- ---- which calls were made

pub returns-in_err-left-clause-called : goal.returns-in_err-left-clause-called
returns-in_err-left-clause-called g c = around_alone g.F.Folder.makes c.args.reader.now.folder c.leftovers.new.self.folder c.in_err-left.ensures.called

pub returns-in-Err-clause-called : goal.returns-in-Err-clause-called
returns-in-Err-clause-called g c =
    let beside = c.in-Err.ensures.called in
    let traced = traced_folder (λ r. r.folder) g.F.Folder.makes c.leftovers.new.self c.unnamed.new.reader beside.0 beside.1 in
    around_beside g.F.Folder.makes c.args.reader.now.folder c.leftovers.new.self.folder c.in_ok-left.ensures.called c.why.new.self.folder beside.0 beside.2
    (subst (λ f. Traced g.F.Folder.makes c.leftovers.new.self.folder (map folder_call beside.0) f) (sym c.why.ensures.folder) traced)

pub returns-in_err-lines_of-clause-called : goal.returns-in_err-lines_of-clause-called
returns-in_err-lines_of-clause-called g c =
    let beside = c.in-Ok.ensures.called in
    around_beside g.F.Folder.makes c.args.reader.now.folder c.leftovers.new.self.folder c.in_ok-left.ensures.called c.unnamed.new.reader.folder beside.0 beside.2
    (traced_folder (λ r. r.folder) g.F.Folder.makes c.leftovers.new.self c.unnamed.new.reader beside.0 beside.1)

pub returns-clause-called : goal.returns-clause-called
returns-clause-called g c =
    let beside = c.in-Ok.ensures.called in
    around_beside g.F.Folder.makes c.args.reader.now.folder c.leftovers.new.self.folder c.in_ok-left.ensures.called c.unnamed.new.reader.folder beside.0 beside.2
    (traced_folder (λ r. r.folder) g.F.Folder.makes c.leftovers.new.self c.unnamed.new.reader beside.0 beside.1)
