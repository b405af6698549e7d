use Rattle.std.proofs.Common.{◌∙◌, ◌∷◌, [], None, Some, ap, map, refl, subst}
use Rattle.std.proofs.lemmas.List.Elements.{Contains-append_right}
use Rattle.std.specs.Prelude.{List, ℕ, Contains, string_bytes}
use Rattle.store_core.specs.Objects.{Objects, names_of}
use Rattle.table_folder.specs.Copies.{with_copies}
use Rattle.table_folder.specs.Traces.{ReadsAll, ReadsUpToOneFile, lists, told_objects}
use Rattle.table_folder.proofs.CopyLemmas.{all_copied}
use Rattle.table_folder.proofs.LoadLemmas.{among_more}
use Rattle.table_folder.proofs.TraceLemmas.{front_loaded, not_listed}
use Rattle.table_folder.proofs.loading.load.Goals as goal

pub returns-in_err-copy_files-clause-named : goal.returns-in_err-copy_files-clause-named
returns-in_err-copy_files-clause-named g c = λ steady.
    let names = ap (map string_bytes) c.deref.ensures.value ∙ c.in_ok-names.ensures.names steady in
    among_more (map string_bytes c.deref.result.now) (g.F.Folder.path c.args.folder.now ∷ names_of (g.F.Folder.objects c.args.folder.now)) c.in_err-copy_files.field-0.0 c.from_residual-in_err-copy_files.result c.from_residual-in_err-copy_files.ensures.1
    (λ name one. Contains-append_right (g.F.Folder.path c.args.folder.now ∷ []) (names_of (g.F.Folder.objects c.args.folder.now)) name
    (subst (λ (all : List (List ℕ)). Contains all name) names one))
    c.in_err-copy_files.ensures.named

pub returns-clause-loaded : goal.returns-clause-loaded
returns-clause-loaded g c = λ steady.
    let names = ap (map string_bytes) c.deref.ensures.value ∙ c.in_ok-names.ensures.names steady in
    c.in_ok-copy_files.ensures.copied (c.in_ok-names.ensures.steady steady)
    ∙ (λ i. with_copies (c.in_ok-names.ensures.untouched steady i) (c.new-store.ensures i) (names i))
    ∙ all_copied (g.F.Folder.objects c.args.folder.now) (g.met.F.Folder.in_order c.args.folder.now)

pub returns-in_err-names-clause-called : goal.returns-in_err-names-clause-called
returns-in_err-names-clause-called g c =
    (lists None ∷ [], (c.names.new.self, c.in_err-names.ensures.called, refl), not_listed (λ names. names) _ c.from_residual.result c.from_residual.ensures.1)

pub returns-in_err-copy_files-clause-called : goal.returns-in_err-copy_files-clause-called
returns-in_err-copy_files-clause-called g c =
    let names = map string_bytes c.in_ok-names.names.items in
    let read = c.in_err-copy_files.ensures.called in (
      lists (Some names) ∷ read.0,
      (c.names.new.self, c.in_ok-names.ensures.called, read.1),
      front_loaded (λ names. names) _ c.from_residual-in_err-copy_files.result names read.0 c.from_residual-in_err-copy_files.ensures.1 (subst (λ ns. ReadsUpToOneFile ns read.0) (ap (map string_bytes) c.deref.ensures.value) read.2),
    )

pub returns-clause-called : goal.returns-clause-called
returns-clause-called g c =
    let names = map string_bytes c.in_ok-names.names.items in
    let read = c.in_ok-copy_files.ensures.called in (
      lists (Some names) ∷ read.0,
      (c.names.new.self, c.in_ok-names.ensures.called, read.1),
      (
        names,
        read.0,
        subst (λ ns. ReadsAll ns read.0) (ap (map string_bytes) c.deref.ensures.value) read.2.0,
        read.2.1 ∙ ap (λ (objects : Objects). told_objects objects read.0) c.new-store.ensures,
        refl,
      ),
    )
