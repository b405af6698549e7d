use Rattle.std.proofs.Common.{◌≡◌, ◌&&◌, ℕ, Bool, List, String, Global, filter, is_some, map, not, string_bytes, ap, ◌∙◌, [], ◌∷◌, None, Some, refl, subst}
use Rattle.std.specs.List.{list_any}
use Rattle.std.specs.BTreeSet.{contains_text}
use Rattle.store_core.specs.Objects.{Objects, names_of}
use Rattle.table_audit.specs.Beside.{is_unnamed, name_adds}
use Rattle.table_check.specs.Named.{version_named}
use Rattle.table_audit.proofs.BesideParts.{same_kept}
use Rattle.table_audit.specs.Audits.{ReadInTurn, is_commit_name}
use Rattle.table_audit.specs.Calls.{lists}
use Rattle.table_audit.proofs.CallParts.{traced_once}
use Rattle.table_audit.proofs.TraceParts.{looks_beside}
use Rattle.table_audit.proofs.beside.unnamed.Goals as goal

pub returns-clause-told : goal.returns-clause-told
returns-clause-told g c = λ steady.
    let objects = g.R.ObjectReader.objects c.args.reader.now in
    let listed = c.names.ensures.steady steady in
    let left : g.R.ObjectReader.objects c.names.new.self ≡ objects = c.names.ensures.untouched steady in
    let all : map string_bytes c.in_ok-names.names.items ≡ names_of objects = c.in_ok-names.ensures.names steady in
    let given : map string_bytes c.deref.result.now ≡ names_of objects = ap (λ (ns : List (String Global)). map string_bytes ns) c.deref.ensures.value ∙ all in
    let kept : map string_bytes c.deref-2.result.now ≡ names_of objects = ap (λ (ns : List (String Global)). map string_bytes ns) c.deref-2.ensures.value ∙ all in
    let files = c.in_ok-files.files in
    let p : List ℕ → Bool = λ name. not (is_some (version_named name)) && not (contains_text files name) in
    let found : (name : List ℕ) → contains_text files name ≡ list_any (name_adds objects name) (names_of objects) =
    λ name. c.in_ok-files.ensures.added listed name ∙ (ap (λ (o : Objects). list_any (name_adds o name) (map string_bytes c.deref.result.now)) left ∙ ap (list_any (name_adds objects name)) given) in
    c.in_ok-unnamed_in.ensures
    ∙ (ap (filter p) kept ∙ same_kept p (is_unnamed objects) (λ name. ap (λ (b : Bool). not (is_some (version_named name)) && not b) (found name)) (names_of objects))

-- ---- which calls were made

pub returns-in_err-names-clause-called : goal.returns-in_err-names-clause-called
returns-in_err-names-clause-called g c = (lists None ∷ [], traced_once g.R.ObjectReader.makes _ _ (lists None) c.in_err-names.ensures.called, (None, [], refl, refl))

pub returns-in_err-files-clause-called : goal.returns-in_err-files-clause-called
returns-in_err-files-clause-called g c = looks_beside g.R.ObjectReader.makes _ _ _ _ _ c.in_ok-names.ensures.called (ap (λ (ns : List (String Global)). map string_bytes ns) c.deref.ensures.value) c.in_err-files.ensures.called

pub returns-in_err-unnamed_in-clause-called : goal.returns-in_err-unnamed_in-clause-called
returns-in_err-unnamed_in-clause-called g c = looks_beside g.R.ObjectReader.makes _ _ _ _ _ c.in_ok-names.ensures.called (ap (λ (ns : List (String Global)). map string_bytes ns) c.deref.ensures.value) c.in_ok-files.ensures.called

pub returns-clause-called : goal.returns-clause-called
returns-clause-called g c = looks_beside g.R.ObjectReader.makes _ _ _ _ _ c.in_ok-names.ensures.called (ap (λ (ns : List (String Global)). map string_bytes ns) c.deref.ensures.value) c.in_ok-files.ensures.called

pub returns-clause-whole : goal.returns-clause-whole
returns-clause-whole g c =
    let names = map string_bytes c.in_ok-names.names.items in
    let same : map string_bytes c.deref.result.now ≡ names = ap (λ (ns : List (String Global)). map string_bytes ns) c.deref.ensures.value in
    let read = c.in_ok-files.ensures.whole in
    (lists (Some names) ∷ read.0, (c.names.new.self, c.in_ok-names.ensures.called, read.1), (names, read.0, refl, subst (λ (ns : List (List ℕ)). ReadInTurn (filter is_commit_name ns) read.0) same read.2))
