use Rattle.std.proofs.Common.{rules, ◌||◌, Bool, ℕ, List, string_bytes, sym, ap, ◌∙◌, [], ◌+◌, filter, map, refl, subst}
use Rattle.std.specs.BTreeSet.{contains_text}
use Rattle.store_core.specs.Objects.{Objects}
use Rattle.table_audit.specs.Beside.{name_adds}
use Rattle.table_audit.proofs.BesideParts.{any_more}
use Rattle.std.proofs.lemmas.List.{take-map, take_all}
use Rattle.table_audit.specs.Audits.{ReadInTurn, is_commit_name}
use Rattle.table_audit.proofs.CallParts.{commits_more}
use Rattle.table_audit.proofs.beside.files_added.Goals as goal

pub loop-name-preserved : goal.loop-name-preserved
loop-name-preserved g c = record {
  untouched = λ steady. c.add_files_under.ensures.untouched (c.loop-name.invariant.steady steady) ∙ c.loop-name.invariant.untouched steady;
  steady = λ steady. c.add_files_under.ensures.steady (c.loop-name.invariant.steady steady);
  reliable = λ reliable. c.add_files_under.ensures.reliable (c.loop-name.invariant.reliable reliable);
  called = commits_more g.R.ObjectReader.makes _ _ _ c.args.names.now c.loop-name.name-index c.name-item.result _ c.loop-name-test.true c.name-item.is c.as_str.ensures.value c.loop-name.invariant.called c.in_ok-add_files_under.ensures.called;
  added = λ steady file.
      let objects = g.R.ObjectReader.objects c.args.reader.now in
      let name = c.name-item.result in
      let old = contains_text c.loop-name.files file in
      c.in_ok-add_files_under.ensures.added (c.loop-name.invariant.steady steady) file
      ∙ (ap (λ (o : Objects). old || name_adds o file c.as_str.result.now) (c.loop-name.invariant.untouched steady)
      ∙ (ap (λ (text : List ℕ). old || name_adds objects file text) c.as_str.ensures.value
      ∙ (ap (λ (found : Bool). found || name_adds objects file (string_bytes name)) (c.loop-name.invariant.added steady file)
      ∙ sym (any_more (name_adds objects file) string_bytes c.args.names.now c.loop-name.name-index name c.loop-name-test.true c.name-item.is))));
}

pub loop-name-init : goal.loop-name-init
loop-name-init g c = record {
  untouched = λ steady. refl;
  steady = λ steady. steady;
  reliable = λ reliable. reliable;
  called = ([], refl, refl);
  added = λ steady file. search rules;
}

pub returns-in_err-add_files_under-clause-called : goal.returns-in_err-add_files_under-clause-called
returns-in_err-add_files_under-clause-called g c =
    let names = c.args.names.now in
    let i = c.loop-name.name-index in
    let read = commits_more g.R.ObjectReader.makes _ _ _ names i c.name-item.result _ c.loop-name-test.true c.name-item.is c.as_str.ensures.value c.loop-name.invariant.called c.in_err-add_files_under.ensures.called in
    (read.0, read.1, (i + 1, subst (λ (ns : List (List ℕ)). ReadInTurn (filter is_commit_name ns) read.0) (sym (take-map string_bytes (i + 1) names)) read.2))

pub returns-clause-called : goal.returns-clause-called
returns-clause-called g c =
    let read = c.loop-name.invariant.called in
    (read.0, read.1, (c.loop-name.name-index, subst (λ (ns : List (List ℕ)). ReadInTurn (filter is_commit_name ns) read.0) (sym (take-map string_bytes c.loop-name.name-index c.args.names.now)) read.2))

pub returns-clause-whole : goal.returns-clause-whole
returns-clause-whole g c =
    let read = c.loop-name.invariant.called in
    (read.0, read.1, subst (λ (ns : _). ReadInTurn (filter is_commit_name (map string_bytes ns)) read.0) (take_all c.loop-name.name-index c.args.names.now c.loop-name-test.false) read.2)
