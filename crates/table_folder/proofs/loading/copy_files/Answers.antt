use Rattle.std.proofs.Common.{rules, ◌∙◌, [], refl, sym, ap, map, subst}
use Rattle.std.specs.Prelude.{string_bytes}
use Rattle.std.proofs.lemmas.List.{take_all}
use Rattle.store_core.specs.Memory.{stored_objects}
use Rattle.table_folder.specs.Copies.{with_copy}
use Rattle.table_folder.specs.Traces.{ReadsAll}
use Rattle.table_folder.proofs.SaveLemmas.{copies_more}
use Rattle.table_folder.proofs.TraceLemmas.{read_more, unread_behind}
use Rattle.table_folder.proofs.loading.copy_files.Goals as goal

pub loop-name-init : goal.loop-name-init
loop-name-init g c = record {
  copied = search rules;
  called = ([], refl, refl, refl);
  untouched = search rules;
  steady = search rules;
  counted = search rules;
  reliable = search rules;
}

pub loop-name-preserved : goal.loop-name-preserved
loop-name-preserved g c = record {
  copied = λ steady.
      c.in_ok-load_one.ensures.loaded (c.loop-name.invariant.steady steady)
      ∙ (λ i. with_copy (c.loop-name.invariant.untouched steady i) (c.loop-name.invariant.copied steady i) (c.as_str.ensures.value i))
      ∙ sym (copies_more _ _ c.args.names.now c.loop-name.name-index c.name-item.result c.loop-name-test.true c.name-item.is);
  called = read_more g.F.Folder.makes c.args.folder.now c.loop-name.folder c.load_one.new.folder (stored_objects c.args.store.now) (stored_objects c.loop-name.store) (stored_objects c.load_one.new.store) c.args.names.now c.loop-name.name-index c.name-item.result c.as_str.result.now
      c.as_str.ensures.value c.loop-name-test.true c.name-item.is c.loop-name.invariant.called c.in_ok-load_one.ensures.called;
  untouched = search rules;
  steady = search rules;
  counted = search rules;
  reliable = search rules;
}

pub returns-in_err-load_one-clause-called : goal.returns-in_err-load_one-clause-called
returns-in_err-load_one-clause-called g c =
    let one = c.in_err-load_one.ensures.called in
    unread_behind g.F.Folder.makes c.args.folder.now c.loop-name.folder c.load_one.new.folder (stored_objects c.args.store.now) (stored_objects c.loop-name.store) (stored_objects c.load_one.new.store) c.args.names.now c.loop-name.name-index c.name-item.result c.as_str.result.now
    one.0 _ c.from_residual.result c.from_residual.ensures.1 c.as_str.ensures.value c.loop-name-test.true c.name-item.is c.loop-name.invariant.called one.1

pub returns-clause-called : goal.returns-clause-called
returns-clause-called g c =
    let read = c.loop-name.invariant.called in
    (read.0, read.1, (subst (λ names. ReadsAll names read.0) (ap (map string_bytes) (take_all _ _ c.loop-name-test.false)) read.2, read.3))
