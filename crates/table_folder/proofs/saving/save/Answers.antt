use Rattle.std.proofs.Common.{true, ◌≡◌, sym, ap, ◌∙◌, map, rules, subst, take, ℕ, List, String, Vec, Err, Result}
use Rattle.store_core.specs.Objects.{Objects, names_of, object_at}
use Rattle.std.specs.Prelude.{is_some, string_bytes, refl}
use Rattle.std.specs.Global.{Global}
use Rattle.std.proofs.lemmas.List.{take_all}
use Rattle.table_folder.specs.Faults.{CountsLost, CountsSave, SaveFailsAt}
use Rattle.table_folder.specs.Copies.{AreAbsent, MayHaveSaved, new_names, saved_at, to_save, with_copies, with_copy}
use Rattle.table_folder.specs.Traces.{made_all}
use Rattle.table_folder.specs.declared.fault.SaveFault.{SaveFault}
use Rattle.table_folder.proofs.CopyLemmas.{all_saved, kept_by_copies, whole_saved}
use Rattle.table_folder.proofs.SaveLemmas.{absent_more, copies_more, counts_before, empty_front, found_before, front_after, front_saved, is_err, is_stored, stood_before, unsaved_into, unsaved_named, untried_over, untried_stood}
use Rattle.table_folder.proofs.NameLemmas.{contains_at}
use Rattle.table_folder.proofs.TraceLemmas.{traced_more, unsaved_behind}
use Rattle.table_folder.proofs.saving.save.Goals as goal

pub loop-name-preserved : goal.loop-name-preserved
loop-name-preserved g c =
    let all = ap (map string_bytes) c.deref-name-items.ensures.value ∙ c.in_ok-names.ensures.names in
    let store : g.S.Store.objects c.loop-name.store ≡ g.S.Store.objects c.args.store.now = c.loop-name.invariant.store in
    record {
      copied = λ steady.
          c.in_ok-save_one.ensures.saved (c.loop-name.invariant.steady steady)
          ∙ (λ i. with_copy (c.loop-name.invariant.store i) (c.loop-name.invariant.copied steady i) (c.as_str.ensures.value i))
          ∙ sym (copies_more _ _ c.deref-name-items.result.now c.loop-name.name-index c.name-item.result c.loop-name-test.true c.name-item.is);
      absent = λ steady.
          absent_more _ c.deref-name-items.result.now c.loop-name.name-index c.name-item.result c.loop-name-test.true c.name-item.is (c.loop-name.invariant.absent steady)
          (sym (ap (λ (o : Objects). object_at o (string_bytes c.name-item.result)) (c.loop-name.invariant.copied steady)
          ∙ found_before _ _ _ c.deref-name-items.result.now c.loop-name.name-index c.name-item.result (g.met.S.Store.in_order c.args.store.now) c.loop-name-test.true c.name-item.is all)
          ∙ ap (object_at (g.F.Folder.objects c.loop-name.folder)) (sym c.as_str.ensures.value)
          ∙ c.in_ok-save_one.ensures.fresh (c.loop-name.invariant.steady steady)
          ((λ i. is_some (object_at (store i) (c.as_str.ensures.value i)))
          ∙ is_stored _ _ c.deref-name-items.result.now c.loop-name.name-index c.name-item.result c.loop-name-test.true c.name-item.is all));
      called = traced_more g.F.Folder.makes c.args.folder.now c.loop-name.folder c.save_one.new.folder _ _ c.deref-name-items.result.now c.loop-name.name-index c.name-item.result c.as_str.result.now
          c.loop-name.invariant.store c.as_str.ensures.value c.loop-name-test.true c.name-item.is c.loop-name.invariant.called c.in_ok-save_one.ensures.called;
      steady = search rules;
      reliable = search rules;
      counted = search rules;
      store = search rules;
      flight = search rules;
      lost = search rules;
      sound = search rules;
    }

pub returns-in_err-names-clause-done : goal.returns-in_err-names-clause-done
returns-in_err-names-clause-done g c = λ steady.
    unsaved_into c.args.loaded.now (g.F.Folder.is_reliable c.args.folder.now) (g.S.Store.objects c.args.store.now) (g.F.Folder.objects c.args.folder.now) _ _ c.in_err-names.field-0.0
    (is_err _ c.in_err-names.field-0.0 c.from_residual.ensures.1) (empty_front _ _ _)
    (λ reliable. untried_stood (Vec (String Global) Global) _ c.in_err-names.field-0.0 c.in_err-names.ensures.saved)

pub returns-in_err-names-clause-over : goal.returns-in_err-names-clause-over
returns-in_err-names-clause-over g c =
    untried_over (Vec (String Global) Global) _ _ _ _ c.in_err-names.field-0.0 _ _ _ (is_err _ c.in_err-names.field-0.0 c.from_residual.ensures.1) c.in_err-names.ensures.saved c.in_err-names.ensures.lost

pub returns-in_err-save_one-clause-done : goal.returns-in_err-save_one-clause-done
returns-in_err-save_one-clause-done g c = λ steady.
    let all = ap (map string_bytes) c.deref-name-items.ensures.value ∙ c.in_ok-names.ensures.names in
    let found =
    ap (λ (o : Objects). object_at o (string_bytes c.name-item.result)) (c.loop-name.invariant.copied steady)
    ∙ found_before _ _ _ c.deref-name-items.result.now c.loop-name.name-index c.name-item.result (g.met.S.Store.in_order c.args.store.now) c.loop-name-test.true c.name-item.is all in
    let front =
    front_after _ _ (g.F.Folder.objects c.loop-name.folder) _ c.deref-name-items.result.now _ c.loop-name.name-index c.name-item.result c.loop-name-test.true c.name-item.is all
    (c.loop-name.invariant.absent steady) (c.loop-name.invariant.copied steady) found
    (subst (λ (stored : Objects). MayHaveSaved stored (string_bytes c.name-item.result) (g.F.Folder.objects c.loop-name.folder) (g.F.Folder.objects c.save_one.new.folder)) c.loop-name.invariant.store
    (subst (λ (name : List ℕ). MayHaveSaved (g.S.Store.objects c.loop-name.store) name (g.F.Folder.objects c.loop-name.folder) (g.F.Folder.objects c.save_one.new.folder)) c.as_str.ensures.value
    (c.in_err-save_one.ensures.refused (c.loop-name.invariant.steady steady) (refl {a = true})))) in
    unsaved_into c.args.loaded.now _ (g.S.Store.objects c.args.store.now) (g.F.Folder.objects c.args.folder.now) (g.F.Folder.objects c.save_one.new.folder) _ c.in_err-save_one.field-0.0
    (is_err _ c.in_err-save_one.field-0.0 c.from_residual-in_err-save_one.ensures.1) front
    (λ reliable. stood_before (g.F.Folder.objects c.loop-name.folder) _ (string_bytes c.name-item.result) c.in_err-save_one.field-0.0
    (subst (λ (name : List ℕ). SaveFailsAt {X = Unit {0}} name (Err c.in_err-save_one.field-0.0)) c.as_str.ensures.value c.in_err-save_one.ensures.named)
    found
    (c.in_err-save_one.ensures.never_fails (c.loop-name.invariant.steady steady) (c.loop-name.invariant.reliable reliable)))

pub returns-in_err-save_one-clause-over : goal.returns-in_err-save_one-clause-over
returns-in_err-save_one-clause-over g c =
    let all = ap (map string_bytes) c.deref-name-items.ensures.value ∙ c.in_ok-names.ensures.names in
    let is = sym (is_err _ c.in_err-save_one.field-0.0 c.from_residual-in_err-save_one.ensures.1) in
    let named = subst (λ (name : List ℕ). SaveFailsAt {X = Unit {0}} name (Err c.in_err-save_one.field-0.0)) c.as_str.ensures.value c.in_err-save_one.ensures.named in
    record {
      named = unsaved_named _ (string_bytes c.name-item.result) _ c.in_err-save_one.field-0.0 (sym is) (contains_at c.deref-name-items.result.now _ c.loop-name.name-index c.name-item.result c.loop-name-test.true c.name-item.is all) named;
      faults =
          subst (λ (r : Result (Unit {0}) SaveFault). CountsSave (g.F.Folder.is_steady c.args.folder.now) (g.F.Folder.objects c.args.folder.now) r (g.F.Folder.fault_count c.args.folder.now) (g.F.Folder.fault_count c.save_one.new.folder)) is
          (counts_before _ (g.F.Folder.is_steady c.loop-name.folder) (g.F.Folder.objects c.loop-name.folder) _ (string_bytes c.name-item.result) c.in_err-save_one.field-0.0 _ _ _ c.loop-name.invariant.steady c.loop-name.invariant.counted named
          (λ steady. ap (λ (o : Objects). object_at o (string_bytes c.name-item.result)) (c.loop-name.invariant.copied steady)
          ∙ found_before _ _ _ c.deref-name-items.result.now c.loop-name.name-index c.name-item.result (g.met.S.Store.in_order c.args.store.now) c.loop-name-test.true c.name-item.is all)
          c.in_err-save_one.ensures.faults);
      lost =
          subst (λ (count : ℕ). CountsLost c.from_residual-in_err-save_one.result count (g.S.Store.fault_count c.save_one.new.store)) c.loop-name.invariant.lost
          (subst (λ (r : Result (Unit {0}) SaveFault). CountsLost r (g.S.Store.fault_count c.loop-name.store) (g.S.Store.fault_count c.save_one.new.store)) is c.in_err-save_one.ensures.lost);
    }

pub returns-clause-done : goal.returns-clause-done
returns-clause-done g c = λ steady.
    let old : Objects = g.F.Folder.objects c.args.folder.now in
    let stored : Objects = g.S.Store.objects c.args.store.now in
    let of : map string_bytes c.deref-name-items.result.now ≡ new_names c.args.loaded.now stored = ap (map string_bytes) c.deref-name-items.ensures.value ∙ c.in_ok-names.ensures.names in
    let all : map string_bytes (take c.loop-name.name-index c.deref-name-items.result.now) ≡ new_names c.args.loaded.now stored =
    ap (map string_bytes) (take_all _ _ c.loop-name-test.false) ∙ of in
    let copied = c.loop-name.invariant.copied steady in
    let absent = c.loop-name.invariant.absent steady in
    record {
      front = front_saved old stored _ c.deref-name-items.result.now _ c.loop-name.name-index of absent copied;
      saved = copied ∙ ap (with_copies stored old) all;
      fresh = subst (AreAbsent old) all absent;
      whole = λ name. ap (λ (o : Objects). object_at o name) copied ∙ whole_saved _ _ _ name absent ∙ ap (λ names. saved_at stored names old name) all;
      kept = λ name bytes e.
          ap (λ (o : Objects). object_at o name) copied
          ∙ kept_by_copies stored old (map string_bytes (take c.loop-name.name-index c.deref-name-items.result.now)) name bytes e;
      same = λ loaded has.
          copied
          ∙ ap (with_copies stored old) (all ∙ ap (λ names. to_save names (names_of stored)) loaded)
          ∙ all_saved old stored (g.met.F.Folder.in_order c.args.folder.now) (g.met.S.Store.in_order c.args.store.now) has;
      never_fails = λ reliable. tt;
    }

pub returns-clause-over : goal.returns-clause-over
returns-clause-over g c = record { named = tt; faults = c.loop-name.invariant.counted; lost = c.loop-name.invariant.lost }

pub returns-in_err-save_one-clause-called : goal.returns-in_err-save_one-clause-called
returns-in_err-save_one-clause-called g c =
    unsaved_behind g.F.Folder.makes c.args.folder.now c.loop-name.folder c.save_one.new.folder _ _ c.deref-name-items.result.now _ c.loop-name.name-index c.name-item.result c.as_str.result.now c.in_err-save_one.field-0.0 c.from_residual-in_err-save_one.result
    c.loop-name.invariant.store c.as_str.ensures.value c.loop-name-test.true c.name-item.is (ap (map string_bytes) c.deref-name-items.ensures.value ∙ c.in_ok-names.ensures.names)
    (is_err _ c.in_err-save_one.field-0.0 c.from_residual-in_err-save_one.ensures.1) c.loop-name.invariant.called c.in_err-save_one.ensures.called

pub returns-clause-called : goal.returns-clause-called
returns-clause-called g c =
    let all : map string_bytes (take c.loop-name.name-index c.deref-name-items.result.now) ≡ new_names c.args.loaded.now (g.S.Store.objects c.args.store.now) =
    ap (map string_bytes) (take_all _ _ c.loop-name-test.false ∙ c.deref-name-items.ensures.value) ∙ c.in_ok-names.ensures.names in
    (made_all (g.S.Store.objects c.args.store.now) (map string_bytes (take c.loop-name.name-index c.deref-name-items.result.now)), c.loop-name.invariant.called, ap (made_all (g.S.Store.objects c.args.store.now)) all)
