use Rattle.std.proofs.Common.{◌∷◌, [], None, Some, ◌∙◌, ap, refl, subst, sym, inr}
use Rattle.std.specs.Option.{option_map}
use Rattle.store_core.specs.declared.store.Put.{Put}
use Rattle.store_core.specs.declared.store.Put.TheVariants.{Exists}
use Rattle.table_folder.specs.Traces.{creates}
use Rattle.table_folder.proofs.SaveLemmas.{may_have_made, may_have_saved, unchanged_if_found}
use Rattle.table_folder.proofs.TraceLemmas.{unsaved_failed}
use Rattle.table_folder.proofs.saving.save_one.Goals as goal

pub returns-in_err-create-clause-refused : goal.returns-in_err-create-clause-refused
returns-in_err-create-clause-refused g c = λ steady is.
    may_have_saved _ _ _ c.args.name.now c.in-Some.bytes.items
    (sym c.in_ok-bytes.ensures.object ∙ ap (option_map (λ bytes. bytes.items)) c.in-Some.is)
    (may_have_made c.in_err-create.field-0.0 _ _ _ _ (c.in_err-create.ensures.failed steady) (c.in_err-create.ensures.memory steady))

pub returns-in-Exists-clause-refused : goal.returns-in-Exists-clause-refused
returns-in-Exists-clause-refused g c = λ steady is.
    inr (unchanged_if_found c.in_ok-create.field-0 _ _ c.args.name.now _ (c.in_ok-create.ensures.told steady) c.in-Exists.is (c.in_ok-create.ensures.made steady))

pub returns-in_err-create-clause-called : goal.returns-in_err-create-clause-called
returns-in_err-create-clause-called g c = (
  creates c.args.name.now c.in-Some.bytes.items None ∷ [],
  (c.create.new.self, c.in_err-create.ensures.called, refl),
  unsaved_failed _ _ c.args.name.now c.in-Some.bytes.items c.from_residual-in_err-create.result
      (sym c.in_ok-bytes.ensures.object ∙ ap (option_map (λ bytes. bytes.items)) c.in-Some.is) c.from_residual-in_err-create.ensures.1,
)

pub returns-in-Exists-clause-called : goal.returns-in-Exists-clause-called
returns-in-Exists-clause-called g c = (
  creates c.args.name.now c.in-Some.bytes.items (Some Exists) ∷ [],
  (c.create.new.self, subst (λ (put : Put). g.F.Folder.makes c.args.folder.now (creates c.args.name.now c.in-Some.bytes.items (Some put)) c.create.new.self) c.in-Exists.is c.in_ok-create.ensures.called, refl),
  inr (c.in-Some.bytes.items, Some Exists, sym c.in_ok-bytes.ensures.object ∙ ap (option_map (λ bytes. bytes.items)) c.in-Some.is, (c.in_ok-from_str.ensures.ok, refl), refl),
)
