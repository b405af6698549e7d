use Rattle.std.proofs.Common.{◌∷◌, [], None, Some, refl, subst, sym, ap, ◌∙◌}
use Rattle.std.specs.Prelude.{option_map}
use Rattle.std.specs.String.{string_bytes}
use Rattle.store_core.specs.Memory.{stored_objects}
use Rattle.store_core.specs.Objects.{Objects, object_at}
use Rattle.store_core.specs.Listed.{listed}
use Rattle.folder_session.specs.Beside.{IsOpened}
use Rattle.folder_session.proofs.BesideLemmas.{beside_untouched, found_beside, found_inside, memory_alone, memory_tells_found, traced_once}
use Rattle.folder_session.proofs.beside.get_beside.Goals as goal

pub returns-in-Some-clause-answers : goal.returns-in-Some-clause-answers
returns-in-Some-clause-answers g c = λ steady.
    let objects : Objects = g.F.Folder.objects c.args.folder.now in
    let added : Objects = stored_objects c.args.added.now in
    let found = ap (option_map (λ bytes. bytes.items)) (sym c.in-Some.is) ∙ c.in_ok-bytes.ensures.object steady in
    (sym (found_inside objects added (string_bytes c.args.name.now) _ (sym found)), (refl, refl))

pub returns-in-Ok-clause-answers : goal.returns-in-Ok-clause-answers
returns-in-Ok-clause-answers g c = λ steady.
    let objects : Objects = g.F.Folder.objects c.args.folder.now in
    let added : Objects = stored_objects c.args.added.now in
    let none = sym (c.in_ok-bytes.ensures.object steady) ∙ ap (option_map (λ bytes. bytes.items)) c.in_default.is in
    (c.in-Ok.ensures.object ∙ ap (object_at added) c.as_str.ensures.value ∙ sym (found_beside objects added (string_bytes c.args.name.now) none), beside_untouched objects added _ c.in-Ok.ensures.untouched.0)

pub returns-in-Some-clause-heard : goal.returns-in-Some-clause-heard
returns-in-Some-clause-heard g c =
    let opened = c.in_ok-bytes.ensures.opened in
    let is = subst (λ found. IsOpened (listed c.args.names.now) (string_bytes c.args.name.now) (option_map (λ bytes. bytes.items) found) opened.0) c.in-Some.is opened.2 in (
      opened.0 ∷ [],
      traced_once g.F.Folder.makes c.args.folder.now c.found_in.new.folder opened.0 opened.1,
      (Some c.in-Some.bytes.items, opened.0, is, refl, refl),
    )

pub returns-in-Ok-clause-heard : goal.returns-in-Ok-clause-heard
returns-in-Ok-clause-heard g c =
    let opened = c.in_ok-bytes.ensures.opened in
    let is = subst (λ found. IsOpened (listed c.args.names.now) (string_bytes c.args.name.now) (option_map (λ bytes. bytes.items) found) opened.0) c.in_default.is opened.2 in (
      opened.0 ∷ [],
      traced_once g.F.Folder.makes c.args.folder.now c.found_in.new.folder opened.0 opened.1,
      (None, opened.0, is, c.in-Ok.ensures.object ∙ ap (object_at (stored_objects c.args.added.now)) c.as_str.ensures.value, refl),
    )

pub returns-in-Err-clause-heard : goal.returns-in-Err-clause-heard
returns-in-Err-clause-heard g c =
    let opened = c.in_ok-bytes.ensures.opened in
    let is = subst (λ found. IsOpened (listed c.args.names.now) (string_bytes c.args.name.now) (option_map (λ bytes. bytes.items) found) opened.0) c.in_default.is opened.2 in (
      opened.0 ∷ [],
      traced_once g.F.Folder.makes c.args.folder.now c.found_in.new.folder opened.0 opened.1,
      (None, opened.0, is, memory_tells_found (stored_objects c.args.added.now) (string_bytes c.args.name.now) _ (memory_alone c.in-Err.fault c.reply_of.result c.reply_of.ensures (c.in-Err.ensures.never_lost tt)), refl),
    )
