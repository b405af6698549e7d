use Rattle.std.proofs.Common.{ℕ, List, [], ◌∷◌, Option, None, Some, IsSome, inl, inr, refl, subst, sym, ◌∙◌}
use Rattle.store_core.specs.Memory.{stored_objects}
use Rattle.store_core.specs.Objects.{Objects, object_at}
use Rattle.table_folder.specs.Traces.{finds, lists}
use Rattle.folder_session.proofs.BesideLemmas.{apart_put, for_fault, found_told, looked_once, memory_alone, memory_tells_put, none_told, put_beside, put_created, put_inside, was_absent, was_found}
use Rattle.folder_session.proofs.beside.put_beside.Goals as goal

pub returns-then-is_some-clause-answers : goal.returns-then-is_some-clause-answers
returns-then-is_some-clause-answers g c = λ steady.
    let objects : Objects = g.F.Folder.objects c.args.folder.now in
    let stands = was_found (λ bytes. bytes.items) c.in_ok-find.field-0 (object_at objects c.args.name.now) (c.in_ok-find.ensures.object steady) (sym c.is_some.ensures ∙ c.if-is_some.true) in
    put_inside objects (stored_objects c.args.added.now) _ c.args.name.now c.args.bytes.items stands refl

pub returns-in-Ok-clause-answers : goal.returns-in-Ok-clause-answers
returns-in-Ok-clause-answers g c = λ steady.
    let objects : Objects = g.F.Folder.objects c.args.folder.now in
    let none = was_absent (λ bytes. bytes.items) c.in_ok-find.field-0 (object_at objects c.args.name.now) (c.in_ok-find.ensures.object steady) (sym c.is_some.ensures ∙ c.if-is_some.false) in
    put_beside objects (stored_objects c.args.added.now) _ c.args.name.now c.args.bytes.items c.in-Ok.put (g.met.F.Folder.in_order c.args.folder.now) none (c.in-Ok.ensures.told tt) c.in-Ok.ensures.landed.0

pub returns-in-Ok-clause-apart : goal.returns-in-Ok-clause-apart
returns-in-Ok-clause-apart g c = λ steady apart name stands.
    let objects : Objects = g.F.Folder.objects c.args.folder.now in
    let none = was_absent (λ bytes. bytes.items) c.in_ok-find.field-0 (object_at objects c.args.name.now) (c.in_ok-find.ensures.object steady) (sym c.is_some.ensures ∙ c.if-is_some.false) in
    apart_put objects (stored_objects c.args.added.now) c.args.name.now c.args.bytes.items none apart name (subst (λ (o : Objects). IsSome (object_at o name)) c.in-Ok.ensures.landed.0 stands)

pub returns-in-Ok-clause-put : goal.returns-in-Ok-clause-put
returns-in-Ok-clause-put g c = put_created (stored_objects c.args.added.now) _ c.args.name.now c.args.bytes.items c.in-Ok.put (c.in-Ok.ensures.told tt) c.in-Ok.ensures.landed.0

-- ---- what is heard of the folder

pub returns-in_err-find-clause-looked : goal.returns-in_err-find-clause-looked
returns-in_err-find-clause-looked g c =
    for_fault _ c.from_residual.result (looked_once g.F.Folder.makes c.args.folder.now c.find.new.self (finds c.args.name.now None) c.in_err-find.ensures.called tt)

pub returns-in_err-_names-clause-looked : goal.returns-in_err-_names-clause-looked
returns-in_err-_names-clause-looked g c =
    for_fault _ c.from_residual-in_err-_names.result
    (finds c.args.name.now _ ∷ lists None ∷ [], (c.find.new.self, c.in_ok-find.ensures.called, (c.names.new.self, c.in_err-_names.ensures.called, refl)), (tt, (tt, tt)))

pub returns-then-is_some-clause-heard : goal.returns-then-is_some-clause-heard
returns-then-is_some-clause-heard g c =
    let found = found_told (λ bytes. bytes.items) c.in_ok-find.field-0 (sym c.is_some.ensures ∙ c.if-is_some.true) in
    let looked = subst (λ (f : Option (List ℕ)). g.F.Folder.makes c.args.folder.now (finds c.args.name.now (Some f)) c.find.new.self) found.1 c.in_ok-find.ensures.called in
    (finds c.args.name.now (Some (Some found.0)) ∷ lists (Some _) ∷ [], (c.find.new.self, looked, (c.names.new.self, c.in_ok-_names.ensures.called, refl)), inl (found.0, _, refl, refl))

pub returns-in-Ok-clause-heard : goal.returns-in-Ok-clause-heard
returns-in-Ok-clause-heard g c =
    let none = none_told (λ bytes. bytes.items) c.in_ok-find.field-0 (sym c.is_some.ensures ∙ c.if-is_some.false) in
    let looked = subst (λ (f : Option (List ℕ)). g.F.Folder.makes c.args.folder.now (finds c.args.name.now (Some f)) c.find.new.self) none c.in_ok-find.ensures.called in
    (finds c.args.name.now (Some None) ∷ [], (c.find.new.self, looked, refl), inr (c.in-Ok.ensures.told tt, refl))

pub returns-in-Err-clause-heard : goal.returns-in-Err-clause-heard
returns-in-Err-clause-heard g c =
    let none = none_told (λ bytes. bytes.items) c.in_ok-find.field-0 (sym c.is_some.ensures ∙ c.if-is_some.false) in
    let looked = subst (λ (f : Option (List ℕ)). g.F.Folder.makes c.args.folder.now (finds c.args.name.now (Some f)) c.find.new.self) none c.in_ok-find.ensures.called in (
      finds c.args.name.now (Some None) ∷ [],
      (c.find.new.self, looked, refl),
      inr (memory_tells_put (stored_objects c.args.added.now) c.args.name.now _ (memory_alone c.in-Err.fault c.reply_of.result c.reply_of.ensures (c.in-Err.ensures.never_lost tt)), refl),
    )
