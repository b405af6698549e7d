use Rattle.std.proofs.Common.{◌≡◌, ◌≢◌, ℕ, List, Err, Some, string_bytes, refl, sym, ap, subst, ◌∙◌}
use Rattle.parquet_file.specs.Reading.{rows_at}
use Rattle.parquet_footer.specs.declared.fault.FileFault.TheVariants.{TooLarge}
use Rattle.schema_tree.specs.Schema.{tree_of}
use Rattle.store_core.specs.Objects.{object_at}
use Rattle.table_store.specs.Schema.{IsFileOf}
use Rattle.table_store.proofs.HeldLemmas.{read_at}
use Rattle.table_store.proofs.HoldingOne.{some_is}
use Rattle.table_audit.specs.LargeFiles.{IsLarge}
use Rattle.table_audit.proofs.LargeParts.{told_large}
use Rattle.table_audit.proofs.file.wrong_file.Goals as goal

pub returns-in-Ok-Some-clause-breaks : goal.returns-in-Ok-Some-clause-breaks
returns-in-Ok-Some-clause-breaks g c = λ steady rows stand.
    let objects = g.R.ObjectReader.objects c.args.reader.now in
    let there : object_at objects c.args.name.now ≡ Some c.in-Some.bytes.items = read_at objects _ _ _ (Some c.in-Some.bytes) (c.in_ok-bytes.ensures.object steady) refl c.in-Some.is in
    let same : stand.0 ≡ c.deref.result.now = some_is stand.0 c.in-Some.bytes.items (sym stand.1 ∙ there) ∙ sym c.deref.ensures.value in
    let none = rw c.in-Ok-Some.field-0-is at c.in-Ok-Some.ensures.breaks in
    none rows (subst (λ (b : List ℕ). IsFileOf (tree_of c.args.schema.now) b rows) same stand.2)

pub returns-clause-large : goal.returns-clause-large
returns-clause-large g c = λ steady.
    let objects = g.R.ObjectReader.objects c.args.reader.now in
    let there : object_at objects c.args.name.now ≡ Some c.in-Some.bytes.items = read_at objects _ _ _ (Some c.in-Some.bytes) (c.in_ok-bytes.ensures.object steady) refl c.in-Some.is in
    let large = rw c.in-Err-Fault.field-0-is at c.in-Err-Fault.ensures.large in
    let same : string_bytes c.in_ok-name-in-Err-Fault.name ≡ c.args.name.now = c.in_ok-name-in-Err-Fault.ensures.ok in
    (refl, same, told_large objects (tree_of c.args.schema.now) c.args.name.now (string_bytes c.in_ok-name-in-Err-Fault.name) c.in-Some.bytes.items c.deref.result.now there c.deref.ensures.value same large)

pub returns-in-Ok-Some-clause-why : goal.returns-in-Ok-Some-clause-why
returns-in-Ok-Some-clause-why g c = λ steady.
    let objects = g.R.ObjectReader.objects c.args.reader.now in
    let schema = tree_of c.args.schema.now in
    let there : object_at objects c.args.name.now ≡ Some c.in-Some.bytes.items = read_at objects _ _ _ (Some c.in-Some.bytes) (c.in_ok-bytes.ensures.object steady) refl c.in-Some.is in
    let why : (c.in-Ok-Some.fault ≢ TooLarge) × (rows_at c.deref.result.now schema ≡ Err c.in-Ok-Some.fault) = rw c.in-Ok-Some.field-0-is at c.in-Ok-Some.ensures.why in
    (c.in_ok-name-in-Ok-Some.ensures.ok, why.0, (c.in-Some.bytes.items, there, rw c.deref.ensures.value at why.1))

pub returns-in_err-bytes-clause-called : goal.returns-in_err-bytes-clause-called
returns-in_err-bytes-clause-called g c = (_, c.in_err-bytes.ensures.called)

pub returns-in_err-name-clause-called : goal.returns-in_err-name-clause-called
returns-in_err-name-clause-called g c = (_, c.in_ok-bytes.ensures.called)

pub returns-in_default-clause-called : goal.returns-in_default-clause-called
returns-in_default-clause-called g c = (_, c.in_ok-bytes.ensures.called)

pub returns-in-Ok-None-clause-called : goal.returns-in-Ok-None-clause-called
returns-in-Ok-None-clause-called g c = (_, c.in_ok-bytes.ensures.called)

pub returns-in_err-name-in-Ok-Some-clause-called : goal.returns-in_err-name-in-Ok-Some-clause-called
returns-in_err-name-in-Ok-Some-clause-called g c = (_, c.in_ok-bytes.ensures.called)

pub returns-in-Ok-Some-clause-called : goal.returns-in-Ok-Some-clause-called
returns-in-Ok-Some-clause-called g c = (_, c.in_ok-bytes.ensures.called)

pub returns-in-Err-Memory-clause-called : goal.returns-in-Err-Memory-clause-called
returns-in-Err-Memory-clause-called g c = (_, c.in_ok-bytes.ensures.called)

pub returns-in_err-name-in-Err-Fault-clause-called : goal.returns-in_err-name-in-Err-Fault-clause-called
returns-in_err-name-in-Err-Fault-clause-called g c = (_, c.in_ok-bytes.ensures.called)

pub returns-clause-called : goal.returns-clause-called
returns-clause-called g c = (_, c.in_ok-bytes.ensures.called)

pub returns-in-Ok-None-clause-small : goal.returns-in-Ok-None-clause-small
returns-in-Ok-None-clause-small g c = λ steady told is stand.
    let objects = g.R.ObjectReader.objects c.args.reader.now in
    let there : object_at objects c.args.name.now ≡ Some c.in-Some.bytes.items = read_at objects _ _ _ (Some c.in-Some.bytes) (c.in_ok-bytes.ensures.object steady) refl c.in-Some.is in
    let same : stand.0 ≡ c.deref.result.now = some_is stand.0 c.in-Some.bytes.items (sym stand.1 ∙ (ap (object_at objects) is ∙ there)) ∙ sym c.deref.ensures.value in
    let small = rw c.in-Ok-None.field-0-is at c.in-Ok-None.ensures.small in
    small (subst (IsLarge (tree_of c.args.schema.now)) same stand.2)
