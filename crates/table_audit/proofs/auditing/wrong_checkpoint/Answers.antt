use Rattle.std.proofs.Common.{◌≡◌, ℕ, List, Some, string_bytes, sym, subst, ◌∙◌, arith}
use Rattle.delta_checkpoint.specs.Checkpoints.{IsCheckpoint}
use Rattle.store_core.specs.Objects.{object_at}
use Rattle.table_log.proofs.Callers.{checkpoint_named}
use Rattle.table_store.proofs.HeldLemmas.{read_at}
use Rattle.table_store.proofs.HoldingOne.{some_is}
use Rattle.table_audit.specs.Reasons.{IsOtherCheckpoint, IsUnread}
use Rattle.table_audit.proofs.EndParts.{checkpoint_breaks, checkpoint_sound}
use Rattle.table_audit.proofs.ReasonParts.{bad_checkpoint, other_checkpoint}
use Rattle.table_audit.proofs.TraceParts.{read_named}
use Rattle.table_audit.proofs.auditing.wrong_checkpoint.Goals as goal

pub checkpoint_found-requires : goal.checkpoint_found-requires
checkpoint_found-requires g c = let named = checkpoint_named (string_bytes c.args.checkpoint.now.name) c.args.checkpoint.now.version c.requires.told in omega (arith, named.small)

pub returns-in-Same-clause-sound : goal.returns-in-Same-clause-sound
returns-in-Same-clause-sound g c = λ steady walk bytes stands.
    let objects = g.R.ObjectReader.objects c.args.reader.now in
    let version = c.args.checkpoint.now.version in
    let there : object_at objects (string_bytes c.args.checkpoint.now.name) ≡ Some c.in-Some.bytes.items = read_at objects _ _ _ (Some c.in-Some.bytes) (c.in_ok-bytes.ensures.object steady) c.deref.ensures c.in-Some.is in
    let found : IsCheckpoint c.in-Some.bytes.items version walk.log = rw (c.in-Same.is, c.deref-2.ensures.value) at (c.in_ok-checkpoint_found.ensures walk.log walk.snapshot walk.walked.printable) in
    checkpoint_sound objects c.args.walk.now walk version c.requires.next bytes (subst (λ (b : List ℕ). IsCheckpoint b version walk.log) (some_is c.in-Some.bytes.items bytes (sym there ∙ stands)) found)

pub returns-in-Other-clause-breaks : goal.returns-in-Other-clause-breaks
returns-in-Other-clause-breaks g c = λ steady walk.
    let objects = g.R.ObjectReader.objects c.args.reader.now in
    let version = c.args.checkpoint.now.version in
    let there : object_at objects (string_bytes c.args.checkpoint.now.name) ≡ Some c.in-Some.bytes.items = read_at objects _ _ _ (Some c.in-Some.bytes) (c.in_ok-bytes.ensures.object steady) c.deref.ensures c.in-Some.is in
    let other : IsOtherCheckpoint version walk.log c.in-Some.bytes.items = rw (c.in-Other.is, c.deref-2.ensures.value) at (c.in_ok-checkpoint_found.ensures walk.log walk.snapshot walk.walked.printable) in
    checkpoint_breaks objects c.args.walk.now walk version c.requires.next (string_bytes c.args.checkpoint.now.name) c.in-Some.bytes.items c.requires.told there other.1

pub returns-clause-breaks : goal.returns-clause-breaks
returns-clause-breaks g c = λ steady walk.
    let objects = g.R.ObjectReader.objects c.args.reader.now in
    let version = c.args.checkpoint.now.version in
    let there : object_at objects (string_bytes c.args.checkpoint.now.name) ≡ Some c.in-Some.bytes.items = read_at objects _ _ _ (Some c.in-Some.bytes) (c.in_ok-bytes.ensures.object steady) c.deref.ensures c.in-Some.is in
    let bad : IsUnread c.in-Bad.fault c.in-Some.bytes.items × (IsCheckpoint c.in-Some.bytes.items version walk.log → ⊥) =
    rw (c.in-Bad.is, c.deref-2.ensures.value) at (c.in_ok-checkpoint_found.ensures walk.log walk.snapshot walk.walked.printable) in
    checkpoint_breaks objects c.args.walk.now walk version c.requires.next (string_bytes c.args.checkpoint.now.name) c.in-Some.bytes.items c.requires.told there bad.1

pub returns-in-Other-clause-why : goal.returns-in-Other-clause-why
returns-in-Other-clause-why g c = λ steady walk.
    let objects = g.R.ObjectReader.objects c.args.reader.now in
    let version = c.args.checkpoint.now.version in
    let there : object_at objects (string_bytes c.args.checkpoint.now.name) ≡ Some c.in-Some.bytes.items = read_at objects _ _ _ (Some c.in-Some.bytes) (c.in_ok-bytes.ensures.object steady) c.deref.ensures c.in-Some.is in
    let other : IsOtherCheckpoint version walk.log c.in-Some.bytes.items = rw (c.in-Other.is, c.deref-2.ensures.value) at (c.in_ok-checkpoint_found.ensures walk.log walk.snapshot walk.walked.printable) in
    other_checkpoint objects version (string_bytes c.args.checkpoint.now.name) c.in-Some.bytes.items c.in_ok-name-in-Other.name c.in_ok-name-in-Other.ensures.cases c.requires.told there c.args.walk.now walk c.requires.next other

pub returns-clause-why : goal.returns-clause-why
returns-clause-why g c = λ steady walk.
    let objects = g.R.ObjectReader.objects c.args.reader.now in
    let version = c.args.checkpoint.now.version in
    let there : object_at objects (string_bytes c.args.checkpoint.now.name) ≡ Some c.in-Some.bytes.items = read_at objects _ _ _ (Some c.in-Some.bytes) (c.in_ok-bytes.ensures.object steady) c.deref.ensures c.in-Some.is in
    let bad : IsUnread c.in-Bad.fault c.in-Some.bytes.items × (IsCheckpoint c.in-Some.bytes.items version walk.log → ⊥) =
    rw (c.in-Bad.is, c.deref-2.ensures.value) at (c.in_ok-checkpoint_found.ensures walk.log walk.snapshot walk.walked.printable) in
    bad_checkpoint objects version (string_bytes c.args.checkpoint.now.name) c.in-Some.bytes.items c.in_ok-name-in-Bad.name c.in_ok-name-in-Bad.ensures.cases c.requires.told there c.in-Bad.fault bad.0

pub returns-in_err-bytes-clause-called : goal.returns-in_err-bytes-clause-called
returns-in_err-bytes-clause-called g c = read_named g.R.ObjectReader.makes _ _ _ _ _ c.deref.ensures c.in_err-bytes.ensures.called

pub returns-in_default-clause-called : goal.returns-in_default-clause-called
returns-in_default-clause-called g c = read_named g.R.ObjectReader.makes _ _ _ _ _ c.deref.ensures c.in_ok-bytes.ensures.called

pub returns-in_err-checkpoint_found-clause-called : goal.returns-in_err-checkpoint_found-clause-called
returns-in_err-checkpoint_found-clause-called g c = read_named g.R.ObjectReader.makes _ _ _ _ _ c.deref.ensures c.in_ok-bytes.ensures.called

pub returns-in-Same-clause-called : goal.returns-in-Same-clause-called
returns-in-Same-clause-called g c = read_named g.R.ObjectReader.makes _ _ _ _ _ c.deref.ensures c.in_ok-bytes.ensures.called

pub returns-in_err-name-in-Other-clause-called : goal.returns-in_err-name-in-Other-clause-called
returns-in_err-name-in-Other-clause-called g c = read_named g.R.ObjectReader.makes _ _ _ _ _ c.deref.ensures c.in_ok-bytes.ensures.called

pub returns-in-Other-clause-called : goal.returns-in-Other-clause-called
returns-in-Other-clause-called g c = read_named g.R.ObjectReader.makes _ _ _ _ _ c.deref.ensures c.in_ok-bytes.ensures.called

pub returns-in_err-name-in-Bad-clause-called : goal.returns-in_err-name-in-Bad-clause-called
returns-in_err-name-in-Bad-clause-called g c = read_named g.R.ObjectReader.makes _ _ _ _ _ c.deref.ensures c.in_ok-bytes.ensures.called

pub returns-clause-called : goal.returns-clause-called
returns-clause-called g c = read_named g.R.ObjectReader.makes _ _ _ _ _ c.deref.ensures c.in_ok-bytes.ensures.called
