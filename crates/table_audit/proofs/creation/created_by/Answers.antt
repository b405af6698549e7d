use Rattle.std.proofs.Common.{◌≡◌, None, Some, string_bytes, ap, ◌∙◌}
use Rattle.delta_actions.specs.Action.{MetaDataAction}
use Rattle.schema_tree.specs.Reading.{schema_of}
use Rattle.table_store.proofs.Variants.{metadata_second}
use Rattle.table_audit.proofs.creation.created_by.Goals as goal

pub returns-in_default-2-clause-only : goal.returns-in_default-2-clause-only
returns-in_default-2-clause-only c = λ schema is.
    let parts = metadata_second _ _ _ is.actions in
    let text : c.deref.result.now ≡ string_bytes parts.1.schema_string = rw parts.2 at c.deref.ensures in
    let told = c.in_ok-schema.ensures.told schema (ap schema_of (text ∙ ap (λ (m : MetaDataAction). m.schema_string) parts.3) ∙ is.schema_string) in
    let wrong : None ≡ Some schema = rw c.in_default-2.is at told in absurd cc
