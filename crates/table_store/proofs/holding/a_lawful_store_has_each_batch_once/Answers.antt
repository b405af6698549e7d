use Rattle.std.proofs.Common.{subst}
use Rattle.table_model.specs.Lawful.{IsLawful}
use Rattle.table_store.proofs.HoldingSchema.{only_table}
use Rattle.table_model.proofs.Callers.{later_is_greater}
use Rattle.table_store.proofs.holding.a_lawful_store_has_each_batch_once.Goals as goal

pub returns : goal.returns
returns c objects schema entries before between after b d lawful holds is by =
    later_is_greater entries before between after b d (subst IsLawful (only_table objects lawful.schema schema lawful.entries entries lawful.lawful.begins lawful.holds holds) lawful.lawful) is by
