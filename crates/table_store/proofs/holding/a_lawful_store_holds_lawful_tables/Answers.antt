use Rattle.std.proofs.Common.{subst}
use Rattle.table_model.specs.Lawful.{IsLawful}
use Rattle.table_store.proofs.HoldingSchema.{only_table}
use Rattle.table_store.proofs.holding.a_lawful_store_holds_lawful_tables.Goals as goal

pub returns : goal.returns
returns c objects schema entries lawful holds = subst IsLawful (only_table objects lawful.schema schema lawful.entries entries lawful.lawful.begins lawful.holds holds) lawful.lawful
