use Rattle.table_check.proofs.LawfulNext.{close_kept, group_is_new, group_kept, no_creation_behind}
use Rattle.table_check.proofs.laws.a_lawful_table_goes_on.Goals as goal

pub returns-clause-group : goal.returns-clause-group
returns-clause-group c = λ later bs lawful grouped new. group_kept later bs lawful grouped new

pub returns-clause-new : goal.returns-clause-new
returns-clause-new c = λ entries bs lawful. group_is_new entries bs lawful

pub returns-clause-closed : goal.returns-clause-closed
returns-clause-closed c = λ application later lawful. close_kept application later lawful

pub returns-clause-created : goal.returns-clause-created
returns-clause-created c = λ later lawful. no_creation_behind later lawful
