-- A table that begins with its creation is the only one that its store holds.
use Rattle.std.proofs.Common.{◌≡◌, ℕ, List, [], ◌∷◌, refl, sym, ap, subst, ◌∙◌, arith}
use Rattle.store_core.specs.Objects.{Objects}
use Rattle.delta_actions.specs.Action as actions
use Rattle.delta_actions.specs.Action.{protocol, meta_data, MetaDataAction}
use Rattle.store_core.specs.Names.{commit_name}
use Rattle.schema_tree.specs.Reading.{schema_of}
use Rattle.table_store.specs.Schema.{Schema}
use Rattle.table_store.specs.Commits.{table_protocol, without_commit_info, IsCommitOf, IsCreation, StandFor}
use Rattle.table_store.specs.Holds.{Holds}
use Rattle.table_model.specs.Lawful.{Begins}
use Rattle.table_model.specs.Table.{Entry, creation, group, close}
use Rattle.table_store.proofs.HoldingEnds.{none_at_end}
use Rattle.table_store.proofs.HoldingOne.{group_no_creation, close_no_creation, one_object, one_list, one_log}
use Rattle.table_store.proofs.NamesOnce.{ok_is}

-- two creations of the same actions have one text, which is read as one schema
one_creation : (schema second : Schema) (beside : List actions.Action) → IsCreation schema beside → IsCreation second beside → schema ≡ second
one_creation schema second beside p q =
    let lists : protocol table_protocol ∷ meta_data p.metadata ∷ [] ≡ protocol table_protocol ∷ meta_data q.metadata ∷ [] = sym p.actions ∙ q.actions in
    let metadata : p.metadata ≡ q.metadata = cc in
    ok_is _ schema second p.schema_string (ap (λ (m : MetaDataAction). schema_of m.schema_string) metadata ∙ q.schema_string)

-- Where actions are a creation of one schema, what they stand for in a table of another schema is that creation too.
creation_alone : (schema second : Schema) (found : Entry) (beside : List actions.Action) → IsCreation schema beside → StandFor second found beside → schema ≡ second
creation_alone schema second creation beside p q = one_creation schema second beside p q
creation_alone schema second (group bs) beside p q = absurd (group_no_creation schema bs beside q p)
creation_alone schema second (close application) beside p q = absurd (close_no_creation schema application beside q p)

-- bytes that are a creation's commit are a commit under one schema
pub one_creation_of : (bytes found : List ℕ) (schema second : Schema) (entry : Entry) → bytes ≡ found → IsCommitOf schema creation bytes → IsCommitOf second entry found → schema ≡ second
one_creation_of bytes found schema second entry same p q =
    let lists = one_list bytes found schema second creation entry same p q in
    creation_alone schema second entry (without_commit_info q.actions) (subst (λ (actions : List actions.Action). IsCreation schema (without_commit_info actions)) lists p.stand) q.stand

-- what a creation's table of a store is, another table of that store is too
by_creation : (objects : Objects) (schema second : Schema) (entries others : List Entry) → Holds objects schema (creation ∷ entries) → Holds objects second others → schema ≡ second
by_creation objects schema second entries [] p q = absurd (none_at_end objects 0 p.0.0 q (omega arith) p.0.1)
by_creation objects schema second entries (found ∷ others) p q =
    let bytes : p.0.0 ≡ q.0.0 = one_object objects (commit_name 0) (commit_name 0) _ _ p.0 q.0 refl in
    one_creation_of p.0.0 q.0.0 schema second found bytes p.0.2 q.0.2

-- a table that begins with its creation has the schema of each table that the store holds
pub one_schema : (objects : Objects) (schema second : Schema) (first : Entry) (entries others : List Entry) → Begins (first ∷ entries) → Holds objects schema (first ∷ entries) → Holds objects second others → schema ≡ second
one_schema objects schema second creation entries others begins p q = by_creation objects schema second entries others p q
one_schema objects schema second (group bs) entries others begins p q = absurd begins
one_schema objects schema second (close application) entries others begins p q = absurd begins

-- a table that begins with its creation is the only one that the store holds
pub only_table : (objects : Objects) (schema second : Schema) (entries others : List Entry) → Begins entries → Holds objects schema entries → Holds objects second others → entries ≡ others
only_table objects schema second [] [] begins p q = refl
only_table objects schema second [] (found ∷ others) begins p q = absurd (none_at_end objects 0 q.0.0 p (omega arith) q.0.1)
only_table objects schema second (entry ∷ entries) others begins p q =
    let same : schema ≡ second = one_schema objects schema second entry entries others begins p q in
    one_log objects schema 0 (entry ∷ entries) others p (subst (λ (t : Schema). Holds objects t others) (sym same) q)
