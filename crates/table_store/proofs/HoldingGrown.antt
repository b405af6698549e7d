-- The table of a store with more objects begins with the table of the store before.
use Rattle.std.proofs.Common.{◌≡◌, ℕ, suc, true, List, [], ◌∷◌, ◌++◌, refl, sym, ap₂, subst, arith}
use Rattle.store_core.specs.Objects.{Objects, HasObjectsOf}
use Rattle.delta_actions.specs.Action as actions
use Rattle.store_core.specs.Names.{commit_name}
use Rattle.table_store.specs.Schema.{Schema}
use Rattle.table_store.specs.Commits.{without_commit_info, StandFor}
use Rattle.table_store.specs.Holds.{HoldsFrom, Holds}
use Rattle.table_model.specs.Lawful.{Begins}
use Rattle.table_model.specs.Reads.{is_offset, position}
use Rattle.table_model.specs.Table.{Entry, creation, group, close, gives}
use Rattle.table_model.specs.declared.reading.Offset.{Offset}
use Rattle.table_model.proofs.Callers.{stays}
use Rattle.table_store.proofs.HoldingEnds.{none_at_end, HoldsFrom-first}
use Rattle.table_store.proofs.HoldingKept.{Stands-kept, each_kept}
use Rattle.table_store.proofs.HoldingOne.{one_entry, one_list, one_object}
use Rattle.table_store.proofs.HoldingSchema.{one_creation_of}

module _ (objects more : Objects) (schema : Schema) (grown : HasObjectsOf objects more) where
  -- from a version on, the entries of one table come first
  front_from : (version : ℕ) (entries others : List Entry) → HoldsFrom objects schema version entries → HoldsFrom more schema version others → (later : List Entry) × (others ≡ entries ++ later)
  front_from version [] others p q = (others, refl)
  front_from version (entry ∷ entries) [] p q =
      absurd (none_at_end more version p.0.0 q (HoldsFrom-first objects schema version entry entries p) (grown (commit_name version) p.0.0 p.0.1))
  front_from version (entry ∷ entries) (found ∷ others) p q =
      let bytes : p.0.0 ≡ q.0.0 = one_object more (commit_name version) (commit_name version) _ _ (Stands-kept objects more grown (commit_name version) _ p.0) q.0 refl in
      let lists = one_list p.0.0 q.0.0 schema schema entry found bytes p.0.2 q.0.2 in
      let stand : StandFor schema entry (without_commit_info q.0.2.actions) = subst (λ (actions : List actions.Action). StandFor schema entry (without_commit_info actions)) lists p.0.2.stand in
      let first : entry ≡ found = one_entry more schema entry found (without_commit_info q.0.2.actions) stand q.0.2.stand (each_kept objects more grown schema (gives entry) p.1.given) q.1.given in
      let behind = front_from (suc version) entries others p.3 q.3 in
      (behind.0, ap₂ (λ e es. e ∷ es) (sym first) behind.1)

  -- the schema is the one that the creation tells
  by_creation : (other : Schema) (entries others : List Entry) → Holds objects schema (creation ∷ entries) → Holds more other others → schema ≡ other
  by_creation other entries [] p q = absurd (none_at_end more 0 p.0.0 q (omega arith) (grown (commit_name 0) p.0.0 p.0.1))
  by_creation other entries (found ∷ others) p q =
      let bytes : p.0.0 ≡ q.0.0 = one_object more (commit_name 0) (commit_name 0) _ _ (Stands-kept objects more grown (commit_name 0) _ p.0) q.0 refl in
      one_creation_of p.0.0 q.0.0 schema other found bytes p.0.2 q.0.2

  pub same_schema : (other : Schema) (first : Entry) (entries others : List Entry) → Begins (first ∷ entries) → Holds objects schema (first ∷ entries) → Holds more other others → schema ≡ other
  same_schema other (group bs) entries others begins p q = absurd begins
  same_schema other (close application) entries others begins p q = absurd begins
  same_schema other creation entries others begins p q = by_creation other entries others p q

  -- the entries come first
  pub front : (other : Schema) (entries others : List Entry) → Begins entries → Holds objects schema entries → Holds more other others → (later : List Entry) × (others ≡ entries ++ later)
  front other [] others begins p q = (others, refl)
  front other (first ∷ entries) others begins p q =
      let same : schema ≡ other = same_schema other first entries others begins p q in
      front_from 0 (first ∷ entries) others p (subst (λ (t : Schema). Holds more t others) (sym same) q)

  -- an offset keeps its position
  pub offset_stays : (other : Schema) (entries others : List Entry) (place : Offset) → Begins entries → Holds objects schema entries → Holds more other others → is_offset place entries ≡ true
      → (is_offset place others ≡ true) × (position place others ≡ position place entries)
  offset_stays other entries others place begins p q valid =
      let grew = front other entries others begins p q in
      rw grew.1 (stays place entries grew.0 valid)
