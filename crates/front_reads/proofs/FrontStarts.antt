-- How a read of the front of a log begins, next to one of the whole log.
use Rattle.std.proofs.Common.{◌≡◌, ◌∙◌, ◌≤◌, ◌-◌, ℕ, Option, Some, None, inl, inr, refl, sym, ap, arith}
use Rattle.std.specs.Prelude.{filter, nat_lt, option_and_then, take}
use Rattle.std.specs.Option.{option_or}
use Rattle.std.proofs.lemmas.List.Kept.{IsStrictlySortedBy-filter}
use Rattle.store_core.specs.Objects.{Objects, IsInOrder, name_order, names_of}
use Rattle.table_log.specs.Counts.{commit_count}
use Rattle.table_log.specs.Restoring.{Restored, restored}
use Rattle.table_log.specs.Versions.{versions_of}
use Rattle.log_reading.specs.FromCheckpoints.{CheckpointSchema, first_read, first_schema, later_schema, looked_at, schema_upto, start_at}
use Rattle.log_reading.specs.Readings.{told_among}
use Rattle.log_reading.proofs.ToldLemmas.{best_of, start_is}
use Rattle.front_reads.specs.Fronts.{IsFrontBehind, front_of_log, is_kept}
use Rattle.front_reads.proofs.FrontForce.{IsFrontSchema, best_front, first_alike, looked_front}
use Rattle.front_reads.proofs.FrontNames.{count_front, names_front, told_front, versions_front}
use Rattle.front_reads.proofs.FrontOrder.{newest_behind, told_rise}

-- the names of a store's front rise as all do
pub order_front : (front : ℕ) (objects : Objects) → IsInOrder objects → IsInOrder (front_of_log front objects)
order_front front objects rises = rw (names_front front objects) (IsStrictlySortedBy-filter name_order (is_kept front) (names_of objects) rises)

-- the newest checkpoint isn't of an earlier version than one that tells a schema
pub newest_told : (version : ℕ) (objects : Objects) (s : CheckpointSchema) → IsInOrder objects → (start_at version objects).schema ≡ Some s → (r : Restored) × (restored (commit_count objects) objects ≡ Some r) × (s.version ≤ r.version)
newest_told version objects s rises is = by_upto (schema_upto version objects) refl is
  where
    by_first : (first : Option CheckpointSchema) → option_and_then (λ (one : CheckpointSchema). schema_upto one.version objects) first ≡ Some s → (r : Restored) × (restored (commit_count objects) objects ≡ Some r) × (s.version ≤ r.version)
    by_first None e = absurd cc
    by_first (Some one) e = newest_behind one.version objects s rises e

    by_upto : (upto : Option CheckpointSchema) → schema_upto version objects ≡ upto → option_or upto (later_schema version objects) ≡ Some s → (r : Restored) × (restored (commit_count objects) objects ≡ Some r) × (s.version ≤ r.version)
    by_upto None e later = by_first (first_schema version objects) later
    by_upto (Some one) e here = newest_behind version objects s rises (e ∙ here)

module _ (version front : ℕ) (objects : Objects) (rises : IsInOrder objects) (is : IsFrontBehind objects version front) where
  -- the front of the log ends where it is to
  pub counted : commit_count (front_of_log front objects) ≡ front
  counted =
      let behind = is.behind in
      let within = is.within in
      count_front front objects (omega (arith, behind)) within (is.stand (front - 1) (omega (arith, behind)) (omega (arith, behind, within)))

  -- its checkpoints tell the schema that all tell, or none
  pub schemas : IsFrontSchema front (start_at version (front_of_log front objects)).schema (start_at version objects).schema
  schemas =
      let told = told_among objects (names_of objects) in
      let ahead = told_among (front_of_log front objects) (names_of (front_of_log front objects)) in
      let some : best_of version (filter (λ (s : CheckpointSchema). nat_lt s.version front) told) ≡ (start_at version (front_of_log front objects)).schema =
      ap (best_of version) (sym (told_front front objects is.within counted)) ∙ start_is version (front_of_log front objects) ahead refl in
      let all : best_of version told ≡ (start_at version objects).schema = start_is version objects told refl in
      rw (sym some, sym all) (best_front front version told (told_rise objects rises) is.behind)

  -- the same version is looked at first
  pub first_same : first_read version (start_at version (front_of_log front objects)) ≡ first_read version (start_at version objects)
  first_same = first_alike front version (restored (commit_count (front_of_log front objects)) (front_of_log front objects)) (restored (commit_count objects) objects)
      (start_at version (front_of_log front objects)).schema (start_at version objects).schema is.behind schemas (λ s told upto. (by_schemas s told upto schemas, newest_told version objects s rises told))
    where
      by_schemas : (s : CheckpointSchema) → (start_at version objects).schema ≡ Some s → s.version ≤ version → IsFrontSchema front (start_at version (front_of_log front objects)).schema (start_at version objects).schema
          → (r : Restored) × (restored (commit_count (front_of_log front objects)) (front_of_log front objects) ≡ Some r) × (s.version ≤ r.version)
      by_schemas s told upto (inl same) = newest_told version (front_of_log front objects) s (order_front front objects rises) (same.0 ∙ told)
      by_schemas s told upto (inr none) =
          let above = none.1 s told in
          let behind = is.behind in
          absurd (omega (arith, above, upto, behind))

  -- and the versions in front of it are seen as they are of all
  pub looked_same : looked_at version (start_at version (front_of_log front objects)) (versions_of (front_of_log front objects)) ≡ take front (looked_at version (start_at version objects) (versions_of objects))
  looked_same =
      rw (first_same, versions_front front objects is.within counted) (looked_front front (first_read version (start_at version objects)) (versions_of objects))
