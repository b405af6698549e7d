-- What stands in a store stands in one that has its objects and maybe more.
use Rattle.std.proofs.Common.{ℕ, List, [], ◌∷◌}
use Rattle.std.specs.List.{AllByRecursion}
use Rattle.store_core.specs.Objects.{Objects, HasObjectsOf}
use Rattle.table_store.specs.Schema.{Schema, path_name}
use Rattle.table_store.specs.Holds.{Stands, GivenStands, FilesStand, Lacks}
use Rattle.table_model.specs.Table.{File, Entry, gives}

module _ (objects more : Objects) (grown : HasObjectsOf objects more) where
  abbrev pub Stands-kept : (name : List ℕ) (P : List ℕ → Type 0) → Stands objects name P → Stands more name P
  Stands-kept name P stands = (stands.0, grown name stands.0 stands.1, stands.2)

  pub each_kept : (schema : Schema) (fs : List File) → AllByRecursion (GivenStands objects schema) fs → AllByRecursion (GivenStands more schema) fs
  each_kept schema [] files = tt
  each_kept schema (f ∷ fs) files = (Stands-kept (path_name f.path) _ files.0, each_kept schema fs files.1)

  -- where what an entry lacks isn't there now
  pub FilesStand-kept : (schema : Schema) (entry : Entry) → Lacks more entry → FilesStand objects schema entry → FilesStand more schema entry
  FilesStand-kept schema entry lacking files = record { given = each_kept schema (gives entry) files.given; lacking = lacking }
