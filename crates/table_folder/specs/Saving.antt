-- What saving leaves of a folder, and what it tells and counts.
use Rattle.std.specs.Prelude.{◌≡◌, ℕ, List, OnOk, Result, Some, String, map, string_bytes}
use Rattle.std.specs.Global.{Global}
use Rattle.store_core.specs.Objects.{HasObjectsOf, Objects, names_of, object_at}
use Rattle.table_folder.specs.Copies.{AreAbsent, HasSavedFront, new_names, saved_at, with_copies}
use Rattle.table_folder.specs.Faults.{CountsLost, CountsSave, FailsWhereStood, SaveFailsAmong}
use Rattle.table_folder.specs.declared.fault.SaveFault.{SaveFault}

-- What it leaves of a steady folder, and tells of it: what stood there (`old`) and stands there now (`new`), where the
-- store has these objects (`stored`) and those of these names aren't to be saved (`loaded`).
pub record SavesInto (loaded : List (String Global)) (is_reliable : Type 0) (stored old new : Objects) (result : Result (Unit {0}) SaveFault) : Type 0 where
  pub front : HasSavedFront stored (new_names loaded stored) old new
  pub saved : OnOk result (new ≡ with_copies stored old (new_names loaded stored))
  pub fresh : OnOk result (AreAbsent old (new_names loaded stored))
  pub whole : OnOk result ((name : List ℕ) → object_at new name ≡ saved_at stored (new_names loaded stored) old name)
  pub kept : (name bytes : List ℕ) → object_at old name ≡ Some bytes → object_at new name ≡ Some bytes
  -- Where the folder's own names were loaded, and the store has all that the folder has, all of the store is in the
  -- folder then, and nothing else.
  pub same : map string_bytes loaded ≡ names_of old → HasObjectsOf old stored → OnOk result (new ≡ stored)
  -- where no call of the folder fails
  pub never_fails : is_reliable → FailsWhereStood old result

-- What it tells over any folder and any store, of these names to save; and how often a call of each has failed before
-- it (`count`, `losses`) and behind it (`later`, `later_losses`).
pub record SavesOver (names : List (List ℕ)) (is_steady : Type 0) (old : Objects) (result : Result (Unit {0}) SaveFault) (count later losses later_losses : ℕ) : Type 0 where
  pub named : SaveFailsAmong names result
  pub faults : CountsSave is_steady old result count later
  pub lost : CountsLost result losses later_losses
