-- What is known of a log, and a file that is kept, stay so while their store grows.
use Rattle.std.proofs.Common.{◌≡◌, ◌∙◌, ℕ, List, [], ◌∷◌, Option, Some, None, string_bytes, refl, sym, ap}
use Rattle.store_core.specs.Objects.{Objects, HasObjectsOf, object_at}
use Rattle.store_core.specs.Names.{commit_name}
use Rattle.table_log.specs.Versions.{Version, missing, version_by}
use Rattle.log_reading.specs.LogCache.{HoldsFile}
use Rattle.log_reading.specs.Logs.{IsPastLog, StandThere, standing_views}
use Rattle.log_reading.specs.declared.kept_file.KeptFile.{KeptFile}
use Rattle.log_reading.specs.declared.log.Log as code

module _ (objects more : Objects) (grown : HasObjectsOf objects more) where
  -- what stands at a version stands there in a store that grew
  there_by : (name : List ℕ) (found : Option (List ℕ)) (version : Version) → object_at objects name ≡ found → version_by found ≡ version → (version ≡ missing → ⊥) → version_by (object_at more name) ≡ version
  there_by name None version is told some = absurd (some (sym told))
  there_by name (Some bytes) version is told some = ap version_by (grown name bytes is) ∙ told

  there_grown : (views : List (ℕ × Version)) → StandThere objects views → StandThere more views
  there_grown [] stand = tt
  there_grown (one ∷ others) stand =
      (there_by (commit_name one.0) (object_at objects (commit_name one.0)) one.1 refl stand.0 stand.1, stand.1, there_grown others stand.2)

  -- What was read of a log stays so.
  pub past_grown : (log : code.Log) → IsPastLog objects log → IsPastLog more log
  past_grown log past = record { start = past.start; schema = past.schema; standing = there_grown (standing_views log.standing.items) past.standing }

  -- A file that is kept stands so.
  pub kept_grown : (file : Option KeptFile) → HoldsFile objects file → HoldsFile more file
  kept_grown None kept = tt
  kept_grown (Some file) kept = grown (string_bytes file.name) file.bytes.items kept
