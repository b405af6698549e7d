-- A read looks at no version before its place: it hands out the same where those count as missing.
use Rattle.std.proofs.Common.{◌≡◌, ◌<◌, ◌≤◌, ◌+◌, ℕ, zero, suc, List, [], ◌∷◌, ◌++◌, map, Option, Some, None, refl, sym, ap, ◌∙◌, arith}
use Rattle.std.specs.Prelude.{if◌then◌else◌, slice_get}
use Rattle.std.proofs.lemmas.Bool.{le-ltb, lt-ltb}
use Rattle.delta_actions.specs.Kinds.{PathAndKey}
use Rattle.store_core.specs.Objects.{Objects}
use Rattle.log_reading.specs.FromCheckpoints.{from_version}
use Rattle.log_reading.specs.InForce.{SchemaText}
use Rattle.log_reading.specs.Reads.{first_from}
use Rattle.table_log.specs.Versions.{Version, missing, unreadable, commit}
use Rattle.log_reading.proofs.Callers.{length-from_version}
use Rattle.table_model.specs.declared.reading.Offset.{Offset}
use Rattle.log_rows.specs.Tailing.{Item, ReadRefusal, data_file, fault_of_version, found_at, handed_by, is_start, items_from, items_in, numbered_files, paths_in, unless_gone}
use Rattle.log_rows.specs.Handings.{items_not_before}
use Rattle.log_rows.proofs.Callers.{fault_passed, kept_both}

-- what stands at a place's version
got_alike : (n at : ℕ) (versions : List Version) → n ≤ at → slice_get (from_version n versions) at ≡ slice_get versions at
got_alike zero at versions le = refl
got_alike (suc n) at [] le = refl
got_alike (suc n) zero (found ∷ more) le = absurd (omega (arith, le))
got_alike (suc n) (suc at) (found ∷ more) le = got_alike n at more (omega (arith, le))

-- ---- the first version from which on none is missing

module _ (place : Offset) where
  -- where it isn't behind the place, none is gone
  none_gone : (at other from : ℕ) (versions : List Version) → at ≤ place.version → other ≤ place.version → unless_gone place (first_from at from versions) ≡ unless_gone place (first_from other from versions)
  none_gone at other from [] le also = rw (le-ltb place.version at le, le-ltb place.version other also) refl
  none_gone at other from (missing ∷ more) le also = refl
  none_gone at other from (unreadable ∷ more) le also = none_gone at other (suc from) more le also
  none_gone at other from (commit actions ∷ more) le also = none_gone at other (suc from) more le also

  gone_alike : (n at from : ℕ) (versions : List Version) → at ≤ from → from + n ≤ place.version → unless_gone place (first_from at from (from_version n versions)) ≡ unless_gone place (first_from at from versions)
  gone_alike zero at from versions le short = refl
  gone_alike (suc n) at from [] le short = refl
  gone_alike (suc n) at from (missing ∷ more) le short = gone_alike n (suc from) (suc from) more (omega arith) (omega (arith, short))
  gone_alike (suc n) at from (unreadable ∷ more) le short =
      gone_alike n (suc from) (suc from) more (omega arith) (omega (arith, short)) ∙ none_gone (suc from) at (suc from) more (omega (arith, short)) (omega (arith, le, short))
  gone_alike (suc n) at from (commit actions ∷ more) le short =
      gone_alike n (suc from) (suc from) more (omega arith) (omega (arith, short)) ∙ none_gone (suc from) at (suc from) more (omega (arith, short)) (omega (arith, le, short))

-- ---- the items from a place on

-- the files of an earlier version are passed over
files_passed : (place : Offset) (version file : ℕ) (paths : List PathAndKey) → version < place.version → items_not_before place (map data_file (numbered_files version file paths)) ≡ []
files_passed place version file [] below = refl
files_passed place version file (path ∷ paths) below = rw (lt-ltb version place.version below) (files_passed place version (suc file) paths below)

-- and so are all its items
items_passed : (place : Offset) (version : ℕ) (fault : Option ReadRefusal) (paths : List PathAndKey) → version < place.version → items_not_before place (items_in version fault paths) ≡ []
items_passed place version (Some refusal) paths below = fault_passed place version refusal paths below
items_passed place version None paths below = files_passed place version 0 paths below

module _ (told : SchemaText) (place : Offset) where
  first_passed : (version : ℕ) (found : Version) (others : List Item) → version < place.version → items_not_before place (items_in version (fault_of_version told place version found) (paths_in found) ++ others) ≡ items_not_before place others
  first_passed version found others below =
      kept_both place (items_in version (fault_of_version told place version found) (paths_in found)) others
      ∙ ap (λ (front : List Item). front ++ items_not_before place others) (items_passed place version (fault_of_version told place version found) (paths_in found) below)

  items_alike : (n from : ℕ) (versions : List Version) → from + n ≤ place.version → items_not_before place (items_from told place from (from_version n versions)) ≡ items_not_before place (items_from told place from versions)
  items_alike zero from versions short = refl
  items_alike (suc n) from [] short = refl
  items_alike (suc n) from (found ∷ more) short =
      first_passed from missing (items_from told place (suc from) (from_version n more)) (omega (arith, short))
      ∙ (items_alike n (suc from) more (omega (arith, short)) ∙ sym (first_passed from found (items_from told place (suc from) more) (omega (arith, short))))

-- what stands where the read begins inside of a version
found_alike : (n : ℕ) (place : Offset) (versions : List Version) → n ≤ place.version → found_at place (from_version n versions) ≡ found_at place versions
found_alike n place versions le = ap (λ (found : Option Version). if is_start place then None else found) (got_alike n place.version versions le)

-- What is handed out is the same.
pub handed_alike : (objects : Objects) (told : SchemaText) (n : ℕ) (versions : List Version) (max : ℕ) (place : Offset) → n ≤ place.version → handed_by objects told (from_version n versions) max place ≡ handed_by objects told versions max place
unfolding handed_by
handed_alike objects told n versions max place le =
    rw (length-from_version n versions, gone_alike place n 0 0 versions (omega arith) (omega (arith, le)), found_alike n place versions le, items_alike told place n 0 versions (omega (arith, le))) refl
