-- Calls that a session asks for, made through a seat: which may be made, and which calls of the seat stand for one.
use Rattle.std.specs.Prelude.{◌≡◌, ◌+◌, ◌<◌, ◌≤◌, ℕ, suc, [], ◌∷◌, ◌++◌, false, length, Option, None, Some, IsSome}
use Rattle.store_core.specs.Names.{commit_name, greatest_version}
use Rattle.store_core.specs.Objects.{Objects, object_at}
use Rattle.store_core.specs.declared.store.Put.TheVariants.{Created}
use Rattle.session_core.specs.Talks.{Asked, IsAnswerOf, Talk, Told, get_object, is_lost, kind_of, list_names, put_commit, put_file, told_put}
use Rattle.table_store.specs.Sound.{IsAdmissible}
use Rattle.log_book.specs.Histories.{History}
use Rattle.log_book.specs.Making.{MayPutBeside}
use Rattle.log_hub.specs.Seats.{MayStand, log_seen}
use Rattle.log_hub.specs.Sights.{Seen}
use Rattle.log_hub.specs.declared.receipt.Receipt.{Receipt}
use Rattle.lake_workers.specs.Driving.{IsReceiptOf, ReadsOn, TalksThrough, commits_created, read_before}

-- Lists and gets may be made always; a put where in every store that may stand it may be put beside the commits, or is
-- admissible at its version, be that behind the log that the seat has seen or in it.
abbrev pub MayBeMade : Seen → Asked → Type 0
MayBeMade s list_names = Unit {0}
MayBeMade s (get_object name) = Unit {0}
MayBeMade s (put_file name bytes) = (objects : Objects) → MayStand objects s → MayPutBeside objects name bytes
MayBeMade s (put_commit version bytes) = (objects : Objects) → MayStand objects s → IsAdmissible objects version bytes

-- the commits below a version stand, which a commit can each have
pub record AllStandBelow (objects : Objects) (version : ℕ) : Type 0 where
  pub fits : version ≤ suc greatest_version
  pub stand : (below : ℕ) → below < version → IsSome (object_at objects (commit_name below))

-- What reading on came to: the calls that were made created no commit, and each made the log that was seen longer. What may stand then
-- might stand before.
pub record HasReadOn (version : ℕ) (old new : Seen) : Type 0 where
  pub made : History
  pub mine : new.mine ≡ old.mine ++ made
  pub reads : ReadsOn version old new
  pub none : commits_created made ≡ []
  pub long : length made + length (log_seen old) ≡ length (log_seen new)
  pub stood : (objects : Objects) → MayStand objects new → MayStand objects old

-- a receipt is given for nothing but a put of its commit, at its version, which created it
abbrev pub IsGivenFor : Option Receipt → Asked → Told → Type 0
IsGivenFor None asked told = Unit {0}
IsGivenFor (Some receipt) asked told = (asked ≡ put_commit receipt.version receipt.commit.value.items) × (told ≡ told_put Created)

-- What a session was told of a call, which isn't lost: a talk goes on with it by the calls that the seat made, each of which but one
-- made the log that was seen longer; for want of memory maybe none was made. Commits may have been read before, as a put wants them.
-- What may stand then might stand before.
pub record IsMade (old : Seen) (asked : Asked) (told : Told) (receipt : Option Receipt) (new : Seen) : Type 0 where
  pub made : History
  pub mine : new.mine ≡ old.mine ++ made
  pub answers : IsAnswerOf (kind_of asked) told
  pub kept : is_lost told ≡ false
  pub had : (first mid : Seen) (talk : Talk) → TalksThrough first talk mid → ReadsOn (read_before asked) mid old → TalksThrough first (talk ++ (asked, told) ∷ []) new
  pub few : length made + length (log_seen old) ≤ suc (length (log_seen new))
  pub stood : (objects : Objects) → MayStand objects new → MayStand objects old
  pub created : IsReceiptOf made new receipt
  pub given : IsGivenFor receipt asked told
