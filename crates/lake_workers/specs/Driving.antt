-- Talks that are had through a seat, and what becomes of a session that is driven through it.
use Rattle.std.specs.Prelude.{◌≡◌, ◌+◌, ◌<◌, ◌≤◌, ℕ, suc, List, [], ◌∷◌, ◌++◌, false, length, Option, None, Some, slice_get}
use Rattle.store_core.specs.Names.{commit_name, greatest_version}
use Rattle.store_core.specs.Objects.{Objects, names_of}
use Rattle.store_core.specs.declared.store.Put.TheVariants.{Created, Exists}
use Rattle.session_core.specs.Shown.{Shows}
use Rattle.session_core.specs.Talks.{Asked, Bears, Talk, Told, get_object, has_lost, put_commit, put_file, told_memory, told_object, told_put}
use Rattle.table_log.specs.Restoring.{checkpoint_version}
use Rattle.table_model.specs.Table.{Entry}
use Rattle.table_store.specs.Holds.{Holds}
use Rattle.table_store.specs.Schema.{Schema}
use Rattle.log_book.specs.Histories.{History, left_by_all}
use Rattle.log_hub.specs.Lock.{IsFrontOf}
use Rattle.log_hub.specs.Seats.{Extends, HasSeen, MayStand, log_seen}
use Rattle.log_hub.specs.Sights.{Seen}
use Rattle.log_hub.specs.declared.receipt.Receipt.{Receipt}
use Rattle.source_core.specs.SourceSessions.{SourceJob}
use Rattle.table_jobs.specs.Jobs.{Ends, Job, Outcome, is_lost_outcome, reads}
use Rattle.table_jobs.specs.Sessions.{end_view}
use Rattle.session_laws.specs.May.{May, TellsOfCommit}
use Rattle.session_laws.specs.Moves.{HasAsked, tells}
use Rattle.session_laws.specs.Rows.{ListsFirst}
use Rattle.lake_workers.specs.declared.driven.Driven.{Driven}

-- Commits right behind the log that was seen were read, up to a version, and nothing else was asked for.
pub data ReadsOn (version : ℕ) (old : Seen) : Seen → Type 0 where
  no_read : ReadsOn version old old
  one_read : (mid new : Seen) (commit : List ℕ) → ReadsOn version old mid → length (log_seen mid) < version → length (log_seen mid) ≤ greatest_version
      → Extends mid (get_object (commit_name (length (log_seen mid)))) (told_object (Some commit)) new → ReadsOn version old new

-- one past the version of a checkpoint, where a name is one's
abbrev pub behind_version : Option ℕ → ℕ
behind_version None = 0
behind_version (Some version) = suc version

-- up to which version commits are read before a call is made: before a commit is put, up to its own; before a checkpoint, through its own
abbrev pub read_before : Asked → ℕ
read_before (put_commit version bytes) = version
read_before (put_file name bytes) = behind_version (checkpoint_version name)
read_before asked = 0

-- A talk that was had by calls of a seat, one behind the other, and by no others: each extends what the seat had seen. Before the put of
-- a commit the log is read up to its version; where that has it already, it was found to stand by a get in place of the put. Before that
-- of a checkpoint it is read through its version. What was told that memory ran out may be no call at all.
pub data TalksThrough (old : Seen) : Talk → Seen → Type 0 where
  nothing : TalksThrough old [] old
  calls : (talk : Talk) (mid here new : Seen) (asked : Asked) (told : Told) → TalksThrough old talk mid → ReadsOn (read_before asked) mid here → read_before asked ≤ length (log_seen here) → Extends here asked told new → TalksThrough old (talk ++ (asked, told) ∷ []) new
  finds : (talk : Talk) (mid here new : Seen) (version : ℕ) (bytes commit : List ℕ) → TalksThrough old talk mid → ReadsOn version mid here → version < length (log_seen here)
      → Extends here (get_object (commit_name version)) (told_object (Some commit)) new → TalksThrough old (talk ++ (put_commit version bytes, told_put Exists) ∷ []) new
  lacks : (talk : Talk) (mid new : Seen) (asked : Asked) → TalksThrough old talk mid → ReadsOn (read_before asked) mid new → TalksThrough old (talk ++ (asked, told_memory) ∷ []) new

-- the commit that a call created, with its version
abbrev pub created_by : Asked → Told → List (ℕ × List ℕ)
created_by (put_commit version bytes) (told_put Created) = (version, bytes) ∷ []
created_by asked told = []

-- those that the calls of a history created, in their order
abbrev pub commits_created : History → List (ℕ × List ℕ)
commits_created [] = []
commits_created (call ∷ history) = created_by call.asked call.told ++ commits_created history

-- A receipt is that of the one commit that these calls created, which stands at its version in the log that was seen behind
-- them. Without one they created none.
abbrev pub IsReceiptOf : History → (new : Seen) → Option Receipt → Type 0
IsReceiptOf made new None = commits_created made ≡ []
IsReceiptOf made new (Some receipt) =
    (commits_created made ≡ (receipt.version, receipt.commit.value.items) ∷ []) × (slice_get (log_seen new) receipt.version ≡ Some receipt.commit.value.items)

-- where a receipt is given, the end tells that the commit of its version was put
abbrev pub TellsOfReceipt : Option Receipt → Outcome → Type 0
TellsOfReceipt None outcome = Unit {0}
TellsOfReceipt (Some receipt) outcome = TellsOfCommit receipt.version (tells outcome)

-- The names that a talk listed first are those that stood at some moment, behind what the seat had seen before and in the history that
-- it has seen now; and the talk shows what stood then.
pub record WasShown (talk : Talk) (old new : Seen) : Type 0 where
  pub front : History
  pub behind : IsFrontOf old.front front
  pub within : IsFrontOf front new.front
  pub stood : MayStand (left_by_all old.opening front) old
  pub lists : ListsFirst talk (names_of (left_by_all old.opening front))
  pub shown : Shows talk (left_by_all old.opening front)

-- How the session of a job was driven, behind what was known before it: by some talk of its own, had by calls that its seat made, and
-- by no others; each call beside it made the log that was seen longer. Each of its calls its job asks for, and behind them it tells its
-- end; no call was lost. A store that has what the seat has seen then bears the talk. One that may stand then might stand before; it
-- bears what was known, too, and the job may tell its end of the table that it holds. A read that listed names is shown what stood
-- then. The log that the seat has seen only grew, and the receipt is that of the commit that was created, if one was, of which the end
-- tells.
pub record IsDriven (before : Talk) (job : Job) (old new : Seen) (driven : Driven) : Type 0 where
  pub talk : Talk
  pub made : History
  pub mine : new.mine ≡ old.mine ++ made
  pub had : TalksThrough old talk new
  pub few : length made + length (log_seen old) ≤ length talk + length (log_seen new)
  pub asked : HasAsked job before talk
  pub ended : Ends job before talk (end_view driven.end)
  pub answered : has_lost talk ≡ false
  pub told : is_lost_outcome (end_view driven.end) ≡ false
  pub borne : (objects : Objects) → HasSeen objects new → Bears objects talk
  pub stood : (objects : Objects) → MayStand objects new → MayStand objects old
  pub earlier : (objects : Objects) → MayStand objects new → Bears objects before
  pub may : (objects : Objects) (schema : Schema) (entries : List Entry) → MayStand objects new → Holds objects schema entries → May objects schema entries job before talk (tells (end_view driven.end))
  pub shown : (read : SourceJob) → job ≡ reads read → (names : List (List ℕ)) → ListsFirst talk names → WasShown talk old new
  pub log : IsFrontOf (log_seen old) (log_seen new)
  pub created : IsReceiptOf made new driven.receipt
  pub tells_of : TellsOfReceipt driven.receipt (end_view driven.end)
