-- What a seat has seen behind a read right behind its log, and behind the put of a commit there.
use Rattle.std.specs.Prelude.{◌≡◌, ◌<◌, ◌≤◌, ◌++◌, ℕ, List, [], ◌∷◌, length, Option, None, Some}
use Rattle.store_core.specs.declared.store.Put.{Put}
use Rattle.store_core.specs.declared.store.Put.TheVariants as puts
use Rattle.log_hub.specs.declared.receipt.Tried.{Tried}
use Rattle.log_hub.specs.declared.receipt.Tried.TheVariants.{Created, Exists}
use Rattle.log_hub.specs.Seats.{floor_seen, log_seen}
use Rattle.log_hub.specs.Sights.{Seen}

-- what is found is the log's next commit; nothing is found only where no more commits are known to stand, and the log stays
abbrev pub ReadsBehind : (old : Seen) → Option (List ℕ) → (new : Seen) → Type 0
ReadsBehind old None new = (floor_seen old ≤ length (log_seen old)) × (log_seen new ≡ log_seen old)
ReadsBehind old (Some bytes) new = log_seen new ≡ log_seen old ++ bytes ∷ []

-- what the put was told
abbrev pub put_tried : Tried → Put
put_tried (Created receipt) = puts.Created
put_tried Exists = puts.Exists

-- A commit that was created is the log's last, and the receipt has it and its version; where another stands there, more
-- are known to stand than were seen.
abbrev pub TriesCommit : (old : Seen) → (commit : List ℕ) → Tried → (new : Seen) → Type 0
TriesCommit old commit (Created receipt) new = (log_seen new ≡ log_seen old ++ commit ∷ []) × (receipt.version ≡ length (log_seen old)) × (receipt.commit.value.items ≡ commit)
TriesCommit old commit Exists new = (log_seen new ≡ log_seen old) × (length (log_seen new) < floor_seen new)
