-- Receipts that are kept beside the seats that they were given to.
use Rattle.std.specs.Prelude.{List, [], ◌∷◌, Vec}
use Rattle.std.specs.Global.{Global}
use Rattle.log_hub.specs.Finishing.{AreInLog}
use Rattle.log_hub.specs.Seats.{log_seen}
use Rattle.log_hub.specs.Sights.{Seen}
use Rattle.log_hub.specs.declared.receipt.Receipt.{Receipt}

-- there are as many as seats, and the commits of each seat's receipts stand in the log that it has seen
abbrev pub AreKept : List (Vec Receipt Global) → List Seen → Type 0
AreKept [] [] = Unit {0}
AreKept (receipts ∷ kept) (s ∷ seats) = AreInLog receipts.items (log_seen s) × AreKept kept seats
AreKept kept seats = ⊥
