-- What a call of a cursor says: the value, and which bytes are left.
use Rattle.std.specs.Prelude.{◌≡◌, ℕ, List, [], ◌∷◌, ◌++◌, length, take, drop, Result, Ok, Err, nat_lt, if◌then◌else◌}
use Rattle.lake_bytes.specs.declared.fault.ByteFault.{ByteFault}
use Rattle.lake_bytes.specs.declared.fault.ByteFault.TheVariants.{Short}

-- a value seen as it is
abbrev pub id : {A : Type 0} → A → A
id x = x

-- The answer, seen by view, and the bytes left are those that reading from the old bytes gives. A fault
-- leaves all of them.
abbrev pub ReadingGives : {X A E : Type 0} → (X → A) → Result (A × List ℕ) E → List ℕ → Result X E → List ℕ → Type 0
ReadingGives view read old (Ok x) new = read ≡ Ok (view x, new)
ReadingGives view read old (Err e) new = (read ≡ Err e) × (new ≡ old)

-- What a function returned, seen by view, is what reading gives.
abbrev pub IsReading : {X Y E : Type 0} → (X → Y) → Result X E → Result Y E → Type 0
IsReading view (Ok x) read = read ≡ Ok (view x)
IsReading view (Err e) read = read ≡ Err e

-- A front of the old bytes spells x, and the bytes behind it are left.
pub record ReadsFront {A : Type 0} (Spells : List ℕ → A → Type 0) (old : List ℕ) (x : A) (new : List ℕ) : Type 0 where
  pub front : List ℕ
  pub spelled : Spells front x
  pub split : old ≡ front ++ new

-- Where a front of the old bytes spells a value, that value was read, and the bytes behind it are left.
abbrev pub ReadsWhatStands : {A E : Type 0} → (List ℕ → A → Type 0) → List ℕ → Result A E → List ℕ → Type 0
ReadsWhatStands {A} Spells old result new = (front rest : List ℕ) (x : A) → Spells front x → old ≡ front ++ rest → (result ≡ Ok x) × (new ≡ rest)

-- the first n bytes, and those behind them
abbrev pub bytes_at : ℕ → List ℕ → Result (List ℕ × List ℕ) ByteFault
bytes_at n bytes = if nat_lt (length bytes) n then Err Short else Ok (take n bytes, drop n bytes)

-- the first byte, and those behind it
abbrev pub byte_at : List ℕ → Result (ℕ × List ℕ) ByteFault
byte_at [] = Err Short
byte_at (byte ∷ rest) = Ok (byte, rest)
