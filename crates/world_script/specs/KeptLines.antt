-- What is kept of the bad line at which a script ended.
use Rattle.std.specs.Prelude.{◌≡◌, ◌+◌, ◌<◌, ◌≤◌, ℕ, List, Some, length, take, drop}
use Rattle.std.specs.List.{slice_get}
use Rattle.std.specs.Str.{IsCharBoundary, IsUtf8}
use Rattle.std.specs.Str.Lossy.{utf8_valid_len}
use Rattle.delta_actions.specs.Commit.{lines_of}
use Rattle.lake_script.specs.declared.engine.End.{End}
use Rattle.lake_script.specs.declared.engine.End.TheVariants.{BadLine}

-- a front of a text: its characters that end by byte 256, so all of a short one
abbrev pub IsTextFront : (line kept : List ℕ) → Type 0
IsTextFront line kept =
    (kept ≡ take (length kept) line) × (length kept ≤ 256) × IsCharBoundary line (length kept)
    × ((place : ℕ) → length kept < place → place ≤ 256 → IsCharBoundary line place → ⊥)

-- What is kept of a line: of a text that front, and of another line at most 256 bytes, from the first on that is no text.
pub record IsKeptOf (line kept : List ℕ) : Type 0 where
  pub front : IsUtf8 line → IsTextFront line kept
  pub wrong : (IsUtf8 line → ⊥) → kept ≡ take 256 (drop (utf8_valid_len line) line)

-- That is kept of the line of the number at which a run of a text ended.
abbrev pub IsBadKept : End → (text kept : List ℕ) → Type 0
IsBadKept (BadLine number) text kept = (place : ℕ) × (number ≡ place + 1) × (line : List ℕ) × (slice_get (lines_of text) place ≡ Some line) × IsKeptOf line kept
IsBadKept _ text kept = ⊥
