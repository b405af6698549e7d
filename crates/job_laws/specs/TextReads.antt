-- Reads that follow one another by texts, as a reader keeps them: each goes on from a text that spells the offset where the
-- one before ended.
use Rattle.std.specs.Prelude.{◌≡◌, ℕ, false, List, [], ◌∷◌, ◌++◌, Some, Result, Ok}
use Rattle.outcomes.specs.Results.{◌>>=◌, or_refusal}
use Rattle.store_core.specs.Objects.{Objects}
use Rattle.row_core.specs.Rows.{Row}
use Rattle.log_offsets.specs.Offsets.{offset_of}
use Rattle.lake_script.specs.Tailing.{ReadRefusal, ReadRows, bad_offset, read_by}

-- a read from the offset that a text spells
abbrev pub read_at : Objects → (max : ℕ) → (text : List ℕ) → Result ReadRows ReadRefusal
read_at objects max text = or_refusal (offset_of text) bad_offset >>= λ offset. read_by false objects max offset

-- Reads over the same objects with these limits, the first from a text on, handed out these rows together, and the next one
-- goes on from the last text.
pub data ReadsByTexts (objects : Objects) : (limits : List ℕ) → (text : List ℕ) → List Row → (last : List ℕ) → Type 0 where
  done : {text : List ℕ} → ReadsByTexts objects [] text [] text
  goes_on : {max : ℕ} {limits : List ℕ} {text last : List ℕ} (next : List ℕ) (handed : ReadRows) (rows : List Row) → read_at objects max text ≡ Ok handed
      → offset_of next ≡ Some handed.next → ReadsByTexts objects limits next rows last → ReadsByTexts objects (max ∷ limits) text (handed.rows ++ rows) last
