-- The header of a data page that has the usual fields alone.
use Rattle.std.specs.Prelude.{◌≡◌, ℕ, ℤ, pos, List, ◌∷◌}
use Rattle.lake_bytes.specs.Zigzag.{SpellsSigned}
use Rattle.thrift_core.specs.Spelling.{SpellsStruct}
use Rattle.thrift_core.specs.Tree.{Tree, Fields, no_fields, field, integer, struct}
use Rattle.parquet_pages.specs.declared.usual.UsualHeader.{UsualHeader}

-- A field that is a number of 32 bits, and whose id is one above the last one.
pub record SpellsNext (bytes : List ℕ) (z : ℤ) : Type 0 where
  pub digits : List ℕ
  pub begins : bytes ≡ 21 ∷ digits
  pub number : SpellsSigned 32 digits z

-- the fields of the page's kind, and those of the page
abbrev pub kind_fields : UsualHeader → Fields
kind_fields u = field (pos 1) (integer u.num_values) (field (pos 2) (integer u.encoding) (field (pos 3) (integer u.level_encoding) (field (pos 4) (integer u.repetition) no_fields)))

abbrev pub usual_fields : UsualHeader → Fields
usual_fields u = field (pos 1) (integer u.page_type) (field (pos 2) (integer u.uncompressed) (field (pos 3) (integer u.compressed) (field (pos 5) (struct (kind_fields u)) no_fields)))

abbrev pub usual_tree : UsualHeader → Tree
usual_tree u = struct (usual_fields u)

abbrev pub SpellsUsual : List ℕ → UsualHeader → Type 0
SpellsUsual bytes u = SpellsStruct bytes (usual_tree u)
