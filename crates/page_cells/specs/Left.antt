-- What a reader of a page's values has left.
use Rattle.std.specs.Prelude.{◌≡◌, ◌<◌, ◌≤◌, ◌^◌, List, [], length, drop, All, true, Ok}
use Rattle.row_core.specs.Rows.{Value}
use Rattle.page_cells.specs.Plain.{plain_at}
use Rattle.page_cells.specs.Texts.{is_proper}
use Rattle.page_cells.specs.declared.types.LeafType.{LeafType}
use Rattle.page_cells.specs.declared.values.PlainReader.{PlainReader}

-- These values are left of those that the bytes hold: all but the first that were passed.
pub record HasValuesLeft (type : LeafType) (r : PlainReader) (values : List Value) : Type 0 where
  pub of_type : r.leaf_type ≡ type
  pub all : List Value
  pub read : plain_at type (length all) r.bytes.now ≡ Ok (all, [])
  pub proper : All (λ v. is_proper v ≡ true) all
  pub few : length all < 2 ^ 64
  pub passed : r.passed ≤ length all
  pub left : values ≡ drop r.passed all
