-- Which bytes are a footer that says this of its file, and which files have one (Parquet, File Format).
use Rattle.std.specs.Prelude.{◌≡◌, ℕ, ◌<◌, ◌≤◌, ◌^◌, List, [], ◌∷◌, ◌++◌, length, Ok}
use Rattle.thrift_core.specs.Tree.{Tree}
use Rattle.thrift_core.specs.Spelling.{SpellsStruct}
use Rattle.parquet_footer.specs.Frame.{framed}
use Rattle.parquet_footer.specs.Metadata.{RowGroup, FileMetaData, metadata_of}

-- A front of the footer spells the struct that says this of the file.
pub record FooterSays (footer : List ℕ) (metadata : FileMetaData) : Type 0 where
  pub front : List ℕ
  pub rest : List ℕ
  pub tree : Tree
  pub parts : footer ≡ front ++ rest
  pub spelled : SpellsStruct front tree
  pub stands : metadata_of tree ≡ Ok metadata

-- The bytes are framed, and their footer says this of the file.
pub record HasFooter (bytes : List ℕ) (metadata : FileMetaData) : Type 0 where
  pub pages : List ℕ
  pub footer : List ℕ
  pub frame : bytes ≡ framed pages footer
  pub length_fits : length footer < 2 ^ 32
  pub says : FooterSays footer metadata

-- no group claims more rows than a file may have
abbrev pub GroupsWithinLimit : List RowGroup → Type 0
GroupsWithinLimit [] = Unit {0}
GroupsWithinLimit (group ∷ groups) = (group.num_rows ≤ 4194304) × GroupsWithinLimit groups

-- Neither the file nor one of its groups claims more rows than a file may have.
pub record ClaimsWithinLimit (metadata : FileMetaData) : Type 0 where
  pub rows : metadata.num_rows ≤ 4194304
  pub groups : GroupsWithinLimit metadata.row_groups
