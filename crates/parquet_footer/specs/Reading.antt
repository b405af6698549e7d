-- Reading a footer: what it says, or the first fault in the order of the tests.
use Rattle.std.specs.Prelude.{ℕ, List, [], ◌∷◌, Bool, true, not, ◌&&◌, nat_lt, Result, Ok, Err, if◌then◌else◌}
use Rattle.outcomes.specs.Results.{◌>>=◌}
use Rattle.thrift_core.specs.Tree.{Tree}
use Rattle.thrift_core.specs.Reading.{struct_at}
use Rattle.thrift_values.specs.declared.fault.ThriftFault.{ThriftFault}
use Rattle.parquet_footer.specs.Frame.{frame_of}
use Rattle.parquet_footer.specs.Metadata.{RowGroup, FileMetaData, metadata_of}
use Rattle.parquet_footer.specs.declared.fault.FileFault.{FileFault}
use Rattle.parquet_footer.specs.declared.fault.FileFault.TheVariants.{BadFooter, TooLarge}

-- a reading of Thrift, whose faults are told as the footer's or a page's
abbrev pub told_as : {A : Type 0} → (ThriftFault → FileFault) → Result A ThriftFault → Result A FileFault
told_as fault (Ok x) = Ok x
told_as fault (Err f) = Err (fault f)

-- no group claims more rows than a file may have
abbrev pub claims_within_limit : List RowGroup → Bool
claims_within_limit [] = true
claims_within_limit (group ∷ groups) = not (nat_lt 4194304 group.num_rows) && claims_within_limit groups

unfoldable pub within_limits : FileMetaData → Result FileMetaData FileFault
within_limits m = if nat_lt 4194304 m.num_rows then Err TooLarge else (if claims_within_limit m.row_groups then Ok m else Err TooLarge)

-- what a footer's tree says, within the limits
abbrev pub limited_metadata_of : Tree → Result FileMetaData FileFault
limited_metadata_of t = told_as BadFooter (metadata_of t) >>= within_limits

-- what a footer says, up to the tests of the table's schema
unfoldable pub metadata_at : List ℕ → Result FileMetaData FileFault
metadata_at footer = do
  read ← told_as BadFooter (struct_at footer)
  metadata ← told_as BadFooter (metadata_of read.0)
  within_limits metadata

unfoldable pub footer_at : List ℕ → Result FileMetaData FileFault
footer_at bytes = frame_of bytes >>= λ parts. metadata_at parts.1
