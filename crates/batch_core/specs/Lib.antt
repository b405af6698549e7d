pub mod Closing
pub mod Committing
pub mod Preparing
pub mod Refusals
pub mod Requests
pub mod RowsIn
pub use Rattle.parquet_file.specs.Writing as ParquetWriting
pub use Rattle.parquet_file.specs.File as ParquetFile
