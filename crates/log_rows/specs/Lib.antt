pub mod Handings
pub mod TailFaults
pub mod TailViews
pub mod Tailing
pub use Rattle.parquet_file.specs.Reading as ParquetReading
pub use Rattle.parquet_file.specs.File as ParquetFile
pub use Rattle.parquet_file.specs.Writing as ParquetWriting
