-- A footer without where it lies in memory.
use Rattle.std.specs.Prelude.{List, map}
use Rattle.thrift_core.specs.View.{texts_view}
use Rattle.parquet_footer.specs.Metadata.{SchemaElement, ColumnChunk, RowGroup, FileMetaData}
use Rattle.parquet_footer.specs.declared.footer.SchemaElement.{SchemaElement as CodeSchemaElement}
use Rattle.parquet_footer.specs.declared.footer.ColumnChunk.{ColumnChunk as CodeColumnChunk}
use Rattle.parquet_footer.specs.declared.footer.RowGroup.{RowGroup as CodeRowGroup}
use Rattle.parquet_footer.specs.declared.footer.Footer.{Footer}

abbrev pub element_view : {A : Type 0} → CodeSchemaElement A → SchemaElement
element_view e = record { physical_type = e.physical_type; repetition_type = e.repetition_type; name = e.name.items; num_children = e.num_children }

abbrev pub element_views : {A : Type 0} → List (CodeSchemaElement A) → List SchemaElement
element_views es = map element_view es

abbrev pub chunk_view : {A : Type 0} → CodeColumnChunk A → ColumnChunk
chunk_view c = record { path_in_schema = texts_view c.path_in_schema.items; codec = c.codec; num_values = c.num_values; data_page_offset = c.data_page_offset }

abbrev pub chunk_views : {A : Type 0} → List (CodeColumnChunk A) → List ColumnChunk
chunk_views cs = map chunk_view cs

abbrev pub group_view : {A : Type 0} → CodeRowGroup A → RowGroup
group_view g = record { columns = chunk_views g.columns.items; num_rows = g.num_rows }

abbrev pub group_views : {A : Type 0} → List (CodeRowGroup A) → List RowGroup
group_views gs = map group_view gs

abbrev pub footer_view : {A : Type 0} → Footer A → FileMetaData
footer_view f = record { schema = element_views f.schema.items; num_rows = f.num_rows; row_groups = group_views f.row_groups.items }
