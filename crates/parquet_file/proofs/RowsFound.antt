-- Bytes are a file of the rows that are read, within the limits.
use Rattle.std.proofs.Common.{◌≡◌, ℕ, ◌==◌, cond, length, List, true, Some, Ok, Err, sym, ap, subst, ◌∙◌, arith}
use Rattle.std.proofs.lemmas.Bool.{eqb-true}
use Rattle.outcomes.specs.Results.{◌>>=◌, or_refusal}
use Rattle.outcomes.specs.Bytes.{IsBytes}
use Rattle.row_core.specs.Rows.{Row}
use Rattle.schema_tree.specs.Limits.{IsWithinLimits, is_sound}
use Rattle.schema_tree.specs.Tree.{Tree}
use Rattle.shred.specs.Shape.{Shape}
use Rattle.parquet_footer.specs.Frame.{frame_of}
use Rattle.parquet_footer.specs.Metadata.{SchemaElement, FileMetaData}
use Rattle.parquet_footer.specs.Reading.{metadata_at}
use Rattle.parquet_footer.specs.declared.fault.FileFault.TheVariants.{CountMismatch, SchemaMismatch}
use Rattle.parquet_footer.proofs.Callers.{bind_ok, frame_found, held, metadata_found, size_kept}
use Rattle.parquet_schema.specs.FileTree.{FileFields, IsSchemaList, fields_of, group}
use Rattle.parquet_schema.specs.Fitting.{fitted, fitted_list}
use Rattle.parquet_schema.specs.Reading.{file_fields}
use Rattle.parquet_schema.proofs.Callers.{list_found}
use Rattle.parquet_file.specs.File.{AreGroups, IsFile, KeepsLimits}
use Rattle.parquet_file.specs.Reading.{rows_at, footer_rows, rows_of_groups}
use Rattle.parquet_file.proofs.ColumnsSuit.{AreRows}
use Rattle.parquet_file.proofs.FittedShapes.{some_is}
use Rattle.parquet_file.proofs.GroupRows.{groups_found}
use Rattle.parquet_file.proofs.GroupSteps.{there}

record ListFits (t : Tree) (es : List SchemaElement) (shape : Shape) : Type 0 where
  columns : FileFields
  listed : IsSchemaList columns es
  table : fitted t (group columns) ≡ Some shape

list_fits : (t : Tree) (es : List SchemaElement) (shape : Shape) → fitted_list t es ≡ Some shape → ListFits t es shape
list_fits t es shape e =
    let a = some_is (file_fields es) (λ fs. fitted t (group (fields_of fs))) shape e in
    record { columns = fields_of a.0; listed = list_found es a.0 a.1; table = a.2 }

-- what is known of a table that is read
record TableFound (given : List ℕ) (t : Tree) (metadata : FileMetaData) (rows : List Row) : Type 0 where
  shape : Shape
  fits : ListFits t metadata.schema shape
  groups : AreGroups given t shape metadata.row_groups rows
  counted : metadata.num_rows ≡ length rows
  are : AreRows t rows

table_found : (given : List ℕ) (t : Tree) (metadata : FileMetaData) (rows : List Row) → IsBytes given → is_sound t ≡ true
    → footer_rows given t metadata ≡ Ok rows → TableFound given t metadata rows
unfolding footer_rows
table_found given t metadata rows h sound e =
    let counts = λ (rows : List Row). cond (length rows == metadata.num_rows) (Ok rows) (Err CountMismatch) in
    let a = bind_ok (or_refusal (fitted_list t metadata.schema) SchemaMismatch)
    (λ shape. rows_of_groups given t shape metadata.row_groups >>= counts) rows e in
    let b = bind_ok (rows_of_groups given t a.0 metadata.row_groups) counts rows a.2 in
    let k = held (length b.0 == metadata.num_rows) CountMismatch b.0 rows b.2 in
    let f = list_fits t metadata.schema a.0 (there (fitted_list t metadata.schema) SchemaMismatch a.0 a.1) in
    let g = groups_found given t (group f.columns) a.0 metadata.row_groups rows h sound f.table
    (b.1 ∙ ap (λ (rs : List Row). Ok rs) k.1) in
    record {
      shape = a.0;
      fits = f;
      groups = g.stand;
      counted = sym (eqb-true (length b.0) metadata.num_rows k.0) ∙ ap length k.1;
      are = g.are;
    }

-- Bytes of which rows are read are a file of these rows, within the limits.
pub rows_found : (bytes : List ℕ) (t : Tree) (rows : List Row) → IsWithinLimits t → IsBytes bytes
    → rows_at bytes t ≡ Ok rows → IsFile bytes t rows × KeepsLimits bytes rows
unfolding rows_at
rows_found bytes t rows limits h e =
    let a = bind_ok (frame_of bytes) (λ parts. metadata_at parts.1 >>= footer_rows parts.0 t) rows e in
    let f = frame_found bytes a.0.0 a.0.1 h a.1 in
    let b = bind_ok (metadata_at a.0.1) (footer_rows a.0.0 t) rows a.2 in
    let m = metadata_found a.0.1 b.0 f.footer_fits b.1 in
    let k = table_found a.0.0 t b.0 rows f.front_fits limits.sound b.2 in
    let file : IsFile bytes t rows = record {
      pages = f.pages;
      footer = a.0.1;
      metadata = b.0;
      frame = f.frame;
      length_fits = f.length_fits;
      says = m.0;
      columns = k.fits.columns;
      listed = k.fits.listed;
      shape = k.shape;
      table = k.fits.table;
      groups = subst (λ (front : List ℕ). AreGroups front t k.shape b.0.row_groups rows) f.begins k.groups;
      counted = k.counted;
      conform = k.are.conform;
      texts = k.are.texts;
    } in
    (file, record { size = size_kept bytes a.0 a.1; most_rows = omega (arith, m.1.rows, k.counted) })
