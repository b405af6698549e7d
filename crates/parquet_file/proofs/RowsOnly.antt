-- The rows that bytes are a file of are read, and bytes are a file of one list of rows.
use Rattle.std.proofs.Common.{◌≡◌, ℕ, ◌+◌, ◌≤◌, length, List, [], ◌∷◌, ◌++◌, Some, Ok, refl, sym, ap, subst, ◌∙◌, arith, length-append, eq-eqb}
use Rattle.outcomes.specs.Options.{◌>>=◌}
use Rattle.row_core.specs.Rows.{Row}
use Rattle.schema_tree.specs.Limits.{IsWithinLimits}
use Rattle.schema_tree.specs.Tree.{Tree}
use Rattle.shred.specs.Shape.{Shape}
use Rattle.parquet_footer.specs.Footer.{ClaimsWithinLimit, GroupsWithinLimit, FooterSays}
use Rattle.parquet_footer.specs.Frame.{magic}
use Rattle.parquet_footer.specs.Metadata.{SchemaElement, RowGroup, FileMetaData}
use Rattle.parquet_footer.specs.declared.fault.FileFault.{FileFault}
use Rattle.parquet_footer.proofs.Callers.{Parts, frame_again, metadata_again, ok_is, one_frame, one_metadata, parts_again}
use Rattle.parquet_schema.specs.FileTree.{FileField, FileFields, IsSchemaList, field, fields_of, group, no_fields}
use Rattle.parquet_schema.specs.Fitting.{fitted, fitted_list}
use Rattle.parquet_schema.proofs.Callers.{list_read}
use Rattle.parquet_file.specs.File.{AreGroups, IsFile, KeepsLimits}
use Rattle.parquet_file.specs.Reading.{rows_at, footer_rows}
use Rattle.parquet_file.proofs.ColumnsSuit.{AreRows}
use Rattle.parquet_file.proofs.FittedShapes.{depth_fits}
use Rattle.parquet_file.proofs.GroupRows.{groups_again}

-- ---- the table

-- the fields of a group as a plain list
listed : FileFields → List FileField
listed no_fields = []
listed (field name optional node fs) = record { name = name; optional = optional; node = node } ∷ listed fs

fields_again : (fs : FileFields) → fields_of (listed fs) ≡ fs
unfolding listed
fields_again no_fields = refl
fields_again (field name optional node fs) = ap (field name optional node) (fields_again fs)

list_again : (t : Tree) (fs : FileFields) (es : List SchemaElement) (shape : Shape) → IsWithinLimits t → IsSchemaList fs es
    → fitted t (group fs) ≡ Some shape → fitted_list t es ≡ Some shape
list_again t fs es shape limits list fits =
    let deep = depth_fits t (group fs) shape limits.sound fits in
    let same = fields_again fs in
    let read = list_read es (listed fs) (subst (λ gs. IsSchemaList gs es) (sym same) list)
    (rw same (omega (arith, deep, limits.levels_fit))) in
    ap (λ o. o >>= λ gs. fitted t (group (fields_of gs))) read ∙ (ap (λ gs. fitted t (group gs)) same ∙ fits)

-- what stands is read, whatever the limits of the file
table_again : (given : List ℕ) (t : Tree) (metadata : FileMetaData) (fs : FileFields) (shape : Shape) (rows : List Row)
    → IsWithinLimits t → IsSchemaList fs metadata.schema → fitted t (group fs) ≡ Some shape
    → AreGroups given t shape metadata.row_groups rows → metadata.num_rows ≡ length rows → AreRows t rows
    → footer_rows given t metadata ≡ Ok rows
unfolding footer_rows
table_again given t metadata fs shape rows limits list fits groups counted are =
    rw (
      list_again t fs metadata.schema shape limits list fits,
      groups_again given t (group fs) shape metadata.row_groups rows limits.sound fits groups are,
      eq-eqb (length rows) metadata.num_rows (sym counted),
    ) refl

file_again : (bytes : List ℕ) (t : Tree) (rows : List Row) → IsWithinLimits t → (f : IsFile bytes t rows)
    → footer_rows (magic ++ f.pages) t f.metadata ≡ Ok rows
file_again bytes t rows limits f =
    table_again (magic ++ f.pages) t f.metadata f.columns f.shape rows limits f.listed f.table f.groups f.counted
    (record { conform = f.conform; texts = f.texts })

-- ---- the limits

-- no group claims more rows than there are
claims_again : (given : List ℕ) (t : Tree) (shape : Shape) (groups : List RowGroup) (rows : List Row)
    → AreGroups given t shape groups rows → length rows ≤ 4194304 → GroupsWithinLimit groups
claims_again given t shape [] rows p few = tt
claims_again given t shape (g ∷ groups) rows (first, others, one, more, whole) few =
    let count : length rows ≡ length first + length others =
    omega (arith, ap length whole, length-append first others) in
    (omega (arith, one.counted, count, few), claims_again given t shape groups others more (omega (arith, count, few)))

-- ---- the file

-- The rows that bytes are a file of, within the limits, are read.
pub rows_only : (bytes : List ℕ) (t : Tree) (rows : List Row) → IsWithinLimits t → IsFile bytes t rows
    → KeepsLimits bytes rows → rows_at bytes t ≡ Ok rows
unfolding rows_at
rows_only bytes t rows limits f k =
    let parts : Parts bytes f.pages f.footer = rw f.frame (parts_again f.pages f.footer f.length_fits) in
    let claims : ClaimsWithinLimit f.metadata = record {
      rows = omega (arith, f.counted, k.most_rows);
      groups = claims_again (magic ++ f.pages) t f.shape f.metadata.row_groups rows f.groups k.most_rows;
    } in
    rw (frame_again bytes f.pages f.footer parts k.size, metadata_again f.footer f.metadata f.says claims)
    (file_again bytes t rows limits f)

-- Bytes are a file of one list of rows at most.
pub rows_one : (bytes : List ℕ) (t : Tree) (rows others : List Row) → IsWithinLimits t → IsFile bytes t rows
    → IsFile bytes t others → rows ≡ others
rows_one bytes t rows others limits f g =
    let first : Parts bytes f.pages f.footer = rw f.frame (parts_again f.pages f.footer f.length_fits) in
    let second : Parts bytes g.pages g.footer = rw g.frame (parts_again g.pages g.footer g.length_fits) in
    let frame = one_frame bytes f.pages f.footer g.pages g.footer first second in
    let metadata : f.metadata ≡ g.metadata = one_metadata g.footer f.metadata g.metadata
    (subst (λ (b : List ℕ). FooterSays b f.metadata) frame.1 f.says) g.says in
    let one = file_again bytes t rows limits f in
    let two = file_again bytes t others limits g in
    let read : footer_rows (magic ++ f.pages) t f.metadata ≡ Ok others = rw (frame.0, metadata) two in
    ok_is {E = FileFault} rows others (sym one ∙ read)
