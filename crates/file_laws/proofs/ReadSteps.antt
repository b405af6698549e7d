-- What the steps of a reading gave, where a file's rows are read: of a row group, of a leaf's column, of a page.
use Rattle.std.proofs.Common.{◌≡◌, ℕ, ltb, eqb, not, true, cond, pos, List, [], ◌∷◌, ◌++◌, length, Option, Some, Result, Ok, Err, refl, sym, ap, subst, ◌∙◌}
use Rattle.std.specs.Prelude.{All}
use Rattle.std.specs.List.{list_all}
use Rattle.std.specs.Ordering.{int_eq}
use Rattle.std.proofs.lemmas.Bool.{and_parts, eqb-true, not-false}
use Rattle.std.proofs.lemmas.Bool.Decides.{Decides-int_eq}
use Rattle.std.proofs.lemmas.List.Elements.{All-cons, All-contains, All-nil}
use Rattle.outcomes.specs.Results.{◌>>=◌, or_refusal, refused_as, refused_if}
use Rattle.thrift_core.proofs.Callers.{struct_at_again}
use Rattle.row_core.specs.Rows.{Row}
use Rattle.schema_tree.specs.Tree.{Tree}
use Rattle.row_assembly.specs.Assembly.{assembled}
use Rattle.row_assembly.specs.Columns.{Column}
use Rattle.row_assembly.specs.Shape.{Shape}
use Rattle.parquet_footer.specs.Frame.{frame_of}
use Rattle.parquet_footer.specs.Metadata.{ColumnChunk, RowGroup, FileMetaData}
use Rattle.parquet_footer.specs.Reading.{claims_within_limit, metadata_at, within_limits}
use Rattle.parquet_footer.specs.declared.fault.FileFault.{FileFault}
use Rattle.parquet_footer.specs.declared.fault.FileFault.TheVariants.{Codec, CountMismatch, SchemaMismatch, TooLarge}
use Rattle.parquet_footer.proofs.Callers.{Parts, bind_ok, frame_again, held, ok_is, passed, parts_again, size_kept}
use Rattle.parquet_pages.specs.Reading.{chunk_at}
use Rattle.parquet_schema.specs.Fitting.{fitted_list}
use Rattle.parquet_schema.specs.Leaves.{LeafIn, leaves_in}
use Rattle.parquet_file.specs.File.{leaf_of}
use Rattle.parquet_file.specs.Reading.{chunk_named, column_at, columns_at, has_rows, rows_at, footer_rows, rows_of_group, rows_of_groups}
use Rattle.parquet_file.proofs.GroupRows.{chunk_again}
use Rattle.file_laws.specs.Places.{HasChunk, HasGroup, HasLeaf, Opens}
use Rattle.file_laws.proofs.Steps.{let_through, there, told_ok}

-- a reading that gave something
abbrev pub IsGiven : {A E : Type 0} → Result A E → Type 0
IsGiven {A = A} read = (a : A) × (read ≡ Ok a)

-- ---- the file

limits_same : (read metadata : FileMetaData) → within_limits read ≡ Ok metadata → read ≡ metadata
unfolding within_limits
limits_same read metadata e =
    let kept = cond (claims_within_limit read.row_groups) (Ok read) (Err TooLarge) in
    (held (claims_within_limit read.row_groups) TooLarge read metadata (passed (ltb 4194304 read.num_rows) TooLarge kept metadata e).1).1

-- What a footer says whose file's rows are read: it keeps the limits, and these are the rows by it.
pub record IsOpened (bytes : List ℕ) (t : Tree) (given footer : List ℕ) (metadata : FileMetaData) (rows : List Row) : Type 0 where
  pub frame : frame_of bytes ≡ Ok (given, footer)
  pub limits : within_limits metadata ≡ Ok metadata
  pub reads : footer_rows given t metadata ≡ Ok rows

pub opened : (bytes : List ℕ) (t : Tree) (given : List ℕ) (metadata : FileMetaData) (rows : List Row) → rows_at bytes t ≡ Ok rows
    → (o : Opens bytes given metadata) → IsOpened bytes t given o.footer metadata rows
unfolding rows_at metadata_at
opened bytes t given metadata rows e o =
    let a = bind_ok (frame_of bytes) (λ parts. metadata_at parts.1 >>= footer_rows parts.0 t) rows e in
    let parts : Parts bytes o.framed.pages o.footer =
    subst (λ (b : List ℕ). Parts b o.framed.pages o.footer) (sym o.framed.frame) (parts_again o.framed.pages o.footer o.framed.length_fits) in
    let frame : frame_of bytes ≡ Ok (given, o.footer) =
    frame_again bytes o.framed.pages o.footer parts (size_kept bytes a.0 a.1) ∙ ap (λ (g : List ℕ). Ok (g, o.footer)) (sym o.framed.begins) in
    let says : metadata_at o.footer ≡ within_limits metadata =
    rw (o.says.parts, struct_at_again o.says.front o.says.tree o.says.rest o.says.spelled, o.says.stands) refl in
    let both : (within_limits metadata >>= footer_rows given t) ≡ Ok rows =
    ap (λ r. r >>= footer_rows given t) (sym says) ∙ (ap (λ r. r >>= λ parts. metadata_at parts.1 >>= footer_rows parts.0 t) (sym frame) ∙ e) in
    let k = bind_ok (within_limits metadata) (footer_rows given t) rows both in
    let same = limits_same metadata k.0 k.1 in
    record { frame = frame; limits = k.1 ∙ ap (λ (m : FileMetaData). Ok m) (sym same); reads = ap (footer_rows given t) same ∙ k.2 }

-- ---- row groups

groups_read : (given : List ℕ) (t : Tree) (shape : Shape) (gs : List RowGroup) (rows : List Row) → rows_of_groups given t shape gs ≡ Ok rows → All (λ g. IsGiven (rows_of_group given t shape g)) gs
unfolding rows_of_groups
groups_read given t shape [] rows e = All-nil (λ g. IsGiven (rows_of_group given t shape g))
groups_read given t shape (g ∷ gs) rows e =
    let a = bind_ok (rows_of_group given t shape g) (λ first. rows_of_groups given t shape gs >>= λ others. Ok (first ++ others)) rows e in
    let b = bind_ok (rows_of_groups given t shape gs) (λ others. Ok (a.0 ++ others)) rows a.2 in
    All-cons (λ g. IsGiven (rows_of_group given t shape g)) g gs (a.0, a.1) (groups_read given t shape gs b.0 b.1)

-- what is read of a file whose columns have this shape
pub record IsFitted (given : List ℕ) (t : Tree) (metadata : FileMetaData) (shape : Shape) : Type 0 where
  pub rows : List Row
  pub reads : rows_of_groups given t shape metadata.row_groups ≡ Ok rows
  pub counted : length rows ≡ metadata.num_rows

pub fitted_read : (given : List ℕ) (t : Tree) (metadata : FileMetaData) (rows : List Row) → footer_rows given t metadata ≡ Ok rows
    → (shape : Shape) × (fitted_list t metadata.schema ≡ Some shape) × IsFitted given t metadata shape
unfolding footer_rows
fitted_read given t metadata rows e =
    let counts = λ (rs : List Row). cond (eqb (length rs) metadata.num_rows) (Ok rs) (Err CountMismatch) in
    let a = bind_ok (or_refusal (fitted_list t metadata.schema) SchemaMismatch) (λ shape. rows_of_groups given t shape metadata.row_groups >>= counts) rows e in
    let b = bind_ok (rows_of_groups given t a.0 metadata.row_groups) counts rows a.2 in
    let k = held (eqb (length b.0) metadata.num_rows) CountMismatch b.0 rows b.2 in
    (a.0, there (fitted_list t metadata.schema) SchemaMismatch a.0 a.1, record { rows = b.0; reads = b.1; counted = eqb-true (length b.0) metadata.num_rows k.0 })

pub group_read : (bytes : List ℕ) (t : Tree) (given : List ℕ) (shape : Shape) (g : RowGroup) (rows : List Row) → rows_at bytes t ≡ Ok rows → HasGroup bytes t given shape g → IsGiven (rows_of_group given t shape g)
group_read bytes t given shape g rows e h =
    let o = opened bytes t given h.metadata rows e h.opens in
    let f = fitted_read given t h.metadata rows o.reads in
    let same : f.0 ≡ shape = some_is f.0 shape (sym f.1 ∙ h.fits) in
    let fit = subst (IsFitted given t h.metadata) same f.2 in
    All-contains (λ g. IsGiven (rows_of_group given t shape g)) h.metadata.row_groups g (groups_read given t shape h.metadata.row_groups fit.rows fit.reads) h.inside
  where
    some_is : {A : Type 0} (x y : A) → Some x ≡ Some y → x ≡ y
    some_is x y e = cc

-- ---- the columns of a row group

-- the columns of a row group that is read
pub record AreRead (given : List ℕ) (shape : Shape) (g : RowGroup) (leaves : List LeafIn) : Type 0 where
  pub columns : List Column
  pub reads : columns_at given g.columns leaves ≡ Ok columns
  pub counted : list_all (has_rows g.num_rows) columns ≡ true
  pub makes : IsGiven (assembled shape columns)

pub columns_read : (given : List ℕ) (t : Tree) (shape : Shape) (g : RowGroup) (rows : List Row) → rows_of_group given t shape g ≡ Ok rows → AreRead given shape g (leaves_in t shape)
unfolding rows_of_group
columns_read given t shape g rows e =
    let makes = λ (cs : List Column). refused_as (λ f. SchemaMismatch) (assembled shape cs) in
    let a = bind_ok (columns_at given g.columns (leaves_in t shape)) (λ cs. refused_if (not (list_all (has_rows g.num_rows) cs)) CountMismatch >>= λ counted. makes cs) rows e in
    let b = bind_ok (refused_if (not (list_all (has_rows g.num_rows) a.0)) CountMismatch) (λ counted. makes a.0) rows a.2 in
    record {
      columns = a.0;
      reads = a.1;
      counted = not-false _ (let_through (not (list_all (has_rows g.num_rows) a.0)) CountMismatch b.0 b.1);
      makes = (rows, told_ok (λ f. SchemaMismatch) (assembled shape a.0) rows b.2);
    }

-- a leaf's column, which has a level for each row
abbrev IsCounted : List ℕ → RowGroup → LeafIn → Type 0
IsCounted given g l = (c : Column) × (column_at given g.columns l ≡ Ok c) × (length c.levels ≡ g.num_rows)

each_read : (given : List ℕ) (g : RowGroup) (ls : List LeafIn) (cs : List Column) → columns_at given g.columns ls ≡ Ok cs → list_all (has_rows g.num_rows) cs ≡ true → All (IsCounted given g) ls
each_read given g [] cs e counted = All-nil (IsCounted given g)
each_read given g (l ∷ ls) cs e counted =
    let a = bind_ok (column_at given g.columns l) (λ c. columns_at given g.columns ls >>= λ others. Ok (c ∷ others)) cs e in
    let b = bind_ok (columns_at given g.columns ls) (λ others. Ok (a.0 ∷ others)) cs a.2 in
    let both = subst (λ (ds : List Column). list_all (has_rows g.num_rows) ds ≡ true) (sym (ok_is {E = FileFault} (a.0 ∷ b.0) cs b.2)) counted in
    let k = and_parts (has_rows g.num_rows a.0) (list_all (has_rows g.num_rows) b.0) both in
    All-cons (IsCounted given g) l ls (a.0, a.1, eqb-true (length a.0.levels) g.num_rows k.0) (each_read given g ls b.0 b.1 k.1)

pub leaf_read : (bytes : List ℕ) (t : Tree) (given : List ℕ) (g : RowGroup) (l : LeafIn) (rows : List Row) → rows_at bytes t ≡ Ok rows → HasLeaf bytes t given g l → IsCounted given g l
leaf_read bytes t given g l rows e h =
    let made = group_read bytes t given h.shape g rows e h.has in
    let are = columns_read given t h.shape g made.0 made.1 in
    All-contains (IsCounted given g) (leaves_in t h.shape) l (each_read given g (leaves_in t h.shape) are.columns are.reads are.counted) h.inside

-- ---- a chunk

pub record IsChunkRead (given : List ℕ) (g : RowGroup) (l : LeafIn) (chunk : ColumnChunk) : Type 0 where
  pub plain : chunk.codec ≡ pos 0
  pub column : Column
  pub reads : chunk_at (leaf_of l) given chunk.data_page_offset chunk.num_values ≡ Ok column
  pub counted : length column.levels ≡ g.num_rows

pub chunk_read : (bytes : List ℕ) (t : Tree) (given : List ℕ) (g : RowGroup) (l : LeafIn) (chunk : ColumnChunk) (rows : List Row) → rows_at bytes t ≡ Ok rows → HasChunk bytes t given g l chunk
    → IsChunkRead given g l chunk
unfolding column_at
chunk_read bytes t given g l chunk rows e h =
    let c = leaf_read bytes t given g l rows e h.leaf in
    let reads = λ (k : ColumnChunk). chunk_at (leaf_of l) given k.data_page_offset k.num_values in
    let tests = λ (k : ColumnChunk). refused_if (not (int_eq k.codec (pos 0))) (Codec k.codec) >>= λ plain. reads k in
    let named : chunk_named l.names g.columns ≡ Some chunk = chunk_again l.names g.columns chunk h.found in
    let here : tests chunk ≡ Ok c.0 = ap (λ (o : Option ColumnChunk). or_refusal o SchemaMismatch >>= tests) (sym named) ∙ c.1 in
    let a = bind_ok (refused_if (not (int_eq chunk.codec (pos 0))) (Codec chunk.codec)) (λ plain. reads chunk) c.0 here in
    record {
      plain = (Decides-int_eq chunk.codec (pos 0)).0 (not-false _ (let_through (not (int_eq chunk.codec (pos 0))) (Codec chunk.codec) a.0 a.1));
      column = c.0;
      reads = a.2;
      counted = c.2;
    }
