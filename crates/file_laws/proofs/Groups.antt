-- A fault of a row group or of the whole file stands in the bytes.
use Rattle.std.proofs.Common.{◌≡◌, ℕ, ◌<◌, eqb, not, Bool, true, false, cond, pos, List, [], ◌∷◌, ◌++◌, length, Some, Ok, Err, inl, inr, refl, sym, subst, ◌∙◌, arith}
use Rattle.std.specs.Prelude.{All, Contains}
use Rattle.std.specs.List.{AllZip, list_all}
use Rattle.std.specs.Ordering.{int_eq}
use Rattle.std.proofs.lemmas.Bool.{and_cases, eqb-false, not-true}
use Rattle.std.proofs.lemmas.Bool.Decides.{Decides-int_eq}
use Rattle.std.proofs.lemmas.List.Elements.{All-contains_itself, All-head, All-tail}
use Rattle.outcomes.specs.Results.{◌>>=◌, or_refusal, refused_as, refused_if}
use Rattle.outcomes.specs.Bytes.{IsBytes}
use Rattle.row_core.specs.Rows.{Row}
use Rattle.schema_tree.specs.Limits.{IsWithinLimits}
use Rattle.schema_tree.specs.Tree.{Tree}
use Rattle.row_assembly.specs.Assembly.{assembled}
use Rattle.row_assembly.specs.Columns.{Column}
use Rattle.row_assembly.specs.Shape.{HasFields, Shape}
use Rattle.row_assembly.proofs.Callers.{assembled_complete}
use Rattle.parquet_footer.specs.Frame.{FramedAs, frame_of}
use Rattle.parquet_footer.specs.Metadata.{ColumnChunk, RowGroup, FileMetaData}
use Rattle.parquet_footer.specs.Reading.{metadata_at}
use Rattle.parquet_footer.specs.declared.fault.FileFault.{FileFault}
use Rattle.parquet_footer.specs.declared.fault.FileFault.TheVariants.{Codec, CountMismatch, SchemaMismatch}
use Rattle.parquet_footer.proofs.Callers.{bind_ok, frame_found, metadata_found, ok_is}
use Rattle.parquet_pages.specs.Reading.{chunk_at}
use Rattle.parquet_pages.proofs.Callers as pages
use Rattle.parquet_schema.specs.FileTree.{fields_of, group}
use Rattle.parquet_schema.specs.Fitting.{fitted, fitted_list}
use Rattle.parquet_schema.specs.Leaves.{LeafIn, leaves_in}
use Rattle.parquet_schema.specs.Reading.{file_fields}
use Rattle.parquet_file.specs.File.{leaf_of}
use Rattle.parquet_file.specs.Reading.{chunk_named, column_at, columns_at, has_rows, rows_at, footer_rows, rows_of_group, rows_of_groups}
use Rattle.parquet_file.proofs.CellsSuit.{some_ways}
use Rattle.parquet_file.proofs.CodeGroups.{groups_many}
use Rattle.parquet_file.proofs.FittedShapes.{leaves_for_ways, shape_has}
use Rattle.parquet_file.proofs.GroupRows.{chunk_found}
use Rattle.file_laws.specs.Faults.{FaultStands, HasCountMismatch, chunk_differs, columns_differ, groups_differ, structs_differ}
use Rattle.file_laws.specs.Places.{HasGroup, HasLeaf, HoldsSuiting, Opens}
use Rattle.file_laws.proofs.Chunks.{column_fault}
use Rattle.file_laws.proofs.Frames.{footer_fault, frame_fault}
use Rattle.file_laws.proofs.Members.{all_weaker}
use Rattle.file_laws.proofs.Steps.{by_missing, by_pass, by_step, by_test, by_told, err_is, never, some_step, there}

-- ---- the columns of a group

column_held : (given : List ℕ) (g : RowGroup) → IsBytes given → (l : LeafIn) (c : Column) → column_at given g.columns l ≡ Ok c → HoldsSuiting given g l c
unfolding column_at
column_held given g fits l c e =
    let chunks = g.columns in
    let reads = λ (chunk : ColumnChunk). chunk_at (leaf_of l) given chunk.data_page_offset chunk.num_values in
    let a = bind_ok (or_refusal (chunk_named l.names chunks) SchemaMismatch) (λ chunk. refused_if (not (int_eq chunk.codec (pos 0))) (Codec chunk.codec) >>= λ plain. reads chunk) c e in
    let b = bind_ok (refused_if (not (int_eq a.0.codec (pos 0))) (Codec a.0.codec)) (λ plain. reads a.0) c a.2 in
    let found = pages.chunk_found (leaf_of l) given a.0.data_page_offset a.0.num_values c fits b.2 in (
      record {
        chunk = a.0;
        found = chunk_found l.names chunks a.0 (there (chunk_named l.names chunks) SchemaMismatch a.0 a.1);
        uncompressed = plainly a.0 (int_eq a.0.codec (pos 0)) refl b.1;
        counted = found.2;
        pages = found.0;
      },
      found.1,
    )
  where
    plainly : (chunk : ColumnChunk) (b : Bool) → int_eq chunk.codec (pos 0) ≡ b → {x : Unit {0}} → refused_if (not b) (Codec chunk.codec) ≡ Ok x → chunk.codec ≡ pos 0
    plainly chunk true is read = (Decides-int_eq chunk.codec (pos 0)).0 is
    plainly chunk false is read = absurd cc

columns_held : (given : List ℕ) (g : RowGroup) → IsBytes given → (ls : List LeafIn) (cs : List Column) → columns_at given g.columns ls ≡ Ok cs → AllZip (HoldsSuiting given g) ls cs
columns_held given g fits [] cs e = subst (AllZip (HoldsSuiting given g) []) (ok_is {E = FileFault} [] cs e) tt
columns_held given g fits (l ∷ ls) cs e =
    let a = bind_ok (column_at given g.columns l) (λ y. columns_at given g.columns ls >>= λ ys. Ok (y ∷ ys)) cs e in
    let b = bind_ok (columns_at given g.columns ls) (λ ys. Ok (a.0 ∷ ys)) cs a.2 in
    subst (AllZip (HoldsSuiting given g) (l ∷ ls)) {x = a.0 ∷ b.0} (ok_is {E = FileFault} (a.0 ∷ b.0) cs b.2)
    (column_held given g fits l a.0 a.1, columns_held given g fits ls b.0 b.1)

columns_fault : (bytes : List ℕ) (t : Tree) (given : List ℕ) (g : RowGroup) (ls : List LeafIn) (fault : FileFault) → IsBytes given
    → All (HasLeaf bytes t given g) ls → columns_at given g.columns ls ≡ Err fault → FaultStands bytes t fault
columns_fault bytes t given g [] fault fits leaves e = absurd (never {A = List Column} [] fault (Ok []) refl e)
columns_fault bytes t given g (l ∷ ls) fault fits leaves e =
    by_step (FaultStands bytes t) (column_at given g.columns l) (λ c. columns_at given g.columns ls >>= λ cs. Ok (c ∷ cs)) fault e
    (λ e1. column_fault bytes t given g l fault fits (All-head (HasLeaf bytes t given g) l ls leaves) e1)
    (λ c is e1. by_step (FaultStands bytes t) (columns_at given g.columns ls) (λ cs. Ok (c ∷ cs)) fault e1
    (λ e2. columns_fault bytes t given g ls fault fits (All-tail (HasLeaf bytes t given g) l ls leaves) e2)
    (λ cs are e2. absurd (never (c ∷ cs) fault (Ok (c ∷ cs)) refl e2)))

-- a chunk that hasn't as many values as the group has rows
miscounted : (bytes : List ℕ) (t : Tree) (given : List ℕ) (g : RowGroup) (ls : List LeafIn) (cs : List Column) → All (HasLeaf bytes t given g) ls
    → AllZip (HoldsSuiting given g) ls cs → list_all (has_rows g.num_rows) cs ≡ false → HasCountMismatch bytes t
miscounted bytes t given g [] [] leaves held e = absurd cc
miscounted bytes t given g [] (c ∷ cs) leaves held e = absurd held
miscounted bytes t given g (l ∷ ls) [] leaves held e = absurd held
miscounted bytes t given g (l ∷ ls) (c ∷ cs) leaves held e = elim (and_cases (has_rows g.num_rows c) (list_all (has_rows g.num_rows) cs) e) [
  | inl here ↦ chunk_differs given g l held.0.0.chunk (record { leaf = All-head (HasLeaf bytes t given g) l ls leaves; found = held.0.0.found })
      (λ same. eqb-false (length c.levels) g.num_rows here (sym held.0.0.counted ∙ same))
  | inr more ↦ miscounted bytes t given g ls cs (All-tail (HasLeaf bytes t given g) l ls leaves) held.1 more
]

-- ---- groups

group_fault : (bytes : List ℕ) (t : Tree) (given : List ℕ) (shape : Shape) (g : RowGroup) (fault : FileFault) → IsBytes given → HasFields shape
    → HasGroup bytes t given shape g → rows_of_group given t shape g ≡ Err fault → FaultStands bytes t fault
unfolding rows_of_group
group_fault bytes t given shape g fault fits fields has e =
    let leaves = leaves_in t shape in
    let makes = λ (cs : List Column). refused_as (λ f. SchemaMismatch) (assembled shape cs) in
    let all = all_weaker (Contains leaves) (HasLeaf bytes t given g) (λ l inside. record { shape = shape; has = has; inside = inside }) leaves (All-contains_itself leaves) in
    by_step (FaultStands bytes t) (columns_at given g.columns leaves) (λ cs. refused_if (not (list_all (has_rows g.num_rows) cs)) CountMismatch >>= λ counted. makes cs) fault e
    (λ e1. columns_fault bytes t given g leaves fault fits all e1)
    (λ cs is e1.
    let held = columns_held given g fits leaves cs is in
    by_test (FaultStands bytes t) (not (list_all (has_rows g.num_rows) cs)) CountMismatch (λ counted. makes cs) fault e1
    (λ bad. miscounted bytes t given g leaves cs all held (not-true _ bad))
    (λ good e2. by_told (FaultStands bytes t) (λ f. SchemaMismatch) (assembled shape cs) fault e2
    (λ inner e3. structs_differ given shape g cs has held
    (λ rows are. never rows inner (assembled shape cs) (assembled_complete shape rows cs fields are) e3))))

groups_fault : (bytes : List ℕ) (t : Tree) (given : List ℕ) (shape : Shape) (gs : List RowGroup) (fault : FileFault) → IsBytes given → HasFields shape
    → All (HasGroup bytes t given shape) gs → rows_of_groups given t shape gs ≡ Err fault → FaultStands bytes t fault
unfolding rows_of_groups
groups_fault bytes t given shape [] fault fits fields has e = absurd (never {A = List Row} [] fault (Ok []) refl e)
groups_fault bytes t given shape (g ∷ gs) fault fits fields has e =
    by_step (FaultStands bytes t) (rows_of_group given t shape g) (λ first. rows_of_groups given t shape gs >>= λ others. Ok (first ++ others)) fault e
    (λ e1. group_fault bytes t given shape g fault fits fields (All-head (HasGroup bytes t given shape) g gs has) e1)
    (λ first is e1. by_step (FaultStands bytes t) (rows_of_groups given t shape gs) (λ others. Ok (first ++ others)) fault e1
    (λ e2. groups_fault bytes t given shape gs fault fits fields (All-tail (HasGroup bytes t given shape) g gs has) e2)
    (λ others are e2. absurd (never (first ++ others) fault (Ok (first ++ others)) refl e2)))

-- ---- the file

-- each struct of the shape has a field, so there is a leaf
pub shape_fits : (t : Tree) (metadata : FileMetaData) (shape : Shape) → IsWithinLimits t → fitted_list t metadata.schema ≡ Some shape
    → HasFields shape × (0 < length (leaves_in t shape))
shape_fits t metadata shape limits e =
    let a = some_step (file_fields metadata.schema) (λ fs. fitted t (group (fields_of fs))) shape e in
    let node = group (fields_of a.0) in
    let fields = shape_has t node shape limits.sound a.2 in
    (fields, omega (arith, leaves_for_ways t node shape a.2, some_ways shape fields))

rows_fault : (bytes : List ℕ) (t : Tree) (given : List ℕ) (metadata : FileMetaData) (fault : FileFault) → IsWithinLimits t → IsBytes given
    → Opens bytes given metadata → footer_rows given t metadata ≡ Err fault → FaultStands bytes t fault
unfolding footer_rows
rows_fault bytes t given metadata fault limits fits opens e =
    let counts = λ (rows : List Row). cond (eqb (length rows) metadata.num_rows) (Ok rows) (Err CountMismatch) in
    by_step (FaultStands bytes t) (or_refusal (fitted_list t metadata.schema) SchemaMismatch) (λ shape. rows_of_groups given t shape metadata.row_groups >>= counts) fault e
    (λ e1. by_missing (FaultStands bytes t) (fitted_list t metadata.schema) SchemaMismatch fault e1 (λ none. columns_differ given metadata opens none))
    (λ shape is e1.
    let fit = there (fitted_list t metadata.schema) SchemaMismatch shape is in
    let known = shape_fits t metadata shape limits fit in
    let all = all_weaker (Contains metadata.row_groups) (HasGroup bytes t given shape)
    (λ g inside. record { metadata = metadata; opens = opens; fits = fit; inside = inside }) metadata.row_groups (All-contains_itself metadata.row_groups) in
    by_step (FaultStands bytes t) (rows_of_groups given t shape metadata.row_groups) counts fault e1
    (λ e2. groups_fault bytes t given shape metadata.row_groups fault fits known.0 all e2)
    (λ rows are e2. by_pass (FaultStands bytes t) (eqb (length rows) metadata.num_rows) rows (Err CountMismatch) fault e2
    (λ other e3. subst (FaultStands bytes t) (err_is {A = List Row} CountMismatch fault (Err CountMismatch) refl e3)
    (groups_differ given metadata opens
    (λ same. eqb-false (length rows) metadata.num_rows other (groups_many given t shape metadata.row_groups rows known.1 are ∙ same))))))

pub fault_stands : (bytes : List ℕ) (t : Tree) (fault : FileFault) → IsWithinLimits t → IsBytes bytes → rows_at bytes t ≡ Err fault → FaultStands bytes t fault
unfolding rows_at
fault_stands bytes t fault limits fits e =
    by_step (FaultStands bytes t) (frame_of bytes) (λ parts. metadata_at parts.1 >>= footer_rows parts.0 t) fault e
    (λ e1. frame_fault bytes t fault e1)
    (λ parts is e1.
    let f = frame_found bytes parts.0 parts.1 fits is in
    let framed : FramedAs bytes parts.0 parts.1 = record { pages = f.pages; begins = f.begins; frame = f.frame; length_fits = f.length_fits } in
    by_step (FaultStands bytes t) (metadata_at parts.1) (footer_rows parts.0 t) fault e1
    (λ e2. footer_fault bytes t parts.0 parts.1 fault framed f.footer_fits e2)
    (λ metadata says e2. rows_fault bytes t parts.0 metadata fault limits f.front_fits
    (record { footer = parts.1; framed = framed; says = (metadata_found parts.1 metadata f.footer_fits says).0 }) e2))
