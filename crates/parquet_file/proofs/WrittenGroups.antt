-- The row group that is written holds the rows, and what is said of it can be read again.
use Rattle.std.proofs.Common.{◌≡◌, ℕ, ◌<◌, ◌≤◌, ◌^◌, length, All, List, [], ◌∷◌, ◌++◌, true, None, Some, Ok, refl, ap, subst, arith, append-nil}
use Rattle.std.specs.List.{AllByRecursion, AllZip}
use Rattle.std.proofs.lemmas.List.Elements.{recursion_from_All}
use Rattle.outcomes.specs.Results.{◌>>=◌, or_refusal}
use Rattle.thrift_core.specs.Fields.{all_as, as_struct, each}
use Rattle.thrift_core.specs.Form.{list_form}
use Rattle.thrift_core.specs.Tree as thrift
use Rattle.thrift_core.specs.Tree.{trees_of}
use Rattle.thrift_core.specs.Writing.{HasForm, MembersHaveForm}
use Rattle.row_core.specs.Conforms.{Conforms}
use Rattle.row_core.specs.Rows.{Row}
use Rattle.row_core.specs.Unsupported.{unsupported}
use Rattle.schema_tree.specs.Limits.{IsWithinLimits, levels}
use Rattle.schema_tree.specs.Tree as tree
use Rattle.schema_tree.specs.Tree.{Tree}
use Rattle.shred.specs.Columns.{AreColumnsOf, Column, columns}
use Rattle.shred.specs.Shape.{shape_of}
use Rattle.parquet_footer.specs.Frame.{magic}
use Rattle.parquet_footer.specs.Metadata.{ColumnChunk, RowGroup, chunk_of, group_of}
use Rattle.parquet_footer.specs.declared.fault.FileFault.{FileFault}
use Rattle.parquet_footer.specs.declared.fault.FileFault.TheVariants.{SchemaMismatch}
use Rattle.parquet_footer.proofs.Callers.{bind_ok, ok_is}
use Rattle.page_writing.specs.Writing.{IsWhole}
use Rattle.parquet_schema.specs.Leaves.{LeafIn, leaves_in}
use Rattle.parquet_file.specs.File.{IsGroup, leaf_of}
use Rattle.parquet_file.specs.Writing.{chunk_form, chunks_from, group_form, group_tree, group_written, is_short_named, members}
use Rattle.parquet_file.proofs.ColumnsSuit.{columns_long}
use Rattle.parquet_file.proofs.ColumnsWhole.{columns_are, columns_whole}
use Rattle.parquet_file.proofs.GroupSteps.{there}
use Rattle.parquet_file.proofs.LeafPaths.{IsNear, each_weaker, further, leaves_apart, leaves_few, leaves_near}
use Rattle.parquet_file.proofs.StructForms.{fits_64, struct_has_form}
use Rattle.parquet_file.proofs.WrittenChunks.{ChunksHold, IsColumnFor, chunks_hold, trees_counted}

-- ---- what is said of a group

group_said : (trees : List thrift.Tree) (chunks : List ColumnChunk) (size rows : ℕ)
    → all_as as_struct (trees_of trees) ≡ Some trees → each chunk_of trees ≡ Ok chunks
    → group_of (group_tree trees size rows) ≡ Ok (record { columns = chunks; num_rows = rows })
unfolding group_of
group_said trees chunks size rows structs said = rw (structs, said) refl

group_has_form : (trees : List thrift.Tree) (size rows : ℕ) → MembersHaveForm chunk_form (trees_of trees)
    → length trees ≤ 256 → size < 2 ^ 63 → rows < 2 ^ 63 → HasForm group_form (group_tree trees size rows)
group_has_form trees size rows formed few short fits =
    let chunks : HasForm (list_form chunk_form) (members trees) =
    (chunk_form, refl, omega (arith, trees_counted trees), formed) in
    struct_has_form group_form (group_tree trees size rows) refl (chunks, (fits_64 size short, (fits_64 rows fits, tt)))

-- ---- the columns

-- whole columns, each with a level for each row
columns_for : (rows : ℕ) (ls : List LeafIn) (cs : List Column) → AllZip (λ l c. IsWhole (leaf_of l) c) ls cs
    → AllByRecursion (λ c. length c.levels ≡ rows) cs → AllZip (IsColumnFor rows) ls cs
columns_for rows [] [] whole long = tt
columns_for rows [] (c ∷ cs) whole long = absurd whole
columns_for rows (l ∷ ls) [] whole long = absurd whole
columns_for rows (l ∷ ls) (c ∷ cs) whole long = ((whole.0, long.0), columns_for rows ls cs whole.1 long.1)

-- the way to each leaf of a table within the limits is short
leaves_kept : (t : Tree) → IsWithinLimits t → is_short_named t ≡ true
    → AllByRecursion (IsNear 16) (leaves_in t (shape_of t))
leaves_kept t limits short =
    each_weaker (IsNear (levels t)) (IsNear 16) (λ l. further (levels t) 16 l limits.levels_fit)
    (leaves_in t (shape_of t)) (leaves_near t (shape_of t) short)

-- ---- the group

-- What is said of the group is read again as a group that holds the rows, and has its form.
pub record GroupHolds (t : Tree) (rows : List Row) (bytes : List ℕ) (said : thrift.Tree) : Type 0 where
  pub group : RowGroup
  pub read : group_of said ≡ Ok group
  pub formed : HasForm group_form said
  pub holds : IsGroup (magic ++ bytes) t (shape_of t) group rows

-- what the chunks hold, as the group
group_of_chunks : (t : Tree) (rows : List Row) (cs : List Column) (made : List ℕ × List thrift.Tree) → IsWithinLimits t
    → length rows ≤ 4194304 → AreColumnsOf (shape_of t) rows cs
    → ChunksHold (magic ++ made.0) 4 (leaves_in t (shape_of t)) cs made
    → GroupHolds t rows made.0 (group_tree made.1 (length made.0) (length rows))
group_of_chunks t rows cs made limits few are h = record {
  group = record { columns = h.chunks; num_rows = length rows };
  read = group_said made.1 h.chunks (length made.0) (length rows) h.structs h.said;
  formed = group_has_form made.1 (length made.0) (length rows) h.formed
      (omega (arith, h.many, leaves_few t (shape_of t), limits.leaves_fit)) (omega (arith, h.fits)) (omega arith);
  holds = record { columns = cs; held = h.held; are = are; counted = refl };
}

-- what was written for a group: its columns, and their chunks
record GroupSteps (t : Tree) (rows : List Row) (made : List ℕ × thrift.Tree) : Type 0 where
  columns_given : List Column
  chunks : List ℕ × List thrift.Tree
  shredded : columns (shape_of t) rows ≡ Some columns_given
  written : chunks_from 4 (length rows) (leaves_in t (shape_of t)) columns_given ≡ Ok chunks
  bytes : chunks.0 ≡ made.0
  said : group_tree chunks.1 (length chunks.0) (length rows) ≡ made.1

both_parts : (made other : List ℕ × thrift.Tree) → made ≡ other → (made.0 ≡ other.0) × (made.1 ≡ other.1)
both_parts made other is = (ap (λ m. m.0) is, ap (λ m. m.1) is)

group_steps : (t : Tree) (rows : List Row) (made : List ℕ × thrift.Tree) → group_written t rows ≡ Ok made
    → GroupSteps t rows made
unfolding group_written
group_steps t rows made e =
    let gives : List ℕ × List thrift.Tree → List ℕ × thrift.Tree =
    λ chunks. (chunks.0, group_tree chunks.1 (length chunks.0) (length rows)) in
    let a = bind_ok (or_refusal (columns (shape_of t) rows) SchemaMismatch)
    (λ cs. chunks_from 4 (length rows) (leaves_in t (shape_of t)) cs >>= λ chunks. Ok (gives chunks)) made e in
    let b = bind_ok (chunks_from 4 (length rows) (leaves_in t (shape_of t)) a.0) (λ chunks. Ok (gives chunks)) made a.2 in
    let is = both_parts (gives b.0) made (ok_is {E = FileFault} (gives b.0) made b.2) in
    record {
      columns_given = a.0;
      chunks = b.0;
      shredded = there (columns (shape_of t) rows) SchemaMismatch a.0 a.1;
      written = b.1;
      bytes = is.0;
      said = is.1;
    }

-- the chunks behind the magic bytes hold the columns
chunks_behind : (t : Tree) (rows : List Row) (cs : List Column) (chunks : List ℕ × List thrift.Tree) → IsWithinLimits t
    → unsupported t ≡ None → is_short_named t ≡ true → All (Conforms t) rows → length rows ≤ 4194304
    → AreColumnsOf (shape_of t) rows cs
    → chunks_from 4 (length rows) (leaves_in t (shape_of t)) cs ≡ Ok chunks
    → ChunksHold (magic ++ chunks.0) 4 (leaves_in t (shape_of t)) cs chunks
chunks_behind t rows cs chunks limits none short all few are e =
    let leaves = leaves_in t (shape_of t) in
    let count = length rows in
    let long = recursion_from_All (λ (c : Column). length c.levels ≡ count) cs (columns_long (shape_of t) rows cs are) in
    let fitting = columns_for count leaves cs (columns_whole t rows cs none all are) long in
    subst (λ (g : List ℕ). ChunksHold (magic ++ g) 4 leaves cs chunks) (append-nil chunks.0)
    (chunks_hold count leaves cs magic [] chunks e few (omega arith) (omega arith)
    (leaves_apart t (shape_of t) limits.sound) (leaves_kept t limits short) fitting)

group_found : (t : Tree) (rows : List Row) (made : List ℕ × thrift.Tree) → IsWithinLimits t → unsupported t ≡ None
    → is_short_named t ≡ true → All (Conforms t) rows → length rows ≤ 4194304 → group_written t rows ≡ Ok made
    → GroupHolds t rows made.0 made.1
group_found t rows made limits none short all few e =
    let s = group_steps t rows made e in
    let are = columns_are t rows s.columns_given all s.shredded in
    let h = chunks_behind t rows s.columns_given s.chunks limits none short all few are s.written in
    subst (GroupHolds t rows made.0) s.said
    (subst (λ bytes. GroupHolds t rows bytes (group_tree s.chunks.1 (length s.chunks.0) (length rows))) s.bytes
    (group_of_chunks t rows s.columns_given s.chunks limits few are h))

-- The row group that is written for rows of a table holds them; what is said of it has its form, and is read again.
pub group_is_written : (cols : tree.Fields) (rows : List Row) (bytes : List ℕ) (said : thrift.Tree)
    → IsWithinLimits (tree.struct cols) → unsupported (tree.struct cols) ≡ None
    → is_short_named (tree.struct cols) ≡ true → All (Conforms (tree.struct cols)) rows → length rows ≤ 4194304
    → group_written (tree.struct cols) rows ≡ Ok (bytes, said)
    → (g : RowGroup) × (group_of said ≡ Ok g) × HasForm group_form said
    × IsGroup (magic ++ bytes) (tree.struct cols) (shape_of (tree.struct cols)) g rows
group_is_written cols rows bytes said limits none short all few e =
    let h = group_found (tree.struct cols) rows (bytes, said) limits none short all few e in
    (h.group, h.read, h.formed, h.holds)
