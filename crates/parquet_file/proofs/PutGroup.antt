-- The row group of all rows, written.
use Rattle.std.proofs.Common.{◌≡◌, ℕ, ◌+◌, ◌-◌, List, [], ◌∷◌, ◌++◌, length, map, All, get_or, true, is_some, Some, None, option_map, Ok, Err, refl, sym, ap, ◌∙◌, subst, arith}
use Rattle.std.specs.List.{AllByRecursion}
use Rattle.std.proofs.lemmas.List.{length-append}
use Rattle.outcomes.specs.Outcome.{IsSaid}
use Rattle.outcomes.proofs.Callers.{said_too}
use Rattle.thrift_core.specs.Tree as thrift
use Rattle.row_core.specs.Conforms.{Conforms}
use Rattle.row_core.specs.Rows.{Row}
use Rattle.row_core.specs.Unsupported.{unsupported}
use Rattle.schema_tree.specs.Limits.{is_sound}
use Rattle.schema_tree.specs.Tree as tree
use Rattle.schema_tree.specs.Tree.{Tree}
use Rattle.shred.specs.Columns.{Column, all_some, column, column_of, columns}
use Rattle.shred.specs.Fits.{FitsShape}
use Rattle.shred.specs.Shape.{Shape, shape_of}
use Rattle.shred.specs.Ways.{Step, highest, ways}
use Rattle.shred.proofs.Callers.{columns_found, matrix, row_fits}
use Rattle.parquet_footer.specs.Outcome.{says}
use Rattle.parquet_footer.specs.declared.fault.FileError.{FileError}
use Rattle.parquet_footer.specs.declared.fault.FileFault.{FileFault}
use Rattle.parquet_schema.specs.FileTree.{group}
use Rattle.parquet_schema.specs.Leaves.{LeafIn, leaves_in}
use Rattle.parquet_schema.proofs.Callers.{leaf_levels, own_tree_fits}
use Rattle.parquet_file.specs.Internal.{column_along, column_or_none, columns_along, levels_of}
use Rattle.parquet_file.specs.Writing.{chunks_from, group_tree, group_written}
use Rattle.parquet_file.proofs.FittedShapes.{mapped_is, some_is}
use Rattle.parquet_file.proofs.WrittenFooter.{own_tree}

-- rows that conform fit the table's shape
rows_fit : (t : Tree) (shape : Shape) (rows : List Row) → shape ≡ shape_of t → All (Conforms t) rows
    → All (FitsShape shape) rows
rows_fit t shape rows is conform = λ k d lt.
    subst (λ (s : Shape). FitsShape s (get_or rows k d)) (sym is) (row_fits t (get_or rows k d) (conform k d lt))

-- ---- columns along ways

-- The columns are those along these ways, and each is there.
record AreAlong (rows : List Row) (ws : List (List Step)) (cs : List Column) : Type 0 where
  are : columns_along ws rows ≡ cs
  found : AllByRecursion (λ way. is_some (column way rows) ≡ true) ws

along_ways : (rows : List Row) (ws : List (List Step)) (cs : List Column)
    → all_some (map (λ way. column way rows) ws) ≡ Some cs → AreAlong rows ws cs
along_ways rows [] cs e =
    let is : [] ≡ cs = cc in subst (AreAlong rows []) is (record { are = refl; found = tt })
along_ways rows (w ∷ ws) cs e =
    let others = all_some (map (λ (way : List Step). column way rows) ws) in
    let one = some_is (column w rows) (λ (c : Column). option_map (λ (ds : List Column). c ∷ ds) others) cs e in
    let rest = mapped_is (λ (ds : List Column). one.0 ∷ ds) others cs one.2 in
    let along = along_ways rows ws rest.0 rest.1 in
    let first : column_along w rows ≡ one.0 = ap column_or_none one.1 in
    let both : columns_along (w ∷ ws) rows ≡ one.0 ∷ rest.0 = λ i. first i ∷ along.are i in
    record { are = both ∙ rest.2; found = (ap is_some one.1, along.found) }

-- The columns of rows that conform, along the ways of their shape.
pub record HasColumns (shape : Shape) (rows : List Row) (ws : List (List Step)) : Type 0 where
  pub all : columns shape rows ≡ Some (columns_along ws rows)
  pub found : AllByRecursion (λ way. is_some (column way rows) ≡ true) ws

pub has_columns : (t : Tree) (shape : Shape) (rows : List Row) (ws : List (List Step)) → shape ≡ shape_of t
    → ws ≡ ways shape → All (Conforms t) rows → HasColumns shape rows ws
has_columns t shape rows ws is through conform =
    let found = columns_found shape rows (rows_fit t shape rows is conform) in
    let along = along_ways rows (ways shape) (map column_of (matrix shape rows)) found in
    subst (HasColumns shape rows) (sym through)
    (record { all = found ∙ ap (λ (cs : List Column). Some cs) (sym along.are); found = along.found })

-- ---- levels of leaves

-- each leaf of a table has the highest level of its way
pub leaves_at_ends : (cols : tree.Fields) (shape : Shape) (ls : List LeafIn) (ws : List (List Step))
    → is_sound (tree.struct cols) ≡ true → unsupported (tree.struct cols) ≡ None
    → shape ≡ shape_of (tree.struct cols) → ls ≡ leaves_in (tree.struct cols) shape → ws ≡ ways shape
    → levels_of ls ≡ map highest ws
leaves_at_ends cols shape ls ws sound supported is leaves through =
    let t = tree.struct cols in
    let own = own_tree cols supported in
    let levels : levels_of (leaves_in t (shape_of t)) ≡ map highest (ways (shape_of t)) =
    leaf_levels t (group own.0) (shape_of t) (own_tree_fits t (group own.0) sound own.1) in
    ap levels_of (leaves ∙ ap (leaves_in t) is)
    ∙ (levels ∙ ap (map highest) (ap ways (sym is) ∙ sym through))

-- ---- the group

-- The group's columns and leaves are those that the code has.
pub record IsGroupOf (t : Tree) (rows : List Row) (ls : List LeafIn) (cs : List Column) (place count : ℕ) : Type 0 where
  pub leaves : ls ≡ leaves_in t (shape_of t)
  pub found : columns (shape_of t) rows ≡ Some cs
  pub begins : place ≡ 4
  pub counted : count ≡ length rows

pub group_of : (t : Tree) (rows : List Row) (shape : Shape) (ls : List LeafIn) (cs : List Column) (place count : ℕ)
    → shape ≡ shape_of t → ls ≡ leaves_in t shape → columns shape rows ≡ Some cs → place ≡ 4 → count ≡ length rows
    → IsGroupOf t rows ls cs place count
group_of t rows shape ls cs place count is leaves found begins counted = record {
  leaves = leaves ∙ ap (leaves_in t) is;
  found = ap (λ (s : Shape). columns s rows) (sym is) ∙ found;
  begins = begins;
  counted = counted;
}

refused_where : (t : Tree) (rows : List Row) (ls : List LeafIn) (cs : List Column) (place count : ℕ) (fault : FileFault)
    → IsGroupOf t rows ls cs place count → chunks_from place count ls cs ≡ Err fault → group_written t rows ≡ Err fault
unfolding group_written
refused_where t rows ls cs place count fault g e =
    let told : chunks_from 4 (length rows) (leaves_in t (shape_of t)) cs ≡ Err fault =
    rw (← g.begins, ← g.counted, ← g.leaves) e in
    rw (g.found, told) refl

-- where a chunk isn't written, the group isn't
pub group_refused : (t : Tree) (rows : List Row) (ls : List LeafIn) (cs : List Column) (place count : ℕ)
    (error : FileError) → IsGroupOf t rows ls cs place count → IsSaid (says error) (chunks_from place count ls cs)
    → IsSaid (says error) (group_written t rows)
group_refused t rows ls cs place count error g said =
    said_too (says error) (chunks_from place count ls cs) (group_written t rows)
    (λ fault e. refused_where t rows ls cs place count fault g e) said

written_where : (t : Tree) (rows : List Row) (ls : List LeafIn) (cs : List Column) (place count : ℕ) (bytes : List ℕ)
    (chunks : List thrift.Tree) → IsGroupOf t rows ls cs place count → chunks_from place count ls cs ≡ Ok (bytes, chunks)
    → group_written t rows ≡ Ok (bytes, group_tree chunks (length bytes) (length rows))
unfolding group_written
written_where t rows ls cs place count bytes chunks g e =
    let told : chunks_from 4 (length rows) (leaves_in t (shape_of t)) cs ≡ Ok (bytes, chunks) =
    rw (← g.begins, ← g.counted, ← g.leaves) e in
    rw (g.found, told) refl

-- the group is written behind the magic bytes
pub group_put : (t : Tree) (rows : List Row) (ls : List LeafIn) (cs : List Column) (old new : List ℕ) (count size : ℕ)
    (chunks : List thrift.Tree) (said : thrift.Tree) → IsGroupOf t rows ls cs (length old) count
    → said ≡ group_tree chunks size count → size ≡ length new - 4
    → (bytes : List ℕ) × (chunks_from (length old) count ls cs ≡ Ok (bytes, chunks)) × (new ≡ old ++ bytes)
    → (bytes : List ℕ) × (group_written t rows ≡ Ok (bytes, said)) × (new ≡ old ++ bytes)
group_put t rows ls cs old new count size chunks said g is sized put =
    let bytes = put.0 in
    let place : length new ≡ length old + length bytes = ap length put.2 ∙ length-append old bytes in
    let many : size ≡ length bytes = omega (arith, place, sized, g.begins) in
    let whole : group_tree chunks (length bytes) (length rows) ≡ said = rw (is, many, g.counted) refl in (
      bytes,
      written_where t rows ls cs (length old) count bytes chunks g put.1 ∙ ap (λ (s : thrift.Tree). Ok (bytes, s)) whole,
      put.2,
    )
