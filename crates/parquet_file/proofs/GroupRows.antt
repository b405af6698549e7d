-- The rows of groups that are read are those that the groups' chunks hold.
use Rattle.std.proofs.Common.{◌≡◌, ℕ, ◌<◌, not, pos, length, All, true, false, List, [], ◌∷◌, ◌++◌, Some, Ok, refl, sym, subst, ◌∙◌, arith, eq-eqb, inl, inr}
use Rattle.std.specs.Bool.{Decides}
use Rattle.std.specs.List.{list_all}
use Rattle.std.specs.Ordering.{int_eq}
use Rattle.std.specs.Str.{bytes_eq}
use Rattle.std.proofs.lemmas.Bool.{and_from, and_parts, both_ways, eqb-true, false_from_ne_true, not-false}
use Rattle.std.proofs.lemmas.Bool.Decides.{Decides-int_eq}
use Rattle.std.proofs.lemmas.List.Elements.{All-append, All-head, All-nil, All-tail}
use Rattle.std.proofs.lemmas.Slice.Eq.{bytes_eq-Decides}
use Rattle.outcomes.specs.Results.{◌>>=◌, or_refusal, refused_as, refused_if}
use Rattle.outcomes.specs.Bytes.{IsBytes}
use Rattle.row_core.specs.Conforms.{Conforms}
use Rattle.row_core.specs.Rows.{Row}
use Rattle.schema_tree.specs.Limits.{is_sound}
use Rattle.schema_tree.specs.Tree.{Tree}
use Rattle.shred.specs.Columns.{Column}
use Rattle.shred.specs.Shape.{Shape}
use Rattle.row_assembly.specs.Assembly.{assembled}
use Rattle.row_assembly.proofs.Callers.{assembled_complete, assembled_sound}
use Rattle.parquet_footer.specs.Metadata.{ColumnChunk, RowGroup}
use Rattle.parquet_footer.specs.declared.fault.FileFault.{FileFault}
use Rattle.parquet_footer.specs.declared.fault.FileFault.TheVariants.{Codec, CountMismatch, SchemaMismatch}
use Rattle.parquet_footer.proofs.Callers.{bind_ok, chosen, ok_is}
use Rattle.parquet_pages.specs.Pages.{Suits}
use Rattle.parquet_pages.specs.Reading.{chunk_at}
use Rattle.parquet_pages.proofs.Callers as pages
use Rattle.parquet_schema.specs.FileTree.{FileNode}
use Rattle.parquet_schema.specs.Fitting.{fitted}
use Rattle.parquet_schema.specs.Leaves.{LeafIn, leaves_in}
use Rattle.parquet_file.specs.File.{AreGroups, HoldsColumn, IsChunkOf, IsGroup, leaf_of}
use Rattle.parquet_file.specs.Reading.{chunk_named, column_at, columns_at, has_rows, rows_of_group, rows_of_groups, same_path}
use Rattle.parquet_file.proofs.CellsSuit.{some_ways}
use Rattle.parquet_file.proofs.ColumnsSuit.{AreRows, HasTexts, columns_by_rows, columns_long, rows_by_columns}
use Rattle.parquet_file.proofs.FittedShapes.{leaves_for_ways, shape_has}
use Rattle.parquet_file.proofs.GroupSteps.{all_behind, all_first, allowed, each_again, each_found, given_ok, there, zip_both, zip_length}

-- ---- chunks

path_found : (path other : List (List ℕ)) → same_path path other ≡ true → path ≡ other
path_found [] [] e = refl
path_found [] (o ∷ os) e = absurd cc
path_found (n ∷ ns) [] e = absurd cc
path_found (n ∷ ns) (o ∷ os) e =
    let k = and_parts (bytes_eq n o) (same_path ns os) e in
    let first = (bytes_eq-Decides n o).0 k.0 in
    let rest = path_found ns os k.1 in
    λ i. first i ∷ rest i

path_itself : (path : List (List ℕ)) → same_path path path ≡ true
path_itself [] = refl
path_itself (n ∷ ns) = and_from _ _ ((bytes_eq-Decides n n).1 refl) (path_itself ns)

pub path_decides : (path other : List (List ℕ)) → Decides (same_path path other) (path ≡ other)
path_decides path other = (path_found path other, λ e. subst (λ p. same_path path p ≡ true) e (path_itself path))

pub chunk_found : (path : List (List ℕ)) (chunks : List ColumnChunk) (chunk : ColumnChunk) → chunk_named path chunks ≡ Some chunk
    → IsChunkOf path chunks chunk
chunk_found path [] chunk e = absurd cc
chunk_found path (first ∷ others) chunk e = elim (chosen (same_path first.path_in_schema path) (Some first)
    (chunk_named path others) (Some chunk) e) [
      | inl p ↦ inl ((path_decides first.path_in_schema path).0 p.0, same chunk first p.1)
      | inr p ↦ inr (
        (λ is. both_ways _ p.0 ((path_decides first.path_in_schema path).1 is)),
        chunk_found path others chunk p.1,
      )
    ]
  where
    same : (chunk first : ColumnChunk) → Some first ≡ Some chunk → chunk ≡ first
    same chunk first e = cc

pub chunk_again : (path : List (List ℕ)) (chunks : List ColumnChunk) (chunk : ColumnChunk) → IsChunkOf path chunks chunk
    → chunk_named path chunks ≡ Some chunk
chunk_again path [] chunk p = absurd p
chunk_again path (first ∷ others) chunk (inl p) = rw ((path_decides first.path_in_schema path).1 p.0, p.1) refl
chunk_again path (first ∷ others) chunk (inr p) =
    let other : same_path first.path_in_schema path ≡ false =
    false_from_ne_true _ (λ e. p.0 ((path_decides first.path_in_schema path).0 e)) in
    rw other (chunk_again path others chunk p.1)

-- ---- columns

record ColumnFound (given : List ℕ) (chunks : List ColumnChunk) (l : LeafIn) (c : Column) : Type 0 where
  holds : HoldsColumn given chunks l c
  suits : Suits (leaf_of l) c

column_found : (given : List ℕ) (chunks : List ColumnChunk) → IsBytes given → (l : LeafIn) (c : Column)
    → column_at given chunks l ≡ Ok c → ColumnFound given chunks l c
unfolding column_at
column_found given chunks h l c e =
    let reads = λ (chunk : ColumnChunk). chunk_at (leaf_of l) given chunk.data_page_offset chunk.num_values in
    let tests = λ (chunk : ColumnChunk). refused_if (not (int_eq chunk.codec (pos 0))) (Codec chunk.codec)
    >>= λ plain. reads chunk in
    let a = bind_ok (or_refusal (chunk_named l.names chunks) SchemaMismatch) tests c e in
    let chunk = a.0 in
    let b = allowed (not (int_eq chunk.codec (pos 0))) (Codec chunk.codec) (λ plain. reads chunk) c a.2 in
    let found = pages.chunk_found (leaf_of l) given chunk.data_page_offset chunk.num_values c h b.1 in
    record {
      holds = record {
        chunk = chunk;
        found = chunk_found l.names chunks chunk (there (chunk_named l.names chunks) SchemaMismatch chunk a.1);
        uncompressed = (Decides-int_eq chunk.codec (pos 0)).0 (not-false _ b.0);
        counted = found.2;
        pages = found.0;
      };
      suits = found.1;
    }

column_again : (given : List ℕ) (chunks : List ColumnChunk) (l : LeafIn) (c : Column) → HoldsColumn given chunks l c
    → Suits (leaf_of l) c → column_at given chunks l ≡ Ok c
unfolding column_at
column_again given chunks l c held suits =
    rw (chunk_again l.names chunks held.chunk held.found, held.uncompressed, held.counted)
    (pages.chunk_only (leaf_of l) given held.chunk.data_page_offset c held.pages suits)

-- ---- a group

pub record GroupFound (given : List ℕ) (t : Tree) (shape : Shape) (group : RowGroup) (rows : List Row) : Type 0 where
  pub stands : IsGroup given t shape group rows
  pub are : AreRows t rows

counted_rows : (n m : ℕ) (cs : List Column) → 0 < length cs → list_all (has_rows n) cs ≡ true
    → All (λ c. length c.levels ≡ m) cs → n ≡ m
counted_rows n m [] some counted long = absurd (omega (arith, some))
counted_rows n m (c ∷ cs) some counted long =
    let k = and_parts (has_rows n c) (list_all (has_rows n) cs) counted in
    sym (eqb-true (length c.levels) n k.0) ∙ All-head (λ c. length c.levels ≡ m) c cs long

rows_counted : (n m : ℕ) (cs : List Column) → n ≡ m → All (λ c. length c.levels ≡ m) cs
    → list_all (has_rows n) cs ≡ true
rows_counted n m [] same long = refl
rows_counted n m (c ∷ cs) same long =
    and_from _ _ (eq-eqb (length c.levels) n (All-head (λ c. length c.levels ≡ m) c cs long ∙ sym same))
    (rows_counted n m cs same (All-tail (λ c. length c.levels ≡ m) c cs long))

-- A group that is read holds the rows, which are rows of the table.
pub group_found : (given : List ℕ) (t : Tree) (node : FileNode) (shape : Shape) (group : RowGroup) (rows : List Row)
    → IsBytes given → is_sound t ≡ true → fitted t node ≡ Some shape → rows_of_group given t shape group ≡ Ok rows
    → GroupFound given t shape group rows
unfolding rows_of_group
group_found given t node shape group rows h sound fits e =
    let leaves = leaves_in t shape in
    let makes = λ (columns : List Column). refused_as (λ fault. SchemaMismatch) (assembled shape columns) in
    let tests = λ (columns : List Column). refused_if (not (list_all (has_rows group.num_rows) columns)) CountMismatch
    >>= λ counted. makes columns in
    let a = bind_ok (columns_at given group.columns leaves) tests rows e in
    let columns = a.0 in
    let b = allowed (not (list_all (has_rows group.num_rows) columns)) CountMismatch (λ counted. makes columns)
    rows a.2 in
    let are = assembled_sound shape columns rows
    (given_ok (λ fault. SchemaMismatch) (assembled shape columns) rows b.1) in
    let found = column_found given group.columns h in
    let held = each_found (column_at given group.columns) (HoldsColumn given group.columns)
    (λ l c read. (found l c read).holds) leaves columns a.1 in
    let suits = each_found (column_at given group.columns) (λ l c. Suits (leaf_of l) c)
    (λ l c read. (found l c read).suits) leaves columns a.1 in
    let many = zip_length (λ l c. Suits (leaf_of l) c) leaves columns suits in
    let some = some_ways shape (shape_has t node shape sound fits) in
    record {
      stands = record {
        columns = columns;
        held = held;
        are = are;
        counted = counted_rows group.num_rows (length rows) columns
            (omega (arith, some, many, leaves_for_ways t node shape fits)) (not-false _ b.0)
            (columns_long shape rows columns are);
      };
      are = rows_by_columns t node shape rows columns sound fits are suits;
    }

-- Rows of the table that a group holds are read.
pub group_again : (given : List ℕ) (t : Tree) (node : FileNode) (shape : Shape) (group : RowGroup) (rows : List Row)
    → is_sound t ≡ true → fitted t node ≡ Some shape → IsGroup given t shape group rows → AreRows t rows
    → rows_of_group given t shape group ≡ Ok rows
unfolding rows_of_group
group_again given t node shape group rows sound fits g are =
    let leaves = leaves_in t shape in
    let suits = columns_by_rows t node shape rows g.columns sound fits g.are are in
    let reads = zip_both (HoldsColumn given group.columns) (λ l c. Suits (leaf_of l) c)
    (λ l c. column_at given group.columns l ≡ Ok c) (column_again given group.columns) leaves g.columns g.held suits in
    let read : columns_at given group.columns leaves ≡ Ok g.columns =
    each_again (column_at given group.columns) leaves g.columns reads in
    let counted : list_all (has_rows group.num_rows) g.columns ≡ true =
    rows_counted group.num_rows (length rows) g.columns g.counted (columns_long shape rows g.columns g.are) in
    rw (read, counted, assembled_complete shape rows g.columns (shape_has t node shape sound fits) g.are) refl

-- ---- groups

rows_none : (t : Tree) → AreRows t []
rows_none t = record { conform = All-nil (Conforms t); texts = All-nil HasTexts }

pub record GroupsFound (given : List ℕ) (t : Tree) (shape : Shape) (groups : List RowGroup)
    (rows : List Row) : Type 0 where
  pub stand : AreGroups given t shape groups rows
  pub are : AreRows t rows

pub groups_found : (given : List ℕ) (t : Tree) (node : FileNode) (shape : Shape) (groups : List RowGroup) (rows : List Row)
    → IsBytes given → is_sound t ≡ true → fitted t node ≡ Some shape
    → rows_of_groups given t shape groups ≡ Ok rows → GroupsFound given t shape groups rows
unfolding rows_of_groups
groups_found given t node shape [] rows h sound fits e =
    let none : [] ≡ rows = ok_is {E = FileFault} [] rows e in
    record { stand = sym none; are = subst (AreRows t) none (rows_none t) }
groups_found given t node shape (group ∷ groups) rows h sound fits e =
    let a = bind_ok (rows_of_group given t shape group)
    (λ first. rows_of_groups given t shape groups >>= λ others. Ok (first ++ others)) rows e in
    let one = group_found given t node shape group a.0 h sound fits a.1 in
    let b = bind_ok (rows_of_groups given t shape groups) (λ others. Ok (a.0 ++ others)) rows a.2 in
    let more = groups_found given t node shape groups b.0 h sound fits b.1 in
    let whole : a.0 ++ b.0 ≡ rows = ok_is {E = FileFault} (a.0 ++ b.0) rows b.2 in
    record {
      stand = (a.0, b.0, one.stands, more.stand, sym whole);
      are = subst (AreRows t) whole (record {
        conform = All-append (Conforms t) a.0 b.0 one.are.conform more.are.conform;
        texts = All-append HasTexts a.0 b.0 one.are.texts more.are.texts;
      });
    }

pub groups_again : (given : List ℕ) (t : Tree) (node : FileNode) (shape : Shape) (groups : List RowGroup) (rows : List Row)
    → is_sound t ≡ true → fitted t node ≡ Some shape → AreGroups given t shape groups rows → AreRows t rows
    → rows_of_groups given t shape groups ≡ Ok rows
unfolding rows_of_groups
groups_again given t node shape [] rows sound fits p are = rw p refl
groups_again given t node shape (group ∷ groups) rows sound fits (first, others, one, more, whole) are =
    let both = subst (AreRows t) whole are in
    let firsts : AreRows t first = record {
      conform = all_first (Conforms t) first others both.conform;
      texts = all_first HasTexts first others both.texts;
    } in
    let rest : AreRows t others = record {
      conform = all_behind (Conforms t) first others both.conform;
      texts = all_behind HasTexts first others both.texts;
    } in
    rw (
      group_again given t node shape group first sound fits one firsts,
      groups_again given t node shape groups others sound fits more rest,
      whole,
    ) refl
