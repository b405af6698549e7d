-- The rows of one group after another: how many there are, and what is read of each.
use Rattle.std.proofs.Common.{◌≡◌, ℕ, zero, suc, pos, ◌+◌, ◌<◌, Bool, true, false, not, cond, eqb, List, [], ◌∷◌, ◌++◌, length, map, drop, Option, Some, None, Result, Ok, Err, refl, sym, ap, ◌∙◌, arith, length-append}
use Rattle.std.specs.List.{list_all}
use Rattle.std.specs.Ordering.{int_eq}
use Rattle.std.proofs.lemmas.Bool.{eqb-true, and_parts}
use Rattle.outcomes.specs.Outcome.{Said, IsSaid}
use Rattle.outcomes.specs.Results.{◌>>=◌, or_refusal, refused_as, refused_if}
use Rattle.outcomes.specs.Bytes.{IsBytes}
use Rattle.outcomes.proofs.Callers.{said_too, with_front}
use Rattle.row_core.specs.Rows.{Row}
use Rattle.schema_tree.specs.Tree.{Tree}
use Rattle.shred.specs.Columns.{Cell, Column}
use Rattle.shred.specs.Shape.{Shape}
use Rattle.shred.specs.Ways.{ways, highest}
use Rattle.row_assembly.specs.Assembly.{assembled, cells_of_columns, heads, row_count, row_made, rows_made}
use Rattle.parquet_footer.specs.Metadata.{ColumnChunk, RowGroup, FileMetaData}
use Rattle.parquet_footer.specs.declared.fault.FileFault.{FileFault}
use Rattle.parquet_footer.specs.declared.fault.FileFault.TheVariants.{Codec, CountMismatch, SchemaMismatch}
use Rattle.parquet_footer.proofs.Callers.{bind_ok, ok_is}
use Rattle.parquet_pages.specs.Reading.{chunk_at}
use Rattle.parquet_pages.proofs.Callers.{chunk_found}
use Rattle.parquet_schema.specs.Fitting.{fitted_list}
use Rattle.parquet_schema.specs.Leaves.{LeafIn, leaves_in}
use Rattle.parquet_file.specs.File.{leaf_of}
use Rattle.parquet_file.specs.Internal.{are_counted, is_counted}
use Rattle.parquet_file.specs.Reading.{chunk_named, claimed_rows, column_at, columns_at, has_rows, footer_rows, rows_of_group, rows_of_groups}

-- ---- columns that count a group's rows

there : {A E : Type 0} (o : Option A) (fault : E) (x : A) → or_refusal o fault ≡ Ok x → o ≡ Some x
there None fault x e = absurd cc
there (Some y) fault x e = cc

column_counted : (given : List ℕ) (group : RowGroup) (l : LeafIn) (c : Column) → IsBytes given → column_at given group.columns l ≡ Ok c → has_rows group.num_rows c ≡ is_counted group l
unfolding column_at
column_counted given group l c fits e =
    let named = chunk_named l.names group.columns in
    let rest = λ (chunk : ColumnChunk). chunk_at (leaf_of l) given chunk.data_page_offset chunk.num_values in
    let b = bind_ok (or_refusal named SchemaMismatch) (λ chunk. refused_if (not (int_eq chunk.codec (pos 0))) (Codec chunk.codec) >>= λ plain. rest chunk) c e in
    let k = bind_ok (refused_if (not (int_eq b.0.codec (pos 0))) (Codec b.0.codec)) (λ plain. rest b.0) c b.2 in
    let f = chunk_found (leaf_of l) given b.0.data_page_offset b.0.num_values c fits k.2 in
    let many : b.0.num_values ≡ length c.levels = f.2 in
    rw (there named SchemaMismatch b.0 b.1, many) refl

pub columns_counted : (given : List ℕ) (group : RowGroup) (ls : List LeafIn) (cs : List Column) → IsBytes given → columns_at given group.columns ls ≡ Ok cs → list_all (has_rows group.num_rows) cs ≡ are_counted group ls
columns_counted given group [] cs fits e =
    let none : [] ≡ cs = ok_is [] cs e in
    rw (sym none) refl
columns_counted given group (l ∷ ls) cs fits e =
    let b = bind_ok (column_at given group.columns l) (λ y. columns_at given group.columns ls >>= λ ys. Ok (y ∷ ys)) cs e in
    let k = bind_ok (columns_at given group.columns ls) (λ ys. Ok (b.0 ∷ ys)) cs b.2 in
    let whole : b.0 ∷ k.0 ≡ cs = ok_is (b.0 ∷ k.0) cs k.2 in
    rw (sym whole, column_counted given group l b.0 fits b.1, columns_counted given group ls k.0 fits k.1) refl

-- ---- the rows of a group

pub group_refused : (said : Said FileFault) (given : List ℕ) (t : Tree) (shape : Shape) (group : RowGroup) (ls : List LeafIn) → ls ≡ leaves_in t shape
    → IsSaid said (columns_at given group.columns ls) → IsSaid said (rows_of_group given t shape group)
unfolding rows_of_group
group_refused said given t shape group ls are h = said_too said (columns_at given group.columns ls) (rows_of_group given t shape group) (λ e refused. rw (sym are, refused) refl) h

pub group_uncounted : (given : List ℕ) (t : Tree) (shape : Shape) (group : RowGroup) (ls : List LeafIn) (cs : List Column) → IsBytes given → ls ≡ leaves_in t shape
    → columns_at given group.columns ls ≡ Ok cs → are_counted group ls ≡ false → rows_of_group given t shape group ≡ Err CountMismatch
unfolding rows_of_group
group_uncounted given t shape group ls cs fits are e few = rw (sym are, e, columns_counted given group ls cs fits e, few) refl

pub group_counted : (given : List ℕ) (t : Tree) (shape : Shape) (group : RowGroup) (ls : List LeafIn) (cs : List Column) → IsBytes given → ls ≡ leaves_in t shape
    → columns_at given group.columns ls ≡ Ok cs → are_counted group ls ≡ true → rows_of_group given t shape group ≡ refused_as (λ fault. SchemaMismatch) (assembled shape cs)
unfolding rows_of_group
group_counted given t shape group ls cs fits are e all = rw (sym are, e, columns_counted given group ls cs fits e, all) refl

-- ---- several groups

pub groups_first : (given : List ℕ) (t : Tree) (shape : Shape) (gs rest : List RowGroup) (g : RowGroup) (first : List Row) → gs ≡ g ∷ rest
    → rows_of_group given t shape g ≡ Ok first → rows_of_groups given t shape gs ≡ with_front first (rows_of_groups given t shape rest)
unfolding rows_of_groups
groups_first given t shape gs rest g first here e = rw (here, e) refl

pub groups_fail : (given : List ℕ) (t : Tree) (shape : Shape) (gs rest : List RowGroup) (g : RowGroup) (fault : FileFault) → gs ≡ g ∷ rest
    → rows_of_group given t shape g ≡ Err fault → rows_of_groups given t shape gs ≡ Err fault
unfolding rows_of_groups
groups_fail given t shape gs rest g fault here e = rw (here, e) refl

pub groups_none : (given : List ℕ) (t : Tree) (shape : Shape) (gs : List RowGroup) → gs ≡ [] → rows_of_groups given t shape gs ≡ Ok []
unfolding rows_of_groups
groups_none given t shape gs none = rw none refl

-- ---- how many rows there are

made_many : (shape : Shape) (n : ℕ) (columns : List (List Cell)) (rows : List Row) → rows_made shape n columns ≡ Ok rows → length rows ≡ n
made_many shape zero columns rows e =
    let none : [] ≡ rows = ok_is [] rows e in
    ap length (sym none)
made_many shape (suc n) columns rows e =
    let left = map (drop 1) columns in
    let b = bind_ok (row_made shape (heads columns)) (λ row. rows_made shape n left >>= λ others. Ok (row ∷ others)) rows e in
    let k = bind_ok (rows_made shape n left) (λ others. Ok (b.0 ∷ others)) rows b.2 in
    let whole : b.0 ∷ k.0 ≡ rows = ok_is (b.0 ∷ k.0) rows k.2 in
    ap length (sym whole) ∙ ap suc (made_many shape n left k.0 k.1)

pub assembled_many : (shape : Shape) (cs : List Column) (rows : List Row) → assembled shape cs ≡ Ok rows → length rows ≡ row_count cs
unfolding assembled
assembled_many shape cs rows e =
    let b = bind_ok (cells_of_columns (row_count cs) (map highest (ways shape)) cs) (λ cells. rows_made shape (row_count cs) cells) rows e in
    made_many shape (row_count cs) b.0 rows b.2

-- columns that all have so many rows, where there is one
first_counts : (given : List ℕ) (group : RowGroup) (ls : List LeafIn) (cs : List Column) → 0 < length ls → columns_at given group.columns ls ≡ Ok cs
    → list_all (has_rows group.num_rows) cs ≡ true → row_count cs ≡ group.num_rows
first_counts given group [] cs some e all = absurd (omega (arith, some))
first_counts given group (l ∷ ls) [] some e all =
    let b = bind_ok (column_at given group.columns l) (λ y. columns_at given group.columns ls >>= λ ys. Ok (y ∷ ys)) [] e in
    let k = bind_ok (columns_at given group.columns ls) (λ ys. Ok (b.0 ∷ ys)) [] b.2 in
    absurd (never b.0 k.0 k.2)
  where
    never : (c : Column) (cs : List Column) → refused_as {E = FileFault} (λ f. f) (Ok (c ∷ cs)) ≡ Ok [] → ⊥
    never c cs e = absurd cc
first_counts given group (l ∷ ls) (c ∷ cs) some e all = eqb-true (length c.levels) group.num_rows (and_parts (has_rows group.num_rows c) (list_all (has_rows group.num_rows) cs) all).0

assembled_ok : (fault : FileFault) (shape : Shape) (cs : List Column) (rows : List Row) → refused_as (λ f. fault) (assembled shape cs) ≡ Ok rows → assembled shape cs ≡ Ok rows
assembled_ok fault shape cs rows e = kept (assembled shape cs) e
  where
    kept : {E : Type 0} (read : Result (List Row) E) → refused_as (λ f. fault) read ≡ Ok rows → read ≡ Ok rows
    kept (Ok given) e = cc
    kept (Err f) e = absurd cc

pub group_many : (given : List ℕ) (t : Tree) (shape : Shape) (group : RowGroup) (rows : List Row) → 0 < length (leaves_in t shape) → rows_of_group given t shape group ≡ Ok rows → length rows ≡ group.num_rows
unfolding rows_of_group
group_many given t shape group rows some e =
    let rest = λ (cs : List Column). refused_as (λ fault. SchemaMismatch) (assembled shape cs) in
    let b = bind_ok (columns_at given group.columns (leaves_in t shape)) (λ cs. refused_if (not (list_all (has_rows group.num_rows) cs)) CountMismatch >>= λ counted. rest cs) rows e in
    let k = bind_ok (refused_if (not (list_all (has_rows group.num_rows) b.0)) CountMismatch) (λ counted. rest b.0) rows b.2 in
    let all = counted (list_all (has_rows group.num_rows) b.0) k.1 in
    assembled_many shape b.0 rows (assembled_ok SchemaMismatch shape b.0 rows k.2) ∙ first_counts given group (leaves_in t shape) b.0 some b.1 all
  where
    counted : {x : Unit {0}} (b : Bool) → refused_if (not b) CountMismatch ≡ Ok x → b ≡ true
    counted true e = refl
    counted false e = absurd cc

pub groups_many : (given : List ℕ) (t : Tree) (shape : Shape) (groups : List RowGroup) (rows : List Row) → 0 < length (leaves_in t shape) → rows_of_groups given t shape groups ≡ Ok rows → length rows ≡ claimed_rows groups
unfolding rows_of_groups
groups_many given t shape [] rows some e =
    let none : [] ≡ rows = ok_is [] rows e in
    ap length (sym none)
groups_many given t shape (g ∷ groups) rows some e =
    let b = bind_ok (rows_of_group given t shape g) (λ first. rows_of_groups given t shape groups >>= λ others. Ok (first ++ others)) rows e in
    let k = bind_ok (rows_of_groups given t shape groups) (λ others. Ok (b.0 ++ others)) rows b.2 in
    let whole : b.0 ++ k.0 ≡ rows = ok_is (b.0 ++ k.0) rows k.2 in
    let first = group_many given t shape g b.0 some b.1 in
    let more = groups_many given t shape groups k.0 some k.1 in
    let many : length rows ≡ length b.0 + length k.0 = ap length (sym whole) ∙ length-append b.0 k.0 in
    omega (arith, many, first, more)

-- ---- the rows of a file

-- where the groups' rows are read, only what they claim together is left to be looked at
pub rows_by_claims : (given : List ℕ) (t : Tree) (metadata : FileMetaData) (shape : Shape) (rows : List Row) → fitted_list t metadata.schema ≡ Some shape → 0 < length (leaves_in t shape)
    → rows_of_groups given t shape metadata.row_groups ≡ Ok rows → footer_rows given t metadata ≡ cond (eqb (claimed_rows metadata.row_groups) metadata.num_rows) (Ok rows) (Err CountMismatch)
unfolding footer_rows
rows_by_claims given t metadata shape rows fit some read = rw (fit, read, groups_many given t shape metadata.row_groups rows some read) refl

-- where the groups' rows aren't read, nor are the file's
pub rows_fail : (given : List ℕ) (t : Tree) (metadata : FileMetaData) (shape : Shape) (fault : FileFault) → fitted_list t metadata.schema ≡ Some shape
    → rows_of_groups given t shape metadata.row_groups ≡ Err fault → footer_rows given t metadata ≡ Err fault
unfolding footer_rows
rows_fail given t metadata shape fault fit e = rw (fit, e) refl
