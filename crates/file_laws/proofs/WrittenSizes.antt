-- What is written says its sizes.
use Rattle.std.proofs.Common.{◌≡◌, ℕ, suc, ◌+◌, nat_lt, not, cond, List, [], ◌∷◌, ◌++◌, length, map, Option, None, Some, option_map, Ok, Err, refl, sym, ap, subst, ◌∙◌, arith}
use Rattle.std.specs.Prelude.{All}
use Rattle.std.proofs.lemmas.List.{length-map}
use Rattle.std.proofs.lemmas.List.Elements.{All-cons, All-head, All-nil, All-tail}
use Rattle.outcomes.specs.Results.{◌>>=◌, or_refusal, refused_if}
use Rattle.thrift_core.specs.Tree as thrift
use Rattle.row_core.specs.Rows.{Row}
use Rattle.row_core.specs.Unsupported.{unsupported}
use Rattle.schema_tree.specs.Limits.{IsWithinLimits}
use Rattle.schema_tree.specs.Tree as tree
use Rattle.schema_tree.specs.Tree.{Tree}
use Rattle.row_assembly.specs.Columns.{Cell, Column, all_some, cell, column, column_of, columns}
use Rattle.row_assembly.specs.Shape.{shape_of}
use Rattle.row_assembly.specs.Ways.{Step, ways}
use Rattle.parquet_footer.specs.Frame.{framed}
use Rattle.parquet_footer.specs.declared.fault.FileFault.{FileFault}
use Rattle.parquet_footer.specs.declared.fault.FileFault.TheVariants.{SchemaMismatch, TooLarge}
use Rattle.parquet_footer.proofs.Callers.{bind_ok, ok_is, passed}
use Rattle.page_writing.specs.Writing.{chunk_written}
use Rattle.parquet_schema.specs.FileTree.{group}
use Rattle.parquet_schema.specs.Leaves.{LeafIn, leaves_in}
use Rattle.parquet_schema.proofs.Callers.{own_tree_fits}
use Rattle.parquet_file.specs.Writing.{chunk_from, chunk_tree, chunks_from, column_tree, footer_bytes, footer_tree, group_tree, group_written, groups_written, is_short_named, written_file}
use Rattle.parquet_file.proofs.FittedShapes.{leaves_for_ways}
use Rattle.parquet_file.proofs.WrittenFooter.{own_tree}
use Rattle.file_laws.specs.Sizes.{SayChunks, SayGroups, SaysChunk, SaysGroup, SaysItsSizes, chunk, no_chunk}
use Rattle.file_laws.proofs.Steps.{some_step, there}

-- ---- columns

-- a list in front of which a value stands
in_front : {A : Type 0} (x : A) (o : Option (List A)) (ys : List A) → option_map (λ zs. x ∷ zs) o ≡ Some ys → (zs : List A) × (o ≡ Some zs) × (x ∷ zs ≡ ys)
in_front x None ys e = absurd cc
in_front x (Some zs) ys e = (zs, refl, cc)

some_length : {A : Type 0} (xs : List (Option A)) (ys : List A) → all_some xs ≡ Some ys → length ys ≡ length xs
some_length [] ys e = let is : [] ≡ ys = cc in ap length (sym is)
some_length (None ∷ xs) ys e = absurd cc
some_length (Some x ∷ xs) ys e =
    let front = in_front x (all_some xs) ys e in
    ap length (sym front.2) ∙ ap suc (some_length xs front.0 front.1)

mapped : {A B : Type 0} (f : A → B) (o : Option A) (y : B) → option_map f o ≡ Some y → (x : A) × (o ≡ Some x) × (f x ≡ y)
mapped f None y e = absurd cc
mapped f (Some x) y e = (x, refl, cc)

-- a column has a level for each row
levels_long : (way : List Step) (rows : List Row) (c : Column) → column way rows ≡ Some c → length c.levels ≡ length rows
levels_long way rows c e =
    let a = mapped column_of (all_some (map (cell way) rows)) c e in
    ap (λ (d : Column). length d.levels) (sym a.2) ∙ length-map a.0 (λ (d : Cell). d.level) ∙ some_length (map (cell way) rows) a.0 a.1 ∙ length-map rows (cell way)

levels_each : (ws : List (List Step)) (rows : List Row) (cs : List Column) → all_some (map (λ way. column way rows) ws) ≡ Some cs → All (λ c. length c.levels ≡ length rows) cs
levels_each [] rows cs e = let is : [] ≡ cs = cc in subst (All (λ c. length c.levels ≡ length rows)) is (All-nil (λ c. length c.levels ≡ length rows))
levels_each (way ∷ ws) rows cs e =
    let others = all_some (map (λ way. column way rows) ws) in
    let first = some_step (column way rows) (λ c. option_map (λ ds. c ∷ ds) others) cs e in
    let front = in_front first.0 others cs first.2 in
    subst (All (λ c. length c.levels ≡ length rows)) front.2
    (All-cons (λ c. length c.levels ≡ length rows) first.0 front.0 (levels_long way rows first.0 first.1) (levels_each ws rows front.0 front.1))

-- so many columns, each with a level for each row
columns_long : (ws : List (List Step)) (rows : List Row) (cs : List Column) → all_some (map (λ way. column way rows) ws) ≡ Some cs
    → (length cs ≡ length ws) × All (λ c. length c.levels ≡ length rows) cs
columns_long ws rows cs e = (some_length (map (λ way. column way rows) ws) cs e ∙ length-map ws (λ way. column way rows), levels_each ws rows cs e)

-- ---- chunks

chunk_says : (l : LeafIn) (place size values : ℕ) → SaysChunk (chunk_tree l place size values) place size values
chunk_says l place size values = record {
  meta_data = column_tree l place size values;
  inside = refl;
  file_offset = refl;
  num_values = refl;
  total_uncompressed_size = refl;
  total_compressed_size = refl;
  data_page_offset = refl;
}

-- what was written for one leaf
record IsWritten (place rows : ℕ) (l : LeafIn) (c : Column) (made : List ℕ × thrift.Tree) : Type 0 where
  written : chunk_written l.leaf_type (length l.nullable) c ≡ Ok made.0
  says : SaysChunk made.1 place (length made.0) rows

is_written : (place rows : ℕ) (l : LeafIn) (c : Column) (made : List ℕ × thrift.Tree) → chunk_from place rows l c ≡ Ok made → IsWritten place rows l c made
unfolding chunk_from
is_written place rows l c made e =
    let gives : List ℕ → List ℕ × thrift.Tree = λ bytes. (bytes, chunk_tree l place (length bytes) rows) in
    let a = bind_ok (chunk_written l.leaf_type (length l.nullable) c) (λ bytes. refused_if (nat_lt 67108864 (place + length bytes)) TooLarge >>= λ fits. Ok (gives bytes)) made e in
    let b = bind_ok (refused_if (nat_lt 67108864 (place + length a.0)) TooLarge) (λ fits. Ok (gives a.0)) made a.2 in
    subst (IsWritten place rows l c) {x = gives a.0} (ok_is {E = FileFault} (gives a.0) made b.2)
    (record { written = a.1; says = chunk_says l place (length a.0) rows })

chunks_say : (place rows : ℕ) (ls : List LeafIn) (cs : List Column) (made : List ℕ × List thrift.Tree) → length cs ≡ length ls
    → All (λ c. length c.levels ≡ rows) cs → chunks_from place rows ls cs ≡ Ok made → SayChunks rows place ls cs made.0 made.1
unfolding chunks_from
chunks_say place rows [] [] made even long e =
    subst (λ (m : List ℕ × List thrift.Tree). SayChunks rows place [] [] m.0 m.1) {x = ([], [])} (ok_is {E = FileFault} ([], []) made e) (no_chunk place)
chunks_say place rows [] (c ∷ cs) made even long e = absurd (omega (arith, even))
chunks_say place rows (l ∷ ls) [] made even long e = absurd (omega (arith, even))
chunks_say place rows (l ∷ ls) (c ∷ cs) made even long e =
    let joins : List ℕ × thrift.Tree → List ℕ × List thrift.Tree → List ℕ × List thrift.Tree = λ first others. (first.0 ++ others.0, first.1 ∷ others.1) in
    let a = bind_ok (chunk_from place rows l c) (λ first. chunks_from (place + length first.0) rows ls cs >>= λ others. Ok (joins first others)) made e in
    let b = bind_ok (chunks_from (place + length a.0.0) rows ls cs) (λ others. Ok (joins a.0 others)) made a.2 in
    let one = is_written place rows l c a.0 a.1 in
    let more = chunks_say (place + length a.0.0) rows ls cs b.0 (omega (arith, even)) (All-tail (λ c. length c.levels ≡ rows) c cs long) b.1 in
    subst (λ (m : List ℕ × List thrift.Tree). SayChunks rows place (l ∷ ls) (c ∷ cs) m.0 m.1) {x = joins a.0 b.0} (ok_is {E = FileFault} (joins a.0 b.0) made b.2)
    (chunk place l ls c cs a.0.0 b.0.0 a.0.1 b.0.1 one.written (All-head (λ c. length c.levels ≡ rows) c cs long) one.says more)

-- ---- the group

-- as many leaves as ways
leaves_even : (cols : tree.Fields) → IsWithinLimits (tree.struct cols) → unsupported (tree.struct cols) ≡ None
    → length (leaves_in (tree.struct cols) (shape_of (tree.struct cols))) ≡ length (ways (shape_of (tree.struct cols)))
leaves_even cols limits supported =
    let t = tree.struct cols in
    let own = own_tree cols supported in
    leaves_for_ways t (group own.0) (shape_of t) (own_tree_fits t (group own.0) limits.sound own.1)

group_says : (cols : tree.Fields) (rows : List Row) (made : List ℕ × thrift.Tree) → IsWithinLimits (tree.struct cols) → unsupported (tree.struct cols) ≡ None
    → group_written (tree.struct cols) rows ≡ Ok made → SaysGroup (tree.struct cols) rows made.0 made.1
unfolding group_written
group_says cols rows made limits supported e =
    let t = tree.struct cols in
    let gives : List ℕ × List thrift.Tree → List ℕ × thrift.Tree = λ chunks. (chunks.0, group_tree chunks.1 (length chunks.0) (length rows)) in
    let a = bind_ok (or_refusal (columns (shape_of t) rows) SchemaMismatch) (λ cs. chunks_from 4 (length rows) (leaves_in t (shape_of t)) cs >>= λ chunks. Ok (gives chunks)) made e in
    let b = bind_ok (chunks_from 4 (length rows) (leaves_in t (shape_of t)) a.0) (λ chunks. Ok (gives chunks)) made a.2 in
    let are = there (columns (shape_of t) rows) SchemaMismatch a.0 a.1 in
    let long = columns_long (ways (shape_of t)) rows a.0 are in
    subst (λ (m : List ℕ × thrift.Tree). SaysGroup t rows m.0 m.1) {x = gives b.0} (ok_is {E = FileFault} (gives b.0) made b.2)
    (record {
      shredded = a.0;
      are = are;
      chunks = b.0.1;
      inside = refl;
      each = chunks_say 4 (length rows) (leaves_in t (shape_of t)) a.0 b.0 (long.0 ∙ sym (leaves_even cols limits supported)) long.1 b.1;
      total_byte_size = refl;
      num_rows = refl;
    })

groups_say : (cols : tree.Fields) (rows : List Row) (made : List ℕ × List thrift.Tree) → IsWithinLimits (tree.struct cols) → unsupported (tree.struct cols) ≡ None
    → groups_written (tree.struct cols) rows ≡ Ok made → SayGroups (tree.struct cols) rows made.0 made.1
groups_say cols [] made limits supported e =
    subst (λ (m : List ℕ × List thrift.Tree). SayGroups (tree.struct cols) [] m.0 m.1) {x = ([], [])} (ok_is {E = FileFault} ([], []) made e) (refl, refl)
groups_say cols (row ∷ rows) made limits supported e =
    let gives : List ℕ × thrift.Tree → List ℕ × List thrift.Tree = λ group. (group.0, group.1 ∷ []) in
    let a = bind_ok (group_written (tree.struct cols) (row ∷ rows)) (λ group. Ok (gives group)) made e in
    subst (λ (m : List ℕ × List thrift.Tree). SayGroups (tree.struct cols) (row ∷ rows) m.0 m.1) {x = gives a.0} (ok_is {E = FileFault} (gives a.0) made a.2)
    (a.0.1, refl, group_says cols (row ∷ rows) a.0 limits supported a.1)

-- ---- the file

pub sizes_said : (cols : tree.Fields) (rows : List Row) (bytes : List ℕ) → IsWithinLimits (tree.struct cols) → unsupported (tree.struct cols) ≡ None
    → written_file (tree.struct cols) rows ≡ Ok bytes → SaysItsSizes (tree.struct cols) rows bytes
unfolding written_file
sizes_said cols rows bytes limits supported e =
    let t = tree.struct cols in
    let file = λ (groups : List ℕ × List thrift.Tree). framed groups.0 (footer_bytes t groups.1 (length rows)) in
    let last = λ (groups : List ℕ × List thrift.Tree). cond (nat_lt 67108864 (length (file groups))) (Err TooLarge) (Ok (file groups)) in
    let a = bind_ok (refused_if (nat_lt 4194304 (length rows)) TooLarge) (λ few. refused_if (not (is_short_named t)) TooLarge >>= λ named. groups_written t rows >>= last) bytes e in
    let b = bind_ok (refused_if (not (is_short_named t)) TooLarge) (λ named. groups_written t rows >>= last) bytes a.2 in
    let k = bind_ok (groups_written t rows) last bytes b.2 in
    let m = passed (nat_lt 67108864 (length (file k.0))) TooLarge (Ok (file k.0)) bytes k.2 in
    record {
      pages = k.0.0;
      footer = footer_tree t k.0.1 (length rows);
      frame = sym (ok_is {E = FileFault} (file k.0) bytes m.1);
      num_rows = refl;
      groups = k.0.1;
      inside = refl;
      each = groups_say cols rows k.0 limits supported k.1;
    }
