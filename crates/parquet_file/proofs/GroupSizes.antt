-- How many values are in what is said of a row group.
use Rattle.std.proofs.Common.{◌≡◌, ℕ, ◌+◌, ◌*◌, ◌≤◌, List, [], ◌∷◌, ◌++◌, length, map, true, nat_lt, Ok, refl, ap, subst, arith}
use Rattle.std.specs.List.{AllByRecursion}
use Rattle.outcomes.specs.Results.{or_refusal}
use Rattle.thrift_core.specs.Tree as thrift
use Rattle.thrift_core.specs.Tree.{trees_of, nodes_of_trees, binary}
use Rattle.row_core.specs.Rows.{Row}
use Rattle.schema_tree.specs.Limits.{IsWithinLimits, levels}
use Rattle.schema_tree.specs.Tree.{Tree}
use Rattle.shred.specs.Columns as shredded
use Rattle.shred.specs.Columns.{columns}
use Rattle.shred.specs.Shape.{shape_of}
use Rattle.parquet_footer.proofs.Callers.{bind_ok, ok_is}
use Rattle.parquet_footer.specs.declared.fault.FileFault.{FileFault}
use Rattle.parquet_footer.specs.declared.fault.FileFault.TheVariants.{SchemaMismatch, TooLarge}
use Rattle.page_writing.specs.Writing.{chunk_written}
use Rattle.parquet_schema.specs.Leaves.{LeafIn, leaves_in}
use Rattle.parquet_file.specs.Writing.{chunk_from, chunk_tree, chunks_from, group_written, is_short_named}
use Rattle.parquet_file.proofs.GroupSteps.{allowed}
use Rattle.parquet_file.proofs.LeafPaths.{IsNear, each_weaker, leaves_few, leaves_near}

-- no more names than this are on the way to the leaf
abbrev AreFew : ℕ → LeafIn → Type 0
AreFew most l = length l.names ≤ most

few_names : (most : ℕ) (l : LeafIn) → IsNear most l → most ≤ 16 → length l.names ≤ 16
few_names most l near fits = omega (arith, near.few)

-- ---- what is said of chunks is small

names_counted : (names : List (List ℕ)) → nodes_of_trees (trees_of (map binary names)) ≡ length names
names_counted [] = refl
names_counted (name ∷ names) = omega (arith, names_counted names)

chunk_small : (l : LeafIn) (place size rows : ℕ) → length l.names ≤ 16
    → thrift.nodes (chunk_tree l place size rows) ≤ 64
chunk_small l place size rows few = omega (arith, names_counted l.names)

one_chunk_small : (place rows : ℕ) (l : LeafIn) (c : shredded.Column) (made : List ℕ × thrift.Tree)
    → length l.names ≤ 16 → chunk_from place rows l c ≡ Ok made → thrift.nodes made.1 ≤ 64
unfolding chunk_from
one_chunk_small place rows l c made few e =
    let chunk = bind_ok (chunk_written l.leaf_type (length l.nullable) c) _ made e in
    let fits = allowed (nat_lt 67108864 (place + length chunk.0)) TooLarge _ made chunk.2 in
    let is : (chunk.0, chunk_tree l place (length chunk.0) rows) ≡ made = cc in
    subst (λ m. thrift.nodes m.1 ≤ 64) is (chunk_small l place (length chunk.0) rows few)

chunks_small : (place rows : ℕ) (ls : List LeafIn) (cs : List shredded.Column)
    (made : List ℕ × List thrift.Tree) → AllByRecursion (AreFew 16) ls → chunks_from place rows ls cs ≡ Ok made
    → nodes_of_trees (trees_of made.1) ≤ 64 * length ls
unfolding chunks_from
chunks_small place rows [] cs made few e =
    let is : ([], []) ≡ made = cc in subst (λ m. nodes_of_trees (trees_of m.1) ≤ 0) is (omega arith)
chunks_small place rows (l ∷ ls) [] made few e =
    let is : ([], []) ≡ made = cc in
    subst (λ m. nodes_of_trees (trees_of m.1) ≤ 64 * length (l ∷ ls)) is (omega arith)
chunks_small place rows (l ∷ ls) (c ∷ cs) made few e =
    let first = bind_ok (chunk_from place rows l c) _ made e in
    let rest = bind_ok (chunks_from (place + length first.0.0) rows ls cs) _ made first.2 in
    let is : (first.0.0 ++ rest.0.0, first.0.1 ∷ rest.0.1) ≡ made = cc in
    let one = one_chunk_small place rows l c first.0 few.0 first.1 in
    let others = chunks_small (place + length first.0.0) rows ls cs rest.0 few.1 rest.1 in
    subst (λ m. nodes_of_trees (trees_of m.1) ≤ 64 * length (l ∷ ls)) is (omega (arith, one, others))

-- What is said of a group has at most so many values.
pub group_small : (t : Tree) (rows : List Row) (bytes : List ℕ) (said : thrift.Tree) → IsWithinLimits t
    → is_short_named t ≡ true → group_written t rows ≡ Ok (bytes, said) → thrift.nodes said ≤ 16388
unfolding group_written
group_small t rows bytes said limits named e =
    let made : List ℕ × thrift.Tree = (bytes, said) in
    let ls = leaves_in t (shape_of t) in
    let cs = bind_ok (or_refusal (columns (shape_of t) rows) SchemaMismatch) _ made e in
    let chunks = bind_ok (chunks_from 4 (length rows) ls cs.0) _ made cs.2 in
    let is = ap (λ (m : List ℕ × thrift.Tree). m.1) (ok_is {E = FileFault} _ made chunks.2) in
    let few : AllByRecursion (AreFew 16) ls =
    each_weaker (IsNear (levels t)) (AreFew 16) (λ l h. few_names (levels t) l h limits.levels_fit) ls
    (leaves_near t (shape_of t) named) in
    let small = chunks_small 4 (length rows) ls cs.0 chunks.0 few chunks.1 in
    let many : length ls ≤ 256 = omega (arith, leaves_few t (shape_of t), limits.leaves_fit) in
    subst (λ (x : thrift.Tree). thrift.nodes x ≤ 16388) is (omega (arith, small, many))
