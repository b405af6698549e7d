-- What is written for rows is a file of them.
use Rattle.std.proofs.Common.{◌≡◌, ℕ, ◌<◌, ◌≤◌, ◌^◌, List, [], ◌∷◌, ◌++◌, length, All, Bool, true, false, not, nat_lt, None, Result, Ok, Err, IfOk, Vec, Global, refl, sym, subst, arith, w32}
use Rattle.std.specs.Int.{to_le_bytes}
use Rattle.std.proofs.lemmas.Bool.{ltb-false}
use Rattle.std.proofs.lemmas.List.{append-nil, length-append}
use Rattle.thrift_core.specs.Fields.{each}
use Rattle.thrift_core.specs.Tree as thrift
use Rattle.thrift_core.specs.Tree.{nodes_of_trees, trees_of}
use Rattle.thrift_core.specs.Writing.{MembersHaveForm}
use Rattle.thrift_core.proofs.Callers.{Conditions, conditions}
use Rattle.row_core.specs.Conforms.{Conforms}
use Rattle.row_core.specs.Rows.{Row}
use Rattle.row_core.specs.Unsupported.{unsupported}
use Rattle.schema_tree.specs.Limits.{IsWithinLimits}
use Rattle.schema_tree.specs.Tree as tree
use Rattle.schema_tree.specs.Tree.{Tree}
use Rattle.shred.specs.Shape.{shape_of}
use Rattle.parquet_footer.specs.Frame.{framed, magic}
use Rattle.parquet_footer.specs.Metadata.{RowGroup, group_of}
use Rattle.parquet_footer.specs.Outcome.{FileGives}
use Rattle.parquet_footer.specs.declared.fault.FileError.{FileError}
use Rattle.parquet_footer.specs.declared.fault.FileFault.{FileFault}
use Rattle.parquet_footer.specs.declared.fault.FileFault.TheVariants.{TooLarge}
use Rattle.parquet_footer.proofs.Callers.{bind_ok, ok_is, passed}
use Rattle.parquet_schema.specs.FileTree.{group}
use Rattle.parquet_schema.proofs.Callers.{own_tree_fits}
use Rattle.parquet_file.specs.File.{AreGroups, IsFile, KeepsLimits, has_texts}
use Rattle.parquet_file.specs.Writing.{footer_bytes, footer_form, footer_tree, group_form, group_written, groups_written, is_short_named, written_file}
use Rattle.parquet_file.proofs.GroupSizes.{group_small}
use Rattle.parquet_file.proofs.GroupSteps.{allowed}
use Rattle.parquet_file.proofs.RowsOnly.{rows_one}
use Rattle.parquet_file.proofs.WrittenFooter.{footer_formed, footer_says, own_tree}
use Rattle.parquet_file.proofs.WrittenGroups.{group_is_written}

-- ---- what the limits let through

-- The rows are few, the names and the file are short: these are its groups' bytes, what is said of them, and the file.
record Passes (t : Tree) (rows : List Row) (bytes : List ℕ) : Type 0 where
  few : length rows ≤ 4194304
  named : is_short_named t ≡ true
  groups : List ℕ × List thrift.Tree
  made : groups_written t rows ≡ Ok groups
  fits : length (framed groups.0 (footer_bytes t groups.1 (length rows))) ≤ 67108864
  is : framed groups.0 (footer_bytes t groups.1 (length rows)) ≡ bytes

not_false : (b : Bool) → not b ≡ false → b ≡ true
not_false true e = refl
not_false false e = absurd cc

passes : (t : Tree) (rows : List Row) (bytes : List ℕ) → written_file t rows ≡ Ok bytes → Passes t rows bytes
unfolding written_file
passes t rows bytes e =
    let one = allowed (nat_lt 4194304 (length rows)) TooLarge _ bytes e in
    let two = allowed (not (is_short_named t)) TooLarge _ bytes one.1 in
    let groups = bind_ok (groups_written t rows) _ bytes two.1 in
    let file = framed groups.0.0 (footer_bytes t groups.0.1 (length rows)) in
    let three = passed (nat_lt 67108864 (length file)) TooLarge (Ok file) bytes groups.2 in
    record {
      few = ltb-false 4194304 (length rows) one.0;
      named = not_false (is_short_named t) two.0;
      groups = groups.0;
      made = groups.1;
      fits = ltb-false 67108864 (length file) three.0;
      is = ok_is {E = FileFault} file bytes three.1;
    }

-- ---- the groups

-- These bytes hold the groups that are said of them, which are all the rows.
record AreWritten (t : Tree) (rows : List Row) (groups : List ℕ × List thrift.Tree) : Type 0 where
  list : List RowGroup
  read : each group_of groups.1 ≡ Ok list
  of_form : MembersHaveForm group_form (trees_of groups.1)
  one : length groups.1 ≤ 1
  small : nodes_of_trees (trees_of groups.1) ≤ 131072
  are : AreGroups (magic ++ groups.0) t (shape_of t) list rows

no_groups : (t : Tree) → AreWritten t [] ([], [])
no_groups t = record { list = []; read = refl; of_form = tt; one = omega arith; small = omega arith; are = refl }

one_group : (cols : tree.Fields) (rows : List Row) (made : List ℕ × thrift.Tree) → IsWithinLimits (tree.struct cols)
    → unsupported (tree.struct cols) ≡ None → is_short_named (tree.struct cols) ≡ true
    → All (Conforms (tree.struct cols)) rows → length rows ≤ 4194304 → group_written (tree.struct cols) rows ≡ Ok made
    → AreWritten (tree.struct cols) rows (made.0, made.1 ∷ [])
one_group cols rows made limits supported named conform few e =
    let written = group_is_written cols rows made.0 made.1 limits supported named conform few e in
    let small = group_small (tree.struct cols) rows made.0 made.1 limits named e in
    record {
      list = written.0 ∷ [];
      read = rw written.1 refl;
      of_form = (written.2, tt);
      one = omega arith;
      small = omega (arith, small);
      are = (rows, [], written.3, refl, sym (append-nil rows));
    }

groups_are_written : (cols : tree.Fields) (rows : List Row) (groups : List ℕ × List thrift.Tree)
    → IsWithinLimits (tree.struct cols) → unsupported (tree.struct cols) ≡ None
    → is_short_named (tree.struct cols) ≡ true → All (Conforms (tree.struct cols)) rows → length rows ≤ 4194304
    → groups_written (tree.struct cols) rows ≡ Ok groups → AreWritten (tree.struct cols) rows groups
groups_are_written cols [] groups limits supported named conform few e =
    subst (λ x. AreWritten (tree.struct cols) [] x) (ok_is {E = FileFault} ([], []) groups e)
    (no_groups (tree.struct cols))
groups_are_written cols (row ∷ rows) groups limits supported named conform few e =
    let made = bind_ok (group_written (tree.struct cols) (row ∷ rows)) _ groups e in
    subst (λ x. AreWritten (tree.struct cols) (row ∷ rows) x)
    (ok_is {E = FileFault} (made.0.0, made.0.1 ∷ []) groups made.2)
    (one_group cols (row ∷ rows) made.0 limits supported named conform few made.1)

-- What is written as the footer of the rows has its form, so it meets what writing it needs.
pub footer_conditions : (cols : tree.Fields) (rows : List Row) (bytes : List ℕ) (groups : List thrift.Tree) (count : ℕ)
    → IsWithinLimits (tree.struct cols) → unsupported (tree.struct cols) ≡ None
    → is_short_named (tree.struct cols) ≡ true → All (Conforms (tree.struct cols)) rows → length rows ≤ 4194304
    → count ≡ length rows → groups_written (tree.struct cols) rows ≡ Ok (bytes, groups)
    → Conditions footer_form (footer_tree (tree.struct cols) groups count)
footer_conditions cols rows bytes groups count limits supported named conform few counted e =
    let w = groups_are_written cols rows (bytes, groups) limits supported named conform few e in
    let form = footer_formed cols groups (length rows) limits.nodes_fit named w.of_form w.one few in
    rw counted (conditions footer_form (footer_tree (tree.struct cols) groups (length rows)) form)

-- ---- the file

footer_short : (pages footer : List ℕ) → length (framed pages footer) ≤ 67108864 → length footer < 2 ^ 32
footer_short pages footer fits =
    let behind = to_le_bytes w32 (length footer) ++ magic in
    omega (
      arith,
      length-append magic (pages ++ (footer ++ behind)),
      length-append pages (footer ++ behind),
      length-append footer behind,
    )

-- What is written is a file of the rows, within the limits.
pub file_is_written : (cols : tree.Fields) (rows : List Row) (bytes : List ℕ) → IsWithinLimits (tree.struct cols)
    → unsupported (tree.struct cols) ≡ None → All (Conforms (tree.struct cols)) rows
    → All (λ row. has_texts row ≡ true) rows → written_file (tree.struct cols) rows ≡ Ok bytes
    → IsFile bytes (tree.struct cols) rows × KeepsLimits bytes rows
file_is_written cols rows bytes limits supported conform texts e =
    let t = tree.struct cols in
    let p = passes t rows bytes e in
    let w = groups_are_written cols rows p.groups limits supported p.named conform p.few p.made in
    let own = own_tree cols supported in
    let says = footer_says cols own.0 p.groups.1 w.list (length rows) limits p.named own.1 w.read w.of_form w.one
    w.small p.few in (
      record {
        pages = p.groups.0;
        footer = footer_bytes t p.groups.1 (length rows);
        metadata = record { schema = says.0; num_rows = length rows; row_groups = w.list };
        frame = sym p.is;
        length_fits = footer_short p.groups.0 (footer_bytes t p.groups.1 (length rows)) p.fits;
        says = says.2;
        columns = own.0;
        listed = says.1;
        shape = shape_of t;
        table = own_tree_fits t (group own.0) limits.sound own.1;
        groups = w.are;
        counted = refl;
        conform = conform;
        texts = texts;
      },
      record { size = subst (λ (b : List ℕ). length b ≤ 67108864) p.is p.fits; most_rows = p.few },
    )

-- What a writing of rows answered is a file of them, within the limits.
pub answer_is_file : (cols : tree.Fields) (rows : List Row) (r : Result (Vec ℕ Global) FileError)
    → IsWithinLimits (tree.struct cols) → unsupported (tree.struct cols) ≡ None
    → All (Conforms (tree.struct cols)) rows → All (λ row. has_texts row ≡ true) rows
    → FileGives (λ bytes. bytes.items) r (written_file (tree.struct cols) rows)
    → IfOk r (λ bytes. IsFile bytes.items (tree.struct cols) rows × KeepsLimits bytes.items rows)
answer_is_file cols rows (Ok bytes) limits supported conform texts e =
    file_is_written cols rows bytes.items limits supported conform texts e
answer_is_file cols rows (Err d) limits supported conform texts e = tt

-- Such bytes are a file of no other rows.
pub answer_is_of_no_other : (t : Tree) (rows : List Row) (r : Result (Vec ℕ Global) FileError) → IsWithinLimits t
    → IfOk r (λ bytes. IsFile bytes.items t rows × KeepsLimits bytes.items rows)
    → IfOk r (λ bytes. (others : List Row) → IsFile bytes.items t others → others ≡ rows)
answer_is_of_no_other t rows (Ok bytes) limits file =
    λ others other. rows_one bytes.items t others rows limits other file.0
answer_is_of_no_other t rows (Err d) limits file = tt
