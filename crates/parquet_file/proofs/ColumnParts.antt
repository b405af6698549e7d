-- What is kept of columns that have as many levels as a group has rows: the columns are even, and their values plain.
use Rattle.std.proofs.Common.{◌≡◌, ℕ, ◌==◌, List, [], ◌∷◌, length, map, count_by, All, true, refl, subst}
use Rattle.std.specs.List.{AllZip, list_all}
use Rattle.std.proofs.lemmas.Bool.{and_parts, eqb-true}
use Rattle.std.proofs.lemmas.List.Elements.{All-cons, All-nil}
use Rattle.row_core.specs.declared.value.Value.{Value}
use Rattle.shred.specs.Columns.{Column}
use Rattle.shred.specs.Parts.{ArePlain}
use Rattle.shred.specs.Views.{part_views}
use Rattle.shred.specs.Ways.{Step, highest}
use Rattle.shred.specs.declared.columns.ColumnPart.{ColumnPart}
use Rattle.row_assembly.specs.Assembly.{IsWhole}
use Rattle.row_assembly.specs.Parts.{parts_of}
use Rattle.parquet_pages.specs.declared.reader.ColumnReader.{ColumnReader}
use Rattle.parquet_pages.proofs.Callers.{left_full}
use Rattle.parquet_schema.specs.Leaves.{LeafIn}
use Rattle.parquet_file.specs.File.{leaf_of}
use Rattle.parquet_file.specs.Internal.{levels_of, AreAllLeft, ArePartsOf}
use Rattle.parquet_file.specs.Reading.{has_rows}

parts_by_leaves : (first most : ℕ) (ls : List LeafIn) (ps : List (ColumnPart Value)) (cs : List Column)
    → ArePartsOf first most ls ps cs → part_views ps ≡ parts_of first most (levels_of ls) cs
parts_by_leaves first most [] [] [] h = refl
parts_by_leaves first most [] [] (c ∷ cs) h = absurd h
parts_by_leaves first most [] (p ∷ ps) cs h = absurd h
parts_by_leaves first most (l ∷ ls) [] cs h = absurd h
parts_by_leaves first most (l ∷ ls) (p ∷ ps) [] h = absurd h
parts_by_leaves first most (l ∷ ls) (p ∷ ps) (c ∷ cs) h =
    rw (h.0.kept, parts_by_leaves first most ls ps cs h.1) refl

-- Parts of the leaves' columns are parts of the columns of a shape whose ways have these levels.
pub parts_are : (first most : ℕ) (ls : List LeafIn) (ps : List (ColumnPart Value)) (cs : List Column) (tops : List ℕ)
    → levels_of ls ≡ tops → ArePartsOf first most ls ps cs → part_views ps ≡ parts_of first most tops cs
parts_are first most ls ps cs tops same h =
    subst (λ (ns : List ℕ). part_views ps ≡ parts_of first most ns cs) same (parts_by_leaves first most ls ps cs h)

pub parts_plain : (first most : ℕ) (ls : List LeafIn) (ps : List (ColumnPart Value)) (cs : List Column)
    → ArePartsOf first most ls ps cs → All ArePlain cs
parts_plain first most [] [] [] h = All-nil ArePlain
parts_plain first most [] [] (c ∷ cs) h = absurd h
parts_plain first most [] (p ∷ ps) cs h = absurd h
parts_plain first most (l ∷ ls) [] cs h = absurd h
parts_plain first most (l ∷ ls) (p ∷ ps) [] h = absurd h
parts_plain first most (l ∷ ls) (p ∷ ps) (c ∷ cs) h =
    All-cons ArePlain c cs h.0.plain (parts_plain first most ls ps cs h.1)

-- Columns that readers have left, with as many levels each, are even for ways with the leaves' levels.
pub left_even : (rows : ℕ) (ls : List LeafIn) (rs : List ColumnReader) (cs : List Column) (ws : List (List Step))
    → levels_of ls ≡ map highest ws → AreAllLeft ls rs cs → list_all (has_rows rows) cs ≡ true
    → AllZip (IsWhole rows) ws cs
left_even rows [] [] [] [] same h all = tt
left_even rows [] [] [] (w ∷ ws) same h all = absurd cc
left_even rows [] [] (c ∷ cs) ws same h all = absurd h
left_even rows [] (r ∷ rs) cs ws same h all = absurd h
left_even rows (l ∷ ls) [] cs ws same h all = absurd h
left_even rows (l ∷ ls) (r ∷ rs) [] ws same h all = absurd h
left_even rows (l ∷ ls) (r ∷ rs) (c ∷ cs) [] same h all = absurd cc
left_even rows (l ∷ ls) (r ∷ rs) (c ∷ cs) (w ∷ ws) same h all =
    let top : length l.nullable ≡ highest w = cc in
    let others : levels_of ls ≡ map highest ws = cc in
    let k = and_parts (has_rows rows c) (list_all (has_rows rows) cs) all in
    let full = left_full (leaf_of l) r c h.0 in
    let whole : IsWhole rows w c = record {
      levels_each = eqb-true (length c.levels) rows k.0;
      values_each = subst (λ (n : ℕ). count_by (λ level. level == n) c.levels ≡ length c.values) top full.0;
    } in
    (whole, left_even rows ls rs cs ws others h.1 k.1)
