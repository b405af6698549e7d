-- Rows of the cells that readers have at hand, and then those of the cells behind them.
use Rattle.std.proofs.Common.{◌≡◌, ℕ, ◌+◌, ◌-◌, ◌<◌, ◌≤◌, ◌==◌, ◌^◌, count_by, List, [], ◌∷◌, ◌++◌, length, map, All, true, Result, Ok, Err, refl, sym, ap, subst, ◌∙◌, arith, length-append}
use Rattle.std.specs.List.{AllZip, list_all}
use Rattle.std.proofs.lemmas.Bool.{eq-eqb}
use Rattle.std.proofs.lemmas.List.{length-map}
use Rattle.std.proofs.lemmas.List.Elements.{All-cons, All-nil}
use Rattle.outcomes.specs.Outcome.{Said, IsSaid}
use Rattle.outcomes.specs.Results.{refused_as}
use Rattle.outcomes.proofs.Callers.{with_front}
use Rattle.row_core.specs.Rows.{Row}
use Rattle.row_core.specs.declared.value.Value.{Value}
use Rattle.shred.specs.Columns.{Cell, Column}
use Rattle.shred.specs.Parts.{part_of, ArePlain}
use Rattle.shred.specs.Shape.{Shape}
use Rattle.shred.specs.Views.{part_views}
use Rattle.shred.specs.Ways.{Step, highest, ways}
use Rattle.shred.specs.declared.columns.ColumnPart.{ColumnPart}
use Rattle.row_assembly.specs.Assembly.{assembled, cells_in, cells_of_columns, row_count, AreEven, IsWhole}
use Rattle.row_assembly.specs.Faults.{Fault}
use Rattle.row_assembly.specs.Parts.{fronts, parts_of, rests}
use Rattle.row_assembly.proofs.Callers.{assembled_twice, both, front_even, fronts_count, rests_even}
use Rattle.parquet_footer.specs.declared.fault.FileFault.{FileFault}
use Rattle.parquet_footer.specs.declared.fault.FileFault.TheVariants.{SchemaMismatch}
use Rattle.parquet_pages.specs.declared.reader.ColumnReader.{ColumnReader}
use Rattle.parquet_schema.specs.Leaves.{LeafIn}
use Rattle.parquet_file.specs.Internal.{is_flat, levels_of, AreAllLeft, ArePartsOf, AreSoundColumns, HasLevels}
use Rattle.parquet_file.specs.Reading.{has_rows}
use Rattle.parquet_file.proofs.CodeGroups.{assembled_many}
use Rattle.parquet_file.proofs.ColumnParts.{left_even, parts_are, parts_plain}
use Rattle.parquet_file.proofs.FlatRows.{flat_rows}
use Rattle.parquet_file.proofs.GroupSteps.{given_ok}
use Rattle.parquet_file.proofs.PartSteps.{KeptSoFar, part_begun, part_done, part_fails, part_goes_on, part_stops}
use Rattle.parquet_file.proofs.TestedColumns.{rests_sound}

-- ---- the rows at hand

-- what is asked of parts of columns
pub record MayBeRows (first most : ℕ) (shape : Shape) (ps : List (ColumnPart Value)) (cs : List Column) : Type 0 where
  pub parts : part_views ps ≡ parts_of first most (map highest (ways shape)) cs
  pub even : AreEven shape cs
  pub plain : All ArePlain cs
  pub few : row_count cs < 2 ^ 64

-- the columns of the first rows of even columns, as the rows are made of them
pub front_parts : (first most n : ℕ) (shape : Shape) (ls : List LeafIn) (ps : List (ColumnPart Value))
    (cs : List Column) → levels_of ls ≡ map highest (ways shape) → AreEven shape cs → n ≤ row_count cs → n < 2 ^ 64
    → ArePartsOf first most ls ps (fronts n (levels_of ls) cs) → MayBeRows first most shape ps (fronts n (levels_of ls) cs)
front_parts first most n shape ls ps cs same even less few h =
    let these : fronts n (levels_of ls) cs ≡ fronts n (map highest (ways shape)) cs =
    ap (λ (tops : List ℕ). fronts n tops cs) same in
    let many : row_count (fronts n (levels_of ls) cs) ≡ n =
    ap (λ (cs : List Column). row_count cs) these ∙ fronts_count n (ways shape) cs less even in
    record {
      parts = parts_are first most ls ps (fronts n (levels_of ls) cs) (map highest (ways shape)) same h;
      even = subst (λ (cs : List Column). AreEven shape cs) (sym these) (front_even shape n cs even less);
      plain = parts_plain first most ls ps (fronts n (levels_of ls) cs) h;
      few = omega (arith, many, few);
    }

-- ---- whole columns

pub whole_count : (rows : ℕ) (ws : List (List Step)) (cs : List Column) → 0 < length ws → AllZip (IsWhole rows) ws cs
    → row_count cs ≡ rows
whole_count rows [] cs some whole = absurd (omega (arith, some))
whole_count rows (w ∷ ws) [] some whole = absurd whole
whole_count rows (w ∷ ws) (c ∷ cs) some whole = whole.0.levels_each

pub whole_even : (rows : ℕ) (ws : List (List Step)) (cs : List Column) → AllZip (IsWhole rows) ws cs
    → AllZip (IsWhole (row_count cs)) ws cs
whole_even rows [] [] whole = tt
whole_even rows [] (c ∷ cs) whole = absurd whole
whole_even rows (w ∷ ws) [] whole = absurd whole
whole_even rows (w ∷ ws) (c ∷ cs) whole =
    subst (λ (n : ℕ). AllZip (IsWhole n) (w ∷ ws) (c ∷ cs)) (sym whole.0.levels_each) whole

whole_levels : (rows : ℕ) (ws : List (List Step)) (cs : List Column) → 0 < rows → AllZip (IsWhole rows) ws cs
    → All HasLevels cs
whole_levels rows [] [] some whole = All-nil HasLevels
whole_levels rows [] (c ∷ cs) some whole = absurd whole
whole_levels rows (w ∷ ws) [] some whole = absurd whole
whole_levels rows (w ∷ ws) (c ∷ cs) some whole =
    let many = whole.0.levels_each in
    let here : HasLevels c = omega (arith, many, some) in
    All-cons HasLevels c cs here (whole_levels rows ws cs some whole.1)

whole_cells : (rows : ℕ) (ws : List (List Step)) (cs : List Column) → AllZip (IsWhole rows) ws cs
    → (css : List (List Cell)) × (cells_of_columns rows (map highest ws) cs ≡ Ok css)
whole_cells rows [] [] whole = ([], refl)
whole_cells rows [] (c ∷ cs) whole = absurd whole
whole_cells rows (w ∷ ws) [] whole = absurd whole
whole_cells rows (w ∷ ws) (c ∷ cs) whole =
    let others = whole_cells rows ws cs whole.1 in
    let levels = eq-eqb (length c.levels) rows whole.0.levels_each in
    let values = eq-eqb (count_by (λ level. level == highest w) c.levels) (length c.values) whole.0.values_each in
    (cells_in (highest w) c.levels c.values ∷ others.0, rw (levels, values, others.1) refl)

-- no rows are made of columns without levels
pub none_made : (shape : Shape) (cs : List Column) → 0 < length (ways shape) → AllZip (IsWhole 0) (ways shape) cs
    → assembled shape cs ≡ Ok []
unfolding assembled
none_made shape cs some whole =
    let none : row_count cs ≡ 0 = whole_count 0 (ways shape) cs some whole in
    let cells = whole_cells 0 (ways shape) cs whole in
    rw (none, cells.1) refl

-- ---- rows of what readers have left

-- the rows of columns, or that there are none
abbrev pub rows_in : Shape → List Column → Result (List Row) FileFault
rows_in shape cs = refused_as (λ fault. SchemaMismatch) (assembled shape cs)

-- So many rows of the columns are left, in the readers; a part of those before them was kept.
pub record RowsLeft (shape : Shape) (ls : List LeafIn) (given : List Column) (rs : List ColumnReader) (first most : ℕ)
    (old now : List Row) (left skip wanted : ℕ) : Type 0 where
  pub columns : List Column
  pub held : AreAllLeft ls rs columns
  pub whole : AllZip (IsWhole left) (ways shape) columns
  pub sound : AreSoundColumns (levels_of ls) columns
  pub kept : KeptSoFar first most old now (rows_in shape columns) (rows_in shape given) skip wanted

pub rows_begun : (shape : Shape) (ls : List LeafIn) (given : List Column) (rs : List ColumnReader) (first most : ℕ)
    (old : List Row) (count : ℕ) → levels_of ls ≡ map highest (ways shape) → AreAllLeft ls rs given
    → list_all (has_rows count) given ≡ true → AreSoundColumns (levels_of ls) given
    → RowsLeft shape ls given rs first most old old count first most
rows_begun shape ls given rs first most old count same held all sound = record {
  columns = given;
  held = held;
  whole = left_even count ls rs given (ways shape) same held all;
  sound = sound;
  kept = part_begun first most old (rows_in shape given);
}

-- there are ways where there are leaves
pub some_ways : (shape : Shape) (ls : List LeafIn) → levels_of ls ≡ map highest (ways shape) → 0 < length ls
    → 0 < length (ways shape)
some_ways shape ls same some = omega (
  arith,
  some,
  ap length same,
  length-map ls (λ (l : LeafIn). length l.nullable),
  length-map (ways shape) highest,
)

pub rows_behind : (whole part rest : Result (List Row) Fault) (one : List Row) → whole ≡ both part rest → part ≡ Ok one
    → refused_as (λ fault. SchemaMismatch) whole ≡ with_front one (refused_as (λ fault. SchemaMismatch) rest)
rows_behind whole part (Ok others) one is made = rw (is, made) refl
rows_behind whole part (Err fault) one is made = rw (is, made) refl

first_refused : (whole part rest : Result (List Row) Fault) (e : FileFault) → whole ≡ both part rest
    → refused_as (λ fault. SchemaMismatch) part ≡ Err e → refused_as (λ fault. SchemaMismatch) whole ≡ Err e
first_refused whole (Ok one) rest e is refused = absurd cc
first_refused whole (Err fault) rest e is refused = rw is refused

module _ {shape : Shape} {ls : List LeafIn} {given : List Column} {rs : List ColumnReader} {first most : ℕ}
    {old now : List Row} {left skip wanted : ℕ} (k : RowsLeft shape ls given rs first most old now left skip wanted)
    (same : levels_of ls ≡ map highest (ways shape)) (some : 0 < length ls) where
  pub left_levels : 0 < left → All HasLevels k.columns
  left_levels more = whole_levels left (ways shape) k.columns more k.whole

  pub left_are_even : AreEven shape k.columns
  left_are_even = whole_even left (ways shape) k.columns k.whole

  left_count : row_count k.columns ≡ left
  left_count = whole_count left (ways shape) k.columns (some_ways shape ls same some) k.whole

  pub rows_done : left ≡ 0 → (all : List Row) × (rows_in shape given ≡ Ok all) × (now ≡ old ++ part_of first most all)
  rows_done none =
      let whole : AllZip (IsWhole 0) (ways shape) k.columns =
      subst (λ (n : ℕ). AllZip (IsWhole n) (ways shape) k.columns) none k.whole in
      let nothing : rows_in shape k.columns ≡ Ok [] =
      rw (none_made shape k.columns (some_ways shape ls same some) whole) refl in
      part_done first most old now (rows_in shape k.columns) (rows_in shape given) skip wanted k.kept nothing

  -- No more rows are wanted, and those that are left can be made.
  pub rows_stop : is_flat shape ≡ true → wanted ≡ 0
      → (all : List Row) × (rows_in shape given ≡ Ok all) × (now ≡ old ++ part_of first most all)
  rows_stop flat none =
      let sound : AreSoundColumns (map highest (ways shape)) k.columns =
      subst (λ (tops : List ℕ). AreSoundColumns tops k.columns) same k.sound in
      let rest = flat_rows shape k.columns flat left_are_even sound in
      part_stops first most old now rest.0 (rows_in shape k.columns) (rows_in shape given) skip wanted k.kept
      (rw rest.1 refl) none

  module _ (n : ℕ) (less : n ≤ left) where
    abbrev front : List Column
    front = fronts n (levels_of ls) k.columns

    abbrev rest : List Column
    rest = rests n (levels_of ls) k.columns

    pub are_enough : n ≤ row_count k.columns
    are_enough = omega (arith, less, left_count)

    -- the rows at hand, and then those behind them
    twice : assembled shape k.columns ≡ both (assembled shape front) (assembled shape rest)
    twice =
        subst
        (λ (tops : List ℕ). assembled shape k.columns
        ≡ both (assembled shape (fronts n tops k.columns)) (assembled shape (rests n tops k.columns)))
        (sym same)
        (assembled_twice shape n k.columns left_are_even are_enough)

    front_count : row_count front ≡ n
    front_count =
        ap (λ (tops : List ℕ). row_count (fronts n tops k.columns)) same
        ∙ fronts_count n (ways shape) k.columns are_enough left_are_even

    rest_whole : AllZip (IsWhole (left - n)) (ways shape) rest
    rest_whole =
        subst
        (λ (tops : List ℕ). AllZip (IsWhole (left - n)) (ways shape) (rests n tops k.columns))
        (sym same)
        (rests_even left n (ways shape) k.columns k.whole)

    pub rows_fail : (said : Said FileFault) → IsSaid said (rows_in shape front) → IsSaid said (rows_in shape given)
    rows_fail said h =
        let refused = first_refused (assembled shape k.columns) (assembled shape front) (assembled shape rest) in
        part_fails said (rows_in shape front) first most old now (rows_in shape k.columns) (rows_in shape given) skip wanted
        k.kept (λ e is. refused e twice is) h

    pub rows_go_on : (more : List ColumnReader) (new : List Row) (left_now skip_now wanted_now : ℕ)
        → AreAllLeft ls more rest
        → (one : List Row) × (rows_in shape front ≡ Ok one) × (new ≡ now ++ part_of skip wanted one)
        → left_now ≡ left - n → skip_now ≡ skip - n → wanted_now ≡ wanted - (length new - length now)
        → RowsLeft shape ls given more first most old new left_now skip_now wanted_now
    rows_go_on more new left_now skip_now wanted_now held added lefts skips wants =
        let one = added.0 in
        let made : assembled shape front ≡ Ok one = given_ok (λ fault. SchemaMismatch) (assembled shape front) one added.1 in
        let many : length one ≡ n = assembled_many shape front one made ∙ front_count in
        let grown : length new ≡ length now + length (part_of skip wanted one) =
        ap length added.2 ∙ length-append now (part_of skip wanted one) in
        let behind : rows_in shape k.columns ≡ with_front one (rows_in shape rest) =
        rows_behind (assembled shape k.columns) (assembled shape front) (assembled shape rest) one twice made in
        record {
          columns = rest;
          held = held;
          whole = subst (λ (n : ℕ). AllZip (IsWhole n) (ways shape) rest) (sym lefts) rest_whole;
          sound = rests_sound n (levels_of ls) k.columns k.sound;
          kept = part_goes_on first most old now new one (rows_in shape k.columns) (rows_in shape rest)
              (rows_in shape given) skip wanted skip_now wanted_now k.kept behind added.2
              (omega (arith, skips, many)) (omega (arith, wants, grown));
        }
