-- Cells taken from the front of those that are held: levels, and columns.
use Rattle.std.proofs.Common.{◌≡◌, ℕ, ◌+◌, ◌-◌, ◌≤◌, ◌<◌, ◌^◌, cond, nat_eq, true, List, ◌++◌, length, take, drop, Err, refl, sym, ap, ◌∙◌, arith}
use Rattle.std.proofs.lemmas.List.{drop-append-le, drop-drop, drop-take, length-drop, length-take, take-append-le, take-take}
use Rattle.std.proofs.lemmas.List.Elements.{All-drop, All-take}
use Rattle.std.proofs.lemmas.List.Sums.{sum_by-take-drop, sum_by-take-le}
use Rattle.lake_bytes.specs.Hybrid.{values_of}
use Rattle.lake_bytes.specs.declared.run.Run.{Run}
use Rattle.row_core.specs.Rows.{Value}
use Rattle.shred.specs.Columns.{Column}
use Rattle.shred.specs.Fits.{is_plain}
use Rattle.shred.specs.Parts.{ArePlain, Part, cut_off, cut_out, part_of}
use Rattle.parquet_footer.specs.declared.fault.FileError.{FileError}
use Rattle.parquet_footer.specs.declared.fault.FileError.TheVariants as errors
use Rattle.page_cells.specs.Outcome.{FindsWhere}
use Rattle.parquet_pages.specs.Pages.{joined}
use Rattle.page_cells.specs.Levels.{present}

-- ---- lists

-- what is kept of the front is kept of the whole
pub part_front : {A : Type 0} (first most whole : ℕ) (xs : List A) → first + most ≤ whole
    → part_of first most (take whole xs) ≡ part_of first most xs
part_front first most whole xs within =
    let all : whole ≡ first + (whole - first) = omega arith in
    let few : most ≤ whole - first = omega arith in
    ap (λ (n : ℕ). part_of first most (take n xs)) all
    ∙ ap (take most) (drop-take first (whole - first) xs)
    ∙ take-take most (whole - first) (drop first xs) few

-- ---- cells

pub same_column : (levels others : List ℕ) (values more : List Value) → levels ≡ others → values ≡ more
    → ◌≡◌ {A = Column} (record { levels = levels; values = values }) (record { levels = others; values = more })
same_column levels others values more is are = rw (is, are) refl

-- The highest levels of those that are passed over and of those that are kept are no more than all.
pub cut_counts : (top skip count : ℕ) (levels : List ℕ)
    → present top (take skip levels) + present top (part_of skip count levels) ≤ present top levels
cut_counts top skip count levels =
    let is_top : ℕ → ℕ = λ level. cond (nat_eq level top) 1 0 in
    let all : present top (take skip levels) + present top (drop skip levels) ≡ present top levels =
    sum_by-take-drop is_top levels skip in
    let few : present top (part_of skip count levels) ≤ present top (drop skip levels) =
    sum_by-take-le is_top (drop skip levels) count in
    omega (arith, all, few)

-- the front of what is held is the front of the column
pub cut_front : (top count : ℕ) (a b : Column) → count ≤ length a.levels → present top a.levels ≡ length a.values
    → cut_out 0 count top (joined a b) ≡ cut_out 0 count top a
cut_front top count a b within each =
    let is_top : ℕ → ℕ = λ level. cond (nat_eq level top) 1 0 in
    let levels : take count (a.levels ++ b.levels) ≡ take count a.levels =
    take-append-le count a.levels b.levels within in
    let few : present top (take count a.levels) ≤ present top a.levels = sum_by-take-le is_top a.levels count in
    let less : present top (take count a.levels) ≤ length a.values = omega arith in
    same_column (take count (a.levels ++ b.levels)) (take count a.levels)
    (take (present top (take count (a.levels ++ b.levels))) (a.values ++ b.values))
    (take (present top (take count a.levels)) a.values) levels
    (ap (λ (ls : List ℕ). take (present top ls) (a.values ++ b.values)) levels
    ∙ take-append-le (present top (take count a.levels)) a.values b.values less)

-- what is left of what is held, in front of the same column
pub cut_behind : (top count : ℕ) (a b : Column) → count ≤ length a.levels → present top a.levels ≡ length a.values
    → cut_off count top (joined a b) ≡ joined (cut_off count top a) b
cut_behind top count a b within each =
    let is_top : ℕ → ℕ = λ level. cond (nat_eq level top) 1 0 in
    let levels : take count (a.levels ++ b.levels) ≡ take count a.levels =
    take-append-le count a.levels b.levels within in
    let few : present top (take count a.levels) ≤ present top a.levels = sum_by-take-le is_top a.levels count in
    let less : present top (take count a.levels) ≤ length a.values = omega arith in
    same_column (drop count (a.levels ++ b.levels)) (drop count a.levels ++ b.levels)
    (drop (present top (take count (a.levels ++ b.levels))) (a.values ++ b.values))
    (drop (present top (take count a.levels)) a.values ++ b.values) (drop-append-le count a.levels b.levels within)
    (ap (λ (ls : List ℕ). drop (present top ls) (a.values ++ b.values)) levels
    ∙ drop-append-le (present top (take count a.levels)) a.values b.values less)

-- there are the values of the front
pub front_few : (top count : ℕ) (c : Column) → present top c.levels ≡ length c.values
    → present top (take count c.levels) ≤ length c.values
front_few top count c each =
    let is_top : ℕ → ℕ = λ level. cond (nat_eq level top) 1 0 in
    let few : present top (take count c.levels) ≤ present top c.levels = sum_by-take-le is_top c.levels count in
    omega arith

-- there is a value for each highest level in the front, and behind it
pub front_each : (top count : ℕ) (c : Column) → present top c.levels ≡ length c.values
    → present top (take count c.levels) ≡ length (take (present top (take count c.levels)) c.values)
front_each top count c each =
    let is_top : ℕ → ℕ = λ level. cond (nat_eq level top) 1 0 in
    let few : present top (take count c.levels) ≤ present top c.levels = sum_by-take-le is_top c.levels count in
    omega (arith, length-take (present top (take count c.levels)) c.values)

pub behind_each : (top count : ℕ) (c : Column) → present top c.levels ≡ length c.values
    → present top (drop count c.levels) ≡ length (drop (present top (take count c.levels)) c.values)
behind_each top count c each =
    let is_top : ℕ → ℕ = λ level. cond (nat_eq level top) 1 0 in
    let all : present top (take count c.levels) + present top (drop count c.levels) ≡ present top c.levels =
    sum_by-take-drop is_top c.levels count in
    omega (arith, length-drop (present top (take count c.levels)) c.values)

-- no value among them is null or a struct
pub front_plain : (top count : ℕ) (c : Column) → ArePlain c → ArePlain (cut_out 0 count top c)
front_plain top count c plain =
    All-take (λ v. is_plain v ≡ true) (present top (take count c.levels)) c.values plain

pub behind_plain : (top count : ℕ) (c : Column) → ArePlain c → ArePlain (cut_off count top c)
behind_plain top count c plain =
    All-drop (λ v. is_plain v ≡ true) (present top (take count c.levels)) c.values plain

-- What is kept of the front, whose values were taken one part behind the other.
pub kept_is : (top count first most : ℕ) (c : Column) (levels : List ℕ) (values : List Value)
    → levels ≡ part_of first most (take count c.levels)
    → values ≡ take (present top (part_of first most (take count c.levels)))
    (drop (present top (take first (take count c.levels))) c.values)
    → ◌≡◌ {A = Column} (record { levels = levels; values = values }) (cut_out first most top (cut_out 0 count top c))
kept_is top count first most c levels values is are =
    let front = take count c.levels in
    let within : present top (take first front) + present top (part_of first most front) ≤ present top front =
    cut_counts top first most front in
    same_column levels (part_of first most front) values
    (part_of (present top (take first front)) (present top (part_of first most front))
    (take (present top front) c.values))
    is
    (are
    ∙ sym (part_front (present top (take first front)) (present top (part_of first most front)) (present top front)
    c.values within))

pub same_part : (levels others : List ℕ) (kept more : Column) → levels ≡ others → kept ≡ more
    → ◌≡◌ {A = Part} (record { levels = levels; kept = kept }) (record { levels = others; kept = more })
same_part levels others kept more is are = rw (is, are) refl

-- ---- counts

-- how many levels of runs are the highest
pub present_is : (told top n : ℕ) (runs : List Run) (levels : List ℕ) → told ≡ top → values_of runs ≡ levels
    → length levels < 2 ^ 64 → (length (values_of runs) < 2 ^ 64 → n ≡ present told (values_of runs))
    → n ≡ present top levels
present_is told top n runs levels same are few is =
    is (omega (arith, ap length are)) ∙ ap (λ (m : ℕ). present m (values_of runs)) same ∙ ap (present top) are

-- So many of the values that are held are passed over, kept, and passed over behind these.
pub record AreThere (top count first most : ℕ) (c : Column) : Type 0 where
  pub passed : present top (take first (take count c.levels)) ≤ length c.values
  pub kept : present top (part_of first most (take count c.levels))
      ≤ length (drop (present top (take first (take count c.levels))) c.values)
  pub others : present top (take count c.levels) - present top (take first (take count c.levels))
      ≤ length (drop (present top (take first (take count c.levels))) c.values)
  pub all : drop (present top (take count c.levels) - present top (take first (take count c.levels)))
      (drop (present top (take first (take count c.levels))) c.values)
      ≡ drop (present top (take count c.levels)) c.values

pub are_there : (top count first most : ℕ) (c : Column) → present top c.levels ≡ length c.values
    → AreThere top count first most c
are_there top count first most c each =
    let is_top : ℕ → ℕ = λ level. cond (nat_eq level top) 1 0 in
    let front = take count c.levels in
    let skipped = present top (take first front) in
    let within : skipped + present top (part_of first most front) ≤ present top front =
    cut_counts top first most front in
    let few : present top front ≤ present top c.levels = sum_by-take-le is_top c.levels count in
    let left = length-drop skipped c.values in
    let whole : skipped + (present top front - skipped) ≡ present top front = omega arith in
    record {
      passed = omega arith;
      kept = omega arith;
      others = omega arith;
      all = drop-drop (present top front - skipped) skipped c.values ∙ ap (λ (n : ℕ). drop n c.values) whole;
    }

-- ---- faults

-- Where no fault is found, memory ran out.
pub no_fault : (e : FileError) → FindsWhere {X = Unit {0}} (λ x. Unit {0}) (Err e) → e ≡ errors.Memory
no_fault errors.Memory h = refl
no_fault (errors.Fault fault) h = absurd h
