-- The columns of ways, one after another.
use Rattle.std.proofs.Common.{◌≡◌, ℕ, ◌+◌, ◌<◌, ◌≤◌, length, get_or, drop, List, [], ◌∷◌, ◌++◌, map, Vec, Global, Option, Some, None, option_map, refl, sym, ap, ◌∙◌}
use Rattle.outcomes.specs.Options.{◌>>=◌}
use Rattle.row_core.specs.Rows.{Row}
use Rattle.shred.specs.Columns.{Column, column, all_some}
use Rattle.shred.specs.Views.{way_view, way_views}
use Rattle.shred.specs.declared.ways.Step.{Step}
use Rattle.shred.proofs.AllSome.{one_found, one_missing, all_found}

-- the columns of ways, seen from where they lie
abbrev pub of_ways : List Row → List (Vec Step Global) → Option (List Column)
of_ways rows ways = all_some (map (λ way. column way rows) (way_views ways))

abbrev found_at : List Row → Vec Step Global → Option Column
found_at rows way = column (way_view way.items) rows

each_way : (rows : List Row) (ways : List (Vec Step Global)) → all_some (map (found_at rows) ways) ≡ of_ways rows ways
each_way rows [] = refl
each_way rows (w ∷ ws) = ap (λ (k : Option (List Column)). found_at rows w >>= λ c. option_map (λ cs. c ∷ cs) k) (each_way rows ws)

pub one_way_found : (ways : List (Vec Step Global)) (i : ℕ) (way : Vec Step Global) (rows : List Row) (front : List Column) (c : Column) (total : Option (List Column)) → i < length ways → way ≡ get_or ways i way → column (way_view way.items) rows ≡ Some c
    → option_map (λ cs. front ++ cs) (of_ways rows (drop i ways)) ≡ total → option_map (λ cs. (front ++ c ∷ []) ++ cs) (of_ways rows (drop (i + 1) ways)) ≡ total
one_way_found ways i way rows front c total h at has so_far =
    ap (option_map (λ cs. (front ++ c ∷ []) ++ cs)) (sym (each_way rows (drop (i + 1) ways))) ∙ one_found (found_at rows) ways i way front c total h at has (ap (option_map (λ cs. front ++ cs)) (each_way rows (drop i ways)) ∙ so_far)

pub one_way_missing : (ways : List (Vec Step Global)) (i : ℕ) (way : Vec Step Global) (rows : List Row) (front : List Column) (total : Option (List Column)) → i < length ways → way ≡ get_or ways i way → column (way_view way.items) rows ≡ None
    → option_map (λ cs. front ++ cs) (of_ways rows (drop i ways)) ≡ total → None ≡ total
one_way_missing ways i way rows front total h at has so_far =
    one_missing (found_at rows) ways i way front total h at has (ap (option_map (λ cs. front ++ cs)) (each_way rows (drop i ways)) ∙ so_far)

pub all_ways_found : (ways : List (Vec Step Global)) (i : ℕ) (rows : List Row) (front : List Column) (total : Option (List Column)) → length ways ≤ i → option_map (λ cs. front ++ cs) (of_ways rows (drop i ways)) ≡ total → Some front ≡ total
all_ways_found ways i rows front total h so_far = all_found (found_at rows) ways i front total h (ap (option_map (λ cs. front ++ cs)) (each_way rows (drop i ways)) ∙ so_far)
