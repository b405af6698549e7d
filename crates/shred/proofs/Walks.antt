-- A walk down a way, step by step.
use Rattle.std.proofs.Common.{◌≡◌, ℕ, ◌+◌, ◌<◌, ◌≤◌, length, get_or, drop, List, Bool, true, false, Option, Some, None, if◌then◌else◌, refl, sym, ◌∙◌, ap, arith}
use Rattle.std.proofs.lemmas.List.{at_drop_more, at_drop_all}
use Rattle.outcomes.specs.Options.{◌>>=◌}
use Rattle.row_core.specs.Rows.{Value}
use Rattle.shred.specs.Ways.{level_inside}
use Rattle.shred.specs.Columns.{Cell, present_cell, field_at, is_null, null_cell, cell_from}
use Rattle.shred.specs.Views.{way_view}
use Rattle.shred.specs.declared.ways.Step.{Step}
use mir.Val.{bool_byte}

step_met : (way : List Step) (i : ℕ) (d : Step) (level : ℕ) (v : Value) → i < length way
    → cell_from (way_view (drop i way)) level v ≡ (field_at (get_or way i d).place v >>= λ inner. if is_null inner then null_cell (get_or way i d).optional level else cell_from (way_view (drop (i + 1) way)) (level_inside (get_or way i d).optional level) inner)
step_met way i d level v h = at_drop_more (λ w. cell_from (way_view w) level v) way i d h

pub met_nothing : (way : List Step) (i : ℕ) (d : Step) (level : ℕ) (v : Value) (total : Option Cell) → i < length way → field_at (get_or way i d).place v ≡ None → cell_from (way_view (drop i way)) level v ≡ total → None ≡ total
met_nothing way i d level v total h found so_far =
    let one : cell_from (way_view (drop i way)) level v ≡ None = step_met way i d level v h ∙ rw found refl in
    sym one ∙ so_far

pub met_null : (way : List Step) (i : ℕ) (d : Step) (level : ℕ) (v inner : Value) (total : Option Cell) → i < length way → field_at (get_or way i d).place v ≡ Some inner → is_null inner ≡ true → cell_from (way_view (drop i way)) level v ≡ total → null_cell (get_or way i d).optional level ≡ total
met_null way i d level v inner total h found null so_far =
    let one : cell_from (way_view (drop i way)) level v ≡ null_cell (get_or way i d).optional level = step_met way i d level v h ∙ rw (found, null) refl in
    sym one ∙ so_far

level_added : (b : Bool) (level : ℕ) → level + bool_byte b ≡ level_inside b level
level_added true level = refl
level_added false level = omega arith

pub met_value : (way : List Step) (i : ℕ) (d : Step) (level more : ℕ) (v inner : Value) (total : Option Cell) → i < length way → field_at (get_or way i d).place v ≡ Some inner → is_null inner ≡ false → more ≡ bool_byte (get_or way i d).optional
    → cell_from (way_view (drop i way)) level v ≡ total → cell_from (way_view (drop (i + 1) way)) (level + more) inner ≡ total
met_value way i d level more v inner total h found there counted so_far =
    let one : cell_from (way_view (drop i way)) level v ≡ cell_from (way_view (drop (i + 1) way)) (level_inside (get_or way i d).optional level) inner = step_met way i d level v h ∙ rw (found, there) refl in
    let deeper : level + more ≡ level_inside (get_or way i d).optional level = ap (λ n. level + n) counted ∙ level_added (get_or way i d).optional level in
    ap (λ n. cell_from (way_view (drop (i + 1) way)) n inner) deeper ∙ (sym one ∙ so_far)

pub met_end : (way : List Step) (i level : ℕ) (v : Value) (total : Option Cell) → length way ≤ i → cell_from (way_view (drop i way)) level v ≡ total → Some (present_cell level v) ≡ total
met_end way i level v total h so_far =
    let one : cell_from (way_view (drop i way)) level v ≡ Some (present_cell level v) = at_drop_all (λ w. cell_from (way_view w) level v) way i h in
    sym one ∙ so_far

-- a flag counts at most one
pub flag_small : (b : Bool) → bool_byte b ≤ 1
flag_small true = omega arith
flag_small false = omega arith
