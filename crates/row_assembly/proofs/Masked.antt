-- Cells whose values are masked give rows or faults as the cells do.
use Rattle.std.proofs.Common.{◌≡◌, ◌==◌, ◌&&◌, ℕ, zero, suc, ◌+◌, List, [], ◌∷◌, map, drop, Bool, true, false, not, is_some, if◌then◌else◌, Option, Some, None, option_map, Result, Ok, Err, refl, sym, ap, ◌∙◌}
use Rattle.outcomes.specs.Options as options
use Rattle.outcomes.specs.Results.{◌>>=◌, or_refusal, refused_as}
use Rattle.row_core.specs.Rows.{Value, null, truth, structure, values_of}
use Rattle.shred.specs.Shape.{Shape, leaf, struct, Fields, no_fields, field}
use Rattle.shred.specs.Fits.{is_plain}
use Rattle.shred.specs.Columns.{Cell}
use Rattle.row_assembly.specs.Faults.{Fault, level_mismatch, inside}
use Rattle.row_assembly.specs.Assembly.{is_absent, value_in, begins_absent, passed, passed_fields, Made, field_made, made, made_fields, heads, row_made, rows_made}
use Rattle.row_assembly.specs.Levels.{outcome, row_tested, tested}

-- some value that a leaf may hold just where this one is
abbrev pub masked_value : Value → Value
masked_value v = if is_plain v then truth true else null

abbrev pub masked : Cell → Cell
masked c = record { level = c.level; value = option_map masked_value c.value }

abbrev pub all_masked : List Cell → List Cell
all_masked cells = map masked cells

-- ---- one row

absent_masked : (n : Bool) (o : Option Value) → (n && not (is_some (option_map masked_value o))) ≡ (n && not (is_some o))
absent_masked n None = refl
absent_masked n (Some v) = refl

begins_masked : (level : ℕ) (cells : List Cell) → begins_absent level (all_masked cells) ≡ begins_absent level cells
begins_masked level [] = refl
begins_masked level (c ∷ cells) = absent_masked (c.level == level) c.value

-- the cells that are left are masked
abbrev left_masked : Result (List Cell) Fault → Result (List Cell) Fault
left_masked r = r >>= λ left. Ok (all_masked left)

absent_left : (n : Bool) (cells : List Cell) → (if n then Ok (all_masked cells) else Err (level_mismatch None)) ≡ left_masked (if n then Ok cells else Err (level_mismatch None))
absent_left true cells = refl
absent_left false cells = refl

told_left : (name : List ℕ) (r : Result (List Cell) Fault) → refused_as (inside name) (left_masked r) ≡ left_masked (refused_as (inside name) r)
told_left name (Ok left) = refl
told_left name (Err e) = refl

pass_on : (r : Result (List Cell) Fault) (next : List Cell → Result (List Cell) Fault) → ((left : List Cell) → next (all_masked left) ≡ left_masked (next left)) → (left_masked r >>= next) ≡ left_masked (r >>= next)
pass_on (Ok left) next each = each left
pass_on (Err e) next each = refl

mutual
  passed_masked : (s : Shape) (level : ℕ) (cells : List Cell) → passed s level (all_masked cells) ≡ left_masked (passed s level cells)
  passed_masked leaf level [] = refl
  passed_masked leaf level (c ∷ cells) = ap (λ n. if n then Ok (all_masked cells) else Err (level_mismatch None)) (absent_masked (c.level == level) c.value) ∙ absent_left (is_absent level c) cells
  passed_masked (struct fs) level cells = passed_fields_masked fs level cells

  passed_fields_masked : (fs : Fields) (level : ℕ) (cells : List Cell) → passed_fields fs level (all_masked cells) ≡ left_masked (passed_fields fs level cells)
  passed_fields_masked no_fields level cells = refl
  passed_fields_masked (field name optional s fs) level cells =
      ap (λ r. refused_as (inside name) r >>= λ left. passed_fields fs level left) (passed_masked s level cells) ∙ (ap (λ r. r >>= λ left. passed_fields fs level left) (told_left name (passed s level cells)) ∙ pass_on (refused_as (inside name) (passed s level cells)) (λ left. passed_fields fs level left) (λ left. passed_fields_masked fs level left))

-- what is left behind what is made
abbrev left_of : {A : Type 0} → Made A → Result (List Cell) Fault
left_of r = r >>= λ given. Ok given.1

value_masked : (n : Bool) (p : Bool) (v : Value) → is_plain v ≡ p → (let a : Option Value = if n then options.◌>>=◌ (Some (masked_value v)) (λ w. if is_plain w then Some w else None) else None in is_some a) ≡ (let b : Option Value = if n then options.◌>>=◌ (Some v) (λ w. if is_plain w then Some w else None) else None in is_some b)
value_masked true true v is = rw is refl
value_masked true false v is = rw is refl
value_masked false p v is = refl

found_masked : (n : Bool) (o : Option Value) → (let a : Option Value = if n then options.◌>>=◌ (option_map masked_value o) (λ w. if is_plain w then Some w else None) else None in is_some a) ≡ (let b : Option Value = if n then options.◌>>=◌ o (λ w. if is_plain w then Some w else None) else None in is_some b)
found_masked true None = refl
found_masked false None = refl
found_masked n (Some v) = value_masked n (is_plain v) v refl

leaf_left : (a b : Option Value) (left : List Cell) → is_some a ≡ is_some b → left_of (or_refusal a (level_mismatch None) >>= λ v. Ok (v, all_masked left)) ≡ left_masked (left_of (or_refusal b (level_mismatch None) >>= λ v. Ok (v, left)))
leaf_left None None left h = refl
leaf_left None (Some w) left h = absurd cc
leaf_left (Some v) None left h = absurd cc
leaf_left (Some v) (Some w) left h = refl

null_left : (r : Result (List Cell) Fault) → left_of (left_masked r >>= λ left. Ok (null, left)) ≡ left_masked (left_of (r >>= λ left. Ok (null, left)))
null_left (Ok left) = refl
null_left (Err e) = refl

struct_left : (r : Made (List Value)) → left_of (r >>= λ given. Ok (structure (values_of given.0), given.1)) ≡ left_of r
struct_left (Ok given) = refl
struct_left (Err e) = refl

told_made : (name : List ℕ) (r : Made Value) → left_of (refused_as (inside name) r) ≡ refused_as (inside name) (left_of r)
told_made name (Ok given) = refl
told_made name (Err e) = refl

others_left : (v : Value) (r : Made (List Value)) → left_of (r >>= λ others. Ok (v ∷ others.0, others.1)) ≡ left_of r
others_left v (Ok others) = refl
others_left v (Err e) = refl

-- what is left behind a first value and the others
fields_left : (first : Made Value) (next : List Cell → Made (List Value)) → left_of (first >>= λ one. next one.1 >>= λ others. Ok (one.0 ∷ others.0, others.1)) ≡ (left_of first >>= λ left. left_of (next left))
fields_left (Ok one) next = others_left one.0 (next one.1)
fields_left (Err e) next = refl

field_masked : (optional : Bool) (n : Bool) (s : Shape) (level : ℕ) (cells : List Cell) → begins_absent level cells ≡ n → ((m : ℕ) → left_of (made s m (all_masked cells)) ≡ left_masked (left_of (made s m cells))) → left_of (field_made optional (passed s) (made s) level (all_masked cells)) ≡ left_masked (left_of (field_made optional (passed s) (made s) level cells))
field_masked false n s level cells is inner = inner level
field_masked true true s level cells is inner =
    let one : left_of (field_made true (passed s) (made s) level (all_masked cells)) ≡ left_of (passed s level (all_masked cells) >>= λ left. Ok (null, left)) = rw (begins_masked level cells ∙ is) refl in
    let two : left_masked (left_of (field_made true (passed s) (made s) level cells)) ≡ left_masked (left_of (passed s level cells >>= λ left. Ok (null, left))) = rw is refl in
    one ∙ (ap (λ r. left_of (r >>= λ left. Ok (null, left))) (passed_masked s level cells) ∙ (null_left (passed s level cells) ∙ sym two))
field_masked true false s level cells is inner =
    let one : left_of (field_made true (passed s) (made s) level (all_masked cells)) ≡ left_of (made s (level + 1) (all_masked cells)) = rw (begins_masked level cells ∙ is) refl in
    let two : left_masked (left_of (field_made true (passed s) (made s) level cells)) ≡ left_masked (left_of (made s (level + 1) cells)) = rw is refl in
    one ∙ (inner (level + 1) ∙ sym two)

mutual
  made_masked : (s : Shape) (level : ℕ) (cells : List Cell) → left_of (made s level (all_masked cells)) ≡ left_masked (left_of (made s level cells))
  made_masked leaf level [] = refl
  made_masked leaf level (c ∷ cells) = leaf_left (value_in level (masked c)) (value_in level c) cells (found_masked (c.level == level) c.value)
  made_masked (struct fs) level cells = struct_left (made_fields fs level (all_masked cells)) ∙ (made_fields_masked fs level cells ∙ ap left_masked (sym (struct_left (made_fields fs level cells))))

  made_fields_masked : (fs : Fields) (level : ℕ) (cells : List Cell) → left_of (made_fields fs level (all_masked cells)) ≡ left_masked (left_of (made_fields fs level cells))
  made_fields_masked no_fields level cells = refl
  made_fields_masked (field name optional s fs) level cells =
      let theirs = field_made optional (passed s) (made s) level (all_masked cells) in
      let mine = field_made optional (passed s) (made s) level cells in
      let one : left_of theirs ≡ left_masked (left_of mine) = field_masked optional (begins_absent level cells) s level cells refl (λ m. made_masked s m cells) in
      let first : left_of (refused_as (inside name) theirs) ≡ left_masked (left_of (refused_as (inside name) mine)) = told_made name theirs ∙ (ap (refused_as (inside name)) one ∙ (told_left name (left_of mine) ∙ ap left_masked (sym (told_made name mine)))) in
      fields_left (refused_as (inside name) theirs) (λ left. made_fields fs level left) ∙ (ap (λ r. r >>= λ left. left_of (made_fields fs level left)) first ∙ (pass_on (left_of (refused_as (inside name) mine)) (λ left. left_of (made_fields fs level left)) (λ left. made_fields_masked fs level left) ∙ ap left_masked (sym (fields_left (refused_as (inside name) mine) (λ left. made_fields fs level left)))))

row_left : (r : Made Value) → outcome (r >>= λ row. Ok row.0) ≡ outcome (left_of r)
row_left (Ok given) = refl
row_left (Err e) = refl

done_left : (r : Result (List Cell) Fault) → outcome (left_masked r) ≡ outcome r
done_left (Ok left) = refl
done_left (Err e) = refl

row_masked : (s : Shape) (cells : List Cell) → row_tested s (all_masked cells) ≡ row_tested s cells
row_masked s cells = row_left (made s 0 (all_masked cells)) ∙ (ap outcome (made_masked s 0 cells) ∙ (done_left (left_of (made s 0 cells)) ∙ sym (row_left (made s 0 cells))))

-- ---- rows

heads_masked : (css : List (List Cell)) → heads (map all_masked css) ≡ all_masked (heads css)
heads_masked [] = refl
heads_masked ([] ∷ css) = heads_masked css
heads_masked ((c ∷ cs) ∷ css) = ap (λ xs. masked c ∷ xs) (heads_masked css)

tails_masked : (css : List (List Cell)) → map (drop 1) (map all_masked css) ≡ map all_masked (map (drop 1) css)
tails_masked [] = refl
tails_masked ([] ∷ css) = ap (λ xs. [] ∷ xs) (tails_masked css)
tails_masked ((c ∷ cs) ∷ css) = ap (λ xs. all_masked cs ∷ xs) (tails_masked css)

rows_done : {A : Type 0} (first : Result A Fault) (others : Result (List A) Fault) → outcome (first >>= λ row. others >>= λ rest. Ok (row ∷ rest)) ≡ (outcome first >>= λ _. outcome others)
rows_done (Ok row) (Ok rest) = refl
rows_done (Ok row) (Err e) = refl
rows_done (Err e) others = refl

-- the first row is tested, and then the others
pub tested_more : (s : Shape) (n : ℕ) (css : List (List Cell)) → tested s (suc n) css ≡ (row_tested s (heads css) >>= λ _. tested s n (map (drop 1) css))
tested_more s n css = rows_done (row_made s (heads css)) (rows_made s n (map (drop 1) css))

pub tested_masked : (s : Shape) (n : ℕ) (css : List (List Cell)) → tested s n (map all_masked css) ≡ tested s n css
tested_masked s zero css = refl
tested_masked s (suc n) css =
    let first : row_tested s (heads (map all_masked css)) ≡ row_tested s (heads css) = ap (row_tested s) (heads_masked css) ∙ row_masked s (heads css) in
    let others : tested s n (map (drop 1) (map all_masked css)) ≡ tested s n (map (drop 1) css) = ap (tested s n) (tails_masked css) ∙ tested_masked s n (map (drop 1) css) in
    tested_more s n (map all_masked css) ∙ (ap (λ r. r >>= λ _. tested s n (map (drop 1) (map all_masked css))) first ∙ (ap (λ r. row_tested s (heads css) >>= λ _. r) others ∙ sym (tested_more s n css)))
