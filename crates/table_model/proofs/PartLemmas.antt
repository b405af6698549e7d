-- Parts of a table: what a read hands out is one, and those that follow one another are one.
use Rattle.std.proofs.Common.{◌≡◌, ℕ, ◌+◌, ◌-◌, ◌<◌, ◌≤◌, Bool, true, false, List, [], ◌++◌, length, take, drop, refl, sym, ap, ◌∙◌, arith, inl, inr, ◌⊎◌, length-append, length-take, length-drop}
use Rattle.std.proofs.Math.Seq.{take-add}
use Rattle.std.proofs.lemmas.Bool.{false≢true}
use Rattle.std.proofs.lemmas.List.{drop-drop, take-append-le, drop-append-le, take_all}
use Rattle.row_core.specs.Rows.{Row}
use Rattle.table_model.specs.Table.{Entry, rows}
use Rattle.table_model.specs.Reads.{handed, position, is_offset, end, read, IsPart, MayEnd}
use Rattle.table_model.specs.Resumed.{beginning}
use Rattle.table_model.specs.declared.reading.Offset.{Offset}
use Rattle.table_model.proofs.Places.{position_end}
use Rattle.table_model.proofs.Read.{is_handed, position-within, length-rows, rows_between, next_is_offset, at_end, at_most}
use Rattle.table_model.proofs.Grown.{rows-append, place_stays, position_stays, position_beginning}

pub position_in_rows : (offset : Offset) (entries : List Entry) → position offset entries ≤ length (rows entries)
position_in_rows offset entries = omega (arith, position-within offset entries, length-rows entries)

length_at_end : (entries : List Entry) → position (end entries) entries ≡ length (rows entries)
length_at_end entries = position_end entries ∙ sym (length-rows entries)

-- ---- what a read hands out

pub read_is_part : (max : ℕ) (offset next : Offset) (entries : List Entry) (out : List Row) → read max offset entries ≡ handed out next → IsPart max offset out next entries
read_is_part max offset next entries out e =
    let from = position offset entries in
    let on = next_is_offset max offset next entries out e in
    let between = rows_between max offset next entries out e in
    let many = position next entries - from in
    let inside : many ≤ length (drop from (rows entries)) = omega (arith, on.0, position_in_rows next entries, length-drop from (rows entries)) in
    let count : length out ≡ many = omega (arith, ap (λ (rs : List Row). length rs) between, length-take many (drop from (rows entries)), inside) in
    record {
      begins = (is_handed max offset next entries out e).stands;
      ends = on.1;
      onward = omega (arith, on.0, count);
      same = between ∙ ap (λ (n : ℕ). take n (drop from (rows entries))) (sym count);
      most = at_most max offset next entries out e;
    }

pub read_ends : (max : ℕ) (offset next : Offset) (entries : List Entry) (out : List Row) → read max offset entries ≡ handed out next → MayEnd false max out next entries
read_ends max offset next entries out e =
    elim (at_end max offset next entries out e) [
      | inl full ↦ inl full
      | inr done ↦ inr (inl done)
    ]

-- ---- parts that follow one another

pub no_part : (max : ℕ) (offset : Offset) (entries : List Entry) → is_offset offset entries ≡ true → IsPart max offset [] offset entries
no_part max offset entries good = record { begins = good; ends = good; onward = omega arith; same = refl; most = omega arith }

-- the first rows from an offset on are the same in a table that grew
rows_stay : (from many : ℕ) (xs ys : List Row) → from + many ≤ length xs → take many (drop from (xs ++ ys)) ≡ take many (drop from xs)
rows_stay from many xs ys within =
    let inside : from ≤ length xs = omega arith in
    let left : many ≤ length (drop from xs) = omega (arith, length-drop from xs) in
    ap (λ (zs : List Row). take many zs) (drop-append-le from xs ys inside) ∙ take-append-le many (drop from xs) ys left

pub part_stays : (max : ℕ) (offset next : Offset) (entries more : List Entry) (out : List Row) → IsPart max offset out next entries → IsPart max offset out next (entries ++ more)
part_stays max offset next entries more out part =
    let from = position offset entries in
    let begin = position_stays offset entries more part.begins in
    let within : from + length out ≤ length (rows entries) = omega (arith, part.onward, position_in_rows next entries) in
    record {
      begins = place_stays offset entries more part.begins;
      ends = place_stays next entries more part.ends;
      onward = position_stays next entries more part.ends ∙ part.onward ∙ ap (λ (n : ℕ). n + length out) (sym begin);
      same = part.same ∙ sym (rows_stay from (length out) (rows entries) (rows more) within) ∙ ap (λ (rs : List Row). take (length out) (drop from rs)) (sym (rows-append entries more))
          ∙ ap (λ (n : ℕ). take (length out) (drop n (rows (entries ++ more)))) (sym begin);
      most = part.most;
    }

joined : (m n : ℕ) (offset mid next : Offset) (entries : List Entry) (xs ys : List Row) → IsPart m offset xs mid entries → IsPart n mid ys next entries → IsPart (m + n) offset (xs ++ ys) next entries
joined m n offset mid next entries xs ys one other =
    let from = position offset entries in
    let all = rows entries in
    let long = length-append xs ys in
    let second : drop (length xs) (drop from all) ≡ drop (position mid entries) all = drop-drop (length xs) from all ∙ ap (λ (k : ℕ). drop k all) (sym one.onward) in
    let whole : take (length xs + length ys) (drop from all) ≡ take (length xs) (drop from all) ++ take (length ys) (drop (position mid entries) all) =
    take-add (length xs) (length ys) (drop from all) ∙ ap (λ (rs : List Row). take (length xs) (drop from all) ++ take (length ys) rs) second in
    let parts : xs ++ ys ≡ take (length xs) (drop from all) ++ take (length ys) (drop (position mid entries) all) =
    ap (λ (rs : List Row). rs ++ ys) one.same ∙ ap (λ (rs : List Row). take (length xs) (drop from all) ++ rs) other.same in
    record {
      begins = one.begins;
      ends = other.ends;
      onward = omega (arith, one.onward, other.onward, long);
      same = parts ∙ sym whole ∙ ap (λ (k : ℕ). take k (drop from all)) (sym long);
      most = omega (arith, one.most, other.most, long);
    }

pub parts_join : (m n : ℕ) (offset mid next : Offset) (entries more : List Entry) (xs ys : List Row) → IsPart m offset xs mid entries → IsPart n mid ys next (entries ++ more) → IsPart (m + n) offset (xs ++ ys) next (entries ++ more)
parts_join m n offset mid next entries more xs ys one other = joined m n offset mid next (entries ++ more) xs ys (part_stays m offset mid entries more xs one) other

-- ---- which rows a part has

-- as many as lie between its offsets
pub part_between : (max : ℕ) (offset next : Offset) (entries : List Entry) (out : List Row) → IsPart max offset out next entries
    → out ≡ take (position next entries - position offset entries) (drop (position offset entries) (rows entries))
part_between max offset next entries out part =
    let count : length out ≡ position next entries - position offset entries = omega (arith, part.onward) in
    part.same ∙ ap (λ (n : ℕ). take n (drop (position offset entries) (rows entries))) count

pub front_of_rows : (max : ℕ) (next : Offset) (entries : List Entry) (out : List Row) → IsPart max beginning out next entries → out ≡ take (position next entries) (rows entries)
front_of_rows max next entries out part =
    let none = position_beginning entries in
    let count : length out ≡ position next entries = omega (arith, part.onward, none) in
    part.same ∙ ap (λ (n : ℕ). take (length out) (drop n (rows entries))) none ∙ ap (λ (n : ℕ). take n (rows entries)) count

pub all_rows : (max : ℕ) (entries : List Entry) (out : List Row) → IsPart max beginning out (end entries) entries → out ≡ rows entries
all_rows max entries out part = front_of_rows max (end entries) entries out part ∙ take_all (position (end entries) entries) (rows entries) (omega (arith, length_at_end entries))

-- a read that no fault ended hands out as many rows as it may, or all
full_count : (max : ℕ) (offset next : Offset) (entries : List Entry) (out : List Row) → IsPart max offset out next entries → MayEnd false max out next entries
    → (length out ≡ max) ⊎ (position offset entries + length out ≡ length (rows entries))
full_count max offset next entries out part ending =
    elim ending [
      | inl full ↦ inl full
      | inr other ↦ elim other [
        | inl done ↦ inr (sym part.onward ∙ ap (λ (p : Offset). position p entries) done ∙ length_at_end entries)
        | inr fault ↦ absurd (false≢true fault.0)
      ]
    ]

pub only_part : (max : ℕ) (offset p q : Offset) (entries : List Entry) (xs ys : List Row) → IsPart max offset xs p entries → MayEnd false max xs p entries → IsPart max offset ys q entries → MayEnd false max ys q entries
    → (xs ≡ ys) × (position p entries ≡ position q entries)
only_part max offset p q entries xs ys one one_ends other other_ends =
    let first = full_count max offset p entries xs one one_ends in
    let second = full_count max offset q entries ys other other_ends in
    let count : length xs ≡ length ys = grind (arith, first, second, one.most, other.most, one.onward, other.onward, position_in_rows p entries, position_in_rows q entries) in
    (one.same ∙ ap (λ (n : ℕ). take n (drop (position offset entries) (rows entries))) count ∙ sym other.same, omega (arith, one.onward, other.onward, count))

pub further : (faulty : Bool) (max : ℕ) (offset next : Offset) (entries : List Entry) (out : List Row) → 0 < max → IsPart max offset out next entries → MayEnd faulty max out next entries
    → (position offset entries < position next entries) ⊎ (next ≡ end entries)
further faulty max offset next entries out some part ending =
    elim ending [
      | inl full ↦ inl (omega (arith, some, full, part.onward))
      | inr other ↦ elim other [
        | inl done ↦ inr done
        | inr early ↦ inl (omega (arith, early.1, part.onward))
      ]
    ]
