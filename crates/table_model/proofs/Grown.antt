-- A table that grows keeps its rows and its offsets, and what stands before them.
use Rattle.std.proofs.Common.{◌≡◌, ℕ, suc, ◌+◌, Bool, true, false, eqb, List, [], ◌∷◌, ◌++◌, length, map, refl, sym, ap, ◌∙◌, append_assoc, arith, inl, inr}
use Rattle.std.specs.Prelude.{filter}
use Rattle.std.proofs.lemmas.Bool.{cases_Bool, eq-eqb, eqb-true, le-leb}
use Rattle.std.proofs.lemmas.Bool.Decides.{nat_tests}
use Rattle.std.proofs.lemmas.List.{append-nil}
use Rattle.std.proofs.lemmas.List.Concat.{flat_map-append}
use Rattle.std.proofs.lemmas.List.Elements.{filter-append}
use Rattle.row_core.specs.Rows.{Row}
use Rattle.table_model.specs.Table.{Entry, files_of, entry_rows, rows}
use Rattle.table_model.specs.Reads.{handed, placed_files, placed_from, placed, is_before, position, is_in_files, is_offset_from, is_offset, is_beyond, end, rows_from_offset, next_offset, read}
use Rattle.table_model.specs.Resumed.{beginning}
use Rattle.table_model.specs.declared.reading.Offset.{Offset}
use Rattle.table_model.proofs.Places.{Reaches, rises_from, rises_lower, none_before}

-- ---- the rows of joined entries

pub rows-append : (entries more : List Entry) → rows (entries ++ more) ≡ rows entries ++ rows more
rows-append entries more = flat_map-append entry_rows entries more

placed_from-append : (version to : ℕ) (entries more : List Entry) → to ≡ version + length entries → placed_from version (entries ++ more) ≡ placed_from version entries ++ placed_from to more
placed_from-append version to [] more at = let here : to ≡ version = omega arith in ap (λ (n : ℕ). placed_from n more) (sym here)
placed_from-append version to (entry ∷ entries) more at =
    let later : to ≡ suc version + length entries = omega arith in
    ap (λ (ps : List (Offset × Row)). placed_files version 0 (files_of entry) ++ ps) (placed_from-append (suc version) to entries more later)
    ∙ sym (append_assoc (placed_files version 0 (files_of entry)) (placed_from (suc version) entries) (placed_from to more))

-- ---- an offset stays one

-- the start of a version, whatever its files
start_in_files : (files : List (List Row)) → is_in_files 0 0 files ≡ true
start_in_files [] = refl
start_in_files (rows ∷ files) = le-leb 0 (length rows) (omega arith)

record IsStart (version : ℕ) (offset : Offset) : Type 0 where
  at : offset.version ≡ version
  file : offset.file ≡ 0
  row : offset.row ≡ 0

is_start : (version : ℕ) (offset : Offset) → is_offset_from version offset [] ≡ true → IsStart version offset
is_start version offset e = record { at = grind (arith, nat_tests, e); file = grind (arith, nat_tests, e); row = grind (arith, nat_tests, e) }

stays_from : (version : ℕ) (offset : Offset) (entries more : List Entry) → is_offset_from version offset entries ≡ true → is_offset_from version offset (entries ++ more) ≡ true
stays_from version offset [] [] e = e
stays_from version offset [] (entry ∷ more) e =
    let start = is_start version offset e in
    rw (eq-eqb offset.version version start.at, start.file, start.row) (start_in_files (files_of entry))
stays_from version offset (entry ∷ entries) more e =
    elim (cases_Bool (eqb offset.version version)) [
      | inl yes_ ↦ let inside : is_in_files offset.file offset.row (files_of entry) ≡ true = rw yes_ at e in rw yes_ inside
      | inr no_ ↦ let on : is_offset_from (suc version) offset entries ≡ true = rw no_ at e in rw no_ (stays_from (suc version) offset entries more on)
    ]

pub place_stays : (offset : Offset) (entries more : List Entry) → is_offset offset entries ≡ true → is_offset offset (entries ++ more) ≡ true
place_stays offset entries more good = stays_from 0 offset entries more good

-- ---- as many rows stand before it

reaches_end_from : (version to : ℕ) (offset : Offset) (entries : List Entry) → to ≡ version + length entries → is_offset_from version offset entries ≡ true → Reaches offset (record { version = to; file = 0; row = 0 })
reaches_end_from version to offset [] at e = let start = is_start version offset e in inr (omega (arith, at, start.at), inr (start.file, omega (arith, start.row)))
reaches_end_from version to offset (entry ∷ entries) at e =
    elim (cases_Bool (eqb offset.version version)) [
      | inl yes_ ↦ inl (omega (arith, at, eqb-true offset.version version yes_))
      | inr no_ ↦
          let on : is_offset_from (suc version) offset entries ≡ true = rw no_ at e in
          let later : to ≡ suc version + length entries = omega arith in
          reaches_end_from (suc version) to offset entries later on
    ]

reaches_end : (offset : Offset) (entries : List Entry) → is_offset offset entries ≡ true → Reaches offset (end entries)
reaches_end offset entries good = reaches_end_from 0 (length entries) offset entries (omega arith) good

-- the rows of later entries stand behind it
none_later : (offset : Offset) (entries more : List Entry) → is_offset offset entries ≡ true → filter (λ p. is_before p.0 offset) (placed_from (length entries) more) ≡ []
none_later offset entries more good =
    let later = placed_from (length entries) more in
    none_before offset later (rises_lower offset (end entries) later (reaches_end offset entries good) (rises_from (length entries) more))

pub position_stays : (offset : Offset) (entries more : List Entry) → is_offset offset entries ≡ true → position offset (entries ++ more) ≡ position offset entries
position_stays offset entries more good =
    let early : Offset × Row → Bool = λ p. is_before p.0 offset in
    let some = filter early (placed entries) in
    let joined : placed (entries ++ more) ≡ placed entries ++ placed_from (length entries) more = placed_from-append 0 (length entries) entries more (omega arith) in
    let same : filter early (placed (entries ++ more)) ≡ some =
    ap (λ (ps : List (Offset × Row)). filter early ps) joined ∙ filter-append early (placed entries) (placed_from (length entries) more)
    ∙ ap (λ (ps : List (Offset × Row)). some ++ ps) (none_later offset entries more good) ∙ append-nil some in
    ap (λ (ps : List (Offset × Row)). length ps) same

pub stays : (offset : Offset) (entries more : List Entry) → is_offset offset entries ≡ true → (is_offset offset (entries ++ more) ≡ true) × (position offset (entries ++ more) ≡ position offset entries)
stays offset entries more good = (place_stays offset entries more good, position_stays offset entries more good)

-- ---- a read from an offset is answered

near : (offset : Offset) (entries : List Entry) → Reaches offset (end entries) → is_beyond offset entries ≡ false
near offset entries a = grind (arith, nat_tests, a)

pub is_answered : (max : ℕ) (offset : Offset) (entries more : List Entry) → is_offset offset entries ≡ true → (out : List Row) × (next : Offset) × (read max offset (entries ++ more) ≡ handed out next)
is_answered max offset entries more good =
    let table = entries ++ more in
    let there = place_stays offset entries more good in
    let close_by = near offset table (reaches_end offset table there) in
    (map (λ p. p.1) (rows_from_offset max offset table), next_offset max offset table, rw (close_by, there) refl)

-- ---- the offset before all rows

pub beginning_is_offset : (entries : List Entry) → is_offset beginning entries ≡ true
beginning_is_offset [] = refl
beginning_is_offset (entry ∷ entries) = start_in_files (files_of entry)

pub position_beginning : (entries : List Entry) → position beginning entries ≡ 0
position_beginning entries = ap (λ (ps : List (Offset × Row)). length ps) (none_before beginning (placed entries) (rises_from 0 entries))
