-- The offsets of a table's rows rise.
use Rattle.std.proofs.Common.{◌≡◌, ℕ, suc, ◌+◌, ◌<◌, ◌≤◌, true, false, List, [], ◌∷◌, ◌++◌, length, map, refl, sym, ap, subst, ◌∙◌, append_assoc, arith, inl, inr, ◌⊎◌}
use Rattle.std.specs.Prelude.{filter}
use Rattle.std.specs.List.{AllByRecursion, flat_map}
use Rattle.std.proofs.lemmas.Bool.{lt-ltb, le-leb, eq-eqb, ne_eqb}
use Rattle.std.proofs.lemmas.Bool.Decides.{nat_tests}
use Rattle.std.proofs.lemmas.List.{map-append}
use Rattle.std.proofs.lemmas.List.Elements.{filter-append}
use Rattle.row_core.specs.Rows.{Row}
use Rattle.table_model.specs.Table.{Entry, files_of, rows}
use Rattle.table_model.specs.Reads.{placed_rows, placed_files, placed_from, placed, is_before, position, is_in_files, is_offset_from, is_offset, end}
use Rattle.table_model.specs.declared.reading.Offset.{Offset}

-- directly behind a row
abbrev pub past : Offset → Offset
past p = record { version = p.version; file = p.file; row = suc p.row }

-- ---- the order of offsets

-- an offset is another one or stands before it
abbrev pub Reaches : Offset → Offset → Type 0
Reaches p q = (p.version < q.version) ⊎ ((p.version ≡ q.version) × ((p.file < q.file) ⊎ ((p.file ≡ q.file) × (p.row ≤ q.row))))

pub reaches_itself : (p : Offset) → Reaches p p
reaches_itself p = inr (refl, inr (refl, omega arith))

pub reaches_past : (p : Offset) → Reaches p (past p)
reaches_past p = inr (refl, inr (refl, omega arith))

pub reaches_on : (p q r : Offset) → Reaches p q → Reaches q r → Reaches p r
reaches_on p q r a b = grind (arith, a, b)

-- what an offset reaches isn't before it
pub not_before : (p q : Offset) → Reaches p q → is_before q p ≡ false
not_before p q a = grind (arith, nat_tests, a)

pub before_past : (p q : Offset) → Reaches p q → is_before p (past q) ≡ true
before_past p q a = grind (arith, nat_tests, a)

-- ---- rows whose offsets rise

-- the first offset is this one or behind it, and each next one is behind the offset before
abbrev pub RisesFrom : Offset → List (Offset × Row) → Type 0
RisesFrom low [] = Unit {0}
RisesFrom low (p ∷ ps) = Reaches low p.0 × RisesFrom (past p.0) ps

pub rises_lower : (low from : Offset) (ps : List (Offset × Row)) → Reaches low from → RisesFrom from ps → RisesFrom low ps
rises_lower low from [] a r = tt
rises_lower low from (p ∷ ps) a r = (reaches_on low from p.0 a r.0, r.1)

abbrev at : (version file row : ℕ) → Offset
at version file row = record { version = version; file = file; row = row }

-- rows of a file whose rows all stand before an offset, and those from this offset on
rises_rows : (version file row : ℕ) (rs : List Row) (after : Offset) (ps : List (Offset × Row)) → ((r : ℕ) → Reaches (at version file r) after) → RisesFrom after ps
    → RisesFrom (at version file row) (placed_rows version file row rs ++ ps)
rises_rows version file row [] after ps behind r = rises_lower (at version file row) after ps (behind row) r
rises_rows version file row (x ∷ rs) after ps behind r = (reaches_itself (at version file row), rises_rows version file (suc row) rs after ps behind r)

rises_files : (version file : ℕ) (files : List (List Row)) (ps : List (Offset × Row)) → RisesFrom (at (suc version) 0 0) ps → RisesFrom (at version file 0) (placed_files version file files ++ ps)
rises_files version file [] ps r = rises_lower (at version file 0) (at (suc version) 0 0) ps (inl (omega arith)) r
rises_files version file (rows ∷ files) ps r =
    subst (λ (qs : List (Offset × Row)). RisesFrom (at version file 0) qs) (sym (append_assoc (placed_rows version file 0 rows) (placed_files version (suc file) files) ps))
    (rises_rows version file 0 rows (at version (suc file) 0) (placed_files version (suc file) files ++ ps) (λ row. inr (refl, inl (omega arith))) (rises_files version (suc file) files ps r))

pub rises_from : (version : ℕ) (entries : List Entry) → RisesFrom (record { version = version; file = 0; row = 0 }) (placed_from version entries)
rises_from version [] = tt
rises_from version (entry ∷ entries) = rises_files version 0 (files_of entry) (placed_from (suc version) entries) (rises_from (suc version) entries)

-- ---- how many rows stand before an offset

low_reaches : (low : Offset) (front : List (Offset × Row)) (p : Offset × Row) (rest : List (Offset × Row)) → RisesFrom low (front ++ p ∷ rest) → Reaches low p.0
low_reaches low [] p rest r = r.0
low_reaches low (x ∷ front) p rest r = reaches_on low x.0 p.0 r.0 (reaches_on x.0 (past x.0) p.0 (reaches_past x.0) (low_reaches (past x.0) front p rest r.1))

pub none_before : (low : Offset) (ps : List (Offset × Row)) → RisesFrom low ps → filter (λ p. is_before p.0 low) ps ≡ []
none_before low [] r = refl
none_before low (p ∷ ps) r =
    let others = none_before low ps (rises_lower low (past p.0) ps (reaches_on low p.0 (past p.0) r.0 (reaches_past p.0)) r.1) in
    rw (not_before low p.0 r.0, others) refl

count_past : (low : Offset) (front : List (Offset × Row)) (p : Offset × Row) (rest : List (Offset × Row)) → RisesFrom low (front ++ p ∷ rest)
    → length (filter (λ q. is_before q.0 (past p.0)) (front ++ p ∷ rest)) ≡ suc (length front)
count_past low [] p rest r = rw (before_past p.0 p.0 (reaches_itself p.0), none_before (past p.0) rest r.1) refl
count_past low (x ∷ front) p rest r =
    let on : Reaches x.0 p.0 = reaches_on x.0 (past x.0) p.0 (reaches_past x.0) (low_reaches (past x.0) front p rest r.1) in
    rw (before_past x.0 p.0 on, count_past (past x.0) front p rest r.1) refl

-- the offset directly behind a row has the row and those before it before it
pub position_past : (entries : List Entry) (front : List (Offset × Row)) (p : Offset × Row) (rest : List (Offset × Row)) → placed entries ≡ front ++ p ∷ rest → position (past p.0) entries ≡ suc (length front)
position_past entries front p rest is =
    let low : Offset = record { version = 0; file = 0; row = 0 } in
    let rises : RisesFrom low (front ++ p ∷ rest) = subst (λ (ps : List (Offset × Row)). RisesFrom low ps) is (rises_from 0 entries) in
    ap (λ (ps : List (Offset × Row)). length (filter (λ q. is_before q.0 (past p.0)) ps)) is ∙ count_past low front p rest rises

rows_before : (version file row : ℕ) (rs : List Row) (e : Offset) → version < e.version → filter (λ p. is_before p.0 e) (placed_rows version file row rs) ≡ placed_rows version file row rs
rows_before version file row [] e lt = refl
rows_before version file row (x ∷ rs) e lt = rw (lt-ltb version e.version lt, rows_before version file (suc row) rs e lt) refl

files_before : (version file : ℕ) (files : List (List Row)) (e : Offset) → version < e.version → filter (λ p. is_before p.0 e) (placed_files version file files) ≡ placed_files version file files
files_before version file [] e lt = refl
files_before version file (rows ∷ files) e lt =
    filter-append (λ (p : Offset × Row). is_before p.0 e) (placed_rows version file 0 rows) (placed_files version (suc file) files) ∙ rw (rows_before version file 0 rows e lt, files_before version (suc file) files e lt) refl

all_before : (version : ℕ) (entries : List Entry) (e : Offset) → version + length entries ≤ e.version → filter (λ p. is_before p.0 e) (placed_from version entries) ≡ placed_from version entries
all_before version [] e le = refl
all_before version (entry ∷ entries) e le =
    let lt : version < e.version = omega arith in
    let later : suc version + length entries ≤ e.version = omega arith in
    filter-append (λ (p : Offset × Row). is_before p.0 e) (placed_files version 0 (files_of entry)) (placed_from (suc version) entries) ∙ rw (files_before version 0 (files_of entry) e lt, all_before (suc version) entries e later) refl

-- the offset behind the log has all rows before it
pub position_end : (entries : List Entry) → position (end entries) entries ≡ length (placed entries)
position_end entries = ap (λ (ps : List (Offset × Row)). length ps) (all_before 0 entries (end entries) (omega arith))

-- ---- the rows alone

rows_alone : (version file row : ℕ) (rs : List Row) → map (λ p. p.1) (placed_rows version file row rs) ≡ rs
rows_alone version file row [] = refl
rows_alone version file row (x ∷ rs) = ap (λ (ys : List Row). x ∷ ys) (rows_alone version file (suc row) rs)

files_alone : (version file : ℕ) (files : List (List Row)) → map (λ p. p.1) (placed_files version file files) ≡ flat_map (λ rows. rows) files
files_alone version file [] = refl
files_alone version file (rows ∷ files) = map-append (λ (p : Offset × Row). p.1) (placed_rows version file 0 rows) (placed_files version (suc file) files) ∙ rw (rows_alone version file 0 rows, files_alone version (suc file) files) refl

rows_from : (version : ℕ) (entries : List Entry) → map (λ p. p.1) (placed_from version entries) ≡ rows entries
rows_from version [] = refl
rows_from version (entry ∷ entries) =
    map-append (λ (p : Offset × Row). p.1) (placed_files version 0 (files_of entry)) (placed_from (suc version) entries) ∙ rw (files_alone version 0 (files_of entry), rows_from (suc version) entries) refl

pub rows-placed : (entries : List Entry) → map (λ p. p.1) (placed entries) ≡ rows entries
rows-placed entries = rows_from 0 entries

-- ---- offsets that a read can begin at

each_append : (P : Offset × Row → Type 0) (xs ys : List (Offset × Row)) → AllByRecursion P xs → AllByRecursion P ys → AllByRecursion P (xs ++ ys)
each_append P [] ys a b = b
each_append P (x ∷ xs) ys a b = (a.0, each_append P xs ys a.1 b)

each_implies : (P Q : Offset × Row → Type 0) → ((p : Offset × Row) → P p → Q p) → (xs : List (Offset × Row)) → AllByRecursion P xs → AllByRecursion Q xs
each_implies P Q f [] a = tt
each_implies P Q f (x ∷ xs) a = (f x a.0, each_implies P Q f xs a.1)

each_at : (P : Offset × Row → Type 0) (xs : List (Offset × Row)) (p : Offset × Row) (ys : List (Offset × Row)) → AllByRecursion P (xs ++ p ∷ ys) → P p
each_at P [] p ys a = a.0
each_at P (x ∷ xs) p ys a = each_at P xs p ys a.1

-- the offset behind a row is one of this version's files, of which these are the files from this one on
abbrev InFiles : (version file : ℕ) → List (List Row) → Offset × Row → Type 0
InFiles version file files p = (p.0.version ≡ version) × (k : ℕ) × (p.0.file ≡ file + k) × (is_in_files k (suc p.0.row) files ≡ true)

each_in_rows : (version file row : ℕ) (rs rows : List Row) (files : List (List Row)) → row + length rs ≤ length rows → AllByRecursion (InFiles version file (rows ∷ files)) (placed_rows version file row rs)
each_in_rows version file row [] rows files le = tt
each_in_rows version file row (x ∷ rs) rows files le =
    ((refl, 0, omega arith, le-leb (suc row) (length rows) (omega arith)), each_in_rows version file (suc row) rs rows files (omega arith))

in_later : (version file : ℕ) (rows : List Row) (files : List (List Row)) (p : Offset × Row) → InFiles version (suc file) files p → InFiles version file (rows ∷ files) p
in_later version file rows files p h = (h.0, suc h.1, omega (arith, h.2), h.3)

each_in_files : (version file : ℕ) (files : List (List Row)) → AllByRecursion (InFiles version file files) (placed_files version file files)
each_in_files version file [] = tt
each_in_files version file (rows ∷ files) = each_append (InFiles version file (rows ∷ files)) (placed_rows version file 0 rows) (placed_files version (suc file) files)
    (each_in_rows version file 0 rows rows files (omega arith))
    (each_implies (InFiles version (suc file) files) (InFiles version file (rows ∷ files)) (in_later version file rows files) (placed_files version (suc file) files) (each_in_files version (suc file) files))

-- the offset behind a row is one that a read can begin at
abbrev IsGood : ℕ → List Entry → Offset × Row → Type 0
IsGood version entries p = (version ≤ p.0.version) × (is_offset_from version (past p.0) entries ≡ true)

good_in_files : (version : ℕ) (entry : Entry) (entries : List Entry) (p : Offset × Row) → InFiles version 0 (files_of entry) p → IsGood version (entry ∷ entries) p
good_in_files version entry entries p h =
    let at_file : h.1 ≡ p.0.file = omega (arith, h.2) in
    let inside : is_in_files p.0.file (suc p.0.row) (files_of entry) ≡ true = subst (λ (k : ℕ). is_in_files k (suc p.0.row) (files_of entry) ≡ true) at_file h.3 in
    (omega (arith, h.0), rw (eq-eqb p.0.version version h.0) inside)

good_later : (version : ℕ) (entry : Entry) (entries : List Entry) (p : Offset × Row) → IsGood (suc version) entries p → IsGood version (entry ∷ entries) p
good_later version entry entries p h =
    let other : p.0.version ≡ version → ⊥ = λ e. omega (arith, h.0, e) in
    (omega (arith, h.0), rw (ne_eqb p.0.version version other) h.1)

each_good : (version : ℕ) (entries : List Entry) → AllByRecursion (IsGood version entries) (placed_from version entries)
each_good version [] = tt
each_good version (entry ∷ entries) = each_append (IsGood version (entry ∷ entries)) (placed_files version 0 (files_of entry)) (placed_from (suc version) entries)
    (each_implies (InFiles version 0 (files_of entry)) (IsGood version (entry ∷ entries)) (good_in_files version entry entries) (placed_files version 0 (files_of entry)) (each_in_files version 0 (files_of entry)))
    (each_implies (IsGood (suc version) entries) (IsGood version (entry ∷ entries)) (good_later version entry entries) (placed_from (suc version) entries) (each_good (suc version) entries))

pub past_is_offset : (entries : List Entry) (front : List (Offset × Row)) (p : Offset × Row) (rest : List (Offset × Row)) → placed entries ≡ front ++ p ∷ rest → is_offset (past p.0) entries ≡ true
past_is_offset entries front p rest is =
    let all : AllByRecursion (IsGood 0 entries) (front ++ p ∷ rest) = subst (λ (ps : List (Offset × Row)). AllByRecursion (IsGood 0 entries) ps) is (each_good 0 entries) in
    (each_at (IsGood 0 entries) front p rest all).1

end_from : (version : ℕ) (entries : List Entry) (e : Offset) → e.version ≡ version + length entries → e.file ≡ 0 → e.row ≡ 0 → is_offset_from version e entries ≡ true
end_from version [] e at file row = let here : e.version ≡ version = omega arith in rw (eq-eqb e.version version here, file, row) refl
end_from version (entry ∷ entries) e at file row =
    let later : e.version ≡ version → ⊥ = λ h. omega arith in
    let there : e.version ≡ suc version + length entries = omega arith in
    rw (ne_eqb e.version version later) (end_from (suc version) entries e there file row)

pub end_is_offset : (entries : List Entry) → is_offset (end entries) entries ≡ true
end_is_offset entries = end_from 0 entries (end entries) (omega arith) refl refl
