-- The files that a log leaves have its rows.
use Rattle.std.proofs.Common.{◌≡◌, ℕ, ◌+◌, Bool, List, [], ◌∷◌, ◌++◌, map, refl, sym, ap, subst, ◌∙◌, append_assoc, arith, cond}
use Rattle.std.specs.Prelude.{filter, not}
use Rattle.std.specs.List.{count_by, sum_by}
use Rattle.std.proofs.lemmas.List.{append-nil}
use Rattle.std.proofs.lemmas.List.Concat.{flat_map-append}
use Rattle.std.proofs.lemmas.List.Filters.{sum_by-filter_both}
use Rattle.std.proofs.lemmas.List.Sums.{sum_by-append, sum_by-cons}
use Rattle.row_core.specs.Rows.{Row, same}
use Rattle.table_model.specs.Table.{FileName, Batch, File, Entry, creation, group, close, gives, takes, batch_file, entry_rows, rows}
use Rattle.table_model.specs.Live.{is_path_among, rows_of_files, live, live_behind, live_from, SameCounts}
use Rattle.table_model.specs.Lawful.{IsLawful, Suits}

-- what each entry of a lawful table keeps so is so of the table
pub along : (P : List Entry → Type 0) → P [] → ((front rest : List Entry) (e : Entry) → IsLawful (front ++ e ∷ rest) → P front → P (front ++ e ∷ [])) → (entries : List Entry) → IsLawful entries → P entries
along P none kept entries lawful = on [] entries lawful none
  where
    on : (front rest : List Entry) → IsLawful (front ++ rest) → P front → P (front ++ rest)
    on front [] whole is = subst P (sym (append-nil front)) is
    on front (e ∷ rest) whole is =
        let joined : (front ++ e ∷ []) ++ rest ≡ front ++ e ∷ rest = append_assoc front (e ∷ []) rest in
        subst P joined (on (front ++ e ∷ []) rest (subst IsLawful (sym joined) whole) (kept front rest e whole is))

live_from-push : (files : List File) (entries : List Entry) (e : Entry) → live_from files (entries ++ e ∷ []) ≡ live_behind (live_from files entries) e
live_from-push files [] e = refl
live_from-push files (x ∷ entries) e = live_from-push (live_behind files x) entries e

pub live-push : (entries : List Entry) (e : Entry) → live (entries ++ e ∷ []) ≡ live_behind (live entries) e
live-push entries e = live_from-push [] entries e

-- the files among these that have one of the paths
abbrev at_paths : List FileName → List File → List File
at_paths paths files = filter (λ f. is_path_among paths f.path) files

-- and those that have none of them
abbrev pub without : List FileName → List File → List File
without paths files = filter (λ f. not (is_path_among paths f.path)) files

-- ---- rows with counts

abbrev count : Row → List Row → ℕ
count row xs = count_by (λ r. same r row) xs

count-append : (row : Row) (xs ys : List Row) → count row (xs ++ ys) ≡ count row xs + count row ys
count-append row xs ys = sum_by-append (λ (r : Row). cond (same r row) 1 0) xs ys

-- a row is counted in each file
count-files : (row : Row) (files : List File) → count row (rows_of_files files) ≡ sum_by (λ f. count row f.rows) files
count-files row [] = refl
count-files row (f ∷ files) = omega (arith, count-append row f.rows (rows_of_files files), count-files row files, sum_by-cons (λ (g : File). count row g.rows) f files)

-- what is taken and what is left are all
parted : (row : Row) (taken : List FileName) (files : List File) → count row (rows_of_files files) ≡ count row (rows_of_files (at_paths taken files)) + count row (rows_of_files (without taken files))
parted row taken files =
    let is_taken : File → Bool = λ f. is_path_among taken f.path in
    let both = sum_by-filter_both is_taken (λ f. not (is_taken f)) (λ f. refl) (λ (f : File). count row f.rows) files in
    omega (arith, both, count-files row files, count-files row (at_paths taken files), count-files row (without taken files))

none_taken : (files : List File) → at_paths [] files ≡ []
none_taken [] = refl
none_taken (f ∷ files) = none_taken files

-- the files of batches have just their new rows
batch_rows : (bs : List Batch) → rows_of_files (map batch_file bs) ≡ entry_rows (group bs)
batch_rows [] = refl
batch_rows (b ∷ bs) = ap (λ (rs : List Row). b.rows ++ rs) (batch_rows bs)

-- an entry gives the rows that it takes, and its new ones
balance : (before : List Entry) (e : Entry) (row : Row) → Suits before e → count row (rows_of_files (gives e)) ≡ count row (rows_of_files (at_paths (takes e) (live before))) + count row (entry_rows e)
balance before creation row suits = rw (none_taken (live before)) refl
balance before (group bs) row suits = let new = ap (count row) (batch_rows bs) in rw (none_taken (live before)) (omega (arith, new))
balance before (close application) row suits = rw (none_taken (live before)) refl

-- one more entry
pub live_kept : (entries : List Entry) (e : Entry) → Suits entries e → SameCounts (rows_of_files (live entries)) (rows entries) → SameCounts (rows_of_files (live (entries ++ e ∷ []))) (rows (entries ++ e ∷ []))
live_kept entries e suits before row =
    let left = without (takes e) (live entries) in
    let now = ap (λ (files : List File). count row (rows_of_files files)) (live-push entries e) ∙ ap (count row) (flat_map-append (λ (f : File). f.rows) left (gives e)) ∙ count-append row (rows_of_files left) (rows_of_files (gives e)) in
    let all = ap (count row) (flat_map-append entry_rows entries (e ∷ [])) ∙ count-append row (rows entries) (entry_rows e ++ []) ∙ ap (λ (rs : List Row). count row (rows entries) + count row rs) (append-nil (entry_rows e)) in
    omega (arith, now, parted row (takes e) (live entries), balance entries e row suits, before row, all)

pub live_is_rows : (entries : List Entry) → IsLawful entries → SameCounts (rows_of_files (live entries)) (rows entries)
live_is_rows = along (λ entries. SameCounts (rows_of_files (live entries)) (rows entries)) (λ row. refl) (λ front rest e lawful before. live_kept front e (lawful.suits front rest e refl) before)
