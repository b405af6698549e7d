-- A read of the front of a log that hands out as many rows as it may is one of the whole log.
use Rattle.std.proofs.Common.{◌≡◌, ◌∙◌, ◌<◌, ◌≤◌, ◌+◌, ◌-◌, ◌++◌, ℕ, zero, suc, Bool, true, false, min, List, [], ◌∷◌, filter, length, not, take, Option, Some, None, Result, Ok, Err, refl, sym, ap, append_assoc, length-append, length-take, inl, inr, arith}
use Rattle.std.specs.Prelude.{slice_get, if◌then◌else◌}
use Rattle.std.proofs.lemmas.Bool.{cases_Bool, cases_lt, le-ltb, ne_eqb}
use Rattle.std.proofs.lemmas.List.Elements.{filter-append}
use Rattle.outcomes.specs.Results.{◌>>=◌, or_refusal}
use Rattle.store_core.specs.Objects.{Objects, object_at}
use Rattle.schema_tree.specs.Tree.{Tree}
use Rattle.source_core.specs.ParquetReading.{rows_at}
use Rattle.row_core.specs.Rows.{Row}
use Rattle.table_model.specs.declared.reading.Offset.{Offset}
use Rattle.table_log.specs.Versions.{Version, missing, unreadable, commit}
use Rattle.log_reading.specs.InForce.{SchemaText}
use Rattle.log_reading.specs.Reads.{first_from, first_standing}
use Rattle.source_core.specs.Groups.{new_files}
use Rattle.source_core.specs.Tailing.{Item, LogFile, ReadRefusal, ReadRows, actions_in, data_file, end_of, ended_read, fault_of_version, file_rows, found_at, hand, hand_on, handed_by, is_done, is_start, item_before, items_at, items_from, items_in, missing_file, offset_behind_rows, or_bad_file, paths_in, rows_behind, rows_left_of_file, unless_beyond, unless_gone, unless_no_file, unless_removed, version_fault}

-- ---- steps of which one may be refused

-- where all is fine, so is what follows a step
step_done : {A E : Type 0} (step : Result (Unit {0}) E) (onward : Unit {0} → Result A E) (a : A) → (step >>= onward) ≡ Ok a → onward tt ≡ Ok a
step_done (Ok done) onward a is = is
step_done (Err e) onward a is = absurd cc

-- where one thing that follows a step is fine, another is that follows it in its place
step_on : {A B E : Type 0} (step : Result A E) (one other : A → Result B E) (b : B) → ((a : A) → one a ≡ Ok b → other a ≡ Ok b) → (step >>= one) ≡ Ok b → (step >>= other) ≡ Ok b
step_on (Ok a) one other b fine is = fine a is
step_on (Err e) one other b fine is = absurd cc

-- and it follows just as well a step that hands on the same
step_whole : {A B E : Type 0} (part whole : Result A E) (onward : A → Result B E) (b : B) → ((a : A) → part ≡ Ok a → whole ≡ Ok a) → (part >>= onward) ≡ Ok b → (whole >>= onward) ≡ Ok b
step_whole (Ok a) whole onward b more is = rw (more a refl) is
step_whole (Err e) whole onward b more is = absurd cc

-- what is found in a part is found in the whole
found_whole : {A E : Type 0} (part whole : Option A) (refusal : E) (a : A) → ((x : A) → part ≡ Some x → whole ≡ Some x) → or_refusal part refusal ≡ Ok a → or_refusal whole refusal ≡ Ok a
found_whole None whole refusal a more is = absurd cc
found_whole (Some x) whole refusal a more is = rw (more x refl) is

-- ---- the rows of files

-- a file that is read in front is read in all
pub file_whole : (ahead objects : Objects) → ((name bytes : List ℕ) → object_at ahead name ≡ Some bytes → object_at objects name ≡ Some bytes) → (schema : Tree) (file : LogFile) (rows : List Row)
    → file_rows ahead schema file ≡ Ok rows → file_rows objects schema file ≡ Ok rows
unfolding file_rows
file_whole ahead objects whole schema file rows is =
    step_whole (or_refusal (object_at ahead file.path.key) (missing_file file.path.text)) (or_refusal (object_at objects file.path.key) (missing_file file.path.text)) (λ bytes. or_bad_file file (rows_at bytes schema)) rows
    (λ bytes. found_whole (object_at ahead file.path.key) (object_at objects file.path.key) (missing_file file.path.text) bytes (whole file.path.key)) is

-- where no row is to be passed over when none is to be handed out, a read is done that may hand out none
all_done : (most skip : ℕ) → (most ≡ 0 → skip ≡ 0) → most ≡ 0 → is_done most skip ≡ true
all_done most skip none no_more = rw (none no_more, no_more) refl

-- where nothing more is to be handed out, it doesn't matter which items follow
hand_done : (objects : Objects) (schema : Tree) (end : Offset) (most skip : ℕ) (rows : List Row) (next : Offset) (items : List Item) → is_done most skip ≡ true → hand objects schema end most skip rows next items ≡ Ok (record { rows = rows; next = next })
unfolding hand
hand_done objects schema end most skip rows next [] done = rw done refl
hand_done objects schema end most skip rows next (data_file f ∷ items) done = rw done refl
hand_done objects schema end most skip rows next (version_fault version refusal ∷ items) done = rw done refl

-- a fault hands out no more rows
ended_rows : (rows : List Row) (next : Offset) (refusal : ReadRefusal) (out : ReadRows) → ended_read rows next refusal ≡ Ok out → out.rows ≡ rows
ended_rows [] next refusal out is = absurd cc
ended_rows (row ∷ rows) next refusal out is = let same : out ≡ record { rows = row ∷ rows; next = next } = cc in ap (λ (r : ReadRows). r.rows) same

-- so none ends a read that hands out as many rows as it may
not_ended : (most skip : ℕ) (rows : List Row) (next : Offset) (refusal : ReadRefusal) (out : ReadRows) → (most ≡ 0 → skip ≡ 0) → is_done most skip ≡ false
    → length out.rows ≡ length rows + most → ended_read rows next refusal ≡ Ok out → ⊥
not_ended most skip rows next refusal out none more full is =
    let same : length out.rows ≡ length rows = ap (λ (rs : List Row). length rs) (ended_rows rows next refusal out is) in
    let wrong : false ≡ true = sym more ∙ all_done most skip none (omega (arith, same, full)) in
    cc

module _ (ahead objects : Objects) (whole : (name bytes : List ℕ) → object_at ahead name ≡ Some bytes → object_at objects name ≡ Some bytes) (schema : Tree) (end other : Offset) where
  -- a file that is read in front is read in all, and the read goes on behind it
  file_more : (f : LogFile) (items more : List Item) (most skip : ℕ) (rows : List Row) (next : Offset) (out : ReadRows) → (most ≡ 0 → skip ≡ 0) → is_done most skip ≡ false → length out.rows ≡ length rows + most
      → ((left : ℕ) (front : List Row) (behind : Offset) → hand ahead schema end left 0 front behind items ≡ Ok out → length out.rows ≡ length front + left → hand objects schema other left 0 front behind (items ++ more) ≡ Ok out)
      → (read : Result (List Row) ReadRefusal) → rows_left_of_file ahead schema f skip ≡ read
      → hand_on most rows next read (λ part. hand ahead schema end (most - length part) 0 (rows ++ part) (offset_behind_rows f skip part next) items) ≡ Ok out
      → hand_on most rows next (rows_left_of_file objects schema f skip) (λ part. hand objects schema other (most - length part) 0 (rows ++ part) (offset_behind_rows f skip part next) (items ++ more)) ≡ Ok out
  file_more f items more most skip rows next out none unfinished full later (Err refusal) reads is = absurd (not_ended most skip rows next refusal out none unfinished full is)
  file_more f items more most skip rows next out none unfinished full later (Ok found) reads is =
      let part : List Row = take most found in
      let left : rows_left_of_file objects schema f skip ≡ Ok found = step_whole (file_rows ahead schema f) (file_rows objects schema f) (rows_behind skip f.version) found (λ all. file_whole ahead objects whole schema f all) reads in
      let few : length part ≡ min most (length found) = length-take most found in
      let long : length (rows ++ part) ≡ length rows + length part = length-append rows part in
      rw left (later (most - length part) (rows ++ part) (offset_behind_rows f skip part next) is (omega (arith, full, few, long)))

  -- Items of which as many rows are handed out as may be hand out the same where more items follow.
  pub hand_more : (most skip : ℕ) (rows : List Row) (next : Offset) (items more : List Item) (out : ReadRows) → (most ≡ 0 → skip ≡ 0)
      → hand ahead schema end most skip rows next items ≡ Ok out → length out.rows ≡ length rows + most → hand objects schema other most skip rows next (items ++ more) ≡ Ok out
  unfolding hand
  hand_more most skip rows next [] more out none is full =
      let same : out ≡ record { rows = rows; next = if is_done most skip then next else end } = cc in
      let count : length out.rows ≡ length rows = ap (λ (r : ReadRows). length r.rows) same in
      let done : is_done most skip ≡ true = all_done most skip none (omega (arith, count, full)) in
      hand_done objects schema other most skip rows next more done ∙ rw done at is
  hand_more most skip rows next (version_fault version refusal ∷ items) more out none is full =
      elim (cases_Bool (is_done most skip)) [
        | inl done ↦ rw done (rw done at is)
        | inr unfinished ↦ absurd (not_ended most skip rows next refusal out none unfinished full (rw unfinished at is))
      ]
  hand_more most skip rows next (data_file f ∷ items) more out none is full =
      elim (cases_Bool (is_done most skip)) [
        | inl done ↦ rw done (rw done at is)
        | inr unfinished ↦
            rw unfinished (file_more f items more most skip rows next out none unfinished full (λ left front behind goes fills. hand_more left 0 front behind items more out (λ nothing. refl) goes fills) (rows_left_of_file ahead schema f skip) refl (rw unfinished at is))
      ]

-- ---- the versions in front

-- the first version from which on none is missing is at most one from which on none is, where it was so far
low_from : (version first from : ℕ) (versions : List Version) → first ≤ version → ((i : ℕ) → version ≤ from + i → i < length versions → slice_get versions i ≡ Some missing → ⊥) → first_from first from versions ≤ version
low_from version first from [] le none = le
low_from version first from (missing ∷ more) le none =
    elim (cases_lt from version) [
      | inl lt ↦ low_from version (suc from) (suc from) more lt (λ i behind short is. none (suc i) (omega (arith, behind)) (omega (arith, short)) is)
      | inr behind ↦ absurd (none 0 (omega (arith, behind)) (omega arith) refl)
    ]
low_from version first from (unreadable ∷ more) le none = low_from version first (suc from) more le (λ i behind short is. none (suc i) (omega (arith, behind)) (omega (arith, short)) is)
low_from version first from (commit actions ∷ more) le none = low_from version first (suc from) more le (λ i behind short is. none (suc i) (omega (arith, behind)) (omega (arith, short)) is)

-- where none is missing from a version on, the first that stands is at most that version
pub first_low : (version : ℕ) (versions : List Version) → ((i : ℕ) → version ≤ i → i < length versions → slice_get versions i ≡ Some missing → ⊥) → first_standing versions ≤ version
first_low version versions none = low_from version 0 0 versions (omega arith) (λ i behind short is. none i (omega (arith, behind)) short is)

-- what stands at a place in front stands there in all
got_front : {A : Type 0} (front place : ℕ) (xs : List A) → place < front → slice_get (take front xs) place ≡ slice_get xs place
got_front zero place xs lt = absurd (omega (arith, lt))
got_front (suc front) place [] lt = refl
got_front (suc front) zero (x ∷ xs) lt = refl
got_front (suc front) (suc place) (x ∷ xs) lt = got_front front place xs (omega (arith, lt))

-- The items of all versions begin with those of the first of them.
record MoreItems (told : SchemaText) (offset : Offset) (front : ℕ) (versions : List Version) : Type 0 where
  others : List Item
  same : items_at told offset versions ≡ items_at told offset (take front versions) ++ others

module _ (told : SchemaText) (offset : Offset) where
  -- so do those from a version on
  more_from : (front version : ℕ) (versions : List Version) → (others : List Item) × (items_from told offset version versions ≡ items_from told offset version (take front versions) ++ others)
  more_from zero version versions = (items_from told offset version versions, refl)
  more_from (suc front) version [] = ([], refl)
  more_from (suc front) version (found ∷ more) =
      let here : List Item = items_in version (fault_of_version told offset version found) (paths_in found) in
      let later = more_from front (suc version) more in
      (later.0, ap (λ (items : List Item). here ++ items) later.1 ∙ sym (append_assoc here (items_from told offset (suc version) (take front more)) later.0))

  more_items : (front : ℕ) (versions : List Version) → MoreItems told offset front versions
  more_items front versions =
      let is_kept : Item → Bool = λ item. not (item_before offset item) in
      let more = more_from front 0 versions in
      record {
        others = filter is_kept more.0;
        same = ap (λ (items : List Item). filter is_kept items) more.1 ∙ filter-append is_kept (items_from told offset 0 (take front versions)) more.0;
      }

-- ---- a read

-- a version that stands isn't beyond the log
not_beyond : (offset : Offset) (count : ℕ) → offset.version < count → unless_beyond offset count ≡ Ok tt
not_beyond offset count lt =
    let within = le-ltb count offset.version (omega (arith, lt)) in
    let other = ne_eqb offset.version count (λ is. omega (arith, is, lt)) in
    rw (within, other) refl

-- none is gone behind one that stands
not_gone : (offset : Offset) (first : ℕ) → first ≤ offset.version → unless_gone offset first ≡ Ok tt
not_gone offset first le = rw (le-ltb offset.version first le) refl

-- what is handed out of a log, where what stands at the offset lets a read begin there
abbrev begun_at : Offset → Option Version → Result ReadRows ReadRefusal → Result ReadRows ReadRefusal
begun_at offset found handed = actions_in offset.version found >>= λ actions. unless_no_file offset (length (new_files actions)) >>= λ inside. unless_removed offset actions >>= λ kept. handed

-- it goes by what is handed out
begun_more : (offset : Offset) (found : Option Version) (one other : Result ReadRows ReadRefusal) (out : ReadRows) → (one ≡ Ok out → other ≡ Ok out) → begun_at offset found one ≡ Ok out → begun_at offset found other ≡ Ok out
begun_more offset found one other out goes =
    step_on (actions_in offset.version found) _ _ out (λ actions. step_on (unless_no_file offset (length (new_files actions))) _ _ out (λ inside. step_on (unless_removed offset actions) _ _ out (λ kept. goes)))

-- A read of the front of a log that hands out as many rows as it may hands out the same of the whole log.
pub handed_front : (ahead objects : Objects) → ((name bytes : List ℕ) → object_at ahead name ≡ Some bytes → object_at objects name ≡ Some bytes) → (told : SchemaText) (versions : List Version) (front max : ℕ) (offset : Offset) (out : ReadRows)
    → offset.version < front → front ≤ length versions → first_standing versions ≤ offset.version → 0 < max → handed_by ahead told (take front versions) max offset ≡ Ok out → length out.rows ≡ max → handed_by objects told versions max offset ≡ Ok out
unfolding handed_by
handed_front ahead objects whole told versions front max offset out inside upto stands some is full =
    let part : List Version = take front versions in
    let more = more_items told offset front versions in
    let handed : Result ReadRows ReadRefusal = hand ahead told.schema (end_of part) max offset.row [] offset (items_at told offset part) in
    let all : Result ReadRows ReadRefusal = hand objects told.schema (end_of versions) max offset.row [] offset (items_at told offset versions) in
    let begins : begun_at offset (found_at offset part) handed ≡ Ok out = step_done (unless_gone offset (first_standing part)) (λ fine. begun_at offset (found_at offset part) handed) out (step_done (unless_beyond offset (length part)) _ out is) in
    let found : found_at offset part ≡ found_at offset versions = ap (λ (at : Option Version). if is_start offset then None else at) (got_front front offset.version versions inside) in
    let goes : handed ≡ Ok out → all ≡ Ok out =
    λ fine. rw more.same (hand_more ahead objects whole told.schema (end_of part) (end_of versions) max offset.row [] offset (items_at told offset part) more.others out (λ nothing. omega (arith, nothing, some)) fine (omega (arith, full))) in
    rw (not_beyond offset (length versions) (omega (arith, inside, upto)), not_gone offset (first_standing versions) stands) (begun_more offset (found_at offset versions) handed all out goes (rw found at begins))
