-- What stays while a store grows: which commits are admissible, and the table that stands.
use Rattle.std.proofs.Common.{◌≡◌, ◌∙◌, ℕ, suc, ◌<◌, ◌≤◌, Bool, true, false, ◌||◌, List, [], ◌∷◌, ◌++◌, Option, Some, None, append_assoc, arith, refl, sym, ap, subst, flat_map, bytes_eq}
use Rattle.std.specs.List.{AllByRecursion, list_any}
use Rattle.std.specs.Prelude.{option_map}
use Rattle.std.proofs.lemmas.List.Concat.{flat_map-append}
use Rattle.std.proofs.lemmas.List.Folds.{list_any-append}
use Rattle.store_core.specs.Objects.{Objects, HasObjectsOf}
use Rattle.store_core.specs.Names.{commit_name}
use Rattle.table_model.specs.Lawful.{IsLawful, Rises}
use Rattle.table_model.specs.Table.{ToldNumber, Entry, closes_of, is_stream_closed, last_told, numbers_by}
use Rattle.table_model.proofs.Callers.{Rises-back, below_later, last_told-append, last_number, last_some, numbers_by-append}
use Rattle.table_store.specs.Holds.{Holds, HoldsFirst, Lacks}
use Rattle.table_store.specs.Schema.{Schema}
use Rattle.table_store.specs.Sound.{IsAdmissible, IsSound}
use Rattle.table_store.proofs.HoldingGrown.{front}
use Rattle.table_store.proofs.HoldingKept.{FilesStand-kept, Stands-kept}
use Rattle.table_store.proofs.HoldingSchema.{only_table}

-- ---- commits that are admissible

module _ (objects more : Objects) (grown : HasObjectsOf objects more) where
  -- the first commits stand
  first_kept : (schema : Schema) (version : ℕ) (entries later : List Entry) → AllByRecursion (Lacks more) (entries ++ later) → HoldsFirst objects schema version entries → HoldsFirst more schema version entries
  first_kept schema version [] later lacking stand = tt
  first_kept schema version (entry ∷ entries) later lacking stand =
      (Stands-kept objects more grown (commit_name version) _ stand.0, FilesStand-kept objects more grown schema entry lacking.0 stand.1, stand.2, first_kept schema (suc version) entries later lacking.1 stand.3)

  last_lacks : (entries : List Entry) (entry : Entry) → AllByRecursion (Lacks more) (entries ++ entry ∷ []) → Lacks more entry
  last_lacks [] entry lacking = lacking.0
  last_lacks (first ∷ entries) entry lacking = last_lacks entries entry lacking.1

  -- An admissible commit stays one, where what its entries lack isn't there.
  pub admissible_kept : (version : ℕ) (bytes : List ℕ) → (new : IsAdmissible objects version bytes) → AllByRecursion (Lacks more) (new.entries ++ new.entry ∷ []) → IsAdmissible more version bytes
  admissible_kept version bytes new lacking = record {
    schema = new.schema;
    entries = new.entries;
    entry = new.entry;
    stand = first_kept new.schema 0 new.entries (new.entry ∷ []) lacking new.stand;
    at = new.at;
    fits = new.fits;
    commit = new.commit;
    files = FilesStand-kept objects more grown new.schema new.entry (last_lacks new.entries new.entry lacking) new.files;
    tells = new.tells;
    lawful = new.lawful;
  }

-- ---- the table that a sound store holds

-- it is the sound one, whose first entry is its creation
pub sound_table : (objects : Objects) (sound : IsSound objects) (schema : Schema) (entries : List Entry) → Holds objects schema entries → sound.entries ≡ entries
sound_table objects sound schema entries holds = only_table objects sound.schema schema sound.entries entries sound.lawful.begins sound.holds holds

-- so it is lawful
pub lawful_table : (objects : Objects) (sound : IsSound objects) (schema : Schema) (entries : List Entry) → Holds objects schema entries → IsLawful entries
lawful_table objects sound schema entries holds = subst IsLawful (sound_table objects sound schema entries holds) sound.lawful

-- The table of a store with all its objects begins with it.
pub table_front : (objects more : Objects) (schema other : Schema) (entries others : List Entry) → IsSound objects → HasObjectsOf objects more → Holds objects schema entries → Holds more other others
    → (later : List Entry) × (others ≡ entries ++ later)
table_front objects more schema other entries others sound grown holds held = front objects more schema grown other entries others (lawful_table objects sound schema entries holds).begins holds held

-- what each longer table has, the table of a store with all its objects has
pub table_has : (objects more : Objects) (schema other : Schema) (entries others : List Entry) (P : List Entry → Type 0) → IsSound objects → HasObjectsOf objects more → Holds objects schema entries → Holds more other others
    → ((later : List Entry) → P (entries ++ later)) → P others
table_has objects more schema other entries others P sound grown holds held has =
    let later = table_front objects more schema other entries others sound grown holds held in
    subst P (sym later.1) (has later.0)

-- ---- a table that grows

-- what is true of one of two
first_true : (one other : Bool) → one ≡ true → (one || other) ≡ true
first_true true other is = refl
first_true false other is = absurd cc

-- a stream that is closed stays closed
pub closed_kept : (application : List ℕ) (entries later : List Entry) → is_stream_closed application entries ≡ true → is_stream_closed application (entries ++ later) ≡ true
closed_kept application entries later closed =
    ap (list_any (λ (c : List ℕ). bytes_eq c application)) (flat_map-append closes_of entries later)
    ∙ list_any-append (λ (c : List ℕ). bytes_eq c application) (flat_map closes_of entries) (flat_map closes_of later)
    ∙ first_true (is_stream_closed application entries) (is_stream_closed application later) closed

-- an application's last number doesn't fall
abbrev pub NotBelow : List ℕ → ToldNumber → List Entry → Type 0
NotBelow application t entries = (u : ToldNumber) × (last_told application entries ≡ Some u) × (t.number ≤ u.number)

pub number_kept : (application : List ℕ) (t : ToldNumber) (entries later : List Entry) → IsLawful (entries ++ later) → last_told application entries ≡ Some t → NotBelow application t (entries ++ later)
number_kept application t entries later lawful is = by_last (last_told application later) refl
  where
    -- the last number of some entries
    ends_with : (u : ToldNumber) (some : List Entry) → last_told application some ≡ Some u → (before : List ℕ) × (numbers_by application some ≡ before ++ u.number ∷ [])
    ends_with u some last_is = last_some (numbers_by application some) u.number (last_number application some ∙ ap (option_map (λ (v : ToldNumber). v.number)) last_is)

    rises : (u : ToldNumber) → last_told application later ≡ Some u → t.number < u.number
    rises u last_is =
        let one = ends_with t entries is in
        let two = ends_with u later last_is in
        let all : numbers_by application (entries ++ later) ≡ (one.0 ++ t.number ∷ []) ++ (two.0 ++ u.number ∷ []) = numbers_by-append application entries later ∙ (λ i. one.1 i ++ two.1 i) in
        let from : (one.0 ++ t.number ∷ []) ++ (two.0 ++ u.number ∷ []) ≡ one.0 ++ (t.number ∷ (two.0 ++ u.number ∷ [])) = append_assoc one.0 (t.number ∷ []) (two.0 ++ u.number ∷ []) in
        below_later t.number two.0 u.number [] (Rises-back one.0 (t.number ∷ (two.0 ++ u.number ∷ [])) (subst Rises (all ∙ from) (lawful.rises application)))

    by_last : (found : Option ToldNumber) → last_told application later ≡ found → NotBelow application t (entries ++ later)
    by_last None none = (t, last_told-append application entries later ∙ rw (none, is) refl, omega arith)
    by_last (Some u) last_is = (u, last_told-append application entries later ∙ rw last_is refl, let above = rises u last_is in omega (arith, above))
