-- What stands for the batches of a kept table, and that the name of a new number's file is free.
use Rattle.std.proofs.Common.{◌≡◌, ℕ, zero, suc, ◌<◌, ◌≤◌, ◌⊎◌, Bool, true, false, List, [], ◌∷◌, ◌++◌, length, map, Option, Some, None, Contains, inl, inr, refl, sym, ap, subst, arith}
use Rattle.std.specs.Prelude.{bytes_eq, cond, filter, is_some, option_map, slice_index_or}
use Rattle.std.specs.List.{AllByRecursion, flat_map}
use Rattle.std.specs.Str.{IsUtf8}
use Rattle.std.proofs.lemmas.Slice.Eq.{bytes_eq-Decides}
use Rattle.schema_tree.specs.Tree.{Tree}
use Rattle.store_core.specs.Objects.{Objects, object_at}
use Rattle.delta_actions.specs.Names.{data_file_name as plain_file_name}
use Rattle.table_model.specs.Lawful.{Rises}
use Rattle.table_model.specs.Table.{Batch, ToldNumber, told_of, Entry, batches_of, batches, tells, numbers_by, last_item, last_told}
use Rattle.table_model.proofs.Callers.{Contains-map, IsAbove, last_none, last_number, numbers_in, told-batches}
use Rattle.batch_core.specs.Committing.{batch_file_name, greatest_number}
use Rattle.read_laws.specs.Kept.{KeepsTable, KeptFrom, FileKept}
use Rattle.lake_script.specs.Keeps.{IsOwn, HasNoOther}

-- ---- the names that contracts don't look into

-- the name of a batch's file is the model's
pub same_file_name : (application : List ℕ) (number : ℕ) → batch_file_name application number ≡ plain_file_name application number
unfolding batch_file_name
same_file_name application number = refl

-- ---- what a list contains

-- an element is the first one, or stands behind it
pub first_or_behind : {A : Type 0} (x : A) (xs : List A) (y : A) → Contains (x ∷ xs) y → (x ≡ y) ⊎ Contains xs y
first_or_behind x xs y has = by_index has.0 has.1 has.2
  where
    by_index : (k : ℕ) → k < suc (length xs) → slice_index_or (x ∷ xs) k y ≡ y → (x ≡ y) ⊎ Contains xs y
    by_index zero lt is = inl is
    by_index (suc k) lt is = inr (k, omega arith, is)

-- the first one is an element
pub first_in : {A : Type 0} (x : A) (xs : List A) → Contains (x ∷ xs) x
first_in x xs = (0, omega arith, refl)

-- an element is one with another in front
pub behind_first : {A : Type 0} (x : A) (xs : List A) (y : A) → Contains xs y → Contains (x ∷ xs) y
behind_first x xs y has = (suc has.0, omega (arith, has.1), has.2)

-- an empty list has no element
pub none_in_nothing : {A : Type 0} (y : A) → Contains {X = A} [] y → ⊥
none_in_nothing y has = omega (arith, has.1)

-- ---- the batches of a kept table

-- a batch of an entry has its file
file_in : (objects : Objects) (schema : Tree) (bs : List Batch) (b : Batch) → AllByRecursion (FileKept objects schema) bs → Contains bs b → FileKept objects schema b
file_in objects schema [] b kept has = absurd (none_in_nothing b has)
file_in objects schema (c ∷ bs) b kept has =
    elim (first_or_behind c bs b has) [
      | inl same ↦ subst (FileKept objects schema) same kept.0
      | inr later ↦ file_in objects schema bs b kept.1 later
    ]

-- an element of two lists is one of either
in_either : {A : Type 0} (xs ys : List A) (y : A) → Contains (xs ++ ys) y → Contains xs y ⊎ Contains ys y
in_either [] ys y has = inr has
in_either (x ∷ xs) ys y has =
    elim (first_or_behind x (xs ++ ys) y has) [
      | inl same ↦ inl (subst (Contains (x ∷ xs)) same (first_in x xs))
      | inr later ↦ elim (in_either xs ys y later) [ inl front ↦ inl (behind_first x xs y front) | inr back ↦ inr back ]
    ]

-- the file of each batch stands
pub batch_stands : (objects : Objects) (schema : Tree) (version : ℕ) (entries : List Entry) (b : Batch) → KeptFrom objects schema version entries → Contains (batches entries) b → FileKept objects schema b
batch_stands objects schema version [] b kept has = absurd (none_in_nothing b has)
batch_stands objects schema version (entry ∷ entries) b kept has =
    elim (in_either (batches_of entry) (batches entries) b has) [
      | inl here ↦ file_in objects schema (batches_of entry) b kept.1 here
      | inr later ↦ batch_stands objects schema (suc version) entries b kept.2 later
    ]

-- a number that is told is one of its application's
number_among : (ts : List ToldNumber) (t : ToldNumber) → Contains ts t → Contains (numbers_in t.application ts) t.number
number_among [] t has = absurd (none_in_nothing t has)
number_among (u ∷ ts) t has =
    elim (first_or_behind u ts t has) [
      | inl same ↦
          let own : bytes_eq u.application t.application ≡ true = (bytes_eq-Decides u.application t.application).1 (ap (λ (v : ToldNumber). v.application) same) in
          let number : u.number ≡ t.number = ap (λ (v : ToldNumber). v.number) same in
          rw own (subst (λ (n : ℕ). Contains (n ∷ numbers_in t.application ts) t.number) (sym number) (first_in t.number (numbers_in t.application ts)))
      | inr later ↦ passed (bytes_eq u.application t.application) (number_among ts t later)
    ]
  where
    passed : (own : Bool) → Contains (numbers_in t.application ts) t.number → Contains (map (λ (v : ToldNumber). v.number) (cond own (u ∷ filter (λ v. bytes_eq v.application t.application) ts) (filter (λ v. bytes_eq v.application t.application) ts))) t.number
    passed true there = behind_first u.number (numbers_in t.application ts) t.number there
    passed false there = there

-- so is a batch's
batch_number_among : (entries : List Entry) (b : Batch) → Contains (batches entries) b → Contains (numbers_by b.application entries) b.number
batch_number_among entries b has =
    let told : Contains (flat_map tells entries) (told_of b) = subst (λ (ts : List ToldNumber). Contains ts (told_of b)) (sym (told-batches entries)) (Contains-map told_of (batches entries) b has) in
    number_among (flat_map tells entries) (told_of b) told

-- the last of rising numbers is the greatest
up_to_last : (ns : List ℕ) (n m : ℕ) → Rises ns → Contains ns n → last_item ns ≡ Some m → n ≤ m
up_to_last [] n m rises has is = absurd (none_in_nothing n has)
up_to_last (k ∷ []) n m rises has is =
    let end : k ≡ m = cc in
    elim (first_or_behind k [] n has) [
      | inl same ↦ omega arith
      | inr later ↦ absurd (none_in_nothing n later)
    ]
up_to_last (k ∷ j ∷ ns) n m rises has is =
    elim (first_or_behind k (j ∷ ns) n has) [
      | inl same ↦ omega (arith, rises.0, up_to_last (j ∷ ns) j m rises.1 (first_in j ns) is)
      | inr later ↦ up_to_last (j ∷ ns) n m rises.1 later is
    ]

-- so none of them is above the last
none_above : (ns : List ℕ) (n : ℕ) (found : Option ℕ) → last_item ns ≡ found → Rises ns → Contains ns n → IsAbove n found → ⊥
none_above ns n None is rises has above = none_in_nothing n (subst (λ (ms : List ℕ). Contains ms n) (last_none ns is) has)
none_above ns n (Some m) is rises has above = omega (arith, up_to_last ns n m rises has is)

-- ---- the names that are free

-- what isn't there is `None`
pub none_unless : {A : Type 0} (found : Option A) → (is_some found ≡ true → ⊥) → found ≡ None
none_unless None never = refl
none_unless (Some x) never = absurd (never refl)

-- no file stands under a number above the application's last one
pub no_file : (objects : Objects) (schema : Tree) (entries : List Entry) (application : List ℕ) (number : ℕ) → KeepsTable objects schema entries → HasNoOther objects entries → IsUtf8 application → number ≤ greatest_number
    → IsAbove number (option_map (λ (t : ToldNumber). t.number) (last_told application entries)) → object_at objects (plain_file_name application number) ≡ None
no_file objects schema entries application number kept own utf8 small above =
    none_unless (object_at objects (plain_file_name application number)) (λ some. never (own application number utf8 small some))
  where
    never : IsOwn entries application number → ⊥
    never (b, has, named, numbered) =
        let there : Contains (numbers_by application entries) number = subst (Contains (numbers_by application entries)) numbered (subst (λ (a : List ℕ). Contains (numbers_by a entries) b.number) named (batch_number_among entries b has)) in
        none_above (numbers_by application entries) number _ (last_number application entries) (kept.lawful.rises application) there above
