-- What the answers of appends and closes tell of the table that they leave, and that it stays so while the table grows.
use Rattle.std.proofs.Common.{◌≡◌, ℕ, zero, suc, ◌<◌, ◌≤◌, Bool, true, eqb, ltb, List, [], ◌∷◌, ◌++◌, length, map, slice_get, Option, Some, None, All, Contains, refl, sym, ap, subst, ◌∙◌, append_assoc, arith, inl, inr}
use Rattle.std.specs.Prelude.{bytes_eq}
use Rattle.std.specs.List.{AllByRecursion, flat_map, list_any}
use Rattle.std.proofs.lemmas.List.Concat.{flat_map-append}
use Rattle.std.proofs.lemmas.Bool.{false≢true, cases_Bool, eqb-true, eqb-false, ltb-true, ltb-false}
use Rattle.std.proofs.lemmas.Slice.Eq.{bytes_eq-Decides}
use Rattle.std.proofs.lemmas.List.{append-nil}
use Rattle.std.proofs.lemmas.List.Elements.{All-contains, All-contains_itself, All-filter, Contains-append_cases, Contains-append_left, Contains-push, filter_passes}
use Rattle.row_core.specs.Rows.{Row}
use Rattle.table_model.specs.Table.{Batch, ToldNumber, Entry, creation, group, close, closes_of, tells, told_of, batches, told_by, numbers_by, last_item, last_told, is_stream_closed}
use Rattle.table_model.specs.Appends.{are_rows, appended, appended_new, appended_behind, with_batch, closing, with_close, TellsAppend, TellsClose}
use Rattle.table_model.specs.Lawful.{Begins, IsLater, Rises, IsLawful}
use Rattle.table_model.specs.declared.table.AppendAnswer.{AppendAnswer}
use Rattle.table_model.specs.declared.table.AppendAnswer.TheVariants.{Committed, Already, Stale, Differs, StreamClosed}
use Rattle.table_model.specs.declared.table.Closing.{Closing}
use Rattle.table_model.specs.declared.table.Closing.TheVariants.{Closed, AlreadyClosed}
use Rattle.row_core.proofs.Callers.{same_rows-is}
use Rattle.table_model.proofs.Batches.{batches-append, numbers_by-append, told-batches, last_some, last_number, IsAbove, Rises-front, all_below}

-- ---- offsets and members of a list

pub at_the_end : {A : Type 0} (xs : List A) (x : A) → slice_get (xs ++ x ∷ []) (length xs) ≡ Some x
at_the_end [] x = refl
at_the_end (y ∷ xs) x = at_the_end xs x

pub at_the_front : {A : Type 0} (xs ys : List A) (k : ℕ) (x : A) → slice_get xs k ≡ Some x → slice_get (xs ++ ys) k ≡ Some x
at_the_front [] ys k x e = absurd cc
at_the_front (y ∷ xs) ys zero x e = e
at_the_front (y ∷ xs) ys (suc k) x e = at_the_front xs ys k x e

pub Contains-map : {A B : Type 0} (f : A → B) (xs : List A) (x : A) → Contains xs x → Contains (map f xs) (f x)
Contains-map f [] x among = absurd (omega (arith, among.1))
Contains-map f (y ∷ xs) x (zero, lt, is) = (zero, omega arith, ap f is)
Contains-map f (y ∷ xs) x (suc k, lt, is) = let on = Contains-map f xs x (k, omega (arith, lt), is) in (suc on.0, omega (arith, on.1), on.2)

-- each member of a mapped list is that of one of the list's
pub member_mapped : {A B : Type 0} (f : A → B) (xs : List A) (y : B) → Contains (map f xs) y → (x : A) × Contains xs x × (f x ≡ y)
member_mapped f [] y among = absurd (omega (arith, among.1))
member_mapped f (x ∷ xs) y (zero, lt, is) = (x, (0, omega arith, refl), is)
member_mapped f (x ∷ xs) y (suc k, lt, is) =
    let later = member_mapped f xs y (k, omega (arith, lt), is) in
    (later.0, (suc later.1.0, omega (arith, later.1.1), later.1.2), later.2)

-- of members that all have a property each one has it
pub each_has : {A : Type 0} (P : A → Type 0) (xs : List A) (x : A) → AllByRecursion P xs → Contains xs x → P x
each_has P [] x all among = absurd (omega (arith, among.1))
each_has P (y ∷ xs) x all (zero, lt, is) = subst P is all.0
each_has P (y ∷ xs) x all (suc k, lt, is) = each_has P xs x all.1 (k, omega (arith, lt), is)

pub none_behind : {A : Type 0} (xs ys : List A) → xs ++ ys ≡ [] → (xs ≡ []) × (ys ≡ [])
none_behind [] ys e = (refl, e)
none_behind (x ∷ xs) ys e = absurd cc

-- ---- what the tests of an append find

last_among : (application : List ℕ) (entries : List Entry) (t : ToldNumber) → last_told application entries ≡ Some t → Contains (told_by application entries) t
last_among application entries t is = let cut = last_some (told_by application entries) t is in subst (λ (ts : List ToldNumber). Contains ts t) (sym cut.1) (Contains-push cut.0 t)

-- and so is its number
last_number_stands : (application : List ℕ) (entries : List Entry) (t : ToldNumber) → last_told application entries ≡ Some t → Contains (numbers_by application entries) t.number
last_number_stands application entries t is = Contains-map (λ (u : ToldNumber). u.number) (told_by application entries) t (last_among application entries t is)

-- what is told last of an application is told in the table
pub last_stands : (application : List ℕ) (entries : List Entry) (t : ToldNumber) → last_told application entries ≡ Some t → Contains (flat_map tells entries) t × (t.application ≡ application)
last_stands application entries t is =
    let own : ToldNumber → Bool = λ u. bytes_eq u.application application in
    let all = flat_map tells entries in
    let among = last_among application entries t is in
    let stands = All-contains (Contains all) (told_by application entries) t (All-filter own (Contains all) all (All-contains_itself all)) among in
    let named : own t ≡ true = All-contains (λ u. own u ≡ true) (told_by application entries) t (filter_passes own all) among in
    (stands, (bytes_eq-Decides t.application application).0 named)

-- of one batch alone is told what it tells
told_is : (b c : Batch) → told_of b ≡ told_of c → b ≡ c
told_is b c e =
    let told : Some b.rows ≡ Some c.rows = ap (λ (t : ToldNumber). t.rows) e in
    let rows : b.rows ≡ c.rows = cc in
    λ i. record { application = (e i).application; number = (e i).number; rows = rows i }

-- what a batch tells is told in its table
pub batch_told : (entries : List Entry) (b : Batch) → Contains (batches entries) b → Contains (flat_map tells entries) (told_of b)
batch_told entries b has = subst (λ (ts : List ToldNumber). Contains ts (told_of b)) (sym (told-batches entries)) (Contains-map told_of (batches entries) b has)

-- and what is told there, a batch tells
pub told_batch : (entries : List Entry) (t : ToldNumber) → Contains (flat_map tells entries) t → (b : Batch) × Contains (batches entries) b × (told_of b ≡ t)
told_batch entries t told = member_mapped told_of (batches entries) t (subst (λ (ts : List ToldNumber). Contains ts t) (told-batches entries) told)

-- a batch stands whose number is told with its rows
pub batch_of_told : (entries : List Entry) (b : Batch) → Contains (flat_map tells entries) (told_of b) → Contains (batches entries) b
batch_of_told entries b told = let found = told_batch entries (told_of b) told in subst (Contains (batches entries)) (told_is found.0 b found.2) found.1

-- a list whose pieces together have y, cut at the one that has it
pub record IsCut {A B : Type 0} (f : A → List B) (xs : List A) (y : B) : Type 0 where
  pub before : List A
  pub after : List A
  pub one : A
  pub is : xs ≡ before ++ one ∷ after
  pub has : Contains (f one) y

cut_later : {A B : Type 0} (f : A → List B) (x : A) (xs : List A) (y : B) → IsCut f xs y → IsCut f (x ∷ xs) y
cut_later {A = A} f x xs y cut = record { before = x ∷ cut.before; after = cut.after; one = cut.one; is = ap (λ (zs : List A). x ∷ zs) cut.is; has = cut.has }

pub cut_at : {A B : Type 0} (f : A → List B) (xs : List A) (y : B) → Contains (flat_map f xs) y → IsCut f xs y
cut_at f [] y c = absurd (omega (arith, c.1))
cut_at f (x ∷ xs) y c =
    elim (Contains-append_cases (f x) (flat_map f xs) y c) [
      | inl here ↦ record { before = []; after = xs; one = x; is = refl; has = here }
      | inr later ↦ cut_later f x xs y (cut_at f xs y later)
    ]

-- the closes among which a test finds one of an application
any_is : (application : List ℕ) (closed : List (List ℕ)) → list_any (λ c. bytes_eq c application) closed ≡ true → Contains closed application
any_is application [] some = absurd (false≢true some)
any_is application (c ∷ closed) some =
    elim (cases_Bool (bytes_eq c application)) [
      | inl own ↦ (0, omega arith, (bytes_eq-Decides c application).0 own)
      | inr other ↦
          let later = any_is application closed (rw other at some) in
          (suc later.0, omega (arith, later.1), later.2)
    ]

-- where a stream is closed, its close stands
close_stands : (application : List ℕ) (entries : List Entry) → is_stream_closed application entries ≡ true → Contains (flat_map closes_of entries) application
close_stands application entries shut = any_is application (flat_map closes_of entries) shut

-- ---- what an append tells

new_tells : (b : Batch) (entries : List Entry) → IsAbove b.number (last_item (numbers_by b.application entries)) → TellsAppend (appended_new b entries) b (with_batch (appended_new b entries) b entries)
new_tells b entries above =
    elim (cases_Bool (is_stream_closed b.application entries)) [
      | inl shut ↦ rw shut (close_stands b.application entries shut, λ lawful. all_below (numbers_by b.application entries) b.number (lawful.rises b.application) above)
      | inr fresh ↦ rw fresh (group (b ∷ []), at_the_end entries (group (b ∷ [])), (0, omega arith, refl))
    ]

-- where the rows that are told are these
pub rows_are : (rows : List Row) (told : Option (List Row)) → are_rows rows told ≡ true → told ≡ Some rows
rows_are rows None e = absurd (false≢true e)
rows_are rows (Some others) e = ap (λ (rs : List Row). Some rs) (sym ((same_rows-is rows others).0 e))

pub rows_are_themselves : (rows : List Row) → are_rows rows (Some rows) ≡ true
rows_are_themselves rows = (same_rows-is rows rows).1 refl

behind_tells : (b : Batch) (entries : List Entry) (before : Option ToldNumber) → last_told b.application entries ≡ before → TellsAppend (appended_behind b entries before) b (with_batch (appended_behind b entries before) b entries)
behind_tells b entries None is = new_tells b entries (rw (last_number b.application entries, is) tt)
behind_tells b entries (Some before) is =
    let found = last_stands b.application entries before is in
    let named : before ≡ record { application = b.application; number = before.number; rows = before.rows } = λ i. record { application = found.1 i; number = before.number; rows = before.rows } in
    let stands : Contains (flat_map tells entries) (record { application = b.application; number = before.number; rows = before.rows }) = subst (λ (t : ToldNumber). Contains (flat_map tells entries) t) named found.0 in
    elim (cases_Bool (ltb b.number before.number)) [
      | inl below ↦ rw below (ltb-true b.number before.number below, last_number_stands b.application entries before is)
      | inr over ↦ elim (cases_Bool (eqb b.number before.number)) [
        | inl equal ↦
            let same : b.number ≡ before.number = eqb-true b.number before.number equal in
            let own : Contains (flat_map tells entries) (record { application = b.application; number = b.number; rows = before.rows }) =
            subst (λ (n : ℕ). Contains (flat_map tells entries) (record { application = b.application; number = n; rows = before.rows })) (sym same) stands in
            elim (cases_Bool (are_rows b.rows before.rows)) [
              | inl alike ↦
                  rw (over, equal, alike) (refl, subst (λ (rs : Option (List Row)). Contains (flat_map tells entries) (record { application = b.application; number = b.number; rows = rs })) (rows_are b.rows before.rows alike) own)
              | inr differ ↦ rw (over, equal, differ) (before.rows, λ e. false≢true (sym differ ∙ ap (λ (rs : Option (List Row)). are_rows b.rows rs) e ∙ rows_are_themselves b.rows), own)
            ]
        | inr above ↦
            let least : before.number ≤ b.number = ltb-false b.number before.number over in
            let other : b.number ≡ before.number → ⊥ = eqb-false b.number before.number above in
            let greater : before.number < b.number = omega arith in
            rw (over, above) (new_tells b entries (rw (last_number b.application entries, is) greater))
      ]
    ]

pub append_tells : (b : Batch) (entries : List Entry) → TellsAppend (appended b entries) b (with_batch (appended b entries) b entries)
append_tells b entries = behind_tells b entries (last_told b.application entries) refl

pub close_tells : (application : List ℕ) (entries : List Entry) → TellsClose (closing application entries) application (with_close application entries)
close_tells application entries =
    elim (cases_Bool (is_stream_closed application entries)) [
      | inl shut ↦ rw shut (close_stands application entries shut)
      | inr fresh ↦ rw fresh (close application, at_the_end entries (close application), (0, omega arith, refl))
    ]

-- ---- the entry that is committed

committed_is : (m n : ℕ) → Committed m ≡ Committed n → n ≡ m
committed_is m n e = cc

new_version : (b : Batch) (version : ℕ) (entries : List Entry) → appended_new b entries ≡ Committed version → version ≡ length entries
new_version b version entries e =
    elim (cases_Bool (is_stream_closed b.application entries)) [
      | inl shut ↦ let no : StreamClosed ≡ Committed version = rw shut at e in absurd cc
      | inr fresh ↦ let is : Committed (length entries) ≡ Committed version = rw fresh at e in committed_is (length entries) version is
    ]

behind_version : (b : Batch) (version : ℕ) (entries : List Entry) (before : Option ToldNumber) → appended_behind b entries before ≡ Committed version → version ≡ length entries
behind_version b version entries None e = new_version b version entries e
behind_version b version entries (Some before) e =
    elim (cases_Bool (ltb b.number before.number)) [
      | inl below ↦ let no : Stale before.number ≡ Committed version = rw below at e in absurd cc
      | inr over ↦ elim (cases_Bool (eqb b.number before.number)) [
        | inl equal ↦ elim (cases_Bool (are_rows b.rows before.rows)) [
          | inl alike ↦ let no : Already b.number ≡ Committed version = rw (over, equal, alike) at e in absurd cc
          | inr differ ↦ let no : Differs ≡ Committed version = rw (over, equal, differ) at e in absurd cc
        ]
        | inr above ↦ let new : appended_new b entries ≡ Committed version = rw (over, above) at e in new_version b version entries new
      ]
    ]

pub next_batch : (b : Batch) (version : ℕ) (entries : List Entry) → appended b entries ≡ Committed version → (version ≡ length entries) × (with_batch (appended b entries) b entries ≡ entries ++ group (b ∷ []) ∷ [])
next_batch b version entries e = (behind_version b version entries (last_told b.application entries) e, ap (λ (a : AppendAnswer). with_batch a b entries) e)

pub next_close : (application : List ℕ) (version : ℕ) (entries : List Entry) → closing application entries ≡ Closed version → (version ≡ length entries) × (with_close application entries ≡ entries ++ close application ∷ [])
next_close application version entries e =
    elim (cases_Bool (is_stream_closed application entries)) [
      | inl shut ↦ let no : AlreadyClosed ≡ Closed version = rw shut at e in absurd cc
      | inr fresh ↦
          let is : Closed (length entries) ≡ Closed version = rw fresh at e in
          let at : version ≡ length entries = cc in
          (at, rw fresh refl)
    ]

-- ---- the table that another one grew from

each_front : {A : Type 0} (P : A → Type 0) (xs ys : List A) → AllByRecursion P (xs ++ ys) → AllByRecursion P xs
each_front P [] ys all = tt
each_front P (x ∷ xs) ys all = (all.0, each_front P xs ys all.1)

-- a front of a table that begins with its creation has begun
pub Begins-front : (entries more : List Entry) → Begins (entries ++ more) → Begins entries
Begins-front [] more begins = tt
Begins-front (creation ∷ entries) more begins = each_front IsLater entries more begins
Begins-front (group bs ∷ entries) more begins = begins
Begins-front (close application ∷ entries) more begins = begins

-- no number is told behind a close, not even in what the table grew by
none_grown : (application : List ℕ) (entries more before after : List Entry) (entry : Entry) → IsLawful (entries ++ more) → entries ≡ before ++ entry ∷ after → Contains (closes_of entry) application
    → (numbers_by application after ≡ []) × (numbers_by application more ≡ [])
none_grown application entries more before after entry lawful is closes =
    let at : entries ++ more ≡ before ++ entry ∷ (after ++ more) = ap (λ (es : List Entry). es ++ more) is ∙ append_assoc before (entry ∷ after) more in
    none_behind (numbers_by application after) (numbers_by application more) (sym (numbers_by-append application after more) ∙ lawful.closed application before (after ++ more) entry at closes)

pub lawful-front : (entries more : List Entry) → IsLawful (entries ++ more) → Begins entries → IsLawful entries
lawful-front entries more lawful begins = record {
  begins = begins;
  suits = λ before after entry is. lawful.suits before (after ++ more) entry (ap (λ (es : List Entry). es ++ more) is ∙ append_assoc before (entry ∷ after) more);
  rises = λ application. Rises-front (numbers_by application entries) (numbers_by application more) (subst Rises (numbers_by-append application entries more) (lawful.rises application));
  closed = λ application before after entry is closes. (none_grown application entries more before after entry lawful is closes).0;
}

-- ---- what was told lasts

pub batch_lasts : (b : Batch) (entries more : List Entry) → Contains (batches entries) b → Contains (batches (entries ++ more)) b
batch_lasts b entries more stands = subst (λ (bs : List Batch). Contains bs b) (sym (batches-append entries more)) (Contains-append_left (batches entries) (batches more) b stands)

-- what is told once stays told
told_lasts : (t : ToldNumber) (entries more : List Entry) → Contains (flat_map tells entries) t → Contains (flat_map tells (entries ++ more)) t
told_lasts t entries more stands = subst (λ (ts : List ToldNumber). Contains ts t) (sym (flat_map-append tells entries more)) (Contains-append_left (flat_map tells entries) (flat_map tells more) t stands)

number_lasts : (application : List ℕ) (n : ℕ) (entries more : List Entry) → Contains (numbers_by application entries) n → Contains (numbers_by application (entries ++ more)) n
number_lasts application n entries more stands = subst (λ (ns : List ℕ). Contains ns n) (sym (numbers_by-append application entries more)) (Contains-append_left (numbers_by application entries) (numbers_by application more) n stands)

-- a close that stands stays
close_lasts_at : (application : List ℕ) (entries more : List Entry) → Contains (flat_map closes_of entries) application → Contains (flat_map closes_of (entries ++ more)) application
close_lasts_at application entries more stands =
    subst (λ (cs : List (List ℕ)). Contains cs application) (sym (flat_map-append closes_of entries more)) (Contains-append_left (flat_map closes_of entries) (flat_map closes_of more) application stands)

-- no number comes behind a close
still_below : (b : Batch) (entries more : List Entry) → Contains (flat_map closes_of entries) b.application → (IsLawful entries → All (λ n. n < b.number) (numbers_by b.application entries))
    → IsLawful (entries ++ more) → All (λ n. n < b.number) (numbers_by b.application (entries ++ more))
still_below b entries more stands below lawful =
    let cut = cut_at closes_of entries b.application stands in
    let none : numbers_by b.application more ≡ [] = (none_grown b.application entries more cut.before cut.after cut.one lawful cut.is cut.has).1 in
    let same : numbers_by b.application (entries ++ more) ≡ numbers_by b.application entries = numbers_by-append b.application entries more ∙ rw none (append-nil (numbers_by b.application entries)) in
    subst (λ (ns : List ℕ). All (λ n. n < b.number) ns) (sym same) (below (lawful-front entries more lawful (Begins-front entries more lawful.begins)))

pub append_lasts : (answer : AppendAnswer) (b : Batch) (entries more : List Entry) → TellsAppend answer b entries → TellsAppend answer b (entries ++ more)
append_lasts (Committed version) b entries more told = (told.0, at_the_front entries more version told.0 told.1, told.2)
append_lasts (Already number) b entries more told = (told.0, told_lasts (told_of b) entries more told.1)
append_lasts (Stale number) b entries more told = (told.0, number_lasts b.application number entries more told.1)
append_lasts Differs b entries more told = (told.0, told.1, told_lasts (record { application = b.application; number = b.number; rows = told.0 }) entries more told.2)
append_lasts StreamClosed b entries more told =
    (close_lasts_at b.application entries more told.0, still_below b entries more told.0 told.1)

pub close_lasts : (answer : Closing) (application : List ℕ) (entries more : List Entry) → TellsClose answer application entries → TellsClose answer application (entries ++ more)
close_lasts (Closed version) application entries more told = (told.0, at_the_front entries more version told.0 told.1, told.2)
close_lasts AlreadyClosed application entries more told = close_lasts_at application entries more told
