-- The schema in force, and where a read starts: in front of a version, next to all that stands.
use Rattle.std.proofs.Common.{◌≡◌, ◌∙◌, ◌⊎◌, ◌<◌, ◌≤◌, ◌-◌, ◌+◌, ℕ, zero, suc, List, [], ◌∷◌, map, take, drop, Bool, true, false, Option, Some, None, if◌then◌else◌, refl, sym, ap, inl, inr, arith}
use Rattle.std.specs.Prelude.{All, filter, min, nat_le, nat_lt, option_and_then}
use Rattle.std.specs.List.{filter_map}
use Rattle.std.specs.Option.{option_or}
use Rattle.std.proofs.lemmas.Bool.{le-ltb, leb-false, leb-true, lt-leb, lt-ltb, ltb-false, ltb-true}
use Rattle.std.proofs.lemmas.Bool.Decides.{nat_tests}
use Rattle.std.proofs.lemmas.List.{drop-take, take-take}
use Rattle.std.proofs.lemmas.List.Elements.{All-cons, All-filter, All-head, All-nil, All-tail, filter_passes, recursion_from_All}
use Rattle.delta_replay.specs.Keys.{last}
use Rattle.delta_replay.proofs.Listed.{last-passes}
use Rattle.table_log.specs.Lists.{first}
use Rattle.table_log.specs.Restoring.{Restored}
use Rattle.table_log.specs.Versions.{Version, missing}
use Rattle.log_reading.specs.FromCheckpoints.{CheckpointSchema, first_behind, from_version, front_behind, in_force_at, schema_of_checkpoint}
use Rattle.log_reading.specs.InForce.{SchemaText, in_force, in_force_from, schema_text_at}
use Rattle.log_reading.specs.Readings.{is_upto}
use Rattle.log_reading.proofs.ToldLemmas.{best_of, is_behind}
use Rattle.log_reading.specs.Reads.{front as commits_ahead}
use Rattle.front_reads.proofs.FrontOrder.{IsRising}

-- What the checkpoints in front of a version tell, next to what all tell: the same, or nothing where all tell a later one.
abbrev pub IsFrontSchema : (front : ℕ) → (ahead whole : Option CheckpointSchema) → Type 0
IsFrontSchema front ahead whole = ((ahead ≡ whole) × ((s : CheckpointSchema) → ahead ≡ Some s → s.version < front)) ⊎ ((ahead ≡ None) × ((s : CheckpointSchema) → whole ≡ Some s → front ≤ s.version))

-- ---- lists

-- what passes a test and a narrower one passes the narrower one
filter_within : {A : Type 0} (p q : A → Bool) → ((x : A) → p x ≡ true → q x ≡ true) → (xs : List A) → filter p (filter q xs) ≡ filter p xs
filter_within p q narrow [] = refl
filter_within {A} p q narrow (x ∷ xs) = by_tests (q x) (p x) refl refl (filter_within p q narrow xs)
  where
    by_tests : (wide fits : Bool) → q x ≡ wide → p x ≡ fits → filter p (filter q xs) ≡ filter p xs → filter p (filter q (x ∷ xs)) ≡ filter p (x ∷ xs)
    by_tests true true wide fits more = rw (wide, fits) (ap (λ (rest : List A). x ∷ rest) more)
    by_tests true false wide fits more = rw (wide, fits) more
    by_tests false true wide fits more =
        let passes : q x ≡ true = narrow x fits in
        absurd cc
    by_tests false false wide fits more = rw (wide, fits) more

-- none passes
none_pass : {A : Type 0} (p : A → Bool) (xs : List A) → All (λ x. p x ≡ false) xs → filter p xs ≡ []
none_pass p [] all = refl
none_pass p (x ∷ xs) all =
    let none = none_pass p xs (All-tail (λ x. p x ≡ false) x xs all) in
    rw (All-head (λ x. p x ≡ false) x xs all) none

-- what holds of what each is taken to
mapped_all : {A B : Type 0} (f : A → B) (P : B → Type 0) (xs : List A) → All P (map f xs) → All (λ x. P (f x)) xs
mapped_all f P [] all = All-nil (λ x. P (f x))
mapped_all f P (x ∷ xs) all = All-cons (λ x. P (f x)) x xs (All-head P (f x) (map f xs) all) (mapped_all f P xs (All-tail P (f x) (map f xs) all))

-- what holds of each holds of the last
last_holds : {A : Type 0} (P : A → Type 0) (xs : List A) (x : A) → All P xs → last xs ≡ Some x → P x
last_holds P xs x all is = rw is at (last-passes P xs (recursion_from_All P xs all))

-- there is a last one
last_some : {A : Type 0} (x : A) (xs : List A) → (z : A) × (last (x ∷ xs) ≡ Some z)
last_some x [] = (x, refl)
last_some x (y ∷ xs) = last_some y xs

-- the first that is told by the front of a list is the first that the list tells
first_front : {A B : Type 0} (tells : A → Option B) (n : ℕ) (xs : List A) (y : B) → first (filter_map tells (take n xs)) ≡ Some y → first (filter_map tells xs) ≡ Some y
first_front tells zero xs y is = absurd cc
first_front tells (suc n) [] y is = absurd cc
first_front {A} {B} tells (suc n) (x ∷ xs) y is = by_told (tells x) refl (first_front tells n xs y) is
  where
    by_told : (told : Option B) → tells x ≡ told → (first (filter_map tells (take n xs)) ≡ Some y → first (filter_map tells xs) ≡ Some y)
        → first (filter_map tells (take (suc n) (x ∷ xs))) ≡ Some y → first (filter_map tells (x ∷ xs)) ≡ Some y
    by_told None e more some = rw e (more (rw e at some))
    by_told (Some one) e more some = rw e (rw e at some)

-- where the second of two tells what another does too, if it is asked
or_more : {A : Type 0} (a b c : Option A) (x : A) → (b ≡ Some x → c ≡ Some x) → option_or a b ≡ Some x → option_or a c ≡ Some x
or_more None b c x more is = more is
or_more (Some y) b c x more is = is

-- ---- the best of the schemas that are told

-- of a version in front of another
abbrev is_ahead : (front : ℕ) → CheckpointSchema → Bool
is_ahead front s = nat_lt s.version front

-- those up to a version are in front of a later one
upto_ahead : (front version : ℕ) (told : List CheckpointSchema) → version < front → filter (is_upto version) (filter (is_ahead front) told) ≡ filter (is_upto version) told
upto_ahead front version told less = filter_within (is_upto version) (is_ahead front) (λ s upto. ahead s (leb-true s.version version upto)) told
  where
    ahead : (s : CheckpointSchema) → s.version ≤ version → is_ahead front s ≡ true
    ahead s le = lt-ltb s.version front (omega (arith, le, less))

-- the last up to a version is
upto_below : (version : ℕ) (told : List CheckpointSchema) (s : CheckpointSchema) → last (filter (is_upto version) told) ≡ Some s → s.version ≤ version
upto_below version told s is = leb-true s.version version (last_holds (λ o. is_upto version o ≡ true) (filter (is_upto version) told) s (filter_passes (is_upto version) told) is)

-- where one is told up to the version, the last of these is the best
best_upto : (version : ℕ) (told : List CheckpointSchema) (s : CheckpointSchema) (more : List CheckpointSchema) → filter (is_upto version) told ≡ s ∷ more → best_of version told ≡ last (filter (is_upto version) told)
best_upto version told s more is =
    let some = last_some s more in
    let found : last (filter (is_upto version) told) ≡ Some some.0 = ap last is ∙ some.1 in
    ap (λ (one : Option CheckpointSchema). option_or one (option_and_then (λ (o : CheckpointSchema). last (filter (is_upto o.version) told)) (first (filter (is_behind version) told)))) found ∙ sym found

-- and where none is, the last up to the first one's version
best_first : (version : ℕ) (s : CheckpointSchema) (more : List CheckpointSchema) → filter (is_upto version) (s ∷ more) ≡ [] → best_of version (s ∷ more) ≡ last (filter (is_upto s.version) (s ∷ more))
best_first version s more none = by_test (nat_le s.version version) refl
  where
    by_test : (b : Bool) → nat_le s.version version ≡ b → best_of version (s ∷ more) ≡ last (filter (is_upto s.version) (s ∷ more))
    by_test true upto =
        let some : filter (is_upto version) (s ∷ more) ≡ s ∷ filter (is_upto version) more = rw upto refl in
        absurd cc
    by_test false upto =
        let behind : filter (is_behind version) (s ∷ more) ≡ s ∷ filter (is_behind version) more = rw (lt-ltb version s.version (leb-false s.version version upto)) refl in
        ap (λ (found : List CheckpointSchema). option_or (last found) (option_and_then (λ (o : CheckpointSchema). last (filter (is_upto o.version) (s ∷ more))) (first (filter (is_behind version) (s ∷ more))))) none
        ∙ ap (λ (found : List CheckpointSchema). option_and_then (λ (o : CheckpointSchema). last (filter (is_upto o.version) (s ∷ more))) (first found)) behind

-- up to a version in front the same is told
same_front : (front version : ℕ) (told : List CheckpointSchema) (ahead whole : Option CheckpointSchema) → version < front → ahead ≡ last (filter (is_upto version) (filter (is_ahead front) told)) → whole ≡ last (filter (is_upto version) told)
    → IsFrontSchema front ahead whole
same_front front version told ahead whole less in_front of_all =
    let found : ahead ≡ last (filter (is_upto version) told) = in_front ∙ ap last (upto_ahead front version told less) in
    inl (found ∙ sym of_all, λ s is. within s (upto_below version told s (sym found ∙ is)))
  where
    within : (s : CheckpointSchema) → s.version ≤ version → s.version < front
    within s le = omega (arith, le, less)

-- The best of those in front, next to the best of all, for a version in front.
pub best_front : (front version : ℕ) (told : List CheckpointSchema) → IsRising (map (λ (s : CheckpointSchema). s.version) told) → version < front
    → IsFrontSchema front (best_of version (filter (λ (s : CheckpointSchema). nat_lt s.version front) told)) (best_of version told)
best_front front version [] rising less = inl (refl, λ s is. absurd cc)
best_front front version (s ∷ more) rising less = by_upto (filter (is_upto version) (s ∷ more)) refl
  where
    by_first : (b : Bool) → nat_lt s.version front ≡ b → filter (is_upto version) (s ∷ more) ≡ [] → IsFrontSchema front (best_of version (filter (is_ahead front) (s ∷ more))) (best_of version (s ∷ more))
    by_first true lt none =
        let kept : filter (is_ahead front) (s ∷ more) ≡ s ∷ filter (is_ahead front) more = rw lt refl in
        let none_ahead : filter (is_upto version) (s ∷ filter (is_ahead front) more) ≡ [] = ap (filter (is_upto version)) (sym kept) ∙ (upto_ahead front version (s ∷ more) less ∙ none) in
        same_front front s.version (s ∷ more) (best_of version (filter (is_ahead front) (s ∷ more))) (best_of version (s ∷ more)) (ltb-true s.version front lt)
        (ap (best_of version) kept ∙ (best_first version s (filter (is_ahead front) more) none_ahead ∙ ap (λ (found : List CheckpointSchema). last (filter (is_upto s.version) found)) (sym kept)))
        (best_first version s more none)
    by_first false lt none =
        let le : front ≤ s.version = ltb-false s.version front lt in
        let behind : All (λ (o : CheckpointSchema). s.version ≤ o.version) more = mapped_all (λ (o : CheckpointSchema). o.version) (λ v. s.version ≤ v) more rising.0 in
        let all : All (λ (o : CheckpointSchema). front ≤ o.version) (s ∷ more) = All-cons (λ (o : CheckpointSchema). front ≤ o.version) s more le (λ k d lt. let after = behind k d lt in omega (arith, le, after)) in
        inr (
          ap (best_of version) (none_pass (is_ahead front) (s ∷ more) (λ k d lt. le-ltb _ front (all k d lt))),
          λ o is. last_holds (λ (o : CheckpointSchema). front ≤ o.version) (filter (is_upto s.version) (s ∷ more)) o (All-filter (is_upto s.version) (λ (o : CheckpointSchema). front ≤ o.version) (s ∷ more) all) (sym (best_first version s more none) ∙ is),
        )

    by_upto : (found : List CheckpointSchema) → filter (is_upto version) (s ∷ more) ≡ found → IsFrontSchema front (best_of version (filter (is_ahead front) (s ∷ more))) (best_of version (s ∷ more))
    by_upto [] none = by_first (nat_lt s.version front) refl none
    by_upto (one ∷ rest) is =
        same_front front version (s ∷ more) (best_of version (filter (is_ahead front) (s ∷ more))) (best_of version (s ∷ more)) less
        (best_upto version (filter (is_ahead front) (s ∷ more)) one rest (upto_ahead front version (s ∷ more) less ∙ is))
        (best_upto version (s ∷ more) one rest is)

-- ---- the schema in force

-- one that the versions in front tell is what all tell
force_front : (front version : ℕ) (before : Option SchemaText) (versions : List Version) (told : SchemaText) → version < front → in_force_from before version (take front versions) ≡ Some told → in_force_from before version versions ≡ Some told
force_front front version before versions told less is =
    let upto : take (suc version) (take front versions) ≡ take (suc version) versions = take-take (suc version) front versions less in
    let split : front ≡ suc version + (front - suc version) = omega (arith, less) in
    let behind : drop (suc version) (take front versions) ≡ take (front - suc version) (drop (suc version) versions) =
    ap (λ (n : ℕ). drop (suc version) (take n versions)) split ∙ drop-take (suc version) (front - suc version) versions in
    let apart : in_force_from before version (take front versions) ≡ option_or (option_or (last (filter_map schema_text_at (take (suc version) versions))) before) (first (filter_map schema_text_at (take (front - suc version) (drop (suc version) versions)))) =
    ap (λ (found : List Version). option_or (option_or (last (filter_map schema_text_at found)) before) (first (filter_map schema_text_at (drop (suc version) (take front versions))))) upto
    ∙ ap (λ (found : List Version). option_or (option_or (last (filter_map schema_text_at (take (suc version) versions))) before) (first (filter_map schema_text_at found))) behind in
    or_more (option_or (last (filter_map schema_text_at (take (suc version) versions))) before) (first (filter_map schema_text_at (take (front - suc version) (drop (suc version) versions)))) (first (filter_map schema_text_at (drop (suc version) versions))) told
    (first_front schema_text_at (front - suc version) (drop (suc version) versions) told)
    (sym apart ∙ is)

-- the same next to a checkpoint that is in front
schema_front : (front version : ℕ) (s : CheckpointSchema) (versions : List Version) (told : SchemaText) → version < front → s.version < front → in_force_at version (Some s) (take front versions) ≡ Some told → in_force_at version (Some s) versions ≡ Some told
schema_front front version s versions told less within is = by_test (nat_le s.version version) is
  where
    by_test : (b : Bool) → (if b then in_force_from (schema_of_checkpoint s) version (take front versions) else option_or (in_force version (take (suc s.version) (take front versions))) (schema_of_checkpoint s)) ≡ Some told
        → (if b then in_force_from (schema_of_checkpoint s) version versions else option_or (in_force version (take (suc s.version) versions)) (schema_of_checkpoint s)) ≡ Some told
    by_test true found = force_front front version (schema_of_checkpoint s) versions told less found
    by_test false found = ap (λ (some : List Version). option_or (in_force version some) (schema_of_checkpoint s)) (sym (take-take (suc s.version) front versions within)) ∙ found

-- The schema that a version has by what is in front of a later one is that which it has by all.
pub in_force_front : (front version : ℕ) (ahead whole : Option CheckpointSchema) (versions : List Version) (told : SchemaText) → version < front → IsFrontSchema front ahead whole → in_force_at version ahead (take front versions) ≡ Some told
    → in_force_at version whole versions ≡ Some told
in_force_front front version ahead None versions told less (inl (same, within)) is = force_front front version None versions told less (ap (λ (o : Option CheckpointSchema). in_force_at version o (take front versions)) (sym same) ∙ is)
in_force_front front version ahead (Some s) versions told less (inl (same, within)) is =
    schema_front front version s versions told less (within s same) (ap (λ (o : Option CheckpointSchema). in_force_at version o (take front versions)) (sym same) ∙ is)
in_force_front front version ahead None versions told less (inr (none, later)) is = force_front front version None versions told less (ap (λ (o : Option CheckpointSchema). in_force_at version o (take front versions)) (sym none) ∙ is)
in_force_front front version ahead (Some s) versions told less (inr (none, later)) is =
    let le : front ≤ s.version = later s refl in
    let fewer : take front (take (suc s.version) versions) ≡ take front versions = take-take front (suc s.version) versions (omega (arith, le)) in
    let by_front : in_force version (take front (take (suc s.version) versions)) ≡ Some told = ap (in_force version) fewer ∙ (ap (λ (o : Option CheckpointSchema). in_force_at version o (take front versions)) (sym none) ∙ is) in
    rw (lt-leb s.version version (omega (arith, less, le))) (ap (λ (o : Option SchemaText). option_or o (schema_of_checkpoint s)) (force_front front version None (take (suc s.version) versions) told less by_front))

-- ---- where a read starts

-- Versions from one on, of those in front.
pub looked_front : (front first : ℕ) (versions : List Version) → from_version first (take front versions) ≡ take front (from_version first versions)
looked_front front zero versions = refl
looked_front zero (suc first) versions = refl
looked_front (suc front) (suc first) [] = refl
looked_front (suc front) (suc first) (found ∷ more) = ap (λ (rest : List Version). missing ∷ rest) (looked_front front first more)

-- behind the first one that is looked at all are as they stand
drop_looked : (n first : ℕ) (versions : List Version) → first ≤ n → drop n (from_version first versions) ≡ drop n versions
drop_looked n zero versions le = refl
drop_looked zero (suc first) versions le = absurd (omega (arith, le))
drop_looked (suc n) (suc first) [] le = refl
drop_looked (suc n) (suc first) (found ∷ more) le = drop_looked n first more (omega (arith, le))

-- Where no version behind the checkpoint is left out, the commits in front are the same.
pub behind_same : (r : Restored) (first : ℕ) (versions : List Version) → first ≤ suc r.version → front_behind (Some r) (from_version first versions) ≡ front_behind (Some r) versions
behind_same r first versions le = ap (λ (rest : List Version). r.actions ∷ commits_ahead rest) (drop_looked (suc r.version) first versions le)

-- No version behind the newest checkpoint is left out.
pub first_upto : (version : ℕ) (r : Restored) (schema : Option CheckpointSchema) → first_behind version (Some r) schema ≤ suc r.version
first_upto version r None = omega arith
first_upto version r (Some s) = by_test (nat_le s.version version)
  where
    by_test : (b : Bool) → (if b then min (suc r.version) s.version else 0) ≤ suc r.version
    by_test true = grind (arith, nat_tests)
    by_test false = omega arith

-- all are looked at where no checkpoint tells a schema
first_none : (version : ℕ) (newest : Option Restored) → first_behind version newest None ≡ 0
first_none version None = refl
first_none version (Some r) = refl

-- or one of a later version
first_later : (version : ℕ) (newest : Option Restored) (s : CheckpointSchema) → nat_le s.version version ≡ false → first_behind version newest (Some s) ≡ 0
first_later version None s not = refl
first_later version (Some r) s not = rw not refl

-- and those from its version on where it isn't later, and not behind the newest checkpoint
first_own : (version : ℕ) (newest : Option Restored) (s : CheckpointSchema) → nat_le s.version version ≡ true → (r : Restored) × (newest ≡ Some r) × (s.version ≤ r.version) → first_behind version newest (Some s) ≡ s.version
first_own version newest s upto (r, is, le) =
    let least : min (suc r.version) s.version ≡ s.version = grind (arith, nat_tests, le) in
    ap (λ (o : Option Restored). first_behind version o (Some s)) is ∙ rw upto least

-- by the same schema a read starts at the same version
first_both : (version : ℕ) (newest other : Option Restored) (whole : Option CheckpointSchema)
    → ((s : CheckpointSchema) → whole ≡ Some s → s.version ≤ version → ((r : Restored) × (newest ≡ Some r) × (s.version ≤ r.version)) × ((r : Restored) × (other ≡ Some r) × (s.version ≤ r.version)))
    → first_behind version newest whole ≡ first_behind version other whole
first_both version newest other None known = first_none version newest ∙ sym (first_none version other)
first_both version newest other (Some s) known = by_test (nat_le s.version version) refl
  where
    by_test : (b : Bool) → nat_le s.version version ≡ b → first_behind version newest (Some s) ≡ first_behind version other (Some s)
    by_test true upto =
        let both = known s refl (leb-true s.version version upto) in
        first_own version newest s upto both.0 ∙ sym (first_own version other s upto both.1)
    by_test false upto = first_later version newest s upto ∙ sym (first_later version other s upto)

-- By what is in front of a later version a read starts where it does by all.
pub first_alike : (front version : ℕ) (newest other : Option Restored) (ahead whole : Option CheckpointSchema) → version < front → IsFrontSchema front ahead whole
    → ((s : CheckpointSchema) → whole ≡ Some s → s.version ≤ version → ((r : Restored) × (newest ≡ Some r) × (s.version ≤ r.version)) × ((r : Restored) × (other ≡ Some r) × (s.version ≤ r.version)))
    → first_behind version newest ahead ≡ first_behind version other whole
first_alike front version newest other ahead whole less (inl (same, within)) known = ap (first_behind version newest) same ∙ first_both version newest other whole known
first_alike front version newest other ahead None less (inr (none, later)) known = ap (first_behind version newest) none ∙ (first_none version newest ∙ sym (first_none version other))
first_alike front version newest other ahead (Some s) less (inr (none, later)) known =
    let le : front ≤ s.version = later s refl in
    ap (first_behind version newest) none ∙ (first_none version newest ∙ sym (first_later version other s (lt-leb s.version version (omega (arith, less, le)))))
