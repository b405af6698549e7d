-- Checkpoints' names stand in the order of their versions: so the schemas that they tell rise, and none is of a later version than the
-- newest checkpoint.
use Rattle.std.proofs.Common.{◌≡◌, ◌∙◌, ◌<◌, ◌≤◌, ◌++◌, ℕ, suc, List, [], ◌∷◌, length, map, codes, Option, Some, None, Ordering, refl, sym, ap, subst, arith}
use Rattle.std.specs.declared.cmp.Ordering.TheVariants.{Less, Equal, Greater}
use Rattle.std.specs.Prelude.{All, min, option_and_then}
use Rattle.std.specs.Cmp.Lexicographic.{slice_cmp}
use Rattle.std.specs.List.{AllByRecursion, filter_map}
use Rattle.std.specs.List.Sorted.{IsStrictlySortedBy}
use Rattle.std.specs.Ordering.{MatchOrdering, nat_cmp, ordering_then}
use Rattle.std.proofs.lemmas.Bool.Decides.{nat_tests}
use Rattle.std.proofs.lemmas.List.Elements.{All-cons, All-head, All-nil, filter_map-append}
use Rattle.store_core.specs.Names.{commit_name, twenty_digits}
use Rattle.store_core.proofs.Callers.{twenty_digits_long}
use Rattle.delta_replay.specs.Keys.{last}
use Rattle.log_reading.specs.FromCheckpoints.{CheckpointSchema, newest_schema, schema_below, schema_by, schema_upto}
use Rattle.log_reading.specs.Readings.{told_among}
use Rattle.log_reading.proofs.StartingLemmas.{SchemaParts, fewer_some, schema_parts}
use Rattle.store_core.specs.Objects.{IsInOrder, Objects, name_order, names_of}
use Rattle.table_log.specs.Counts.{commit_count}
use Rattle.table_log.specs.Restoring.{Restored, checkpoint_in, checkpoint_version, restored}
use Rattle.table_log.proofs.NameOrder.{names_ordered}
use Rattle.table_log.proofs.RestoreLemmas.{IsCheckpointFound, checkpoint_named, found_parts}

-- each is at most those behind it
abbrev pub IsRising : List ℕ → Type 0
IsRising [] = Unit {0}
IsRising (version ∷ more) = All (λ other. version ≤ other) more × IsRising more

-- ---- texts whose fronts are of one length

-- the first of three orders that isn't a tie decides, however they are put together
then_again : (o p q : Ordering) → ordering_then o (ordering_then p q) ≡ ordering_then (ordering_then o p) q
then_again Less p q = refl
then_again Equal p q = refl
then_again Greater p q = refl

-- fronts of one length decide before what stands behind them
fronts_decide : (xs ys back other : List ℕ) → length xs ≡ length ys → slice_cmp nat_cmp (xs ++ back) (ys ++ other) ≡ ordering_then (slice_cmp nat_cmp xs ys) (slice_cmp nat_cmp back other)
fronts_decide [] [] back other same = refl
fronts_decide [] (y ∷ ys) back other same = absurd (omega (arith, same))
fronts_decide (x ∷ xs) [] back other same = absurd (omega (arith, same))
fronts_decide (x ∷ xs) (y ∷ ys) back other same =
    ap (ordering_then (nat_cmp x y)) (fronts_decide xs ys back other (omega (arith, same))) ∙ then_again (nat_cmp x y) (slice_cmp nat_cmp xs ys) (slice_cmp nat_cmp back other)

-- ---- checkpoints' names

-- where numbers are in the order that the fronts have, and the whole is less, the first number isn't the greater
front_upto : (o p : Ordering) (m n : ℕ) → MatchOrdering (ordering_then o Equal) (m < n) (m ≡ n) (n < m) → ordering_then o p ≡ Less → m ≤ n
front_upto Less p m n ranks less = omega (arith, ranks)
front_upto Equal p m n ranks less = omega (arith, ranks)
front_upto Greater p m n ranks less = absurd cc

-- The names of two checkpoints that stand in order are of versions in order: what stands behind the digits counts only where these are
-- the same, and by the digits alone they stand as commits' names do.
pub checkpoints_ordered : (a b : List ℕ) (v w : ℕ) → name_order a b ≡ Less → checkpoint_version a ≡ Some v → checkpoint_version b ≡ Some w → v ≤ w
unfolding commit_name
checkpoints_ordered a b v w less one another =
    let first = checkpoint_named a v one in
    let second = checkpoint_named b w another in
    let same : length (twenty_digits v) ≡ length (twenty_digits w) = twenty_digits_long v first.small ∙ sym (twenty_digits_long w second.small) in
    let commits : name_order (commit_name v) (commit_name w) ≡ ordering_then (slice_cmp nat_cmp (twenty_digits v) (twenty_digits w)) Equal =
    fronts_decide (twenty_digits v) (twenty_digits w) (codes ".json") (codes ".json") same in
    let ranks = subst (λ (o : Ordering). MatchOrdering o (v < w) (v ≡ w) (w < v)) commits (names_ordered v w first.small second.small) in
    let behind = codes ".checkpoint." ++ (first.id ++ codes ".json") in
    let other = codes ".checkpoint." ++ (second.id ++ codes ".json") in
    let named : slice_cmp nat_cmp (twenty_digits v ++ behind) (twenty_digits w ++ other) ≡ Less = (λ i. name_order (sym first.is i) (sym second.is i)) ∙ less in
    front_upto (slice_cmp nat_cmp (twenty_digits v) (twenty_digits w)) (slice_cmp nat_cmp behind other) v w ranks (sym (fronts_decide (twenty_digits v) (twenty_digits w) behind other same) ∙ named)

-- ---- the last of those that rise

-- One of a list, and what stands in front of it and behind.
record IsFoundIn {A B : Type 0} (f : A → Option B) (members : List A) (y : B) : Type 0 where
  front : List A
  member : A
  behind : List A
  whole : members ≡ front ++ member ∷ behind
  found : f member ≡ Some y

-- what is last was found in some member
last_in : {A B : Type 0} (f : A → Option B) (members : List A) (y : B) → last (filter_map f members) ≡ Some y → IsFoundIn f members y
last_in f [] y is = absurd cc
last_in {A} {B} f (x ∷ members) y is = by_found (f x) refl (λ later. last_in f members y later)
  where
    behind_one : IsFoundIn f members y → IsFoundIn f (x ∷ members) y
    behind_one later = record {
      front = x ∷ later.front;
      member = later.member;
      behind = later.behind;
      whole = ap (λ (rest : List A). x ∷ rest) later.whole;
      found = later.found;
    }

    by_rest : (z : B) (rest : List B) → f x ≡ Some z → filter_map f members ≡ rest → (last (filter_map f members) ≡ Some y → IsFoundIn f members y) → last (z ∷ rest) ≡ Some y → IsFoundIn f (x ∷ members) y
    by_rest z [] one more others at = record { front = []; member = x; behind = members; whole = refl; found = one ∙ at }
    by_rest z (w ∷ rest) one more others at = behind_one (others (ap last more ∙ at))

    by_found : (found : Option B) → f x ≡ found → (last (filter_map f members) ≡ Some y → IsFoundIn f members y) → IsFoundIn f (x ∷ members) y
    by_found None one others = behind_one (others (rw one at is))
    by_found (Some z) one others = by_rest z (filter_map f members) one refl others (rw one at is)

-- where versions rise, the last is of the greatest
last_greatest : {B : Type 0} (version : B → ℕ) (front : List B) (z : B) (behind : List B) → IsRising (map version (front ++ z ∷ behind)) → (y : B) × (last (front ++ z ∷ behind) ≡ Some y) × (version z ≤ version y)
last_greatest version [] z [] rising = (z, refl, omega arith)
last_greatest version [] z (w ∷ behind) rising =
    let later = last_greatest version [] w behind rising.1 in
    let next = All-head (λ other. version z ≤ other) (version w) (map version behind) rising.0 in
    (later.0, later.1, omega (arith, next, later.2))
last_greatest version (v ∷ []) z behind rising = last_greatest version [] z behind rising.1
last_greatest version (v ∷ w ∷ front) z behind rising = last_greatest version (w ∷ front) z behind rising.1

-- ---- versions that rise with names

-- What is found in members that stand in order has versions in order.
module _ {A B : Type 0} (order : A → A → Ordering) (f : A → Option B) (version : B → ℕ) (ordered : (a b : A) (x y : B) → order a b ≡ Less → f a ≡ Some x → f b ≡ Some y → version x ≤ version y) where
  -- what is found behind a member
  behind_upto : (a : A) (x : B) → f a ≡ Some x → (members : List A) → AllByRecursion (λ b. order a b ≡ Less) members → All (λ other. version x ≤ other) (map version (filter_map f members))
  behind_upto a x here [] all = All-nil (λ other. version x ≤ other)
  behind_upto a x here (b ∷ members) all = by_found (f b) refl (behind_upto a x here members all.1)
    where
      by_found : (found : Option B) → f b ≡ found → All (λ other. version x ≤ other) (map version (filter_map f members)) → All (λ other. version x ≤ other) (map version (filter_map f (b ∷ members)))
      by_found None is more = rw is more
      by_found (Some y) is more = rw is (All-cons (λ other. version x ≤ other) (version y) (map version (filter_map f members)) (ordered a b x y all.0 here is) more)

  -- so all of them rise
  found_rise : (members : List A) → IsStrictlySortedBy order members → IsRising (map version (filter_map f members))
  unfolding IsStrictlySortedBy
  found_rise [] sorted = tt
  found_rise (a ∷ members) sorted = by_found (f a) refl (found_rise members sorted.1)
    where
      by_found : (found : Option B) → f a ≡ found → IsRising (map version (filter_map f members)) → IsRising (map version (filter_map f (a ∷ members)))
      by_found None is more = rw is more
      by_found (Some x) is more = rw is (behind_upto a x is members sorted.0, more)

  -- and what is found in one of them is at most the last
  last_upto : (members front : List A) (a : A) (behind : List A) (x : B) → IsStrictlySortedBy order members → members ≡ front ++ a ∷ behind → f a ≡ Some x → (y : B) × (last (filter_map f members) ≡ Some y) × (version x ≤ version y)
  last_upto members front a behind x sorted whole here =
      let one : filter_map f (a ∷ behind) ≡ x ∷ filter_map f behind = rw here refl in
      let all : filter_map f members ≡ filter_map f front ++ x ∷ filter_map f behind =
      ap (filter_map f) whole ∙ (filter_map-append f front (a ∷ behind) ∙ ap (λ (more : List B). filter_map f front ++ more) one) in
      let greatest = last_greatest version (filter_map f front) x (filter_map f behind) (subst (λ (found : List B). IsRising (map version found)) all (found_rise members sorted)) in
      (greatest.0, ap last all ∙ greatest.1, greatest.2)

-- ---- the checkpoints of a log

-- the checkpoints under names in order are of versions in order
restored_ordered : (below : ℕ) (objects : Objects) (a b : List ℕ) (x y : Restored) → name_order a b ≡ Less → checkpoint_in below objects a ≡ Some x → checkpoint_in below objects b ≡ Some y → x.version ≤ y.version
restored_ordered below objects a b x y less one another =
    let first : IsCheckpointFound below objects a x = found_parts below objects a x one in
    let second : IsCheckpointFound below objects b y = found_parts below objects b y another in
    checkpoints_ordered a b x.version y.version less first.told second.told

-- a schema is told by a checkpoint of its version
told_in : (below : ℕ) (objects : Objects) (name : List ℕ) (s : CheckpointSchema) → schema_below below objects name ≡ Some s → (r : Restored) × (checkpoint_in below objects name ≡ Some r) × (s.version ≡ r.version)
told_in below objects name s is = by_found (checkpoint_in below objects name) refl is
  where
    by_found : (found : Option Restored) → checkpoint_in below objects name ≡ found → option_and_then schema_by found ≡ Some s → (r : Restored) × (checkpoint_in below objects name ≡ Some r) × (s.version ≡ r.version)
    by_found None e at = absurd cc
    by_found (Some r) e at =
        let parts : SchemaParts r s = schema_parts r s at in
        (r, e, parts.version)

-- so schemas under names in order are of versions in order
schemas_ordered : (below : ℕ) (objects : Objects) (a b : List ℕ) (x y : CheckpointSchema) → name_order a b ≡ Less → schema_below below objects a ≡ Some x → schema_below below objects b ≡ Some y → x.version ≤ y.version
schemas_ordered below objects a b x y less one another =
    let first = told_in below objects a x one in
    let second = told_in below objects b y another in
    let upto = restored_ordered below objects a b first.0 second.0 less first.1 second.1 in
    omega (arith, upto, first.2, second.2)

-- The versions of the schemas that a log's checkpoints tell rise.
pub told_rise : (objects : Objects) → IsInOrder objects → IsRising (map (λ (s : CheckpointSchema). s.version) (told_among objects (names_of objects)))
told_rise objects order =
    found_rise name_order (schema_below (commit_count objects) objects) (λ (s : CheckpointSchema). s.version) (schemas_ordered (commit_count objects) objects) (names_of objects) order

-- The newest checkpoint is of no earlier version than a schema that one of them tells.
pub newest_behind : (version : ℕ) (objects : Objects) (s : CheckpointSchema) → IsInOrder objects → schema_upto version objects ≡ Some s → (r : Restored) × (restored (commit_count objects) objects ≡ Some r) × (s.version ≤ r.version)
unfolding newest_schema restored
newest_behind version objects s order is =
    let few : ℕ = min (suc version) (commit_count objects) in
    let at : IsFoundIn (schema_below few objects) (names_of objects) s = last_in (schema_below few objects) (names_of objects) s is in
    let told = told_in few objects at.member s at.found in
    let parts : IsCheckpointFound few objects at.member told.0 = found_parts few objects at.member told.0 told.1 in
    let below : told.0.version < min (suc version) (commit_count objects) = parts.below in
    let less : told.0.version < commit_count objects = grind (arith, nat_tests, below) in
    let here : checkpoint_in (commit_count objects) objects at.member ≡ Some told.0 = fewer_some objects at.member (commit_count objects) few told.0 less told.1 in
    let newest = last_upto name_order (checkpoint_in (commit_count objects) objects) (λ (r : Restored). r.version) (restored_ordered (commit_count objects) objects) (names_of objects) at.front at.member at.behind told.0 order at.whole here in
    let same = told.2 in
    let upto = newest.2 in
    (newest.0, newest.1, omega (arith, same, upto))
