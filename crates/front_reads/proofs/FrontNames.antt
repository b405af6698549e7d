-- A store in front of a version: which names and objects it keeps, which versions its log has, and what its checkpoints tell.
use Rattle.std.proofs.Common.{◌≡◌, ◌∙◌, ◌<◌, ◌≤◌, ◌+◌, ◌-◌, ◌&&◌, ℕ, zero, suc, Bool, true, false, cond, List, [], ◌∷◌, filter, take, nat_lt, Option, Some, None, IsSome, is_some, refl, sym, ap, arith}
use Rattle.std.specs.Prelude.{bytes_eq, option_and_then}
use Rattle.std.specs.List.{cons_option, filter_map}
use Rattle.std.proofs.lemmas.Bool.{lt-ltb, ltb-true}
use Rattle.std.proofs.lemmas.Map.Entries.{lookup-filter-keys, option_filter}
use Rattle.std.proofs.lemmas.Slice.Eq.{bytes_eq-Decides}
use Rattle.store_core.specs.Objects.{Objects, names_of, object_at}
use Rattle.store_core.specs.Names.{commit_name, commit_version, greatest_version}
use Rattle.store_core.proofs.Callers.{named, own_version}
use Rattle.table_log.specs.Counts.{commit_count}
use Rattle.table_log.specs.Restoring.{checkpoint_at, checkpoint_version, version_below}
use Rattle.table_log.specs.Versions.{Version, version_at, version_by, versions_from, versions_of}
use Rattle.table_log.proofs.Callers.{commit_is_none, count_is}
use Rattle.table_log.proofs.CountLaws.{count_most}
use Rattle.log_reading.specs.FromCheckpoints.{CheckpointSchema, schema_below, schema_by}
use Rattle.log_reading.specs.Readings.{told_among}
use Rattle.log_reading.proofs.ToldLemmas.{told_version}
use Rattle.front_reads.specs.Fronts.{front_of_log, is_in_front, is_kept}

-- ---- names and objects

-- the names that stand are those that are kept
pub names_front : (front : ℕ) (objects : Objects) → names_of (front_of_log front objects) ≡ filter (is_kept front) (names_of objects)
names_front front [] = refl
names_front front (e ∷ es) = step (is_kept front e.0) (names_front front es)
  where
    step : (kept : Bool) → names_of (front_of_log front es) ≡ filter (is_kept front) (names_of es)
        → names_of (cond kept (e ∷ front_of_log front es) (front_of_log front es)) ≡ cond kept (e.0 ∷ filter (is_kept front) (names_of es)) (filter (is_kept front) (names_of es))
    step true later = ap (λ names. e.0 ∷ names) later
    step false later = later

-- an object stands where its name is kept, and nowhere else
found_front : (front : ℕ) (objects : Objects) (name : List ℕ) → object_at (front_of_log front objects) name ≡ cond (is_kept front name) (object_at objects name) None
found_front front objects name =
    lookup-filter-keys (bytes_eq name) (is_kept front) (is_kept front name) (λ other same. ap (is_kept front) (sym ((bytes_eq-Decides name other).0 same))) objects

-- an object whose name is kept stands as it did
pub object_front : (front : ℕ) (objects : Objects) (name : List ℕ) → is_kept front name ≡ true → object_at (front_of_log front objects) name ≡ object_at objects name
object_front front objects name kept = found_front front objects name ∙ ap (λ b. cond b (object_at objects name) None) kept

-- no other object stands
pub object_gone : (front : ℕ) (objects : Objects) (name : List ℕ) → is_kept front name ≡ false → object_at (front_of_log front objects) name ≡ None
object_gone front objects name gone = found_front front objects name ∙ ap (λ b. cond b (object_at objects name) None) gone

-- what stands in front of the version stands in the whole store
pub object_whole : (front : ℕ) (objects : Objects) (name bytes : List ℕ) → object_at (front_of_log front objects) name ≡ Some bytes → object_at objects name ≡ Some bytes
object_whole front objects name bytes stands = by_case (is_kept front name) (sym (found_front front objects name) ∙ stands)
  where
    by_case : (kept : Bool) → cond kept (object_at objects name) None ≡ Some bytes → object_at objects name ≡ Some bytes
    by_case true is = is
    by_case false is = absurd cc

-- ---- the versions of the log

and_true : (b : Bool) → (b && true) ≡ b
and_true true = refl
and_true false = refl

-- a commit is kept where its version is in front
kept_commit : (front version : ℕ) → version ≤ greatest_version → is_kept front (commit_name version) ≡ nat_lt version front
kept_commit front version small =
    ap (λ (found : Option ℕ). is_in_front front found && is_in_front front (checkpoint_version (commit_name version))) (own_version version small)
    ∙ (ap (λ (found : Option ℕ). nat_lt version front && is_in_front front found) (commit_is_none version) ∙ and_true (nat_lt version front))

-- each version that is counted is one that a name can have
count_small : (objects : Objects) → commit_count objects ≤ suc greatest_version
count_small objects = count_most objects (suc greatest_version) (λ version small stands. omega (arith, small))

module _ (front : ℕ) (objects : Objects) (upto : front ≤ commit_count objects) where
  -- a commit in front stands as it did
  commit_front : (version : ℕ) → version < front → object_at (front_of_log front objects) (commit_name version) ≡ object_at objects (commit_name version)
  commit_front version lt =
      object_front front objects (commit_name version) (kept_commit front version (omega (arith, lt, upto, count_small objects)) ∙ lt-ltb version front lt)

  -- a commit that stands is in front
  stands_in_front : (version : ℕ) → version ≤ greatest_version → IsSome (object_at (front_of_log front objects) (commit_name version)) → version < front
  stands_in_front version small stands = by_test (nat_lt version front) refl
    where
      by_test : (b : Bool) → nat_lt version front ≡ b → version < front
      by_test true e = ltb-true version front e
      by_test false e =
          let none : object_at (front_of_log front objects) (commit_name version) ≡ None = object_gone front objects (commit_name version) (kept_commit front version small ∙ e) in
          let wrong : false ≡ true = sym (ap is_some none) ∙ stands in
          absurd cc

-- The log in front of a version has the versions before it, where the last of these stands.
pub count_front : (front : ℕ) (objects : Objects) → 0 < front → front ≤ commit_count objects → IsSome (object_at objects (commit_name (front - 1))) → commit_count (front_of_log front objects) ≡ front
count_front front objects some upto stands = count_is (front_of_log front objects) front (omega (arith, upto, count_small objects)) (stands_in_front front objects upto) newest
  where
    newest : (version : ℕ) → suc version ≡ front → IsSome (object_at (front_of_log front objects) (commit_name version))
    newest version is =
        let last : version ≡ front - 1 = omega (arith, is) in
        ap is_some (commit_front front objects upto version (omega (arith, is)) ∙ ap (λ (v : ℕ). object_at objects (commit_name v)) last) ∙ stands

-- versions that are the same in two stores are the first of more versions
first_versions : (part objects : Objects) (count more version : ℕ) → count ≤ more → ((v : ℕ) → v < version + count → version_at part v ≡ version_at objects v)
    → versions_from count version part ≡ take count (versions_from more version objects)
unfolding versions_from
first_versions part objects zero more version le same = refl
first_versions part objects (suc count) zero version le same = absurd (omega (arith, le))
first_versions part objects (suc count) (suc more) version le same =
    ap (λ (found : Version). found ∷ versions_from count (version + 1) part) (same version (omega arith))
    ∙ ap (λ (others : List Version). version_at objects version ∷ others) (first_versions part objects count more (version + 1) (omega (arith, le)) (λ v lt. same v (omega (arith, lt))))

-- the versions in front are the first of the log
pub versions_front : (front : ℕ) (objects : Objects) → front ≤ commit_count objects → commit_count (front_of_log front objects) ≡ front → versions_of (front_of_log front objects) ≡ take front (versions_of objects)
versions_front front objects upto counted =
    ap (λ (count : ℕ). versions_from count 0 (front_of_log front objects)) counted
    ∙ first_versions (front_of_log front objects) objects front (commit_count objects) 0 upto (λ version lt. ap version_by (commit_front front objects upto version (omega (arith, lt))))

-- ---- what checkpoints tell

-- what is found in a list with a member that may be left out
found_where : {A B : Type 0} (g : A → Option B) (kept : Bool) (x : A) (xs : List A) → filter_map g (cond kept (x ∷ xs) xs) ≡ cons_option (cond kept (g x) None) (filter_map g xs)
found_where g true x xs = refl
found_where g false x xs = refl

-- what passes, with one more that may be found
passes_where : {B : Type 0} (p : B → Bool) (found : Option B) (ys : List B) → cons_option (option_filter p found) (filter p ys) ≡ filter p (cons_option found ys)
passes_where p None ys = refl
passes_where {B} p (Some y) ys = by_test (p y)
  where
    by_test : (b : Bool) → cons_option (cond b (Some y) None) (filter p ys) ≡ cond b (y ∷ filter p ys) (filter p ys)
    by_test true = refl
    by_test false = refl

-- What is found among the members that are kept is what passes of all that is found, where it is so for each member.
found_passes : {A B : Type 0} (f g : A → Option B) (q : A → Bool) (p : B → Bool) → ((x : A) → cond (q x) (g x) None ≡ option_filter p (f x)) → (xs : List A) → filter_map g (filter q xs) ≡ filter p (filter_map f xs)
found_passes f g q p same [] = refl
found_passes {A} {B} f g q p same (x ∷ xs) =
    found_where g (q x) x (filter q xs)
    ∙ (ap (λ (found : Option B). cons_option found (filter_map g (filter q xs))) (same x)
    ∙ (ap (cons_option (option_filter p (f x))) (found_passes f g q p same xs) ∙ passes_where p (f x) (filter_map f xs)))

-- what is found passes, or doesn't, whatever it is
passes_alike : {B : Type 0} (p : B → Bool) (b : Bool) (found : Option B) → ((y : B) → found ≡ Some y → p y ≡ b) → cond b found None ≡ option_filter p found
passes_alike p true None alike = refl
passes_alike p false None alike = refl
passes_alike {B} p b (Some y) alike = ap (λ (passes : Bool). cond passes (Some y) None) (sym (alike y refl))

-- a checkpoint's name isn't that of a commit
no_commit_version : (name : List ℕ) (version : ℕ) → checkpoint_version name ≡ Some version → commit_version name ≡ None
no_commit_version name version is = by_found (commit_version name) refl
  where
    by_found : (found : Option ℕ) → commit_version name ≡ found → commit_version name ≡ None
    by_found None e = e
    by_found (Some other) e =
        let wrong : None ≡ Some version = sym (commit_is_none other) ∙ (ap checkpoint_version (named name other e).0 ∙ is) in
        absurd cc

-- a checkpoint is kept where its version is in front
kept_checkpoint : (front : ℕ) (name : List ℕ) (version : ℕ) → checkpoint_version name ≡ Some version → is_kept front name ≡ nat_lt version front
kept_checkpoint front name version is =
    ap (λ (found : Option ℕ). is_in_front front found && is_in_front front (checkpoint_version name)) (no_commit_version name version is) ∙ ap (is_in_front front) is

-- by the version that stands in a name
abbrev schema_of_version : (below : ℕ) → Objects → (name : List ℕ) → Option ℕ → Option CheckpointSchema
schema_of_version below objects name told = option_and_then schema_by (option_and_then (λ version. checkpoint_at version (object_at objects name)) (version_below below told))

-- of a version below it is by the bytes that stand
schema_at : (below : ℕ) (objects : Objects) (name : List ℕ) (version : ℕ) → checkpoint_version name ≡ Some version → version < below
    → schema_below below objects name ≡ option_and_then schema_by (checkpoint_at version (object_at objects name))
schema_at below objects name version is lt =
    ap (schema_of_version below objects name) is
    ∙ ap (λ (b : Bool). option_and_then schema_by (option_and_then (λ (v : ℕ). checkpoint_at v (object_at objects name)) (cond b (Some version) None))) (lt-ltb version below lt)

module _ (front : ℕ) (objects : Objects) (upto : front ≤ commit_count objects) (name : List ℕ) where
  -- the checkpoint in front tells what it did
  schema_front : (version : ℕ) → checkpoint_version name ≡ Some version → nat_lt version front ≡ true → schema_below front (front_of_log front objects) name ≡ schema_below (commit_count objects) objects name
  schema_front version is e =
      let lt : version < front = ltb-true version front e in
      schema_at front (front_of_log front objects) name version is lt
      ∙ (ap (λ (bytes : Option (List ℕ)). option_and_then schema_by (checkpoint_at version bytes)) (object_front front objects name (kept_checkpoint front name version is ∙ e))
      ∙ sym (schema_at (commit_count objects) objects name version is (omega (arith, lt, upto))))

  -- what the checkpoint under a name tells in front is what it told, if of a version in front
  schema_kept : cond (is_kept front name) (schema_below front (front_of_log front objects) name) None ≡ option_filter (λ (s : CheckpointSchema). nat_lt s.version front) (schema_below (commit_count objects) objects name)
  schema_kept = by_version (checkpoint_version name) refl
    where
      nothing : (kept : Bool) (found : Option CheckpointSchema) → found ≡ None → cond kept found None ≡ None
      nothing true found none = none
      nothing false found none = refl

      by_test : (version : ℕ) (b : Bool) → checkpoint_version name ≡ Some version → nat_lt version front ≡ b
          → cond b (schema_below front (front_of_log front objects) name) None ≡ cond b (schema_below (commit_count objects) objects name) None
      by_test version true is e = schema_front version is e
      by_test version false is e = refl

      by_version : (told : Option ℕ) → checkpoint_version name ≡ told
          → cond (is_kept front name) (schema_below front (front_of_log front objects) name) None ≡ option_filter (λ (s : CheckpointSchema). nat_lt s.version front) (schema_below (commit_count objects) objects name)
      by_version None is =
          nothing (is_kept front name) (schema_below front (front_of_log front objects) name) (ap (schema_of_version front (front_of_log front objects) name) is)
          ∙ ap (option_filter (λ (s : CheckpointSchema). nat_lt s.version front)) (sym (ap (schema_of_version (commit_count objects) objects name) is))
      by_version (Some version) is =
          ap (λ (kept : Bool). cond kept (schema_below front (front_of_log front objects) name) None) (kept_checkpoint front name version is)
          ∙ (by_test version (nat_lt version front) is refl
          ∙ passes_alike (λ (s : CheckpointSchema). nat_lt s.version front) (nat_lt version front) (schema_below (commit_count objects) objects name)
          (λ s found. ap (λ (v : ℕ). nat_lt v front) (told_version (commit_count objects) objects name s version is found)))

-- The checkpoints in front of a version tell what those of earlier versions do.
pub told_front : (front : ℕ) (objects : Objects) → front ≤ commit_count objects → commit_count (front_of_log front objects) ≡ front
    → told_among (front_of_log front objects) (names_of (front_of_log front objects)) ≡ filter (λ (s : CheckpointSchema). nat_lt s.version front) (told_among objects (names_of objects))
told_front front objects upto counted =
    ap (λ (count : ℕ). filter_map (schema_below count (front_of_log front objects)) (names_of (front_of_log front objects))) counted
    ∙ (ap (filter_map (schema_below front (front_of_log front objects))) (names_front front objects)
    ∙ found_passes (schema_below (commit_count objects) objects) (schema_below front (front_of_log front objects)) (is_kept front) (λ (s : CheckpointSchema). nat_lt s.version front) (schema_kept front objects upto) (names_of objects))
