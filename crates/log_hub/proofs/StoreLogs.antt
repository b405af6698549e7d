-- The log of a sound store, as its commits' bytes, and of one that grew.
use Rattle.std.proofs.Common.{◌≡◌, ◌∙◌, ℕ, zero, suc, ◌+◌, ◌-◌, ◌<◌, ◌≤◌, List, [], ◌∷◌, ◌++◌, length, Option, None, Some, IsSome, is_some, slice_get, refl, sym, ap, subst, arith}
use Rattle.store_core.specs.Names.{commit_name, greatest_version}
use Rattle.store_core.specs.Objects.{HasObjectsOf, Objects, object_at}
use Rattle.table_log.specs.Counts.{commit_count}
use Rattle.table_log.proofs.Callers.{stands_below}
use Rattle.log_laws.specs.Sound.{IsSoundStore}
use Rattle.log_book.proofs.Callers.{commits_stand, count_fits}
use Rattle.log_hub.specs.Lock.{IsFrontOf}
use Rattle.log_hub.specs.Seats.{commit_in_front, commits_from, log_in_store}

-- the commits of these versions stand
abbrev AllCommitsStand : (count version : ℕ) → Objects → Type 0
AllCommitsStand count version objects = (at : ℕ) → version ≤ at → at < version + count → IsSome (object_at objects (commit_name at))

-- what stands is some object
some_object : (objects : Objects) (name : List ℕ) → IsSome (object_at objects name) → (bytes : List ℕ) × (object_at objects name ≡ Some bytes)
some_object objects name stands = by_found (object_at objects name) refl stands
  where
    by_found : (found : Option (List ℕ)) → object_at objects name ≡ found → IsSome found → (bytes : List ℕ) × (object_at objects name ≡ Some bytes)
    by_found None is some = absurd cc
    by_found (Some bytes) is some = (bytes, is)

later_stand : (count version : ℕ) (objects : Objects) → AllCommitsStand (suc count) version objects → AllCommitsStand count (suc version) objects
later_stand count version objects all = λ at low high. all at (omega (arith, low)) (omega (arith, high))

first_stands : (count version : ℕ) (objects : Objects) → AllCommitsStand (suc count) version objects → (bytes : List ℕ) × (object_at objects (commit_name version) ≡ Some bytes)
first_stands count version objects all = some_object objects (commit_name version) (all version (omega arith) (omega arith))

-- there are as many
commits_long : (count version : ℕ) (objects : Objects) → AllCommitsStand count version objects → length (commits_from count version objects) ≡ count
commits_long zero version objects all = refl
commits_long (suc count) version objects all =
    let one = first_stands count version objects all in
    let rest = commits_long count (suc version) objects (later_stand count version objects all) in
    ap (λ (found : Option (List ℕ)). length (commit_in_front found (commits_from count (suc version) objects))) one.1 ∙ ap suc rest

-- and at each place its commit
commit_there : (count version at : ℕ) (objects : Objects) → AllCommitsStand count version objects → at < count → slice_get (commits_from count version objects) at ≡ object_at objects (commit_name (version + at))
commit_there zero version at objects all low = absurd (omega arith)
commit_there (suc count) version zero objects all low =
    let one = first_stands count version objects all in
    ap (λ (found : Option (List ℕ)). slice_get (commit_in_front found (commits_from count (suc version) objects)) 0) one.1 ∙ (sym one.1 ∙ ap (λ (n : ℕ). object_at objects (commit_name n)) (omega arith))
commit_there (suc count) version (suc at) objects all low =
    let one = first_stands count version objects all in
    ap (λ (found : Option (List ℕ)). slice_get (commit_in_front found (commits_from count (suc version) objects)) (suc at)) one.1
    ∙ (commit_there count (suc version) at objects (later_stand count version objects all) (omega (arith, low)) ∙ ap (λ (n : ℕ). object_at objects (commit_name n)) (omega arith))

-- a store that grew has the same at its front
commits_grown : (count more version : ℕ) (objects later : Objects) → AllCommitsStand count version objects → HasObjectsOf objects later
    → commits_from (count + more) version later ≡ commits_from count version objects ++ commits_from more (version + count) later
commits_grown zero more version objects later all has = ap (λ (n : ℕ). commits_from n version later) (omega arith) ∙ ap (λ (n : ℕ). commits_from more n later) (omega arith)
commits_grown (suc count) more version objects later all has =
    let one = first_stands count version objects all in
    let there : object_at later (commit_name version) ≡ Some one.0 = has (commit_name version) one.0 one.1 in
    let rest = commits_grown count more (suc version) objects later (later_stand count version objects all) has in
    ap (λ (n : ℕ). commits_from n version later) (sucs count more)
    ∙ (ap (λ (found : Option (List ℕ)). commit_in_front found (commits_from (count + more) (suc version) later)) there
    ∙ (ap (λ (l : List (List ℕ)). one.0 ∷ l) (rest ∙ ap (λ (n : ℕ). commits_from count (suc version) objects ++ commits_from more n later) (sucs version count ∙ same version count))
    ∙ sym (ap (λ (found : Option (List ℕ)). commit_in_front found (commits_from count (suc version) objects) ++ commits_from more (version + suc count) later) one.1)))
  where
    sucs : (a b : ℕ) → suc a + b ≡ suc (a + b)
    sucs a b = omega arith

    same : (a b : ℕ) → suc (a + b) ≡ a + suc b
    same a b = omega arith

module _ (objects : Objects) (sound : IsSoundStore objects) where
  stand : AllCommitsStand (commit_count objects) 0 objects
  stand = λ at low high. commits_stand objects sound.table at (omega (arith, high))

  -- its log has as many commits as are counted
  pub log_long : length (log_in_store objects) ≡ commit_count objects
  log_long = commits_long (commit_count objects) 0 objects stand

  -- a version's commit is the one that stands
  pub log_at : (version : ℕ) (bytes : List ℕ) → version ≤ greatest_version → object_at objects (commit_name version) ≡ Some bytes → slice_get (log_in_store objects) version ≡ Some bytes
  log_at version bytes fits is =
      let low : version < commit_count objects = stands_below objects version fits (ap is_some is) in
      commit_there (commit_count objects) 0 version objects stand low ∙ (ap (λ (n : ℕ). object_at objects (commit_name n)) (omega arith) ∙ is)

  pub log_has : (version : ℕ) (bytes : List ℕ) → slice_get (log_in_store objects) version ≡ Some bytes → object_at objects (commit_name version) ≡ Some bytes
  log_has version bytes is =
      let low : version < commit_count objects = subst (λ (n : ℕ). version < n) log_long (got_in (log_in_store objects) version bytes is) in
      ap (λ (n : ℕ). object_at objects (commit_name n)) (omega arith) ∙ (sym (commit_there (commit_count objects) 0 version objects stand low) ∙ is)
    where
      got_in : (l : List (List ℕ)) (k : ℕ) (x : List ℕ) → slice_get l k ≡ Some x → k < length l
      got_in [] k x h = absurd cc
      got_in (y ∷ l) zero x h = omega arith
      got_in (y ∷ l) (suc k) x h = let r = got_in l k x h in omega arith

  -- it begins that of each sound store that has all its objects
  pub log_front : (later : Objects) → HasObjectsOf objects later → IsFrontOf (log_in_store objects) (log_in_store later)
  log_front later has =
      let few : commit_count objects ≤ commit_count later = no_fewer (commit_count objects) refl in
      let more = commit_count later - commit_count objects in
      (commits_from more (0 + commit_count objects) later, ap (λ (n : ℕ). commits_from n 0 later) (omega (arith, few)) ∙ commits_grown (commit_count objects) more 0 objects later stand has)
    where
      no_fewer : (count : ℕ) → commit_count objects ≡ count → count ≤ commit_count later
      no_fewer zero is = omega arith
      no_fewer (suc last) is =
          let one = some_object objects (commit_name last) (commits_stand objects sound.table last (omega (arith, is))) in
          let below : last < commit_count later = stands_below later last (omega (arith, is, count_fits objects sound.table)) (ap is_some (has (commit_name last) one.0 one.1)) in
          omega (arith, below)
