-- Which file a table that isn't loaded tells.
use Rattle.std.proofs.Common.{◌≡◌, ℕ, Bool, List, Contains, sym, subst, Result, Ok, Err, IsErrAnd}
use Rattle.std.specs.Prelude.{filter}
use Rattle.std.proofs.lemmas.List.Elements.{All-contains_itself, All-filter}
use Rattle.table_folder.specs.Faults.{LoadFailsAmong}
use Rattle.table_folder.specs.declared.fault.LoadFault.{LoadFault}
use Rattle.table_folder.specs.declared.fault.LoadFault.TheVariants.{NotLoaded, Memory}

-- what a choice of names has, they have
pub contains_passing : (test : List ℕ → Bool) (names : List (List ℕ)) (name : List ℕ) → Contains (filter test names) name → Contains names name
contains_passing test names name h =
    subst (Contains names) h.2 (All-filter test (Contains names) names (All-contains_itself names) h.0 name h.1)

-- a fault among names is among those of which they are a part
pub among_more : {X : Type 0} (names more : List (List ℕ)) (fault : LoadFault) (r : Result X LoadFault) → IsErrAnd r (λ e. e ≡ fault) → ((name : List ℕ) → Contains names name → Contains more name) → LoadFailsAmong {X = Unit {0}} names (Err fault) → LoadFailsAmong more r
among_more names more fault (Ok x) h part e = absurd h
among_more {X} names more fault (Err told) h part e = by_case told (subst (λ (f : LoadFault). LoadFailsAmong {X = Unit {0}} names (Err f)) (sym h) e)
  where
    by_case : (f : LoadFault) → LoadFailsAmong {X = Unit {0}} names (Err f) → LoadFailsAmong {X = X} more (Err f)
    by_case (NotLoaded n reason) e = part _ e
    by_case Memory e = tt
