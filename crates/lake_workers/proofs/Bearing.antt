-- What a store has, that has what was seen behind a call.
use Rattle.std.proofs.Common.{ℕ, zero, suc, List, [], ◌∷◌, ◌++◌, None, Some, IsSome, Contains, subst, arith}
use Rattle.store_core.specs.Objects.{Objects, object_at}
use Rattle.store_core.specs.declared.store.Put.TheVariants.{Created, Exists}
use Rattle.session_core.specs.Talks.{Asked, IsBorne, Told, get_object, list_names, put_commit, put_file, told_lost, told_memory, told_names, told_object, told_put}
use Rattle.log_hub.specs.Seats.{HasEach, HasEachName, map_after, names_after}

named_front : (objects : Objects) (names more : List (List ℕ)) → HasEachName objects (names ++ more) → HasEachName objects names × HasEachName objects more
named_front objects [] more all = (tt, all)
named_front objects (name ∷ names) more all = let rest = named_front objects names more all.1 in ((all.0, rest.0), rest.1)

-- a name among those that stand
named_stands : (objects : Objects) (names : List (List ℕ)) (name : List ℕ) → HasEachName objects names → Contains names name → IsSome (object_at objects name)
named_stands objects [] name all has = absurd (omega (arith, has.1))
named_stands objects (first ∷ names) name all (zero, lt, is) = subst (λ (n : List ℕ). IsSome (object_at objects n)) is all.0
named_stands objects (first ∷ names) name all (suc k, lt, is) = named_stands objects names name all.1 (k, omega (arith, lt), is)

-- it bears what was told of the call, and has what was seen before it
pub last_is_borne : (objects map : Objects) (names : List (List ℕ)) (asked : Asked) (told : Told) → HasEach objects (map_after map asked told) → HasEachName objects (names_after names asked told)
    → IsBorne objects asked told × HasEach objects map × HasEachName objects names
last_is_borne objects map names list_names (told_names listed) each named = let both = named_front objects listed names named in ((λ name has. named_stands objects listed name both.0 has), each, both.1)
last_is_borne objects map names list_names (told_object found) each named = (tt, each, named)
last_is_borne objects map names list_names (told_put put) each named = (tt, each, named)
last_is_borne objects map names list_names told_lost each named = (tt, each, named)
last_is_borne objects map names list_names told_memory each named = (tt, each, named)
last_is_borne objects map names (get_object name) (told_names listed) each named = (tt, each, named)
last_is_borne objects map names (get_object name) (told_object None) each named = (tt, each, named)
last_is_borne objects map names (get_object name) (told_object (Some bytes)) each named = (each.0, each.1, named)
last_is_borne objects map names (get_object name) (told_put put) each named = (tt, each, named)
last_is_borne objects map names (get_object name) told_lost each named = (tt, each, named)
last_is_borne objects map names (get_object name) told_memory each named = (tt, each, named)
last_is_borne objects map names (put_file name bytes) (told_names listed) each named = (tt, each, named)
last_is_borne objects map names (put_file name bytes) (told_object found) each named = (tt, each, named)
last_is_borne objects map names (put_file name bytes) (told_put Created) each named = (each.0, each.1, named)
last_is_borne objects map names (put_file name bytes) (told_put Exists) each named = (named.0, each, named.1)
last_is_borne objects map names (put_file name bytes) told_lost each named = (tt, each, named)
last_is_borne objects map names (put_file name bytes) told_memory each named = (tt, each, named)
last_is_borne objects map names (put_commit version bytes) (told_names listed) each named = (tt, each, named)
last_is_borne objects map names (put_commit version bytes) (told_object found) each named = (tt, each, named)
last_is_borne objects map names (put_commit version bytes) (told_put Created) each named = (each.0, each.1, named)
last_is_borne objects map names (put_commit version bytes) (told_put Exists) each named = (named.0, each, named.1)
last_is_borne objects map names (put_commit version bytes) told_lost each named = (tt, each, named)
last_is_borne objects map names (put_commit version bytes) told_memory each named = (tt, each, named)
