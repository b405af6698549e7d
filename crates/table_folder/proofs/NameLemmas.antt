-- Lists of names, as a loop goes over them.
use Rattle.std.proofs.Common.{All, Contains, subst, ◌≡◌, ◌<◌, ◌+◌, ◌++◌, ◌∷◌, [], ℕ, Bool, true, false, cond, List, String, length, take, get_or, refl, sym, ◌∙◌, ap, map}
use Rattle.std.specs.Prelude.{◌||◌, bytes_eq, string_bytes}
use Rattle.std.specs.Global.{Global}
use Rattle.std.specs.List.{list_any}
use Rattle.std.proofs.lemmas.List.{get_or-map, length-map, map-append, take_more}
use Rattle.std.proofs.lemmas.List.Elements.{All-append, All-cons, All-nil, Contains-get_or}
use Rattle.std.proofs.lemmas.List.Folds.{list_any-append}
use Rattle.std.proofs.lemmas.Slice.Eq.{bytes_eq-Decides}

-- one name more
pub names_more : (names : List (String Global)) (i : ℕ) (name : String Global) → i < length names → name ≡ get_or names i name → map string_bytes (take (i + 1) names) ≡ map string_bytes (take i names) ++ string_bytes name ∷ []
names_more names i name h e =
    ap (map string_bytes) (take_more names i name h)
    ∙ map-append string_bytes (take i names) (get_or names i name ∷ [])
    ∙ ap (λ (n : String Global). map string_bytes (take i names) ++ string_bytes n ∷ []) (sym e)

-- a test of bytes goes both ways
pub bytes_eq_comm : (one other : List ℕ) → bytes_eq one other ≡ bytes_eq other one
bytes_eq_comm one other = by_case (bytes_eq one other) (bytes_eq other one) refl refl
  where
    by_case : (a b : Bool) → bytes_eq one other ≡ a → bytes_eq other one ≡ b → a ≡ b
    by_case true b e f = sym (sym f ∙ (bytes_eq-Decides other one).1 (sym ((bytes_eq-Decides one other).0 e)))
    by_case false false e f = refl
    by_case false true e f = sym e ∙ (bytes_eq-Decides one other).1 (sym ((bytes_eq-Decides other one).0 f))

-- a set with a name more holds it, and what it held
pub set_more : (key name : List ℕ) (names : List (List ℕ)) → cond (bytes_eq key name) true (list_any (bytes_eq name) names) ≡ list_any (bytes_eq name) (names ++ key ∷ [])
set_more key name names =
    by_case (bytes_eq key name) (list_any (bytes_eq name) names)
    ∙ ap (λ b. list_any (bytes_eq name) names || (b || false)) (bytes_eq_comm key name)
    ∙ sym (list_any-append (bytes_eq name) names (key ∷ []))
  where
    by_case : (same held : Bool) → cond same true held ≡ (held || (same || false))
    by_case true true = refl
    by_case true false = refl
    by_case false true = refl
    by_case false false = refl

-- what holds of each name holds with a name more
pub All-names_more : (P : List ℕ → Type 0) (old new : List (String Global)) (name : String Global) → new ≡ old ++ name ∷ [] → All P (map string_bytes old) → P (string_bytes name) → All P (map string_bytes new)
All-names_more P old new name e all one =
    subst (All P) (sym (ap (map string_bytes) e ∙ map-append string_bytes old (name ∷ [])))
    (All-append P (map string_bytes old) (string_bytes name ∷ []) all (All-cons P (string_bytes name) [] one (All-nil P)))

-- a name at a place
pub name_at : (names : List (String Global)) (i : ℕ) (name : String Global) → i < length names → name ≡ get_or names i name → string_bytes name ≡ get_or (map string_bytes names) i (string_bytes name)
name_at names i name h e = ap string_bytes e ∙ sym (get_or-map string_bytes names i name (string_bytes name) h)

-- a place among the names is one among their bytes
pub below_map : (names : List (String Global)) (i : ℕ) → i < length names → i < length (map string_bytes names)
below_map names i h = subst (λ n. i < n) (sym (length-map names string_bytes)) h

-- a name of a list that is these names is one of these
pub contains_at : (names : List (String Global)) (all : List (List ℕ)) (i : ℕ) (name : String Global) → i < length names → name ≡ get_or names i name → map string_bytes names ≡ all → Contains all (string_bytes name)
contains_at names all i name h e same =
    subst (λ ns. Contains ns (string_bytes name)) same
    (subst (Contains (map string_bytes names)) (sym (name_at names i name h e))
    (Contains-get_or (map string_bytes names) i (string_bytes name) (below_map names i h)))
