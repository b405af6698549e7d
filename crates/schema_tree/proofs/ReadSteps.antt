-- What a member is that was read without a fault: where it stands, and how deep it is.
use Rattle.std.proofs.Common.{◌≡◌, ℕ, suc, ◌<◌, max, List, true, Option, Some, None, Result, Ok, Err, refl, subst, ap, arith}
use Rattle.std.specs.Prelude.{is_some, option_and_then}
use Rattle.serde_json.specs.Data.{Data, null, boolean, number, string, array, object, no_members, Items, depth, items_depth}
use Rattle.serde_json.specs.Find.{get, as_array, as_object}
use Rattle.outcomes.specs.Results.{or_refusal, refused_as}
use Rattle.schema_tree.specs.Fault.{Fault, bad_type}
use Rattle.schema_tree.specs.Reading.{needed, defaulted, of_kind_or, any_value, as_map}
use Rattle.schema_tree.proofs.Members.{member_below}

pub not_refused : {A E F : Type 0} (tell : E → F) (r : Result A E) (x : A) → refused_as tell r ≡ Ok x → r ≡ Ok x
not_refused {A} tell (Ok y) x e = let same : y ≡ x = cc in ap (λ (z : A). Ok z) same
not_refused tell (Err f) x e = absurd cc

found_is : {A : Type 0} (o : Option A) (refusal : Fault) (x : A) → or_refusal o refusal ≡ Ok x → o ≡ Some x
found_is None refusal x e = absurd cc
found_is {A} (Some y) refusal x e = let same : y ≡ x = cc in ap (λ (z : A). Some z) same

found_at : {A : Type 0} (kind : Data → Option A) (m : Option Data) (x : A) → or_refusal (option_and_then kind m) (bad_type None) ≡ Ok x → (d : Data) × (Some d ≡ m) × (kind d ≡ Some x)
found_at kind None x e = absurd cc
found_at kind (Some d) x e = (d, refl, found_is (kind d) (bad_type None) x e)

-- a member that was needed stands in the object
pub needed_at : {A : Type 0} (kind : Data → Option A) (name : List ℕ) (body : Data) (x : A) → needed kind name body ≡ Ok x → (d : Data) × (Some d ≡ get name body) × (kind d ≡ Some x)
unfolding needed
needed_at kind name body x e = found_at kind (get name body) x e

pub type_below : (name : List ℕ) (body type : Data) → needed any_value name body ≡ Ok type → depth type < depth body
type_below name body type e =
    let at = needed_at any_value name body type e in
    let below : depth at.0 < depth body = member_below name body at.0 at.1 in
    let same : at.0 ≡ type = cc (at.2) in
    subst (λ (d : Data). depth d < depth body) same below

array_depth : (d : Data) (items : Items) (n : ℕ) → as_array d ≡ Some items → depth d < n → suc (items_depth items) < n
array_depth null items n e h = absurd cc
array_depth (boolean b) items n e h = absurd cc
array_depth (number k) items n e h = absurd cc
array_depth (string s) items n e h = absurd cc
array_depth (object ms) items n e h = absurd cc
array_depth (array ds) items n e h = let same : ds ≡ items = cc in subst (λ (is : Items). suc (items_depth is) < n) same h

pub items_below : (name : List ℕ) (body : Data) (items : Items) → needed as_array name body ≡ Ok items → suc (items_depth items) < depth body
items_below name body items e =
    let at = needed_at as_array name body items e in
    array_depth at.0 items (depth body) at.2 (member_below name body at.0 at.1)

-- an object, and no deeper than the one it stands in, or empty
pub record IsInnerObject (body m : Data) : Type 0 where
  pub is_object : is_some (as_object m) ≡ true
  pub fits : depth m < max 2 (depth body)

map_is_inner : (body d m : Data) → depth d < depth body → or_refusal (as_map d) (bad_type None) ≡ Ok m → IsInnerObject body m
map_is_inner body null m lt e = absurd cc
map_is_inner body (boolean b) m lt e = absurd cc
map_is_inner body (number k) m lt e = absurd cc
map_is_inner body (string s) m lt e = absurd cc
map_is_inner body (array ds) m lt e = absurd cc
map_is_inner body (object ms) m lt e = let same : object ms ≡ m = cc in subst (IsInnerObject body) same (record { is_object = refl; fits = omega arith })

inner_at : (body : Data) (o : Option Data) (m : Data) → ((d : Data) → Some d ≡ o → depth d < depth body) → or_refusal (of_kind_or as_map (object no_members) o) (bad_type None) ≡ Ok m → IsInnerObject body m
inner_at body None m lt e = let same : object no_members ≡ m = cc in subst (IsInnerObject body) same (record { is_object = refl; fits = omega arith })
inner_at body (Some d) m lt e = map_is_inner body d m (lt d refl) e

pub metadata_inner : (name : List ℕ) (body m : Data) → defaulted as_map name (object no_members) body ≡ Ok m → IsInnerObject body m
unfolding defaulted
metadata_inner name body m e = inner_at body (get name body) m (member_below name body) e
