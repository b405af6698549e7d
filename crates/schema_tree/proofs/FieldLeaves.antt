-- The leaves of fields, put one field after another.
use Rattle.std.proofs.Common.{◌≡◌, ℕ, zero, suc, Bool, true, false, ◌+◌, ◌<◌, ◌≤◌, max, List, [], ◌∷◌, ◌++◌, if◌then◌else◌, length, get_or, map, refl, ◌∙◌, sym, ap, subst, append_assoc, arith, rules}
use Rattle.std.proofs.lemmas.List.{map-append}
use Rattle.schema_tree.specs.Leaves.{LeafPath, leaves_of_fields, leaves_of_column, leaf_inside}
use Rattle.schema_tree.specs.Internal.{leaf_under}
use Rattle.schema_tree.specs.Limits.{levels, levels_of_fields}
use Rattle.schema_tree.specs.Tree.{Column, fields_of}
use Rattle.schema_tree.specs.View.{field_view, field_views}
use Rattle.schema_tree.specs.declared.node.Field.{Field, size-Field}
use mir.Val.{bool_byte}
use denote.Param.Weighed.{most, at_most}

sums : (a b c : ℕ) → a + b + c ≡ a + (b + c)
sums a b c = omega arith

first_level : (a b : ℕ) → a ≤ max a b
first_level a b = omega arith

other_level : (a b c : ℕ) → a ≤ c → a ≤ max b c
other_level a b c h = omega arith

-- the leaves of these columns stand behind those before, and what is above is as before
pub record IsPut (above above_before : List (List ℕ)) (leaves leaves_before : List LeafPath) (nullables : ℕ) (cs : List Column) : Type 0 where
  pub leaves_put : leaves ≡ leaves_before ++ map (leaf_under above_before nullables) (leaves_of_fields (fields_of cs))
  pub above_kept : above ≡ above_before

leaves_behind : (cs : List Column) (c : Column) → leaves_of_fields (fields_of (cs ++ c ∷ [])) ≡ leaves_of_fields (fields_of cs) ++ leaves_of_column c
leaves_behind [] c = search rules
leaves_behind (d ∷ cs) c = ap (λ ls. leaves_of_column d ++ ls) (leaves_behind cs c) ∙ sym (append_assoc (leaves_of_column d) (leaves_of_fields (fields_of cs)) (leaves_of_column c))

-- the leaves of one more field are put
pub one_put : {above above_before : List (List ℕ)} {leaves leaves_before : List LeafPath} {n : ℕ} {cs : List Column} → (above_now : List (List ℕ)) (leaves_now : List LeafPath) (cs_now : List Column) (c : Column) → IsPut above above_before leaves leaves_before n cs → cs_now ≡ cs ++ c ∷ [] → leaves_now ≡ leaves ++ map (leaf_under above n) (leaves_of_column c) → above_now ≡ above → IsPut above_now above_before leaves_now leaves_before n cs_now
one_put {above} {above_before} {leaves} {leaves_before} {n} {cs} above_now leaves_now cs_now c before more put kept =
    let old = leaves_of_fields (fields_of cs) in
    let new = leaves_of_column c in
    let same : map (leaf_under above n) new ≡ map (leaf_under above_before n) new = ap (λ a. map (leaf_under a n) new) before.above_kept in
    let all : leaves_of_fields (fields_of cs_now) ≡ old ++ new = ap (λ ds. leaves_of_fields (fields_of ds)) more ∙ leaves_behind cs c in
    record {
      leaves_put = put ∙ (ap (λ ls. ls ++ map (leaf_under above n) new) before.leaves_put ∙ (append_assoc leaves_before (map (leaf_under above_before n) old) (map (leaf_under above n) new) ∙ ap (λ ls. leaves_before ++ ls) (ap (λ ls. map (leaf_under above_before n) old ++ ls) same ∙ (sym (map-append (leaf_under above_before n) old new) ∙ ap (map (leaf_under above_before n)) (sym all)))));
      above_kept = kept ∙ before.above_kept;
    }

bit : (b : Bool) → bool_byte b ≡ (if b then 1 else 0)
bit true = refl
bit false = refl

-- a field that may be null counts as one
pub counted_null : (b c : Bool) → b ≡ c → bool_byte b ≡ (if c then 1 else 0)
counted_null b c e = bit b ∙ ap (λ (x : Bool). if x then 1 else 0) e

-- the leaves of a whole table
pub from_above : (ls : List LeafPath) → map (leaf_under [] 0) ls ≡ ls
from_above [] = refl
from_above (l ∷ ls) =
    let nullables : 0 + l.nullables ≡ l.nullables = omega arith in
    let first : leaf_under [] 0 l ≡ l = λ i. record { names = l.names; nullables = nullables i } in
    ap (λ x. x ∷ map (leaf_under [] 0) ls) first ∙ ap (λ xs. l ∷ xs) (from_above ls)

-- a leaf below a field, seen from above the field
pub under_field : (above above_now : List (List ℕ)) (n k : ℕ) (c : Column) → above_now ≡ above ++ c.name ∷ [] → k ≡ (if c.nullable then 1 else 0) → (ls : List LeafPath) → map (leaf_under above_now (n + k)) ls ≡ map (leaf_under above n) (map (leaf_inside c.name c.nullable) ls)
under_field above above_now n k c longer counts [] = refl
under_field above above_now n k c longer counts (l ∷ ls) =
    let names : above_now ++ l.names ≡ above ++ (c.name ∷ l.names) = ap (λ a. a ++ l.names) longer ∙ append_assoc above (c.name ∷ []) l.names in
    let nullables : n + k + l.nullables ≡ n + ((if c.nullable then 1 else 0) + l.nullables) = ap (λ m. n + m + l.nullables) counts ∙ sums n (if c.nullable then 1 else 0) l.nullables in
    let first : leaf_under above_now (n + k) l ≡ leaf_under above n (leaf_inside c.name c.nullable l) = λ i. record { names = names i; nullables = nullables i } in
    let others = under_field above above_now n k c longer counts ls in
    ap (λ x. x ∷ map (leaf_under above_now (n + k)) ls) first ∙ ap (λ xs. leaf_under above n (leaf_inside c.name c.nullable l) ∷ xs) others

-- a field has no more levels than all fields
pub level_within : {A : Type 0} → (fs : List (Field A)) (i : ℕ) (x : Field A) → i < length fs → x ≡ get_or fs i x → levels (field_view x).data_type ≤ levels_of_fields (fields_of (field_views fs))
level_within [] i x h at = absurd (omega arith)
level_within (f ∷ fs) zero x h at = rw at (first_level (levels (field_view f).data_type) (levels_of_fields (fields_of (field_views fs))))
level_within (f ∷ fs) (suc i) x h at =
    let inner : levels (field_view x).data_type ≤ levels_of_fields (fields_of (field_views fs)) = level_within fs i x (omega arith) at in
    other_level (levels (field_view x).data_type) (levels (field_view f).data_type) (levels_of_fields (fields_of (field_views fs))) inner

-- a field is no deeper than all fields
pub falls_within : {A : Type 0} → (fs : List (Field A)) (i : ℕ) (x : Field A) → i < length fs → x ≡ get_or fs i x → size-Field A x ≤ most (size-Field A) fs
falls_within {A} fs i x h at = subst (λ y. size-Field A y ≤ most (size-Field A) fs) (sym at) (at_most (size-Field A) fs i x h)

-- the leaves of a whole table are put
pub all_put : (above : List (List ℕ)) (before now ls : List LeafPath) → above ≡ [] → before ≡ [] → now ≡ before ++ map (leaf_under above 0) ls → now ≡ ls
all_put above before now ls top empty put = put ∙ (ap (λ xs. xs ++ map (leaf_under above 0) ls) empty ∙ (ap (λ a. map (leaf_under a 0) ls) top ∙ from_above ls))
