-- What is known of a tree that has a form.
use Rattle.std.proofs.Common.{◌≡◌, ℕ, suc, ◌+◌, ◌≤◌, max, ℤ, negsuc, List, [], ◌∷◌, ◌++◌, Bool, true, false, cond, Some, refl, sym, subst, arith}
use Rattle.std.specs.Ordering.{int_eq}
use Rattle.thrift_core.specs.Fields.{all_as, as_struct}
use Rattle.thrift_core.specs.Tree.{Tree, boolean, integer, binary, list, map, struct, skipped, Trees, no_trees, tree, Entries, no_entries, entry, Fields, no_fields, field, trees_of, depth, depth_of_trees, depth_of_entries, depth_of_fields, nodes_of_trees}
use Rattle.thrift_core.specs.Form.{Form, list_form, map_form, struct_form, Forms, no_forms, field_form, form_at}
use Rattle.thrift_core.specs.Writing.{HasForm, MembersHaveForm, EntriesHaveForm, FieldsHaveForm}

-- ---- members

pub members_append : (f : Form) (xs ys : List Tree) → MembersHaveForm f (trees_of xs)
    → MembersHaveForm f (trees_of ys) → MembersHaveForm f (trees_of (xs ++ ys))
members_append f [] ys h k = k
members_append f (x ∷ xs) ys h k = (h.0, members_append f xs ys h.1 k)

pub nodes_append : (xs ys : List Tree)
    → nodes_of_trees (trees_of (xs ++ ys)) ≡ nodes_of_trees (trees_of xs) + nodes_of_trees (trees_of ys)
nodes_append [] ys = omega arith
nodes_append (x ∷ xs) ys = omega (arith, nodes_append xs ys)

-- ---- what has the form of a struct is one

struct_alone : (fs : Forms) (t : Tree) → HasForm (struct_form fs) t → as_struct t ≡ Some t
struct_alone fs (boolean b) h = absurd cc
struct_alone fs (integer z) h = absurd h
struct_alone fs (binary text) (is, short) = absurd cc
struct_alone fs (list ts) (m, is, few, all) = absurd cc
struct_alone fs (map es) (k, v, is, few, all) = absurd cc
struct_alone fs (struct inside) h = refl
struct_alone fs skipped h = absurd h

pub structs_alone : (fs : Forms) (ts : List Tree) → MembersHaveForm (struct_form fs) (trees_of ts)
    → all_as as_struct (trees_of ts) ≡ Some ts
structs_alone fs [] h = refl
structs_alone fs (t ∷ ts) h = rw (struct_alone fs t h.0, structs_alone fs ts h.1) refl

-- ---- what has a form nests as deep as it at most

-- how many structs, lists and maps stand in one another in a form
abbrev mutual
  pub rank : Form → ℕ
  rank (list_form m) = suc (rank m)
  rank (map_form k v) = suc (max (rank k) (rank v))
  rank (struct_form fs) = suc (rank_of_forms fs)
  rank other = 0

  pub rank_of_forms : Forms → ℕ
  rank_of_forms no_forms = 0
  rank_of_forms (field_form id f fs) = max (rank f) (rank_of_forms fs)

rank_chosen : (b : Bool) (id : ℤ) (g f : Form) (fs : Forms) → cond b (Some g) (form_at id fs) ≡ Some f
    → (form_at id fs ≡ Some f → rank f ≤ rank_of_forms fs) → rank f ≤ max (rank g) (rank_of_forms fs)
rank_chosen true id g f fs e others =
    let same : g ≡ f = cc in subst (λ x. rank x ≤ max (rank g) (rank_of_forms fs)) same (omega arith)
rank_chosen false id g f fs e others = let rest = others e in omega arith

rank_found : (id : ℤ) (fs : Forms) (f : Form) → form_at id fs ≡ Some f → rank f ≤ rank_of_forms fs
rank_found id no_forms f e = absurd cc
rank_found id (field_form i g fs) f e = rank_chosen (int_eq i id) id g f fs e (rank_found id fs f)

mutual
  pub depth_by_form : (f : Form) (t : Tree) → HasForm f t → depth t ≤ rank f
  depth_by_form f (boolean b) h = omega arith
  depth_by_form f (integer z) h = omega arith
  depth_by_form f (binary text) h = omega arith
  depth_by_form f (list ts) (m, is, few, all) =
      let inner = members_by_form m ts all in subst (λ g. depth (list ts) ≤ rank g) (sym is) (omega (arith, inner))
  depth_by_form f (map es) (k, v, is, few, all) =
      let inner = entries_by_form k v es all in subst (λ g. depth (map es) ≤ rank g) (sym is) (omega (arith, inner))
  depth_by_form f (struct fs) (forms, is, all) =
      let inner = fields_by_form forms (negsuc 32768) fs all in
      subst (λ g. depth (struct fs) ≤ rank g) (sym is) (omega (arith, inner))
  depth_by_form f skipped h = absurd h

  members_by_form : (f : Form) (ts : Trees) → MembersHaveForm f ts → depth_of_trees ts ≤ rank f
  members_by_form f no_trees h = omega arith
  members_by_form f (tree t ts) h =
      let first = depth_by_form f t h.0 in
      let rest = members_by_form f ts h.1 in
      omega (arith, first, rest)

  entries_by_form : (k v : Form) (es : Entries) → EntriesHaveForm k v es
      → depth_of_entries es ≤ max (rank k) (rank v)
  entries_by_form k v no_entries h = omega arith
  entries_by_form k v (entry key value es) h =
      let first = depth_by_form k key h.0 in
      let second = depth_by_form v value h.1 in
      let rest = entries_by_form k v es h.2 in
      omega (arith, first, second, rest)

  fields_by_form : (forms : Forms) (last : ℤ) (fs : Fields) → FieldsHaveForm forms last fs
      → depth_of_fields fs ≤ rank_of_forms forms
  fields_by_form forms last no_fields h = omega arith
  fields_by_form forms last (field id v fs) h =
      let first = depth_by_form h.2 v h.4 in
      let most = rank_found id forms h.2 h.3 in
      let rest = fields_by_form forms id fs h.5 in
      omega (arith, first, most, rest)
