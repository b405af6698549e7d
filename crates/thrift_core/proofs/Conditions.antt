-- The four conditions of writing, taken together down the tree, and each of them alone.
use Rattle.std.proofs.Common.{ℤ, negsuc}
use Rattle.thrift_values.specs.Tree.{Tree, boolean, integer, binary, list, map, struct, skipped, Trees, no_trees, tree, Entries, no_entries, entry, Fields, no_fields, field}
use Rattle.thrift_core.specs.Form.{Form, Forms}
use Rattle.thrift_core.specs.Writable.{EachValue, EachMember, EachEntry, EachField, Rise, IdsRise, SizeFits, IsKept, HasTypes, MembersHaveTypes, EntriesHaveTypes, FieldsHaveTypes}
use Rattle.thrift_core.specs.Writing.{HasForm, MembersHaveForm, EntriesHaveForm, FieldsHaveForm}

mutual
  pub has_form : (f : Form) (t : Tree) → EachValue IdsRise t → HasTypes f t → EachValue SizeFits t → EachValue IsKept t → HasForm f t
  has_form f (boolean b) ids types sizes kept = types
  has_form f (integer z) ids types sizes kept = types
  has_form f (binary text) ids types sizes kept = (types, sizes)
  has_form f (list ts) ids types sizes kept = (types.0, types.1, sizes.0, members_have_form types.0 ts ids.1 types.2 sizes.1 kept.1)
  has_form f (map es) ids types sizes kept = (types.0, types.1, types.2, sizes.0, entries_have_form types.0 types.1 es ids.1 types.3 sizes.1 kept.1)
  has_form f (struct fs) ids types sizes kept = (types.0, types.1, fields_have_form types.0 (negsuc 32768) fs ids.0 ids.1 types.2 sizes.1 kept.1)
  has_form f skipped ids types sizes kept = absurd kept

  members_have_form : (f : Form) (ts : Trees) → EachMember IdsRise ts → MembersHaveTypes f ts → EachMember SizeFits ts → EachMember IsKept ts → MembersHaveForm f ts
  members_have_form f no_trees ids types sizes kept = tt
  members_have_form f (tree t ts) ids types sizes kept = (has_form f t ids.0 types.0 sizes.0 kept.0, members_have_form f ts ids.1 types.1 sizes.1 kept.1)

  entries_have_form : (k v : Form) (es : Entries) → EachEntry IdsRise es → EntriesHaveTypes k v es → EachEntry SizeFits es → EachEntry IsKept es → EntriesHaveForm k v es
  entries_have_form k v no_entries ids types sizes kept = tt
  entries_have_form k v (entry key value es) ids types sizes kept =
      (has_form k key ids.0 types.0 sizes.0 kept.0, has_form v value ids.1 types.1 sizes.1 kept.1, entries_have_form k v es ids.2 types.2 sizes.2 kept.2)

  fields_have_form : (forms : Forms) (last : ℤ) (fs : Fields) → Rise last fs → EachField IdsRise fs → FieldsHaveTypes forms fs → EachField SizeFits fs → EachField IsKept fs → FieldsHaveForm forms last fs
  fields_have_form forms last no_fields rise ids types sizes kept = tt
  fields_have_form forms last (field id v fs) rise ids types sizes kept =
      (rise.0, rise.1, types.0, types.1, has_form types.0 v ids.0 types.2 sizes.0 kept.0, fields_have_form forms id fs rise.2 ids.1 types.3 sizes.1 kept.1)

-- ---- each of them alone

pub record Conditions (f : Form) (t : Tree) : Type 0 where
  pub ids : EachValue IdsRise t
  pub types : HasTypes f t
  pub sizes : EachValue SizeFits t
  pub kept : EachValue IsKept t

record OfMembers (f : Form) (ts : Trees) : Type 0 where
  pub ids : EachMember IdsRise ts
  pub types : MembersHaveTypes f ts
  pub sizes : EachMember SizeFits ts
  pub kept : EachMember IsKept ts

record OfEntries (k v : Form) (es : Entries) : Type 0 where
  pub ids : EachEntry IdsRise es
  pub types : EntriesHaveTypes k v es
  pub sizes : EachEntry SizeFits es
  pub kept : EachEntry IsKept es

record OfFields (forms : Forms) (last : ℤ) (fs : Fields) : Type 0 where
  pub rise : Rise last fs
  pub ids : EachField IdsRise fs
  pub types : FieldsHaveTypes forms fs
  pub sizes : EachField SizeFits fs
  pub kept : EachField IsKept fs

mutual
  pub conditions : (f : Form) (t : Tree) → HasForm f t → Conditions f t
  conditions f (boolean b) h = record { ids = tt; types = h; sizes = tt; kept = tt }
  conditions f (integer z) h = record { ids = tt; types = h; sizes = tt; kept = tt }
  conditions f (binary text) h = record { ids = tt; types = h.0; sizes = h.1; kept = tt }
  conditions f (list ts) h =
      let all = of_members h.0 ts h.3 in record { ids = (tt, all.ids); types = (h.0, h.1, all.types); sizes = (h.2, all.sizes); kept = (tt, all.kept) }
  conditions f (map es) h =
      let all = of_entries h.0 h.1 es h.4 in record { ids = (tt, all.ids); types = (h.0, h.1, h.2, all.types); sizes = (h.3, all.sizes); kept = (tt, all.kept) }
  conditions f (struct fs) h =
      let all = of_fields h.0 (negsuc 32768) fs h.2 in record { ids = (all.rise, all.ids); types = (h.0, h.1, all.types); sizes = (tt, all.sizes); kept = (tt, all.kept) }
  conditions f skipped h = absurd h

  of_members : (f : Form) (ts : Trees) → MembersHaveForm f ts → OfMembers f ts
  of_members f no_trees h = record { ids = tt; types = tt; sizes = tt; kept = tt }
  of_members f (tree t ts) h =
      let one = conditions f t h.0 in
      let all = of_members f ts h.1 in
      record { ids = (one.ids, all.ids); types = (one.types, all.types); sizes = (one.sizes, all.sizes); kept = (one.kept, all.kept) }

  of_entries : (k v : Form) (es : Entries) → EntriesHaveForm k v es → OfEntries k v es
  of_entries k v no_entries h = record { ids = tt; types = tt; sizes = tt; kept = tt }
  of_entries k v (entry key value es) h =
      let one = conditions k key h.0 in
      let two = conditions v value h.1 in
      let all = of_entries k v es h.2 in
      record { ids = (one.ids, two.ids, all.ids); types = (one.types, two.types, all.types); sizes = (one.sizes, two.sizes, all.sizes); kept = (one.kept, two.kept, all.kept) }

  of_fields : (forms : Forms) (last : ℤ) (fs : Fields) → FieldsHaveForm forms last fs → OfFields forms last fs
  of_fields forms last no_fields h = record { rise = tt; ids = tt; types = tt; sizes = tt; kept = tt }
  of_fields forms last (field id v fs) h =
      let one = conditions h.2 v h.4 in
      let all = of_fields forms id fs h.5 in
      record { rise = (h.0, h.1, all.rise); ids = (one.ids, all.ids); types = (h.2, h.3, one.types, all.types); sizes = (one.sizes, all.sizes); kept = (one.kept, all.kept) }
