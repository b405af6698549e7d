-- Which bytes spell a tree with the types that a form names.
use Rattle.std.specs.Prelude.{◌≡◌, ℕ, ℤ, pos, List, [], ◌∷◌, Some}
use Rattle.thrift_values.specs.Tree.{Tree, boolean, integer, binary, list, map, struct, skipped, Trees, no_trees, tree, Entries, no_entries, entry, Fields, no_fields, field, count_of_trees, count_of_entries}
use Rattle.thrift_core.specs.Wire.{Announces}
use Rattle.thrift_core.specs.Form.{Form, list_form, map_form, struct_form, Forms, form_at}
use Rattle.thrift_core.specs.Spelling.{InTurn, ListHeader, MapHeader, FieldHeader, FieldValue, Spells}
use Rattle.thrift_core.specs.Writing.{wire_of}

-- These bytes are one spelling of the tree in which each value has the type that the form names for it. Headers
-- and varints may be longer than they have to be.
abbrev mutual
  pub SpellsAs : Form → List ℕ → Tree → Type 0
  SpellsAs f bytes (boolean b) = Spells (wire_of f) bytes (boolean b)
  SpellsAs f bytes (integer z) = Spells (wire_of f) bytes (integer z)
  SpellsAs f bytes (binary text) = Spells (wire_of f) bytes (binary text)
  SpellsAs f bytes skipped = ⊥
  SpellsAs f bytes (list ts) = (m : Form) × (f ≡ list_form m) × InTurn (ListHeader (count_of_trees ts) (wire_of m)) (λ body. SpellsMembersAs m body ts) bytes
  SpellsAs f bytes (map es) = (k v : Form) × (f ≡ map_form k v) × InTurn (MapHeader (count_of_entries es) (wire_of k) (wire_of v)) (λ body. SpellsEntriesAs k v body es) bytes
  SpellsAs f bytes (struct fs) = (forms : Forms) × (f ≡ struct_form forms) × SpellsFieldsAs forms (pos 0) bytes fs

  -- members of one form, one behind the other
  pub SpellsMembersAs : Form → List ℕ → Trees → Type 0
  SpellsMembersAs f bytes no_trees = bytes ≡ []
  SpellsMembersAs f bytes (tree t ts) = InTurn (λ front. SpellsAs f front t) (λ back. SpellsMembersAs f back ts) bytes

  -- each key, and its value behind it
  pub SpellsEntriesAs : Form → Form → List ℕ → Entries → Type 0
  SpellsEntriesAs k v bytes no_entries = bytes ≡ []
  SpellsEntriesAs k v bytes (entry key value es) = InTurn (InTurn (λ front. SpellsAs k front key) (λ back. SpellsAs v back value)) (λ back. SpellsEntriesAs k v back es) bytes

  -- fields behind one of this id, up to a byte 0: each number announces the type that the struct's form has for the id
  pub SpellsFieldsAs : Forms → ℤ → List ℕ → Fields → Type 0
  SpellsFieldsAs forms last bytes no_fields = bytes ≡ 0 ∷ []
  SpellsFieldsAs forms last bytes (field id v fs) = (number : ℕ) × (f : Form) × (form_at id forms ≡ Some f) × Announces number (wire_of f)
      × InTurn (InTurn (FieldHeader last number id) (FieldValue (λ type inside. SpellsAs f inside v) number v)) (λ back. SpellsFieldsAs forms id back fs) bytes
