-- A spelling with the types that a form names is a spelling.
use Rattle.std.proofs.Common.{ℕ, ℤ, pos, List, ap}
use Rattle.thrift_values.specs.Tree.{Tree, boolean, integer, binary, list, map, struct, skipped, Trees, no_trees, tree, Entries, no_entries, entry, Fields, no_fields, field}
use Rattle.thrift_core.specs.Wire.{Announces}
use Rattle.thrift_core.specs.Form.{Form, Forms}
use Rattle.thrift_core.specs.Spelling.{FieldValue, is_true, is_false, apart, Spells, SpellsMembers, SpellsEntries, SpellsFields}
use Rattle.thrift_core.specs.SpellsAs.{SpellsAs, SpellsMembersAs, SpellsEntriesAs, SpellsFieldsAs}
use Rattle.thrift_core.specs.Writing.{wire_of}

value_as_spells : (f : Form) (number : ℕ) (v : Tree) (bytes : List ℕ) → Announces number (wire_of f) → (SpellsAs f bytes v → Spells (wire_of f) bytes v)
    → FieldValue (λ type inside. SpellsAs f inside v) number v bytes → FieldValue (λ type inside. Spells type inside v) number v bytes
value_as_spells f number v bytes announced spells (is_true number_is value_is bytes_are) = is_true number_is value_is bytes_are
value_as_spells f number v bytes announced spells (is_false number_is value_is bytes_are) = is_false number_is value_is bytes_are
value_as_spells f number v bytes announced spells (apart type some of_type spelled) = apart (wire_of f) some announced (spells spelled)

mutual
  pub as_spells : (f : Form) (t : Tree) (bytes : List ℕ) → SpellsAs f bytes t → Spells (wire_of f) bytes t
  as_spells f (boolean b) bytes s = s
  as_spells f (integer z) bytes s = s
  as_spells f (binary text) bytes s = s
  as_spells f skipped bytes s = absurd s
  as_spells f (list ts) bytes s =
      let turn = s.2 in
      (ap wire_of s.1, wire_of s.0, record { front = turn.front; back = turn.back; first = turn.first; second = members_as_spells s.0 ts turn.back turn.second; whole = turn.whole })
  as_spells f (map es) bytes s =
      let turn = s.3 in
      (ap wire_of s.2, wire_of s.0, wire_of s.1, record { front = turn.front; back = turn.back; first = turn.first; second = entries_as_spells s.0 s.1 es turn.back turn.second; whole = turn.whole })
  as_spells f (struct fs) bytes s = (ap wire_of s.1, fields_as_spells s.0 (pos 0) fs bytes s.2)

  members_as_spells : (f : Form) (ts : Trees) (bytes : List ℕ) → SpellsMembersAs f bytes ts → SpellsMembers (wire_of f) bytes ts
  members_as_spells f no_trees bytes s = s
  members_as_spells f (tree t ts) bytes s = record { front = s.front; back = s.back; first = as_spells f t s.front s.first; second = members_as_spells f ts s.back s.second; whole = s.whole }

  entries_as_spells : (k v : Form) (es : Entries) (bytes : List ℕ) → SpellsEntriesAs k v bytes es → SpellsEntries (wire_of k) (wire_of v) bytes es
  entries_as_spells k v no_entries bytes s = s
  entries_as_spells k v (entry key value es) bytes s =
      let pair = s.first in
      record {
        front = s.front;
        back = s.back;
        first = record { front = pair.front; back = pair.back; first = as_spells k key pair.front pair.first; second = as_spells v value pair.back pair.second; whole = pair.whole };
        second = entries_as_spells k v es s.back s.second;
        whole = s.whole;
      }

  fields_as_spells : (forms : Forms) (last : ℤ) (fs : Fields) (bytes : List ℕ) → SpellsFieldsAs forms last bytes fs → SpellsFields last bytes fs
  fields_as_spells forms last no_fields bytes s = s
  fields_as_spells forms last (field id v fs) bytes s =
      let turn = s.4 in
      let one = turn.first in (
        s.0,
        record {
          front = turn.front;
          back = turn.back;
          first = record { front = one.front; back = one.back; first = one.first; second = value_as_spells s.1 s.0 v one.back s.3 (λ spelled. as_spells s.1 v one.back spelled) one.second; whole = one.whole };
          second = fields_as_spells forms id fs turn.back turn.second;
          whole = turn.whole;
        },
      )
