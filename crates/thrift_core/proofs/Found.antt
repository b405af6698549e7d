-- A tree that is read is spelled by the bytes that were taken.
use Rattle.std.proofs.Common.{◌≡◌, ◌≢◌, ℕ, zero, suc, ◌+◌, ◌-◌, ◌/◌, ◌%◌, ◌<◌, ◌≤◌, ℤ, pos, Bool, true, false, cond, eqb, List, [], ◌∷◌, ◌++◌, length, Result, Ok, refl, sym, ap, subst, ◌∙◌, arith, inl, inr}
use Rattle.std.proofs.lemmas.Bool.{eqb-true, eqb-false}
use Rattle.outcomes.specs.Results.{◌>>=◌}
use Rattle.outcomes.specs.Bytes.{IsBytes}
use Rattle.thrift_values.specs.Tree.{Tree, boolean, list, map, struct, trees_of, entries_of, fields_of, count_of_trees, count_of_entries, depth, depth_of_trees, depth_of_entries, depth_of_fields, nodes, nodes_of_trees, nodes_of_entries, nodes_of_fields}
use Rattle.thrift_core.specs.Wire.{announced}
use Rattle.thrift_core.specs.Spelling.{InTurn, ListHeader, MapHeader, FieldHeader, FieldValue, is_true, is_false, apart, Spells, SpellsMembers, SpellsEntries, SpellsFields, SpellsStruct}
use Rattle.thrift_core.specs.Reading.{byte_ahead, counted, repeated, entry_ahead, flag_ahead, id_ahead, field_ahead, fields_ahead, list_header_ahead, map_header_ahead, list_ahead, map_ahead, struct_ahead, content_ahead, value_ahead, struct_at}
use Rattle.thrift_values.specs.declared.fault.ThriftFault.{ThriftFault}
use Rattle.thrift_values.specs.declared.fault.ThriftFault.TheVariants.{TooMany}
use Rattle.thrift_core.specs.declared.source.Source.{Source}
use Rattle.thrift_core.specs.declared.wire.WireType.{WireType}
use Rattle.thrift_core.specs.declared.wire.WireType.TheVariants as wire
use Rattle.thrift_core.proofs.Takes.{bind_ok, guard_ok, chosen, ok_is, Took, took_both, took_next, took_as, IsByte, byte_takes}
use Rattle.thrift_core.proofs.FoundHeaders.{took_used, Contains, boolean_found, byte_number_found, integer_found, double_found, binary_found, list_header_found, map_header_found, id_found}

abbrev Reader : Type 0
Reader = WireType → Source → Result (Tree × Source) ThriftFault

-- a value was taken, with its count
pub record Value (most : ℕ) (type : WireType) (t : Tree) (old new : Source) : Type 0 where
  pub took : Took (λ front. Spells type front t) (nodes t) old new
  pub nesting : depth t ≤ most

abbrev pub TakesValues : ℕ → (WireType → Source → Result (Tree × Source) ThriftFault) → Type 0
TakesValues most read = (type : WireType) (s : Source) (t : Tree) (s' : Source) → IsBytes s.cursor → read type s ≡ Ok (t, s') → Value most type t s s'

-- ---- the count

record Counted (s s' : Source) : Type 0 where
  one : s.nodes ≡ suc s'.nodes
  stays : s.cursor ≡ s'.cursor

counted_ok : (s s' : Source) → counted s ≡ Ok s' → Counted s s'
unfolding counted
counted_ok s s' e =
    let g = guard_ok (eqb s.nodes 0) TooMany (record s { nodes = s.nodes - 1 }) s' e in
    let some : s.nodes ≢ 0 = eqb-false s.nodes 0 g.0 in
    let is : s.nodes - 1 ≡ s'.nodes = ap (λ (x : Source). x.nodes) g.1 in
    record { one = omega arith; stays = ap (λ (x : Source). x.cursor) g.1 }

-- what stands behind a count
counted_took : (P : List ℕ → Type 0) (used : ℕ) (s inside s' : Source) → Counted s inside → Took P used inside s' → Took P (suc used) s s'
counted_took P used s inside s' c p = record { front = p.front; spelled = p.spelled; parts = c.stays ∙ p.parts; counts = omega (arith, c.one, p.counts); fits = p.fits }

value_found : (most : ℕ) (content : Reader) → ((type : WireType) (s : Source) (t : Tree) (s' : Source) → IsBytes s.cursor → content type s ≡ Ok (t, s') → Contains most type t s s')
    → TakesValues most (λ type inside. counted inside >>= content type)
value_found most content contains type s t s' fits e =
    let b = bind_ok (counted s) (content type) (t, s') e in
    let c = counted_ok s b.0 b.1 in
    let k = contains type b.0 t s' (subst IsBytes c.stays fits) b.2 in
    record { took = took_used (λ front. Spells type front t) (suc k.used) (nodes t) s s' (sym k.all) (counted_took (λ front. Spells type front t) k.used s b.0 s' c k.took); nesting = k.nesting }

-- ---- members

record Members (most : ℕ) (type : WireType) (count : ℕ) (ts : List Tree) (old new : Source) : Type 0 where
  took : Took (λ front. SpellsMembers type front (trees_of ts)) (nodes_of_trees (trees_of ts)) old new
  nesting : depth_of_trees (trees_of ts) ≤ most
  many : count_of_trees (trees_of ts) ≡ count

members_found : (most : ℕ) (read : Reader) → TakesValues most read → (type : WireType) (count : ℕ) (s : Source) (ts : List Tree) (s' : Source) → IsBytes s.cursor → repeated (read type) count s ≡ Ok (ts, s') → Members most type count ts s s'
unfolding repeated
members_found most read takes type zero s ts s' fits e =
    subst (λ (q : List Tree × Source). Members most type 0 q.0 s q.1) {x = ([], s)} (ok_is ([], s) (ts, s') e)
    (record { took = record { front = []; spelled = refl; parts = refl; counts = omega arith; fits = fits }; nesting = omega arith; many = refl })
members_found most read takes type (suc count) s ts s' fits e =
    let b = bind_ok (read type s) (λ first. repeated (read type) count first.1 >>= λ others. Ok (first.0 ∷ others.0, others.1)) (ts, s') e in
    let t = b.0.0 in
    let mid = b.0.1 in
    let first = takes type s t mid fits b.1 in
    let k = bind_ok (repeated (read type) count mid) (λ others. Ok (t ∷ others.0, others.1)) (ts, s') b.2 in
    let others = members_found most read takes type count mid k.0.0 k.0.1 first.took.fits k.1 in
    subst (λ (q : List Tree × Source). Members most type (suc count) q.0 s q.1) {x = (t ∷ k.0.0, k.0.1)} (ok_is (t ∷ k.0.0, k.0.1) (ts, s') k.2)
    (record {
      took = took_both (λ front. Spells type front t) (λ back. SpellsMembers type back (trees_of k.0.0)) (nodes t) (nodes_of_trees (trees_of k.0.0)) s mid k.0.1 first.took others.took;
      nesting = omega (arith, first.nesting, others.nesting);
      many = ap suc others.many;
    })

-- ---- entries

record Entries (most : ℕ) (key value : WireType) (count : ℕ) (es : List (Tree × Tree)) (old new : Source) : Type 0 where
  took : Took (λ front. SpellsEntries key value front (entries_of es)) (nodes_of_entries (entries_of es)) old new
  nesting : depth_of_entries (entries_of es) ≤ most
  many : count_of_entries (entries_of es) ≡ count

record Entry (most : ℕ) (key value : WireType) (e : Tree × Tree) (old new : Source) : Type 0 where
  took : Took (InTurn (λ front. Spells key front e.0) (λ back. Spells value back e.1)) (nodes e.0 + nodes e.1) old new
  key_nesting : depth e.0 ≤ most
  value_nesting : depth e.1 ≤ most

entry_found : (most : ℕ) (read : Reader) → TakesValues most read → (key value : WireType) (s : Source) (x : Tree × Tree) (s' : Source) → IsBytes s.cursor → entry_ahead read key value s ≡ Ok (x, s') → Entry most key value x s s'
unfolding entry_ahead
entry_found most read takes key value s x s' fits e =
    let b = bind_ok (read key s) (λ k. read value k.1 >>= λ v. Ok ((k.0, v.0), v.1)) (x, s') e in
    let first = takes key s b.0.0 b.0.1 fits b.1 in
    let k = bind_ok (read value b.0.1) (λ v. Ok ((b.0.0, v.0), v.1)) (x, s') b.2 in
    let second = takes value b.0.1 k.0.0 k.0.1 first.took.fits k.1 in
    subst (λ (q : (Tree × Tree) × Source). Entry most key value q.0 s q.1) {x = ((b.0.0, k.0.0), k.0.1)} (ok_is ((b.0.0, k.0.0), k.0.1) (x, s') k.2)
    (record {
      took = took_both (λ front. Spells key front b.0.0) (λ back. Spells value back k.0.0) (nodes b.0.0) (nodes k.0.0) s b.0.1 k.0.1 first.took second.took;
      key_nesting = first.nesting;
      value_nesting = second.nesting;
    })

entries_found : (most : ℕ) (read : Reader) → TakesValues most read → (key value : WireType) (count : ℕ) (s : Source) (es : List (Tree × Tree)) (s' : Source) → IsBytes s.cursor → repeated (entry_ahead read key value) count s ≡ Ok (es, s') → Entries most key value count es s s'
unfolding repeated
entries_found most read takes key value zero s es s' fits e =
    subst (λ (q : List (Tree × Tree) × Source). Entries most key value 0 q.0 s q.1) {x = ([], s)} (ok_is ([], s) (es, s') e)
    (record { took = record { front = []; spelled = refl; parts = refl; counts = omega arith; fits = fits }; nesting = omega arith; many = refl })
entries_found most read takes key value (suc count) s es s' fits e =
    let b = bind_ok (entry_ahead read key value s) (λ first. repeated (entry_ahead read key value) count first.1 >>= λ others. Ok (first.0 ∷ others.0, others.1)) (es, s') e in
    let x = b.0.0 in
    let mid = b.0.1 in
    let first = entry_found most read takes key value s x mid fits b.1 in
    let k = bind_ok (repeated (entry_ahead read key value) count mid) (λ others. Ok (x ∷ others.0, others.1)) (es, s') b.2 in
    let others = entries_found most read takes key value count mid k.0.0 k.0.1 first.took.fits k.1 in
    subst (λ (q : List (Tree × Tree) × Source). Entries most key value (suc count) q.0 s q.1) {x = (x ∷ k.0.0, k.0.1)} (ok_is (x ∷ k.0.0, k.0.1) (es, s') k.2)
    (record {
      took = took_both (InTurn (λ front. Spells key front x.0) (λ back. Spells value back x.1)) (λ back. SpellsEntries key value back (entries_of k.0.0)) (nodes x.0 + nodes x.1) (nodes_of_entries (entries_of k.0.0)) s mid k.0.1 first.took others.took;
      nesting = omega (arith, first.key_nesting, first.value_nesting, others.nesting);
      many = ap suc others.many;
    })

-- ---- fields

record OneField (most : ℕ) (last : ℤ) (number : ℕ) (x : ℤ × Tree) (old new : Source) : Type 0 where
  took : Took (InTurn (FieldHeader last number x.0) (FieldValue (λ type inside. Spells type inside x.1) number x.1)) (nodes x.1) old new
  nesting : depth x.1 ≤ most

record FieldTook (most : ℕ) (number : ℕ) (v : Tree) (old new : Source) : Type 0 where
  took : Took (FieldValue (λ type inside. Spells type inside v) number v) (nodes v) old new
  nesting : depth v ≤ most

flag_found : (most : ℕ) (number : ℕ) (value : Bool) (s : Source) (v : Tree) (s' : Source) → ((bytes : List ℕ) → bytes ≡ [] → FieldValue (λ type inside. Spells type inside (boolean value)) number (boolean value) bytes)
    → IsBytes s.cursor → flag_ahead value s ≡ Ok (v, s') → FieldTook most number v s s'
unfolding flag_ahead
flag_found most number value s v s' implies fits e =
    let b = bind_ok (counted s) (λ inside. Ok (boolean value, inside)) (v, s') e in
    let c = counted_ok s b.0 b.1 in
    subst (λ (q : Tree × Source). FieldTook most number q.0 s q.1) {x = (boolean value, b.0)} (ok_is (boolean value, b.0) (v, s') b.2)
    (record { took = record { front = []; spelled = implies [] refl; parts = c.stays; counts = omega (arith, c.one); fits = subst IsBytes c.stays fits }; nesting = omega arith })

no_type_zero : (number : ℕ) (type : WireType) → announced number ≡ Ok type → number ≡ 0 → ⊥
unfolding announced
no_type_zero zero type e z = absurd cc
no_type_zero (suc n) type e z = absurd (omega arith)

value_part : (most : ℕ) (read : Reader) → TakesValues most read → (number : ℕ) (type : WireType) (s : Source) (v : Tree) (s' : Source) → number < 16 → announced number ≡ Ok type → IsBytes s.cursor
    → cond (eqb number 1) (flag_ahead true s) (cond (eqb number 2) (flag_ahead false s) (read type s)) ≡ Ok (v, s') → FieldTook most number v s s'
value_part most read takes number type s v s' small names fits e =
    elim (chosen (eqb number 1) (flag_ahead true s) (cond (eqb number 2) (flag_ahead false s) (read type s)) (Ok (v, s')) e) [
      | inl c ↦ flag_found most number true s v s' (λ bytes none. is_true (eqb-true number 1 c.0) refl none) fits c.1
      | inr c ↦ elim (chosen (eqb number 2) (flag_ahead false s) (read type s) (Ok (v, s')) c.1) [
        | inl k ↦ flag_found most number false s v s' (λ bytes none. is_false (eqb-true number 2 k.0) refl none) fits k.1
        | inr k ↦
            let zero : number ≢ 0 = no_type_zero number type names in
            let one : number ≢ 1 = eqb-false number 1 c.0 in
            let two : number ≢ 2 = eqb-false number 2 k.0 in
            let above : 2 < number = omega arith in
            let h = takes type s v s' fits k.1 in
            record { took = took_as (λ front. Spells type front v) (FieldValue (λ type inside. Spells type inside v) number v) (nodes v) s s' (λ bytes p. apart type above (record { fits = small; is = names }) p) h.took; nesting = h.nesting }
      ]
    ]

field_found : (most : ℕ) (read : Reader) → TakesValues most read → (h : ℕ) (last : ℤ) (before s : Source) (x : ℤ × Tree) (s' : Source) → Took (IsByte h) 0 before s → field_ahead read last h s ≡ Ok (x, s') → OneField most last (h % 16) x before s'
unfolding field_ahead
field_found most read takes h last before s x s' took e =
    let value = λ (type : WireType) (i : Source). cond (eqb (h % 16) 1) (flag_ahead true i) (cond (eqb (h % 16) 2) (flag_ahead false i) (read type i)) in
    let b = bind_ok (announced (h % 16)) (λ type. id_ahead (h / 16) last s >>= λ id. value type id.1 >>= λ v. Ok ((id.0, v.0), v.1)) (x, s') e in
    let i = bind_ok (id_ahead (h / 16) last s) (λ id. value b.0 id.1 >>= λ v. Ok ((id.0, v.0), v.1)) (x, s') b.2 in
    let v = bind_ok (value b.0 i.0.1) (λ v. Ok ((i.0.0, v.0), v.1)) (x, s') i.2 in
    let header = id_found h last before s i.0.0 i.0.1 took i.1 in
    let part = value_part most read takes (h % 16) b.0 i.0.1 v.0.0 v.0.1 (omega arith) b.1 header.fits v.1 in
    subst (λ (q : (ℤ × Tree) × Source). OneField most last (h % 16) q.0 before q.1) {x = ((i.0.0, v.0.0), v.0.1)} (ok_is ((i.0.0, v.0.0), v.0.1) (x, s') v.2)
    (record {
      took = took_next (FieldHeader last (h % 16) i.0.0) (FieldValue (λ type inside. Spells type inside v.0.0) (h % 16) v.0.0) (nodes v.0.0) before i.0.1 v.0.1 header part.took;
      nesting = part.nesting;
    })

record FieldsTook (most : ℕ) (last : ℤ) (fs : List (ℤ × Tree)) (old new : Source) : Type 0 where
  took : Took (λ front. SpellsFields last front (fields_of fs)) (nodes_of_fields (fields_of fs)) old new
  nesting : depth_of_fields (fields_of fs) ≤ most

abbrev fields_done : List (ℤ × Tree) → Source → Result (List (ℤ × Tree) × Source) ThriftFault
fields_done fs s = Ok (fs, s)

abbrev more_fields : Reader → ℤ → ℕ → ℕ → Source → Result (List (ℤ × Tree) × Source) ThriftFault
more_fields read last fuel header s = field_ahead read last header s >>= λ first. fields_ahead read first.0.0 fuel first.1 >>= λ others. Ok (first.0 ∷ others.0, others.1)

abbrev behind_header : Reader → ℤ → ℕ → ℕ × Source → Result (List (ℤ × Tree) × Source) ThriftFault
behind_header read last fuel header = cond (eqb header.0 0) (fields_done [] header.1) (more_fields read last fuel header.0 header.1)

fields_found : (most : ℕ) (read : Reader) → TakesValues most read → (last : ℤ) (fuel : ℕ) (s : Source) (fs : List (ℤ × Tree)) (s' : Source) → IsBytes s.cursor → fields_ahead read last fuel s ≡ Ok (fs, s') → FieldsTook most last fs s s'
unfolding fields_ahead
fields_found most read takes last zero s fs s' fits e = absurd cc
fields_found most read takes last (suc fuel) s fs s' fits e =
    let b = bind_ok (byte_ahead s) (behind_header read last fuel) (fs, s') e in
    let h = b.0.0 in
    let mid = b.0.1 in
    let took = byte_takes s h mid fits b.1 in
    elim (chosen (eqb h 0) (fields_done [] mid) (more_fields read last fuel h mid) (fields_done fs s') b.2) [
      | inl c ↦
          let none : h ≡ 0 = eqb-true h 0 c.0 in
          subst (λ (q : List (ℤ × Tree) × Source). FieldsTook most last q.0 s q.1) {x = ([], mid)} (ok_is ([], mid) (fs, s') c.1)
          (record { took = took_as (IsByte h) (λ front. SpellsFields last front (fields_of [])) 0 s mid (λ bytes p. p.alone ∙ ap (λ (k : ℕ). k ∷ []) none) took; nesting = omega arith })
      | inr c ↦
          let f = bind_ok (field_ahead read last h mid) (λ first. fields_ahead read first.0.0 fuel first.1 >>= λ others. Ok (first.0 ∷ others.0, others.1)) (fs, s') c.1 in
          let x = f.0.0 in
          let after = f.0.1 in
          let first = field_found most read takes h last s mid x after took f.1 in
          let k = bind_ok (fields_ahead read x.0 fuel after) (λ others. Ok (x ∷ others.0, others.1)) (fs, s') f.2 in
          let others = fields_found most read takes x.0 fuel after k.0.0 k.0.1 first.took.fits k.1 in
          let one = InTurn (FieldHeader last (h % 16) x.0) (FieldValue (λ type inside. Spells type inside x.1) (h % 16) x.1) in
          let both = took_both one (λ back. SpellsFields x.0 back (fields_of k.0.0)) (nodes x.1) (nodes_of_fields (fields_of k.0.0)) s after k.0.1 first.took others.took in
          subst (λ (q : List (ℤ × Tree) × Source). FieldsTook most last q.0 s q.1) {x = (x ∷ k.0.0, k.0.1)} (ok_is (x ∷ k.0.0, k.0.1) (fs, s') k.2)
          (record {
            took = took_as (InTurn one (λ back. SpellsFields x.0 back (fields_of k.0.0))) (λ front. SpellsFields last front (fields_of (x ∷ k.0.0))) (nodes x.1 + nodes_of_fields (fields_of k.0.0)) s k.0.1 (λ bytes p. (h % 16, p)) both;
            nesting = omega (arith, first.nesting, others.nesting);
          })
    ]

-- ---- containers

list_found : (most : ℕ) (read : Reader) → TakesValues most read → (s : Source) (t : Tree) (s' : Source) → IsBytes s.cursor → list_ahead read s ≡ Ok (t, s') → Contains (suc most) wire.List t s s'
unfolding list_ahead
list_found most read takes s t s' fits e =
    let b = bind_ok (list_header_ahead s) (λ header. repeated (read header.0.0) header.0.1 header.1 >>= λ members. Ok (list (trees_of members.0), members.1)) (t, s') e in
    let member = b.0.0.0 in
    let count = b.0.0.1 in
    let mid = b.0.1 in
    let header = list_header_found s member count mid fits b.1 in
    let k = bind_ok (repeated (read member) count mid) (λ members. Ok (list (trees_of members.0), members.1)) (t, s') b.2 in
    let members = members_found most read takes member count mid k.0.0 k.0.1 header.fits k.1 in
    let ts = trees_of k.0.0 in
    let head : Took (ListHeader (count_of_trees ts) member) 0 s mid = subst (λ (n : ℕ). Took (ListHeader n member) 0 s mid) (sym members.many) header in
    subst (λ (q : Tree × Source). Contains (suc most) wire.List q.0 s q.1) {x = (list ts, k.0.1)} (ok_is (list ts, k.0.1) (t, s') k.2)
    (record {
      used = nodes_of_trees ts;
      all = refl;
      took = took_as (InTurn (ListHeader (count_of_trees ts) member) (λ body. SpellsMembers member body ts)) (λ front. Spells wire.List front (list ts)) (nodes_of_trees ts) s k.0.1 (λ bytes p. (refl, member, p))
          (took_next (ListHeader (count_of_trees ts) member) (λ body. SpellsMembers member body ts) (nodes_of_trees ts) s mid k.0.1 head members.took);
      nesting = omega (arith, members.nesting);
    })

map_found : (most : ℕ) (read : Reader) → TakesValues most read → (s : Source) (t : Tree) (s' : Source) → IsBytes s.cursor → map_ahead read s ≡ Ok (t, s') → Contains (suc most) wire.Map t s s'
unfolding map_ahead
map_found most read takes s t s' fits e =
    let b = bind_ok (map_header_ahead s) (λ header. repeated (entry_ahead read header.0.0 header.0.1) header.0.2 header.1 >>= λ entries. Ok (map (entries_of entries.0), entries.1)) (t, s') e in
    let key = b.0.0.0 in
    let value = b.0.0.1 in
    let count = b.0.0.2 in
    let mid = b.0.1 in
    let header = map_header_found s key value count mid fits b.1 in
    let k = bind_ok (repeated (entry_ahead read key value) count mid) (λ entries. Ok (map (entries_of entries.0), entries.1)) (t, s') b.2 in
    let entries = entries_found most read takes key value count mid k.0.0 k.0.1 header.fits k.1 in
    let es = entries_of k.0.0 in
    let head : Took (MapHeader (count_of_entries es) key value) 0 s mid = subst (λ (n : ℕ). Took (MapHeader n key value) 0 s mid) (sym entries.many) header in
    subst (λ (q : Tree × Source). Contains (suc most) wire.Map q.0 s q.1) {x = (map es, k.0.1)} (ok_is (map es, k.0.1) (t, s') k.2)
    (record {
      used = nodes_of_entries es;
      all = refl;
      took = took_as (InTurn (MapHeader (count_of_entries es) key value) (λ body. SpellsEntries key value body es)) (λ front. Spells wire.Map front (map es)) (nodes_of_entries es) s k.0.1 (λ bytes p. (refl, key, value, p))
          (took_next (MapHeader (count_of_entries es) key value) (λ body. SpellsEntries key value body es) (nodes_of_entries es) s mid k.0.1 head entries.took);
      nesting = omega (arith, entries.nesting);
    })

struct_found : (most : ℕ) (read : Reader) → TakesValues most read → (s : Source) (t : Tree) (s' : Source) → IsBytes s.cursor → struct_ahead read s ≡ Ok (t, s') → Contains (suc most) wire.Struct t s s'
unfolding struct_ahead
struct_found most read takes s t s' fits e =
    let b = bind_ok (fields_ahead read (pos 0) (length s.cursor) s) (λ fields. Ok (struct (fields_of fields.0), fields.1)) (t, s') e in
    let fields = fields_found most read takes (pos 0) (length s.cursor) s b.0.0 b.0.1 fits b.1 in
    let fs = fields_of b.0.0 in
    subst (λ (q : Tree × Source). Contains (suc most) wire.Struct q.0 s q.1) {x = (struct fs, b.0.1)} (ok_is (struct fs, b.0.1) (t, s') b.2)
    (record {
      used = nodes_of_fields fs;
      all = refl;
      took = took_as (λ front. SpellsFields (pos 0) front fs) (λ front. Spells wire.Struct front (struct fs)) (nodes_of_fields fs) s b.0.1 (λ bytes p. (refl, p)) fields.took;
      nesting = omega (arith, fields.nesting);
    })

content_found : (most : ℕ) (type : WireType) (s : Source) (t : Tree) (s' : Source) → IsBytes s.cursor → content_ahead most type s ≡ Ok (t, s') → Contains most type t s s'
unfolding content_ahead
content_found most wire.Boolean s t s' fits e = boolean_found most s t s' fits e
content_found most wire.Byte s t s' fits e = byte_number_found most s t s' fits e
content_found most wire.Int16 s t s' fits e = integer_found most 16 wire.Int16 s t s' (λ bytes z p. p) fits e
content_found most wire.Int32 s t s' fits e = integer_found most 32 wire.Int32 s t s' (λ bytes z p. p) fits e
content_found most wire.Int64 s t s' fits e = integer_found most 64 wire.Int64 s t s' (λ bytes z p. p) fits e
content_found most wire.Double s t s' fits e = double_found most s t s' fits e
content_found most wire.Binary s t s' fits e = binary_found most s t s' fits e
content_found zero wire.List s t s' fits e = absurd cc
content_found zero wire.Map s t s' fits e = absurd cc
content_found zero wire.Struct s t s' fits e = absurd cc
content_found (suc most) wire.List s t s' fits e = list_found most (λ type inside. counted inside >>= content_ahead most type) (value_found most (content_ahead most) (content_found most)) s t s' fits e
content_found (suc most) wire.Map s t s' fits e = map_found most (λ type inside. counted inside >>= content_ahead most type) (value_found most (content_ahead most) (content_found most)) s t s' fits e
content_found (suc most) wire.Struct s t s' fits e = struct_found most (λ type inside. counted inside >>= content_ahead most type) (value_found most (content_ahead most) (content_found most)) s t s' fits e

-- a front of the bytes spells a struct that keeps the limits, and the rest is left
pub record StructInFront (bytes : List ℕ) (t : Tree) (rest : List ℕ) : Type 0 where
  pub front : List ℕ
  pub spelled : SpellsStruct front t
  pub split : bytes ≡ front ++ rest

pub struct_at_found : (bytes : List ℕ) (t : Tree) (rest : List ℕ) → IsBytes bytes → struct_at bytes ≡ Ok (t, rest) → StructInFront bytes t rest
unfolding struct_at value_ahead
struct_at_found bytes t rest fits e =
    let start : Source = record { cursor = bytes; nodes = 262144 } in
    let b = bind_ok (value_ahead 32 wire.Struct start) (λ read. Ok (read.0, read.1.cursor)) (t, rest) e in
    let v = value_found 32 (content_ahead 32) (content_found 32) wire.Struct start b.0.0 b.0.1 fits b.1 in
    subst (λ (q : Tree × List ℕ). StructInFront bytes q.0 q.1) {x = (b.0.0, b.0.1.cursor)} (ok_is (b.0.0, b.0.1.cursor) (t, rest) b.2)
    (record { front = v.took.front; spelled = record { spelled = v.took.spelled; nesting = v.nesting; values = omega (arith, v.took.counts) }; split = v.took.parts })
