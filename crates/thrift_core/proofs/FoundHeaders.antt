-- What reading takes for a value of one part or for a header spells it.
use Rattle.std.proofs.Common.{◌≡◌, ◌≢◌, ℕ, zero, suc, ◌+◌, ◌*◌, ◌/◌, ◌%◌, ◌<◌, ◌≤◌, ℤ, pos, ◌+ℤ◌, true, false, cond, eqb, ltb, List, [], ◌∷◌, ◌++◌, length, Result, Ok, Err, refl, sym, ap, subst, ◌∙◌, arith, inl, inr, ◌⊎◌}
use Rattle.std.specs.Int.{w8, cast_signed}
use Rattle.std.specs.Int.Signed.{le_z, le_z_yes}
use Rattle.std.proofs.lemmas.Float.{T_from_true}
use Rattle.std.proofs.lemmas.Bool.{ltb-true, eqb-true, eqb-false}
use Rattle.outcomes.specs.Results.{◌>>=◌}
use Rattle.outcomes.specs.Bytes.{IsBytes}
use Rattle.lake_bytes.specs.Varint.{SpellsNumber}
use Rattle.lake_bytes.specs.Zigzag.{SpellsSigned}
use Rattle.lake_bytes.specs.declared.fault.ByteFault.TheVariants as faults
use Rattle.thrift_values.specs.Tree.{Tree, boolean, integer, binary, skipped, depth, nodes}
use Rattle.thrift_core.specs.Wire.{announced, Announces}
use Rattle.thrift_core.specs.Spelling.{InTurn, one, two, none, ListHeader, small_size, size_behind, MapHeader, empty_map, filled_map, FieldHeader, id_rises, id_behind, Spells}
use Rattle.thrift_core.specs.Reading.{byte_ahead, varint_ahead, signed_ahead, bytes_ahead, bounded_size, boolean_ahead, byte_number_ahead, integer_ahead, double_ahead, binary_ahead, list_header_ahead, map_header_ahead, id_ahead}
use Rattle.thrift_values.specs.declared.fault.ThriftFault.{ThriftFault}
use Rattle.thrift_values.specs.declared.fault.ThriftFault.TheVariants.{Bytes, BadType}
use Rattle.thrift_core.specs.declared.source.Source.{Source}
use Rattle.thrift_core.specs.declared.wire.WireType.{WireType}
use Rattle.thrift_core.specs.declared.wire.WireType.TheVariants as wire
use Rattle.thrift_core.proofs.Takes.{bind_ok, guard_ok, chosen, ok_is, Took, took_both, took_as, done, IsByte, AreBytes, byte_takes, varint_takes, signed_takes, bytes_takes}

pub took_used : (P : List ℕ → Type 0) (used more : ℕ) (a b : Source) → used ≡ more → Took P used a b → Took P more a b
took_used P used more a b e p = subst (λ (n : ℕ). Took P n a b) e p

-- What was read behind the count of a value is a spelling of the tree.
pub record Contains (most : ℕ) (type : WireType) (t : Tree) (old new : Source) : Type 0 where
  pub used : ℕ
  pub all : nodes t ≡ suc used
  pub took : Took (λ front. Spells type front t) used old new
  pub nesting : depth t ≤ most

contains_is : (most : ℕ) (type : WireType) (t t' : Tree) (old new new' : Source) → ◌≡◌ {A = Tree × Source} (t, new) (t', new') → Contains most type t old new → Contains most type t' old new'
contains_is most type t t' old new new' e h = subst (λ (p : Tree × Source). Contains most type p.0 old p.1) e h

-- ---- values of one part

zero_or_two : (b : ℕ) → (b ≡ 1 → ⊥) → b < 3 → (b ≡ 0) ⊎ (b ≡ 2)
zero_or_two zero other lt = inl refl
zero_or_two (suc zero) other lt = absurd (other refl)
zero_or_two (suc (suc zero)) other lt = inr refl
zero_or_two (suc (suc (suc b))) other lt = absurd (omega arith)

pub boolean_found : (most : ℕ) (s : Source) (t : Tree) (s' : Source) → IsBytes s.cursor → boolean_ahead s ≡ Ok (t, s') → Contains most wire.Boolean t s s'
unfolding boolean_ahead
boolean_found most s t s' fits e =
    let b = bind_ok (byte_ahead s) (λ byte. cond (eqb byte.0 1) (Ok (boolean true, byte.1)) (cond (ltb byte.0 3) (Ok (boolean false, byte.1)) (Err BadType))) (t, s') e in
    let n = b.0.0 in
    let mid = b.0.1 in
    let took = byte_takes s n mid fits b.1 in
    elim (chosen (eqb n 1) (Ok (boolean true, mid)) (cond (ltb n 3) (Ok (boolean false, mid)) (Err BadType)) (Ok (t, s')) b.2) [
      | inl h ↦
          contains_is most wire.Boolean (boolean true) t s mid s' (ok_is (boolean true, mid) (t, s') h.1)
          (record { used = 0; all = refl; nesting = omega arith; took = took_as (IsByte n) (λ front. Spells wire.Boolean front (boolean true)) 0 s mid (λ bytes p. (refl, one (p.alone ∙ ap (λ (k : ℕ). k ∷ []) (eqb-true n 1 h.0)) refl)) took })
      | inr h ↦ elim (chosen (ltb n 3) (Ok (boolean false, mid)) (Err BadType) (Ok (t, s')) h.1) [
        | inl k ↦
            contains_is most wire.Boolean (boolean false) t s mid s' (ok_is (boolean false, mid) (t, s') k.1)
            (record {
              used = 0;
              all = refl;
              nesting = omega arith;
              took = took_as (IsByte n) (λ front. Spells wire.Boolean front (boolean false)) 0 s mid (λ bytes p. (
                refl,
                elim (zero_or_two n (eqb-false n 1 h.0) (ltb-true n 3 k.0)) [
                  | inl is ↦ none (p.alone ∙ ap (λ (k : ℕ). k ∷ []) is) refl
                  | inr is ↦ two (p.alone ∙ ap (λ (k : ℕ). k ∷ []) is) refl
                ],
              )) took;
            })
        | inr k ↦ absurd cc
      ]
    ]

pub byte_number_found : (most : ℕ) (s : Source) (t : Tree) (s' : Source) → IsBytes s.cursor → byte_number_ahead s ≡ Ok (t, s') → Contains most wire.Byte t s s'
unfolding byte_number_ahead
byte_number_found most s t s' fits e =
    let b = bind_ok (byte_ahead s) (λ byte. Ok (integer (cast_signed w8 byte.0), byte.1)) (t, s') e in
    let n = b.0.0 in
    let mid = b.0.1 in
    let took = byte_takes s n mid fits b.1 in
    contains_is most wire.Byte (integer (cast_signed w8 n)) t s mid s' (ok_is (integer (cast_signed w8 n), mid) (t, s') b.2)
    (record { used = 0; all = refl; nesting = omega arith; took = took_as (IsByte n) (λ front. Spells wire.Byte front (integer (cast_signed w8 n))) 0 s mid (λ bytes p. record { byte = n; fits = p.small; alone = p.alone; value = refl }) took })

pub integer_found : (most width : ℕ) (type : WireType) (s : Source) (t : Tree) (s' : Source) → ((bytes : List ℕ) (z : ℤ) → SpellsSigned width bytes z → Spells type bytes (integer z)) → IsBytes s.cursor → integer_ahead width s ≡ Ok (t, s') → Contains most type t s s'
unfolding integer_ahead
integer_found most width type s t s' implies fits e =
    let b = bind_ok (signed_ahead width s) (λ number. Ok (integer number.0, number.1)) (t, s') e in
    let z = b.0.0 in
    let mid = b.0.1 in
    let took = signed_takes width s z mid fits b.1 in
    contains_is most type (integer z) t s mid s' (ok_is (integer z, mid) (t, s') b.2)
    (record { used = 0; all = refl; nesting = omega arith; took = took_as (λ front. SpellsSigned width front z) (λ front. Spells type front (integer z)) 0 s mid (λ bytes p. implies bytes z p) took })

pub double_found : (most : ℕ) (s : Source) (t : Tree) (s' : Source) → IsBytes s.cursor → double_ahead s ≡ Ok (t, s') → Contains most wire.Double t s s'
unfolding double_ahead
double_found most s t s' fits e =
    let b = bind_ok (bytes_ahead 8 s) (λ bytes. Ok (skipped, bytes.1)) (t, s') e in
    let text = b.0.0 in
    let mid = b.0.1 in
    let took = bytes_takes 8 s text mid fits b.1 in
    contains_is most wire.Double skipped t s mid s' (ok_is (skipped, mid) (t, s') b.2)
    (record { used = 0; all = refl; nesting = omega arith; took = took_as (AreBytes 8 text) (λ front. Spells wire.Double front skipped) 0 s mid (λ bytes p. (refl, ap length p.same ∙ p.many)) took })

pub binary_found : (most : ℕ) (s : Source) (t : Tree) (s' : Source) → IsBytes s.cursor → binary_ahead s ≡ Ok (t, s') → Contains most wire.Binary t s s'
unfolding binary_ahead
binary_found most s t s' fits e =
    let b = bind_ok (varint_ahead s) (λ size. bytes_ahead size.0 size.1 >>= λ text. Ok (binary text.0, text.1)) (t, s') e in
    let size = b.0.0 in
    let mid = b.0.1 in
    let k = bind_ok (bytes_ahead size mid) (λ text. Ok (binary text.0, text.1)) (t, s') b.2 in
    let text = k.0.0 in
    let end = k.0.1 in
    let first = varint_takes s size mid fits b.1 in
    let second = bytes_takes size mid text end first.fits k.1 in
    let both = took_both (λ front. SpellsNumber front size) (AreBytes size text) 0 0 s mid end first second in
    contains_is most wire.Binary (binary text) t s end s' (ok_is (binary text, end) (t, s') k.2)
    (record {
      used = 0;
      all = refl;
      nesting = omega arith;
      took = took_as (InTurn (λ front. SpellsNumber front size) (AreBytes size text)) (λ front. Spells wire.Binary front (binary text)) 0 s end
          (λ bytes p. (refl, record { front = p.front; back = p.back; first = subst (λ (n : ℕ). SpellsNumber p.front n) (sym p.second.many) p.first; second = p.second.same; whole = p.whole })) both;
    })

-- ---- headers

pub record Bounded (size : ℕ) (s : Source) (count : ℕ) (s' : Source) : Type 0 where
  pub same : size ≡ count
  pub stays : s ≡ s'

pub bounded_size_ok : (size : ℕ) (s : Source) (count : ℕ) (s' : Source) → bounded_size size s ≡ Ok (count, s') → Bounded size s count s'
unfolding bounded_size
bounded_size_ok size s count s' e =
    let g = guard_ok (ltb (length s.cursor) size) (Bytes faults.Short) (size, s) (count, s') e in
    record { same = ap (λ (p : ℕ × Source). p.0) g.1; stays = ap (λ (p : ℕ × Source). p.1) g.1 }

list_size : (h : ℕ) (s : Source) (size : ℕ) (s' : Source) (before : Source) (member : WireType) → Took (IsByte h) 0 before s → announced (h % 16) ≡ Ok member
    → cond (eqb (h / 16) 15) (varint_ahead s) (Ok (h / 16, s)) ≡ Ok (size, s') → Took (ListHeader size member) 0 before s'
list_size h s size s' before member took type e =
    let names : Announces (h % 16) member = record { fits = omega arith; is = type } in
    elim (chosen (eqb (h / 16) 15) (varint_ahead s) (Ok (h / 16, s)) (Ok (size, s')) e) [
      | inl k ↦
          let half : h / 16 ≡ 15 = eqb-true (h / 16) 15 k.0 in
          let split : h ≡ 16 * 15 + h % 16 = omega arith in
          took_as (InTurn (IsByte h) (λ front. SpellsNumber front size)) (ListHeader size member) 0 before s'
          (λ bytes p. size_behind (h % 16) p.back names p.second (p.whole ∙ ap (λ (f : List ℕ). f ++ p.back) (p.first.alone ∙ ap (λ (k : ℕ). k ∷ []) split)))
          (took_both (IsByte h) (λ front. SpellsNumber front size) 0 0 before s s' took (varint_takes s size s' took.fits k.1))
      | inr k ↦
          let is = ok_is (h / 16, s) (size, s') k.1 in
          let half : h / 16 ≢ 15 = eqb-false (h / 16) 15 k.0 in
          subst (λ (q : ℕ × Source). Took (ListHeader q.0 member) 0 before q.1) is
          (took_as (IsByte h) (ListHeader (h / 16) member) 0 before s
          (λ bytes p.
          let small : h < 256 = p.small in
          let split : h ≡ 16 * (h / 16) + h % 16 = omega arith in
          let below : h / 16 < 15 = omega arith in
          small_size (h % 16) names below (p.alone ∙ ap (λ (k : ℕ). k ∷ []) split))
          took)
    ]

bounded_took : (P : ℕ → List ℕ → Type 0) (size count : ℕ) (before s s' : Source) → Bounded size s count s' → Took (P size) 0 before s → Took (P count) 0 before s'
bounded_took P size count before s s' f took = subst (λ (n : ℕ). Took (P n) 0 before s') {x = size} f.same (subst (λ (x : Source). Took (P size) 0 before x) {x = s} f.stays took)

list_took : (s : Source) (member member' : WireType) (count count' : ℕ) (after after' : Source) → ◌≡◌ {A = (WireType × ℕ) × Source} ((member, count), after) ((member', count'), after') → Took (ListHeader count member) 0 s after → Took (ListHeader count' member') 0 s after'
list_took s member member' count count' after after' is took = subst (λ (q : (WireType × ℕ) × Source). Took (ListHeader q.0.1 q.0.0) 0 s q.1) is took

pub list_header_found : (s : Source) (member : WireType) (count : ℕ) (s' : Source) → IsBytes s.cursor → list_header_ahead s ≡ Ok ((member, count), s') → Took (ListHeader count member) 0 s s'
unfolding list_header_ahead
list_header_found s member count s' fits e =
    let b = bind_ok (byte_ahead s) (λ header. announced (header.0 % 16) >>= λ member. cond (eqb (header.0 / 16) 15) (varint_ahead header.1) (Ok (header.0 / 16, header.1)) >>= λ size. bounded_size size.0 size.1 >>= λ count. Ok ((member, count.0), count.1)) ((member, count), s') e in
    let h = b.0.0 in
    let mid = b.0.1 in
    let k = bind_ok (announced (h % 16)) (λ member. cond (eqb (h / 16) 15) (varint_ahead mid) (Ok (h / 16, mid)) >>= λ size. bounded_size size.0 size.1 >>= λ count. Ok ((member, count.0), count.1)) ((member, count), s') b.2 in
    let m = bind_ok (cond (eqb (h / 16) 15) (varint_ahead mid) (Ok (h / 16, mid))) (λ size. bounded_size size.0 size.1 >>= λ count. Ok ((k.0, count.0), count.1)) ((member, count), s') k.2 in
    let f = bind_ok (bounded_size m.0.0 m.0.1) (λ count. Ok ((k.0, count.0), count.1)) ((member, count), s') m.2 in
    let bounded = bounded_size_ok m.0.0 m.0.1 f.0.0 f.0.1 f.1 in
    let took : Took (ListHeader m.0.0 k.0) 0 s m.0.1 = list_size h mid m.0.0 m.0.1 s k.0 (byte_takes s h mid fits b.1) k.1 m.1 in
    let kept : Took (ListHeader f.0.0 k.0) 0 s f.0.1 = bounded_took (λ n. ListHeader n k.0) m.0.0 f.0.0 s m.0.1 f.0.1 bounded took in
    let is = ok_is ((k.0, f.0.0), f.0.1) ((member, count), s') f.2 in
    list_took s k.0 member f.0.0 count f.0.1 s' is kept

abbrev map_done : WireType → WireType → ℕ → Source → Result ((WireType × WireType × ℕ) × Source) ThriftFault
map_done key value n s = Ok ((key, value, n), s)

pub map_header_found : (s : Source) (key value : WireType) (count : ℕ) (s' : Source) → IsBytes s.cursor → map_header_ahead s ≡ Ok ((key, value, count), s') → Took (MapHeader count key value) 0 s s'
unfolding map_header_ahead
map_header_found s key value count s' fits e =
    let rest = λ (n : ℕ) (x : Source). byte_ahead x >>= λ types. announced (types.0 / 16) >>= λ key. announced (types.0 % 16) >>= λ value. map_done key value n types.1 in
    let b = bind_ok (varint_ahead s) (λ size. bounded_size size.0 size.1 >>= λ count. cond (eqb count.0 0) (map_done wire.Boolean wire.Boolean 0 count.1) (rest count.0 count.1)) ((key, value, count), s') e in
    let f = bind_ok (bounded_size b.0.0 b.0.1) (λ count. cond (eqb count.0 0) (map_done wire.Boolean wire.Boolean 0 count.1) (rest count.0 count.1)) ((key, value, count), s') b.2 in
    let n = f.0.0 in
    let mid = f.0.1 in
    let bounded = bounded_size_ok b.0.0 b.0.1 n mid f.1 in
    let first : Took (λ front. SpellsNumber front b.0.0) 0 s b.0.1 = varint_takes s b.0.0 b.0.1 fits b.1 in
    let size : Took (λ front. SpellsNumber front n) 0 s mid = bounded_took (λ n front. SpellsNumber front n) b.0.0 n s b.0.1 mid bounded first in
    elim (chosen (eqb n 0) (map_done wire.Boolean wire.Boolean 0 mid) (rest n mid) (map_done key value count s') f.2) [
      | inl c ↦
          let none : n ≡ 0 = eqb-true n 0 c.0 in
          let is = ok_is ((wire.Boolean, wire.Boolean, 0), mid) ((key, value, count), s') c.1 in
          subst (λ (q : (WireType × WireType × ℕ) × Source). Took (MapHeader q.0.2 q.0.0 q.0.1) 0 s q.1) is
          (took_as (λ front. SpellsNumber front n) (MapHeader 0 wire.Boolean wire.Boolean) 0 s mid (λ bytes p. empty_map refl (subst (λ (k : ℕ). SpellsNumber bytes k) none p)) size)
      | inr c ↦ filled n mid s' key value count s size (eqb-false n 0 c.0) c.1
    ]
  where
    filled : (n : ℕ) (mid s' : Source) (key value : WireType) (count : ℕ) (s : Source) → Took (λ front. SpellsNumber front n) 0 s mid → (n ≡ 0 → ⊥)
        → (byte_ahead mid >>= λ types. announced (types.0 / 16) >>= λ key. announced (types.0 % 16) >>= λ value. map_done key value n types.1) ≡ map_done key value count s' → Took (MapHeader count key value) 0 s s'
    filled n mid s' key value count s size some e =
        let t = bind_ok (byte_ahead mid) (λ types. announced (types.0 / 16) >>= λ key. announced (types.0 % 16) >>= λ value. map_done key value n types.1) ((key, value, count), s') e in
        let h = t.0.0 in
        let end = t.0.1 in
        let k = bind_ok (announced (h / 16)) (λ key. announced (h % 16) >>= λ value. map_done key value n end) ((key, value, count), s') t.2 in
        let v = bind_ok (announced (h % 16)) (λ value. map_done k.0 value n end) ((key, value, count), s') k.2 in
        let is = ok_is ((k.0, v.0, n), end) ((key, value, count), s') v.2 in
        let types = byte_takes mid h end size.fits t.1 in
        let more : n ≢ 0 = some in
        let positive : 0 < n = omega arith in
        subst (λ (q : (WireType × WireType × ℕ) × Source). Took (MapHeader q.0.2 q.0.0 q.0.1) 0 s q.1) is
        (took_as (InTurn (λ front. SpellsNumber front n) (IsByte h)) (MapHeader n k.0 v.0) 0 s end
        (λ bytes p.
        let small : h < 256 = p.second.small in
        let split : h ≡ 16 * (h / 16) + h % 16 = omega arith in
        filled_map (h / 16) (h % 16) (record { fits = omega arith; is = k.1 }) (record { fits = omega arith; is = v.1 }) positive
        (record { front = p.front; back = p.back; first = p.first; second = p.second.alone ∙ ap (λ (k : ℕ). k ∷ []) split; whole = p.whole }))
        (took_both (λ front. SpellsNumber front n) (IsByte h) 0 0 s mid end size types))

pub id_found : (h : ℕ) (last : ℤ) (before s : Source) (id : ℤ) (s' : Source) → Took (IsByte h) 0 before s → id_ahead (h / 16) last s ≡ Ok (id, s') → Took (FieldHeader last (h % 16) id) 0 before s'
unfolding id_ahead
id_found h last before s id s' took e =
    let next = last +ℤ pos (h / 16) in
    elim (chosen (eqb (h / 16) 0) (signed_ahead 16 s) (cond (le_z next (pos 32767)) (done (next, s)) (Err (Bytes faults.OutOfRange))) (done (id, s')) e) [
      | inl c ↦
          let half : h / 16 ≡ 0 = eqb-true (h / 16) 0 c.0 in
          let split : h ≡ h % 16 = omega arith in
          took_as (InTurn (IsByte h) (λ front. SpellsSigned 16 front id)) (FieldHeader last (h % 16) id) 0 before s'
          (λ bytes p. id_behind p.back p.second (p.whole ∙ ap (λ (f : List ℕ). f ++ p.back) (p.first.alone ∙ ap (λ (k : ℕ). k ∷ []) split)))
          (took_both (IsByte h) (λ front. SpellsSigned 16 front id) 0 0 before s s' took (signed_takes 16 s id s' took.fits c.1))
      | inr c ↦ elim (chosen (le_z next (pos 32767)) (done (next, s)) (Err (Bytes faults.OutOfRange)) (done (id, s')) c.1) [
        | inl k ↦
            let some : h / 16 ≢ 0 = eqb-false (h / 16) 0 c.0 in
            let positive : 0 < h / 16 = omega arith in
            subst (λ (q : ℤ × Source). Took (FieldHeader last (h % 16) q.0) 0 before q.1) (ok_is (next, s) (id, s') k.1)
            (took_as (IsByte h) (FieldHeader last (h % 16) next) 0 before s
            (λ bytes p.
            let small : h < 256 = p.small in
            let split : h ≡ 16 * (h / 16) + h % 16 = omega arith in
            let most : h / 16 ≤ 15 = omega arith in
            id_rises (h / 16) positive most refl (le_z_yes (T_from_true (le_z next (pos 32767)) k.0)) (p.alone ∙ ap (λ (k : ℕ). k ∷ []) split))
            took)
        | inr k ↦ absurd cc
      ]
    ]
