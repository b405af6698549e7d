-- Values that are read stand in the bytes by PLAIN.
use Rattle.std.proofs.Common.{◌≡◌, ℕ, zero, suc, ◌^◌, ◌<◌, ℤ, ltb, List, [], ◌∷◌, ◌++◌, length, map, take, drop, Ok, refl, sym, ap, subst, ◌∙◌, arith, append_assoc, Fits}
use Rattle.std.specs.Prelude.{FitsSigned}
use Rattle.std.specs.Int.{Width, w32, w64, byte_len, to_le_bytes, from_le_bytes, cast_signed, cast_unsigned}
use Rattle.std.proofs.Math.Facts.{of_z-to_z, sfits_to_z}
use Rattle.std.proofs.lemmas.Bool.{ltb-false}
use Rattle.std.proofs.lemmas.List.{length-map, length-take-le, take-append-drop}
use Rattle.std.proofs.lemmas.Nat.{le_bytes_4, le_bytes_8}
use Rattle.lake_bytes.specs.LittleEndian.{little_at, signed_little_at}
use Rattle.lake_bytes.specs.Reading.{bytes_at}
use Rattle.outcomes.specs.Results.{◌>>=◌}
use Rattle.outcomes.specs.Bytes.{IsBytes}
use Rattle.lake_bytes.specs.declared.fault.ByteFault.{ByteFault}
use Rattle.lake_bytes.specs.declared.fault.ByteFault.TheVariants.{Short}
use Rattle.lake_bytes.specs.Hybrid.{low_first, unpacked}
use Rattle.lake_bytes.proofs.Callers.{length-unpacked}
use Rattle.row_core.specs.Rows.{Value, whole, text, bytes}
use Rattle.page_cells.specs.Plain.{AreValues, IsPlain, IsValue, behind_length, binary_at, bytes_for_bits, content_at, int32_at, int64_at, no_value, plain_at, text_at, truth_of, truths_at, value, value_at, values_at}
use Rattle.page_cells.specs.Types.{physical_type}
use Rattle.page_cells.specs.declared.types.LeafType.{LeafType}
use Rattle.page_cells.specs.declared.types.LeafType.TheVariants as leaf
use Rattle.page_cells.specs.declared.types.PhysicalType.{PhysicalType}
use Rattle.page_cells.specs.declared.types.PhysicalType.TheVariants.{Int32, Int64, ByteArray}
use Rattle.page_cells.proofs.FoundSteps.{bind_ok, ok_is, passed, bytes_before, bytes_after, taken_found}

-- ---- numbers

-- as many bytes as a width has are a number of that width, which spells them again
record IsNumber (w : Width) (given : List ℕ) : Type 0 where
  fits : Fits w (from_le_bytes w given)
  again : to_le_bytes w (from_le_bytes w given) ≡ given

abbrev AreNumbers : Width → Type 0
AreNumbers w = (given : List ℕ) → length given ≡ byte_len w → IsBytes given → IsNumber w given

four_bytes : AreNumbers w32
four_bytes given many h = record {
  fits = record { fits = omega (arith, h 0, h 1, h 2, h 3) };
  again = le_bytes_4 given (from_le_bytes w32 given) many h refl;
}

eight_bytes : AreNumbers w64
eight_bytes given many h = record {
  fits = record { fits = omega (arith, h 0, h 1, h 2, h 3, h 4, h 5, h 6, h 7) };
  again = le_bytes_8 given (from_le_bytes w64 given) many h refl;
}

-- a number stands in front
record NumberInFront (w : Width) (given : List ℕ) (number : ℕ) (rest : List ℕ) : Type 0 where
  fits : Fits w number
  parts : given ≡ to_le_bytes w number ++ rest

little_found : (w : Width) (given : List ℕ) (number : ℕ) (rest : List ℕ) → AreNumbers w → IsBytes given
    → little_at w given ≡ Ok (number, rest) → NumberInFront w given number rest
unfolding little_at
little_found w given number rest numbers h e =
    let size = byte_len w in
    let first = take size given in
    let t = passed (ltb (length given) size) Short (Ok (from_le_bytes w first, drop size given)) (number, rest) e in
    let n = numbers first (length-take-le size given (ltb-false (length given) size t.0)) (bytes_before size given h) in
    subst (λ (p : ℕ × List ℕ). NumberInFront w given p.0 p.1) {x = (from_le_bytes w first, drop size given)}
    (ok_is {E = ByteFault} (from_le_bytes w first, drop size given) (number, rest) t.1)
    (record {
      fits = n.fits;
      parts = sym (take-append-drop size given) ∙ ap (λ (t : List ℕ). t ++ drop size given) (sym n.again);
    })

-- a number in two's complement stands in front
record SignedInFront (w : Width) (given : List ℕ) (z : ℤ) (rest : List ℕ) : Type 0 where
  fits : FitsSigned w z
  parts : given ≡ to_le_bytes w (cast_unsigned w z) ++ rest

signed_found : (w : Width) (given : List ℕ) (z : ℤ) (rest : List ℕ) → AreNumbers w → IsBytes given
    → signed_little_at w given ≡ Ok (z, rest) → SignedInFront w given z rest
unfolding signed_little_at
signed_found w given z rest numbers h e =
    let b = bind_ok (little_at w given) (λ number. Ok (cast_signed w number.0, number.1)) (z, rest) e in
    let n = b.0.0 in
    let f = little_found w given n b.0.1 numbers h b.1 in
    subst (λ (p : ℤ × List ℕ). SignedInFront w given p.0 p.1) {x = (cast_signed w n, b.0.1)}
    (ok_is {E = ByteFault} (cast_signed w n, b.0.1) (z, rest) b.2)
    (record {
      fits = sfits_to_z {w = w} {n = n} f.fits;
      parts = f.parts ∙ ap (λ (k : ℕ). to_le_bytes w k ++ b.0.1) (sym (of_z-to_z {w = w} {n = n} f.fits));
    })

-- ---- one value

-- a value stands in front
record ValueInFront (type : PhysicalType) (given : List ℕ) (v : Value) (rest : List ℕ) : Type 0 where
  front : List ℕ
  split : given ≡ front ++ rest
  spelled : IsValue type front v

int32_found : (given : List ℕ) (v : Value) (rest : List ℕ) → IsBytes given → int32_at given ≡ Ok (v, rest)
    → ValueInFront Int32 given v rest
unfolding int32_at
int32_found given v rest h e =
    let b = bind_ok (signed_little_at w32 given) (λ number. Ok (whole number.0, number.1)) (v, rest) e in
    let f = signed_found w32 given b.0.0 b.0.1 four_bytes h b.1 in
    subst (λ (p : Value × List ℕ). ValueInFront Int32 given p.0 p.1) {x = (whole b.0.0, b.0.1)}
    (ok_is {E = ByteFault} (whole b.0.0, b.0.1) (v, rest) b.2)
    (record { front = to_le_bytes w32 (cast_unsigned w32 b.0.0); split = f.parts; spelled = (f.fits, refl) })

int64_found : (given : List ℕ) (v : Value) (rest : List ℕ) → IsBytes given → int64_at given ≡ Ok (v, rest)
    → ValueInFront Int64 given v rest
unfolding int64_at
int64_found given v rest h e =
    let b = bind_ok (signed_little_at w64 given) (λ number. Ok (whole number.0, number.1)) (v, rest) e in
    let f = signed_found w64 given b.0.0 b.0.1 eight_bytes h b.1 in
    subst (λ (p : Value × List ℕ). ValueInFront Int64 given p.0 p.1) {x = (whole b.0.0, b.0.1)}
    (ok_is {E = ByteFault} (whole b.0.0, b.0.1) (v, rest) b.2)
    (record { front = to_le_bytes w64 (cast_unsigned w64 b.0.0); split = f.parts; spelled = (f.fits, refl) })

-- bytes stand behind their length in front
pub record ContentInFront (given content rest : List ℕ) : Type 0 where
  pub small : length content < 2 ^ 32
  pub parts : given ≡ behind_length content ++ rest
  pub fits : IsBytes content

pub content_found : (given content rest : List ℕ) → IsBytes given → content_at given ≡ Ok (content, rest)
    → ContentInFront given content rest
unfolding content_at
content_found given content rest h e =
    let b = bind_ok (little_at w32 given) (λ size. bytes_at size.0 size.1) (content, rest) e in
    let f = little_found w32 given b.0.0 b.0.1 four_bytes h b.1 in
    let behind = bytes_after given (to_le_bytes w32 b.0.0) b.0.1 f.parts h in
    let t = taken_found b.0.0 b.0.1 content rest behind b.2 in
    record {
      small = subst (λ (n : ℕ). n < 2 ^ 32) (sym t.many) f.fits.fits;
      parts = f.parts ∙ ap (λ (n : ℕ). to_le_bytes w32 n ++ b.0.1) (sym t.many)
          ∙ ap (λ (more : List ℕ). to_le_bytes w32 (length content) ++ more) t.parts
          ∙ sym (append_assoc (to_le_bytes w32 (length content)) content rest);
      fits = t.fits;
    }

text_found : (given : List ℕ) (v : Value) (rest : List ℕ) → IsBytes given → text_at given ≡ Ok (v, rest)
    → ValueInFront ByteArray given v rest
unfolding text_at
text_found given v rest h e =
    let b = bind_ok (content_at given) (λ content. Ok (text content.0, content.1)) (v, rest) e in
    let f = content_found given b.0.0 b.0.1 h b.1 in
    subst (λ (p : Value × List ℕ). ValueInFront ByteArray given p.0 p.1) {x = (text b.0.0, b.0.1)}
    (ok_is {E = ByteFault} (text b.0.0, b.0.1) (v, rest) b.2)
    (record { front = behind_length b.0.0; split = f.parts; spelled = (f.small, refl) })

binary_found : (given : List ℕ) (v : Value) (rest : List ℕ) → IsBytes given → binary_at given ≡ Ok (v, rest)
    → ValueInFront ByteArray given v rest
unfolding binary_at
binary_found given v rest h e =
    let b = bind_ok (content_at given) (λ content. Ok (bytes content.0, content.1)) (v, rest) e in
    let f = content_found given b.0.0 b.0.1 h b.1 in
    subst (λ (p : Value × List ℕ). ValueInFront ByteArray given p.0 p.1) {x = (bytes b.0.0, b.0.1)}
    (ok_is {E = ByteFault} (bytes b.0.0, b.0.1) (v, rest) b.2)
    (record { front = behind_length b.0.0; split = f.parts; spelled = (f.small, refl) })

value_found : (type : LeafType) (given : List ℕ) (v : Value) (rest : List ℕ) → IsBytes given
    → value_at type given ≡ Ok (v, rest) → ValueInFront (physical_type type) given v rest
value_found leaf.Boolean given v rest h e = absurd cc
value_found leaf.Byte given v rest h e = int32_found given v rest h e
value_found leaf.Short given v rest h e = int32_found given v rest h e
value_found leaf.Integer given v rest h e = int32_found given v rest h e
value_found leaf.Date given v rest h e = int32_found given v rest h e
value_found leaf.Long given v rest h e = int64_found given v rest h e
value_found leaf.String given v rest h e = text_found given v rest h e
value_found leaf.Binary given v rest h e = binary_found given v rest h e

-- ---- values

record ValuesInFront (type : PhysicalType) (count : ℕ) (given : List ℕ) (vs : List Value) (rest : List ℕ) : Type 0 where
  front : List ℕ
  split : given ≡ front ++ rest
  spelled : AreValues type front vs
  many : length vs ≡ count

-- one value in front, and others behind it
more_in_front : (type : PhysicalType) (count : ℕ) (given : List ℕ) (v : Value) (left : List ℕ) (vs : List Value)
    (rest : List ℕ)
    → ValueInFront type given v left → ValuesInFront type count left vs rest
    → ValuesInFront type (suc count) given (v ∷ vs) rest
more_in_front type count given v left vs rest one more = record {
  front = one.front ++ more.front;
  split = one.split ∙ ap (λ (t : List ℕ). one.front ++ t) more.split ∙ sym (append_assoc one.front more.front rest);
  spelled = value v vs one.front more.front one.spelled more.spelled;
  many = ap suc more.many;
}

values_found : (type : LeafType) (count : ℕ) (given : List ℕ) (vs : List Value) (rest : List ℕ) → IsBytes given
    → values_at type count given ≡ Ok (vs, rest) → ValuesInFront (physical_type type) count given vs rest
unfolding values_at
values_found type zero given vs rest h e =
    subst (λ (p : List Value × List ℕ). ValuesInFront (physical_type type) 0 given p.0 p.1) {x = ([], given)}
    (ok_is {E = ByteFault} ([], given) (vs, rest) e)
    (record { front = []; split = refl; spelled = no_value; many = refl })
values_found type (suc count) given vs rest h e =
    let b = bind_ok (value_at type given)
    (λ first. values_at type count first.1 >>= λ others. Ok (first.0 ∷ others.0, others.1)) (vs, rest) e in
    let v = b.0.0 in
    let one = value_found type given v b.0.1 h b.1 in
    let k = bind_ok (values_at type count b.0.1) (λ others. Ok (v ∷ others.0, others.1)) (vs, rest) b.2 in
    let behind = bytes_after given one.front b.0.1 one.split h in
    let more = values_found type count b.0.1 k.0.0 k.0.1 behind k.1 in
    subst (λ (p : List Value × List ℕ). ValuesInFront (physical_type type) (suc count) given p.0 p.1)
    {x = (v ∷ k.0.0, k.0.1)}
    (ok_is {E = ByteFault} (v ∷ k.0.0, k.0.1) (vs, rest) k.2)
    (more_in_front (physical_type type) count given v b.0.1 k.0.0 k.0.1 one more)

-- so many values stand in front
pub record PlainInFront (type : LeafType) (count : ℕ) (given : List ℕ) (vs : List Value) (rest : List ℕ) : Type 0 where
  pub front : List ℕ
  pub split : given ≡ front ++ rest
  pub spelled : IsPlain (physical_type type) front vs
  pub many : length vs ≡ count

truths_found : (count : ℕ) (given : List ℕ) (vs : List Value) (rest : List ℕ) → IsBytes given
    → truths_at count given ≡ Ok (vs, rest) → PlainInFront leaf.Boolean count given vs rest
unfolding truths_at
truths_found count given vs rest h e =
    let truths = λ (packed : List ℕ). map truth_of (unpacked 1 count (low_first packed)) in
    let b = bind_ok (bytes_at (bytes_for_bits count) given) (λ packed. Ok (truths packed.0, packed.1)) (vs, rest) e in
    let t = taken_found (bytes_for_bits count) given b.0.0 b.0.1 h b.1 in
    let many : length (truths b.0.0) ≡ count =
    length-map (unpacked 1 count (low_first b.0.0)) truth_of ∙ length-unpacked 1 count (low_first b.0.0) in
    subst (λ (p : List Value × List ℕ). PlainInFront leaf.Boolean count given p.0 p.1) {x = (truths b.0.0, b.0.1)}
    (ok_is {E = ByteFault} (truths b.0.0, b.0.1) (vs, rest) b.2)
    (record {
      front = b.0.0;
      split = t.parts;
      spelled = record {
        size = t.many ∙ ap bytes_for_bits (sym many);
        bits = ap (λ (n : ℕ). map truth_of (unpacked 1 n (low_first b.0.0))) (sym many);
      };
      many = many;
    })

pub plain_found : (type : LeafType) (count : ℕ) (given : List ℕ) (vs : List Value) (rest : List ℕ) → IsBytes given
    → plain_at type count given ≡ Ok (vs, rest) → PlainInFront type count given vs rest
plain_found leaf.Boolean count given vs rest h e = truths_found count given vs rest h e
plain_found type count given vs rest h e =
    let f = values_found type count given vs rest h e in
    record { front = f.front; split = f.split; spelled = f.spelled; many = f.many }
