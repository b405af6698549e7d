-- What reading takes from the front spells what it gives.
use Rattle.std.proofs.Common.{◌≡◌, ℕ, suc, ◌+◌, ◌<◌, ◌≤◌, ℤ, Bool, true, false, cond, ltb, List, [], ◌∷◌, ◌++◌, length, take, drop, Result, Ok, Err, refl, sym, ap, subst, ◌∙◌, append_assoc, arith, inl, inr, ◌⊎◌}
use Rattle.std.proofs.lemmas.Bool.{ltb-false}
use Rattle.std.proofs.lemmas.List.{take-append-drop, length-take}
use Rattle.lake_bytes.specs.Reading.{byte_at, bytes_at, ReadsFront}
use Rattle.outcomes.specs.Results.{◌>>=◌}
use Rattle.outcomes.specs.Bytes.{IsBytes}
use Rattle.lake_bytes.specs.Varint.{SpellsNumber, varint_at}
use Rattle.lake_bytes.specs.Zigzag.{SpellsSigned, signed_at}
use Rattle.lake_bytes.specs.declared.fault.ByteFault.{ByteFault}
use Rattle.lake_bytes.specs.declared.fault.ByteFault.TheVariants as faults
use Rattle.lake_bytes.proofs.Callers.{varint_found}
use Rattle.lake_bytes.proofs.Callers.{signed_found}
use Rattle.thrift_core.specs.Spelling.{InTurn}
use Rattle.thrift_core.specs.Reading.{of_bytes, byte_ahead, varint_ahead, signed_ahead, bytes_ahead}
use Rattle.thrift_values.specs.declared.fault.ThriftFault.{ThriftFault}
use Rattle.thrift_core.specs.declared.source.Source.{Source}

-- the value of a step that did not fail
pub bind_ok : {A B : Type 0} (r : Result A ThriftFault) (f : A → Result B ThriftFault) (y : B) → (r >>= f) ≡ Ok y → (x : A) × (r ≡ Ok x) × (f x ≡ Ok y)
bind_ok (Ok x) f y e = (x, refl, e)
bind_ok (Err d) f y e = absurd cc

-- a test that did not fail
pub guard_ok : {A : Type 0} (b : Bool) (d : ThriftFault) (x y : A) → cond b (Err d) (Ok x) ≡ Ok y → (b ≡ false) × (x ≡ y)
guard_ok true d x y e = absurd cc
guard_ok false d x y e = (refl, cc)

-- a choice, and which way it went
pub chosen : {A : Type 0} (b : Bool) (x y z : A) → cond b x y ≡ z → ((b ≡ true) × (x ≡ z)) ⊎ ((b ≡ false) × (y ≡ z))
chosen true x y z e = inl (refl, e)
chosen false x y z e = inr (refl, e)

abbrev pub done : {A : Type 0} → A → Result A ThriftFault
done x = Ok x

pub ok_is : {A : Type 0} (x y : A) → done x ≡ done y → x ≡ y
ok_is x y e = cc

-- Reading took bytes of which P holds, and counted so many values.
pub record Took (P : List ℕ → Type 0) (used : ℕ) (old new : Source) : Type 0 where
  pub front : List ℕ
  pub spelled : P front
  pub parts : old.cursor ≡ front ++ new.cursor
  pub counts : old.nodes ≡ used + new.nodes
  pub fits : IsBytes new.cursor

-- one part behind the other
pub took_both : (P Q : List ℕ → Type 0) (used more : ℕ) (a b c : Source) → Took P used a b → Took Q more b c → Took (InTurn P Q) (used + more) a c
took_both P Q used more a b c p q = record {
  front = p.front ++ q.front;
  spelled = record { front = p.front; back = q.front; first = p.spelled; second = q.spelled; whole = refl };
  parts = p.parts ∙ ap (λ (t : List ℕ). p.front ++ t) q.parts ∙ sym (append_assoc p.front q.front c.cursor);
  counts = omega (arith, p.counts, q.counts);
  fits = q.fits;
}

-- a part that counts no value, and one behind it
pub took_next : (P Q : List ℕ → Type 0) (used : ℕ) (a b c : Source) → Took P 0 a b → Took Q used b c → Took (InTurn P Q) used a c
took_next P Q used a b c p q = record {
  front = p.front ++ q.front;
  spelled = record { front = p.front; back = q.front; first = p.spelled; second = q.spelled; whole = refl };
  parts = p.parts ∙ ap (λ (t : List ℕ). p.front ++ t) q.parts ∙ sym (append_assoc p.front q.front c.cursor);
  counts = omega (arith, p.counts, q.counts);
  fits = q.fits;
}

pub took_as : (P Q : List ℕ → Type 0) (used : ℕ) (a b : Source) → ((bytes : List ℕ) → P bytes → Q bytes) → Took P used a b → Took Q used a b
took_as P Q used a b implies p = record { front = p.front; spelled = implies p.front p.spelled; parts = p.parts; counts = p.counts; fits = p.fits }

-- a reading of bytes that gave a value
pub bytes_ok : {A : Type 0} (r : Result (A × List ℕ) ByteFault) (s : Source) (x : A) (s' : Source) → of_bytes r s ≡ Ok (x, s') → (r ≡ Ok (x, s'.cursor)) × (s'.nodes ≡ s.nodes)
bytes_ok {A} (Ok y) s x s' e =
    let p = ok_is (y.0, record s { cursor = y.1 }) (x, s') e in
    (ap (λ (q : A × Source). Ok (q.0, q.1.cursor)) p, sym (ap (λ (q : A × Source). q.1.nodes) p))
bytes_ok (Err f) s x s' e = absurd cc

IsBytes-behind : (front rest : List ℕ) → IsBytes (front ++ rest) → IsBytes rest
IsBytes-behind [] rest h = h
IsBytes-behind (b ∷ front) rest h = IsBytes-behind front rest (λ i. h (suc i))

-- a reading that takes a front
pub took_front : {A : Type 0} (Spelled : List ℕ → A → Type 0) (x : A) (s s' : Source) → IsBytes s.cursor → s'.nodes ≡ s.nodes → ReadsFront Spelled s.cursor x s'.cursor → Took (λ front. Spelled front x) 0 s s'
took_front Spelled x s s' fits same f = record {
  front = f.front;
  spelled = f.spelled;
  parts = f.split;
  counts = omega (arith, same);
  fits = IsBytes-behind f.front s'.cursor (subst IsBytes f.split fits);
}

pub varint_takes : (s : Source) (n : ℕ) (s' : Source) → IsBytes s.cursor → varint_ahead s ≡ Ok (n, s') → Took (λ front. SpellsNumber front n) 0 s s'
varint_takes s n s' fits e =
    let b = bytes_ok (varint_at s.cursor) s n s' e in
    took_front SpellsNumber n s s' fits b.1 (varint_found s.cursor n s'.cursor fits b.0)

pub signed_takes : (width : ℕ) (s : Source) (z : ℤ) (s' : Source) → IsBytes s.cursor → signed_ahead width s ≡ Ok (z, s') → Took (λ front. SpellsSigned width front z) 0 s s'
signed_takes width s z s' fits e =
    let b = bytes_ok (signed_at width s.cursor) s z s' e in
    took_front (SpellsSigned width) z s s' fits b.1 (signed_found width s.cursor z s'.cursor fits b.0)

-- the byte that was taken
pub record IsByte (byte : ℕ) (bytes : List ℕ) : Type 0 where
  pub alone : bytes ≡ byte ∷ []
  pub small : byte < 256

abbrev one : ℕ × List ℕ → Result (ℕ × List ℕ) ByteFault
one x = Ok x

one_is : (x y : ℕ × List ℕ) → one x ≡ one y → x ≡ y
one_is x y e = cc

byte_front : (bytes : List ℕ) (n : ℕ) (rest : List ℕ) → IsBytes bytes → byte_at bytes ≡ Ok (n, rest) → ReadsFront (λ front n. IsByte n front) bytes n rest
byte_front [] n rest fits e = absurd cc
byte_front (b ∷ bytes) n rest fits e =
    let is : (b, bytes) ≡ (n, rest) = one_is (b, bytes) (n, rest) e in
    let same : b ≡ n = ap (λ (p : ℕ × List ℕ). p.0) is in
    let behind : bytes ≡ rest = ap (λ (p : ℕ × List ℕ). p.1) is in
    record { front = n ∷ []; spelled = record { alone = refl; small = subst (λ (k : ℕ). k < 256) same (fits 0) }; split = rw (same, behind) refl }

pub byte_takes : (s : Source) (n : ℕ) (s' : Source) → IsBytes s.cursor → byte_ahead s ≡ Ok (n, s') → Took (IsByte n) 0 s s'
byte_takes s n s' fits e =
    let b = bytes_ok (byte_at s.cursor) s n s' e in
    took_front (λ front n. IsByte n front) n s s' fits b.1 (byte_front s.cursor n s'.cursor fits b.0)

-- so many bytes that were taken
pub record AreBytes (count : ℕ) (text bytes : List ℕ) : Type 0 where
  pub same : bytes ≡ text
  pub many : length text ≡ count

abbrev given : List ℕ × List ℕ → Result (List ℕ × List ℕ) ByteFault
given x = Ok x

abbrev failed : ByteFault → Result (List ℕ × List ℕ) ByteFault
failed f = Err f

given_is : (x y : List ℕ × List ℕ) → given x ≡ given y → x ≡ y
given_is x y e = cc

which_way : (b : Bool) (x y z : Result (List ℕ × List ℕ) ByteFault) → cond b x y ≡ z → ((b ≡ true) × (x ≡ z)) ⊎ ((b ≡ false) × (y ≡ z))
which_way true x y z e = inl (refl, e)
which_way false x y z e = inr (refl, e)

bytes_front : (count : ℕ) (bytes : List ℕ) (text rest : List ℕ) → bytes_at count bytes ≡ Ok (text, rest) → ReadsFront (λ front text. AreBytes count text front) bytes text rest
bytes_front count bytes text rest e =
    elim (which_way (ltb (length bytes) count) (failed faults.Short) (given (take count bytes, drop count bytes)) (given (text, rest)) e) [
      | inl short ↦ absurd cc
      | inr h ↦
          let long : count ≤ length bytes = ltb-false (length bytes) count h.0 in
          let many : length (take count bytes) ≡ count = omega (arith, length-take count bytes) in
          let is : (take count bytes, drop count bytes) ≡ (text, rest) = given_is (take count bytes, drop count bytes) (text, rest) h.1 in
          let text-is : take count bytes ≡ text = ap (λ (p : List ℕ × List ℕ). p.0) is in
          let rest-is : drop count bytes ≡ rest = ap (λ (p : List ℕ × List ℕ). p.1) is in
          record { front = text; spelled = record { same = refl; many = sym (ap length text-is) ∙ many }; split = rw (← text-is, ← rest-is) (sym (take-append-drop count bytes)) }
    ]

pub bytes_takes : (count : ℕ) (s : Source) (text : List ℕ) (s' : Source) → IsBytes s.cursor → bytes_ahead count s ≡ Ok (text, s') → Took (AreBytes count text) 0 s s'
bytes_takes count s text s' fits e =
    let b = bytes_ok (bytes_at count s.cursor) s text s' e in
    took_front (λ front text. AreBytes count text front) text s s' fits b.1 (bytes_front count s.cursor text s'.cursor b.0)
