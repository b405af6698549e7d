-- What is known of the steps of a reading that gave a value.
use Rattle.std.proofs.Common.{◌≡◌, ◌<◌, Bool, true, false, cond, ltb, ℕ, zero, suc, List, [], ◌∷◌, ◌++◌, length, take, drop, Result, Ok, Err, refl, sym, ap, subst, ◌∙◌, arith, length-append, length-take-le, take-append-drop}
use Rattle.std.proofs.lemmas.Bool.{ltb-false, le-ltb}
use Rattle.std.proofs.lemmas.List.{take_at, drop_at}
use Rattle.lake_bytes.specs.Reading.{bytes_at}
use Rattle.outcomes.specs.Results.{◌>>=◌, refused_as, refused_if}
use Rattle.outcomes.specs.Bytes.{IsBytes}
use Rattle.lake_bytes.specs.declared.fault.ByteFault.{ByteFault}
use Rattle.lake_bytes.specs.declared.fault.ByteFault.TheVariants.{Short}

-- ---- steps

-- the value of a step that did not fail
pub bind_ok : {A B E : Type 0} (r : Result A E) (f : A → Result B E) (y : B) → (r >>= f) ≡ Ok y
    → (x : A) × (r ≡ Ok x) × (f x ≡ Ok y)
bind_ok (Ok x) f y e = (x, refl, e)
bind_ok (Err d) f y e = absurd cc

-- a reading that gave this
abbrev pub done : {A E : Type 0} → A → Result A E
done x = Ok x

pub ok_is : {A E : Type 0} (x y : A) → done {E = E} x ≡ done y → x ≡ y
ok_is x y e = cc

abbrev pub failed : {A E : Type 0} → E → Result A E
failed d = Err d

pub no_fault : {A E : Type 0} (d : E) (x : A) → failed d ≡ done x → ⊥
no_fault d x e = absurd cc

-- a test that did not fail
pub passed : {A E : Type 0} (b : Bool) (d : E) (r : Result A E) (y : A) → cond b (Err d) r ≡ Ok y
    → (b ≡ false) × (r ≡ Ok y)
passed true d r y e = absurd cc
passed false d r y e = (refl, e)

-- a test that held
pub held : {A E : Type 0} (b : Bool) (d : E) (x y : A) → cond b (Ok x) (Err d) ≡ Ok y → (b ≡ true) × (x ≡ y)
held true d x y e = (refl, cc)
held false d x y e = absurd cc

-- a refusal that did not come, in front of other steps
pub allowed : {A E : Type 0} (b : Bool) (d : E) (f : Unit {0} → Result A E) (y : A) → (refused_if b d >>= f) ≡ Ok y
    → (b ≡ false) × (f tt ≡ Ok y)
allowed true d f y e = absurd cc
allowed false d f y e = (refl, e)

-- a reading whose faults are told as others
pub told_ok : {A E F : Type 0} (tell : E → F) (r : Result A E) (x : A) → refused_as tell r ≡ Ok x → r ≡ Ok x
told_ok tell (Ok y) x e = cc
told_ok tell (Err d) x e = absurd cc

-- ---- parts of bytes

pub bytes_behind : (count : ℕ) (bytes : List ℕ) → IsBytes bytes → IsBytes (drop count bytes)
bytes_behind zero bytes h = h
bytes_behind (suc count) [] h = h
bytes_behind (suc count) (b ∷ bytes) h = bytes_behind count bytes (λ i. h (suc i))

pub bytes_after : (given front rest : List ℕ) → given ≡ front ++ rest → IsBytes given → IsBytes rest
bytes_after given front rest split h = after front rest (subst IsBytes split h)
  where
    after : (front rest : List ℕ) → IsBytes (front ++ rest) → IsBytes rest
    after [] rest h = h
    after (b ∷ front) rest h = after front rest (λ i. h (suc i))

pub bytes_before : (count : ℕ) (bytes : List ℕ) → IsBytes bytes → IsBytes (take count bytes)
bytes_before zero bytes h = λ i. omega arith
bytes_before (suc count) [] h = h
bytes_before (suc count) (b ∷ bytes) h = first_and b (take count bytes) (h 0)
    (bytes_before count bytes (λ i. h (suc i)))
  where
    first_and : (b : ℕ) (bytes : List ℕ) → b < 256 → IsBytes bytes → IsBytes (b ∷ bytes)
    first_and b bytes small h zero = small
    first_and b bytes small h (suc i) = h i

pub bytes_first : (given front rest : List ℕ) → given ≡ front ++ rest → IsBytes given → IsBytes front
bytes_first given front rest split h =
    subst IsBytes (ap (λ (t : List ℕ). take (length front) t) split ∙ take_at front rest (length front) refl)
    (bytes_before (length front) given h)

-- so many bytes were taken
pub record Taken (count : ℕ) (bytes front rest : List ℕ) : Type 0 where
  pub many : length front ≡ count
  pub parts : bytes ≡ front ++ rest
  pub fits : IsBytes front

pub taken_found : (count : ℕ) (bytes front rest : List ℕ) → IsBytes bytes → bytes_at count bytes ≡ Ok (front, rest)
    → Taken count bytes front rest
taken_found count bytes front rest fits e =
    let t = passed (ltb (length bytes) count) Short (Ok (take count bytes, drop count bytes)) (front, rest) e in
    subst (λ (p : List ℕ × List ℕ). Taken count bytes p.0 p.1) {x = (take count bytes, drop count bytes)}
    (ok_is {E = ByteFault} (take count bytes, drop count bytes) (front, rest) t.1)
    (record {
      many = length-take-le count bytes (ltb-false (length bytes) count t.0);
      parts = sym (take-append-drop count bytes);
      fits = bytes_before count bytes fits;
    })

pub taken_stand : (count : ℕ) (front rest : List ℕ) → length front ≡ count
    → bytes_at count (front ++ rest) ≡ Ok (front, rest)
taken_stand count front rest many =
    let long : ltb (length (front ++ rest)) count ≡ false =
    le-ltb _ _ (omega (arith, many, length-append front rest)) in
    rw (long, take_at front rest count many, drop_at front rest count many) refl
