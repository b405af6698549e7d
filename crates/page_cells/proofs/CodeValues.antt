-- Reading one value after another, as a loop does.
use Rattle.std.proofs.Common.{◌≡◌, ℕ, ℤ, w32, suc, ◌-◌, ◌+◌, ◌≤◌, ◌<◌, Bool, true, false, ◌||◌, ◌&&◌, List, [], ◌∷◌, ◌++◌, Result, Ok, Err, refl, sym, ap, ◌∙◌, arith}
use Rattle.std.proofs.lemmas.List.{append-nil}
use Rattle.std.specs.List.{list_all, list_any}
use Rattle.outcomes.specs.Results.{◌>>=◌}
use Rattle.lake_bytes.specs.declared.fault.ByteFault.{ByteFault}
use Rattle.outcomes.proofs.Callers.{with_front_beside, regroup_beside}
use Rattle.lake_bytes.specs.LittleEndian.{signed_little_at}
use Rattle.row_core.specs.Rows.{Value, whole, text, bytes}
use Rattle.page_cells.specs.Plain.{binary_at, content_at, int32_at, text_at, value_at, values_at}
use Rattle.page_cells.specs.Types.{physical_type}
use Rattle.page_cells.specs.Texts.{is_too_long}
use Rattle.page_cells.specs.declared.types.LeafType.{LeafType}
use Rattle.page_cells.specs.declared.types.LeafType.TheVariants.{Boolean, Byte, Short, Integer, Long, Date, String, Binary}
use Rattle.page_cells.specs.declared.types.PhysicalType.TheVariants.{Int32}

abbrev pub Read : Type 0
Read = Result (List Value × List ℕ) ByteFault

abbrev pub done : List Value → List ℕ → Read
done values rest = Ok (values, rest)

pub done_parts : (values others : List Value) (rest more : List ℕ) → done values rest ≡ done others more
    → (values ≡ others) × (rest ≡ more)
done_parts values others rest more e =
    let parts : ◌≡◌ {A = List Value × List ℕ} (values, rest) (others, more) = cc in
    (ap (λ (p : List Value × List ℕ). p.0) parts, ap (λ (p : List Value × List ℕ). p.1) parts)

-- ---- a step

value_next : (type : LeafType) (count i : ℕ) (cursor after : List ℕ) (v : Value) → i < count
    → value_at type cursor ≡ Ok (v, after)
    → values_at type (count - i) cursor ≡ with_front_beside (v ∷ []) (values_at type (count - (i + 1)) after)
unfolding values_at
value_next type count i cursor after v lt h =
    let k : count - i ≡ suc (count - (i + 1)) = omega arith in
    rw (k, h) refl

value_fails : (type : LeafType) (count i : ℕ) (cursor : List ℕ) (fault : ByteFault) → i < count
    → value_at type cursor ≡ Err fault → values_at type (count - i) cursor ≡ Err fault
unfolding values_at
value_fails type count i cursor fault lt h =
    let k : count - i ≡ suc (count - (i + 1)) = omega arith in
    rw (k, h) refl

values_end : (type : LeafType) (count i : ℕ) (cursor : List ℕ) → count ≤ i
    → values_at type (count - i) cursor ≡ done [] cursor
unfolding values_at
values_end type count i cursor le =
    let k : count - i ≡ 0 = omega arith in
    rw k refl

-- ---- values that are added to others

pub add_goes_on : (type : LeafType) (old : List Value) (count i : ℕ) (cursor after : List ℕ) (v : Value) (total : Read)
    → i < count → value_at type cursor ≡ Ok (v, after)
    → with_front_beside old (values_at type (count - i) cursor) ≡ total
    → with_front_beside (old ++ v ∷ []) (values_at type (count - (i + 1)) after) ≡ total
add_goes_on type old count i cursor after v total lt h so_far =
    sym (regroup_beside old (v ∷ []) (values_at type (count - (i + 1)) after))
    ∙ ap (with_front_beside old) (sym (value_next type count i cursor after v lt h)) ∙ so_far

pub add_done : (type : LeafType) (old new : List Value) (count i : ℕ) (cursor : List ℕ) (read : Read) → count ≤ i
    → with_front_beside new (values_at type (count - i) cursor) ≡ with_front_beside old read
    → (values : List Value) × (read ≡ done values cursor) × (new ≡ old ++ values)
add_done type old new count i cursor read le so_far =
    let all = ap (with_front_beside new) (sym (values_end type count i cursor le)) ∙ so_far in
    by_read read (ap (λ (vs : List Value). done vs cursor) (sym (append-nil new)) ∙ all)
  where
    by_read : (read : Read) → done new cursor ≡ with_front_beside old read
        → (values : List Value) × (read ≡ done values cursor) × (new ≡ old ++ values)
    by_read (Ok r) h =
        let p = done_parts new (old ++ r.0) cursor r.1 h in
        (r.0, ap (λ (more : List ℕ). done r.0 more) (sym p.1), p.0)
    by_read (Err e) h = absurd cc

pub add_stops : (type : LeafType) (old new : List Value) (count i : ℕ) (cursor : List ℕ) (fault : ByteFault)
    (read : Read) → i < count → value_at type cursor ≡ Err fault
    → with_front_beside new (values_at type (count - i) cursor) ≡ with_front_beside old read → read ≡ Err fault
add_stops type old new count i cursor fault read lt h so_far =
    by_read read (ap (with_front_beside new) (sym (value_fails type count i cursor fault lt h)) ∙ so_far)
  where
    by_read : (read : Read) → with_front_beside new (Err fault) ≡ with_front_beside old read → read ≡ Err fault
    by_read (Ok r) h = absurd cc
    by_read (Err e) h = cc

-- ---- values of which each is tested

-- whether all values pass
abbrev pub tested : (Value → Bool) → Read → Result Bool ByteFault
tested test read = read >>= λ r. Ok (list_all test r.0)

pub test_goes_on : (type : LeafType) (test : Value → Bool) (count i : ℕ) (cursor after : List ℕ) (v : Value)
    (total : Result Bool ByteFault) → i < count → value_at type cursor ≡ Ok (v, after) → test v ≡ true
    → tested test (values_at type (count - i) cursor) ≡ total
    → tested test (values_at type (count - (i + 1)) after) ≡ total
test_goes_on type test count i cursor after v total lt h passes so_far =
    sym (passed (values_at type (count - (i + 1)) after))
    ∙ ap (tested test) (sym (value_next type count i cursor after v lt h)) ∙ so_far
  where
    passed : (read : Read) → tested test (with_front_beside (v ∷ []) read) ≡ tested test read
    passed (Ok r) = rw passes refl
    passed (Err e) = refl

pub test_fails : (type : LeafType) (test : Value → Bool) (count i : ℕ) (cursor after : List ℕ) (v : Value)
    (values : List Value) (rest : List ℕ) (read : Read) → i < count → value_at type cursor ≡ Ok (v, after)
    → test v ≡ false
    → tested test (values_at type (count - i) cursor) ≡ tested test read → read ≡ done values rest
    → false ≡ list_all test values
test_fails type test count i cursor after v values rest read lt h fails so_far is =
    by_rest (values_at type (count - (i + 1)) after)
    (ap (tested test) (sym (value_next type count i cursor after v lt h)) ∙ so_far ∙ ap (tested test) is)
  where
    by_rest : (others : Read) → tested test (with_front_beside (v ∷ []) others) ≡ Ok (list_all test values)
        → false ≡ list_all test values
    by_rest (Ok r) h = let first : (test v && list_all test r.0) ≡ list_all test values = cc in rw fails at first
    by_rest (Err e) h = absurd cc

pub test_stops : (type : LeafType) (test : Value → Bool) (count i : ℕ) (cursor : List ℕ) (fault : ByteFault)
    (values : List Value) (rest : List ℕ) (read : Read) → i < count → value_at type cursor ≡ Err fault
    → tested test (values_at type (count - i) cursor) ≡ tested test read → read ≡ done values rest → ⊥
test_stops type test count i cursor fault values rest read lt h so_far is =
    let e : tested test (Err fault) ≡ tested test (done values rest) =
    ap (tested test) (sym (value_fails type count i cursor fault lt h)) ∙ so_far ∙ ap (tested test) is in
    cc

pub test_done : (type : LeafType) (test : Value → Bool) (count i : ℕ) (cursor : List ℕ) (values : List Value)
    (rest : List ℕ) (read : Read) → count ≤ i
    → tested test (values_at type (count - i) cursor) ≡ tested test read → read ≡ done values rest
    → true ≡ list_all test values
test_done type test count i cursor values rest read le so_far is =
    let e : tested test (done [] cursor) ≡ tested test (done values rest) =
    ap (tested test) (sym (values_end type count i cursor le)) ∙ so_far ∙ ap (tested test) is in
    cc

pub test_refuses : (type : LeafType) (test : Value → Bool) (count i : ℕ) (cursor : List ℕ) (values : List Value)
    (rest : List ℕ) (read : Read) → i < count
    → ((v : Value) (rest : List ℕ) → value_at type cursor ≡ Ok (v, rest) → test v ≡ true → ⊥)
    → tested test (values_at type (count - i) cursor) ≡ tested test read → read ≡ done values rest
    → list_all test values ≡ true → ⊥
test_refuses type test count i cursor values rest read lt never so_far is fine = by_first (value_at type cursor) refl
  where
    by_first : (first : Result (Value × List ℕ) ByteFault) → value_at type cursor ≡ first → ⊥
    by_first (Err fault) h = test_stops type test count i cursor fault values rest read lt h so_far is
    by_first (Ok r) h = by_test (test r.0) refl
      where
        by_test : (b : Bool) → test r.0 ≡ b → ⊥
        by_test true p = never r.0 r.1 h p
        by_test false p = let e = test_fails type test count i cursor r.1 r.0 values rest read lt h p so_far is in cc

-- ---- values that are passed

-- whether one is too long, or was before, and the bytes behind them
abbrev pub passed : (was_too_long : Bool) → Read → Result (Bool × List ℕ) ByteFault
passed was_too_long read = read >>= λ r. Ok (was_too_long || list_any is_too_long r.0, r.1)

or_twice : (a b c : Bool) → (a || (b || c)) ≡ ((a || b) || c)
or_twice true b c = refl
or_twice false b c = refl

or_none : (a : Bool) → (a || false) ≡ a
or_none true = refl
or_none false = refl

pub pass_goes_on : (type : LeafType) (before now : Bool) (count i : ℕ) (cursor after : List ℕ) (v : Value)
    (total : Result (Bool × List ℕ) ByteFault) → i < count → value_at type cursor ≡ Ok (v, after)
    → now ≡ (before || is_too_long v)
    → passed before (values_at type (count - i) cursor) ≡ total
    → passed now (values_at type (count - (i + 1)) after) ≡ total
pass_goes_on type before now count i cursor after v total lt h is so_far =
    sym (one (values_at type (count - (i + 1)) after))
    ∙ ap (passed before) (sym (value_next type count i cursor after v lt h)) ∙ so_far
  where
    one : (read : Read) → passed before (with_front_beside (v ∷ []) read) ≡ passed now read
    one (Ok r) = rw is (ap (λ (b : Bool). Ok (b, r.1)) (or_twice before (is_too_long v) (list_any is_too_long r.0)))
    one (Err e) = refl

pub pass_stops : (type : LeafType) (before : Bool) (count i : ℕ) (cursor : List ℕ) (fault : ByteFault) (read : Read)
    → i < count → value_at type cursor ≡ Err fault
    → passed before (values_at type (count - i) cursor) ≡ passed false read → read ≡ Err fault
pass_stops type before count i cursor fault read lt h so_far =
    by_read read (ap (passed before) (sym (value_fails type count i cursor fault lt h)) ∙ so_far)
  where
    by_read : (read : Read) → passed before (Err fault) ≡ passed false read → read ≡ Err fault
    by_read (Ok r) h = absurd cc
    by_read (Err e) h = cc

pub pass_done : (type : LeafType) (now : Bool) (count i : ℕ) (cursor : List ℕ) (read : Read) → count ≤ i
    → passed now (values_at type (count - i) cursor) ≡ passed false read
    → (values : List Value) × (read ≡ done values cursor) × (now ≡ list_any is_too_long values)
pass_done type now count i cursor read le so_far =
    by_read read (ap (passed now) (sym (values_end type count i cursor le)) ∙ so_far)
  where
    by_read : (read : Read) → passed now (done [] cursor) ≡ passed false read
        → (values : List Value) × (read ≡ done values cursor) × (now ≡ list_any is_too_long values)
    by_read (Ok r) h =
        let parts : ◌≡◌ {A = Bool × List ℕ} (now || false, cursor) (list_any is_too_long r.0, r.1) = cc in (
          r.0,
          ap (λ (more : List ℕ). done r.0 more) (sym (ap (λ (p : Bool × List ℕ). p.1) parts)),
          sym (or_none now)
              ∙ ap (λ (p : Bool × List ℕ). p.0) parts,
        )
    by_read (Err e) h = absurd cc

-- ---- texts, bytes and numbers

pub text_value : (cursor after content : List ℕ) → content_at cursor ≡ Ok (content, after)
    → value_at String cursor ≡ Ok (text content, after)
unfolding text_at
text_value cursor after content h = rw h refl

pub text_fails : (cursor : List ℕ) (fault : ByteFault) → content_at cursor ≡ Err fault
    → value_at String cursor ≡ Err fault
unfolding text_at
text_fails cursor fault h = rw h refl

pub binary_value : (cursor after content : List ℕ) → content_at cursor ≡ Ok (content, after)
    → value_at Binary cursor ≡ Ok (bytes content, after)
unfolding binary_at
binary_value cursor after content h = rw h refl

pub binary_fails : (cursor : List ℕ) (fault : ByteFault) → content_at cursor ≡ Err fault
    → value_at Binary cursor ≡ Err fault
unfolding binary_at
binary_fails cursor fault h = rw h refl

pub int32_value : (type : LeafType) → physical_type type ≡ Int32 → (cursor : List ℕ)
    → value_at type cursor ≡ int32_at cursor
int32_value Boolean is cursor = absurd cc
int32_value Byte is cursor = refl
int32_value Short is cursor = refl
int32_value Integer is cursor = refl
int32_value Long is cursor = absurd cc
int32_value Date is cursor = refl
int32_value String is cursor = absurd cc
int32_value Binary is cursor = absurd cc

pub number_value : (cursor after : List ℕ) (z : ℤ) → signed_little_at w32 cursor ≡ Ok (z, after)
    → int32_at cursor ≡ Ok (whole z, after)
unfolding int32_at
number_value cursor after z h = rw h refl

pub number_fails : (cursor : List ℕ) (fault : ByteFault) → signed_little_at w32 cursor ≡ Err fault
    → int32_at cursor ≡ Err fault
unfolding int32_at
number_fails cursor fault h = rw h refl
