-- Steps that were taken, and how levels compare.
use Rattle.std.proofs.Common.{◌≡◌, ◌==◌, ◌&&◌, ℕ, ◌<◌, Bool, true, false, not, is_some, if◌then◌else◌, Option, Some, None, Result, Ok, Err, refl, sym, ap, ◌∙◌, arith}
use Rattle.std.proofs.lemmas.Bool.{false≢true, and_parts}
use Rattle.std.proofs.lemmas.Bool.Decides.{nat_tests}
use Rattle.std.proofs.lemmas.Option.{none-some}
use Rattle.outcomes.specs.Options as options
use Rattle.outcomes.specs.Results.{◌>>=◌, or_refusal, refused_as}
use Rattle.row_core.specs.Rows.{Value}
use Rattle.shred.specs.Fits.{is_plain}
use Rattle.shred.specs.Columns.{Cell, absent_cell, present_cell}
use Rattle.row_assembly.specs.Assembly.{is_absent, value_in}

pub bind_ok : {A B E : Type 0} (r : Result A E) (f : A → Result B E) (y : B) → (r >>= f) ≡ Ok y → (x : A) × (r ≡ Ok x) × (f x ≡ Ok y)
bind_ok (Ok x) f y h = (x, refl, h)
bind_ok (Err e) f y h = absurd cc

pub told_ok : {A E F : Type 0} (tell : E → F) (r : Result A E) (x : A) → refused_as tell r ≡ Ok x → r ≡ Ok x
told_ok {A} {E} tell (Ok y) x h = let e : y ≡ x = cc in ap (λ z. Ok z) e
told_ok tell (Err e) x h = absurd cc

pub ok_same : {A E : Type 0} (x y : A) → (let r : Result A E = Ok x in r) ≡ Ok y → x ≡ y
ok_same x y h = cc

pub or_ok : {A E : Type 0} (o : Option A) (e : E) (x : A) → or_refusal o e ≡ Ok x → o ≡ Some x
or_ok None e x h = absurd cc
or_ok {A} (Some y) e x h = let same : y ≡ x = cc in ap (λ (z : A). Some z) same

pub level_same : (n : ℕ) → (n == n) ≡ true
level_same n = grind (arith, nat_tests)

pub level_is : (m n : ℕ) → (m == n) ≡ true → m ≡ n
level_is m n h = grind (arith, nat_tests)

pub level_above : (m n : ℕ) → n < m → (m == n) ≡ false
level_above m n h = grind (arith, nat_tests)

absent_from : (level l : ℕ) (o : Option Value) → (l == level && not (is_some o)) ≡ true → (let c : Cell = record { level = l; value = o } in c) ≡ absent_cell level
absent_from level l None h = ap absent_cell (level_is l level (and_parts (l == level) true h).0)
absent_from level l (Some v) h = absurd (false≢true (and_parts (l == level) false h).1)

pub absent_is : (level : ℕ) (c : Cell) → is_absent level c ≡ true → c ≡ absent_cell level
absent_is level c h = absent_from level c.level c.value h

plain_from : (p : Bool) (w v : Value) → is_plain w ≡ p → (let o : Option Value = if p then Some w else None in o) ≡ Some v → (w ≡ v) × (is_plain v ≡ true)
plain_from true w v plain h = let same : w ≡ v = cc in (same, ap is_plain (sym same) ∙ plain)
plain_from false w v plain h = absurd (none-some v h)

value_from : (n : Bool) (level l : ℕ) (o : Option Value) (v : Value) → (l == level) ≡ n → (let found : Option Value = if n then options.◌>>=◌ o (λ w. if is_plain w then Some w else None) else None in found) ≡ Some v
    → ((let c : Cell = record { level = l; value = o } in c) ≡ present_cell level v) × (is_plain v ≡ true)
value_from true level l None v is h = absurd (none-some v h)
value_from true level l (Some w) v is h =
    let plain = plain_from (is_plain w) w v refl h in
    let same : l ≡ level = level_is l level is in
    (ap (λ n. present_cell n w) same ∙ ap (present_cell level) plain.0, plain.1)
value_from false level l o v is h = absurd (none-some v h)

pub value_is : (level : ℕ) (c : Cell) (v : Value) → value_in level c ≡ Some v → (c ≡ present_cell level v) × (is_plain v ≡ true)
value_is level c v h = value_from (c.level == level) level c.level c.value v refl h
