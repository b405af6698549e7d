-- Where a reading fails: in its first step, or in one behind it.
use Rattle.std.proofs.Common.{◌≡◌, ℕ, zero, suc, ◌<◌, arith, Bool, true, false, cond, Option, None, Some, Result, Ok, Err, refl, ap, subst}
use Rattle.outcomes.specs.Options as options
use Rattle.outcomes.specs.Results.{◌>>=◌, or_refusal, refused_as, refused_if}

pub err_is : {A E : Type 0} (d e : E) (r : Result A E) → r ≡ Err d → r ≡ Err e → d ≡ e
err_is d e (Ok x) p q = absurd cc
err_is d e (Err f) p q = cc

-- a reading that gave something didn't fail
pub never : {A E : Type 0} (x : A) (e : E) (r : Result A E) → r ≡ Ok x → r ≡ Err e → ⊥
never x e (Ok y) p q = cc
never x e (Err f) p q = cc

pub by_step : {A B E : Type 0} (P : E → Type 0) (r : Result A E) (f : A → Result B E) (e : E) → (r >>= f) ≡ Err e
    → (r ≡ Err e → P e) → ((x : A) → r ≡ Ok x → f x ≡ Err e → P e) → P e
by_step P (Ok x) f e fails here behind = behind x refl fails
by_step P (Err d) f e fails here behind = here (ap (λ x. Err x) (err_is d e (Err d) refl fails))

-- a test, in front of other steps
pub by_test : {B E : Type 0} (P : E → Type 0) (b : Bool) (d : E) (f : Unit {0} → Result B E) (e : E) → (refused_if b d >>= f) ≡ Err e
    → (b ≡ true → P d) → (b ≡ false → f tt ≡ Err e → P e) → P e
by_test P true d f e fails here behind = subst P (err_is d e (Err d) refl fails) (here refl)
by_test P false d f e fails here behind = behind refl fails

-- the same, as a condition
pub by_cond : {B E : Type 0} (P : E → Type 0) (b : Bool) (d : E) (r : Result B E) (e : E) → cond b (Err d) r ≡ Err e
    → (b ≡ true → P d) → (b ≡ false → r ≡ Err e → P e) → P e
by_cond P true d r e fails here behind = subst P (err_is d e (Err d) refl fails) (here refl)
by_cond P false d r e fails here behind = behind refl fails

-- a condition that lets through
pub by_pass : {B E : Type 0} (P : E → Type 0) (b : Bool) (x : B) (r : Result B E) (e : E) → cond b (Ok x) r ≡ Err e
    → (b ≡ false → r ≡ Err e → P e) → P e
by_pass P true x r e fails behind = absurd (never x e (Ok x) refl fails)
by_pass P false x r e fails behind = behind refl fails

-- a reading whose faults are told as others
pub by_told : {A E F : Type 0} (P : F → Type 0) (tell : E → F) (r : Result A E) (f : F) → refused_as tell r ≡ Err f
    → ((e : E) → r ≡ Err e → P (tell e)) → P f
by_told P tell (Ok x) f fails told = absurd (never x f (Ok x) refl fails)
by_told P tell (Err e) f fails told = subst P (err_is (tell e) f (Err (tell e)) refl fails) (told e refl)

pub told_ok : {A E F : Type 0} (tell : E → F) (r : Result A E) (x : A) → refused_as tell r ≡ Ok x → r ≡ Ok x
told_ok tell (Ok y) x e = cc
told_ok tell (Err f) x e = absurd cc

-- what wasn't there
pub by_missing : {A E : Type 0} (P : E → Type 0) (o : Option A) (d e : E) → or_refusal o d ≡ Err e → (o ≡ None → P d) → P e
by_missing P None d e fails here = subst P (err_is d e (Err d) refl fails) (here refl)
by_missing P (Some x) d e fails here = absurd (never x e (Ok x) refl fails)

-- what was there
pub there : {A E : Type 0} (o : Option A) (d : E) (x : A) → or_refusal o d ≡ Ok x → o ≡ Some x
there None d x e = absurd cc
there (Some y) d x e = cc

-- a step that found something
pub some_step : {A B : Type 0} (o : Option A) (f : A → Option B) (y : B) → options.◌>>=◌ o f ≡ Some y → (x : A) × (o ≡ Some x) × (f x ≡ Some y)
some_step None f y e = absurd cc
some_step (Some x) f y e = (x, refl, e)

-- a test that did not refuse
pub let_through : {E : Type 0} (b : Bool) (d : E) (x : Unit {0}) → refused_if b d ≡ Ok x → b ≡ false
let_through true d x e = absurd cc
let_through false d x e = refl

pub above_zero : (n : ℕ) → (n ≡ 0 → ⊥) → 0 < n
above_zero zero h = absurd (h refl)
above_zero (suc n) h = omega arith
