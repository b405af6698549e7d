-- What is visible of objects in front of a version.
use Rattle.std.proofs.Common.{◌≡◌, ℕ, List, true, false, Option, Some, None, Result, Ok, Err, refl}
use Rattle.std.specs.Prelude.{IfOk}
use Rattle.store_core.specs.Objects.{Objects, object_at}
use Rattle.front_reads.specs.Fronts.{is_visible, visible}
use Rattle.front_reads.proofs.FrontNames.{object_front, object_gone}

-- nothing is under a name that isn't visible
pub invisible : (front : Option ℕ) (objects : Objects) (name : List ℕ) → is_visible front name ≡ false → object_at (visible front objects) name ≡ None
invisible None objects name hidden = absurd cc
invisible (Some front) objects name hidden = object_gone front objects name hidden

-- and under one that is visible is what stands there
pub still_visible : (front : Option ℕ) (objects : Objects) (name : List ℕ) → is_visible front name ≡ true → object_at (visible front objects) name ≡ object_at objects name
still_visible None objects name shown = refl
still_visible (Some front) objects name shown = object_front front objects name shown

-- what is so of an answer is so of it otherwise
pub ok_also : {A E : Type 0} (P Q : A → Type 0) → ((x : A) → P x → Q x) → (r : Result A E) → IfOk r P → IfOk r Q
ok_also P Q goes (Ok x) so = goes x so
ok_also P Q goes (Err e) so = tt
