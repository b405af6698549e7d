-- The line that a refusal is explained by.
use Rattle.std.specs.Prelude.{ℕ, List, ◌++◌, codes}
use Rattle.refusal_texts.specs.declared.refusal.Again.{Again}
use Rattle.refusal_texts.specs.declared.refusal.Again.TheVariants.{Always, Never, After}
use Rattle.refusal_texts.specs.declared.refusal.Refusal.{Refusal}

-- whether the same call may be tried again
abbrev pub again_text : Again → List ℕ
again_text Always = codes "yes"
again_text Never = codes "no"
again_text (After what) = codes "after " ++ what.now

-- the printed form
abbrev pub refusal_text : Refusal → List ℕ
refusal_text refusal =
    refusal.code.now ++ (codes " " ++ (refusal.name.now ++ (codes ": " ++ (refusal.meaning.now ++ (codes "; retry: " ++ again_text refusal.again)))))
