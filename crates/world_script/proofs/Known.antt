-- What is so of a text that was read is so of the text that its reader tells.
use Rattle.std.proofs.Common.{◌≡◌, ℕ, List, Option, None, Some, IfSome, subst}
use Rattle.lake_script.specs.declared.engine.End.{End}
use Rattle.lake_script.specs.declared.engine.End.TheVariants.{BadLine, Done, NotRead, NotWritten}
use Rattle.lake_script.specs.Told.{Finishes}

pub with_known : (known : Option (List ℕ)) (text : List ℕ) (P : List ℕ → Type 0) → IfSome known (λ other. text ≡ other) → P text → IfSome known P
with_known None text P same has = tt
with_known (Some other) text P same has = subst P same has

-- and of a run that finishes
pub finishes_known : (end : End) (known : Option (List ℕ)) (text : List ℕ) (P : Option ℕ → List ℕ → Type 0) → IfSome known (λ other. text ≡ other) → Finishes end (λ bad. P bad text) → Finishes end (λ bad. IfSome known (P bad))
finishes_known Done known text P same has = with_known known text (P None) same has
finishes_known (BadLine number) known text P same has = with_known known text (P (Some number)) same has
finishes_known NotRead known text P same has = tt
finishes_known NotWritten known text P same has = tt

-- the same under a premise on the text
pub finishes_such : (end : End) (known : Option (List ℕ)) (text : List ℕ) (Is P : List ℕ → Type 0) → IfSome known (λ other. text ≡ other) → (Is text → Finishes end (λ bad. P text)) → Finishes end (λ bad. IfSome known (λ other. Is other → P other))
finishes_such Done known text Is P same has = with_known known text (λ other. Is other → P other) same has
finishes_such (BadLine number) known text Is P same has = with_known known text (λ other. Is other → P other) same has
finishes_such NotRead known text Is P same has = tt
finishes_such NotWritten known text Is P same has = tt

-- a premise may stand on either side
pub finishes_if : (end : End) (A B : Type 0) → (A → Finishes end (λ bad. B)) → Finishes end (λ bad. A → B)
finishes_if Done A B has = has
finishes_if (BadLine number) A B has = has
finishes_if NotRead A B has = tt
finishes_if NotWritten A B has = tt

-- what is so of a thing that was kept, if one was, is so by a rule
pub if_kept : {X : Type 0} (kept : Option X) (P Q : X → Type 0) → ((x : X) → P x → Q x) → IfSome kept P → IfSome kept Q
if_kept None P Q rule has = tt
if_kept (Some x) P Q rule has = rule x has

-- and what is so of any text is so of one that is known
pub of_any : (known : Option (List ℕ)) (P : List ℕ → Type 0) → ((text : List ℕ) → P text) → IfSome known P
of_any None P rule = tt
of_any (Some text) P rule = rule text
