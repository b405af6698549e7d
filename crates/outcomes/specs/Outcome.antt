-- What a call answered, next to what the definitions say.
use Rattle.std.specs.Prelude.{◌≡◌, Result, Ok, Err}

-- What a fault of the code says: a refusal; nothing, as where memory ran out; or it never comes.
pub data Said (R : Type 0) : Type 0 where
  refuses : R → Said R
  says_nothing : Said R
  never_comes : Said R

-- the refusal that a fault says is the one by the definitions
abbrev pub IsSaid : {Y R : Type 0} → Said R → Result Y R → Type 0
IsSaid (refuses refusal) said = said ≡ Err refusal
IsSaid says_nothing said = Unit {0}
IsSaid never_comes said = ⊥

-- What was answered, seen by view, is what is said; each fault says what its table tells of it.
abbrev pub Gives : {X Y E R : Type 0} → (E → Said R) → (X → Y) → Result X E → Result Y R → Type 0
Gives table view (Ok x) said = said ≡ Ok (view x)
Gives table view (Err fault) said = IsSaid (table fault) said
