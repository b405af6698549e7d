-- Where each application's numbers rise, no batch stands twice.
use Rattle.std.proofs.Common.{◌≡◌, ◌⊎◌, ◌∙◌, ◌<◌, ℕ, zero, suc, List, [], ◌∷◌, ◌++◌, map, Some, true, inl, inr, refl, sym, ap, subst, arith}
use Rattle.std.specs.Prelude.{bytes_eq, slice_get}
use Rattle.std.proofs.lemmas.List.{map-append}
use Rattle.std.proofs.lemmas.Slice.Eq.{bytes_eq-Decides}
use Rattle.table_model.specs.Lawful.{Rises}
use Rattle.table_model.specs.Table.{Batch, ToldNumber, Entry, batches, numbers_by, told_of}
use Rattle.table_model.proofs.Callers.{Rises-back, below_later, numbers_in, numbers_in-append, told-batches}
use Rattle.stream_model.specs.Headline.{StandOnce}

-- a list cut at one of its places
pub record IsSplit (bs : List Batch) (b : Batch) : Type 0 where
  pub before : List Batch
  pub after : List Batch
  pub is : bs ≡ before ++ b ∷ after

split_at : (bs : List Batch) (place : ℕ) (b : Batch) → slice_get bs place ≡ Some b → IsSplit bs b
split_at [] place b is = absurd cc
split_at (c ∷ bs) zero b is =
    let same : c ≡ b = cc in
    record { before = []; after = bs; is = ap (λ (d : Batch). d ∷ bs) same }
split_at (c ∷ bs) (suc place) b is =
    let rest = split_at bs place b is in
    record { before = c ∷ rest.before; after = rest.after; is = ap (λ (ds : List Batch). c ∷ ds) rest.is }

module _ (application : List ℕ) where
  -- the application's numbers among those of batches
  abbrev numbers_of : List Batch → List ℕ
  numbers_of bs = numbers_in application (map told_of bs)

  numbers_of-append : (bs cs : List Batch) → numbers_of (bs ++ cs) ≡ numbers_of bs ++ numbers_of cs
  numbers_of-append bs cs = ap (λ (ts : List ToldNumber). numbers_in application ts) (map-append told_of bs cs) ∙ numbers_in-append application (map told_of bs) (map told_of cs)

  -- the number of one of the application's comes first
  own_number : (b : Batch) (bs : List Batch) → b.application ≡ application → numbers_of (b ∷ bs) ≡ b.number ∷ numbers_of bs
  own_number b bs is = let own : bytes_eq b.application application ≡ true = (bytes_eq-Decides b.application application).1 is in rw own refl

  number_split : (bs : List Batch) (b : Batch) → b.application ≡ application → (split : IsSplit bs b) → numbers_of bs ≡ numbers_of split.before ++ b.number ∷ numbers_of split.after
  number_split bs b is split =
      ap numbers_of split.is ∙ numbers_of-append split.before (b ∷ split.after) ∙ ap (λ (ns : List ℕ). numbers_of split.before ++ ns) (own_number b split.after is)

  -- a batch that stands before another has a lower number
  lower : (bs : List Batch) (place other : ℕ) (b c : Batch) → Rises (numbers_of bs) → slice_get bs place ≡ Some b → slice_get bs other ≡ Some c → b.application ≡ application → c.application ≡ application → place < other → b.number < c.number
  lower [] place other b c rises is also own owns below = absurd cc
  lower (d ∷ bs) zero zero b c rises is also own owns below = absurd (omega (arith, below))
  lower (d ∷ bs) (suc place) zero b c rises is also own owns below = absurd (omega (arith, below))
  lower (d ∷ bs) zero (suc other) b c rises is also own owns below =
      let same : d ≡ b = cc in
      let split = split_at bs other c also in
      let numbers : numbers_of (d ∷ bs) ≡ b.number ∷ (numbers_of split.before ++ c.number ∷ numbers_of split.after) =
      ap (λ (e : Batch). numbers_of (e ∷ bs)) same ∙ own_number b bs own ∙ ap (λ (ns : List ℕ). b.number ∷ ns) (number_split bs c owns split) in
      below_later b.number (numbers_of split.before) c.number (numbers_of split.after) (subst Rises numbers rises)
  lower (d ∷ bs) (suc place) (suc other) b c rises is also own owns below =
      let parts : numbers_of (d ∷ bs) ≡ numbers_of (d ∷ []) ++ numbers_of bs = numbers_of-append (d ∷ []) bs in
      lower bs place other b c (Rises-back (numbers_of (d ∷ [])) (numbers_of bs) (subst Rises parts rises)) is also own owns (omega (arith, below))

pub stands_once : (entries : List Entry) → ((application : List ℕ) → Rises (numbers_by application entries)) → StandOnce (batches entries)
stands_once entries rises = λ place other b c is also applications numbers. by_order place other b c is also applications numbers (three place other)
  where
    three : (m n : ℕ) → (m < n) ⊎ ((m ≡ n) ⊎ (n < m))
    three zero zero = inr (inl refl)
    three zero (suc n) = inl (omega arith)
    three (suc m) zero = inr (inr (omega arith))
    three (suc m) (suc n) = elim (three m n) [
      | inl below ↦ inl (omega (arith, below))
      | inr (inl same) ↦ inr (inl (ap (λ (k : ℕ). suc k) same))
      | inr (inr above) ↦ inr (inr (omega (arith, above)))
    ]

    rise : (application : List ℕ) → Rises (numbers_of application (batches entries))
    rise application = subst Rises (ap (λ (ts : List ToldNumber). numbers_in application ts) (told-batches entries)) (rises application)

    by_order : (place other : ℕ) (b c : Batch) → slice_get (batches entries) place ≡ Some b → slice_get (batches entries) other ≡ Some c → b.application ≡ c.application → b.number ≡ c.number → (place < other) ⊎ ((place ≡ other) ⊎ (other < place)) → place ≡ other
    by_order place other b c is also applications numbers (inl below) = absurd (let less = lower c.application (batches entries) place other b c (rise c.application) is also applications refl below in omega (arith, less, numbers))
    by_order place other b c is also applications numbers (inr (inl same)) = same
    by_order place other b c is also applications numbers (inr (inr above)) = absurd (let less = lower b.application (batches entries) other place c b (rise b.application) also is (sym applications) refl above in omega (arith, less, numbers))
