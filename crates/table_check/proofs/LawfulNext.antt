-- Which entries may stand behind those of a lawful table.
use Rattle.std.proofs.Common.{◌≡◌, ℕ, zero, suc, ◌<◌, true, false, List, [], ◌∷◌, ◌++◌, length, get_or, map, Contains, sym, ap, subst, ◌∙◌, arith, inl, inr, ◌⊎◌, Option, Some, None}
use Rattle.std.specs.Prelude.{bytes_eq, filter}
use Rattle.std.specs.List.{AllByRecursion, flat_map, list_any}
use Rattle.std.proofs.lemmas.Bool.{cases_Bool, false≢true, or_left, or_right}
use Rattle.std.proofs.lemmas.List.{append-nil}
use Rattle.std.proofs.lemmas.Slice.Eq.{bytes_eq-Decides}
use Rattle.table_model.specs.Lawful.{AreDifferent, Follows, IsLater, IsLawful, Rises, Suits}
use Rattle.table_model.specs.Table.{Batch, ToldNumber, told_of, Entry, creation, group, close, closes_of, is_stream_closed, last_item, numbers_by}
use Rattle.table_model.proofs.Batches.{IsAbove, Rises-push, filter-told, numbers_by-append, numbers_in}
use Rattle.table_model.proofs.Kept.{close_follows, follows_keeps, lawful_follows}
use Rattle.table_model.proofs.LawfulLemmas.{none_by}
use Rattle.table_check.specs.Following.{IsAboveLast, IsNewToTable}
use Rattle.table_check.proofs.Counts.{Among, all_from, among_to, each_among, find}

-- ---- the numbers of a group

-- an application of one of these
application_among : (b : Batch) (bs : List Batch) → Among b bs → Among b.application (map (λ c. c.application) bs)
application_among b [] has = has
application_among b (c ∷ bs) (inl is) = inl (ap (λ (x : Batch). x.application) is)
application_among b (c ∷ bs) (inr more) = inr (application_among b bs more)

-- where no batch is of an application, none of its numbers is told
no_numbers : (application : List ℕ) (bs : List Batch) → filter (λ b. bytes_eq b.application application) bs ≡ [] → numbers_in application (map told_of bs) ≡ []
no_numbers application bs none = ap (map (λ (t : ToldNumber). t.number)) (filter-told application bs ∙ ap (map told_of) none)

-- of batches of different applications, an application has one number at most
one_number : (b : Batch) (bs : List Batch) → AreDifferent (map (λ c. c.application) bs) → Among b bs → numbers_in b.application (map told_of bs) ≡ b.number ∷ []
one_number b [] different has = absurd has
one_number b (c ∷ bs) different (inl is) =
    let own : bytes_eq c.application b.application ≡ true = (bytes_eq-Decides c.application b.application).1 (ap (λ (x : Batch). x.application) (sym is)) in
    let none : numbers_in b.application (map told_of bs) ≡ [] =
    no_numbers b.application bs (none_by b.application bs (λ again. different.0 (subst (Contains (map (λ d. d.application) bs)) (ap (λ (x : Batch). x.application) is) again))) in
    rw (own, none) (ap (λ (x : Batch). x.number ∷ []) (sym is))
one_number b (c ∷ bs) different (inr more) =
    elim (cases_Bool (bytes_eq c.application b.application)) [
      | inl own ↦
          let is : b.application ≡ c.application = sym ((bytes_eq-Decides c.application b.application).0 own) in
          let again : Contains (map (λ d. d.application) bs) b.application = among_to b.application (map (λ d. d.application) bs) (application_among b bs more) in
          absurd (different.0 (subst (Contains (map (λ d. d.application) bs)) is again))
      | inr other ↦ rw other (one_number b bs different.1 more)
    ]

-- the numbers that a group tells of an application
numbers_of_group : (application : List ℕ) (bs : List Batch) → numbers_by application (group bs ∷ []) ≡ numbers_in application (map told_of bs)
numbers_of_group application bs = ap (numbers_in application) (append-nil (map told_of bs))

-- the numbers of an application with a group more
numbers_more : (application : List ℕ) (entries : List Entry) (bs : List Batch) → numbers_by application (entries ++ group bs ∷ []) ≡ numbers_by application entries ++ numbers_in application (map told_of bs)
numbers_more application entries bs = numbers_by-append application entries (group bs ∷ []) ∙ ap (λ (ns : List ℕ). numbers_by application entries ++ ns) (numbers_of_group application bs)

-- ---- closed streams

-- a test of closes finds one that is among them
any_seen : (application : List ℕ) (closed : List (List ℕ)) (k : ℕ) → k < length closed → get_or closed k application ≡ application → list_any (λ c. bytes_eq c application) closed ≡ true
any_seen application [] k lt is = absurd (omega arith)
any_seen application (c ∷ closed) zero lt is = or_left (bytes_eq c application) (list_any (λ d. bytes_eq d application) closed) ((bytes_eq-Decides c application).1 is)
any_seen application (c ∷ closed) (suc k) lt is = or_right (bytes_eq c application) (list_any (λ d. bytes_eq d application) closed) (any_seen application closed k (omega arith) is)

-- the closes among which a test finds one of an application
any_is : (application : List ℕ) (closed : List (List ℕ)) → list_any (λ c. bytes_eq c application) closed ≡ true → Contains closed application
any_is application [] some = absurd (false≢true some)
any_is application (c ∷ closed) some =
    elim (cases_Bool (bytes_eq c application)) [
      | inl own ↦ (0, omega arith, (bytes_eq-Decides c application).0 own)
      | inr other ↦
          let later = any_is application closed (rw other at some) in
          (suc later.0, omega (arith, later.1), later.2)
    ]

-- ---- a group behind a lawful table

-- what is above the last is so by either definition
is_above : (number : ℕ) (before : Option ℕ) → IsAboveLast number before → IsAbove number before
is_above number None is = tt
is_above number (Some other) is = is

-- numbers that rise end in one above the last of those before it
above_last : (ns : List ℕ) (n : ℕ) → Rises (ns ++ n ∷ []) → IsAboveLast n (last_item ns)
above_last [] n rises = tt
above_last (m ∷ []) n rises = rises.0
above_last (m ∷ k ∷ ns) n rises = above_last (k ∷ ns) n rises.1

module _ (entries : List Entry) (bs : List Batch) where
  -- what stands behind a close isn't a batch of its stream
  still_open : Follows entries (group bs) → (b : Batch) → numbers_in b.application (map told_of bs) ≡ b.number ∷ [] → is_stream_closed b.application entries ≡ false
  still_open follows b own =
      elim (cases_Bool (is_stream_closed b.application entries)) [
        | inr open_still ↦ open_still
        | inl shut ↦
            let none = follows.closed b.application (any_is b.application (flat_map closes_of entries) shut) in
            let wrong : b.number ∷ [] ≡ [] = sym own ∙ sym (numbers_of_group b.application bs) ∙ none in
            absurd cc
      ]

  -- The batches of a lawful table's last group are new.
  pub group_is_new : IsLawful (entries ++ group bs ∷ []) → Suits entries (group bs) × AllByRecursion (IsNewToTable entries) bs
  group_is_new lawful = (follows.suits, all_from (IsNewToTable entries) bs new)
    where
      follows : Follows entries (group bs)
      follows = lawful_follows entries (group bs) lawful

      new : (b : Batch) → Among b bs → IsNewToTable entries b
      new b among =
          let own = one_number b bs follows.suits.1 among in
          let rises : Rises (numbers_by b.application entries ++ b.number ∷ []) =
          subst Rises (numbers_more b.application entries bs ∙ ap (λ (ns : List ℕ). numbers_by b.application entries ++ ns) own) (follows.rises b.application) in
          (above_last (numbers_by b.application entries) b.number rises, still_open follows b own)

module _ (rest : List Entry) (bs : List Batch) (lawful : IsLawful (creation ∷ rest)) (suits : Suits (creation ∷ rest) (group bs)) (new : AllByRecursion (IsNewToTable (creation ∷ rest)) bs) where
  -- an application's numbers in a group: its batch's, or none
  own_or_none : (application : List ℕ) → ((b : Batch) × Among b bs × (b.application ≡ application)) ⊎ (numbers_in application (map told_of bs) ≡ [])
  own_or_none application =
      elim (find (λ b. bytes_eq b.application application) bs) [
        | inl found ↦ inl (found.0, found.1, (bytes_eq-Decides found.0.application application).0 found.2)
        | inr none ↦ inr (no_numbers application bs none)
      ]

  rises_more : (application : List ℕ) → Rises (numbers_by application ((creation ∷ rest) ++ group bs ∷ []))
  rises_more application =
      elim (own_or_none application) [
        | inl own ↦ subst (λ (a : List ℕ). Rises (numbers_by a ((creation ∷ rest) ++ group bs ∷ []))) own.2
            (subst Rises (sym (numbers_more own.0.application (creation ∷ rest) bs ∙ ap (λ (ns : List ℕ). numbers_by own.0.application (creation ∷ rest) ++ ns) (one_number own.0 bs suits.1 own.1)))
            (Rises-push (numbers_by own.0.application (creation ∷ rest)) own.0.number (lawful.rises own.0.application) (is_above own.0.number (last_item (numbers_by own.0.application (creation ∷ rest))) (each_among (IsNewToTable (creation ∷ rest)) own.0 bs new own.1).0)))
        | inr none ↦
            let same : numbers_by application ((creation ∷ rest) ++ group bs ∷ []) ≡ numbers_by application (creation ∷ rest) =
            numbers_more application (creation ∷ rest) bs ∙ (ap (λ (ns : List ℕ). numbers_by application (creation ∷ rest) ++ ns) none ∙ append-nil (numbers_by application (creation ∷ rest))) in
            rw same (lawful.rises application)
      ]

  none_of_closed : (application : List ℕ) → Contains (flat_map closes_of (creation ∷ rest)) application → numbers_by application (group bs ∷ []) ≡ []
  none_of_closed application closes =
      elim (own_or_none application) [
        | inr none ↦ numbers_of_group application bs ∙ none
        | inl own ↦
            let shut : is_stream_closed application (creation ∷ rest) ≡ true = any_seen application (flat_map closes_of (creation ∷ rest)) closes.0 closes.1 closes.2 in
            let still : is_stream_closed application (creation ∷ rest) ≡ false = subst (λ (a : List ℕ). is_stream_closed a (creation ∷ rest) ≡ false) own.2 (each_among (IsNewToTable (creation ∷ rest)) own.0 bs new own.1).1 in
            absurd (false≢true (sym still ∙ shut))
      ]

  -- A group of new batches of different applications leaves a lawful table lawful.
  pub group_kept : IsLawful ((creation ∷ rest) ++ group bs ∷ [])
  group_kept = follows_keeps creation rest (group bs) lawful tt (record { suits = suits; rises = rises_more; closed = none_of_closed })

-- A close leaves it lawful, whether the stream was open or closed.
pub close_kept : (application : List ℕ) (rest : List Entry) → IsLawful (creation ∷ rest) → IsLawful ((creation ∷ rest) ++ close application ∷ [])
close_kept application rest lawful = follows_keeps creation rest (close application) lawful tt (close_follows application (creation ∷ rest) lawful)

-- No creation stands behind others.
no_creation_last : (entries : List Entry) → AllByRecursion IsLater (entries ++ creation ∷ []) → ⊥
no_creation_last [] later = later.0
no_creation_last (entry ∷ entries) later = no_creation_last entries later.1

pub no_creation_behind : (rest : List Entry) → IsLawful ((creation ∷ rest) ++ creation ∷ []) → ⊥
no_creation_behind rest lawful = no_creation_last rest lawful.begins
