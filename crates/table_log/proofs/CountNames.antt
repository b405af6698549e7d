-- How many names there are, at least, where commits of many versions and checkpoints are among them.
use Rattle.std.proofs.Common.{◌≡◌, ◌∙◌, ◌&&◌, ◌||◌, ◌+◌, ◌-◌, ◌<◌, ◌≤◌, ℕ, zero, suc, Bool, true, false, List, [], ◌∷◌, length, nat_lt, Option, None, Some, if◌then◌else◌, refl, sym, ap, subst, arith}
use Rattle.std.specs.Prelude.{Contains, bytes_eq, is_some, nat_le}
use Rattle.std.proofs.lemmas.Bool.{le-leb, le-ltb, lt-ltb, ltb-true}
use Rattle.std.proofs.lemmas.List.Elements.{Contains-append_left, Contains-append_right, Contains-push}
use Rattle.std.proofs.lemmas.Map.Made.{Contains-tail}
use Rattle.std.proofs.lemmas.Slice.Eq.{bytes_eq-Decides}
use Rattle.store_core.specs.Names.{commit_name, commit_version, greatest_version}
use Rattle.store_core.proofs.Callers.{named, own_version}
use Rattle.table_log.specs.Counts.{count_in, next_behind}
use Rattle.table_log.specs.LoadSessions.{checkpoints_in}
use Rattle.table_log.specs.Restoring.{checkpoint_version}
use Rattle.table_log.proofs.SoundKept.{commit_is_none}

-- ---- names in lists

pub first_has : (name : List ℕ) (names : List (List ℕ)) → Contains (name ∷ names) name
first_has name names = Contains-append_left (name ∷ []) names name (Contains-push [] name)

pub more_has : (first : List ℕ) (names : List (List ℕ)) (name : List ℕ) → Contains names name → Contains (first ∷ names) name
more_has first names name has = Contains-append_right (first ∷ []) names name has

none_has : (name : List ℕ) → Contains [] name → ⊥
none_has name has = absurd (omega (arith, has.1))

tail_has : (first : List ℕ) (names : List (List ℕ)) (name : List ℕ) → bytes_eq first name ≡ false → Contains (first ∷ names) name → Contains names name
tail_has first names name other has = Contains-tail first names name (λ same. let yes = (bytes_eq-Decides first name).1 same in cc) has

-- ---- names that pass a test

abbrev marked : (test : List ℕ → Bool) → List (List ℕ) → ℕ
marked test [] = 0
marked test (name ∷ names) = if test name then suc (marked test names) else marked test names

no_less : (a b : Bool) (m n : ℕ) → (a ≡ true → b ≡ true) → m ≤ n → (if a then suc m else m) ≤ (if b then suc n else n)
no_less true true m n more le = omega (arith, le)
no_less true false m n more le = let wrong = more refl in absurd cc
no_less false true m n more le = omega (arith, le)
no_less false false m n more le = le

still_less : (a b : Bool) (m n : ℕ) → (a ≡ true → b ≡ true) → m < n → (if a then suc m else m) < (if b then suc n else n)
still_less true true m n more lt = omega (arith, lt)
still_less true false m n more lt = let wrong = more refl in absurd cc
still_less false true m n more lt = omega (arith, lt)
still_less false false m n more lt = lt

now_less : (a b : Bool) (m n : ℕ) → a ≡ false → b ≡ true → m ≤ n → (if a then suc m else m) < (if b then suc n else n)
now_less true b m n fails passes le = absurd cc
now_less false true m n fails passes le = omega (arith, le)
now_less false false m n fails passes le = absurd cc

module _ (test more : List ℕ → Bool) (kept : (name : List ℕ) → test name ≡ true → more name ≡ true) where
  -- more pass a test that lets more pass
  marks_more : (names : List (List ℕ)) → marked test names ≤ marked more names
  marks_more [] = omega arith
  marks_more (name ∷ names) = no_less (test name) (more name) (marked test names) (marked more names) (kept name) (marks_more names)

  -- one at least
  marks_one : (names : List (List ℕ)) (one : List ℕ) → Contains names one → test one ≡ false → more one ≡ true → marked test names < marked more names
  marks_one [] one has fails passes = absurd (none_has one has)
  marks_one (name ∷ names) one has fails passes = by_name (bytes_eq name one) refl (λ later. marks_one names one later fails passes)
    where
      by_name : (same : Bool) → bytes_eq name one ≡ same → (Contains names one → marked test names < marked more names) → marked test (name ∷ names) < marked more (name ∷ names)
      by_name true e others =
          let same : name ≡ one = (bytes_eq-Decides name one).0 e in
          now_less (test name) (more name) (marked test names) (marked more names) (ap test same ∙ fails) (ap more same ∙ passes) (marks_more names)
      by_name false e others = still_less (test name) (more name) (marked test names) (marked more names) (kept name) (others (tail_has name names one e has))

marks_all : (names : List (List ℕ)) → marked (λ name. true) names ≡ length names
marks_all [] = refl
marks_all (name ∷ names) = ap suc (marks_all names)

-- ---- commits of some versions, and checkpoints

abbrev is_within : (from next : ℕ) → Option ℕ → Bool
is_within from next None = false
is_within from next (Some version) = nat_le from version && nat_lt version next

abbrev is_counted : (from next : ℕ) → List ℕ → Bool
is_counted from next name = is_some (checkpoint_version name) || is_within from next (commit_version name)

counts_checkpoints : (from next : ℕ) (names : List (List ℕ)) → checkpoints_in names ≤ marked (is_counted from next) names
counts_checkpoints from next [] = omega arith
counts_checkpoints from next (name ∷ names) = no_less (is_some (checkpoint_version name)) (is_counted from next name) (checkpoints_in names) (marked (is_counted from next) names) (or_first (is_some (checkpoint_version name)) _) (counts_checkpoints from next names)
  where
    or_first : (a b : Bool) → a ≡ true → (a || b) ≡ true
    or_first true b e = refl
    or_first false b e = absurd cc

counts_on : (from next : ℕ) (name : List ℕ) → is_counted from next name ≡ true → is_counted from (suc next) name ≡ true
counts_on from next name = or_both (is_some (checkpoint_version name)) _ _ (within_on (commit_version name))
  where
    or_both : (a b c : Bool) → (b ≡ true → c ≡ true) → (a || b) ≡ true → (a || c) ≡ true
    or_both true b c more e = refl
    or_both false b c more e = more e

    and_both : (a b c : Bool) → (b ≡ true → c ≡ true) → (a && b) ≡ true → (a && c) ≡ true
    and_both true b c more e = more e
    and_both false b c more e = e

    within_on : (found : Option ℕ) → is_within from next found ≡ true → is_within from (suc next) found ≡ true
    within_on None e = e
    within_on (Some version) e = and_both (nat_le from version) (nat_lt version next) (nat_lt version (suc next)) (λ below. let lt : version < next = ltb-true version next below in lt-ltb version (suc next) (omega (arith, lt))) e

module _ (from version : ℕ) (small : version ≤ greatest_version) where
  -- a commit isn't a checkpoint
  counted_by : (next : ℕ) → is_counted from next (commit_name version) ≡ (nat_le from version && nat_lt version next)
  counted_by next =
      ap (λ (found : Option ℕ). is_some found || is_within from next (commit_version (commit_name version))) (commit_is_none version)
      ∙ ap (is_within from next) (own_version version small)

  not_counted : (next : ℕ) → next ≤ version → is_counted from next (commit_name version) ≡ false
  not_counted next le = counted_by next ∙ and_false (nat_le from version) (nat_lt version next) (le-ltb version next le)
    where
      and_false : (a b : Bool) → b ≡ false → (a && b) ≡ false
      and_false true b e = e
      and_false false b e = refl

  now_counted : from ≤ version → is_counted from (suc version) (commit_name version) ≡ true
  now_counted le = counted_by (suc version) ∙ and_true (nat_le from version) (nat_lt version (suc version)) (le-leb from version le) (lt-ltb version (suc version) (omega arith))
    where
      and_true : (a b : Bool) → a ≡ true → b ≡ true → (a && b) ≡ true
      and_true true b ea eb = eb
      and_true false b ea eb = absurd cc

-- as many as versions
counted_up : (names : List (List ℕ)) (from versions : ℕ) → ((version : ℕ) → from ≤ version → version < from + versions → Contains names (commit_name version)) → from + versions ≤ suc greatest_version
    → versions + checkpoints_in names ≤ marked (is_counted from (from + versions)) names
counted_up names from zero have small = omega (arith, counts_checkpoints from (from + 0) names)
counted_up names from (suc versions) have small =
    let last = from + versions in
    let others : versions + checkpoints_in names ≤ marked (is_counted from last) names = counted_up names from versions (λ version after below. have version after (omega (arith, below))) (omega (arith, small)) in
    let one : marked (is_counted from last) names < marked (is_counted from (suc last)) names =
    marks_one (is_counted from last) (is_counted from (suc last)) (counts_on from last) names (commit_name last) (have last (omega arith) (omega arith)) (not_counted from last (omega (arith, small)) last (omega arith))
    (now_counted from last (omega (arith, small)) (omega arith)) in
    let next : from + suc versions ≡ suc last = omega arith in
    let same : marked (is_counted from (from + suc versions)) names ≡ marked (is_counted from (suc last)) names = ap (λ (n : ℕ). marked (is_counted from n) names) next in
    omega (arith, others, one, same)

-- A commit behind those of some versions is one name more.
pub names_beside : (names : List (List ℕ)) (from next last : ℕ) → from ≤ next → next ≤ last → last ≤ greatest_version → ((version : ℕ) → from ≤ version → version < next → Contains names (commit_name version)) → Contains names (commit_name last)
    → next + checkpoints_in names < length names + from
names_beside names from next last begun behind small have newest = at (next - from) (omega (arith, begun))
  where
    at : (versions : ℕ) → from + versions ≡ next → next + checkpoints_in names < length names + from
    at versions e =
        let those : versions + checkpoints_in names ≤ marked (is_counted from (from + versions)) names = counted_up names from versions (λ version after below. have version after (omega (arith, below, e))) (omega (arith, e, behind, small)) in
        let one : marked (is_counted from (from + versions)) names < marked (λ name. true) names =
        marks_one (is_counted from (from + versions)) (λ name. true) (λ name counted. refl) names (commit_name last) newest (not_counted from last small (from + versions) (omega (arith, e, behind))) refl in
        omega (arith, those, one, marks_all names, e)

-- ---- the newest commit that is named

pub newest_named : (names : List (List ℕ)) (last : ℕ) → count_in names ≡ suc last → Contains names (commit_name last) × (last ≤ greatest_version)
newest_named [] last is = absurd (omega (arith, is))
newest_named (name ∷ names) last is = by_found (commit_version name) refl is (newest_named names last)
  where
    by_found : (found : Option ℕ) → commit_version name ≡ found → next_behind found (count_in names) ≡ suc last → (count_in names ≡ suc last → Contains names (commit_name last) × (last ≤ greatest_version)) → Contains (name ∷ names) (commit_name last) × (last ≤ greatest_version)
    by_found None e counted others = let behind = others counted in (more_has name names (commit_name last) behind.0, behind.1)
    by_found (Some version) e counted others = by_test (nat_lt version (count_in names)) counted
      where
        by_test : (below : Bool) → (if below then count_in names else suc version) ≡ suc last → Contains (name ∷ names) (commit_name last) × (last ≤ greatest_version)
        by_test true at = let behind = others at in (more_has name names (commit_name last) behind.0, behind.1)
        by_test false at =
            let own = named name version e in
            let same : version ≡ last = omega (arith, at) in
            (subst (λ (text : List ℕ). Contains (name ∷ names) text) (sym own.0 ∙ ap commit_name same) (first_has name names), omega (arith, own.1, same))
