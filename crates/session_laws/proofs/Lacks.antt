-- Which commit a session lacks: what is got under the name that it asks for can be read, in a sound store that bears the talk.
use Rattle.std.proofs.Common.{◌≡◌, ◌∙◌, ◌⊎◌, ◌≤◌, ◌<◌, ℕ, List, [], ◌∷◌, ◌++◌, Bool, true, false, Option, Some, None, inl, inr, sym, ap, subst, arith}
use Rattle.store_core.specs.Objects.{Objects}
use Rattle.session_core.specs.Shown.{AllGets}
use Rattle.session_core.specs.Talks.{Bears, Talk, get_object, list_names, told_names, told_object}
use Rattle.session_core.proofs.Callers.{bears_more}
use Rattle.store_core.specs.Names.{commit_name, greatest_version}
use Rattle.table_log.specs.Counts.{count_in}
use Rattle.table_log.specs.LoadSessions.{HasGap, HasListed, IsBadBehind, IsListedCheckpoint, IsNextCommit, IsNoCommit, LoadAsks, LoadJob, GotNoCommit}
use Rattle.commit_core.specs.SoundStores.{IsSoundStore}
use Rattle.commit_core.proofs.Callers.{commit_stands, sought_commit}
use Rattle.session_laws.specs.Rows.{LacksCommit, got_none, next_after_talk, none_listed, not_listed}
use Rattle.session_laws.proofs.NextVersions.{listed_next}

-- whether a talk begins with a list, and the names of that
abbrev pub begins_with_list : Talk → Bool
begins_with_list ((list_names, told) ∷ talk) = true
begins_with_list talk = false

abbrev first_names : Talk → List (List ℕ)
first_names ((list_names, told_names names) ∷ talk) = names
first_names talk = []

-- the calls in front of the last one were gets too
gets_front : (front more : Talk) → AllGets (front ++ more) → AllGets front
gets_front [] more only = tt
gets_front (call ∷ front) more only = (only.0, gets_front front more only.1)

-- what is left of a talk that lists first, in front of its last call
pub listed_front : (talk front : Talk) (names : List (List ℕ)) (name : List ℕ) (found : Option (List ℕ)) → HasListed talk names → talk ≡ front ++ (get_object name, told_object found) ∷ [] → HasListed front names
listed_front talk front names name found listed talked = by_front front (sym listed.talked ∙ talked)
  where
    by_front : (front : Talk) → ((list_names, told_names names) ∷ listed.gets) ≡ front ++ (get_object name, told_object found) ∷ [] → HasListed front names
    by_front [] is = let wrong : true ≡ false = ap begins_with_list is in absurd cc
    by_front (call ∷ front) is =
        let first : (list_names, told_names names) ≡ call = cc in
        let rest : listed.gets ≡ front ++ (get_object name, told_object found) ∷ [] = cc in
        record { gets = front; talked = ap (λ c. c ∷ front) (sym first); only = gets_front front ((get_object name, told_object found) ∷ []) (subst AllGets rest listed.only) }

module _ (objects : Objects) (sound : IsSoundStore objects) (talk : Talk) (borne : Bears objects talk) where
  -- Where a load can't go on, a commit is lacked, whichever version came next before. What it asked for at last is what a load asks for.
  pub load_lacks : (first : ℕ) (job : LoadJob) (before : Talk) (version : ℕ) → ((front : Talk) (found : Option (List ℕ)) → talk ≡ front ++ (get_object (commit_name version), told_object found) ∷ [] → LoadAsks job before front (get_object (commit_name version))) → IsBadBehind job before talk version
      → LacksCommit (next_after_talk first talk) talk version
  load_lacks first job before version asks bad = by_why bad.why
    where
      lists : (rest : Talk) × (talk ≡ (list_names, told_names bad.names) ∷ rest)
      lists = (bad.listed.gets, bad.listed.talked)

      next_is : next_after_talk first talk ≡ count_in bad.names
      next_is = listed_next first talk bad.names bad.listed

      -- where something was asked for, something was listed
      some_sought : (listed : List (List ℕ)) (gets : Talk) (name : List ℕ) → IsNextCommit job listed gets name ⊎ IsListedCheckpoint job listed gets name → 0 < count_in listed
      some_sought listed gets name (inl next) = omega (arith, next.below)
      some_sought listed gets name (inr one) = omega (arith, one.below)

      some_listed : (front : Talk) (found : Option (List ℕ)) → talk ≡ front ++ (get_object (commit_name version), told_object found) ∷ [] → 0 < count_in bad.names
      some_listed front found talked =
          let sought = asks front found talked in
          let last : Talk = (get_object (commit_name version), told_object found) ∷ [] in
          let same : sought.names ≡ bad.names = sym (ap first_names (talked ∙ ap (λ (t : Talk). t ++ last) sought.listed.talked)) ∙ ap first_names bad.listed.talked in
          subst (λ (names : List (List ℕ)). 0 < count_in names) same (some_sought sought.names sought.listed.gets (commit_name version) sought.sought)

      below_next : (count_in bad.names ≡ 0) ⊎ (version < count_in bad.names) → 0 < count_in bad.names → version < next_after_talk first talk
      below_next (inl none) some = absurd (omega (arith, none, some))
      below_next (inr below) some = subst (λ (n : ℕ). version < n) (sym next_is) below

      -- where there is a gap, too
      by_gap : (count_in bad.names ≡ 0) ⊎ (version < count_in bad.names) → HasGap bad.names → LacksCommit (next_after_talk first talk) talk version
      by_gap (inl none) gap = absurd (gap (λ at below. absurd (omega (arith, none, below))))
      by_gap (inr below) gap = not_listed bad.names lists below gap

      by_found : (front : Talk) (found : Option (List ℕ)) → talk ≡ front ++ (get_object (commit_name version), told_object found) ∷ [] → IsNoCommit found → LacksCommit (next_after_talk first talk) talk version
      by_found front None talked none = got_none (below_next bad.below (some_listed front None talked)) (front, talked)
      by_found front (Some bytes) talked none =
          let stands = (bears_more objects front (get_object (commit_name version)) (told_object (Some bytes)) (subst (Bears objects) talked borne)).1 in
          let sought = asks front (Some bytes) talked in
          absurd (sought_commit objects sound job sought.names sought.listed.gets (commit_name version) bytes sought.sought stands none)

      by_why : ((count_in bad.names ≡ 0) × (version ≡ 0)) ⊎ GotNoCommit talk version ⊎ HasGap bad.names → LacksCommit (next_after_talk first talk) talk version
      by_why (inl none) = none_listed bad.names lists none.0 none.1
      by_why (inr (inl got)) = by_found got.front got.found got.talked got.none
      by_why (inr (inr gap)) = by_gap bad.below gap

  -- So it is where a winner was got and isn't there: whatever stands at a version that commits can have is one.
  pub winner_lacks : (next version : ℕ) (front : Talk) (found : Option (List ℕ)) → version ≤ greatest_version → version < next → talk ≡ front ++ (get_object (commit_name version), told_object found) ∷ [] → IsNoCommit found → LacksCommit next talk version
  winner_lacks next version front None small below talked none = got_none below (front, talked)
  winner_lacks next version front (Some bytes) small below talked none =
      let stands = (bears_more objects front (get_object (commit_name version)) (told_object (Some bytes)) (subst (Bears objects) talked borne)).1 in
      absurd (commit_stands objects sound.table version bytes small stands none)
