-- How many calls the put of a checkpoint makes.
use Rattle.std.proofs.Common.{◌≡◌, ◌∙◌, ◌≤◌, ◌+◌, ℕ, suc, List, [], ◌∷◌, ◌++◌, length, refl, sym, ap, subst, length-append, arith}
use Rattle.session_core.specs.Sessions.{AllAsked}
use Rattle.session_core.specs.Shown.{AllGets}
use Rattle.session_core.specs.Talks.{Asked, list_names, get_object, put_file, put_commit, Told, told_names, Talk}
use Rattle.table_log.specs.LoadSessions.{HasListed, LoadJob}
use Rattle.snapshot_core.specs.CheckpointSessions.{CheckpointAsks}

-- of one talk one list of names was told
pub same_names : (talk : Talk) (names others : List (List ℕ)) → HasListed talk names → HasListed talk others → names ≡ others
same_names talk names others one other =
    let both : ◌≡◌ {A = Talk} ((list_names, told_names names) ∷ one.gets) ((list_names, told_names others) ∷ other.gets) = sym one.talked ∙ other.talked in
    let first : ◌≡◌ {A = Asked × Told} (list_names, told_names names) (list_names, told_names others) = cc in
    let told : told_names names ≡ told_names others = ap (λ (call : Asked × Told). call.1) first in
    cc

-- and so many objects were got
listed_long : (talk : Talk) (names : List (List ℕ)) → (listed : HasListed talk names) → length talk ≡ suc (length listed.gets)
listed_long talk names listed = ap (λ (t : Talk). length t) listed.talked

-- one get more
gets_more : (gets : Talk) (name : List ℕ) (told : Told) → AllGets gets → AllGets (gets ++ (get_object name, told) ∷ [])
gets_more [] name told only = (tt, tt)
gets_more (call ∷ gets) name told only = (only.0, gets_more gets name told only.1)

listed_more : (talk : Talk) (names : List (List ℕ)) (name : List ℕ) (told : Told) → HasListed talk names → HasListed (talk ++ (get_object name, told) ∷ []) names
listed_more talk names name told listed = record {
  gets = listed.gets ++ (get_object name, told) ∷ [];
  talked = ap (λ (t : Talk). t ++ (get_object name, told) ∷ []) listed.talked;
  only = gets_more listed.gets name told listed.only;
}

-- behind a put a talk has not only listed and got
put_only : (gets : Talk) (name bytes : List ℕ) (told : Told) → AllGets (gets ++ (put_file name bytes, told) ∷ []) → ⊥
put_only [] name bytes told only = only.0
put_only (call ∷ gets) name bytes told only = put_only gets name bytes told only.1

none_behind : (talk : Talk) (names others : List (List ℕ)) (name bytes : List ℕ) (told : Told) → HasListed talk names → HasListed (talk ++ (put_file name bytes, told) ∷ []) others → ⊥
none_behind talk names others name bytes told listed more =
    let both : ◌≡◌ {A = Talk} ((list_names, told_names names) ∷ (listed.gets ++ (put_file name bytes, told) ∷ [])) ((list_names, told_names others) ∷ more.gets) =
    ap (λ (t : Talk). t ++ (put_file name bytes, told) ∷ []) (sym listed.talked) ∙ more.talked in
    let gets : listed.gets ++ (put_file name bytes, told) ∷ [] ≡ more.gets = cc in
    put_only listed.gets name bytes told (subst AllGets (sym gets) more.only)

module _ (job : LoadJob) (before : Talk) (names : List (List ℕ)) where
  -- nothing is asked for behind a put
  last_put : (front talk : Talk) (name bytes : List ℕ) (told : Told) → HasListed front names → AllAsked (CheckpointAsks job before) (front ++ (put_file name bytes, told) ∷ []) talk → talk ≡ []
  last_put front [] name bytes told listed asked = refl
  last_put front ((list_names, answer) ∷ talk) name bytes told listed asked =
      let none : front ++ (put_file name bytes, told) ∷ [] ≡ [] = asked.0 in
      absurd (omega (arith, ap (λ (t : Talk). length t) none, length-append front ((put_file name bytes, told) ∷ [])))
  last_put front ((get_object other, answer) ∷ talk) name bytes told listed asked = absurd (none_behind front names asked.0.names name bytes told listed asked.0.listed)
  last_put front ((put_file other more, answer) ∷ talk) name bytes told listed asked = absurd (none_behind front names asked.0.1.names name bytes told listed asked.0.1.listed)
  last_put front ((put_commit version more, answer) ∷ talk) name bytes told listed asked = absurd asked.0

  -- behind the names no more objects are got than there are names, and then one put is made
  calls_behind : (front talk : Talk) → HasListed front names → length front ≤ 1 + length names → AllAsked (CheckpointAsks job before) front talk → length front + length talk ≤ 2 + length names
  calls_behind front [] listed few asked = omega arith
  calls_behind front ((list_names, told) ∷ talk) listed few asked =
      let none : front ≡ [] = asked.0 in
      absurd (omega (arith, ap (λ (t : Talk). length t) none, listed_long front names listed))
  calls_behind front ((get_object name, told) ∷ talk) listed few asked =
      let same : asked.0.names ≡ names = same_names front asked.0.names names asked.0.listed listed in
      let long = listed_long front asked.0.names asked.0.listed in
      let fewer = asked.0.fewer in
      let room : length asked.0.names ≡ length names = ap (λ (ns : List (List ℕ)). length ns) same in
      let more = length-append front ((get_object name, told) ∷ []) in
      let others = calls_behind (front ++ (get_object name, told) ∷ []) talk (listed_more front names name told listed) (omega (arith, more, long, fewer, room)) asked.1 in
      omega (arith, more, others)
  calls_behind front ((put_file name bytes, told) ∷ talk) listed few asked =
      let none : talk ≡ [] = last_put front talk name bytes told listed asked.1 in
      omega (arith, few, ap (λ (t : Talk). length t) none)
  calls_behind front ((put_commit version bytes, told) ∷ talk) listed few asked = absurd asked.0

-- The names, no more objects than there are names, and a put.
pub few_calls : (job : LoadJob) (before talk rest : Talk) (names : List (List ℕ)) → AllAsked (CheckpointAsks job before) [] talk → talk ≡ (list_names, told_names names) ∷ rest → length talk ≤ 2 + length names
few_calls job before talk rest names asked is =
    let first : Talk = (list_names, told_names names) ∷ [] in
    let all : AllAsked (CheckpointAsks job before) [] ((list_names, told_names names) ∷ rest) = subst (AllAsked (CheckpointAsks job before) []) is asked in
    let long = calls_behind job before names first rest (record { gets = []; talked = refl; only = tt }) (omega arith) all.1 in
    omega (arith, long, ap (λ (t : Talk). length t) is)
