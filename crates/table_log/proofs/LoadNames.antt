-- What the talk of a load is: the names first, and then no more objects than names.
use Rattle.std.proofs.Common.{◌≡◌, ℕ, suc, ◌+◌, ◌<◌, ◌≤◌, List, [], ◌∷◌, ◌++◌, length, length-append, inl, inr, refl, ap, subst, arith}
use Rattle.std.specs.Prelude.{◌⊎◌}
use Rattle.session_core.specs.Sessions.{AllAsked}
use Rattle.session_core.specs.Shown.{AllGets}
use Rattle.session_core.specs.Talks.{Asked, list_names, get_object, put_file, put_commit, Told, told_names, Talk}
use Rattle.table_log.specs.LoadSessions.{HasListed, LoadAsks, LoadJob}

-- the names and the gets behind them are those of the talk
same_names : (names others : List (List ℕ)) (gets more : Talk) → ◌≡◌ {A = Talk} ((list_names, told_names names) ∷ gets) ((list_names, told_names others) ∷ more) → names ≡ others
same_names names others gets more is =
    let first : ◌≡◌ {A = Asked × Told} (list_names, told_names names) (list_names, told_names others) = cc in
    let told : told_names names ≡ told_names others = ap (λ (call : Asked × Told). call.1) first in
    cc

same_gets : (names others : List (List ℕ)) (gets more : Talk) → ◌≡◌ {A = Talk} ((list_names, told_names names) ∷ gets) ((list_names, told_names others) ∷ more) → gets ≡ more
same_gets names others gets more is = cc

-- one object more may be got
one_more : (job : LoadJob) (before : Talk) (names : List (List ℕ)) (front : Talk) (asked : Asked) → LoadAsks job before ((list_names, told_names names) ∷ front) asked → length front < length names
one_more job before names front list_names asks = absurd cc
one_more job before names front (get_object name) asks =
    let names_are : names ≡ asks.names = same_names names asks.names front asks.listed.gets asks.listed.talked in
    let gets_are : front ≡ asks.listed.gets = same_gets names asks.names front asks.listed.gets asks.listed.talked in
    omega (arith, asks.fewer, ap length names_are, ap length gets_are)
one_more job before names front (put_file name bytes) asks = absurd asks
one_more job before names front (put_commit version bytes) asks = absurd asks

few_gets : (job : LoadJob) (before : Talk) (names : List (List ℕ)) (front gets : Talk) → length front ≤ length names → AllAsked (LoadAsks job before) ((list_names, told_names names) ∷ front) gets → length front + length gets ≤ length names
few_gets job before names front [] few asked = omega (arith, few)
few_gets job before names front (call ∷ gets) few asked =
    let long : length (front ++ call ∷ []) ≡ length front + 1 = length-append front (call ∷ []) in
    let fewer : length front < length names = one_more job before names front call.0 asked.0 in
    let more : length (front ++ call ∷ []) + length gets ≤ length names = few_gets job before names (front ++ call ∷ []) gets (omega (arith, long, fewer)) asked.1 in
    omega (arith, long, more)

pub few_asked : (job : LoadJob) (before talk : Talk) (names : List (List ℕ)) → AllAsked (LoadAsks job before) [] talk → HasListed talk names → length talk ≤ suc (length names)
few_asked job before talk names asked listed =
    let here = subst (λ (t : Talk). AllAsked (LoadAsks job before) [] t) listed.talked asked in
    let few : 0 + length listed.gets ≤ length names = few_gets job before names [] listed.gets (omega arith) here.1 in
    omega (arith, few, ap length listed.talked)

-- ---- the names come first

-- behind something that was asked for only objects are got
then_gets : (job : LoadJob) (before : Talk) (first : Asked × Told) (front gets : Talk) → AllAsked (LoadAsks job before) (first ∷ front) gets → AllGets gets
then_gets job before first front [] asked = tt
then_gets job before first front ((list_names, told) ∷ gets) asked = absurd cc
then_gets job before first front ((get_object name, told) ∷ gets) asked = (tt, then_gets job before first (front ++ (get_object name, told) ∷ []) gets asked.1)
then_gets job before first front ((put_file name bytes, told) ∷ gets) asked = absurd asked.0
then_gets job before first front ((put_commit version bytes, told) ∷ gets) asked = absurd asked.0

-- so the names were told
names_told : (told : Told) (gets : Talk) (names : List (List ℕ)) → ◌≡◌ {A = Talk} ((list_names, told) ∷ []) ((list_names, told_names names) ∷ gets) → told ≡ told_names names
names_told told gets names is =
    let first : ◌≡◌ {A = Asked × Told} (list_names, told) (list_names, told_names names) = cc in
    ap (λ (call : Asked × Told). call.1) first

behind_names : (job : LoadJob) (before : Talk) (told : Told) (call : Asked × Told) (gets : Talk) → AllAsked (LoadAsks job before) ((list_names, told) ∷ []) (call ∷ gets) → (names : List (List ℕ)) × HasListed ((list_names, told) ∷ call ∷ gets) names
behind_names job before told (list_names, answer) gets asked = absurd cc
behind_names job before told (get_object name, answer) gets asked = (
  asked.0.names,
  record {
    gets = (get_object name, answer) ∷ gets;
    talked = ap (λ (t : Told). (list_names, t) ∷ (get_object name, answer) ∷ gets) (names_told told asked.0.listed.gets asked.0.names asked.0.listed.talked);
    only = then_gets job before (list_names, told) [] ((get_object name, answer) ∷ gets) asked;
  },
)
behind_names job before told (put_file name bytes, answer) gets asked = absurd asked.0
behind_names job before told (put_commit version bytes, answer) gets asked = absurd asked.0

pub listed_first : (job : LoadJob) (before talk : Talk) → AllAsked (LoadAsks job before) [] talk
    → (talk ≡ []) ⊎ ((told : Told) × (talk ≡ (list_names, told) ∷ [])) ⊎ ((names : List (List ℕ)) × HasListed talk names)
listed_first job before [] asked = inl refl
listed_first job before ((list_names, told) ∷ []) asked = inr (inl (told, refl))
listed_first job before ((list_names, told) ∷ call ∷ gets) asked = inr (inr (behind_names job before told call gets asked.1))
listed_first job before ((get_object name, told) ∷ gets) asked = absurd (none asked.0.names asked.0.listed.gets asked.0.listed.talked)
  where
    none : (names : List (List ℕ)) (gets : Talk) → ◌≡◌ {A = Talk} [] ((list_names, told_names names) ∷ gets) → ⊥
    none names gets is = cc
listed_first job before ((put_file name bytes, told) ∷ gets) asked = absurd asked.0
listed_first job before ((put_commit version bytes, told) ∷ gets) asked = absurd asked.0
