-- A read from a sound checkpoint on goes by the same schema as one of all versions.
use Rattle.std.proofs.Common.{◌≡◌, ◌≤◌, ◌+◌, ◌-◌, ℕ, zero, suc, List, [], ◌∷◌, ◌++◌, length, map, take, drop, Option, Some, None, refl, sym, ap, ◌∙◌, arith}
use Rattle.std.specs.Prelude.{◌<◌}
use Rattle.std.specs.List.{filter_map}
use Rattle.std.specs.Option.{option_or}
use Rattle.std.proofs.lemmas.List.Elements.{filter_map-append}
use Rattle.std.proofs.lemmas.List.{append-nil, append_assoc, length-map, map-append, take-append-drop}
use Rattle.delta_actions.specs.Action.{Action, MetaDataAction}
use Rattle.delta_actions.specs.In.{meta_data_in}
use Rattle.delta_replay.specs.Keys.{Key, at, last}
use Rattle.delta_replay.specs.Support.{meta_data_of_log, readable}
use Rattle.delta_replay.proofs.NewestTold.{meta_data_grows}
use Rattle.log_reading.specs.FromCheckpoints.{from_version, front_behind}
use Rattle.log_reading.specs.InForce.{SchemaText, in_force, in_force_from, schema_text_at, schema_text_of}
use Rattle.table_log.specs.Lists.{first}
use Rattle.log_reading.specs.Reads.{front}
use Rattle.table_log.specs.Restoring.{Restored}
use Rattle.table_log.specs.Versions.{Version, missing, commit}
use Rattle.log_reading.proofs.Callers.{last_told, meta_data_in_one, newest_is, or_none, or_regroup}
use Rattle.table_log.proofs.Callers.{same_behind, same_values}
use Rattle.log_rows.specs.Tailing.{unless_none}

-- ---- versions before one count as missing

pub none_alike : (n : ℕ) (versions : List Version) → unless_none (from_version n versions) ≡ unless_none versions
none_alike zero versions = refl
none_alike (suc n) [] = refl
none_alike (suc n) (found ∷ more) = refl

-- those behind it don't
drop_alike : (n m : ℕ) (versions : List Version) → n ≤ m → drop m (from_version n versions) ≡ drop m versions
drop_alike zero m versions le = refl
drop_alike (suc n) m [] le = refl
drop_alike (suc n) zero (found ∷ more) le = absurd (omega (arith, le))
drop_alike (suc n) (suc m) (found ∷ more) le = drop_alike n m more (omega (arith, le))

take_alike : (n m : ℕ) (versions : List Version) → take m (from_version n versions) ≡ from_version n (take m versions)
take_alike zero m versions = refl
take_alike (suc n) zero versions = refl
take_alike (suc n) (suc m) [] = refl
take_alike (suc n) (suc m) (found ∷ more) = ap (λ (rest : List Version). missing ∷ rest) (take_alike n m more)

-- nor those of a second part
both_alike : (n : ℕ) (versions others : List Version) → n ≤ length versions → from_version n (versions ++ others) ≡ from_version n versions ++ others
both_alike zero versions others le = refl
both_alike (suc n) [] others le = absurd (omega (arith, le))
both_alike (suc n) (found ∷ more) others le = ap (λ (rest : List Version). missing ∷ rest) (both_alike n more others (omega (arith, le)))

-- as many of two parts as the first has, and some more
take_past : (versions others : List Version) (more : ℕ) → take (length versions + more) (versions ++ others) ≡ versions ++ take more others
take_past [] others more = let none : 0 + more ≡ more = omega arith in ap (λ (n : ℕ). take n others) none
take_past (found ∷ versions) others more =
    let one : length (found ∷ versions) + more ≡ suc (length versions + more) = omega arith in
    ap (λ (n : ℕ). take n (found ∷ (versions ++ others))) one ∙ ap (λ (rest : List Version). found ∷ rest) (take_past versions others more)

-- ---- the commits in front

front_both : (commits : List (List Action)) (others : List Version) → front (map commit commits ++ others) ≡ commits ++ front others
front_both [] others = refl
front_both (actions ∷ commits) others = ap (λ (rest : List (List Action)). actions ∷ rest) (front_both commits others)

drop_front : (commits : List (List Action)) (others : List Version) → drop (length commits) (map commit commits ++ others) ≡ others
drop_front [] others = refl
drop_front (actions ∷ commits) others = drop_front commits others

-- the first of two parts
take_front : (versions others : List Version) → take (length versions) (versions ++ others) ≡ versions
take_front [] others = refl
take_front (found ∷ versions) others = ap (λ (rest : List Version). found ∷ rest) (take_front versions others)

take_within : (n : ℕ) (versions others : List Version) → n ≤ length versions → take n (versions ++ others) ≡ take n versions
take_within zero versions others le = refl
take_within (suc n) [] others le = absurd (omega (arith, le))
take_within (suc n) (found ∷ versions) others le = ap (λ (rest : List Version). found ∷ rest) (take_within n versions others (omega (arith, le)))

drop_within : (n : ℕ) (versions others : List Version) → n ≤ length versions → drop n (versions ++ others) ≡ drop n versions ++ others
drop_within zero versions others le = refl
drop_within (suc n) [] others le = absurd (omega (arith, le))
drop_within (suc n) (found ∷ versions) others le = drop_within n versions others (omega (arith, le))

-- ---- the newest schema that is told

-- the last that these versions tell
abbrev last_in : List Version → Option SchemaText
last_in versions = last (filter_map schema_text_at versions)

last_first : (found : Version) (more : List Version) → last_in (found ∷ more) ≡ option_or (last_in more) (schema_text_at found)
last_first found more = sym (or_none (last_in (found ∷ more))) ∙ (last_told schema_text_at found more None ∙ ap (option_or (last_in more)) (or_none (schema_text_at found)))

last_both : (versions others : List Version) → last_in (versions ++ others) ≡ option_or (last_in others) (last_in versions)
last_both [] others = sym (or_none (last_in others))
last_both (found ∷ versions) others =
    last_first found (versions ++ others)
    ∙ (ap (λ (o : Option SchemaText). option_or o (schema_text_at found)) (last_both versions others)
    ∙ (or_regroup (last_in others) (last_in versions) (schema_text_at found) ∙ ap (option_or (last_in others)) (sym (last_first found versions))))

or_same : (told : Option SchemaText) → option_or told told ≡ told
or_same None = refl
or_same (Some told) = refl

-- what those from one on tell is what all tell, where they tell something
last_alike : (n : ℕ) (versions : List Version) → option_or (last_in (from_version n versions)) (last_in versions) ≡ last_in versions
last_alike zero versions = or_same (last_in versions)
last_alike (suc n) [] = refl
last_alike (suc n) (found ∷ more) =
    ap (option_or (last_in (from_version n more))) (last_first found more)
    ∙ (sym (or_regroup (last_in (from_version n more)) (last_in more) (schema_text_at found))
    ∙ (ap (λ (o : Option SchemaText). option_or o (schema_text_at found)) (last_alike n more) ∙ sym (last_first found more)))

-- ---- the newest metadata of some commits

-- one commit more: where the newest metadata can be read, its schema is the last that is told
one_told : (before : List (List Action)) (actions : List Action) → ((told : SchemaText) → schema_text_of (meta_data_of_log before) ≡ Some told → last_in (map commit before) ≡ Some told)
    → (told : SchemaText) → schema_text_of (meta_data_of_log (before ++ actions ∷ [])) ≡ Some told → last_in (map commit (before ++ actions ∷ [])) ≡ Some told
one_told before actions so_far told is =
    by_newest (last (filter_map meta_data_in actions)) refl (ap schema_text_of (sym (meta_data_grows before actions ∙ newest_is meta_data_in (meta_data_of_log before) actions)) ∙ is)
  where
    both : last_in (map commit (before ++ actions ∷ [])) ≡ option_or (last_in (commit actions ∷ [])) (last_in (map commit before))
    both = ap last_in (map-append commit before (actions ∷ [])) ∙ last_both (map commit before) (commit actions ∷ [])

    own : last_in (commit actions ∷ []) ≡ schema_text_of (last (filter_map meta_data_in actions))
    own = last_first (commit actions) []

    by_newest : (newest : Option MetaDataAction) → last (filter_map meta_data_in actions) ≡ newest → schema_text_of (option_or (last (filter_map meta_data_in actions)) (meta_data_of_log before)) ≡ Some told
        → last_in (map commit (before ++ actions ∷ [])) ≡ Some told
    by_newest None found reads =
        both ∙ (ap (λ (o : Option SchemaText). option_or o (last_in (map commit before))) (own ∙ ap schema_text_of found)
        ∙ so_far told (ap (λ (o : Option MetaDataAction). schema_text_of (option_or o (meta_data_of_log before))) (sym found) ∙ reads))
    by_newest (Some m) found reads =
        both ∙ ap (λ (o : Option SchemaText). option_or o (last_in (map commit before))) (own ∙ (ap schema_text_of found ∙ (ap (λ (o : Option MetaDataAction). schema_text_of (option_or o (meta_data_of_log before))) (sym found) ∙ reads)))

more_told : (before commits : List (List Action)) → ((told : SchemaText) → schema_text_of (meta_data_of_log before) ≡ Some told → last_in (map commit before) ≡ Some told)
    → (told : SchemaText) → schema_text_of (meta_data_of_log (before ++ commits)) ≡ Some told → last_in (map commit (before ++ commits)) ≡ Some told
more_told before [] so_far told is =
    ap (λ (all : List (List Action)). last_in (map commit all)) (append-nil before) ∙ so_far told (ap (λ (all : List (List Action)). schema_text_of (meta_data_of_log all)) (sym (append-nil before)) ∙ is)
more_told before (actions ∷ commits) so_far told is =
    let whole : (before ++ actions ∷ []) ++ commits ≡ before ++ actions ∷ commits = append_assoc before (actions ∷ []) commits in
    ap (λ (all : List (List Action)). last_in (map commit all)) (sym whole)
    ∙ more_told (before ++ actions ∷ []) commits (one_told before actions so_far) told (ap (λ (all : List (List Action)). schema_text_of (meta_data_of_log all)) whole ∙ is)

newest_told : (commits : List (List Action)) (told : SchemaText) → schema_text_of (meta_data_of_log commits) ≡ Some told → last_in (map commit commits) ≡ Some told
newest_told commits told is = more_told [] commits (λ told is. absurd cc) told is

-- ---- the schema in force

-- where one is told, none counts that is told elsewhere
some_first : (found : Option SchemaText) (told : SchemaText) (one other : Option SchemaText) → option_or (option_or found (Some told)) one ≡ option_or (option_or found (Some told)) other
some_first None told one other = refl
some_first (Some own) told one other = refl

-- where some version tells a schema, one is in force
some_told : (versions others : List Version) (told more : SchemaText) → last_in (versions ++ others) ≡ Some told
    → option_or (option_or (option_or (last_in versions) None) (first (filter_map schema_text_at others))) (Some more) ≡ option_or (option_or (last_in versions) None) (first (filter_map schema_text_at others))
some_told versions others told more is = by_last (last_in versions) refl
  where
    by_first : (tell : List SchemaText) → last tell ≡ Some told → option_or (first tell) (Some more) ≡ first tell
    by_first [] none = absurd cc
    by_first (own ∷ tell) some = refl

    by_last : (found : Option SchemaText) → last_in versions ≡ found → option_or (option_or (option_or found None) (first (filter_map schema_text_at others))) (Some more) ≡ option_or (option_or found None) (first (filter_map schema_text_at others))
    by_last (Some own) e = refl
    by_last None e =
        let later : last_in others ≡ Some told = sym (or_none (last_in others)) ∙ (ap (option_or (last_in others)) (sym e) ∙ (sym (last_both versions others) ∙ is)) in
        by_first (filter_map schema_text_at others) later

-- and it is found among those, whatever follows
first_enough : (versions others behind : List Version) (told : SchemaText) → last_in (versions ++ others) ≡ Some told
    → option_or (option_or (last_in versions) None) (first (filter_map schema_text_at others)) ≡ option_or (option_or (last_in versions) None) (first (filter_map schema_text_at (others ++ behind)))
first_enough versions others behind told is = by_last (last_in versions) refl
  where
    by_first : (tell : List SchemaText) → filter_map schema_text_at others ≡ tell → last tell ≡ Some told → first (filter_map schema_text_at others) ≡ first (filter_map schema_text_at (others ++ behind))
    by_first [] e none = absurd cc
    by_first (own ∷ tell) e some = ap first e ∙ sym (ap first (filter_map-append schema_text_at others behind ∙ ap (λ (tell : List SchemaText). tell ++ filter_map schema_text_at behind) e))

    by_last : (found : Option SchemaText) → last_in versions ≡ found → option_or (option_or found None) (first (filter_map schema_text_at others)) ≡ option_or (option_or found None) (first (filter_map schema_text_at (others ++ behind)))
    by_last (Some own) e = refl
    by_last None e =
        let later : last_in others ≡ Some told = sym (or_none (last_in others)) ∙ (ap (option_or (last_in others)) (sym e) ∙ (sym (last_both versions others) ∙ is)) in
        by_first (filter_map schema_text_at others) refl later

module _ (r : Restored) (commits : List (List Action)) (behind : List Version) (long : length commits ≡ suc r.version) (same : (key : Key) → at key (r.actions ∷ []) ≡ at key commits) where
  abbrev versions : List Version
  versions = map commit commits ++ behind

  as_many : length (map commit commits) ≡ suc r.version
  as_many = length-map commits commit ∙ long

  -- what the checkpoint tells is the newest that the commits tell
  own_told : (told : SchemaText) → schema_text_at (commit r.actions) ≡ Some told → last_in (map commit commits) ≡ Some told
  own_told told is =
      let one : schema_text_of (meta_data_of_log commits) ≡ schema_text_at (commit r.actions) = ap schema_text_of (sym (same_values (r.actions ∷ []) commits same).metadata ∙ meta_data_in_one r.actions) in
      newest_told commits told (one ∙ is)

  -- behind a checkpoint of the version or an earlier one
  pub force_later : (version n : ℕ) (told : SchemaText) → schema_text_at (commit r.actions) ≡ Some told → r.version ≤ version → n ≤ suc r.version → in_force_from (Some told) version (from_version n versions) ≡ in_force version versions
  force_later version n told is le short =
      let own = own_told told is in
      let many = as_many in
      let more = version - r.version in
      let reaches : suc version ≡ length (map commit commits) + more = omega (arith, le, many) in
      let rest = take more behind in
      let front : take (suc version) versions ≡ map commit commits ++ rest = ap (λ (m : ℕ). take m versions) reaches ∙ take_past (map commit commits) behind more in
      let all : last_in (take (suc version) versions) ≡ option_or (last_in rest) (Some told) =
      ap last_in front ∙ (last_both (map commit commits) rest ∙ ap (option_or (last_in rest)) own) in
      let left : take (suc version) (from_version n versions) ≡ from_version n (map commit commits) ++ rest =
      take_alike n (suc version) versions ∙ (ap (from_version n) front ∙ both_alike n (map commit commits) rest (omega (arith, short, many))) in
      let part : option_or (last_in (from_version n (map commit commits))) (Some told) ≡ Some told =
      ap (option_or (last_in (from_version n (map commit commits)))) (sym own) ∙ (last_alike n (map commit commits) ∙ own) in
      let seen : option_or (last_in (take (suc version) (from_version n versions))) (Some told) ≡ option_or (last_in rest) (Some told) =
      ap (λ (found : List Version). option_or (last_in found) (Some told)) left
      ∙ (ap (λ (o : Option SchemaText). option_or o (Some told)) (last_both (from_version n (map commit commits)) rest)
      ∙ (or_regroup (last_in rest) (last_in (from_version n (map commit commits))) (Some told) ∙ ap (option_or (last_in rest)) part)) in
      let whole : option_or (last_in (take (suc version) versions)) None ≡ option_or (last_in rest) (Some told) = or_none (last_in (take (suc version) versions)) ∙ all in
      ap (λ (o : Option SchemaText). option_or o (first (filter_map schema_text_at (drop (suc version) (from_version n versions))))) seen
      ∙ (some_first (last_in rest) told _ _ ∙ sym (ap (λ (o : Option SchemaText). option_or o (first (filter_map schema_text_at (drop (suc version) versions)))) whole))

  -- in front of one of a later version
  pub force_earlier : (version : ℕ) (told : SchemaText) → schema_text_at (commit r.actions) ≡ Some told → version < r.version → option_or (in_force version (take (suc r.version) versions)) (Some told) ≡ in_force version versions
  force_earlier version told is lt =
      let many = as_many in
      let up : take (suc r.version) versions ≡ map commit commits = ap (λ (m : ℕ). take m versions) (sym many) ∙ take_front (map commit commits) behind in
      let here = take (suc version) (map commit commits) in
      let later = drop (suc version) (map commit commits) in
      let short : suc version ≤ length (map commit commits) = omega (arith, many, lt) in
      let front : take (suc version) versions ≡ here = take_within (suc version) (map commit commits) behind short in
      let others : drop (suc version) versions ≡ later ++ behind = drop_within (suc version) (map commit commits) behind short in
      let tells : last_in (here ++ later) ≡ Some told = ap last_in (take-append-drop (suc version) (map commit commits)) ∙ own_told told is in
      ap (λ (found : List Version). option_or (in_force version found) (Some told)) up
      ∙ (some_told here later told told tells
      ∙ (first_enough here later behind told tells
      ∙ sym (ap (λ (found : List Version). option_or (option_or (last_in found) None) (first (filter_map schema_text_at (drop (suc version) versions)))) front
      ∙ ap (λ (found : List Version). option_or (option_or (last_in here) None) (first (filter_map schema_text_at found))) others)))

  -- The table is read alike, where no version behind the checkpoint is left out.
  pub front_alike : (n : ℕ) → n ≤ suc r.version → readable (front_behind (Some r) (from_version n versions)) ≡ readable (front versions)
  front_alike n short =
      let left : drop (suc r.version) (from_version n versions) ≡ behind =
      drop_alike n (suc r.version) versions short ∙ (ap (λ (m : ℕ). drop m versions) (sym long) ∙ drop_front commits behind) in
      ap (λ (rest : List Version). readable (r.actions ∷ front rest)) left
      ∙ ((same_values (r.actions ∷ front behind) (commits ++ front behind) (same_behind (r.actions ∷ []) commits (front behind) same)).read ∙ sym (ap readable (front_both commits behind)))
