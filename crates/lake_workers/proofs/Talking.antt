-- Talks that were had by calls of a seat: what has all that was seen behind them bears them, and what the seat has seen only grows.
use Rattle.std.proofs.Common.{ℕ, [], ◌∷◌, ◌++◌, length, Some, IsSome, refl, sym, subst, append_assoc, append-nil}
use Rattle.store_core.specs.Names.{commit_name}
use Rattle.store_core.specs.Objects.{Objects}
use Rattle.store_core.specs.declared.store.Put.TheVariants.{Exists}
use Rattle.session_core.specs.Talks.{Asked, Bears, IsBorne, Talk, Told, get_object, list_names, put_commit, put_file, told_memory, told_object, told_put}
use Rattle.log_hub.specs.Seats.{HasSeen, MayStand, log_seen}
use Rattle.log_hub.specs.Sights.{Seen}
use Rattle.lake_workers.specs.Driving.{ReadsOn, TalksThrough, calls, finds, lacks, no_read, nothing, one_read, read_before}
use Rattle.lake_workers.proofs.Standing.{Grows, extends_borne, extends_grows, grows_itself, grows_on}

-- ---- what only grows

pub reads_grow : (version : ℕ) (old new : Seen) → ReadsOn version old new → Grows old new
reads_grow version old _ no_read = grows_itself old
reads_grow version old _ (one_read mid new commit reads low small e) =
    grows_on old mid new (reads_grow version old mid reads) (extends_grows mid (get_object (commit_name (length (log_seen mid)))) (told_object (Some commit)) new e)

pub talk_grows : (old new : Seen) (talk : Talk) → TalksThrough old talk new → Grows old new
talk_grows old _ _ nothing = grows_itself old
talk_grows old _ _ (calls talk mid here new asked told through reads reach e) =
    grows_on old here new (grows_on old mid here (talk_grows old mid talk through) (reads_grow (read_before asked) mid here reads)) (extends_grows here asked told new e)
talk_grows old _ _ (finds talk mid here new version bytes commit through reads within e) =
    grows_on old here new (grows_on old mid here (talk_grows old mid talk through) (reads_grow version mid here reads)) (extends_grows here (get_object (commit_name version)) (told_object (Some commit)) new e)
talk_grows old _ _ (lacks talk mid new asked through reads) = grows_on old mid new (talk_grows old mid talk through) (reads_grow (read_before asked) mid new reads)

-- what may stand behind it might stand before
pub stood_by : (old new : Seen) (objects : Objects) → Grows old new → MayStand objects new → MayStand objects old
stood_by old new objects grows may = record { sound = may.sound; bytes = may.bytes; has = grows.has objects may.has }

-- ---- what is borne

pub borne_more : (objects : Objects) (talk : Talk) (asked : Asked) (told : Told) → Bears objects talk → IsBorne objects asked told → Bears objects (talk ++ (asked, told) ∷ [])
borne_more objects [] asked told all one = (one, tt)
borne_more objects (call ∷ talk) asked told all one = (all.0, borne_more objects talk asked told all.1 one)

pub bears_both : (objects : Objects) (talk more : Talk) → Bears objects talk → Bears objects more → Bears objects (talk ++ more)
bears_both objects [] more all behind = behind
bears_both objects (call ∷ talk) more all behind = (all.0, bears_both objects talk more all.1 behind)

pub bears_parts : (objects : Objects) (talk more : Talk) → Bears objects (talk ++ more) → Bears objects talk × Bears objects more
bears_parts objects [] more all = (tt, all)
bears_parts objects (call ∷ talk) more all = let rest = bears_parts objects talk more all.1 in ((all.0, rest.0), rest.1)

short_is_borne : (objects : Objects) (asked : Asked) → IsBorne objects asked told_memory
short_is_borne objects list_names = tt
short_is_borne objects (get_object name) = tt
short_is_borne objects (put_file name bytes) = tt
short_is_borne objects (put_commit version bytes) = tt

pub talk_borne : (old new : Seen) (talk : Talk) (objects : Objects) → TalksThrough old talk new → HasSeen objects new → Bears objects talk
talk_borne old _ _ objects nothing has = tt
talk_borne old _ _ objects (calls talk mid here new asked told through reads reach e) has =
    let before = (reads_grow (read_before asked) mid here reads).has objects ((extends_grows here asked told new e).has objects has) in
    borne_more objects talk asked told (talk_borne old mid talk objects through before) (extends_borne here asked told new e objects has)
talk_borne old _ _ objects (finds talk mid here new version bytes commit through reads within e) has =
    let before = (reads_grow version mid here reads).has objects ((extends_grows here (get_object (commit_name version)) (told_object (Some commit)) new e).has objects has) in
    borne_more objects talk (put_commit version bytes) (told_put Exists) (talk_borne old mid talk objects through before)
    (subst IsSome (sym (extends_borne here (get_object (commit_name version)) (told_object (Some commit)) new e objects has)) refl)
talk_borne old _ _ objects (lacks talk mid new asked through reads) has =
    borne_more objects talk asked told_memory (talk_borne old mid talk objects through ((reads_grow (read_before asked) mid new reads).has objects has)) (short_is_borne objects asked)

-- ---- one behind another

pub reads_both : (version : ℕ) (one two three : Seen) → ReadsOn version one two → ReadsOn version two three → ReadsOn version one three
reads_both version one two _ first no_read = first
reads_both version one two _ first (one_read mid new commit reads low small e) = one_read mid new commit (reads_both version one two mid first reads) low small e

pub through_both : (one two three : Seen) (talk behind : Talk) → TalksThrough one talk two → TalksThrough two behind three → TalksThrough one (talk ++ behind) three
through_both one two _ talk _ first nothing = subst (λ (t : Talk). TalksThrough one t two) (sym (append-nil talk)) first
through_both one two _ talk _ first (calls behind mid here new asked told later reads reach e) =
    subst (λ (t : Talk). TalksThrough one t new) (append_assoc talk behind ((asked, told) ∷ [])) (calls (talk ++ behind) mid here new asked told (through_both one two mid talk behind first later) reads reach e)
through_both one two _ talk _ first (finds behind mid here new version bytes commit later reads within e) =
    subst (λ (t : Talk). TalksThrough one t new) (append_assoc talk behind ((put_commit version bytes, told_put Exists) ∷ []))
    (finds (talk ++ behind) mid here new version bytes commit (through_both one two mid talk behind first later) reads within e)
through_both one two _ talk _ first (lacks behind mid new asked later reads) =
    subst (λ (t : Talk). TalksThrough one t new) (append_assoc talk behind ((asked, told_memory) ∷ [])) (lacks (talk ++ behind) mid new asked (through_both one two mid talk behind first later) reads)
