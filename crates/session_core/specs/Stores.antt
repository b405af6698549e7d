-- What stores answer, and what a talk leaves of one.
use Rattle.std.specs.Prelude.{◌≡◌, ◌⊎◌, ℕ, List, [], ◌∷◌, Contains, None}
use Rattle.store_core.specs.Calls.{Flight, HasLanded, IsUntouched, MayHaveLanded, StandsAfter, put_told}
use Rattle.store_core.specs.Objects.{Objects, HasObjectsOf, names_of, object_at}
use Rattle.store_core.specs.declared.store.Put.TheVariants.{Created}
use Rattle.store_core.specs.Names.{commit_name}
use Rattle.session_core.specs.Talks.{Asked, list_names, get_object, put_file, put_commit, Told, told_names, told_object, told_put, told_lost, told_memory, Talk}

-- what of a store counts: its objects, and the puts that may take effect later
abbrev pub State : Type 0
State = Objects × Flight

-- what a put tells and leaves of a store of a single thread that loses no call
abbrev pub AnswersPut : State → (name bytes : List ℕ) → Told → State → Type 0
AnswersPut old name bytes (told_put put) new = (put ≡ put_told (object_at old.0 name)) × HasLanded name bytes old new
AnswersPut old name bytes told_memory new = IsUntouched old new
AnswersPut old name bytes told new = ⊥

-- Exactly what a store of a single thread that loses no call answers and leaves. Memory may run out, and nothing changes.
abbrev pub Answers : State → Asked → Told → State → Type 0
Answers old list_names (told_names names) new = (names ≡ names_of old.0) × IsUntouched old new
Answers old list_names told_memory new = IsUntouched old new
Answers old list_names told new = ⊥
Answers old (get_object name) (told_object found) new = (found ≡ object_at old.0 name) × IsUntouched old new
Answers old (get_object name) told_memory new = IsUntouched old new
Answers old (get_object name) told new = ⊥
Answers old (put_file name bytes) told new = AnswersPut old name bytes told new
Answers old (put_commit version bytes) told new = AnswersPut old (commit_name version) bytes told new

-- what a put tells and leaves of any store, one that loses or repeats calls too
abbrev pub MayAnswerPut : State → (name bytes : List ℕ) → Told → State → Type 0
MayAnswerPut old name bytes (told_put put) new =
    HasLanded name bytes old new × StandsAfter put bytes (object_at new.0 name) × (put ≡ Created → object_at old.0 name ≡ None)
MayAnswerPut old name bytes told_lost new = MayHaveLanded name bytes old new
MayAnswerPut old name bytes told_memory new = IsUntouched old new
MayAnswerPut old name bytes told new = ⊥

-- What any store may answer and leave, one that loses calls too: a list or a get changes nothing, a put that is lost has
-- landed, is in flight or never lands, and where memory ran out nothing changed.
abbrev pub MayAnswer : State → Asked → Told → State → Type 0
MayAnswer old list_names (told_names names) new = (names ≡ names_of old.0) × IsUntouched old new
MayAnswer old list_names told_lost new = IsUntouched old new
MayAnswer old list_names told_memory new = IsUntouched old new
MayAnswer old list_names told new = ⊥
MayAnswer old (get_object name) (told_object found) new = (found ≡ object_at old.0 name) × IsUntouched old new
MayAnswer old (get_object name) told_lost new = IsUntouched old new
MayAnswer old (get_object name) told_memory new = IsUntouched old new
MayAnswer old (get_object name) told new = ⊥
MayAnswer old (put_file name bytes) told new = MayAnswerPut old name bytes told new
MayAnswer old (put_commit version bytes) told new = MayAnswerPut old (commit_name version) bytes told new

-- The same of a store into which others may have put something, or sent it, before it answers: what stood stands, and what was
-- in flight still is.
abbrev pub MayAnswerAmid : State → Asked → Told → State → Type 0
MayAnswerAmid old asked told new =
    (now : State) × HasObjectsOf old.0 now.0 × ((put : List ℕ × List ℕ) → Contains old.1 put → Contains now.1 put) × MayAnswer now asked told new

-- The calls of a talk were answered in this way one after the other, each from what the one before it left.
abbrev pub Talked : {S : Type 0} → (S → Asked → Told → S → Type 0) → S → Talk → S → Type 0
Talked {S} answers old [] new = new ≡ old
Talked {S} answers old (call ∷ talk) new = (mid : S) × answers old call.0 call.1 mid × Talked answers mid talk new

-- What a session asks for is one call of the store. Where there was no memory for a commit's name it may be none.
abbrev pub MakesCall : {S : Type 0} → (makes : S → S → Type 0) → S → Asked → Told → S → Type 0
MakesCall makes old (put_commit version bytes) told_memory new = (new ≡ old) ⊎ makes old new
MakesCall makes old asked told new = makes old new
