-- What histories leave, one behind the other.
use Rattle.std.proofs.Common.{◌≡◌, [], ◌∷◌, ◌++◌, refl}
use Rattle.store_core.specs.Names.{commit_name}
use Rattle.store_core.specs.ObjectLaws.{object_at-with_object_kept}
use Rattle.store_core.specs.Objects.{HasObjectsOf, Objects}
use Rattle.session_core.specs.Talks.{Asked, get_object, list_names, put_commit, put_file}
use Rattle.session_core.specs.CallEffects.{left_by_call}
use Rattle.log_book.specs.Histories.{AreToldSo, History, left_by_all}
use Rattle.log_book.specs.Making.{MightMakeAll}

-- ---- objects

-- what stood stands behind a call
pub call_grows : (objects : Objects) (asked : Asked) → HasObjectsOf objects (left_by_call objects asked)
call_grows objects list_names name bytes is = is
call_grows objects (get_object other) name bytes is = is
call_grows objects (put_file other put) name bytes is = object_at-with_object_kept objects other put name bytes is
call_grows objects (put_commit version put) name bytes is = object_at-with_object_kept objects (commit_name version) put name bytes is

-- and behind all calls of a history
pub all_grow : (objects : Objects) (history : History) → HasObjectsOf objects (left_by_all objects history)
all_grow objects [] name bytes is = is
all_grow objects (call ∷ history) name bytes is = all_grow (left_by_call objects call.asked) history name bytes (call_grows objects call.asked name bytes is)

pub left_by_all-append : (objects : Objects) (front rest : History) → left_by_all objects (front ++ rest) ≡ left_by_all (left_by_all objects front) rest
left_by_all-append objects [] rest = refl
left_by_all-append objects (call ∷ front) rest = left_by_all-append (left_by_call objects call.asked) front rest

-- ---- what was told

pub told-append : (objects : Objects) (front rest : History) → AreToldSo objects front → AreToldSo (left_by_all objects front) rest → AreToldSo objects (front ++ rest)
told-append objects [] rest first later = later
told-append objects (call ∷ front) rest first later = (first.0, told-append (left_by_call objects call.asked) front rest first.1 later)

pub told_front : (objects : Objects) (front rest : History) → AreToldSo objects (front ++ rest) → AreToldSo objects front × AreToldSo (left_by_all objects front) rest
told_front objects [] rest told = (tt, told)
told_front objects (call ∷ front) rest told = let later = told_front (left_by_call objects call.asked) front rest told.1 in ((told.0, later.0), later.1)

-- ---- what might be asked

pub might-append : (objects : Objects) (front rest : History) → MightMakeAll objects front → MightMakeAll (left_by_all objects front) rest → MightMakeAll objects (front ++ rest)
might-append objects [] rest first later = later
might-append objects (call ∷ front) rest first later = (first.0, first.1, might-append (left_by_call objects call.asked) front rest first.2 later)

pub might_front : (objects : Objects) (front rest : History) → MightMakeAll objects (front ++ rest) → MightMakeAll objects front
might_front objects [] rest might = tt
might_front objects (call ∷ front) rest might = (might.0, might.1, might_front (left_by_call objects call.asked) front rest might.2)
