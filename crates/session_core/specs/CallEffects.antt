-- What a call that takes effect tells, and what it leaves, of a store that loses none.
use Rattle.store_core.specs.Calls.{put_told}
use Rattle.store_core.specs.Objects.{Objects, names_of, object_at, with_object}
use Rattle.store_core.specs.Names.{commit_name}
use Rattle.session_core.specs.Talks.{Asked, Told, get_object, list_names, put_commit, put_file, told_names, told_object, told_put}

-- what a call that takes effect tells
abbrev pub told_by_call : Objects → Asked → Told
told_by_call objects list_names = told_names (names_of objects)
told_by_call objects (get_object name) = told_object (object_at objects name)
told_by_call objects (put_file name bytes) = told_put (put_told (object_at objects name))
told_by_call objects (put_commit version bytes) = told_put (put_told (object_at objects (commit_name version)))

-- and what it leaves: a put makes an absent name stand
abbrev pub left_by_call : Objects → Asked → Objects
left_by_call objects (put_file name bytes) = with_object objects name bytes
left_by_call objects (put_commit version bytes) = with_object objects (commit_name version) bytes
left_by_call objects asked = objects
