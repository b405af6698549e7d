-- What a talk shows of a store that is at rest meanwhile.
use Rattle.std.specs.Prelude.{◌≡◌, [], ◌∷◌, IsSome}
use Rattle.store_core.specs.Objects.{Objects, names_of, object_at}
use Rattle.session_core.specs.Talks.{Asked, list_names, get_object, Told, told_names, told_object, Talk, IsBorne}

-- Just so a store with these objects answers while nothing in it changes: with the names that stand, and with what stands
-- under a name, be it nothing. Of a put it is said what is borne.
abbrev pub IsExact : Objects → Asked → Told → Type 0
IsExact objects list_names (told_names names) = names ≡ names_of objects
IsExact objects (get_object name) (told_object found) = found ≡ object_at objects name
IsExact objects asked told = IsBorne objects asked told

-- A talk shows these objects: it was told just what a store answers in which they stand and which is at rest. A store that only
-- grows, and in which no gap is filled meanwhile, is shown as it was when its names were listed.
abbrev pub Shows : Talk → Objects → Type 0
Shows [] objects = Unit {0}
Shows (call ∷ talk) objects = IsExact objects call.0 call.1 × Shows talk objects

-- a get of a name that stands
abbrev pub IsGetOf : Asked → Objects → Type 0
IsGetOf (get_object name) objects = IsSome (object_at objects name)
IsGetOf asked objects = ⊥

-- Each get of a talk is of a name that stands among these objects, and nothing else is asked for.
abbrev pub AllStand : Talk → Objects → Type 0
AllStand [] objects = Unit {0}
AllStand (call ∷ talk) objects = IsGetOf call.0 objects × AllStand talk objects

-- a get of an object
abbrev pub IsGet : Asked → Type 0
IsGet (get_object name) = Unit {0}
IsGet asked = ⊥

-- so is each call of a talk
abbrev pub AllGets : Talk → Type 0
AllGets [] = Unit {0}
AllGets (call ∷ talk) = IsGet call.0 × AllGets talk

-- a call that changes nothing: it lists the names, or gets an object
abbrev pub IsRead : Asked → Type 0
IsRead list_names = Unit {0}
IsRead (get_object name) = Unit {0}
IsRead asked = ⊥

-- so does each call of a talk
abbrev pub AllReads : Talk → Type 0
AllReads [] = Unit {0}
AllReads (call ∷ talk) = IsRead call.0 × AllReads talk
