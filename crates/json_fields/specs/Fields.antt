-- How a field is read from an object: needed, optional, or with a default. A refusal is the name of the field.
use Rattle.std.specs.Prelude.{ℕ, List, Option, Result, Ok, Err, unwrap_or}
use Rattle.serde_json.specs.Data.{Data, null, boolean, number, string, array, object}
use Rattle.outcomes.specs.Results.{◌>>=◌, or_refusal}
use Rattle.json_fields.specs.Kinds.{field, of_kind}

-- the fields of the value under a key, which is an object
abbrev pub fields_of : List ℕ → Data → Result Data (List ℕ)
fields_of key null = Err key
fields_of key (boolean b) = Err key
fields_of key (number n) = Err key
fields_of key (string s) = Err key
fields_of key (array ds) = Err key
fields_of key (object ms) = Ok (object ms)

-- a field that may be missing
unfoldable pub optional : {A : Type 0} → (Data → Option A) → List ℕ → Data → Result (Option A) (List ℕ)
optional kind name body = or_refusal (of_kind kind (field name body)) name

-- a field that has to be there
unfoldable pub needed : {A : Type 0} → (Data → Option A) → List ℕ → Data → Result A (List ℕ)
needed kind name body = optional kind name body >>= λ found. or_refusal found name

-- a field that stands for `other` where it is missing
unfoldable pub defaulted : {A : Type 0} → (Data → Option A) → List ℕ → A → Data → Result A (List ℕ)
defaulted kind name other body = optional kind name body >>= λ found. Ok (unwrap_or found other)
