-- How a field is read from a struct: which values are of each kind, and which fault a missing one is.
use Rattle.std.specs.Prelude.{ℕ, ℤ, pos, negsuc, List, [], ◌∷◌, Option, Some, None, option_map, option_and_then, Result, Ok, Err}
use Rattle.outcomes.specs.Outcome as outcomes
use Rattle.outcomes.specs.Results.{◌>>=◌}
use Rattle.lake_bytes.specs.declared.fault.ByteFault.TheVariants.{OutOfRange}
use Rattle.thrift_values.specs.Tree.{Tree, boolean, integer, binary, list, map, struct, skipped, Trees, no_trees, tree, value_of_field}
use Rattle.thrift_values.specs.declared.fault.ThriftFault.{ThriftFault}
use Rattle.thrift_values.specs.declared.fault.ThriftFault.TheVariants.{Bytes, MissingField}
use Rattle.thrift_values.specs.declared.fault.ReadError.{ReadError}
use Rattle.thrift_values.specs.Said.{says}

-- a whole number of any width
abbrev pub as_integer : Tree → Option ℤ
as_integer (boolean b) = None
as_integer (integer z) = Some z
as_integer (binary text) = None
as_integer (list ts) = None
as_integer (map es) = None
as_integer (struct fs) = None
as_integer skipped = None

-- a binary
abbrev pub as_text : Tree → Option (List ℕ)
as_text (boolean b) = None
as_text (integer z) = None
as_text (binary text) = Some text
as_text (list ts) = None
as_text (map es) = None
as_text (struct fs) = None
as_text skipped = None

-- a struct
abbrev pub as_struct : Tree → Option Tree
as_struct (boolean b) = None
as_struct (integer z) = None
as_struct (binary text) = None
as_struct (list ts) = None
as_struct (map es) = None
as_struct (struct fs) = Some (struct fs)
as_struct skipped = None

-- members that are all of one kind
abbrev pub all_as : {A : Type 0} → (Tree → Option A) → Trees → Option (List A)
all_as kind no_trees = Some []
all_as kind (tree t ts) = option_and_then (λ x. option_map (λ xs. x ∷ xs) (all_as kind ts)) (kind t)

-- a list whose members are all of one kind
abbrev pub as_list : {A : Type 0} → (Tree → Option A) → Tree → Option (List A)
as_list kind (boolean b) = None
as_list kind (integer z) = None
as_list kind (binary text) = None
as_list kind (list ts) = all_as kind ts
as_list kind (map es) = None
as_list kind (struct fs) = None
as_list kind skipped = None

-- a field that may be missing; one of another kind counts as missing
abbrev pub optional : {A : Type 0} → (Tree → Option A) → ℤ → Tree → Option A
optional kind id t = option_and_then kind (value_of_field id t)

-- what was found, or the fault that the field is missing
abbrev pub or_missing : {A : Type 0} → ℤ → Option A → Result A ThriftFault
or_missing id None = Err (MissingField id)
or_missing id (Some x) = Ok x

-- a field that has to be there
abbrev pub needed : {A : Type 0} → (Tree → Option A) → ℤ → Tree → Result A ThriftFault
needed kind id t = or_missing id (optional kind id t)

-- a number that can't be negative
abbrev pub natural : ℤ → Result ℕ ThriftFault
natural (pos n) = Ok n
natural (negsuc n) = Err (Bytes OutOfRange)

-- a count, which has to be there
abbrev pub count : ℤ → Tree → Result ℕ ThriftFault
count id t = needed as_integer id t >>= natural

-- each member, in order
abbrev pub each : {A B E : Type 0} → (A → Result B E) → List A → Result (List B) E
each read [] = Ok []
each read (x ∷ xs) = read x >>= λ y. each read xs >>= λ ys. Ok (y ∷ ys)

-- What a function on a tree returned, seen by view, is what reading gives, unless memory ran out.
abbrev pub TreeGives : {X A : Type 0} → (X → A) → Result X ReadError → Result A ThriftFault → Type 0
TreeGives view answered read = outcomes.Gives says view answered read
