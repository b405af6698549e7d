-- The lists of trees: what is read from one is spelled by it, and what it spells is read.
use Rattle.std.proofs.Common.{◌≡◌, ℕ, zero, suc, ◌<◌, ◌≤◌, ◌==◌, max, List, [], ◌∷◌, ◌++◌, Bool, true, false, Option, Some, None, option_map, cond, ℤ, pos, refl, sym, ap, ◌∙◌, subst, append_assoc, arith}
use Rattle.std.specs.Ordering.{int_eq}
use Rattle.std.proofs.Math.Dec.{eqb-suc-zero}
use Rattle.std.proofs.lemmas.Bool.{eqb-true}
use Rattle.std.proofs.lemmas.Bool.Decides.{Decides-int_eq}
use Rattle.std.proofs.lemmas.List.{append-nil}
use Rattle.outcomes.specs.Options.{◌>>=◌}
use Rattle.parquet_footer.specs.Metadata.{SchemaElement}
use Rattle.parquet_schema.specs.FileTree.{AreElements, AreInside, FileField, FileFields, FileNode, IsElementOf, IsSchemaList, count_of, depth, depth_of_fields, field, fields_of, group, leaf, no_fields, repetition}
use Rattle.parquet_schema.specs.Reading.{all_read, field_at, fields_at, file_fields, node_at, optional_of}
use Rattle.parquet_schema.proofs.LeafLevels.{some_is, mapped_is}
use Rattle.parquet_schema.proofs.ReadFields.{read_more, read_none}

-- ---- the flag

flag_is : (x y : Bool) (z : ℤ) (b : Bool) → int_eq z (pos 0) ≡ x → int_eq z (pos 1) ≡ y → cond x (Some false) (cond y (Some true) None) ≡ Some b → Some z ≡ Some (repetition b)
flag_is true y z true zero_is one_is e = absurd cc
flag_is true y z false zero_is one_is e = ap (λ (n : ℤ). Some n) ((Decides-int_eq z (pos 0)).0 zero_is)
flag_is false true z true zero_is one_is e = ap (λ (n : ℤ). Some n) ((Decides-int_eq z (pos 1)).0 one_is)
flag_is false true z false zero_is one_is e = absurd cc
flag_is false false z b zero_is one_is e = absurd cc

flag_found : (o : Option ℤ) (b : Bool) → optional_of o ≡ Some b → o ≡ Some (repetition b)
flag_found None b e = absurd cc
flag_found (Some z) b e = flag_is (int_eq z (pos 0)) (int_eq z (pos 1)) z b refl refl e

flag_read : (b : Bool) → optional_of (Some (repetition b)) ≡ Some b
flag_read true = refl
flag_read false = refl

-- ---- what is read is spelled

-- so many fields stand in front
record Front (count : ℕ) (fs : List FileField) (es left : List SchemaElement) : Type 0 where
  pub front : List SchemaElement
  pub split : es ≡ front ++ left
  pub counted : count ≡ count_of (fields_of fs)
  pub elements : AreElements (fields_of fs) front

-- a node of this element, whose children stand in front
record NodeFront (e : SchemaElement) (node : FileNode) (es left : List SchemaElement) : Type 0 where
  pub front : List SchemaElement
  pub split : es ≡ front ++ left
  pub of_node : (name : List ℕ) (optional : Bool) → e.name ≡ name → e.repetition_type ≡ Some (repetition optional) → IsElementOf name optional node e
  pub inside : AreInside node front

abbrev Finds : (ℕ → List SchemaElement → Option (List FileField × List SchemaElement)) → Type 0
Finds inside = (count : ℕ) (es left : List SchemaElement) (fs : List FileField) → inside count es ≡ Some (fs, left) → Front count fs es left

leaf_found : (e : SchemaElement) (es : List SchemaElement) (physical_type : ℤ) → e.num_children ≡ 0 → e.physical_type ≡ Some physical_type → NodeFront e (leaf physical_type) es es
leaf_found e es physical_type none is = record { front = []; split = refl; of_node = λ name optional named flag. (named, flag, none, is); inside = refl }

above_zero : (n : ℕ) → (n == 0) ≡ false → 0 < n
above_zero zero e = absurd cc
above_zero (suc n) e = omega arith

group_found : (e : SchemaElement) (es left : List SchemaElement) (fs : List FileField) → (e.num_children == 0) ≡ false → Front e.num_children fs es left → NodeFront e (group (fields_of fs)) es left
group_found e es left fs some found =
    let positive : 0 < count_of (fields_of fs) = subst (λ n. 0 < n) found.counted (above_zero e.num_children some) in
    record { front = found.front; split = found.split; of_node = λ name optional named flag. (named, flag, found.counted, positive); inside = found.elements }

abbrev leaf_at : List SchemaElement → ℤ → FileNode × List SchemaElement
leaf_at es physical_type = (leaf physical_type, es)

abbrev group_at : List FileField × List SchemaElement → FileNode × List SchemaElement
group_at fs = (group (fields_of fs.0), fs.1)

node_by : (inside : ℕ → List SchemaElement → Option (List FileField × List SchemaElement)) → Finds inside → (b : Bool) (e : SchemaElement) (es left : List SchemaElement) (node : FileNode) → (e.num_children == 0) ≡ b
    → cond b (option_map (leaf_at es) e.physical_type) (option_map group_at (inside e.num_children es)) ≡ Some (node, left) → NodeFront e node es left
node_by inside finds true e es left node none read =
    let m = mapped_is (leaf_at es) e.physical_type (node, left) read in
    subst (λ (r : FileNode × List SchemaElement). NodeFront e r.0 es r.1) m.2 (leaf_found e es m.0 (eqb-true e.num_children 0 none) m.1)
node_by inside finds false e es left node some read =
    let m = mapped_is group_at (inside e.num_children es) (node, left) read in
    subst (λ (r : FileNode × List SchemaElement). NodeFront e r.0 es r.1) m.2 (group_found e es m.0.1 m.0.0 some (finds e.num_children es m.0.1 m.0.0 m.1))

one_found : (inside : ℕ → List SchemaElement → Option (List FileField × List SchemaElement)) → Finds inside → (count : ℕ) (es left : List SchemaElement) (f : FileField) (fs : List FileField) (es_then : List SchemaElement) → field_at inside es ≡ Some (f, es_then) → Front count fs es_then left → Front (suc count) (f ∷ fs) es left
one_found inside finds count [] left f fs es_then read rest = absurd cc
one_found inside finds count (e ∷ es) left f fs es_then read rest =
    let flag = some_is (optional_of e.repetition_type) _ (f, es_then) read in
    let m = mapped_is (λ (node : FileNode × List SchemaElement). (record { name = e.name; optional = flag.0; node = node.0 }, node.1)) (node_at inside e es) (f, es_then) flag.2 in
    let first = node_by inside finds (e.num_children == 0) e es m.0.1 m.0.0 refl m.1 in
    let of_first = first.of_node e.name flag.0 refl (flag_found e.repetition_type flag.0 flag.1) in
    let left_is : m.0.1 ≡ es_then = ap (λ (r : FileField × List SchemaElement). r.1) m.2 in
    let split : e ∷ es ≡ (e ∷ (first.front ++ rest.front)) ++ left = ap (λ xs. e ∷ xs) (first.split ∙ (ap (λ xs. first.front ++ xs) (left_is ∙ rest.split) ∙ sym (append_assoc first.front rest.front left))) in
    let g : FileField = record { name = e.name; optional = flag.0; node = m.0.0 } in
    let all : Front (suc count) (g ∷ fs) (e ∷ es) left = record { front = e ∷ (first.front ++ rest.front); split = split; counted = ap (λ n. suc n) rest.counted; elements = (e, first.front, rest.front, refl, of_first, first.inside, rest.elements) } in
    subst (λ (r : FileField × List SchemaElement). Front (suc count) (r.0 ∷ fs) (e ∷ es) left) m.2 all

some_same : (x y : List FileField × List SchemaElement) → Some x ≡ Some y → x ≡ y
some_same x y e = cc

fields_by : (deep : ℕ) → Finds (fields_at deep) → Finds (fields_at (suc deep))
fields_by deep finds zero es left fs read =
    let is = some_same ([], es) (fs, left) (sym (read_none deep es) ∙ read) in
    let none : [] ≡ fs = ap (λ (r : List FileField × List SchemaElement). r.0) is in
    let same : es ≡ left = ap (λ (r : List FileField × List SchemaElement). r.1) is in
    subst (λ xs. Front 0 xs es left) none (record { front = []; split = same; counted = refl; elements = refl })
fields_by deep finds (suc count) es left fs read =
    let first = some_is (field_at (fields_at deep) es) _ (fs, left) (sym (read_more deep count es) ∙ read) in
    let others = some_is (fields_at (suc deep) count first.0.1) _ (fs, left) first.2 in
    let is = some_same (first.0.0 ∷ others.0.0, others.0.1) (fs, left) others.2 in
    let more : first.0.0 ∷ others.0.0 ≡ fs = ap (λ (r : List FileField × List SchemaElement). r.0) is in
    let same : others.0.1 ≡ left = ap (λ (r : List FileField × List SchemaElement). r.1) is in
    let rest = fields_by deep finds count first.0.1 left others.0.0 (others.1 ∙ ap (λ (x : List SchemaElement). Some (others.0.0, x)) same) in
    subst (λ xs. Front (suc count) xs es left) more (one_found (fields_at deep) finds count es left first.0.0 others.0.0 first.0.1 first.1 rest)

no_depth : Finds (fields_at 0)
unfolding fields_at
no_depth count es left fs read = absurd cc

fields_found : (deep : ℕ) → Finds (fields_at deep)
fields_found zero = no_depth
fields_found (suc deep) = fields_by deep (fields_found deep)

all_is : (r : List FileField × List SchemaElement) (fs : List FileField) → all_read r ≡ Some fs → (r.0 ≡ fs) × (r.1 ≡ [])
all_is (gs, []) fs e = (cc, refl)
all_is (gs, (x ∷ xs)) fs e = absurd cc

pub list_found : (es : List SchemaElement) (fs : List FileField) → file_fields es ≡ Some fs → IsSchemaList (fields_of fs) es
list_found [] fs e = absurd cc
list_found (root ∷ es) fs e =
    let read = some_is (fields_at 16 root.num_children es) all_read fs e in
    let all = all_is read.0 fs read.2 in
    let found = fields_found 16 root.num_children es read.0.1 read.0.0 read.1 in
    let elements : AreElements (fields_of fs) found.front = subst (λ gs. AreElements (fields_of gs) found.front) all.0 found.elements in
    let others : found.front ≡ es = sym (found.split ∙ (ap (λ xs. found.front ++ xs) all.1 ∙ append-nil found.front)) in
    record { root = root; others = es; begins = refl; counted = found.counted ∙ ap (λ gs. count_of (fields_of gs)) all.0; elements = subst (λ xs. AreElements (fields_of fs) xs) others elements }

-- ---- what is spelled is read

-- the fields of a group as a plain list
list_of : FileFields → List FileField
list_of no_fields = []
list_of (field name optional node fs) = record { name = name; optional = optional; node = node } ∷ list_of fs

fields_listed : (fs : FileFields) → fields_of (list_of fs) ≡ fs
unfolding list_of
fields_listed no_fields = refl
fields_listed (field name optional node fs) = ap (field name optional node) (fields_listed fs)

listed_fields : (fs : List FileField) → list_of (fields_of fs) ≡ fs
unfolding list_of
listed_fields [] = refl
listed_fields (f ∷ fs) = ap (λ gs. f ∷ gs) (listed_fields fs)

abbrev NodeAgain : FileNode → Type 0
NodeAgain node = (deep : ℕ) (e : SchemaElement) (name : List ℕ) (optional : Bool) (inside rest : List SchemaElement) → IsElementOf name optional node e → AreInside node inside → depth node ≤ deep → node_at (fields_at deep) e (inside ++ rest) ≡ Some (node, rest)

abbrev FieldsAgain : FileFields → Type 0
FieldsAgain fs = (deep : ℕ) (es rest : List SchemaElement) → AreElements fs es → depth_of_fields fs ≤ deep → fields_at (suc deep) (count_of fs) (es ++ rest) ≡ Some (list_of fs, rest)

leaf_again : (number : ℤ) → NodeAgain (leaf number)
leaf_again number deep e name optional inside rest is none within = rw (is.2, is.3, none) refl

not_zero : (n : ℕ) → 0 < n → (n == 0) ≡ false
not_zero zero h = absurd (omega arith)
not_zero (suc n) h = eqb-suc-zero n

group_again : (fs : FileFields) → FieldsAgain fs → NodeAgain (group fs)
group_again fs again zero e name optional inside rest is elements within = absurd (omega arith)
group_again fs again (suc deep) e name optional inside rest is elements within =
    let read : fields_at (suc deep) e.num_children (inside ++ rest) ≡ Some (list_of fs, rest) = ap (λ n. fields_at (suc deep) n (inside ++ rest)) is.2 ∙ again deep inside rest elements (omega arith) in
    let some : (e.num_children == 0) ≡ false = ap (λ n. n == 0) is.2 ∙ not_zero (count_of fs) is.3 in
    rw (some, read) (ap (λ (gs : FileFields). Some (group gs, rest)) (fields_listed fs))

-- the name and the flag of an element
named_as : (name : List ℕ) (optional : Bool) (node : FileNode) (e : SchemaElement) → IsElementOf name optional node e → (e.name ≡ name) × (e.repetition_type ≡ Some (repetition optional))
named_as name optional (leaf number) e is = (is.0, is.1)
named_as name optional (group fs) e is = (is.0, is.1)

none_again : FieldsAgain no_fields
unfolding list_of
none_again deep es rest none within = rw none (read_none deep rest)

field_again : (name : List ℕ) (optional : Bool) (node : FileNode) (fs : FileFields) → NodeAgain node → FieldsAgain fs → FieldsAgain (field name optional node fs)
unfolding list_of
field_again name optional node fs one others deep es rest spelled within =
    let e = spelled.0 in
    let inside = spelled.1 in
    let more = spelled.2 in
    let is = spelled.4 in
    let parts = named_as name optional node e is in
    let split : es ++ rest ≡ e ∷ (inside ++ (more ++ rest)) = ap (λ xs. xs ++ rest) spelled.3 ∙ ap (λ xs. e ∷ xs) (append_assoc inside more rest) in
    let first = one deep e name optional inside (more ++ rest) is spelled.5 (omega arith) in
    let left = others deep more rest spelled.6 (omega arith) in
    ap (fields_at (suc deep) (suc (count_of fs))) split ∙ (read_more deep (count_of fs) (e ∷ (inside ++ (more ++ rest))) ∙ rw (parts.1, parts.0, flag_read optional, first, left) refl)

mutual
  node_again : (node : FileNode) → NodeAgain node
  node_again (leaf number) = leaf_again number
  node_again (group fs) = group_again fs (fields_again fs)

  fields_again : (fs : FileFields) → FieldsAgain fs
  fields_again no_fields = none_again
  fields_again (field name optional node fs) = field_again name optional node fs (node_again node) (fields_again fs)

-- the fields of a list that is one of a tree
schema_read : (deep : ℕ) (es : List SchemaElement) (fs : FileFields) (root : SchemaElement) (others : List SchemaElement) → IsSchemaList fs es → es ≡ root ∷ others → depth_of_fields fs ≤ deep → fields_at (suc deep) root.num_children others ≡ Some (list_of fs, [])
schema_read deep es fs root others list is within =
    let same : list.root ∷ list.others ≡ root ∷ others = sym list.begins ∙ is in
    let first : list.root ≡ root = cc in
    let rest : list.others ≡ others = cc in
    let count : root.num_children ≡ count_of fs = ap (λ (e : SchemaElement). e.num_children) (sym first) ∙ list.counted in
    let all : others ≡ list.others ++ [] = sym rest ∙ sym (append-nil list.others) in
    ap (λ n. fields_at (suc deep) n others) count ∙ (ap (fields_at (suc deep) (count_of fs)) all ∙ fields_again fs deep list.others [] list.elements within)

pub list_read : (es : List SchemaElement) (fs : List FileField) → IsSchemaList (fields_of fs) es → depth_of_fields (fields_of fs) ≤ 15 → file_fields es ≡ Some fs
list_read es fs list within =
    let read = schema_read 15 es (fields_of fs) list.root list.others list list.begins within in
    ap file_fields list.begins ∙ (ap (λ r. r >>= all_read) read ∙ ap (λ (gs : List FileField). Some gs) (listed_fields fs))

pub one_tree : (es : List SchemaElement) (fs gs : FileFields) → IsSchemaList fs es → IsSchemaList gs es → fs ≡ gs
one_tree es fs gs one two =
    let deep = max (depth_of_fields fs) (depth_of_fields gs) in
    let first = schema_read deep es fs one.root one.others one one.begins (omega arith) in
    let second = schema_read deep es gs one.root one.others two one.begins (omega arith) in
    let same : (list_of fs, []) ≡ (list_of gs, []) = some_same (list_of fs, []) (list_of gs, []) (sym first ∙ second) in
    sym (fields_listed fs) ∙ (ap (λ (r : List FileField × List SchemaElement). fields_of r.0) same ∙ fields_listed gs)
