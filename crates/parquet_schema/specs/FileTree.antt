-- The columns of a file as a tree, and the list that a footer has of it (Apache Parquet, "Metadata" and SchemaElement).
use Rattle.parquet_footer.specs.Metadata.{SchemaElement}
use Rattle.std.specs.Prelude.{◌≡◌, ℕ, suc, ◌<◌, max, ℤ, pos, List, [], ◌∷◌, ◌++◌, Bool, true, false, Option, Some}

-- a leaf with its physical type, or a group of fields, each with a name and whether it may be null
mutual
  pub data FileNode : Type 0 where
    leaf : (physical_type : ℤ) → FileNode
    group : FileFields → FileNode

  pub data FileFields : Type 0 where
    no_fields : FileFields
    field : (name : List ℕ) (optional : Bool) → FileNode → FileFields → FileFields

-- a field of a group
pub record FileField : Type 0 where
  pub name : List ℕ
  pub optional : Bool
  pub node : FileNode

-- a plain list as the fields of a group
abbrev pub fields_of : List FileField → FileFields
fields_of [] = no_fields
fields_of (f ∷ fs) = field f.name f.optional f.node (fields_of fs)

abbrev pub count_of : FileFields → ℕ
count_of no_fields = 0
count_of (field name optional node fs) = suc (count_of fs)

-- the number of a repetition: REQUIRED 0, OPTIONAL 1
abbrev pub repetition : (optional : Bool) → ℤ
repetition false = pos 0
repetition true = pos 1

-- The element is that of a field. A node without children is a leaf; what a group has as its physical type is left open.
abbrev pub IsElementOf : (name : List ℕ) (optional : Bool) → FileNode → SchemaElement → Type 0
IsElementOf name optional (leaf physical_type) e = (e.name ≡ name) × (e.repetition_type ≡ Some (repetition optional)) × (e.num_children ≡ 0) × (e.physical_type ≡ Some physical_type)
IsElementOf name optional (group fs) e = (e.name ≡ name) × (e.repetition_type ≡ Some (repetition optional)) × (e.num_children ≡ count_of fs) × (0 < count_of fs)

-- The list is that of these fields: each one's element, and behind it the elements inside it.
abbrev mutual
  pub AreInside : FileNode → List SchemaElement → Type 0
  AreInside (leaf physical_type) es = es ≡ []
  AreInside (group fs) es = AreElements fs es

  pub AreElements : FileFields → List SchemaElement → Type 0
  AreElements no_fields es = es ≡ []
  AreElements (field name optional node fs) es = (e : SchemaElement) × (inside others : List SchemaElement) × (es ≡ e ∷ (inside ++ others))
      × IsElementOf name optional node e × AreInside node inside × AreElements fs others

-- The list of a file: the root, which has a count of children, and the elements of its fields.
pub record IsSchemaList (fs : FileFields) (es : List SchemaElement) : Type 0 where
  pub root : SchemaElement
  pub others : List SchemaElement
  pub begins : es ≡ root ∷ others
  pub counted : root.num_children ≡ count_of fs
  pub elements : AreElements fs others

-- how many levels of groups stand below one another
abbrev mutual
  pub depth : FileNode → ℕ
  depth (leaf physical_type) = 0
  depth (group fs) = suc (depth_of_fields fs)

  pub depth_of_fields : FileFields → ℕ
  depth_of_fields no_fields = 0
  depth_of_fields (field name optional node fs) = max (depth node) (depth_of_fields fs)
