-- Reading a footer's list as a tree, which may nest so deep as a table's types do.
use Rattle.std.specs.Prelude.{ℕ, zero, suc, ◌==◌, ℤ, pos, List, [], ◌∷◌, Bool, true, false, option_map, Option, Some, None, if◌then◌else◌}
use Rattle.std.specs.Ordering.{int_eq}
use Rattle.outcomes.specs.Options.{◌>>=◌}
use Rattle.parquet_footer.specs.Metadata.{SchemaElement}
use Rattle.parquet_schema.specs.FileTree.{FileNode, leaf, group, FileField, fields_of}

-- whether a field of this repetition may be null; there are no repeated fields
abbrev pub optional_of : Option ℤ → Option Bool
optional_of None = None
optional_of (Some repetition) = if int_eq repetition (pos 0) then Some false else (if int_eq repetition (pos 1) then Some true else None)

-- A node with its field's element read, where `inside` reads so many fields: it, and the elements behind it.
abbrev pub node_at : (inside : ℕ → List SchemaElement → Option (List FileField × List SchemaElement)) → SchemaElement → List SchemaElement → Option (FileNode × List SchemaElement)
node_at inside e es =
    if e.num_children == 0
    then option_map (λ physical_type. (leaf physical_type, es)) e.physical_type
    else option_map (λ fs. (group (fields_of fs.0), fs.1)) (inside e.num_children es)

abbrev pub field_at : (inside : ℕ → List SchemaElement → Option (List FileField × List SchemaElement)) → List SchemaElement → Option (FileField × List SchemaElement)
field_at inside [] = None
field_at inside (e ∷ es) = optional_of e.repetition_type >>= λ optional. option_map (λ node. (record { name = e.name; optional = optional; node = node.0 }, node.1)) (node_at inside e es)

-- so many fields, where groups may nest so deep, and the elements behind them
unfoldable pub fields_at : (deep count : ℕ) → List SchemaElement → Option (List FileField × List SchemaElement)
fields_at zero count es = None
fields_at (suc deep) zero es = Some ([], es)
fields_at (suc deep) (suc count) es = do
  first ← field_at (fields_at deep) es
  others ← fields_at (suc deep) count first.1
  Some (first.0 ∷ others.0, others.1)

-- nothing may stand behind the fields
abbrev pub all_read : List FileField × List SchemaElement → Option (List FileField)
all_read (fs, []) = Some fs
all_read (fs, (e ∷ es)) = None

-- The fields of a file, if its list is one of a tree in which at most 16 levels of fields stand below one another.
abbrev pub file_fields : List SchemaElement → Option (List FileField)
file_fields [] = None
file_fields (root ∷ es) = fields_at 16 root.num_children es >>= all_read
