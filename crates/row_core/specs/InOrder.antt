-- The names of a struct's fields, and those of an object's members in the order of its text.
use Rattle.std.specs.Prelude.{ℕ, List, map}
use Rattle.std.specs.Borrow.{Bor}
use Rattle.json_text.specs.declared.value.Value.{Value}
use Rattle.schema_tree.specs.Tree.{Column}

abbrev pub field_names : List Column → List (List ℕ)
field_names cs = map (λ c. c.name) cs

abbrev pub member_names : List (Bor (List ℕ) × Value) → List (List ℕ)
member_names ms = map (λ m. m.0.now) ms
