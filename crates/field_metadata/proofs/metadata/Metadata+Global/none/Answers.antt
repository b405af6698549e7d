use Rattle.std.proofs.Common.{◌≡◌, refl, ap, sym, subst, ◌∙◌, codes}
use Rattle.serde_json.specs.Data.{object, no_members}
use Rattle.serde_json.proofs.OnLiterals.{serde_json_on_literals}
use Rattle.field_metadata.specs.Metadata.{IsCompactObject, value_of}
use Rattle.field_metadata.proofs.metadata.Metadata+Global.none.Goals as goal

braces : value_of (codes "{}") ≡ object no_members
unfolding serde_json_on_literals
braces = refl

compact : IsCompactObject (codes "{}")
unfolding serde_json_on_literals
compact = record { object = refl; compact = λ e. refl }

pub invariant_of-result : goal.invariant_of-result
invariant_of-result c = record { is_object = subst IsCompactObject (sym c.in_ok-from_str.ensures.ok) compact }

pub returns : goal.returns
returns c = ap value_of c.in_ok-from_str.ensures.ok ∙ braces
