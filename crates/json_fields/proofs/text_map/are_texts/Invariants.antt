use Rattle.std.proofs.Common.{◌≡◌}
use Rattle.serde_json.specs.View.{members_view}
use Rattle.json_fields.specs.Kinds.{are_texts}
use Rattle.json_fields.proofs.text_map.are_texts.Given as goal

abbrev pub invariant-loop-member : goal.invariant-loop-member
invariant-loop-member l = are_texts (members_view l.member-iterator) ≡ are_texts (members_view l.members.entries)
