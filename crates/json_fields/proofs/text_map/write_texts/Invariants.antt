use Rattle.std.proofs.Common.{◌≡◌, ◌++◌, true}
use Rattle.json.specs.Tree.{members_tokens}
use Rattle.serde_json.specs.View.{members_view}
use Rattle.serde_json.specs.Written.{members_outline}
use Rattle.json_fields.specs.Kinds.{are_texts}
use Rattle.json_fields.proofs.text_map.write_texts.Given as goal

-- the tokens so far, and those of the members that are left
abbrev pub invariant-loop-name : goal.invariant-loop-name
invariant-loop-name l =
    (l.out.before ≡ l.initial.out.before) × (are_texts (members_view l.name-iterator) ≡ true)
    × (l.out.tokens ++ members_tokens (members_outline (members_view l.name-iterator)) ≡ l.initial.out.tokens ++ members_tokens (members_outline (members_view l.members.entries)))
