use Rattle.std.proofs.Common.{◌≡◌, take}
use Rattle.json_text.specs.View.{named_view, members_view}
use Rattle.json_text.proofs.value.by_name.Given as goal

abbrev pub invariant-members : goal.invariant-members
invariant-members l = named_view l.named.entries ≡ members_view (take l.member-index l.fn.members)
