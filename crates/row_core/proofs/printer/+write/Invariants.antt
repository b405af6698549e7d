use Rattle.std.proofs.Common.{◌≡◌, ◌++◌}
use Rattle.json.specs.Tree.{members_tokens}
use Rattle.row_core.specs.Printer.{layout_views, members_data}
use Rattle.row_core.specs.Rows.{values_of}
use Rattle.row_core.specs.Views.{row_views}
use Rattle.serde_json.specs.Written.{members_outline}
use Rattle.row_core.proofs.printer.+write.Given as goal

-- the tokens so far, and those of the members that are left
abbrev pub invariant-write_members-loop-name : goal.invariant-write_members-loop-name
invariant-write_members-loop-name l =
    (l.out.before ≡ l.initial.out.before)
    × (l.out.tokens ++ members_tokens (members_outline (members_data (layout_views l.name-iterator) (values_of (row_views l.values))))
    ≡ l.initial.out.tokens ++ members_tokens (members_outline (members_data (layout_views l.members.entries) (values_of (row_views l.values)))))
