use denote.Text.{Utf8}
use denote.Shadow.{shadow}
use Rattle.lake_inspect.proofs.tree.+show.Given as goal

abbrev pub invariant-tell_entries-loop-entry : goal.invariant-tell_entries-loop-entry
invariant-tell_entries-loop-entry g l = shadow (Utf8 l.gap)

abbrev pub invariant-tell_fields-loop-field : goal.invariant-tell_fields-loop-field
invariant-tell_fields-loop-field g l = shadow (Utf8 l.gap)

abbrev pub invariant-tell_members-loop-member : goal.invariant-tell_members-loop-member
invariant-tell_members-loop-member g l = shadow (Utf8 l.gap)
