use Rattle.std.proofs.Common.{◌≡◌, drop, negsuc}
use Rattle.thrift_core.specs.Form.{form_view, field_form_views}
use Rattle.thrift_values.specs.Tree.{trees_of, entries_of, fields_of}
use Rattle.thrift_values.specs.View.{views, entry_views, field_views}
use Rattle.thrift_core.specs.Writable.{are_writable, entries_are_writable, fields_are_writable}
use Rattle.thrift_core.proofs.writable.+writable.Given as goal

-- those so far can be written, so those left decide
abbrev pub invariant-are_members-loop-member : goal.invariant-are_members-loop-member
invariant-are_members-loop-member g l =
    are_writable (form_view l.form) (trees_of (views (drop l.member-index l.members))) ≡ are_writable (form_view l.form) (trees_of (views l.members))

abbrev pub invariant-are_entries-loop-entry : goal.invariant-are_entries-loop-entry
invariant-are_entries-loop-entry g l =
    entries_are_writable (form_view l.key) (form_view l.value) (entries_of (entry_views (drop l.entry-index l.entries)))
    ≡ entries_are_writable (form_view l.key) (form_view l.value) (entries_of (entry_views l.entries))

abbrev pub invariant-are_fields-loop-field : goal.invariant-are_fields-loop-field
invariant-are_fields-loop-field g l =
    fields_are_writable (field_form_views l.forms) l.last (fields_of (field_views (drop l.field-index l.fields)))
    ≡ fields_are_writable (field_form_views l.forms) (negsuc 32768) (fields_of (field_views l.fields))
