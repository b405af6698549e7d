use Rattle.std.proofs.Common.{◌≡◌, ◌++◌, drop, length, pos}
use Rattle.thrift_core.specs.Form.{form_view, field_form_views, number_of}
use Rattle.thrift_values.specs.Tree.{trees_of, entries_of, fields_of}
use Rattle.thrift_values.specs.View.{views, entry_views, field_views}
use Rattle.thrift_core.specs.Writing.{list_header_bytes, map_header_bytes, written_members, written_entries, written_fields}
use Rattle.thrift_core.proofs.writing.+write.Given as goal

-- what is written, and what is left to write, is what is to be written
abbrev pub invariant-write_members-loop-member : goal.invariant-write_members-loop-member
invariant-write_members-loop-member g l =
    l.out.items ++ written_members (form_view l.form) (trees_of (views (drop l.member-index l.members)))
    ≡ l.fn.out.items ++ (list_header_bytes (number_of (form_view l.form)) (length l.members) ++ written_members (form_view l.form) (trees_of (views l.members)))

abbrev pub invariant-write_entries-loop-entry : goal.invariant-write_entries-loop-entry
invariant-write_entries-loop-entry g l =
    l.out.items ++ written_entries (form_view l.key) (form_view l.value) (entries_of (entry_views (drop l.entry-index l.entries)))
    ≡ l.fn.out.items ++ (map_header_bytes (number_of (form_view l.key)) (number_of (form_view l.value)) (length l.entries) ++ written_entries (form_view l.key) (form_view l.value) (entries_of (entry_views l.entries)))

abbrev pub invariant-write_fields-loop-field : goal.invariant-write_fields-loop-field
invariant-write_fields-loop-field g l =
    l.out.items ++ written_fields (field_form_views l.forms) l.last (fields_of (field_views (drop l.field-index l.fields)))
    ≡ l.fn.out.items ++ written_fields (field_form_views l.forms) (pos 0) (fields_of (field_views l.fields))
