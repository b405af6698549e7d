use Rattle.std.proofs.Common.{◌≡◌, drop}
use Rattle.thrift_core.specs.Form.{field_form_views, form_at}
use Rattle.thrift_core.proofs.writing.find_form.Given as goal

-- the fields behind have the type, or none has it
abbrev pub invariant-loop-field : goal.invariant-loop-field
invariant-loop-field l = form_at l.id (field_form_views (drop l.field-index l.forms)) ≡ form_at l.id (field_form_views l.forms)
