use Rattle.std.proofs.Common.{rules, string_bytes, ◌≡◌, List, ℕ, true, Result, Ok, sym, ap, ◌∙◌}
use Rattle.std.proofs.Common as code
use Rattle.std.proofs.Common.{Global}
use Rattle.std.specs.Str.{is_utf8}
use Rattle.std.proofs.lemmas.Str.{IsUtf8-from_is_utf8, is_utf8-from_IsUtf8}
use Rattle.row_core.specs.Rows.{Value, text}
use Rattle.row_core.specs.Views.{value_view}
use Rattle.row_core.specs.declared.value.Value.{the_lemmas}
use Rattle.row_core.specs.declared.value.Value.TheVariants as values
use Rattle.page_cells.specs.Texts.{is_proper}
use Rattle.lake_bytes.specs.declared.fault.ByteFault.{ByteFault}
use Rattle.page_cells.proofs.CodeValues.{text_value}
use Rattle.page_cells.proofs.plain.text.Goals as goal

abbrev one : Value → List ℕ → Result (Value × List ℕ) ByteFault
one v rest = Ok (v, rest)

view-Text : (t : code.String Global) → value_view (values.Text t) ≡ text (string_bytes t)
view-Text t = search (rules, the_lemmas)

pub returns-in_default : goal.returns-in_default
returns-in_default c =
    let there = text_value c.args.cursor.now c.content.new.cursor c.in-Ok.content.now c.in-Ok.ensures in
    rw c.into.ensures (λ v rest is proper.
    let same : ◌≡◌ {A = Result (Value × List ℕ) ByteFault} (Ok (text c.in-Ok.content.now, c.content.new.cursor))
    (Ok (v, rest)) = sym there ∙ is in
    let parts : ◌≡◌ {A = Value × List ℕ} (text c.in-Ok.content.now, c.content.new.cursor) (v, rest) = cc in
    let fine : is_utf8 c.in-Ok.content.now ≡ true = ap is_proper (ap (λ (p : Value × List ℕ). p.0) parts)
    ∙ proper in
    c.in_default.ensures.cases.0 (IsUtf8-from_is_utf8 c.in-Ok.content.now fine))

pub returns : goal.returns
returns c =
    let there = text_value c.args.cursor.now c.content.new.cursor c.in-Ok.content.now c.in-Ok.ensures in
    let fine = is_utf8-from_IsUtf8 c.in-Ok.content.now c.in-Ok-from_utf8.ensures.cases.1 in
    let same : string_bytes c.in_ok-from_str.field-0 ≡ c.in-Ok.content.now = search rules in
    let seen = view-Text c.in_ok-from_str.field-0 ∙ ap text same in
    (there ∙ ap (λ (v : Value). one v c.content.new.cursor) (sym seen), ap is_proper seen ∙ fine)
