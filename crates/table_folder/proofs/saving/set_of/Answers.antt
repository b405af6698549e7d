use Rattle.std.proofs.Common.{◌≡◌, ℕ, List, true, cond, ◌∙◌, ap, sym, map, take}
use Rattle.std.specs.Prelude.{bytes_eq, string_bytes}
use Rattle.std.specs.BTreeSet.{contains_text}
use Rattle.std.specs.List.{list_any}
use Rattle.std.proofs.lemmas.Map.Text.{btree_set_updates_text}
use Rattle.table_folder.proofs.NameLemmas.{names_more, set_more}
use Rattle.table_folder.proofs.saving.set_of.Goals as goal

pub loop-name-preserved : goal.loop-name-preserved
loop-name-preserved c = λ name.
    let key : string_bytes c.in_ok-from_str.field-0 ≡ string_bytes c.name-item.result = c.in_ok-from_str.ensures.ok ∙ c.as_str.ensures.value in
    btree_set_updates_text (string_bytes c.in_ok-from_str.field-0) c.loop-name.set c.insert.new.self true c.in_ok-insert.ensures.updates name
    ∙ ap (λ (k : List ℕ). cond (bytes_eq k name) true (contains_text c.loop-name.set name)) key
    ∙ ap (λ b. cond (bytes_eq (string_bytes c.name-item.result) name) true b) (c.loop-name.invariant name)
    ∙ set_more (string_bytes c.name-item.result) name (map string_bytes (take c.loop-name.name-index c.args.names.now))
    ∙ ap (list_any (bytes_eq name)) (sym (names_more c.args.names.now c.loop-name.name-index c.name-item.result c.loop-name-test.true c.name-item.is))
