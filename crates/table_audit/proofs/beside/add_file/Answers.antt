use Rattle.std.proofs.Common.{◌||◌, bytes_eq, ℕ, List, string_bytes, ap, ◌∙◌}
use Rattle.std.specs.BTreeSet.{contains_text}
use Rattle.std.proofs.lemmas.Map.Text.{btree_set_updates_text}
use Rattle.table_audit.proofs.BesideParts.{cond_or}
use Rattle.table_audit.proofs.beside.add_file.Goals as goal

pub returns : goal.returns
returns c = λ file.
    let old = contains_text c.args.files.now file in
    let name = string_bytes c.in_ok-name.name in
    rw c.in-Add.is
    (btree_set_updates_text name c.args.files.now c.insert.new.self _ c.in_ok-insert.ensures.updates file
    ∙ (cond_or (bytes_eq name file) old ∙ ap (λ (key : List ℕ). old || bytes_eq key file) c.in_ok-name.ensures))
