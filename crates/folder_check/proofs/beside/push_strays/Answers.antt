use Rattle.std.proofs.Common.{◌≡◌, ◌++◌, ◌∷◌, [], not, List, ℕ, Vec, String, Global, map, string_bytes, sym, ap, ◌∙◌}
use Rattle.std.specs.Prelude.{codes}
use Rattle.folder_check.specs.Beside.{is_data_file, is_stray, line_of}
use Rattle.folder_check.proofs.LineParts.{line_more, line_none}
use Rattle.folder_check.proofs.beside.push_strays.Goals as goal
use Rattle.folder_check.proofs.beside.push_strays.Goals.{then-not-is_data+in_ok-push_line, else-not-is_data}

pub loop-name-preserved : goal.loop-name-preserved
loop-name-preserved c =
    let names = c.args.names.now in
    let i = c.loop-name.name-index in
    let x = c.name-item.result in
    let told : c.is_data.result ≡ is_data_file (string_bytes x) = c.is_data.ensures ∙ ap is_data_file c.deref.ensures in
    let more = line_more (codes "stray") is_stray names i x c.loop-name-test.true c.name-item.is (map string_bytes c.args.lines.now.items) (map string_bytes c.loop-name.lines.items) c.loop-name.invariant in
    let none = line_none (codes "stray") is_stray names i x c.loop-name-test.true c.name-item.is (map string_bytes c.args.lines.now.items) (map string_bytes c.loop-name.lines.items) c.loop-name.invariant in
    elim c.if-not-is_data.branch [
      | then-not-is_data+in_ok-push_line w ↦
          let pushed : map string_bytes w.push_line.new.lines.items ≡ map string_bytes c.loop-name.lines.items ++ line_of (codes "stray") (string_bytes x) ∷ [] =
          w.in_ok-push_line.ensures ∙ ap (λ (name : List ℕ). map string_bytes c.loop-name.lines.items ++ line_of (codes "stray") name ∷ []) w.deref-then-not-is_data.ensures in
          ap (λ (v : Vec (String Global) Global). map string_bytes v.items) w.lines-is ∙ more _ (ap not (sym told ∙ w.if-not-is_data.true)) pushed
      | else-not-is_data w ↦ none _ (ap not (sym told ∙ w.if-not-is_data.false)) (ap (λ (v : Vec (String Global) Global). map string_bytes v.items) w.lines-is)
    ]
