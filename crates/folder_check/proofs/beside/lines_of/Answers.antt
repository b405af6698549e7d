use Rattle.std.proofs.Common.{◌++◌, ◌∷◌, [], List, ℕ, String, Global, filter, map, string_bytes, take, append_assoc, sym, ap, ◌∙◌}
use Rattle.std.specs.Prelude.{codes}
use Rattle.std.proofs.lemmas.List.{map_more, map_push, take_all}
use Rattle.folder_check.specs.Beside.{is_data_file, is_stray, line_of}
use Rattle.folder_check.proofs.beside.lines_of.Goals as goal

pub loop-name-preserved : goal.loop-name-preserved
loop-name-preserved c =
    let left = c.args.left.now in
    let i = c.loop-name.name-index in
    let x = c.name-item.result in
    let line = line_of (codes "leftover") in
    let seen = ap (map line) (map_more string_bytes left i x c.loop-name-test.true) ∙ map_push line _ _ in
    c.in_ok-push_line.ensures
    ∙ (ap (λ (front : List (List ℕ)). front ++ line c.deref.result.now ∷ []) c.loop-name.invariant
    ∙ (ap (λ (name : List ℕ). map line (map string_bytes (take i left)) ++ line name ∷ []) (c.deref.ensures ∙ ap string_bytes c.name-item.is) ∙ sym seen))

pub returns : goal.returns
returns c =
    let left = c.args.left.now in
    let names = map string_bytes c.args.names.now in
    let line = line_of (codes "leftover") in
    let strays = map (line_of (codes "stray")) (filter is_stray names) in
    let known = map (line_of (codes "unnamed")) (filter is_data_file names) in
    c.in_ok-push_data.ensures
    ∙ (ap (λ (front : List (List ℕ)). front ++ known) c.in_ok-push_strays.ensures
    ∙ (ap (λ (front : List (List ℕ)). (front ++ strays) ++ known) (c.loop-name.invariant ∙ ap (λ (names : List (String Global)). map line (map string_bytes names)) (take_all c.loop-name.name-index left c.loop-name-test.false))
    ∙ append_assoc (map line (map string_bytes left)) strays known))
