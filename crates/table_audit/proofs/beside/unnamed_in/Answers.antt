use Rattle.std.proofs.Common.{◌≡◌, ◌&&◌, ◌++◌, ◌∷◌, [], true, false, ℕ, Bool, List, String, Vec, Global, is_some, not, map, string_bytes, sym, ap, ◌∙◌}
use Rattle.std.proofs.lemmas.List.{map_push}
use Rattle.std.specs.BTreeSet.{contains_text}
use Rattle.table_check.specs.Named.{version_named}
use Rattle.table_audit.proofs.BesideParts.{dropped_more, kept_more}
use Rattle.table_audit.proofs.beside.unnamed_in.Goals as goal
use Rattle.table_audit.proofs.beside.unnamed_in.Goals.{then-branch+in_ok-clone+in_ok-push, else-branch}

pub loop-name-preserved : goal.loop-name-preserved
loop-name-preserved c =
    let p : List ℕ → Bool = λ name. not (is_some (version_named name)) && not (contains_text c.args.files.now name) in
    let names = c.args.names.now in
    let i = c.loop-name.name-index in
    let x = c.name-item.result in
    let text : c.deref.result.now ≡ string_bytes x = c.deref.ensures in
    let told : c.in_ok-is_unnamed.field-0 ≡ p (string_bytes x) = c.in_ok-is_unnamed.ensures ∙ ap p text in
    elim c.if-branch.branch [
      | then-branch+in_ok-clone+in_ok-push w ↦
          let passes : p (string_bytes x) ≡ true = sym told ∙ w.if-branch.true in
          let copied : string_bytes w.in_ok-clone.field-0 ≡ string_bytes x = w.in_ok-clone.ensures.cases in
          ap (λ (v : Vec (String Global) Global). map string_bytes v.items) w.unnamed-is ∙ (ap (λ (ns : List (String Global)). map string_bytes ns) w.in_ok-push.ensures.items
          ∙ (map_push string_bytes _ _ ∙ (ap (λ (name : List ℕ). map string_bytes c.loop-name.unnamed.items ++ name ∷ []) copied
          ∙ (ap (λ (front : List (List ℕ)). front ++ string_bytes x ∷ []) c.loop-name.invariant ∙ sym (kept_more p string_bytes names i x c.loop-name-test.true c.name-item.is passes)))))
      | else-branch w ↦
          let fails : p (string_bytes x) ≡ false = sym told ∙ w.if-branch.false in
          ap (λ (v : Vec (String Global) Global). map string_bytes v.items) w.unnamed-is ∙ (c.loop-name.invariant ∙ sym (dropped_more p string_bytes names i x c.loop-name-test.true c.name-item.is fails))
    ]
