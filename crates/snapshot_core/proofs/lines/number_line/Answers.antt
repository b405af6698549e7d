use Rattle.std.proofs.Common.{◌≡◌, ◌∷◌, ◌++◌, ℕ, List, [], string_bytes, append_assoc, ◌∙◌, ap}
use Rattle.std.specs.Prelude.{codes}
use Rattle.std.specs.Fmt.{decimal}
use Rattle.std.proofs.lemmas.Result.{IfOk-weaker}
use Rattle.snapshot_core.specs.Telling.{id_text}
use Rattle.snapshot_core.proofs.lines.number_line.Goals as goal

-- the line with the id's text in its place
with_id : (told id text : List ℕ) (version : ℕ) → id ≡ told → text ≡ codes "app " ++ (id ++ (32 ∷ (decimal version ++ 10 ∷ []))) → text ≡ codes "app " ++ ((told ++ (32 ∷ decimal version)) ++ 10 ∷ [])
with_id told id text version is spelled = simp append_assoc (rw is at spelled)

pub returns : goal.returns
returns c =
    let id = id_text (string_bytes c.args.number.now.app_id) in
    IfOk-weaker c.format.result _ _ (λ text spelled. with_id id (string_bytes c.in_ok-id.id) (string_bytes text) c.args.number.now.version (c.in_ok-id.ensures ∙ ap id_text c.deref.ensures) spelled) c.format.ensures.ok
