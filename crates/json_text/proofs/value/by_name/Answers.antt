use Rattle.std.proofs.Common.{◌≡◌, ◌+◌, ◌++◌, ◌∷◌, [], take, sym, ap, ◌∙◌}
use Rattle.std.proofs.lemmas.List.{take_more}
use Rattle.json_text.specs.View.{view, named_view, members_view}
use Rattle.serde_json.specs.Data.{put}
use Rattle.json_text.proofs.Views.{members_view-push, named_view-insert_entry}
use Rattle.json_text.proofs.value.by_name.Goals as goal

pub members-preserved : goal.members-preserved
members-preserved c =
    let ms = c.args.members.now in
    let i = c.members.member-index in
    let m = c.member-item.result in
    let longer : take (i + 1) ms ≡ take i ms ++ m ∷ [] = take_more ms i m c.members-test.true ∙ ap (λ x. take i ms ++ x ∷ []) (sym c.member-item.is) in
    ap named_view c.in_ok-insert.ensures.entries ∙ named_view-insert_entry c.members.named.entries _ _ ∙ ap (put m.0.now (view m.1)) c.members.invariant ∙ sym (members_view-push (take i ms) m.0 m.1) ∙ ap members_view (sym longer)
