use Rattle.std.proofs.Common.{◌≡◌, ◌∙◌, Global, String, Vec, ap, filter, map, string_bytes, sym}
use Rattle.store_core.specs.Objects.{Objects, names_of}
use Rattle.front_reads.specs.Fronts.{is_kept, visible}
use Rattle.front_reads.proofs.FrontNames.{names_front}
use Rattle.folder_session.specs.Visible.{visible_names}
use Rattle.folder_session.proofs.VisibleObjects.{ok_also}
use Rattle.folder_session.proofs.asking.visible_of.Goals as goal

pub returns-in-Some-clause-kept : goal.returns-in-Some-clause-kept
returns-in-Some-clause-kept c =
    let front = c.in-Some.front in
    ok_also (λ (kept : Vec (String Global) Global). map string_bytes kept.items ≡ filter (is_kept front) (map string_bytes c.deref.result.now))
    (λ (kept : Vec (String Global) Global). map string_bytes kept.items ≡ visible_names c.args.front (map string_bytes c.args.names.items))
    (λ kept is. rw c.in-Some.is (is ∙ ap (λ names. filter (is_kept front) (map string_bytes names)) c.deref.ensures.value))
    c.visible_names.result
    c.visible_names.ensures

pub returns-in-Some-clause-shown : goal.returns-in-Some-clause-shown
returns-in-Some-clause-shown c =
    let front = c.in-Some.front in
    ok_also (λ (kept : Vec (String Global) Global). map string_bytes kept.items ≡ filter (is_kept front) (map string_bytes c.deref.result.now))
    (λ (kept : Vec (String Global) Global). (objects : Objects) → map string_bytes c.args.names.items ≡ names_of objects → map string_bytes kept.items ≡ names_of (visible c.args.front objects))
    (λ kept is objects listed. rw c.in-Some.is (is ∙ ap (filter (is_kept front)) (ap (map string_bytes) c.deref.ensures.value ∙ listed) ∙ sym (names_front front objects)))
    c.visible_names.result
    c.visible_names.ensures
