use Rattle.std.proofs.Common.{◌≡◌, true, false, is_some, sym, ◌∙◌, refl}
use Rattle.store_core.specs.Objects.{object_at}
use Rattle.store_core.specs.ObjectLaws.{with_object_stands}
use Rattle.store_core.specs.Memory.{objects_of}
use Rattle.store_core.proofs.Trees.{kept_inserted, stands_in_tree, landed_in_tree}
use Rattle.store_core.proofs.Answers.{put_told_stands, put_told_absent, none_from_is_some}
use Rattle.store_core.proofs.memory.put_in.Goals as goal

pub returns-then-contains_key-clause-told : goal.returns-then-contains_key-clause-told
returns-then-contains_key-clause-told c =
    let stands : is_some (object_at (objects_of c.args.objects.now) c.args.name.now) ≡ true = stands_in_tree c.args.objects.now c.args.name.now ∙ sym c.contains_key.ensures ∙ c.if-contains_key.true in
    sym (put_told_stands _ stands)

pub returns-then-contains_key-clause-landed : goal.returns-then-contains_key-clause-landed
returns-then-contains_key-clause-landed c =
    let stands : is_some (object_at (objects_of c.args.objects.now) c.args.name.now) ≡ true = stands_in_tree c.args.objects.now c.args.name.now ∙ sym c.contains_key.ensures ∙ c.if-contains_key.true in
    (sym (with_object_stands _ _ _ stands), refl)

pub returns-clause-told : goal.returns-clause-told
returns-clause-told c =
    let absent : is_some (object_at (objects_of c.args.objects.now) c.args.name.now) ≡ false = stands_in_tree c.args.objects.now c.args.name.now ∙ sym c.contains_key.ensures ∙ c.if-contains_key.false in
    sym (put_told_absent _ absent)

pub returns-clause-created : goal.returns-clause-created
returns-clause-created c =
    let absent : is_some (object_at (objects_of c.args.objects.now) c.args.name.now) ≡ false = stands_in_tree c.args.objects.now c.args.name.now ∙ sym c.contains_key.ensures ∙ c.if-contains_key.false in
    λ _. none_from_is_some _ absent

pub returns-clause-landed : goal.returns-clause-landed
returns-clause-landed c =
    let absent : is_some (object_at (objects_of c.args.objects.now) c.args.name.now) ≡ false = stands_in_tree c.args.objects.now c.args.name.now ∙ sym c.contains_key.ensures ∙ c.if-contains_key.false in
    (landed_in_tree c.args.objects.now c.insert.new.self c.in_ok-from_str.field-0 c.args.name.now c.args.bytes c.in_ok-from_str.ensures.ok absent c.in_ok-insert.ensures.entries, refl)

pub returns-clause-kept : goal.returns-clause-kept
returns-clause-kept c =
    kept_inserted c.args.objects.now c.insert.new.self c.in_ok-from_str.field-0 c.args.name.now c.args.bytes c.keep_name.new.kept c.in_ok-from_str.ensures.ok c.in_ok-insert.ensures.entries (c.keep_name.ensures _ c.requires.names)
