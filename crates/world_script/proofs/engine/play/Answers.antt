use Rattle.std.proofs.Common.{rules}
use Rattle.lake_script.proofs.EndedLemmas.{ends_text}
use Rattle.world_script.proofs.Answering.{run_in_part, run_plays}
use Rattle.world_script.proofs.Happened.{finishes_so, part_so}
use Rattle.world_script.proofs.TextTold.{finishes_told}
use Rattle.world_script.specs.Scenes.{first_scene}
use Rattle.world_script.proofs.engine.play.Goals as goal

pub returns-clause-played : goal.returns-clause-played
returns-clause-played g c = λ reliable.
    let lines = c.answer_lines-ended in
    let start = first_scene (g.S.Store.objects c.args.store) c.args.use_checkpoints in
    let answers = lines.ensures.answers (search rules) start c.new-scene.ensures.stands in
    let told = run_plays g.S.Store.objects lines.new.interpreter start c.args.text.now _ _ lines.new.is_short lines.result answers.answered in
    let part = run_in_part g.S.Store.objects lines.new.interpreter start c.args.text.now _ _ lines.new.is_short lines.result answers.answered answers.front in
    record {
      tells_short = rw (c.of.ensures.end, c.of.ensures.short) told;
      in_part = part;
      worlds = λ nothing here. rw c.of.ensures.end (finishes_so _ _ _ c.args.use_checkpoints c.args.text.now _ _ _ c.every_world.ensures.sound c.every_world.ensures.headline here nothing told);
      sound = λ nothing here. part_so c.args.use_checkpoints c.args.text.now _ _ c.every_world.ensures.sound c.every_world.ensures.headline here nothing part;
    }

pub returns-clause-headline : goal.returns-clause-headline
returns-clause-headline g c = λ reliable nothing here.
    let lines = c.answer_lines-ended in
    let start = first_scene (g.S.Store.objects c.args.store) c.args.use_checkpoints in
    let answers = lines.ensures.answers (search rules) start c.new-scene.ensures.stands in
    let told = run_plays g.S.Store.objects lines.new.interpreter start c.args.text.now _ _ lines.new.is_short lines.result answers.answered in
    rw c.of.ensures.end (finishes_told _ _ _ c.args.use_checkpoints c.args.text.now _ _ _ c.every_world.ensures.sound c.every_world.ensures.headline here nothing told)

pub returns-clause-ends : goal.returns-clause-ends
returns-clause-ends g c = ends_text g.W.Write.contents c.args.text.now c.answer_lines-ended.result c.answer_lines-ended.new.is_short c.of.result c.args.output.now c.answer_lines-ended.new.output c.of.ensures.end c.of.ensures.short c.answer_lines-ended.ensures.leaves
