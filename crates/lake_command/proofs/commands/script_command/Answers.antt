use Rattle.std.proofs.Common.{rules, ◌≢◌, ◌∙◌}
use Rattle.lake_command.specs.Status.{status_of}
use Rattle.lake_command.proofs.ScriptLemmas.{bad_line_told, plain_of, played_of, read_by, refused_because, written_of}
use Rattle.lake_command.proofs.commands.script_command.Goals as goal

pub returns : goal.returns
returns g c = record {
  script = λ fine.
      let ran = c.run-ran.ensures in
      let ends : status_of c.run-ran.result.outcome.end ≢ 1 = λ refused. fine (c.ended.ensures.status ∙ refused) in
      let read = read_by c.run-ran.result.outcome.end ends in
      rw c.is_short.ensures (written_of c.args.use_checkpoints c.run-ran.result.outcome _ _ _ ends _ _ _ ran.input.too_long (plain_of g.W.Write.contents _ _ _ _ _ _ _ _ _ (ran.runs read)) (played_of g.W.Write.contents _ _ _ _ _ _ _ _ _ (ran.runs read)) ran.headline (search rules) (search rules));
  status = λ fine.
      bad_line_told g.E.Write.contents c.run-ran.result.outcome.end _ _ c.args.err.now c.ended.new.err (λ refused. fine (c.ended.ensures.status ∙ refused)) c.ended.ensures.status c.run-ran.ensures.input.bad c.ended.ensures.told;
  refused = λ is. refused_because c.run-ran.result.outcome.end _ _ _ _ _ _ c.ended.ensures.status is c.is_short.ensures c.run-ran.ensures.input.not_read c.run-ran.ensures.ends.not_written;
}
