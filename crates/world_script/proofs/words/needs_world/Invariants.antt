use Rattle.std.proofs.Common.{◌≡◌, option_map}
use Rattle.std.specs.List.{list_any}
use Rattle.lake_script.proofs.RunLemmas.{lines_at_most}
use Rattle.script_lines.specs.Splitting.{lines_left}
use Rattle.world_script.specs.Words.{is_of_actors, needs_world}
use Rattle.world_script.proofs.words.needs_world.Given as goal

abbrev pub invariant-loop-rest : goal.invariant-loop-rest
invariant-loop-rest l = record {
  same : list_any is_of_actors (lines_left (option_map (λ text. text.now) l.rest)) ≡ needs_world l.fn.text;
}

abbrev pub decreases-loop-rest : goal.decreases-loop-rest
decreases-loop-rest l = lines_at_most (option_map (λ text. text.now) l.rest)
