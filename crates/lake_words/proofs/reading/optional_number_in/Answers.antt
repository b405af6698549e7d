use Rattle.std.proofs.Common.{ap, ◌∙◌}
use Rattle.std.specs.Prelude.{option_and_then}
use Rattle.clap.specs.Words.{found_of, one_text}
use Rattle.clap.proofs.WalkLemmas.{one_text-rows}
use Rattle.lake_words.specs.Asked.{argument_number}
use Rattle.lake_words.proofs.MatchLemmas.{number_given}
use Rattle.lake_words.proofs.reading.optional_number_in.Goals as goal

pub returns : goal.returns
returns c =
    number_given (one_text (found_of c.args.matches.now) c.args.id.now) c.get_one.result c.get_one.ensures.none c.get_one.ensures.value
    ∙ ap (option_and_then argument_number) (one_text-rows (found_of c.args.matches.now) c.args.id.now)
