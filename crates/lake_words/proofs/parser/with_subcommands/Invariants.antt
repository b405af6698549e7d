use Rattle.std.proofs.Common.{◌≡◌, drop, false}
use Rattle.clap.specs.Words.{app_of}
use Rattle.clap.specs.declared.builder.command.Command.TheViews.{out-Command as fields_of}
use Rattle.lake_words.specs.Arguments.{with_subcommands}
use Rattle.lake_words.proofs.parser.with_subcommands.Given as goal

abbrev pub invariant-loop-said : goal.invariant-loop-said
invariant-loop-said l = record {
  app : with_subcommands (app_of l.more) (drop l.said-index l.subcommands) ≡ with_subcommands (app_of l.initial.more) l.subcommands;
  local : (fields_of l.more).has_globals ≡ false;
}
