use Rattle.std.proofs.Common.{◌+◌, drop, ap, sym, ◌∙◌, arith}
use Rattle.std.proofs.lemmas.List.{drop_more, drop_all}
use Rattle.clap.specs.Words.{App, app_of}
use Rattle.lake_words.specs.Arguments.{with_subcommands}
use Rattle.lake_words.proofs.parser.with_subcommands.Goals as goal

pub loop-said-preserved : goal.loop-said-preserved
loop-said-preserved c =
    let l = c.loop-said in
    let all = c.args.subcommands.now in
    let i = l.said-index in
    record {
      app = ap (λ (a : App). with_subcommands a (drop (i + 1) all)) (c.in_ok-more.ensures.app _ c.subcommand.ensures.app)
          ∙ ap (with_subcommands (app_of l.more)) (sym (drop_more all i _ (omega arith))) ∙ l.invariant.app;
      local = c.in_ok-more.ensures.local;
    }

pub returns : goal.returns
returns c =
    let l = c.loop-said in
    ap (with_subcommands (app_of l.more)) (sym (drop_all l.said-index c.args.subcommands.now c.loop-said-test.false)) ∙ l.invariant.app

-- no subcommand has global arguments
pub with_subcommand-requires-clause-sub : goal.with_subcommand-requires-clause-sub
with_subcommand-requires-clause-sub c = c.subcommand.ensures.local

pub with_subcommand-requires-clause-above : goal.with_subcommand-requires-clause-above
with_subcommand-requires-clause-above c = c.loop-said.invariant.local
