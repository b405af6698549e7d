use Rattle.std.proofs.Common.{◌≡◌, ◌+◌, ◌||◌, Bool, drop, ap, ap₂, sym, ◌∙◌, arith}
use Rattle.std.proofs.lemmas.List.{drop_more, drop_all}
use Rattle.clap.specs.Simple.{app_of_fields}
use Rattle.clap.specs.Words.{App, app_of, new_app, with_rule}
use Rattle.lake_words.specs.Arguments.{with_arguments}
use Rattle.lake_words.proofs.parser.subcommand.Goals as goal

pub loop-one-preserved : goal.loop-one-preserved
loop-one-preserved c =
    let l = c.loop-one in
    let arguments = c.args.said.now.arguments.now in
    let i = l.one-index in
    let added = c.in_ok-command.ensures in
    record {
      app = ap (λ (a : App). with_arguments a (drop (i + 1) arguments)) (added.shape c.argument.ensures.local ∙ ap (with_rule (app_of l.command)) c.argument.ensures.rule)
          ∙ ap (with_arguments (app_of l.command)) (sym (drop_more arguments i _ (omega arith))) ∙ l.invariant.app;
      local = added.globals ∙ ap₂ (λ (a b : Bool). a || b) l.invariant.local c.argument.ensures.local;
    }

pub returns-clause-app : goal.returns-clause-app
returns-clause-app c =
    let l = c.loop-one in
    let arguments = c.args.said.now.arguments.now in
    let about_is : app_of c.about.result ≡ new_app c.args.said.now.name.now = ap app_of_fields c.about.ensures ∙ c.new.ensures.app in
    let help_is : app_of c.after_help-command.result ≡ new_app c.args.said.now.name.now = ap app_of_fields c.after_help-command.ensures ∙ about_is in
    ap (with_arguments (app_of l.command)) (sym (drop_all l.one-index arguments c.loop-one-test.false))
    ∙ l.invariant.app ∙ ap (λ (a : App). with_arguments a arguments) help_is
