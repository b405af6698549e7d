use Rattle.std.proofs.Common.{◌≡◌, ap, ◌∙◌, true, codes}
use Rattle.std.proofs.lemmas.Result.{IfOk-weaker}
use Rattle.clap.specs.Simple.{app_of_fields}
use Rattle.clap.specs.Words.{App, app_of, new_app}
use Rattle.lake_words.specs.Arguments.{with_subcommands}
use Rattle.lake_words.specs.Words as words
use Rattle.lake_words.proofs.parser.parser.Goals as goal

pub returns : goal.returns
returns c =
    let about_is : app_of c.about.result ≡ new_app (codes "lake") = ap app_of_fields c.about.ensures ∙ c.new.ensures.app in
    let help_is : app_of c.after_help.result ≡ new_app (codes "lake") = ap app_of_fields c.after_help.ensures ∙ about_is in
    let version_is = ap app_of_fields c.version.ensures ∙ ap (λ (a : App). record a { top = record a.top { has_version = true } }) help_is in
    let top_is : app_of c.subcommand_required-top.result ≡ words.top = ap app_of_fields c.subcommand_required-top.ensures ∙ ap (λ (a : App). record a { top = record a.top { subcommand_required = true } }) version_is in
    IfOk-weaker c.with_subcommands.result _ _ (λ parser h. h ∙ ap (λ (a : App). with_subcommands a c.subcommands.result.now) top_is ∙ c.subcommands.ensures) c.with_subcommands.ensures
