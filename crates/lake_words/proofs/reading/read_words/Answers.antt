use Rattle.std.proofs.Common.{ap, sym, subst, ◌∙◌, map}
use Rattle.std.proofs.lemmas.Result.{err_from_is_err_and}
use Rattle.clap.specs.Words.{fault_of, is_simple, is_simple_and_free, subcommand_of, takes, HasKind}
use Rattle.lake_words.specs.Asked.{AsksFor}
use Rattle.lake_words.proofs.JobSpelling.{job_words_read}
use Rattle.lake_words.proofs.WordLemmas.{commands_simple, commands_free, spelled_takes, spelled_asks}
use Rattle.lake_words.proofs.reading.read_words.Goals as goal

pub returns-clause-found : goal.returns-clause-found
returns-clause-found g c =
    let is = c.in_ok-parser.ensures in
    let found = (c.in_ok-matches.ensures.matches (ap is_simple is ∙ commands_simple)).1 in
    let words = map g.S.AsStr.text c.args.words.now in
    subst (λ sub. AsksFor sub c.command_in.result) (found ∙ ap (λ a. subcommand_of a words) is) c.command_in.ensures

pub returns-clause-kinds : goal.returns-clause-kinds
returns-clause-kinds g c =
    let is = c.in_ok-parser.ensures in
    ap (λ a. fault_of a (map g.S.AsStr.text c.args.words.now)) (sym is) ∙ c.in_ok-matches.ensures.kinds (ap is_simple_and_free is ∙ commands_free)

pub returns-clause-spelled : goal.returns-clause-spelled
returns-clause-spelled g c = λ command spells.
    let is = c.in_ok-parser.ensures in
    let found = (c.in_ok-matches.ensures.matches (ap is_simple is ∙ commands_simple)).1 in
    let words = map g.S.AsStr.text c.args.words.now in
    let asks = subst (λ sub. AsksFor sub c.command_in.result) (found ∙ ap (λ a. subcommand_of a words) is) c.command_in.ensures in
    spelled_asks words c.command_in.result command spells asks

pub returns-clause-job_spelled : goal.returns-clause-job_spelled
returns-clause-job_spelled g c = λ asked spells.
    let is = c.in_ok-parser.ensures in
    let found = (c.in_ok-matches.ensures.matches (ap is_simple is ∙ commands_simple)).1 in
    let words = map g.S.AsStr.text c.args.words.now in
    let asks = subst (λ sub. AsksFor sub c.command_in.result) (found ∙ ap (λ a. subcommand_of a words) is) c.command_in.ensures in
    (job_words_read words asked spells).read c.command_in.result asks

pub returns-in_err-matches-clause-kinds : goal.returns-in_err-matches-clause-kinds
returns-in_err-matches-clause-kinds g c =
    let is = c.in_ok-parser.ensures in
    let words = map g.S.AsStr.text c.args.words.now in
    let p = err_from_is_err_and c.from_residual-in_err-matches.result c.from_residual-in_err-matches.ensures.1 in
    rw (p.1, p.2) (subst (λ a. HasKind (fault_of a words) c.in_err-matches.field-0.0) is (c.in_err-matches.ensures.kinds (ap is_simple_and_free is ∙ commands_free)))

pub returns-in_err-matches-clause-spelled : goal.returns-in_err-matches-clause-spelled
returns-in_err-matches-clause-spelled g c = λ command spells.
    let is = c.in_ok-parser.ensures in
    let words = map g.S.AsStr.text c.args.words.now in
    let p = err_from_is_err_and c.from_residual-in_err-matches.result c.from_residual-in_err-matches.ensures.1 in
    rw (p.1, p.2) (c.in_err-matches.ensures.passes (ap (λ a. takes a words) is ∙ spelled_takes words command spells))

pub returns-in_err-matches-clause-job_spelled : goal.returns-in_err-matches-clause-job_spelled
returns-in_err-matches-clause-job_spelled g c = λ asked spells.
    let is = c.in_ok-parser.ensures in
    let words = map g.S.AsStr.text c.args.words.now in
    let p = err_from_is_err_and c.from_residual-in_err-matches.result c.from_residual-in_err-matches.ensures.1 in
    rw (p.1, p.2) (c.in_err-matches.ensures.passes (ap (λ a. takes a words) is ∙ (job_words_read words asked spells).taken))
