use Rattle.std.proofs.Common.{◌≡◌, Some, subst, ap, ◌∙◌, sym, codes, not}
use Rattle.std.specs.Option.{option_map_or}
use Rattle.clap.specs.Words.{found_of, rows_of, subcommand_rows_of}
use Rattle.clap.proofs.WalkLemmas.{one_text-rows}
use Rattle.lake_words.specs.Asked.{IsFlag, check, explain, script, table, text_in, work_view}
use Rattle.lake_words.proofs.MatchLemmas.{asks_for, both_known, check_asked, explain_asked, other_asked}
use Rattle.lake_words.proofs.reading.command_in.Goals as goal

pub returns-in-Some-job_in : goal.returns-in-Some-job_in
returns-in-Some-job_in c =
    let flag = c.get_flag-use_checkpoints.ensures in
    let found = found_of c.in-Some.matches.now in
    let rows = rows_of found in
    let is_flag = subst (λ t. IsFlag t c.get_flag-use_checkpoints.result) (one_text-rows found (codes "no-checkpoint")) (flag.none, flag.value, flag.other) in
    let use_checkpoints = not c.get_flag-use_checkpoints.result in
    let sub_is : subcommand_rows_of c.args.matches.now ≡ Some (c.in-Some.name.now, rows) = both_known _ _ c.in-Some.name.now rows c.in-Some.ensures.name c.in-Some.ensures.rows in
    asks_for _ c.in-Some.name.now rows c.get_flag-use_checkpoints.result _ sub_is is_flag
    (ap (λ text. table text use_checkpoints (work_view c.in-Some-job_in.job)) c.text_in.ensures
    ∙ ap (λ o. option_map_or (λ work. table (text_in (codes "DIR") rows) use_checkpoints work) o (script use_checkpoints)) c.in-Some-job_in.ensures
    ∙ other_asked c.in-Some.name.now rows use_checkpoints (sym c.eq.ensures ∙ c.if-eq.false) (sym c.eq-2.ensures ∙ c.if-eq-2.false))

pub returns-in-None : goal.returns-in-None
returns-in-None c =
    let flag = c.get_flag-use_checkpoints.ensures in
    let found = found_of c.in-Some.matches.now in
    let rows = rows_of found in
    let is_flag = subst (λ t. IsFlag t c.get_flag-use_checkpoints.result) (one_text-rows found (codes "no-checkpoint")) (flag.none, flag.value, flag.other) in
    let use_checkpoints = not c.get_flag-use_checkpoints.result in
    let sub_is : subcommand_rows_of c.args.matches.now ≡ Some (c.in-Some.name.now, rows) = both_known _ _ c.in-Some.name.now rows c.in-Some.ensures.name c.in-Some.ensures.rows in
    asks_for _ c.in-Some.name.now rows c.get_flag-use_checkpoints.result _ sub_is is_flag
    (ap (λ o. option_map_or (λ work. table (text_in (codes "DIR") rows) use_checkpoints work) o (script use_checkpoints)) c.in-None.ensures
    ∙ other_asked c.in-Some.name.now rows use_checkpoints (sym c.eq.ensures ∙ c.if-eq.false) (sym c.eq-2.ensures ∙ c.if-eq-2.false))

pub returns-then-eq : goal.returns-then-eq
returns-then-eq c =
    let flag = c.get_flag-use_checkpoints.ensures in
    let found = found_of c.in-Some.matches.now in
    let rows = rows_of found in
    let is_flag = subst (λ t. IsFlag t c.get_flag-use_checkpoints.result) (one_text-rows found (codes "no-checkpoint")) (flag.none, flag.value, flag.other) in
    let sub_is : subcommand_rows_of c.args.matches.now ≡ Some (c.in-Some.name.now, rows) = both_known _ _ c.in-Some.name.now rows c.in-Some.ensures.name c.in-Some.ensures.rows in
    asks_for _ c.in-Some.name.now rows c.get_flag-use_checkpoints.result _ sub_is is_flag
    (ap check c.text_in-folder.ensures ∙ check_asked c.in-Some.name.now rows (not c.get_flag-use_checkpoints.result) (sym c.eq.ensures ∙ c.if-eq.true))

pub returns-then-eq-2 : goal.returns-then-eq-2
returns-then-eq-2 c =
    let flag = c.get_flag-use_checkpoints.ensures in
    let found = found_of c.in-Some.matches.now in
    let rows = rows_of found in
    let is_flag = subst (λ t. IsFlag t c.get_flag-use_checkpoints.result) (one_text-rows found (codes "no-checkpoint")) (flag.none, flag.value, flag.other) in
    let sub_is : subcommand_rows_of c.args.matches.now ≡ Some (c.in-Some.name.now, rows) = both_known _ _ c.in-Some.name.now rows c.in-Some.ensures.name c.in-Some.ensures.rows in
    asks_for _ c.in-Some.name.now rows c.get_flag-use_checkpoints.result _ sub_is is_flag
    (ap explain c.optional_text_in-asked.ensures ∙ explain_asked c.in-Some.name.now rows (not c.get_flag-use_checkpoints.result) (sym c.eq.ensures ∙ c.if-eq.false) (sym c.eq-2.ensures ∙ c.if-eq-2.true))
