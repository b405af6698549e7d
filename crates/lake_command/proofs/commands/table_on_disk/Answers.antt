use Rattle.std.proofs.Common.{inl, inr, refl}
use Rattle.lake_words.specs.Asked.{work_view}
use Rattle.lake_command.proofs.AgainLemmas.{ran_so}
use Rattle.lake_command.proofs.EndingLemmas.{short_told}
use Rattle.lake_command.proofs.commands.table_on_disk.Goals as goal

pub returns : goal.returns
returns g c =
    let end = c.table_command.ensures.ended in
    record {
      job = inr (record {
        outcome = end.outcome;
        rows = end.rows;
        rows_counted = end.rows_counted;
        cause = end.caused.cause;
        faults = _;
        ran = ran_so _ _ _ _ _ _ _ _ _ end.outcome c.in-Ok.ensures.faults (λ calls traced. (_, _, c.in-Ok.ensures.path, c.in-Ok.ensures.faults, refl, traced)) end.ran;
        told = end.told;
      });
      counted = λ other. (c.table_command.ensures.counted other).1;
      input_untouched = c.table_command.ensures.input_untouched;
    }

pub returns-in_default : goal.returns-in_default
returns-in_default g c =
    let work = work_view c.args.command.job in
    let short = short_told _ _ work 0 _ _ _ _ _ (c.tell_failure.ensures.ended work 0) in
    record {
      job = inl short;
      counted = λ other. inr (inl short.1);
      input_untouched = λ reads. refl;
    }
