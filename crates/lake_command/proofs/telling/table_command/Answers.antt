use Rattle.std.proofs.Common.{Ok, Err}
use Rattle.lake_words.specs.Asked.{work_view}
use Rattle.lake_command.proofs.CountLemmas.{input_ended, left_alone}
use Rattle.lake_command.proofs.telling.table_command.Goals as goal

pub returns-in-Ok-clause-done : goal.returns-in-Ok-clause-done
returns-in-Ok-clause-done g c = λ steady restores done. record {
  reply = c.in-Ok.reply;
  told = c.tell.ensures.told done;
  done = c.tell.ensures.done done;
  answer = (c.in-Ok.ensures.over steady restores).told;
}

pub returns-in-Ok-clause-ended : goal.returns-in-Ok-clause-ended
returns-in-Ok-clause-ended g c = record {
  outcome = Ok c.in-Ok.reply;
  rows = _;
  rows_counted = c.in-Ok.ensures.by_input.rows;
  over = λ well. c.in-Ok.ensures.over well.0 well.1;
  caused = c.in-Ok.ensures.caused;
  ran = c.in-Ok.ensures.runs;
  told = c.tell.ensures.ended;
}

pub returns-in-Err-clause-ended : goal.returns-in-Err-clause-ended
returns-in-Err-clause-ended g c = record {
  outcome = Err c.in-Err.failure;
  rows = 0;
  rows_counted = tt;
  over = λ well. c.in-Err.ensures.over well.0 well.1;
  caused = c.in-Err.ensures.caused;
  ran = c.in-Err.ensures.runs;
  told = c.tell_failure.ensures.ended (work_view c.args.command.job) 0;
}

pub returns-in-Ok-clause-counted : goal.returns-in-Ok-clause-counted
returns-in-Ok-clause-counted g c = λ other. absurd (c.in-Ok.ensures.by_input.counted other)

pub returns-in-Err-clause-counted : goal.returns-in-Err-clause-counted
returns-in-Err-clause-counted g c = λ other.
    let work = work_view c.args.command.job in
    let of = c.in-Err.ensures.by_input.counted other in
    (left_alone c.in-Err.failure work _ _ of c.in-Err.ensures.by_input.first, input_ended _ _ c.in-Err.failure work 0 _ _ _ _ _ _ _ of (c.tell_failure.ensures.ended work 0))

pub returns-in-Ok-clause-input_untouched : goal.returns-in-Ok-clause-input_untouched
returns-in-Ok-clause-input_untouched g c = c.in-Ok.ensures.by_input.input_untouched

pub returns-in-Err-clause-input_untouched : goal.returns-in-Err-clause-input_untouched
returns-in-Err-clause-input_untouched g c = c.in-Err.ensures.by_input.input_untouched

pub returns-in-Ok-clause-keeps : goal.returns-in-Ok-clause-keeps
returns-in-Ok-clause-keeps g c = c.in-Ok.ensures.keeps

pub returns-in-Err-clause-keeps : goal.returns-in-Err-clause-keeps
returns-in-Err-clause-keeps g c = c.in-Err.ensures.keeps
