-- The words that ask for a job, for a check or for what refusals mean are read as that.
use Rattle.std.proofs.Common.{List}
use Rattle.clap.specs.Walk.{Text}
use Rattle.lake_words.specs.Asked.{ProgramCommand}
use Rattle.lake_words.specs.Spelling.{SpellsJob, append, check, checkpoint, close, create, explain, explain_all, history, load, snapshot, tail}
use Rattle.lake_words.proofs.AppendWords.{append_read}
use Rattle.lake_words.proofs.BareWords.{check_read, checkpoint_read, explain_all_read, explain_read, history_read, snapshot_read}
use Rattle.lake_words.proofs.CloseWords.{close_read}
use Rattle.lake_words.proofs.CreateWords.{create_read}
use Rattle.lake_words.proofs.JobWords.{AreRead}
use Rattle.lake_words.proofs.LoadWords.{load_read}
use Rattle.lake_words.proofs.TailWords.{tail_read}

pub job_words_read : (words : List Text) (asked : ProgramCommand) → SpellsJob words asked → AreRead words asked
job_words_read words asked (create d i s m) = create_read _ _ _ _ _ _ d i s m
job_words_read words asked (append d a e w m t r) = append_read _ _ _ _ _ _ _ _ _ _ _ _ _ d a e w m t r
job_words_read words asked (close d a m t r) = close_read _ _ _ _ _ _ _ _ _ d a m t r
job_words_read words asked (load d e m t r) = load_read _ _ _ _ _ _ _ _ _ _ d e m t r
job_words_read words asked (tail d o m r) = tail_read _ _ _ _ _ _ _ _ d o m r
job_words_read words asked (snapshot d r) = snapshot_read _ _ _ _ d r
job_words_read words asked (checkpoint d r) = checkpoint_read _ _ _ _ d r
job_words_read words asked (history d r) = history_read _ _ _ _ d r
job_words_read words asked (check d) = check_read _ _ d
job_words_read words asked (explain d) = explain_read _ _ d
job_words_read words asked explain_all = explain_all_read _
