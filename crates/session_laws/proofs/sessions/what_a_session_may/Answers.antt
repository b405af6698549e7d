use Rattle.std.proofs.Common.{List, sym, ap, ◌∙◌}
use Rattle.store_core.specs.Objects.{Objects}
use Rattle.session_core.specs.Talks.{Talk, get_object, list_names, put_commit, put_file}
use Rattle.table_model.specs.Table.{Entry}
use Rattle.table_store.specs.Schema.{Schema}
use Rattle.session_laws.specs.May.{BearsSession, May}
use Rattle.table_jobs.specs.Jobs.{IsValidJob, Job, checkpoint, checkpoints, creates, creation, load, loads, read, reads, stream, streams}
use Rattle.session_laws.specs.Rows.{next_version}
use Rattle.session_laws.specs.Moves.{Does, Move, asks, tells}
use Rattle.session_laws.proofs.Created.{created_row}
use Rattle.session_laws.proofs.sessions.what_a_session_may.Goals as goal

pub returns-clause-may : goal.returns-clause-may
returns-clause-may c = λ objects schema entries job before talk move amid well does. by_job job move objects schema entries before talk amid well does
  where
    by_job : (job : Job) (move : Move) (objects : Objects) (schema : Schema) (entries : List Entry) (before talk : Talk) → BearsSession objects schema entries job before talk → IsValidJob job → Does job before talk move → May objects schema entries job before talk move
    by_job (loads job) (asks asked) objects schema entries before talk amid well does = c.what_a_load_may.ensures.asks objects schema entries job before talk asked amid does.0
    by_job (loads job) (tells (load result)) objects schema entries before talk amid well does = c.what_a_load_may.ensures.tells objects schema entries job before talk result amid does
    by_job (loads job) (tells (creation result)) objects schema entries before talk amid well does = absurd does.0
    by_job (loads job) (tells (checkpoint result)) objects schema entries before talk amid well does = absurd does.0
    by_job (loads job) (tells (stream end)) objects schema entries before talk amid well does = absurd does.0
    by_job (loads job) (tells (read end)) objects schema entries before talk amid well does = absurd does.0
    by_job (checkpoints job) (asks asked) objects schema entries before talk amid well does = c.what_a_checkpoint_may.ensures.asks objects schema entries job before talk asked amid does.0
    by_job (checkpoints job) (tells (checkpoint result)) objects schema entries before talk amid well does = c.what_a_checkpoint_may.ensures.tells objects schema entries job before talk result amid does
    by_job (checkpoints job) (tells (creation result)) objects schema entries before talk amid well does = absurd does.0
    by_job (checkpoints job) (tells (load result)) objects schema entries before talk amid well does = absurd does.0
    by_job (checkpoints job) (tells (stream end)) objects schema entries before talk amid well does = absurd does.0
    by_job (checkpoints job) (tells (read end)) objects schema entries before talk amid well does = absurd does.0
    by_job (creates job) (asks list_names) objects schema entries before talk amid well does = tt
    by_job (creates job) (asks (get_object name)) objects schema entries before talk amid well does = tt
    by_job (creates job) (asks (put_file name bytes)) objects schema entries before talk amid well does = absurd does.0
    by_job (creates job) (asks (put_commit version bytes)) objects schema entries before talk amid well does =
        let row = c.what_a_creation_may.ensures.asks objects job before talk (put_commit version bytes) amid.borne does.0 in
        ((row.3, row.0 ∙ ap next_version (sym row.1)), row.2)
    by_job (creates job) (tells (creation result)) objects schema entries before talk amid well does = c.what_a_creation_may.ensures.tells objects job before talk result amid.borne does.0
    by_job (creates job) (tells (load result)) objects schema entries before talk amid well does = absurd does.0
    by_job (creates job) (tells (checkpoint result)) objects schema entries before talk amid well does = absurd does.0
    by_job (creates job) (tells (stream end)) objects schema entries before talk amid well does = absurd does.0
    by_job (creates job) (tells (read end)) objects schema entries before talk amid well does = absurd does.0
    by_job (streams job) (asks asked) objects schema entries before talk amid well does = c.what_a_stream_may.ensures.asks objects schema entries job before talk asked amid well does.0
    by_job (streams job) (tells (stream end)) objects schema entries before talk amid well does = c.what_a_stream_may.ensures.tells objects schema entries job before talk end amid well does.0
    by_job (streams job) (tells (creation result)) objects schema entries before talk amid well does = absurd does.0
    by_job (streams job) (tells (load result)) objects schema entries before talk amid well does = absurd does.0
    by_job (streams job) (tells (checkpoint result)) objects schema entries before talk amid well does = absurd does.0
    by_job (streams job) (tells (read end)) objects schema entries before talk amid well does = absurd does.0
    by_job (reads job) (asks asked) objects schema entries before talk amid well does = c.what_a_read_may.ensures.asks objects schema entries job before talk asked amid does.0
    by_job (reads job) (tells (read end)) objects schema entries before talk amid well does = c.what_a_read_may.ensures.tells objects schema entries job before talk end amid does
    by_job (reads job) (tells (creation result)) objects schema entries before talk amid well does = absurd does.0
    by_job (reads job) (tells (load result)) objects schema entries before talk amid well does = absurd does.0
    by_job (reads job) (tells (checkpoint result)) objects schema entries before talk amid well does = absurd does.0
    by_job (reads job) (tells (stream end)) objects schema entries before talk amid well does = absurd does.0

pub returns-clause-created : goal.returns-clause-created
returns-clause-created c = λ job before talk move asked does. created_row job before talk move asked does
