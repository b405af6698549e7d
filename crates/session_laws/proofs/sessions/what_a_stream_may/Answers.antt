use Rattle.std.proofs.Common.{List}
use Rattle.store_core.specs.Objects.{Objects}
use Rattle.session_core.specs.Talks.{Asked, Talk, get_object, list_names, put_commit, put_file}
use Rattle.table_model.specs.Table.{Entry}
use Rattle.table_store.specs.Schema.{Schema}
use Rattle.sink_core.specs.SinkSessions.{SinkAsks, SinkJob}
use Rattle.session_laws.specs.May.{BearsSession, MayAsk}
use Rattle.table_jobs.specs.Jobs.{IsValidJob, streams}
use Rattle.table_store.proofs.Callers.{all_free}
use Rattle.session_laws.proofs.StreamLacks.{stream_tells}
use Rattle.session_laws.proofs.StreamPuts.{puts_commit, puts_file}
use Rattle.session_laws.proofs.sessions.what_a_stream_may.Goals as goal

pub returns-clause-asks : goal.returns-clause-asks
returns-clause-asks c = λ objects schema entries job before talk asked amid well asks. by_call asked objects schema entries job before talk amid well asks
  where
    by_call : (asked : Asked) (objects : Objects) (schema : Schema) (entries : List Entry) (job : SinkJob) (before talk : Talk) → BearsSession objects schema entries (streams job) before talk → IsValidJob (streams job) → SinkAsks job before talk asked
        → MayAsk objects schema (streams job) talk asked
    by_call list_names objects schema entries job before talk amid well asks = tt
    by_call (get_object name) objects schema entries job before talk amid well asks = tt
    by_call (put_file name bytes) objects schema entries job before talk amid well asks = (asks.0, puts_file objects schema entries amid.sound amid.bytes amid.holds job before amid.earlier talk name bytes amid.borne asks, λ other those holds. all_free those name)
    by_call (put_commit version bytes) objects schema entries job before talk amid well asks =
        let both = puts_commit objects schema entries amid.sound amid.bytes amid.holds job before amid.earlier
        (λ put race at put_bytes lawful borne here commit own asks_so. c.what_a_commit_may.ensures.asks objects put before race at put_bytes lawful borne here commit own asks_so) well.0 talk version bytes amid.borne asks in
        (asks.0, both.0, both.1)

pub returns-clause-tells : goal.returns-clause-tells
returns-clause-tells c = λ objects schema entries job before talk end amid well ends.
    stream_tells objects schema entries amid.sound amid.bytes amid.holds job before amid.earlier (λ put race result borne ends_so. c.what_a_commit_may.ensures.tells objects put before race result borne ends_so) talk amid.borne amid.asked well.0 end.answer ends.answer
