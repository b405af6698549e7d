-- Whatever a line puts leaves a sound store sound.
use Rattle.std.proofs.Common.{true, inl, inr, refl, sym, subst}
use Rattle.store_core.specs.Objects.{AreBytes, Objects}
use Rattle.delta_actions.specs.Names.{data_file_name}
use Rattle.table_store.specs.Sound.{IsSound}
use Rattle.table_store.proofs.Callers.{all_free}
use Rattle.commit_core.specs.SoundStores.{IsSoundStore}
use Rattle.lake_script.specs.Growth.{MayPut}
use Rattle.script_lines.specs.Lines.{Statement, append, asks, checkpoint, close, create, foreign, task}
use Rattle.lake_script.specs.Told.{IsPutHere}
use Rattle.lake_script.proofs.SoundPuts.{puts_sound}
use Rattle.job_laws.specs.Bytes.{LooksAtBytes}
use Rattle.commit_core.proofs.Callers.{no_checkpoint, sound_beside}
use Rattle.job_laws.proofs.CloseSound.{close_sound}
use Rattle.job_laws.proofs.SoundGrowth.{append_sound, create_sound}

-- the table that stands behind a line
line_sound : (objects : Objects) (statement : Statement) (after : Objects) → LooksAtBytes objects statement → IsPutHere (asks statement) → IsSound objects → MayPut objects statement after → IsSound after
line_sound objects (create id at schema) after are here sound put = create_sound objects after id at schema put sound
line_sound objects (task (append application number at items)) after are here sound put = append_sound objects sound application number at items (λ bytes there. are (data_file_name application number) bytes refl there) after put.1
line_sound objects (task (close application at)) after are here sound put = close_sound objects sound application at put.0 after put.1
line_sound objects (task checkpoint) after are here sound (inl same) = subst IsSound (sym same) sound
line_sound objects (task checkpoint) after are here sound (inr (version, put)) =
    subst IsSound (sym put.put) (sound_beside objects put.name put.bytes (λ other fits. no_checkpoint version put.name put.puts.found other) (λ schema entries holds. all_free entries put.name) sound)
line_sound objects (foreign version action) after are here sound put = absurd here
line_sound objects _ after are here sound same = subst IsSound (sym same) sound

-- Whatever this program puts for a line leaves a sound store sound, where the data files that it may
-- look at are of bytes.
pub line_keeps_sound : (objects after : Objects) (statement : Statement) → LooksAtBytes objects statement → IsPutHere (asks statement) → IsSoundStore objects → MayPut objects statement after → IsSoundStore after
line_keeps_sound objects after statement are here sound put =
    record { table = line_sound objects statement after are here sound.table put; checkpoints = puts_sound true objects statement after put sound.checkpoints }

-- the same where each object is of bytes
pub line_keeps_sound_bytes : (objects after : Objects) (statement : Statement) → AreBytes objects → IsPutHere (asks statement) → IsSoundStore objects → MayPut objects statement after → IsSoundStore after
line_keeps_sound_bytes objects after statement are here sound put = line_keeps_sound objects after statement (λ name bytes looked there. are name bytes there) here sound put
