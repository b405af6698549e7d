use Rattle.std.proofs.Common.{◌∷◌}
use Rattle.table_store.proofs.HoldingGrown.{offset_stays, same_schema}
use Rattle.log_laws.proofs.Growth.{lawful_table, table_front}
use Rattle.log_laws.proofs.standing.a_sound_table_grows_at_its_end.Goals as goal

pub returns-clause-front : goal.returns-clause-front
returns-clause-front c = λ objects more schema other entries others sound grown holds held. table_front objects more schema other entries others sound.table grown holds held

pub returns-clause-schema : goal.returns-clause-schema
returns-clause-schema c = λ objects more schema other first entries others sound grown holds held.
    same_schema objects more schema grown other first entries others (lawful_table objects sound.table schema (first ∷ entries) holds).begins holds held

pub returns-clause-offsets : goal.returns-clause-offsets
returns-clause-offsets c = λ objects more schema other entries others place sound grown holds held valid.
    offset_stays objects more schema grown other entries others place (lawful_table objects sound.table schema entries holds).begins holds held valid
