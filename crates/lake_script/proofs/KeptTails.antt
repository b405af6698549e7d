-- Where a store keeps a table, or nothing stands in it, reads one after another hand out the table's rows.
use Rattle.std.proofs.Common.{◌≡◌, ℕ, false, List, [], ◌∷◌, ◌++◌, Err, refl, sym, subst, ◌∙◌, arith}
use Rattle.std.proofs.lemmas.List.{take_all}
use Rattle.schema_tree.specs.Tree.{Tree}
use Rattle.store_core.specs.Objects.{Objects}
use Rattle.table_model.specs.Table.{Entry}
use Rattle.table_model.specs.Reads.{position}
use Rattle.table_model.specs.Resumed.{beginning}
use Rattle.table_model.specs.declared.reading.Offset.{Offset}
use Rattle.table_log.specs.Versions.{versions_of}
use Rattle.log_reading.specs.FromCheckpoints.{no_start}
use Rattle.commit_core.proofs.Callers.{versions_of_nothing}
use Rattle.source_core.specs.Tailing.{bad_log, read_by, schema_for}
use Rattle.source_core.specs.Tails.{tails, HandOutTheLog, HandOutAll, AreAnswered}
use Rattle.lake_script.specs.Tables.{TableState, nothing, table, entries_of_state}
use Rattle.read_laws.specs.Kept.{KeepsTable}
use Rattle.read_laws.proofs.Callers.{kept_reads, reads_log, reads_all, reads_answered}
use Rattle.lake_script.specs.Keeps.{Keeps}

-- a store of nothing has no schema
nothing_told : (place : Offset) → schema_for no_start (versions_of []) place ≡ Err (bad_log 0)
unfolding schema_for
nothing_told place = rw versions_of_nothing refl

-- where nothing stands, a read is refused
nothing_read : (max : ℕ) (place : Offset) → read_by false [] max place ≡ Err (bad_log 0)
nothing_read max place = rw (nothing_told place) refl

-- so that reads hand out no rows
nothing_handed : (limits : List ℕ) (place : Offset) → (tails [] limits place).rows ≡ []
unfolding tails
nothing_handed [] place = refl
nothing_handed (max ∷ limits) place = rw (nothing_read max place) (nothing_handed limits place)

-- reads hand out the rows of the table in order
pub hand_out_the_log : (objects : Objects) (state : TableState) → Keeps objects state → HandOutTheLog objects (entries_of_state state)
hand_out_the_log objects nothing keeps =
    let none : HandOutTheLog [] [] = λ limits. nothing_handed limits beginning ∙ sym (take_all (position (tails [] limits beginning).next []) [] (omega arith)) in
    subst (λ (o : Objects). HandOutTheLog o []) (sym keeps) none
hand_out_the_log objects (table schema entries) keeps = reads_log objects entries (kept_reads objects schema entries keeps.0)

-- and all of them, where the last read handed out fewer than its limit
pub hand_out_all : (objects : Objects) (state : TableState) → Keeps objects state → HandOutAll objects (entries_of_state state)
hand_out_all objects nothing keeps =
    let none : HandOutAll [] [] = λ earlier max short. nothing_handed (earlier ++ max ∷ []) beginning in
    subst (λ (o : Objects). HandOutAll o []) (sym keeps) none
hand_out_all objects (table schema entries) keeps = reads_all objects entries (kept_reads objects schema entries keeps.0)

-- and none is refused
pub are_answered : (objects : Objects) (schema : Tree) (entries : List Entry) → KeepsTable objects schema entries → AreAnswered objects
are_answered objects schema entries kept = reads_answered objects entries (kept_reads objects schema entries kept)
