-- The laws that say it of one call and of one step, as they are cited here.
use Rattle.std.proofs.Common.{◌≡◌, ◌+◌, ℕ, List, [], ◌++◌, Some, take, true}
use Rattle.store_core.specs.Objects.{HasObjectsOf, Objects, with_object}
use Rattle.session_core.specs.Talks.{Bears, Talk}
use Rattle.store_core.specs.Names.{commit_name}
use Rattle.delta_actions.specs.Names.{data_file_name}
use Rattle.table_log.specs.Restoring.{IsSoundCheckpoint, checkpoint_version}
use Rattle.row_core.specs.Rows.{Row}
use Rattle.table_model.specs.Reads.{IsPart, is_offset, position}
use Rattle.table_model.specs.Resumed.{beginning}
use Rattle.table_model.specs.Table.{Entry, rows}
use Rattle.table_model.specs.declared.reading.Offset.{Offset}
use Rattle.table_store.specs.Holds.{IsFreeIn}
use Rattle.table_store.specs.Schema.{Schema}
use Rattle.table_store.specs.Sound.{IsAdmissible}
use Rattle.log_laws.specs.Sound.{IsSoundStore}
use Rattle.session_laws.specs.May.{BearsSession, May}
use Rattle.session_laws.specs.Jobs.{IsValidJob, Job}
use Rattle.session_laws.specs.Moves.{Does, Move}

pub record AreLaws : Type 0 where
  pub empty : IsSoundStore []
  pub commit_lands : (objects : Objects) (version : ℕ) (bytes : List ℕ) → IsSoundStore objects → IsAdmissible objects version bytes → IsSoundStore (with_object objects (commit_name version) bytes)
  pub commit_stays : (objects more : Objects) (version : ℕ) (bytes : List ℕ) → HasObjectsOf objects more → IsAdmissible objects version bytes → IsAdmissible more version bytes
  pub file_lands : (objects : Objects) (application bytes : List ℕ) (number : ℕ) → IsFreeIn objects (data_file_name application number) → IsSoundStore objects → IsSoundStore (with_object objects (data_file_name application number) bytes)
  pub checkpoint_lands : (objects : Objects) (name bytes : List ℕ) (version : ℕ) → checkpoint_version name ≡ Some version → IsSoundStore objects → IsSoundCheckpoint objects version bytes → IsSoundStore (with_object objects name bytes)
  pub checkpoint_stays : (objects more : Objects) (version : ℕ) (bytes : List ℕ) → HasObjectsOf objects more → IsSoundCheckpoint objects version bytes → IsSoundCheckpoint more version bytes
  pub bears_both : (objects : Objects) (talk more : Talk) → Bears objects talk → Bears objects more → Bears objects (talk ++ more)
  pub may : (objects : Objects) (schema : Schema) (entries : List Entry) (job : Job) (before talk : Talk) (move : Move) → BearsSession objects schema entries job before talk → IsValidJob job → Does job before talk move
      → May objects schema entries job before talk move
  pub part_none : (max : ℕ) (offset : Offset) (entries : List Entry) → is_offset offset entries ≡ true → IsPart max offset [] offset entries
  pub part_stays : (max : ℕ) (offset next : Offset) (entries more : List Entry) (out : List Row) → IsPart max offset out next entries → IsPart max offset out next (entries ++ more)
  pub parts_join : (m n : ℕ) (offset mid next : Offset) (entries more : List Entry) (xs ys : List Row) → IsPart m offset xs mid entries → IsPart n mid ys next (entries ++ more) → IsPart (m + n) offset (xs ++ ys) next (entries ++ more)
  pub part_front : (max : ℕ) (next : Offset) (entries : List Entry) (out : List Row) → IsPart max beginning out next entries → out ≡ take (position next entries) (rows entries)
