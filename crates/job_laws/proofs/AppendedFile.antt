-- Behind an append its batch's file is found to have the batch's rows; where the file alone stands, the batch still fits.
use Rattle.std.proofs.Common.{◌≡◌, ◌∙◌, ℕ, Bool, true, false, List, Option, Some, None, Result, Ok, Err, refl, sym, ap, subst}
use Rattle.std.specs.Prelude.{if◌then◌else◌, length, not, unwrap_or}
use Rattle.outcomes.specs.Results.{◌>>=◌, refused_if}
use Rattle.schema_tree.specs.Tree.{Tree}
use Rattle.store_core.specs.Objects.{Objects, object_at, with_object}
use Rattle.store_core.specs.ObjectLaws.{object_at-with_object_kept, object_at-with_object_same}
use Rattle.parquet_file.specs.Reading.{rows_at}
use Rattle.parquet_file.specs.Writing.{written_file}
use Rattle.commit_core.specs.Commits.{commit_text}
use Rattle.parquet_file.proofs.Callers.{rows_only}
use Rattle.row_core.specs.Rows.{Row}
use Rattle.row_core.proofs.Callers.{same_rows-is}
use Rattle.store_core.specs.Names.{commit_name}
use Rattle.batch_core.specs.Committing.{batch_actions, batch_file_name}
use Rattle.batch_core.specs.Requests.{SinkRequest, file_or_refusal, is_same, unless_other_rows, where_same}
use Rattle.sink_core.specs.Appending.{EncodedBatch, IsWellMade, AppendPlan, puts, stands, batch_of, size_behind, put_plan, is_past, repeated_plan, with_append, with_file}
use Rattle.batch_core.specs.Refusals.{SinkRefusal, differs}

-- ---- the batch

-- a batch has its request's schema and rows, and its file's name is its application's and number's
record IsBatchOf (request : SinkRequest) (application : List ℕ) (number : ℕ) (batch : EncodedBatch) : Type 0 where
  name : batch.name ≡ batch_file_name application number
  schema : batch.schema ≡ request.schema
  rows : batch.rows ≡ request.rows

-- what holds of each batch that is made in steps holds of the one that was
of_made : (P : EncodedBatch → Type 0) (file : Result (List ℕ) SinkRefusal) (make : List ℕ → EncodedBatch) → ((bytes : List ℕ) → P (make bytes)) → (batch : EncodedBatch) → (file >>= λ bytes. Ok (make bytes)) ≡ Ok batch → P batch
of_made P (Err refusal) make all batch is = absurd cc
of_made P (Ok bytes) make all batch is = let same : make bytes ≡ batch = cc in subst P same (all bytes)

batch_is : (found : Option (List ℕ)) (request : SinkRequest) (application : List ℕ) (number at : ℕ) (batch : EncodedBatch) → batch_of found request application number at ≡ Ok batch → IsBatchOf request application number batch
unfolding batch_of
batch_is found request application number at batch is = of_made (IsBatchOf request application number) _ _ (λ bytes. record { name = refl; schema = refl; rows = refl }) batch is

-- ---- the file

-- what isn't refused where a test fails passed it
passes : (test : Bool) (why : SinkRefusal) (step : AppendPlan) → (refused_if (not test) why >>= λ fine. Ok step) ≡ Ok step → test ≡ true
passes true why step is = refl
passes false why step is = absurd cc

-- what stands behind the put has the batch's rows: what stood already, or the batch's own file
has_same : (schema : Tree) (rows : List Row) (name file : List ℕ) (step : AppendPlan) (found : Option (List ℕ)) → rows_at file schema ≡ Ok rows
    → (unless_other_rows schema rows name found >>= λ fits. Ok step) ≡ Ok step → is_same rows (rows_at (unwrap_or found file) schema) ≡ true
has_same schema rows name file step None read fits = ap (is_same rows) read ∙ (same_rows-is rows rows).1 refl
has_same schema rows name file step (Some old) read fits = passes (is_same rows (rows_at old schema)) (differs name) step fits

module _ (objects : Objects) (batch : EncodedBatch) (application : List ℕ) (number at : ℕ) (made : IsWellMade application number at batch) (fits : put_plan objects batch ≡ Ok (puts batch)) where
  -- what stands under the batch's name behind the put
  abbrev behind : List ℕ
  behind = unwrap_or (object_at objects batch.name) batch.file

  is_there : object_at (with_file objects batch) batch.name ≡ Some behind
  is_there = object_at-with_object_same objects batch.name batch.file

  same_rows_there : is_same batch.rows (rows_at behind batch.schema) ≡ true
  same_rows_there =
      has_same batch.schema batch.rows batch.name batch.file (puts batch) (object_at objects batch.name)
      (rows_only batch.file batch.schema batch.rows made.file.within made.file.file made.limits) fits

  -- Where the batch's file alone stands, the batch fits as before.
  pub file_fits : put_plan (with_file objects batch) batch ≡ Ok (puts batch)
  file_fits =
      ap (λ (found : Option (List ℕ)). unless_other_rows batch.schema batch.rows batch.name found >>= λ fine. Ok (puts batch)) is_there
      ∙ ap (λ (test : Bool). refused_if (not test) (differs batch.name) >>= λ fine. Ok (puts batch)) same_rows_there

  -- it stands behind the commit, which is put where one may have its version
  stands_behind : object_at (with_append objects (Ok (puts batch))) batch.name ≡ Some behind
  stands_behind = by_version (is_past batch.version)
    where
      by_version : (past : Bool) → object_at (if past then with_file objects batch else with_object (with_file objects batch) (commit_name batch.version) batch.commit) batch.name ≡ Some behind
      by_version true = is_there
      by_version false = object_at-with_object_kept (with_file objects batch) (commit_name batch.version) batch.commit batch.name behind is_there

  -- the same file is found behind the commit
  found_again : (where_same batch.schema batch.rows batch.name (object_at (with_append objects (Ok (puts batch))) batch.name) >>= λ same. Ok stands) ≡ Ok stands
  found_again =
      ap (λ (found : Option (List ℕ)). where_same batch.schema batch.rows batch.name found >>= λ same. Ok stands) stands_behind
      ∙ ap (λ (test : Bool). refused_if (not test) (differs batch.name) >>= λ same. Ok stands) same_rows_there

-- the size of the file that stands behind a put is that behind another put of the same
size_stays : (file : List ℕ) (found : Option (List ℕ)) → size_behind file (Some (unwrap_or found file)) ≡ size_behind file found
size_stays file None = refl
size_stays file (Some old) = refl

-- a batch is put under the name of its file
pub file_named_so : (found : Option (List ℕ)) (request : SinkRequest) (application : List ℕ) (number at : ℕ) (batch : EncodedBatch) → batch_of found request application number at ≡ Ok batch → batch.name ≡ batch_file_name application number
file_named_so found request application number at batch is = (batch_is found request application number at batch is).name

-- So a batch is made as before once its file stands.
pub made_beside : (found : Option (List ℕ)) (request : SinkRequest) (application : List ℕ) (number at : ℕ) (batch : EncodedBatch) → batch_of found request application number at ≡ Ok batch
    → batch_of (Some (unwrap_or found batch.file)) request application number at ≡ Ok batch
unfolding batch_of
made_beside found request application number at batch is = by_file (file_or_refusal (written_file request.schema request.rows)) is
  where
    made : (size : ℕ) → List ℕ → EncodedBatch
    made size file = record {
      version = request.version;
      schema = request.schema;
      rows = request.rows;
      name = batch_file_name application number;
      file = file;
      commit = commit_text (batch_actions application number at size (length request.rows));
    }

    by_file : (file : Result (List ℕ) SinkRefusal) → (file >>= λ bytes. Ok (made (size_behind bytes found) bytes)) ≡ Ok batch → (file >>= λ bytes. Ok (made (size_behind bytes (Some (unwrap_or found batch.file))) bytes)) ≡ Ok batch
    by_file (Err refusal) told = absurd cc
    by_file (Ok bytes) told =
        let same : made (size_behind bytes found) bytes ≡ batch = cc in
        let own : bytes ≡ batch.file = ap (λ (b : EncodedBatch). b.file) same in
        let size : size_behind bytes (Some (unwrap_or found batch.file)) ≡ size_behind bytes found = ap (λ (f : List ℕ). size_behind bytes (Some (unwrap_or found f))) (sym own) ∙ size_stays bytes found in
        ap (λ (n : ℕ). Ok (made n bytes)) size ∙ told

-- Behind an append, a request for the same rows under the same number finds that its batch stands.
pub appended_same : (objects : Objects) (application : List ℕ) (number at : ℕ) (found : Option (List ℕ)) (request other : SinkRequest) (batch : EncodedBatch)
    → batch_of found request application number at ≡ Ok batch → IsWellMade application number at batch → put_plan objects batch ≡ Ok (puts batch)
    → other.schema ≡ request.schema → other.rows ≡ request.rows
    → repeated_plan (with_append objects (Ok (puts batch))) other application number ≡ Ok stands
appended_same objects application number at found request other batch is made fits schema rows =
    let own = batch_is found request application number at batch is in
    let one : other.schema ≡ batch.schema = schema ∙ sym own.schema in
    let two : other.rows ≡ batch.rows = rows ∙ sym own.rows in
    let name : batch_file_name application number ≡ batch.name = sym own.name in
    (λ i. where_same (one i) (two i) (name i) (object_at (with_append objects (Ok (puts batch))) (name i)) >>= λ same. Ok stands)
    ∙ found_again objects batch application number at made fits
