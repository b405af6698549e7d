-- What a line stands for can be printed.
use Rattle.std.proofs.Common.{◌≡◌, ℕ, ◌≤◌, true, false, bytes_eq, List, [], ◌∷◌, ◌++◌, Result, Ok, Err, refl, ap, subst, arith, inl, inr}
use Rattle.std.proofs.lemmas.Bool.{cases_Bool}
use Rattle.std.specs.Prelude.{IfOk, codes}
use Rattle.std.specs.List.{AllByRecursion, list_any}
use Rattle.serde_json.specs.Data.{Data, null, boolean, number, string, array, object, Members, no_members, member, depth}
use Rattle.serde_json.specs.Find.{as_bool, as_str}
use Rattle.outcomes.specs.Results.{◌>>=◌, refused_as}
use Rattle.json_fields.specs.Kinds.{count, texts, text_map, no_texts, is_text_map}
use Rattle.json_fields.specs.Fields.{optional, needed, defaulted, fields_of}
use Rattle.json_fields.specs.KindLaws.{is_count, is_map}
use Rattle.json_fields.specs.Printing.{IsCount}
use Rattle.json_fields.proofs.Callers.{bind_ok, ok_is, optional_holds, needed_holds, defaulted_holds}
use Rattle.delta_actions.specs.declared.fault.ActionFault.{ActionFault}
use Rattle.delta_actions.specs.Wrong.{bad_field, ActionGives}
use Rattle.delta_actions.specs.Kinds.{file_path, format, parquet}
use Rattle.delta_actions.specs.KindLaws.{is_path, is_format}
use Rattle.delta_actions.specs.Action.{Action, commit_info, protocol, meta_data, add, txn, remove, domain_metadata, checkpoint_metadata, sidecar, other}
use Rattle.delta_actions.specs.Action.{ProtocolAction, MetaDataAction, AddAction, TxnAction, RemoveAction, CheckpointMetadataAction}
use Rattle.delta_actions.specs.Actions.{protocol_of, meta_data_of, add_of, txn_of, remove_of, checkpoint_metadata_of, Known, of_value, of_fields, known_actions, action_among, action_of, one_key, stands_for}
use Rattle.delta_actions.specs.Printing.{IsShallow, IsProtocol, IsMetaData, IsPath, IsAdd, IsTxn, IsRemove, IsPrintable}

-- ---- actions

txn_holds : (body : Data) (t : TxnAction) → txn_of body ≡ Ok t → IsTxn t
unfolding txn_of
txn_holds body t e =
    let a = bind_ok (needed as_str (codes "appId") body) _ t e in
    let b = bind_ok (needed count (codes "version") body) _ t a.2 in
    let c = bind_ok (optional count (codes "lastUpdated") body) _ t b.2 in
    subst IsTxn (ok_is _ t c.2) (record {
      version = needed_holds count IsCount is_count (codes "version") body b.0 b.1;
      last_updated = optional_holds count IsCount is_count (codes "lastUpdated") body c.0 c.1;
    })

add_holds : (body : Data) (a : AddAction) → add_of body ≡ Ok a → IsAdd a
unfolding add_of
add_holds body a e =
    let path = bind_ok (needed file_path (codes "path") body) _ a e in
    let size = bind_ok (needed count (codes "size") body) _ a path.2 in
    let change = bind_ok (needed as_bool (codes "dataChange") body) _ a size.2 in
    let partitions = bind_ok (defaulted text_map (codes "partitionValues") no_texts body) _ a change.2 in
    let modified = bind_ok (defaulted count (codes "modificationTime") 0 body) _ a partitions.2 in
    let stats = bind_ok (optional as_str (codes "stats") body) _ a modified.2 in
    let tags = bind_ok (optional text_map (codes "tags") body) _ a stats.2 in
    subst IsAdd (ok_is _ a tags.2) (record {
      path = needed_holds file_path IsPath is_path (codes "path") body path.0 path.1;
      size = needed_holds count IsCount is_count (codes "size") body size.0 size.1;
      partition_values = defaulted_holds text_map (λ d. is_text_map d ≡ true) is_map (codes "partitionValues") no_texts body partitions.0 refl partitions.1;
      modification_time = defaulted_holds count IsCount is_count (codes "modificationTime") 0 body modified.0 (omega arith) modified.1;
      tags = optional_holds text_map (λ d. is_text_map d ≡ true) is_map (codes "tags") body tags.0 tags.1;
    })

meta_data_holds : (body : Data) (m : MetaDataAction) → meta_data_of body ≡ Ok m → IsMetaData m
unfolding meta_data_of
meta_data_holds body m e =
    let id = bind_ok (needed as_str (codes "id") body) _ m e in
    let schema = bind_ok (needed as_str (codes "schemaString") body) _ m id.2 in
    let name = bind_ok (optional as_str (codes "name") body) _ m schema.2 in
    let description = bind_ok (optional as_str (codes "description") body) _ m name.2 in
    let form = bind_ok (defaulted format (codes "format") parquet body) _ m description.2 in
    let columns = bind_ok (defaulted texts (codes "partitionColumns") [] body) _ m form.2 in
    let created = bind_ok (optional count (codes "createdTime") body) _ m columns.2 in
    let settings = bind_ok (defaulted text_map (codes "configuration") no_texts body) _ m created.2 in
    subst IsMetaData (ok_is _ m settings.2) (record {
      options = defaulted_holds format (λ f. is_text_map f.options ≡ true) is_format (codes "format") parquet body form.0 refl form.1;
      created_time = optional_holds count IsCount is_count (codes "createdTime") body created.0 created.1;
      configuration = defaulted_holds text_map (λ d. is_text_map d ≡ true) is_map (codes "configuration") no_texts body settings.0 refl settings.1;
    })

protocol_holds : (body : Data) (p : ProtocolAction) → protocol_of body ≡ Ok p → IsProtocol p
unfolding protocol_of
protocol_holds body p e =
    let reader = bind_ok (needed count (codes "minReaderVersion") body) _ p e in
    let writer = bind_ok (needed count (codes "minWriterVersion") body) _ p reader.2 in
    let reads = bind_ok (defaulted texts (codes "readerFeatures") [] body) _ p writer.2 in
    let writes = bind_ok (defaulted texts (codes "writerFeatures") [] body) _ p reads.2 in
    subst IsProtocol (ok_is _ p writes.2) (record {
      min_reader_version = needed_holds count IsCount is_count (codes "minReaderVersion") body reader.0 reader.1;
      min_writer_version = needed_holds count IsCount is_count (codes "minWriterVersion") body writer.0 writer.1;
    })

remove_holds : (body : Data) (r : RemoveAction) → remove_of body ≡ Ok r → IsRemove r
unfolding remove_of
remove_holds body r e =
    let path = bind_ok (needed file_path (codes "path") body) _ r e in
    let change = bind_ok (needed as_bool (codes "dataChange") body) _ r path.2 in
    let deleted = bind_ok (optional count (codes "deletionTimestamp") body) _ r change.2 in
    subst IsRemove (ok_is _ r deleted.2) (record {
      path = needed_holds file_path IsPath is_path (codes "path") body path.0 path.1;
      deletion_timestamp = optional_holds count IsCount is_count (codes "deletionTimestamp") body deleted.0 deleted.1;
    })

checkpoint_metadata_holds : (body : Data) (m : CheckpointMetadataAction) → checkpoint_metadata_of body ≡ Ok m → IsCount m.version
unfolding checkpoint_metadata_of
checkpoint_metadata_holds body m e =
    let version = bind_ok (needed count (codes "version") body) _ m e in
    subst (λ (m : CheckpointMetadataAction). IsCount m.version) (ok_is _ m version.2) (needed_holds count IsCount is_count (codes "version") body version.0 version.1)

-- what stands for an action of that key can be printed
abbrev Holds : Known → Type 0
Holds known = (value : Data) (e : Action) → IsShallow value → known.1 value ≡ Ok e → IsPrintable e

-- an action that is any JSON
value_holds : (key : List ℕ) (wrap : Data → Action) → ((d : Data) → IsShallow d → IsPrintable (wrap d)) → Holds (of_value key wrap)
value_holds key wrap holds value e shallow is = subst IsPrintable (ok_is (wrap value) e is) (holds value shallow)

-- an action that is an object of fields
fields_hold : {A : Type 0} (key : List ℕ) {of : Data → Result A (List ℕ)} (wrap : A → Action) → ((body : Data) (x : A) → of body ≡ Ok x → IsPrintable (wrap x)) → Holds (of_fields key of wrap)
fields_hold key {of = of} wrap holds value e shallow is =
    let b = bind_ok (fields_of key value >>= of) (λ x. Ok (wrap x)) e is in
    let c = bind_ok (fields_of key value) of b.0 b.1 in
    subst IsPrintable (ok_is (wrap b.0) e b.2) (holds c.0 b.0 c.2)

known_hold : AllByRecursion Holds known_actions
known_hold =
    (value_holds (codes "commitInfo") commit_info (λ d h. h), (fields_hold _ protocol protocol_holds, (fields_hold _ meta_data meta_data_holds, (fields_hold _ add add_holds, (fields_hold _ txn txn_holds, (fields_hold _ remove remove_holds, (fields_hold _ domain_metadata (λ body m is. tt), (fields_hold _ checkpoint_metadata checkpoint_metadata_holds, (value_holds (codes "sidecar") sidecar (λ d h. h), tt)))))))))

-- an action among these, or another one
among_holds : (among : List Known) (key : List ℕ) (value : Data) (e : Action) → AllByRecursion Holds among → IsShallow value
    → (list_any (λ known. bytes_eq key known.0) among ≡ false → IsPrintable (other key value)) → action_among among key value ≡ Ok e → IsPrintable e
among_holds [] key value e hold shallow none is = subst IsPrintable (ok_is (other key value) e is) (none refl)
among_holds (known ∷ more) key value e hold shallow none is =
    elim (cases_Bool (bytes_eq key known.0)) [
      | inl same ↦ hold.0 value e shallow (rw same at is)
      | inr differs ↦ among_holds more key value e hold.1 shallow (λ h. none (rw differs h)) (rw differs at is)
    ]

action_holds : (key : List ℕ) (value : Data) (e : Action) → IsShallow value → action_of key value ≡ Ok e → IsPrintable e
unfolding action_of
action_holds key value e shallow is = among_holds known_actions key value e known_hold shallow (λ none. (none, shallow)) is

-- a value that was told is one that was found
refused_ok : {A E F : Type 0} (tell : E → F) (r : Result A E) (x : A) → refused_as tell r ≡ Ok x → r ≡ Ok x
refused_ok tell (Ok y) x e = let same : y ≡ x = cc in ap Ok same
refused_ok tell (Err w) x e = absurd cc

one_key_holds : (ms : Members) (e : Action) → depth (object ms) ≤ 127 → one_key ms ≡ Ok e → IsPrintable e
one_key_holds no_members e shallow is = absurd cc
one_key_holds (member key value no_members) e shallow is = action_holds key value e (omega arith) (refused_ok bad_field (action_of key value) e is)
one_key_holds (member key value (member k d ms)) e shallow is = absurd cc

stands_holds : (d : Data) (e : Action) → depth d ≤ 127 → stands_for d ≡ Ok e → IsPrintable e
stands_holds null e shallow is = absurd cc
stands_holds (boolean b) e shallow is = absurd cc
stands_holds (number n) e shallow is = absurd cc
stands_holds (string s) e shallow is = absurd cc
stands_holds (array ds) e shallow is = absurd cc
stands_holds (object ms) e shallow is = one_key_holds ms e shallow is

pub printable : {X : Type 0} (view : X → Action) (line : ℕ) (d : Data) (r : Result X ActionFault) → depth d ≤ 127 → ActionGives view line r (stands_for d) → IfOk r (λ x. IsPrintable (view x))
printable view line d (Ok x) shallow is = stands_holds d (view x) shallow is
printable view line d (Err e) shallow is = tt

pub AllByRecursion-push : {A : Type 0} (P : A → Type 0) (xs : List A) (x : A) → AllByRecursion P xs → P x → AllByRecursion P (xs ++ x ∷ [])
AllByRecursion-push P [] x h one = (one, tt)
AllByRecursion-push P (y ∷ xs) x h one = (h.0, AllByRecursion-push P xs x h.1 one)
