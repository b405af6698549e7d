-- What an action is printed as stands for that action.
use Rattle.std.proofs.Common.{◌≡◌, ℕ, ◌≤◌, Bool, true, false, bytes_eq, List, [], ◌∷◌, Option, Some, None, option_map, Result, Ok, refl, ap, ◌∙◌, arith}
use Rattle.std.specs.Prelude.{IfSome, codes, ◌||◌}
use Rattle.std.specs.List.{list_any}
use Rattle.serde_json.specs.Data.{Data, boolean, string, depth}
use Rattle.serde_json.specs.Find.{as_bool, as_str}
use Rattle.outcomes.specs.Results.{◌>>=◌, refused_as}
use Rattle.json_fields.specs.Kinds.{count, texts, text_map, no_texts, is_text_map}
use Rattle.json_fields.specs.KindLaws.{StandsFor, text_stands, truth_stands, count_stands, texts_stand, map_stands}
use Rattle.json_fields.specs.Printing.{Field, fields_object, one_field, count_data, IsCount, texts_data, unless_empty}
use Rattle.json_fields.proofs.Callers.{over_none, needed_again, optional_again, optional_of_kind, defaulted_again, unless_empty_again, AreShallow, fields_depth, texts_depth, text_map_depth, unless_empty_depth, leaf, map_if}
use Rattle.delta_actions.specs.Wrong.{bad_field}
use Rattle.delta_actions.specs.Kinds.{Format, file_path, format, parquet}
use Rattle.delta_actions.specs.KindLaws.{path_stands, format_stands}
use Rattle.delta_actions.specs.Action.{Action, commit_info, protocol, meta_data, add, txn, remove, domain_metadata, checkpoint_metadata, sidecar, other}
use Rattle.delta_actions.specs.Action.{ProtocolAction, MetaDataAction, AddAction, TxnAction, RemoveAction, DomainMetadataAction, CheckpointMetadataAction}
use Rattle.delta_actions.specs.Actions.{protocol_of, meta_data_of, add_of, txn_of, remove_of, domain_metadata_of, checkpoint_metadata_of, Known, known_actions, action_among, action_of, stands_for}
use Rattle.delta_actions.specs.Printing.{protocol_fields, meta_data_fields, add_fields, txn_fields, remove_fields, domain_metadata_fields, checkpoint_metadata_fields, format_fields, path_data, format_data}
use Rattle.delta_actions.specs.Printing.{protocol_data, meta_data_data, add_data, txn_data, remove_data, domain_metadata_data, checkpoint_metadata_data, data_of}
use Rattle.delta_actions.specs.Printing.{IsProtocol, IsMetaData, IsAdd, IsTxn, IsRemove, is_known, IsPrintable}

-- ---- kinds

if_text : (o : Option (List ℕ)) → IfSome o (λ t. StandsFor as_str (string t) t)
if_text None = tt
if_text (Some t) = text_stands t

as_itself : (o : Option Data) → o ≡ option_map (λ d. d) o
as_itself None = refl
as_itself (Some d) = refl

-- ---- actions

txn_again : (t : TxnAction) → IsTxn t → txn_of (txn_data t) ≡ Ok t
unfolding txn_of
txn_again t h =
    let fs = txn_fields t in
    rw (
      needed_again as_str (codes "appId") fs (string t.app_id) t.app_id refl (text_stands t.app_id),
      needed_again count (codes "version") fs (count_data t.version) t.version refl (count_stands t.version h.version),
      optional_of_kind count count_data IsCount count_stands (codes "lastUpdated") fs t.last_updated h.last_updated (over_none (option_map count_data t.last_updated)),
    ) refl

add_again : (a : AddAction) → IsAdd a → add_of (add_data a) ≡ Ok a
unfolding add_of
add_again a h =
    let fs = add_fields a in
    rw (
      needed_again file_path (codes "path") fs (path_data a.path) a.path refl (path_stands a.path h.path),
      needed_again count (codes "size") fs (count_data a.size) a.size refl (count_stands a.size h.size),
      needed_again as_bool (codes "dataChange") fs (boolean a.data_change) a.data_change refl (truth_stands a.data_change),
      defaulted_again text_map (codes "partitionValues") no_texts fs a.partition_values a.partition_values refl (map_stands a.partition_values h.partition_values),
      defaulted_again count (codes "modificationTime") 0 fs (count_data a.modification_time) a.modification_time refl (count_stands a.modification_time h.modification_time),
      optional_again as_str (codes "stats") fs string a.stats (over_none (option_map string a.stats)) (if_text a.stats),
      optional_of_kind text_map (λ d. d) (λ d. is_text_map d ≡ true) map_stands (codes "tags") fs a.tags h.tags (over_none a.tags ∙ as_itself a.tags),
    ) refl

meta_data_again : (m : MetaDataAction) → IsMetaData m → meta_data_of (meta_data_data m) ≡ Ok m
unfolding meta_data_of
meta_data_again m h =
    let fs = meta_data_fields m in
    rw (
      needed_again as_str (codes "id") fs (string m.id) m.id refl (text_stands m.id),
      needed_again as_str (codes "schemaString") fs (string m.schema_string) m.schema_string refl (text_stands m.schema_string),
      optional_again as_str (codes "name") fs string m.name (over_none (option_map string m.name)) (if_text m.name),
      optional_again as_str (codes "description") fs string m.description (over_none (option_map string m.description)) (if_text m.description),
      defaulted_again format (codes "format") parquet fs (format_data m.format) m.format refl (format_stands m.format h.options),
      defaulted_again texts (codes "partitionColumns") [] fs (texts_data m.partition_columns) m.partition_columns refl (texts_stand m.partition_columns),
      optional_of_kind count count_data IsCount count_stands (codes "createdTime") fs m.created_time h.created_time (over_none (option_map count_data m.created_time)),
      defaulted_again text_map (codes "configuration") no_texts fs m.configuration m.configuration refl (map_stands m.configuration h.configuration),
    ) refl

protocol_again : (p : ProtocolAction) → IsProtocol p → protocol_of (protocol_data p) ≡ Ok p
unfolding protocol_of
protocol_again p h =
    let fs = protocol_fields p in
    rw (
      needed_again count (codes "minReaderVersion") fs (count_data p.min_reader_version) p.min_reader_version refl (count_stands p.min_reader_version h.min_reader_version),
      needed_again count (codes "minWriterVersion") fs (count_data p.min_writer_version) p.min_writer_version refl (count_stands p.min_writer_version h.min_writer_version),
      unless_empty_again (codes "readerFeatures") fs p.reader_features (over_none (unless_empty p.reader_features)),
      unless_empty_again (codes "writerFeatures") fs p.writer_features (over_none (unless_empty p.writer_features)),
    ) refl

remove_again : (r : RemoveAction) → IsRemove r → remove_of (remove_data r) ≡ Ok r
unfolding remove_of
remove_again r h =
    let fs = remove_fields r in
    rw (
      needed_again file_path (codes "path") fs (path_data r.path) r.path refl (path_stands r.path h.path),
      needed_again as_bool (codes "dataChange") fs (boolean r.data_change) r.data_change refl (truth_stands r.data_change),
      optional_of_kind count count_data IsCount count_stands (codes "deletionTimestamp") fs r.deletion_timestamp h.deletion_timestamp (over_none (option_map count_data r.deletion_timestamp)),
    ) refl

domain_metadata_again : (m : DomainMetadataAction) → domain_metadata_of (domain_metadata_data m) ≡ Ok m
unfolding domain_metadata_of
domain_metadata_again m =
    let fs = domain_metadata_fields m in
    rw (
      needed_again as_str (codes "domain") fs (string m.domain) m.domain refl (text_stands m.domain),
      defaulted_again as_str (codes "configuration") [] fs (string m.configuration) m.configuration refl (text_stands m.configuration),
      defaulted_again as_bool (codes "removed") false fs (boolean m.removed) m.removed refl (truth_stands m.removed),
    ) refl

checkpoint_metadata_again : (m : CheckpointMetadataAction) → IsCount m.version → checkpoint_metadata_of (checkpoint_metadata_data m) ≡ Ok m
unfolding checkpoint_metadata_of
checkpoint_metadata_again m h =
    let fs = checkpoint_metadata_fields m in
    rw (needed_again count (codes "version") fs (count_data m.version) m.version refl (count_stands m.version h)) refl

neither : (a b : Bool) → (a || b) ≡ false → (a ≡ false) × (b ≡ false)
neither true b h = absurd cc
neither false b h = (refl, h)

-- a key that none of these actions has
among_none : (among : List Known) (key : List ℕ) (d : Data) → list_any (λ known. bytes_eq key known.0) among ≡ false → action_among among key d ≡ Ok (other key d)
among_none [] key d h = refl
among_none (known ∷ more) key d h =
    let both = neither (bytes_eq key known.0) (list_any (λ known. bytes_eq key known.0) more) h in
    rw both.0 (among_none more key d both.1)

other_again : (key : List ℕ) (d : Data) → is_known key ≡ false → action_of key d ≡ Ok (other key d)
unfolding action_of
other_again key d h = among_none known_actions key d h

pub stands_again : (e : Action) → IsPrintable e → stands_for (data_of e) ≡ Ok e
unfolding action_of
stands_again (commit_info d) h = refl
stands_again (protocol p) h = ap (λ (r : Result ProtocolAction (List ℕ)). refused_as bad_field (r >>= λ x. Ok (protocol x))) (protocol_again p h)
stands_again (meta_data m) h = ap (λ (r : Result MetaDataAction (List ℕ)). refused_as bad_field (r >>= λ x. Ok (meta_data x))) (meta_data_again m h)
stands_again (add a) h = ap (λ (r : Result AddAction (List ℕ)). refused_as bad_field (r >>= λ x. Ok (add x))) (add_again a h)
stands_again (txn t) h = ap (λ (r : Result TxnAction (List ℕ)). refused_as bad_field (r >>= λ x. Ok (txn x))) (txn_again t h)
stands_again (remove r) h = ap (λ (r : Result RemoveAction (List ℕ)). refused_as bad_field (r >>= λ x. Ok (remove x))) (remove_again r h)
stands_again (domain_metadata m) h = ap (λ (r : Result DomainMetadataAction (List ℕ)). refused_as bad_field (r >>= λ x. Ok (domain_metadata x))) (domain_metadata_again m)
stands_again (checkpoint_metadata m) h = ap (λ (r : Result CheckpointMetadataAction (List ℕ)). refused_as bad_field (r >>= λ x. Ok (checkpoint_metadata x))) (checkpoint_metadata_again m h)
stands_again (sidecar d) h = refl
stands_again (other key d) h = ap (refused_as bad_field) (other_again key d h.0)

-- ---- what is printed is shallow enough to be read

line_depth : (key : List ℕ) (d : Data) → depth d ≤ 126 → depth (one_field key d) ≤ 127
line_depth key d h = omega arith

body_depth : (d : Data) → depth d ≤ 3 → depth d ≤ 126
body_depth d h = omega arith

protocol_depth : (p : ProtocolAction) → AreShallow 2 (protocol_fields p)
protocol_depth p = (omega arith, (omega arith, (unless_empty_depth p.reader_features 2 (omega arith), (unless_empty_depth p.writer_features 2 (omega arith), tt))))

format_depth : (f : Format) → is_text_map f.options ≡ true → AreShallow 1 (format_fields f)
format_depth f h = (text_map_depth f.options 1 (omega arith) h, (omega arith, tt))

meta_data_depth : (m : MetaDataAction) → IsMetaData m → AreShallow 2 (meta_data_fields m)
meta_data_depth m h = (text_map_depth m.configuration 2 (omega arith) h.configuration, (leaf count_data (λ n. refl) m.created_time 2, (leaf string (λ t. refl) m.description 2, (fields_depth (format_fields m.format) 1 (format_depth m.format h.options), (omega arith, (leaf string (λ t. refl) m.name 2, (texts_depth m.partition_columns 2 (omega arith), (omega arith, tt))))))))

add_depth : (a : AddAction) → IsAdd a → AreShallow 2 (add_fields a)
add_depth a h = (omega arith, (omega arith, (text_map_depth a.partition_values 2 (omega arith) h.partition_values, (omega arith, (omega arith, (leaf string (λ t. refl) a.stats 2, (map_if a.tags 2 (omega arith) h.tags, tt)))))))

txn_depth : (t : TxnAction) → AreShallow 2 (txn_fields t)
txn_depth t = (omega arith, (leaf count_data (λ n. refl) t.last_updated 2, (omega arith, tt)))

remove_depth : (r : RemoveAction) → AreShallow 2 (remove_fields r)
remove_depth r = (omega arith, (leaf count_data (λ n. refl) r.deletion_timestamp 2, (omega arith, tt)))

domain_metadata_depth : (m : DomainMetadataAction) → AreShallow 2 (domain_metadata_fields m)
domain_metadata_depth m = (omega arith, (omega arith, (omega arith, tt)))

checkpoint_metadata_depth : (m : CheckpointMetadataAction) → AreShallow 2 (checkpoint_metadata_fields m)
checkpoint_metadata_depth m = (omega arith, tt)

fields_line_depth : (key : List ℕ) (fs : List Field) → AreShallow 2 fs → depth (one_field key (fields_object fs)) ≤ 127
fields_line_depth key fs h = line_depth key (fields_object fs) (body_depth (fields_object fs) (fields_depth fs 2 h))

pub is_shallow : (e : Action) → IsPrintable e → depth (data_of e) ≤ 127
is_shallow (commit_info d) h = line_depth (codes "commitInfo") d h
is_shallow (protocol p) h = fields_line_depth (codes "protocol") (protocol_fields p) (protocol_depth p)
is_shallow (meta_data m) h = fields_line_depth (codes "metaData") (meta_data_fields m) (meta_data_depth m h)
is_shallow (add a) h = fields_line_depth (codes "add") (add_fields a) (add_depth a h)
is_shallow (txn t) h = fields_line_depth (codes "txn") (txn_fields t) (txn_depth t)
is_shallow (remove r) h = fields_line_depth (codes "remove") (remove_fields r) (remove_depth r)
is_shallow (domain_metadata m) h = fields_line_depth (codes "domainMetadata") (domain_metadata_fields m) (domain_metadata_depth m)
is_shallow (checkpoint_metadata m) h = fields_line_depth (codes "checkpointMetadata") (checkpoint_metadata_fields m) (checkpoint_metadata_depth m)
is_shallow (sidecar d) h = line_depth (codes "sidecar") d h
is_shallow (other key d) h = line_depth key d h.1
