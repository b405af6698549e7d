-- No float stands in the line of an action of a key, nor in that of a checkpoint's metadata.
use Rattle.std.proofs.Common.{◌≡◌, ℕ, Bool, true, false, ◌||◌, ◌&&◌, List, [], ◌∷◌, map, Option, Some, None, IfSome, refl, codes, option_map}
use Rattle.std.specs.Cmp.Lexicographic.{slice_cmp}
use Rattle.std.specs.List.{AllByRecursion}
use Rattle.std.specs.Ordering.{match_ordering, nat_cmp}
use Rattle.std.specs.declared.cmp.Ordering.{Ordering}
use Rattle.std.specs.declared.cmp.Ordering.TheVariants.{Less, Equal, Greater}
use Rattle.serde_json.specs.Data.{Data, null, boolean, number, string, array, object, Members, no_members, member, put}
use Rattle.serde_json.specs.View.{items_of}
use Rattle.serde_json.specs.Written.{has_float, items_have_float, members_have_float}
use Rattle.json_fields.specs.Kinds.{are_texts, is_text_map, is_text_or_null}
use Rattle.json_fields.specs.Printing.{Field, count_data, fields_object, one_field, put_fields, put_if, unless_empty}
use Rattle.delta_actions.specs.Action.{Action, protocol, meta_data, add, txn, remove, domain_metadata, checkpoint_metadata}
use Rattle.delta_actions.specs.Action.{ProtocolAction, MetaDataAction, AddAction, TxnAction, RemoveAction, DomainMetadataAction, CheckpointMetadataAction}
use Rattle.delta_actions.specs.Printing.{IsPrintable, IsAdd, IsMetaData, add_data, add_fields, data_of, domain_metadata_data, domain_metadata_fields, format_fields, meta_data_data, meta_data_fields, protocol_data, protocol_fields, remove_data, remove_fields, txn_data, txn_fields}
use Rattle.delta_checkpoint.specs.Checkpoints.{is_metadata}
use Rattle.delta_replay.specs.Keys.{Key, the_protocol, the_meta_data, number_of, domain_of, file_of, is_of}

-- no float stands in a value
abbrev IsPlain : Data → Type 0
IsPlain d = has_float d ≡ false

-- ---- objects of fields

or_parts : (a b : Bool) → (a || b) ≡ false → (a ≡ false) × (b ≡ false)
or_parts true b is = absurd cc
or_parts false b is = (refl, is)

or_none : (a b : Bool) → a ≡ false → b ≡ false → (a || b) ≡ false
or_none true b first second = absurd cc
or_none false b first second = second

put_by : (o : Ordering) (k l : List ℕ) (d e : Data) (ms more : Members) → IsPlain d → members_have_float (member l e ms) ≡ false → members_have_float more ≡ false
    → members_have_float (match_ordering o (member k d (member l e ms)) (member l d ms) (member l e more)) ≡ false
put_by Less k l d e ms more plain all later = or_none (has_float d) (has_float e || members_have_float ms) plain all
put_by Equal k l d e ms more plain all later = or_none (has_float d) (members_have_float ms) plain (or_parts (has_float e) (members_have_float ms) all).1
put_by Greater k l d e ms more plain all later = or_none (has_float e) (members_have_float more) (or_parts (has_float e) (members_have_float ms) all).0 later

put_plain : (k : List ℕ) (d : Data) (ms : Members) → IsPlain d → members_have_float ms ≡ false → members_have_float (put k d ms) ≡ false
put_plain k d no_members plain all = or_none (has_float d) false plain refl
put_plain k d (member l e ms) plain all =
    put_by (slice_cmp nat_cmp k l) k l d e ms (put k d ms) plain all (put_plain k d ms plain (or_parts (has_float e) (members_have_float ms) all).1)

put_if_plain : (name : List ℕ) (value : Option Data) (ms : Members) → IfSome value IsPlain → members_have_float ms ≡ false → members_have_float (put_if name value ms) ≡ false
put_if_plain name None ms plain all = all
put_if_plain name (Some d) ms plain all = put_plain name d ms plain all

put_fields_plain : (fs : List Field) (ms : Members) → AllByRecursion (λ f. IfSome f.1 IsPlain) fs → members_have_float ms ≡ false → members_have_float (put_fields ms fs) ≡ false
put_fields_plain [] ms plain all = all
put_fields_plain (f ∷ fs) ms plain all = put_fields_plain fs (put_if f.0 f.1 ms) plain.1 (put_if_plain f.0 f.1 ms plain.0 all)

fields_plain : (fs : List Field) → AllByRecursion (λ f. IfSome f.1 IsPlain) fs → IsPlain (fields_object fs)
fields_plain fs plain = put_fields_plain fs no_members plain refl

one_plain : (key : List ℕ) (d : Data) → IsPlain d → IsPlain (one_field key d)
one_plain key d plain = fields_plain ((key, Some d) ∷ []) (plain, tt)

-- ---- kinds of fields

items_plain : (ts : List (List ℕ)) → items_have_float (items_of (map string ts)) ≡ false
items_plain [] = refl
items_plain (t ∷ ts) = items_plain ts

unless_empty_plain : (ts : List (List ℕ)) → IfSome (unless_empty ts) IsPlain
unless_empty_plain [] = tt
unless_empty_plain (t ∷ ts) = items_plain (t ∷ ts)

text_plain : (text : Option (List ℕ)) → IfSome (option_map string text) IsPlain
text_plain None = tt
text_plain (Some text) = refl

count_plain : (count : Option ℕ) → IfSome (option_map count_data count) IsPlain
count_plain None = tt
count_plain (Some n) = refl

and_true : (a b : Bool) → (a && b) ≡ true → (a ≡ true) × (b ≡ true)
and_true true b is = (refl, is)
and_true false b is = absurd cc

text_or_null_plain : (d : Data) → is_text_or_null d ≡ true → IsPlain d
text_or_null_plain null is = refl
text_or_null_plain (boolean b) is = absurd cc
text_or_null_plain (number n) is = absurd cc
text_or_null_plain (string s) is = refl
text_or_null_plain (array ds) is = absurd cc
text_or_null_plain (object ms) is = absurd cc

members_plain : (ms : Members) → are_texts ms ≡ true → members_have_float ms ≡ false
members_plain no_members is = refl
members_plain (member k d ms) is =
    let parts = and_true (is_text_or_null d) (are_texts ms) is in
    or_none (has_float d) (members_have_float ms) (text_or_null_plain d parts.0) (members_plain ms parts.1)

map_plain : (d : Data) → is_text_map d ≡ true → IsPlain d
map_plain null is = absurd cc
map_plain (boolean b) is = absurd cc
map_plain (number n) is = absurd cc
map_plain (string s) is = absurd cc
map_plain (array ds) is = absurd cc
map_plain (object ms) is = members_plain ms is

maps_plain : (d : Option Data) → IfSome d (λ d. is_text_map d ≡ true) → IfSome d IsPlain
maps_plain None is = tt
maps_plain (Some d) is = map_plain d is

-- ---- actions

protocol_plain : (p : ProtocolAction) → IsPlain (data_of (protocol p))
protocol_plain p = one_plain (codes "protocol") (protocol_data p) (fields_plain (protocol_fields p) (refl, (refl, (unless_empty_plain p.reader_features, (unless_empty_plain p.writer_features, tt)))))

meta_data_plain : (m : MetaDataAction) → IsMetaData m → IsPlain (data_of (meta_data m))
meta_data_plain m is = one_plain (codes "metaData") (meta_data_data m) (fields_plain (meta_data_fields m) (
  map_plain m.configuration is.configuration,
  (
    count_plain m.created_time,
    (
      text_plain m.description,
      (
        fields_plain (format_fields m.format) (map_plain m.format.options is.options, (refl, tt)),
        (refl, (text_plain m.name, (items_plain m.partition_columns, (refl, tt)))),
      ),
    ),
  ),
))

add_plain : (a : AddAction) → IsAdd a → IsPlain (data_of (add a))
add_plain a is = one_plain (codes "add") (add_data a) (fields_plain (add_fields a) (
  refl,
  (refl, (map_plain a.partition_values is.partition_values, (refl, (refl, (text_plain a.stats, (maps_plain a.tags is.tags, tt)))))),
))

txn_plain : (t : TxnAction) → IsPlain (data_of (txn t))
txn_plain t = one_plain (codes "txn") (txn_data t) (fields_plain (txn_fields t) (refl, (count_plain t.last_updated, (refl, tt))))

remove_plain : (r : RemoveAction) → IsPlain (data_of (remove r))
remove_plain r = one_plain (codes "remove") (remove_data r) (fields_plain (remove_fields r) (refl, (count_plain r.deletion_timestamp, (refl, tt))))

domain_metadata_plain : (m : DomainMetadataAction) → IsPlain (data_of (domain_metadata m))
domain_metadata_plain m = one_plain (codes "domainMetadata") (domain_metadata_data m) (fields_plain (domain_metadata_fields m) (refl, (refl, (refl, tt))))

checkpoint_metadata_plain : (m : CheckpointMetadataAction) → IsPlain (data_of (checkpoint_metadata m))
checkpoint_metadata_plain m = refl

-- No float stands in the line of an action of a key.
pub keyed_plain : (key : Key) (action : Action) → IsPrintable action → is_of key action ≡ true → has_float (data_of action) ≡ false
keyed_plain the_protocol (protocol p) printable is = protocol_plain p
keyed_plain the_protocol _ printable is = absurd cc
keyed_plain the_meta_data (meta_data m) printable is = meta_data_plain m printable
keyed_plain the_meta_data _ printable is = absurd cc
keyed_plain (number_of application) (txn t) printable is = txn_plain t
keyed_plain (number_of application) _ printable is = absurd cc
keyed_plain (domain_of domain) (domain_metadata m) printable is = domain_metadata_plain m
keyed_plain (domain_of domain) _ printable is = absurd cc
keyed_plain (file_of path) (add a) printable is = add_plain a printable
keyed_plain (file_of path) (remove r) printable is = remove_plain r
keyed_plain (file_of path) _ printable is = absurd cc

-- Nor in that of a checkpoint's metadata.
pub metadata_plain : (action : Action) → is_metadata action ≡ true → has_float (data_of action) ≡ false
metadata_plain (checkpoint_metadata m) is = checkpoint_metadata_plain m
metadata_plain _ is = absurd cc
