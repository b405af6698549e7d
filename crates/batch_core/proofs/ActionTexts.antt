-- The actions of an append read back from their text.
use Rattle.std.proofs.Common.{◌≡◌, ◌<◌, ◌^◌, ◌-◌, ◌/◌, ◌%◌, ℕ, zero, suc, length, replicate, get_or, List, [], ◌∷◌, Bool, true, false, Some, None, codes, decimal, refl, arith}
use Rattle.std.specs.Str.{IsUtf8}
use Rattle.std.proofs.lemmas.Fmt.{IsAscii-decimal}
use Rattle.std.proofs.lemmas.Str.{IsUtf8-append, IsUtf8-from_ascii}
use Rattle.std.proofs.lemmas.Bool.{and_from, and_parts}
use Rattle.hex.specs.Hex.{encode_lower, encode_with, lower_digits}
use Rattle.json.specs.Print.{quoted}
use Rattle.json.proofs.Printed.Decimals.{IsNumber-decimal}
use Rattle.json.proofs.Printed.Utf8.{are_ascii, IsUtf8-are_ascii, IsUtf8-boolean, IsUtf8-quoted}
use Rattle.serde_json.specs.Data.{Data, null, boolean, number, unsigned, string, array, object, Members, no_members, member}
use Rattle.serde_json.specs.Written.{comma_if, compact_text, members_text, number_text, unless_float}
use Rattle.serde_json.proofs.Numbers.{number_of-decimal}
use Rattle.serde_json.proofs.Texts.{unless_float-number_of}
use Rattle.delta_actions.specs.Kinds.{no_texts}
use Rattle.delta_actions.specs.Action.{commit_info, txn, add}
use Rattle.delta_actions.specs.Names.{data_file_name, twenty_digits}
use Rattle.delta_actions.specs.Printing.{data_of}
use Rattle.batch_core.proofs.TextReads.{IsReadBack}

comma_utf8 : (later : Bool) → IsUtf8 (comma_if later)
comma_utf8 true = IsUtf8-are_ascii (44 ∷ []) refl
comma_utf8 false = IsUtf8-are_ascii [] refl

no_members_utf8 : (later : Bool) → IsUtf8 (members_text later no_members)
no_members_utf8 later = IsUtf8-are_ascii (125 ∷ []) refl

member_utf8 : (later : Bool) (k : List ℕ) (d : Data) (ms : Members) → IsUtf8 k → IsUtf8 (compact_text d) → IsUtf8 (members_text true ms) → IsUtf8 (members_text later (member k d ms))
member_utf8 later k d ms key value rest =
    IsUtf8-append (comma_if later) _ (comma_utf8 later)
    (IsUtf8-append (quoted k) _ (IsUtf8-quoted k key) (IsUtf8-append (58 ∷ []) _ (IsUtf8-are_ascii (58 ∷ []) refl) (IsUtf8-append (compact_text d) _ value rest)))

object_utf8 : (ms : Members) → IsUtf8 (members_text false ms) → IsUtf8 (compact_text (object ms))
object_utf8 ms utf8 = IsUtf8-append (123 ∷ []) (members_text false ms) (IsUtf8-are_ascii (123 ∷ []) refl) utf8

-- the texts in it are text; it has no arrays
abbrev mutual
  AreTexts : Data → Type 0
  AreTexts null = Unit {0}
  AreTexts (boolean b) = Unit {0}
  AreTexts (number n) = IsUtf8 (number_text n)
  AreTexts (string s) = IsUtf8 s
  AreTexts (array ds) = ⊥
  AreTexts (object ms) = AreMembers ms

  AreMembers : Members → Type 0
  AreMembers no_members = Unit {0}
  AreMembers (member k d ms) = IsUtf8 k × (AreTexts d × AreMembers ms)

mutual
  data_utf8 : (d : Data) → AreTexts d → IsUtf8 (compact_text d)
  data_utf8 null is = IsUtf8-are_ascii (codes "null") refl
  data_utf8 (boolean b) is = IsUtf8-boolean b
  data_utf8 (number n) is = is
  data_utf8 (string s) is = IsUtf8-quoted s is
  data_utf8 (array ds) is = absurd is
  data_utf8 (object ms) is = object_utf8 ms (members_utf8 false ms is)

  members_utf8 : (later : Bool) (ms : Members) → AreMembers ms → IsUtf8 (members_text later ms)
  members_utf8 later no_members is = no_members_utf8 later
  members_utf8 later (member k d ms) is = member_utf8 later k d ms is.0 (data_utf8 d is.1.0) (members_utf8 true ms is.1.1)

key : (k : List ℕ) → are_ascii k ≡ true → IsUtf8 k
key k is = IsUtf8-are_ascii k is

decimal_utf8 : (n : ℕ) → n < 2 ^ 64 → IsUtf8 (decimal n)
decimal_utf8 n small = IsUtf8-from_ascii (decimal n) (IsAscii-decimal n small)

whole : (n : ℕ) → n < 2 ^ 64 → unless_float (decimal n) ≡ decimal n
whole n small = unless_float-number_of (decimal n) (unsigned n) (number_of-decimal n small)

-- how many rows a file has
pub stats_utf8 : (rows : ℕ) → rows < 2 ^ 64 → IsUtf8 (compact_text (object (member (codes "numRecords") (number (unsigned rows)) no_members)))
stats_utf8 rows small = data_utf8 (object (member (codes "numRecords") (number (unsigned rows)) no_members)) (key (codes "numRecords") refl, (decimal_utf8 rows small, tt))

-- what a commit does, and when
pub info_back : (operation : List ℕ) (at : ℕ) → IsUtf8 operation → at < 2 ^ 64
    → IsReadBack (data_of (commit_info (object (member (codes "operation") (string operation) (member (codes "timestamp") (number (unsigned at)) no_members)))))
info_back operation at utf8 small = record {
  utf8 = data_utf8 (data_of (commit_info (object (member (codes "operation") (string operation) (member (codes "timestamp") (number (unsigned at)) no_members))))) (key (codes "commitInfo") refl, ((key (codes "operation") refl, (utf8, (key (codes "timestamp") refl, (decimal_utf8 at small, tt)))), tt));
  numbers = ((tt, (IsNumber-decimal at small, tt)), tt);
  shallow = omega arith;
  same = rw (number_of-decimal at small) refl;
  integers = rw (whole at small) refl;
}

-- the number of a batch
pub txn_back : (application : List ℕ) (n at : ℕ) → IsUtf8 application → n < 2 ^ 64 → at < 2 ^ 64 → IsReadBack (data_of (txn (record { app_id = application; version = n; last_updated = Some at })))
txn_back application n at utf8 small at_small = record {
  utf8 = data_utf8 (data_of (txn (record { app_id = application; version = n; last_updated = Some at }))) (key (codes "txn") refl, ((key (codes "appId") refl, (utf8, (key (codes "lastUpdated") refl, (decimal_utf8 at at_small, (key (codes "version") refl, (decimal_utf8 n small, tt)))))), tt));
  numbers = ((tt, (IsNumber-decimal at at_small, (IsNumber-decimal n small, tt))), tt);
  shallow = omega arith;
  same = rw (number_of-decimal at at_small, number_of-decimal n small) refl;
  integers = rw (whole at at_small, whole n small) refl;
}

-- its file
pub add_back : (name path_key stats : List ℕ) (size at : ℕ) → IsUtf8 name → IsUtf8 stats → size < 2 ^ 64 → at < 2 ^ 64
    → IsReadBack (data_of (add (record { path = record { text = name; key = path_key }; size = size; data_change = true; partition_values = no_texts; modification_time = at; stats = Some stats; tags = None })))
add_back name path_key stats size at utf8 stats_so size_small at_small = record {
  utf8 = data_utf8 (data_of (add (record { path = record { text = name; key = path_key }; size = size; data_change = true; partition_values = no_texts; modification_time = at; stats = Some stats; tags = None }))) (key (codes "add") refl, ((key (codes "dataChange") refl, (tt, (key (codes "modificationTime") refl, (decimal_utf8 at at_small, (key (codes "partitionValues") refl, (tt, (key (codes "path") refl, (utf8, (key (codes "size") refl, (decimal_utf8 size size_small, (key (codes "stats") refl, (stats_so, tt)))))))))))), tt));
  numbers = ((tt, (IsNumber-decimal at at_small, (tt, (tt, (IsNumber-decimal size size_small, (tt, tt)))))), tt);
  shallow = omega arith;
  same = rw (number_of-decimal at at_small, number_of-decimal size size_small) refl;
  integers = rw (whole at at_small, whole size size_small) refl;
}

-- ---- the name of a batch's file

zeros_utf8 : (n : ℕ) → IsUtf8 (replicate n 48)
zeros_utf8 zero = key [] refl
zeros_utf8 (suc n) = IsUtf8-append (48 ∷ []) (replicate n 48) (key (48 ∷ []) refl) (zeros_utf8 n)

digit_utf8 : (table : List ℕ) (k : ℕ) → are_ascii table ≡ true → are_ascii (get_or table k 0 ∷ []) ≡ true
digit_utf8 [] zero is = refl
digit_utf8 [] (suc k) is = refl
digit_utf8 (b ∷ table) zero is = and_from _ true (and_parts _ (are_ascii table) is).0 refl
digit_utf8 (b ∷ table) (suc k) is = digit_utf8 table k (and_parts _ (are_ascii table) is).1

hex_utf8 : (bytes : List ℕ) → IsUtf8 (encode_with lower_digits bytes)
unfolding encode_with
hex_utf8 [] = key [] refl
hex_utf8 (b ∷ bytes) =
    IsUtf8-append (get_or lower_digits (b / 16) 0 ∷ []) _ (key _ (digit_utf8 lower_digits (b / 16) refl))
    (IsUtf8-append (get_or lower_digits (b % 16) 0 ∷ []) (encode_with lower_digits bytes) (key _ (digit_utf8 lower_digits (b % 16) refl)) (hex_utf8 bytes))

pub file_name_utf8 : (application : List ℕ) (n : ℕ) → n < 2 ^ 64 → IsUtf8 (data_file_name application n)
file_name_utf8 application n small =
    IsUtf8-append (codes "part-") _ (key (codes "part-") refl)
    (IsUtf8-append (encode_lower application) _ (hex_utf8 application)
    (IsUtf8-append (codes "-") _ (key (codes "-") refl)
    (IsUtf8-append (twenty_digits n) (codes ".parquet") (IsUtf8-append (replicate (20 - length (decimal n)) 48) (decimal n) (zeros_utf8 (20 - length (decimal n))) (decimal_utf8 n small)) (key (codes ".parquet") refl))))
