-- What is printed is of its kind again, and what is read can be printed: the laws of each kind.
use Rattle.std.specs.Prelude.{◌≡◌, ℕ, ◌<◌, ◌^◌, List, [], ◌∷◌, map, Bool, true, false, cond, Option, Some, None, option_and_then, nat_lt, refl}
use Rattle.std.proofs.lemmas.Bool.{lt-ltb, ltb-true}
use Rattle.serde_json.specs.Data.{Data, null, boolean, number, string, array, object}
use Rattle.serde_json.specs.Find.{as_bool, as_str, as_number, as_u64}
use Rattle.serde_json.specs.View.{items_of}
use Rattle.json_fields.specs.Kinds.{unless_null, below_limit, count, item_texts, texts, is_text_map, text_map}
use Rattle.json_fields.specs.Printing.{count_data, IsCount, texts_data}

-- a value stands for x, and isn't null
pub record StandsFor {A : Type 0} (kind : Data → Option A) (d : Data) (x : A) : Type 0 where
  pub is_there : unless_null d ≡ Some d
  pub is : kind d ≡ Some x

pub text_stands : (t : List ℕ) → StandsFor as_str (string t) t
text_stands t = record { is_there = refl; is = refl }

pub truth_stands : (b : Bool) → StandsFor as_bool (boolean b) b
truth_stands b = record { is_there = refl; is = refl }

-- ---- counts

pub count_stands : (n : ℕ) → IsCount n → StandsFor count (count_data n) n
count_stands n lt = record { is_there = refl; is = rw (lt-ltb n (2 ^ 63) lt) refl }

limited : (b : Bool) (m n : ℕ) → nat_lt m (2 ^ 63) ≡ b → cond b (Some m) None ≡ Some n → n < 2 ^ 63
limited true m n is e = let same : m ≡ n = cc in rw (← same) (ltb-true m (2 ^ 63) is)
limited false m n is e = absurd cc

limit_holds : (o : Option ℕ) (n : ℕ) → option_and_then below_limit o ≡ Some n → n < 2 ^ 63
limit_holds None n e = absurd cc
limit_holds (Some m) n e = limited (nat_lt m (2 ^ 63)) m n refl e

pub is_count : (d : Data) (n : ℕ) → count d ≡ Some n → IsCount n
is_count d n e = limit_holds (option_and_then as_u64 (as_number d)) n e

-- ---- lists of texts

items_again : (ts : List (List ℕ)) → item_texts (items_of (map string ts)) ≡ Some ts
items_again [] = refl
items_again (t ∷ ts) = rw (items_again ts) refl

pub texts_stand : (ts : List (List ℕ)) → StandsFor texts (texts_data ts) ts
texts_stand ts = record { is_there = refl; is = items_again ts }

-- ---- maps of texts

map_is_there : (d : Data) → is_text_map d ≡ true → unless_null d ≡ Some d
map_is_there null h = absurd cc
map_is_there (boolean b) h = refl
map_is_there (number n) h = refl
map_is_there (string s) h = refl
map_is_there (array ds) h = refl
map_is_there (object ms) h = refl

pub map_stands : (d : Data) → is_text_map d ≡ true → StandsFor text_map d d
map_stands d h = record { is_there = map_is_there d h; is = rw h refl }

kept_map : (b : Bool) (d e : Data) → is_text_map d ≡ b → cond b (Some d) None ≡ Some e → is_text_map e ≡ true
kept_map true d e is same = let s : d ≡ e = cc in rw (← s) is
kept_map false d e is same = absurd cc

pub is_map : (d e : Data) → text_map d ≡ Some e → is_text_map e ≡ true
is_map d e h = kept_map (is_text_map d) d e refl h
