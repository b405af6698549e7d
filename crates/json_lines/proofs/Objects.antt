-- What a line is, and what is known of the lines that were read.
use Rattle.std.proofs.Common.{◌≡◌, ℕ, ◌+◌, ◌<◌, ◌==◌, Bool, true, false, List, [], ◌∷◌, ◌++◌, length, take, drop, get_or, map, Bor, Option, Some, None, refl, sym, ap, ◌∙◌, arith}
use Rattle.std.specs.Prelude.{is_some, IsSome, unwrap_or}
use Rattle.std.specs.List.{slice_split, AllByRecursion}
use Rattle.std.specs.Str.{is_utf8, IsUtf8}
use Rattle.std.proofs.lemmas.Str.{IsUtf8-from_is_utf8, is_utf8-from_IsUtf8}
use Rattle.std.proofs.lemmas.List.{take_more, drop_more, map_push, take_all, take-append-drop, length-take}
use Rattle.serde_json.specs.Data.{Data, null, boolean, number, string, array, object}
use Rattle.serde_json.specs.Find.{as_object}
use Rattle.serde_json.specs.Read.{read}
use Rattle.json_text.specs.Rows.{text_data}
use Rattle.json_lines.specs.Rows.{without_last_newline, input_lines, json_object_in_line, only_object, IsFirstBadLine}

-- ---- a line

at_read : (o : Option Data) → is_some (only_object o) ≡ true → Some (unwrap_or o null) ≡ only_object o
at_read (Some (object _)) e = refl
at_read _ e = absurd cc

none_there : (o : Option Data) → is_some o ≡ false → None ≡ o
none_there None e = refl
none_there (Some d) e = absurd cc

-- where the text of a line is an object, it is the line's
pub object_is : (line : List ℕ) → IsUtf8 line → is_some (only_object (read line)) ≡ true → Some (text_data line) ≡ json_object_in_line line
unfolding json_object_in_line
object_is line utf8 is = rw (is_utf8-from_IsUtf8 line utf8) (at_read (read line) is)

-- no other text is one
pub no_object : (line : List ℕ) → IsUtf8 line → is_some (only_object (read line)) ≡ false → None ≡ json_object_in_line line
unfolding json_object_in_line
no_object line utf8 other = rw (is_utf8-from_IsUtf8 line utf8) (none_there (only_object (read line)) other)

no_text_at : (line : List ℕ) (b : Bool) → is_utf8 line ≡ b → ¬ (IsUtf8 line) → None ≡ json_object_in_line line
unfolding json_object_in_line
no_text_at line true is none = absurd (none (IsUtf8-from_is_utf8 line is))
no_text_at line false is none = rw is refl

-- what is no text is no object
pub no_text : (line : List ℕ) → ¬ (IsUtf8 line) → None ≡ json_object_in_line line
no_text line none = no_text_at line (is_utf8 line) refl none

-- the value of a text that is an object
pub object_seen : (d : Data) → is_some (as_object d) ≡ is_some (only_object (Some d))
object_seen null = refl
object_seen (boolean b) = refl
object_seen (number n) = refl
object_seen (string s) = refl
object_seen (array ds) = refl
object_seen (object ms) = refl

-- ---- the lines

-- the lines of a text that isn't empty
abbrev pub parts_of : List ℕ → List (List ℕ)
parts_of text = slice_split (λ b. b == 10) (without_last_newline text)

-- they are its lines
pub lines_are_parts : (text : List ℕ) → (length text == 0) ≡ false → input_lines text ≡ parts_of text
lines_are_parts [] some = absurd cc
lines_are_parts (byte ∷ bytes) some = refl

-- the lines are, one after the other, the objects
abbrev pub Read : List (List ℕ) → List (Bor (List ℕ)) → Type 0
Read lines objects = map json_object_in_line lines ≡ map (λ object. Some (text_data object.now)) objects

-- one more line is a text
pub text_more : (lines : List (List ℕ)) (objects : List (Bor (List ℕ))) (i : ℕ) (line : List ℕ) (text : Bor (List ℕ)) → i < length lines → line ≡ get_or lines i line → text.now ≡ line
    → map (λ (o : Bor (List ℕ)). o.now) objects ≡ take i lines → map (λ (o : Bor (List ℕ)). o.now) (objects ++ text ∷ []) ≡ take (i + 1) lines
text_more lines objects i line text within here is so_far =
    let more : take (i + 1) lines ≡ take i lines ++ line ∷ [] = take_more lines i line within ∙ ap (λ (x : List ℕ). take i lines ++ x ∷ []) (sym here) in
    rw (more, map_push (λ (o : Bor (List ℕ)). o.now) objects text, so_far, is) refl

-- one more line
pub reads_on : (lines : List (List ℕ)) (objects : List (Bor (List ℕ))) (i : ℕ) (line : List ℕ) (text : Bor (List ℕ)) → i < length lines → line ≡ get_or lines i line → Some (text_data text.now) ≡ json_object_in_line line
    → Read (take i lines) objects → Read (take (i + 1) lines) (objects ++ text ∷ [])
reads_on lines objects i line text within here is so_far =
    let more : take (i + 1) lines ≡ take i lines ++ line ∷ [] = take_more lines i line within ∙ ap (λ (x : List ℕ). take i lines ++ x ∷ []) (sym here) in
    rw (more, map_push json_object_in_line (take i lines) line, map_push (λ (o : Bor (List ℕ)). Some (text_data o.now)) objects text, so_far, ← is) refl

-- no line is left
pub all_texts : (lines : List (List ℕ)) (objects : List (Bor (List ℕ))) (i : ℕ) → i ≡ length lines → map (λ (o : Bor (List ℕ)). o.now) objects ≡ take i lines → map (λ (o : Bor (List ℕ)). o.now) objects ≡ lines
all_texts lines objects i whole so_far = so_far ∙ take_all i lines (omega (arith, whole))

pub all_read : (lines : List (List ℕ)) (objects : List (Bor (List ℕ))) (i : ℕ) → i ≡ length lines → Read (take i lines) objects → Read lines objects
all_read lines objects i whole so_far = let every = take_all i lines (omega (arith, whole)) in rw every at so_far

-- lines that are objects are fine
all_fine : (lines : List (List ℕ)) (objects : List (Bor (List ℕ))) → Read lines objects → AllByRecursion (λ line. IsSome (json_object_in_line line)) lines
all_fine [] objects so_far = tt
all_fine (line ∷ lines) [] so_far = absurd cc
all_fine (line ∷ lines) (o ∷ objects) so_far =
    let first : json_object_in_line line ≡ Some (text_data o.now) = cc in
    let rest : Read lines objects = cc in
    (ap is_some first, all_fine lines objects rest)

-- the first bad line
pub first_bad : (text : List ℕ) (objects : List (Bor (List ℕ))) (i : ℕ) (line : List ℕ) (at_number : ℕ) → (length text == 0) ≡ false → i < length (parts_of text) → line ≡ get_or (parts_of text) i line → None ≡ json_object_in_line line
    → Read (take i (parts_of text)) objects → at_number ≡ i + 1 → IsFirstBadLine text at_number
first_bad text objects i line at_number some within here is so_far at = record {
  before = take i (parts_of text);
  bad = line;
  after = drop (i + 1) (parts_of text);
  parts =
      let rest : drop i (parts_of text) ≡ line ∷ drop (i + 1) (parts_of text) = drop_more (parts_of text) i line within ∙ ap (λ (x : List ℕ). x ∷ drop (i + 1) (parts_of text)) (sym here) in
      lines_are_parts text some ∙ sym (take-append-drop i (parts_of text)) ∙ ap (λ (x : List (List ℕ)). take i (parts_of text) ++ x) rest;
  place = let long : length (take i (parts_of text)) ≡ i = length-take i (parts_of text) ∙ omega arith in omega arith;
  fine = all_fine (take i (parts_of text)) objects so_far;
  fault = sym is;
}
