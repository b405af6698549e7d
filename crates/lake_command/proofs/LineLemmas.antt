-- Whether a line of a text passes a test, by the lines that were looked at.
use Rattle.std.proofs.Common.{◌≡◌, ℕ, ◌+◌, ◌<◌, ◌≤◌, Bool, true, false, List, [], ◌∷◌, ◌++◌, length, take, drop, get_or, refl, sym, ap, ◌∙◌, append-nil, append_assoc, arith}
use Rattle.std.specs.Prelude.{◌||◌, map}
use Rattle.std.specs.List.{list_any}
use Rattle.std.proofs.lemmas.List.{map-append, take_more, take_all, take-append-drop}
use Rattle.std.proofs.lemmas.List.Folds.{list_any-append}
use Rattle.outcomes.specs.Lines.{with_newline}
use Rattle.lake_command.specs.ErrorTexts.{lines_text}

alone : (b : Bool) → (b || false) ≡ b
alone true = refl
alone false = refl

-- one more line was looked at
pub any_more : (test : List ℕ → Bool) (lines : List (List ℕ)) (i : ℕ) (line : List ℕ) → i < length lines → line ≡ get_or lines i line → list_any test (take i lines) ≡ false → list_any test (take (i + 1) lines) ≡ test line
any_more test lines i line within here none =
    ap (list_any test) (take_more lines i line within ∙ ap (λ (x : List ℕ). take i lines ++ x ∷ []) (sym here))
    ∙ list_any-append test (take i lines) (line ∷ [])
    ∙ ap (λ b. b || (test line || false)) none
    ∙ alone (test line)

-- what is among the first lines is among all
pub any_front : (test : List ℕ → Bool) (lines : List (List ℕ)) (i : ℕ) → list_any test (take i lines) ≡ true → list_any test lines ≡ true
any_front test lines i some =
    ap (list_any test) (sym (take-append-drop i lines))
    ∙ list_any-append test (take i lines) (drop i lines)
    ∙ ap (λ b. b || list_any test (drop i lines)) some

-- no line is left
pub any_all : (test : List ℕ → Bool) (lines : List (List ℕ)) (i : ℕ) → i ≡ length lines → list_any test (take i lines) ≡ false → list_any test lines ≡ false
any_all test lines i whole none = ap (list_any test) (sym (take_all i lines (omega (arith, whole)))) ∙ none

-- one more line is told
lines_text_push : (lines : List (List ℕ)) (line : List ℕ) → lines_text (lines ++ line ∷ []) ≡ lines_text lines ++ with_newline line
lines_text_push [] line = append-nil (with_newline line)
lines_text_push (first ∷ lines) line = ap (λ (rest : List ℕ). with_newline first ++ rest) (lines_text_push lines line) ∙ sym (append_assoc (with_newline first) (lines_text lines) (with_newline line))

pub lines_next : {A : Type 0} (text_of : A → List ℕ) (items : List A) (i : ℕ) (default : A) → i < length items
    → lines_text (map text_of (take (i + 1) items)) ≡ lines_text (map text_of (take i items)) ++ with_newline (text_of (get_or items i default))
lines_next {A = A} text_of items i default within =
    ap (λ (front : List A). lines_text (map text_of front)) (take_more items i default within)
    ∙ ap lines_text (map-append text_of (take i items) (get_or items i default ∷ []))
    ∙ lines_text_push (map text_of (take i items)) (text_of (get_or items i default))

pub lines_more : {A : Type 0} (text_of : A → List ℕ) (items : List A) (i : ℕ) (item : A) → i < length items → item ≡ get_or items i item
    → lines_text (map text_of (take (i + 1) items)) ≡ lines_text (map text_of (take i items)) ++ with_newline (text_of item)
lines_more {A = A} text_of items i item within here =
    lines_next text_of items i item within ∙ ap (λ (x : A). lines_text (map text_of (take i items)) ++ with_newline (text_of x)) (sym here)

-- all were told
pub lines_all : {A : Type 0} (text_of : A → List ℕ) (items : List A) (i : ℕ) → length items ≤ i → lines_text (map text_of (take i items)) ≡ lines_text (map text_of items)
lines_all {A = A} text_of items i whole = ap (λ (all : List A). lines_text (map text_of all)) (take_all i items whole)

-- the lines of two lists, one behind the other
pub lines_text_append : (one two : List (List ℕ)) → lines_text (one ++ two) ≡ lines_text one ++ lines_text two
lines_text_append [] two = refl
lines_text_append (line ∷ one) two = ap (λ (rest : List ℕ). with_newline line ++ rest) (lines_text_append one two) ∙ sym (append_assoc (with_newline line) (lines_text one) (lines_text two))
