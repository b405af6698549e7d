-- No two commits share a name, and no two data files. `decimal` writes a number's last 64 digits, so a number below
-- 10 ^ 63 is told from every other, and larger ones need not be: 10 ^ 63 is written as 10 ^ 64 + 10 ^ 63 is, and both
-- 10 ^ 64 and 10 ^ 65 as 64 zeros.
use Rattle.std.proofs.Common.{◌≡◌, ◌≢◌, ℕ, zero, suc, ◌+◌, ◌-◌, ◌/◌, ◌%◌, ◌^◌, ◌==◌, ◌<◌, ◌≤◌, Bool, true, false, cond, List, [], ◌∷◌, ◌++◌, length, replicate, slice_index, Some, None, Result, Ok, decimal, refl, sym, ap, ◌∙◌, arith, eqb-true, pow-suc, length-append, codes, IsUtf8}
use Rattle.std.specs.Fmt.{digits, digits_onto, digit_glyph}
use Rattle.std.specs.Str.Parse.{digits_value}
use Rattle.std.specs.List.{AllByRecursion}
use Rattle.std.proofs.Math.Nat.{pow-le-pow_right}
use Rattle.std.proofs.lemmas.Fmt.{decimal_is_IsNumeral_wide, length-decimal-le_wide}
use Rattle.std.proofs.lemmas.List.{append_cancel_left, append_cancel_right, length-replicate}
use Rattle.hex.specs.Hex.{IsBytes, encode_lower, encode_with, lower_digits, hex_digit_value, decode_of}
use Rattle.hex.proofs.HexLemmas.{IsDigits-lower_digits, decode_of-encode_lower}
use Rattle.store_core.specs.Names.{commit_name, twenty_digits}
use Rattle.delta_actions.specs.Names.{data_file_name}
use Rattle.delta_actions.proofs.Callers.{IsBytes-text}

-- ---- a number in 20 digits

-- zeros in front leave the value as it is
value_of_zeros : (k : ℕ) (text : List ℕ) → digits_value 10 (replicate k 48 ++ text) ≡ digits_value 10 text
value_of_zeros zero text = refl
value_of_zeros (suc k) text = value_of_zeros k text

-- twenty digits, or the more that a longer number has, have the number as their value
value_of_twenty_digits : (n : ℕ) → n < 10 ^ 64 → digits_value 10 (twenty_digits n) ≡ n
value_of_twenty_digits n small = value_of_zeros (20 - length (decimal n)) (decimal n) ∙ (decimal_is_IsNumeral_wide n small).1

-- a number that is written in fewer digits than there may be is small
small_by_length : (k n : ℕ) (behind : List ℕ) → length (digits_onto k 10 false n behind) < k + length behind → n < 10 ^ k
small_by_length zero n behind few = absurd (omega arith)
small_by_length (suc k) n behind few = by_case (n / 10 == 0) refl few (small_by_length k (n / 10) (glyph ∷ behind))
  where
    glyph : ℕ
    glyph = digit_glyph false (n % 10)

    by_case : (last : Bool) → (n / 10 == 0) ≡ last → length (cond last (glyph ∷ behind) (digits_onto k 10 false (n / 10) (glyph ∷ behind))) < suc k + length behind
        → (length (digits_onto k 10 false (n / 10) (glyph ∷ behind)) < k + length (glyph ∷ behind) → n / 10 < 10 ^ k) → n < 10 ^ suc k
    by_case true is few less = omega (arith, eqb-true (n / 10) 0 is, pow-le-pow_right {n = 10} (omega arith) {i = 1} {j = suc k} (omega arith))
    by_case false is few less = let front : n / 10 < 10 ^ k = less (omega arith) in omega (arith, pow-suc 10 k)

-- the same of all the digits of a number
small_by_decimal : (n : ℕ) → length (decimal n) < 64 → n < 10 ^ 64
unfolding digits
small_by_decimal n few = small_by_length 64 n [] few

-- how many digits there are with the zeros
length-twenty_digits : (n : ℕ) → length (twenty_digits n) ≡ 20 - length (decimal n) + length (decimal n)
length-twenty_digits n = omega (arith, length-append (replicate (20 - length (decimal n)) 48) (decimal n), length-replicate {A = ℕ} (20 - length (decimal n)) 48)

-- a number's twenty digits are no other number's
pub twenty_digits-once : (n m : ℕ) → n < 10 ^ 63 → twenty_digits n ≡ twenty_digits m → n ≡ m
twenty_digits-once n m small same =
    let wide : n < 10 ^ 64 = omega arith in
    let short : length (decimal n) ≤ 63 = length-decimal-le_wide 63 n (omega arith) small wide in
    let other : length (decimal m) < 64 = omega (arith, length-twenty_digits n, length-twenty_digits m, ap length same) in
    sym (value_of_twenty_digits n wide) ∙ ap (digits_value 10) same ∙ value_of_twenty_digits m (small_by_decimal m other)

-- a version's commit has a name that no other version's has
pub commit_name-once : (v w : ℕ) → v < 10 ^ 63 → commit_name v ≡ commit_name w → v ≡ w
unfolding commit_name
commit_name-once v w small same =
    let ended = append_cancel_left (codes "_delta_log/") (twenty_digits v ++ codes ".json") (twenty_digits w ++ codes ".json") same in
    twenty_digits-once v w small (append_cancel_right (twenty_digits v) (twenty_digits w) (codes ".json") ended)

-- ---- an id in hexadecimal, and a dash behind it

-- no digit is a dash
digit_no_dash : (d : ℕ) → d < 16 → slice_index lower_digits d ≢ 45
digit_no_dash d small dash =
    let read : hex_digit_value (slice_index lower_digits d) ≡ Some d = IsDigits-lower_digits d small in
    let none : None ≡ Some d = sym (ap hex_digit_value dash) ∙ read in
    cc

-- bytes in hexadecimal hold none
no_dash : (bytes : List ℕ) → IsBytes bytes → AllByRecursion (λ c. c ≢ 45) (encode_lower bytes)
unfolding encode_with
no_dash [] small = tt
no_dash (b ∷ bytes) small =
    let fits : b < 256 = small 0 in
    (digit_no_dash (b / 16) (omega arith), (digit_no_dash (b % 16) (omega arith), no_dash bytes (λ i. small (suc i))))

-- two texts that go on with a mark which neither holds are one text, and what stands behind the mark is the same
same_at_mark : (mark : ℕ) (xs ys s t : List ℕ) → AllByRecursion (λ c. c ≢ mark) xs → AllByRecursion (λ c. c ≢ mark) ys → xs ++ mark ∷ s ≡ ys ++ mark ∷ t → (xs ≡ ys) × (s ≡ t)
same_at_mark mark [] [] s t p q same = (refl, cc)
same_at_mark mark [] (y ∷ ys) s t p q same = absurd (q.0 (cc))
same_at_mark mark (x ∷ xs) [] s t p q same = absurd (p.0 (cc))
same_at_mark mark (x ∷ xs) (y ∷ ys) s t p q same =
    let first : x ≡ y = cc in
    let rest : xs ++ mark ∷ s ≡ ys ++ mark ∷ t = cc in
    let parts = same_at_mark mark xs ys s t p.1 q.1 rest in
    (λ i. first i ∷ parts.0 i, parts.1)

-- what was read is one value
pub ok_is : {A E : Type 0} (read : Result A E) (x y : A) → read ≡ Ok x → read ≡ Ok y → x ≡ y
ok_is read x y p q = cc

-- bytes are one-to-one with their text
encode_lower-once : (xs ys : List ℕ) → IsBytes xs → IsBytes ys → encode_lower xs ≡ encode_lower ys → xs ≡ ys
encode_lower-once xs ys p q same = ok_is (decode_of (encode_lower xs)) xs ys (decode_of-encode_lower xs p) (ap decode_of same ∙ decode_of-encode_lower ys q)

-- data files of one name: the ids are one, and so are the texts of their numbers
data_file_name-parts : (a b : List ℕ) (n m : ℕ) → IsUtf8 a → IsUtf8 b → data_file_name a n ≡ data_file_name b m → (a ≡ b) × (twenty_digits n ≡ twenty_digits m)
data_file_name-parts a b n m p q same =
    let begun = append_cancel_left (codes "part-") (encode_lower a ++ 45 ∷ (twenty_digits n ++ codes ".parquet")) (encode_lower b ++ 45 ∷ (twenty_digits m ++ codes ".parquet")) same in
    let parts = same_at_mark 45 (encode_lower a) (encode_lower b) _ _ (no_dash a (IsBytes-text a p)) (no_dash b (IsBytes-text b q)) begun in
    (encode_lower-once a b (IsBytes-text a p) (IsBytes-text b q) parts.0, append_cancel_right (twenty_digits n) (twenty_digits m) (codes ".parquet") parts.1)

-- two applications share no data file's name, whatever the numbers
pub data_file_name-application : (a b : List ℕ) (n m : ℕ) → IsUtf8 a → IsUtf8 b → data_file_name a n ≡ data_file_name b m → a ≡ b
data_file_name-application a b n m p q same = (data_file_name-parts a b n m p q same).0

-- a batch's data file has a name that no other batch's has
pub data_file_name-once : (a b : List ℕ) (n m : ℕ) → IsUtf8 a → IsUtf8 b → n < 10 ^ 63 → data_file_name a n ≡ data_file_name b m → (a ≡ b) × (n ≡ m)
data_file_name-once a b n m p q small same =
    let parts = data_file_name-parts a b n m p q same in
    (parts.0, twenty_digits-once n m small parts.1)
