-- The codes that have an entry, in the order of the tables.
use Rattle.std.specs.Prelude.{ℕ, zero, suc, ◌+◌, ◌/◌, ◌%◌, Bool, List, [], ◌∷◌, ◌++◌, ◌||◌, bytes_eq, codes, nat_lt, if◌then◌else◌}
use Rattle.std.specs.List.{list_any}
use Rattle.std.specs.Str.{str_eq_ignore_ascii_case}

-- the decimal digits of a number below 100
abbrev pub digits : ℕ → List ℕ
digits n = if nat_lt n 10 then (48 + n) ∷ [] else (48 + n / 10) ∷ (48 + n % 10) ∷ []

-- the codes of some letters, numbered from 1
abbrev pub numbered : List ℕ → ℕ → List (List ℕ)
numbered letters zero = []
numbered letters (suc count) = numbered letters count ++ (letters ++ digits (suc count)) ∷ []

-- of refusals
unfoldable pub refusal_codes : List (List ℕ)
refusal_codes =
    numbered (codes "E") 6 ++ (numbered (codes "S") 12 ++ (numbered (codes "O") 12 ++ (numbered (codes "K") 9
    ++ (numbered (codes "Q") 2 ++ (numbered (codes "N") 1 ++ (numbered (codes "St") 2 ++ numbered (codes "F") 4))))))

-- of faults
unfoldable pub fault_codes : List (List ℕ)
fault_codes =
    numbered (codes "C") 6 ++ (numbered (codes "V") 5 ++ (numbered (codes "G") 6 ++ (numbered (codes "A") 3
    ++ (numbered (codes "P") 11 ++ (numbered (codes "H") 2 ++ (numbered (codes "TH") 4 ++ numbered (codes "B") 4))))))

-- a code that passes a test has an entry
abbrev pub has_entry_with : (List ℕ → Bool) → Bool
has_entry_with test = list_any test refusal_codes || list_any test fault_codes

-- the code has an entry
abbrev pub has_entry : List ℕ → Bool
has_entry code = has_entry_with (λ one. bytes_eq one code)

-- the code has one, whether its letters are capitals or not
abbrev pub has_entry_like : List ℕ → Bool
has_entry_like code = has_entry_with (λ one. str_eq_ignore_ascii_case one code)
