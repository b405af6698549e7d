-- What `parse` gives is what `script_number` says.
use Rattle.std.proofs.Common.{◌≡◌, ℕ, ◌^◌, ◌<◌, true, List, Result, Ok, Err, Some, None, sym, ◌∙◌, ap}
use Rattle.std.specs.Result.{MatchResult}
use Rattle.std.specs.Str.Parse.{IsNumeral, ParsesUnsigned, digits_value}
use Rattle.std.proofs.lemmas.Str.Parse.{numerals_by_value, tells_all_ascii_digits}
use Rattle.std.proofs.lemmas.Bool.{and_from, and_parts, lt-ltb, ltb-true, cond-true, cond-false, false_from_ne_true}
use Rattle.script_lines.specs.Fields.{is_script_number, script_number}

-- digits of a small number are one
is_number_true : (ds : List ℕ) → IsNumeral 10 ds → digits_value 10 ds < 2 ^ 64 → is_script_number ds ≡ true
is_number_true ds n small =
    and_from _ _ (lt-ltb _ _ n.0) (and_from _ _ ((numerals_by_value _ tells_all_ascii_digits).from ds n.1) (lt-ltb _ _ small))

-- and nothing else is
is_number_means : (ds : List ℕ) → is_script_number ds ≡ true → IsNumeral 10 ds × (digits_value 10 ds < 2 ^ 64)
is_number_means ds h =
    let outer = and_parts _ _ h in
    let inner = and_parts _ _ outer.1 in
    ((ltb-true _ _ outer.0, (numerals_by_value _ tells_all_ascii_digits).to ds inner.0), ltb-true _ _ inner.1)

pub number_of_parsed : {E : Type 0} (bs : List ℕ) (r : Result ℕ E) → ParsesUnsigned 64 10 bs r → MatchResult r (λ n. script_number bs ≡ Some n) (λ _. script_number bs ≡ None)
unfolding script_number
number_of_parsed bs (Ok n) h = cond-true _ _ _ (is_number_true _ h.0.0 h.0.1) ∙ ap Some (sym h.1)
number_of_parsed bs (Err e) h =
    cond-false _ _ _ (false_from_ne_true _ (λ t. h (is_number_means _ t)))
