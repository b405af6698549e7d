-- Words that are numbers are plain, and `clap` takes them where they lie in the bounds.
use Rattle.std.proofs.Common.{◌≡◌, ℕ, ◌^◌, ◌<◌, ◌≤◌, Bool, true, false, List, [], ◌∷◌, Option, Some, None, refl, sym, subst, arith, codes, cond}
use Rattle.std.proofs.lemmas.Bool.{and_from, eqb-true}
use Rattle.std.proofs.lemmas.Option.{same_Some}
use Rattle.std.specs.Prelude.{◌==◌, ◌&&◌}
use Rattle.std.specs.Str.Parse.{IsNumeral, digits_value, without_leading_plus}
use Rattle.clap.specs.ValueTests.{accepts}
use Rattle.clap.proofs.ValueTestLemmas.{Accepts-accepts}
use Rattle.clap.specs.declared.builder.value_parser.ValueParser.TheVariants.{Unsigned}
use Rattle.lake_words.specs.Asked.{argument_number, is_argument_number}
use Rattle.lake_words.specs.Spelling.{IsArgumentValue, IsNumber}
use Rattle.lake_words.proofs.Numbers.{is_number_means}

-- a choice that is something was made for it
chosen : (b : Bool) (v n : ℕ) → cond b (Some v) None ≡ Some n → (b ≡ true) × (v ≡ n)
chosen true v n e = (refl, same_Some _ _ e)
chosen false v n e = absurd (elim_none n e)
  where
    elim_none : (n : ℕ) → None ≡ Some n → ⊥
    elim_none n e = subst (λ (o : Option ℕ). elim o as (λ _. Type 0) [ None ↦ Unit {0} | Some m ↦ ⊥ ]) e tt

-- a number's text is digits behind at most one plus
pub number_means : (text : List ℕ) (n : ℕ) → IsNumber text n
    → IsNumeral 10 (without_leading_plus text) × (n < 2 ^ 64) × (digits_value 10 (without_leading_plus text) ≡ n)
unfolding argument_number
number_means text n h =
    let is = chosen (is_argument_number (without_leading_plus text)) (digits_value 10 (without_leading_plus text)) n h in
    let means = is_number_means _ is.0 in
    (means.0, subst (λ v. v < 2 ^ 64) is.1 means.1, is.1)

-- a hyphen is no digit
no_hyphen : (xs : List ℕ) → IsNumeral 10 (without_leading_plus (45 ∷ xs)) → ⊥
no_hyphen xs h = omega (arith, h.1.0)

pub number_plain : (text : List ℕ) (n : ℕ) → IsNumber text n → IsArgumentValue text
number_plain text n h = unhyphened text (number_means text n h).0
  where
    begins : (b : Bool) (x : ℕ) (xs : List ℕ) → (x == 45) ≡ b → IsNumeral 10 (without_leading_plus (x ∷ xs)) → b ≡ false
    begins true x xs e h = absurd (no_hyphen xs (subst (λ c. IsNumeral 10 (without_leading_plus (c ∷ xs))) (eqb-true _ _ e) h))
    begins false x xs e h = refl

    unhyphened : (text : List ℕ) → IsNumeral 10 (without_leading_plus text) → IsArgumentValue text
    unhyphened [] h = refl
    unhyphened (x ∷ xs) h = begins _ x xs refl h

pub number_accepted : (low high : ℕ) (text : List ℕ) (n : ℕ) → IsNumber text n → low ≤ n → n ≤ high → accepts false (Unsigned low high) text ≡ true
number_accepted low high text n h above below =
    let means = number_means text n h in
    Accepts-accepts false (Unsigned low high) text
    (means.0, subst (λ v. v < 2 ^ 64) (sym means.2) means.1, subst (λ v. low ≤ v) (sym means.2) above, subst (λ v. v ≤ high) (sym means.2) below)

-- any number, a moment, a number of tries, and a number of rows
pub any_accepted : (text : List ℕ) (n : ℕ) → IsNumber text n → accepts false (Unsigned 0 18_446_744_073_709_551_615) text ≡ true
any_accepted text n h =
    let small = (number_means text n h).1 in
    number_accepted 0 18_446_744_073_709_551_615 text n h (omega arith) (omega (arith, small))

pub moment_accepted : (text : List ℕ) (n : ℕ) → IsNumber text n → n ≤ 999_999_999_999_999 → accepts false (Unsigned 0 999_999_999_999_999) text ≡ true
moment_accepted text n h below = number_accepted 0 999_999_999_999_999 text n h (omega arith) below

pub tries_accepted : (text : List ℕ) (n : ℕ) → IsNumber text n → 1 ≤ n → n ≤ 64 → accepts false (Unsigned 1 64) text ≡ true
tries_accepted text n h above below = number_accepted 1 64 text n h above below

pub max_accepted : (text : List ℕ) (n : ℕ) → IsNumber text n → n ≤ 65_536 → accepts false (Unsigned 0 65_536) text ≡ true
max_accepted text n h below = number_accepted 0 65_536 text n h (omega arith) below

-- the defaults
pub zero_is : argument_number (codes "0") ≡ Some 0
unfolding argument_number
zero_is = refl

pub sixteen_is : argument_number (codes "16") ≡ Some 16
unfolding argument_number
sixteen_is = refl

pub most_is : argument_number (codes "65536") ≡ Some 65_536
unfolding argument_number
most_is = refl

-- what is accepted passes as one value, as the one before an option, and as the one before a flag
pub at_end : {a : Bool} → a ≡ true → (a && true) ≡ true
at_end e = and_from _ _ e refl

pub before_option : {a : Bool} → a ≡ true → ((a && true) && true) ≡ true
before_option e = and_from _ _ (at_end e) refl

pub before_flag : {a : Bool} → a ≡ true → (((a && true) && true) && true) ≡ true
before_flag e = and_from _ _ (before_option e) refl
