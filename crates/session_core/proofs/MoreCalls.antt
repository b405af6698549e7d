-- One more call at the end of a talk.
use Rattle.std.proofs.Common.{◌≡◌, ℕ, ◌+◌, ◌<◌, ◌≤◌, List, [], ◌∷◌, ◌++◌, length, Bool, true, false, refl, sym, subst, ap, ◌∙◌, inl, inr, arith, append_assoc, append-nil}
use Rattle.std.specs.Prelude.{◌||◌}
use Rattle.store_core.specs.Calls.{HasRisen}
use Rattle.session_core.specs.Sessions.{AllAsked}
use Rattle.session_core.specs.Stores.{State, Talked}
use Rattle.session_core.specs.Talks.{Asked, Told, told_names, told_object, told_put, told_lost, told_memory, Talk, CountsTalk, CountsTold, has_lost, is_lost}

-- a talk goes on at its end
pub talked_more : {S : Type 0} → (answers : S → Asked → Told → S → Type 0) (old mid new : S) (talk : Talk) (asked : Asked) (told : Told) → Talked answers old talk mid → answers mid asked told new
    → Talked answers old (talk ++ (asked, told) ∷ []) new
talked_more {S} answers old mid new [] asked told is one = (new, subst (λ (s : S). answers s asked told new) is one, refl)
talked_more {S} answers old mid new (call ∷ talk) asked told is one = (is.0, is.1, talked_more answers is.0 mid new talk asked told is.2 one)

-- a call more that was asked for
pub asked_more : (asks : Talk → Asked → Type 0) (before talk : Talk) (asked : Asked) (told : Told) → AllAsked asks before talk → asks (before ++ talk) asked → AllAsked asks before (talk ++ (asked, told) ∷ [])
asked_more asks before [] asked told is now = (subst (λ (t : Talk). asks t asked) (append-nil before) now, tt)
asked_more asks before (call ∷ talk) asked told is now =
    (is.0, asked_more asks (before ++ call ∷ []) talk asked told is.1 (subst (λ (t : Talk). asks t asked) (sym (append_assoc before (call ∷ []) talk)) now))

-- a count that rose stays risen, whatever follows
risen_more : (old mid new : ℕ) → HasRisen old mid → (told : Told) → CountsTold told mid new → HasRisen old new
risen_more old mid new risen (told_names names) is = rw is risen
risen_more old mid new risen (told_object found) is = rw is risen
risen_more old mid new risen (told_put put) is = rw is risen
risen_more old mid new risen told_memory is = rw is risen
risen_more old mid new risen told_lost is = twice risen is
  where
    twice : HasRisen old mid → HasRisen mid new → HasRisen old new
    twice (inl above) (inl more) = inl (omega (arith, above, more))
    twice (inl above) (inr stays) = inl (rw stays.1 above)
    twice (inr stays) (inl more) = inl (rw stays.1 at more)
    twice (inr stays) (inr again) = inr (stays.0, again.1 ∙ stays.1)

counted_one : (told : Told) (old new : ℕ) → CountsTold told old new → (is_lost told ≡ true → HasRisen old new) × (is_lost told ≡ false → new ≡ old)
counted_one (told_names names) old new is = ((λ e. absurd cc), (λ e. is))
counted_one (told_object found) old new is = ((λ e. absurd cc), (λ e. is))
counted_one (told_put put) old new is = ((λ e. absurd cc), (λ e. is))
counted_one told_lost old new is = ((λ e. is), (λ e. absurd cc))
counted_one told_memory old new is = ((λ e. absurd cc), (λ e. is))

pub lost_more : (talk : Talk) (asked : Asked) (told : Told) → has_lost (talk ++ (asked, told) ∷ []) ≡ (has_lost talk || is_lost told)
lost_more [] asked told = refl_or (is_lost told)
  where
    refl_or : (b : Bool) → (b || false) ≡ (false || b)
    refl_or true = refl
    refl_or false = refl
lost_more (call ∷ talk) asked told = ap (λ b. is_lost call.1 || b) (lost_more talk asked told) ∙ assoc (is_lost call.1) (has_lost talk) (is_lost told)
  where
    assoc : (a b c : Bool) → (a || (b || c)) ≡ ((a || b) || c)
    assoc true b c = refl
    assoc false b c = refl

-- the count of faults over a talk and one more call
pub counted_more : (talk : Talk) (asked : Asked) (told : Told) (old mid new : ℕ) → CountsTalk talk old mid → CountsTold told mid new → CountsTalk (talk ++ (asked, told) ∷ []) old new
counted_more talk asked told old mid new is one = by_case (has_lost talk) refl (is_lost told) refl
  where
    by_case : (a : Bool) → has_lost talk ≡ a → (b : Bool) → is_lost told ≡ b → CountsTalk (talk ++ (asked, told) ∷ []) old new
    by_case true was b now = (
      (λ e. risen_more old mid new (is.0 was) told one),
      (λ e. let no : true ≡ false = sym (ap (λ c. c || is_lost told) was) ∙ (sym (lost_more talk asked told) ∙ e) in absurd cc),
    )
    by_case false was true now =
        let same : mid ≡ old = is.1 was in (
          (λ e. rw same at ((counted_one told mid new one).0 now)),
          (λ e. let no : (false || true) ≡ false = (λ i. sym was i || sym now i) ∙ (sym (lost_more talk asked told) ∙ e) in absurd cc),
        )
    by_case false was false now =
        let same : mid ≡ old = is.1 was in (
          (λ e. let no : (false || false) ≡ true = (λ i. sym was i || sym now i) ∙ (sym (lost_more talk asked told) ∙ e) in absurd cc),
          (λ e. (counted_one told mid new one).1 now ∙ same),
        )
