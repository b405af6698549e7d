-- What a text's lines come to, one after the other, and what is written of their replies.
use Rattle.std.proofs.Common.{◌≡◌, ◌+◌, ◌∙◌, ℕ, Bool, List, [], ◌∷◌, ◌++◌, true, false, Option, None, Some, length, refl, sym, ap, subst, append-nil, append_assoc, arith}
use Rattle.std.specs.Prelude.{◌||◌}
use Rattle.std.specs.Io.KnownBytes.{Appends, append_known}
use Rattle.delta_actions.specs.Commit.{lines_of}
use Rattle.lake_script.specs.Answered as answered
use Rattle.lake_script.specs.Answered.{Answered, AnsweredInPart, AnsweredText, LeadsTo}
use Rattle.lake_script.specs.Replies.{bad_line}
use Rattle.lake_script.specs.Runs.{TellsWhole, TellsFront}
use Rattle.lake_script.specs.Streams.{WritesFront}
use Rattle.lake_script.proofs.StreamLemmas.{Appends-both, Appends-none, Towards, stands_in_whole}
use Rattle.script_lines.specs.Lines.{Statement, asks, bad, reading_of, skipped}

-- a run is short behind a line that is, and behind one that isn't where it was
pub or_true : (before falls : Bool) → falls ≡ true → true ≡ (before || falls)
or_true true falls is = refl
or_true false falls is = sym is

pub or_false : (before falls : Bool) → falls ≡ false → before ≡ (before || falls)
or_false true falls is = refl
or_false false falls is = sym is

-- what waits isn't written yet
pub not_yet_written : (contents : Option (List ℕ)) (pending : List ℕ) → WritesFront (append_known contents pending) contents []
not_yet_written None pending = tt
not_yet_written (Some bytes) pending = (pending, sym (append-nil (bytes ++ pending)))

pub one_more : (all lines : List (List ℕ)) (line : List ℕ) (left : List (List ℕ)) → all ≡ lines ++ line ∷ left → all ≡ (lines ++ line ∷ []) ++ left
one_more all lines line left are = are ∙ sym (append_assoc lines (line ∷ []) left)

pub one_longer : (lines : List (List ℕ)) (line : List ℕ) → length (lines ++ line ∷ []) ≡ length lines + 1
one_longer [] line = refl
one_longer (other ∷ lines) line = let more = one_longer lines line in omega (arith, more)

module _ {State : Type 0} (Does : State → Statement → List ℕ → Bool → State → Type 0) (first : State) (text : List ℕ) where
  -- Some first lines were answered, so many, and these are left.
  pub record AnsweredSoFar (Stands : State → Type 0) (number : ℕ) (left : List (List ℕ)) (short : Bool) (written : List ℕ) : Type 0 where
    pub lines : List (List ℕ)
    pub are : lines_of text ≡ lines ++ left
    pub counted : length lines + 1 ≡ number
    pub s : State
    pub answers : Answered Does first lines written short s
    pub stands : Stands s

  pub none_answered : (Stands : State → Type 0) (short : Bool) (old : Option (List ℕ)) → short ≡ false → Stands first → TellsWhole old old (AnsweredSoFar Stands 1 (lines_of text) short)
  none_answered Stands short old fine stands = (
    [],
    Appends-none old,
    record { lines = []; are = refl; counted = refl; s = first; answers = subst (λ (b : Bool). Answered Does first [] [] b first) (sym fine) answered.at_first; stands = stands },
  )

  -- the lines that are left, by other words
  pub with_left : (Stands : State → Type 0) (old new : Option (List ℕ)) (number : ℕ) (left right : List (List ℕ)) (short : Bool) → left ≡ right → TellsWhole old new (AnsweredSoFar Stands number left short) → TellsWhole old new (AnsweredSoFar Stands number right short)
  with_left Stands old new number left right short is so = subst (λ (ls : List (List ℕ)). TellsWhole old new (AnsweredSoFar Stands number ls short)) is so

  module _ (Stands Behind : State → Type 0) (number : ℕ) (line : List ℕ) (left : List (List ℕ)) where
    -- a line was skipped
    skipped_one : (short : Bool) (written : List ℕ) → reading_of line ≡ skipped → AnsweredSoFar Stands number (line ∷ left) short written → AnsweredSoFar Stands (number + 1) left short written
    skipped_one short written is so = record {
      lines = so.lines ++ line ∷ [];
      are = one_more (lines_of text) so.lines line left so.are;
      counted = ap (λ n. n + 1) (one_longer so.lines line ∙ so.counted);
      s = so.s;
      answers = answered.skips_one so.lines line written short so.s so.answers is;
      stands = so.stands;
    }

    pub told_skipped : (old new : Option (List ℕ)) (short : Bool) → reading_of line ≡ skipped → TellsWhole old new (AnsweredSoFar Stands number (line ∷ left) short) → TellsWhole old new (AnsweredSoFar Stands (number + 1) left short)
    told_skipped old new short is so = (so.0, so.1, skipped_one short so.0 is so.2)

    -- a line did what it asks for
    module _ (before after falls : Bool) (written reply : List ℕ) (statement : Statement) (is : reading_of line ≡ asks statement) (fell : after ≡ (before || falls)) where
      answered_one : (so : AnsweredSoFar Stands number (line ∷ left) before written) → LeadsTo (Does so.s statement reply falls) Behind → AnsweredSoFar Behind (number + 1) left after (written ++ reply)
      answered_one so came = record {
        lines = so.lines ++ line ∷ [];
        are = one_more (lines_of text) so.lines line left so.are;
        counted = ap (λ n. n + 1) (one_longer so.lines line ∙ so.counted);
        s = came.0;
        answers = subst (λ (b : Bool). Answered Does first (so.lines ++ line ∷ []) (written ++ reply) b came.0) (sym fell)
            (answered.answers_one so.lines line written before so.s statement reply falls came.0 so.answers is came.1);
        stands = came.2;
      }

    pub told_one : (old mid new : Option (List ℕ)) (before after falls : Bool) (reply : List ℕ) (statement : Statement) → reading_of line ≡ asks statement → after ≡ (before || falls)
        → (so : TellsWhole old mid (AnsweredSoFar Stands number (line ∷ left) before)) → LeadsTo (Does so.2.s statement reply falls) Behind → Appends mid new reply → TellsWhole old new (AnsweredSoFar Behind (number + 1) left after)
    told_one old mid new before after falls reply statement is fell so came added =
        (so.0 ++ reply, Appends-both old mid new so.0 reply so.1 added, answered_one before after falls so.0 reply statement is fell so.2 came)

    -- it did, and its reply wasn't given
    pub front_one : (old mid new : Option (List ℕ)) (before after falls : Bool) (reply : List ℕ) (statement : Statement) → reading_of line ≡ asks statement → after ≡ (before || falls)
        → (so : TellsWhole old mid (AnsweredSoFar Stands number (line ∷ left) before)) → LeadsTo (Does so.2.s statement reply falls) Behind → WritesFront mid new []
        → TellsFront old new (λ written. LeadsTo (AnsweredInPart Does first text written after) Behind)
    front_one old mid new before after falls reply statement is fell so came stood =
        let one = answered_one before after falls so.0 reply statement is fell so.2 came in
        let towards : Towards old mid reply (so.0 ++ reply) = record { front = so.0; added = so.1; joins = refl } in (
          so.0 ++ reply,
          stands_in_whole old mid new reply (so.0 ++ reply) towards stood,
          (one.s, answered.so_far one.lines left (so.0 ++ reply) after one.s one.are one.answers, one.stands),
        )

    -- a bad line ends it
    pub told_bad : (old mid new : Option (List ℕ)) (short : Bool) → reading_of line ≡ bad → TellsWhole old mid (AnsweredSoFar Stands number (line ∷ left) short) → Appends mid new (bad_line number)
        → TellsWhole old new (λ written. LeadsTo (AnsweredText Does first text written short) Stands)
    told_bad old mid new short is so added =
        let ended : AnsweredText Does first text (so.0 ++ bad_line number) short so.2.s =
        subst (λ (n : ℕ). AnsweredText Does first text (so.0 ++ bad_line n) short so.2.s) so.2.counted (answered.to_bad so.2.lines line left so.0 short so.2.s so.2.are is so.2.answers) in
        (so.0 ++ bad_line number, Appends-both old mid new so.0 (bad_line number) so.1 added, (so.2.s, ended, so.2.stands))

  module _ (Stands : State → Type 0) where
    -- no line is left
    pub told_all : (old new : Option (List ℕ)) (number : ℕ) (short : Bool) → TellsWhole old new (AnsweredSoFar Stands number [] short) → TellsWhole old new (λ written. LeadsTo (AnsweredText Does first text written short) Stands)
    told_all old new number short so =
        let all : so.2.lines ≡ lines_of text = sym (so.2.are ∙ append-nil so.2.lines) in
        (so.0, so.1, (so.2.s, answered.to_end so.0 short so.2.s (subst (λ (ls : List (List ℕ)). Answered Does first ls so.0 short so.2.s) all so.2.answers), so.2.stands))

    -- the next line wasn't answered
    pub front_none : (old mid new : Option (List ℕ)) (number : ℕ) (left : List (List ℕ)) (short : Bool) → TellsWhole old mid (AnsweredSoFar Stands number left short) → WritesFront mid new []
        → TellsFront old new (λ written. LeadsTo (AnsweredInPart Does first text written short) Stands)
    front_none old mid new number left short so stood =
        let towards : Towards old mid [] so.0 = record { front = so.0; added = so.1; joins = append-nil so.0 } in
        (so.0, stands_in_whole old mid new [] so.0 towards stood, (so.2.s, answered.so_far so.2.lines left so.0 short so.2.s so.2.are so.2.answers, so.2.stands))

    -- all were, and what waited wasn't written
    pub front_all : (old mid new : Option (List ℕ)) (short : Bool) → TellsWhole old mid (λ written. LeadsTo (AnsweredText Does first text written short) Stands) → WritesFront mid new []
        → TellsFront old new (λ written. LeadsTo (AnsweredInPart Does first text written short) Stands)
    front_all old mid new short told stood =
        let towards : Towards old mid [] told.0 = record { front = told.0; added = told.1; joins = append-nil told.0 } in
        (told.0, stands_in_whole old mid new [] told.0 towards stood, (told.2.0, answered.all_of_it told.0 short told.2.0 told.2.1, told.2.2))
