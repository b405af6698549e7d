-- What the lines of a text come to, one after the other, whoever does what they ask for. What a line does is a relation of
-- states: of the one in front of it, what it asks for, its reply, whether that is short, and the state behind it.
use Rattle.std.specs.Prelude.{◌≡◌, ◌+◌, ◌++◌, ◌||◌, ℕ, Bool, false, List, [], ◌∷◌, length, Option, Result, OnErr, OnOk}
use Rattle.delta_actions.specs.Commit.{lines_of}
use Rattle.lake_script.specs.Replies.{bad_line}
use Rattle.lake_script.specs.Runs.{TellsFront, TellsWhole}
use Rattle.lake_script.specs.declared.outputs.OutputError.{OutputError}
use Rattle.script_lines.specs.Lines.{Statement, asks, bad, reading_of, skipped}

-- a state of which both are so
abbrev pub LeadsTo : {State : Type 0} → (IsBehind Stands : State → Type 0) → Type 0
LeadsTo {State} IsBehind Stands = (later : State) × IsBehind later × Stands later

-- By these lines, one after the other, a state came to another: what was replied, and whether a reply was short.
pub data Answered {State : Type 0} (Does : State → Statement → List ℕ → Bool → State → Type 0) (first : State) : (lines : List (List ℕ)) → (written : List ℕ) → (short : Bool) → State → Type 0 where
  at_first : Answered Does first [] [] false first
  skips_one : (lines : List (List ℕ)) (line written : List ℕ) (short : Bool) (s : State) → Answered Does first lines written short s → reading_of line ≡ skipped → Answered Does first (lines ++ line ∷ []) written short s
  answers_one : (lines : List (List ℕ)) (line written : List ℕ) (short : Bool) (s : State) (statement : Statement) (reply : List ℕ) (falls : Bool) (later : State)
      → Answered Does first lines written short s → reading_of line ≡ asks statement → Does s statement reply falls later → Answered Does first (lines ++ line ∷ []) (written ++ reply) (short || falls) later

-- A text was answered: all of its lines, or those in front of its first bad one, which ends it.
pub data AnsweredText {State : Type 0} (Does : State → Statement → List ℕ → Bool → State → Type 0) (first : State) (text : List ℕ) : (written : List ℕ) → (short : Bool) → State → Type 0 where
  to_end : (written : List ℕ) (short : Bool) (s : State) → Answered Does first (lines_of text) written short s → AnsweredText Does first text written short s
  to_bad : (lines : List (List ℕ)) (line : List ℕ) (rest : List (List ℕ)) (written : List ℕ) (short : Bool) (s : State) → lines_of text ≡ lines ++ line ∷ rest → reading_of line ≡ bad
      → Answered Does first lines written short s → AnsweredText Does first text (written ++ bad_line (length lines + 1)) short s

-- Some first lines of a text were, or the text was.
pub data AnsweredInPart {State : Type 0} (Does : State → Statement → List ℕ → Bool → State → Type 0) (first : State) (text : List ℕ) : (written : List ℕ) → (short : Bool) → State → Type 0 where
  so_far : (lines rest : List (List ℕ)) (written : List ℕ) (short : Bool) (s : State) → lines_of text ≡ lines ++ rest → Answered Does first lines written short s → AnsweredInPart Does first text written short s
  all_of_it : (written : List ℕ) (short : Bool) (s : State) → AnsweredText Does first text written short s → AnsweredInPart Does first text written short s

-- What the lines of a text were told, and how they left what they act on: by what answering them came to, by whether a
-- reply was short, and by what was held before and what the writer holds then.
pub record AnswersLines {State : Type 0} (Does : State → Statement → List ℕ → Bool → State → Type 0) (first : State) (StandsBehind : State → Type 0) (text : List ℕ) (short : Bool) (ended : Result (Option ℕ) OutputError)
    (old new : Option (List ℕ)) : Type 0 where
  -- Each line in turn does what it asks for, and is told that.
  pub answered : OnOk ended (TellsWhole old new (λ written. LeadsTo (AnsweredText Does first text written short) StandsBehind))
  -- Where a reply can't be given, some first lines did, and what is written is a front of their replies.
  pub front : OnErr ended (TellsFront old new (λ written. LeadsTo (AnsweredInPart Does first text written short) StandsBehind))
