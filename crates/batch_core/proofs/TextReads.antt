-- The text of actions in which no float stands reads as these actions.
use Rattle.std.proofs.Common.{◌≡◌, ◌≤◌, ℕ, List, [], ◌∷◌, ◌++◌, map, Some, refl, ap, subst}
use Rattle.std.specs.List.{AllByRecursion, flat_map}
use Rattle.std.specs.Str.{IsUtf8}
use Rattle.json.specs.Tree as tree
use Rattle.serde_json.specs.Data.{Data}
use Rattle.serde_json.specs.Read.{max_depth, of_json}
use Rattle.serde_json.specs.Written.{IsInOrder, blank, compact_text, outline}
use Rattle.json_fields.proofs.Callers.{compact_is_one_line, text_compact, text_read, text_tokens}
use Rattle.delta_actions.specs.Action.{Action}
use Rattle.delta_actions.specs.Commit.{IsCommit}
use Rattle.delta_actions.specs.Printing.{IsPrintable, data_of, ended}
use Rattle.delta_actions.proofs.PrintedLines.{AreLines, IsLineFor, are_commit, is_written, reads_as}

-- JSON whose one text reads as itself
pub record IsReadBack (d : Data) : Type 0 where
  pub utf8 : IsUtf8 (compact_text d)
  pub numbers : tree.HasNumbers (outline d)
  pub shallow : tree.depth (outline d) ≤ max_depth
  pub same : of_json (outline d) ≡ Some d
  pub integers : blank (outline d) ≡ outline d

line_for : (action : Action) → IsPrintable action → IsReadBack (data_of action) → IsLineFor (compact_text (data_of action)) action
line_for action printable is =
    let text = compact_text (data_of action) in
    let order : IsInOrder text (data_of action) = (outline (data_of action), text_tokens (data_of action) is.numbers, is.integers) in
    let compact = text_compact (data_of action) is.numbers in
    record {
      printed = record { order = order; compact = compact; exact = λ none. refl };
      reads = reads_as text action printable is.utf8 (λ shallow. text_read (data_of action) is.numbers is.shallow is.same);
      one_line = compact_is_one_line text compact;
      written = is_written text action compact order;
    }

abbrev texts_of : List Action → List (List ℕ)
texts_of actions = map (λ (action : Action). compact_text (data_of action)) actions

are_lines : (actions : List Action) → AllByRecursion IsPrintable actions → AllByRecursion (λ (action : Action). IsReadBack (data_of action)) actions → AreLines (texts_of actions) actions
are_lines [] printable back = tt
are_lines (action ∷ actions) printable back = (line_for action printable.0 back.0, are_lines actions printable.1 back.1)

ended_text : (actions : List Action) → ended (texts_of actions) ≡ flat_map (λ (action : Action). compact_text (data_of action) ++ 10 ∷ []) actions
ended_text [] = refl
ended_text (action ∷ actions) = ap (λ (rest : List ℕ). (compact_text (data_of action) ++ 10 ∷ []) ++ rest) (ended_text actions)

-- the text of actions that can be printed reads as them
pub text_reads : (actions : List Action) → AllByRecursion IsPrintable actions → AllByRecursion (λ (action : Action). IsReadBack (data_of action)) actions → IsCommit (flat_map (λ (action : Action). compact_text (data_of action) ++ 10 ∷ []) actions) actions
text_reads actions printable back = subst (λ (bytes : List ℕ). IsCommit bytes actions) (ended_text actions) (are_commit (texts_of actions) actions (are_lines actions printable back))
