-- The lines of actions, in any order.
use Rattle.std.specs.Prelude.{◌≡◌, ℕ, List, [], ◌∷◌, Ok, IsPermutation}
use Rattle.delta_actions.specs.Action.{Action}
use Rattle.delta_actions.specs.Actions.{action_of_line}
use Rattle.delta_actions.specs.Printing.{IsPrinted}

-- each line is printed of its action, and reads as it
abbrev pub ArePrintedOf : List (List ℕ) → List Action → Type 0
ArePrintedOf [] [] = Unit {0}
ArePrintedOf [] (action ∷ actions) = ⊥
ArePrintedOf (line ∷ lines) [] = ⊥
ArePrintedOf (line ∷ lines) (action ∷ actions) = IsPrinted line action × (action_of_line line ≡ Ok action) × ArePrintedOf lines actions

-- The lines are those of the actions, in any order.
pub record AreLinesOf (lines : List (List ℕ)) (actions : List Action) : Type 0 where
  pub printed : List (List ℕ)
  pub are : ArePrintedOf printed actions
  pub same : IsPermutation printed lines
