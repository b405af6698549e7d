-- Bytes are a checkpoint where their lines, in order, are those of one.
use Rattle.std.proofs.Common.{◌≡◌, ℕ, ◌+◌, ◌<◌, List, [], ◌∷◌, ◌++◌, Vec, Global, Ok, length, map, subst, arith}
use Rattle.std.specs.Cmp.Lexicographic.{slice_cmp}
use Rattle.std.specs.List.{AllByRecursion}
use Rattle.std.specs.List.Sorted.{IsPermutation, IsSorted}
use Rattle.std.specs.Ordering.{nat_cmp}
use Rattle.std.proofs.lemmas.List.{get_or-map, length-map}
use Rattle.std.proofs.lemmas.List.Sorted.{IsPermutation-map}
use Rattle.delta_actions.specs.Action.{Action}
use Rattle.delta_actions.specs.Actions.{action_of_line}
use Rattle.delta_actions.specs.Commit.{IsCommit}
use Rattle.delta_actions.specs.Printing.{IsPrintable, IsPrinted}
use Rattle.delta_checkpoint.specs.Checkpoints.{IsCheckpoint}
use Rattle.table_check.specs.Lines.{AreLinesOf, ArePrintedOf}
use Rattle.table_check.proofs.CheckpointLines.{same_lines}
use Rattle.table_check.proofs.CheckpointSame.{lines_alike}
use Rattle.table_audit.specs.Lines.{HasLines}

module _ (bytes own : List ℕ) (version : ℕ) (log : List (List Action)) (lines own_lines : List (List ℕ)) (has : HasLines bytes lines) (own_has : HasLines own own_lines) (is : IsCheckpoint own version log) where
  pub same_checkpoint : lines ≡ own_lines → IsCheckpoint bytes version log
  same_checkpoint same = same_lines bytes own version log own_lines has.actions own_has.actions has.commit own_has.commit (subst (λ (ls : List (List ℕ)). AreLinesOf ls has.actions) same has.are) own_has.are is

  pub other_checkpoint : (lines ≡ own_lines → ⊥) → IsCheckpoint bytes version log → ⊥
  other_checkpoint other found =
      other (lines_alike version log bytes own lines own_lines has.actions own_has.actions has.commit own_has.commit has.printable own_has.printable has.are own_has.are has.sorted own_has.sorted found is)

-- ---- lines that were sorted

-- the bytes of a line
abbrev pub line_items : Vec ℕ Global → List ℕ
line_items line = line.items

pub sorted_lines : (lines : List (Vec ℕ Global)) → IsSorted (λ x y. slice_cmp nat_cmp x.items y.items) lines → IsSorted (slice_cmp nat_cmp) (map line_items lines)
sorted_lines [] up = λ k d low high. absurd (omega (arith, high))
sorted_lines (x ∷ lines) up = λ k e low high.
    let long : k + 1 < length (x ∷ lines) = omega (arith, high, length-map (x ∷ lines) line_items) in
    let here : k < length (x ∷ lines) = omega (arith, long) in
    rw (get_or-map line_items (x ∷ lines) (k + 1) x e long, get_or-map line_items (x ∷ lines) k x e here) (up k x low long)

pub has_lines : (bytes : List ℕ) (actions : List Action) (printed sorted : List (Vec ℕ Global)) → IsCommit bytes actions → AllByRecursion IsPrintable actions → ArePrintedOf (map line_items printed) actions → IsPermutation printed sorted
    → IsSorted (λ x y. slice_cmp nat_cmp x.items y.items) sorted → HasLines bytes (map line_items sorted)
has_lines bytes actions printed sorted commit printable are same up = record {
  actions = actions;
  commit = commit;
  printable = printable;
  are = record { printed = map line_items printed; are = are; same = IsPermutation-map line_items printed sorted same };
  sorted = sorted_lines sorted up;
}

-- one line more
pub printed_more : (lines : List (List ℕ)) (actions : List Action) (line : List ℕ) (action : Action) → ArePrintedOf lines actions → IsPrinted line action → action_of_line line ≡ Ok action → ArePrintedOf (lines ++ line ∷ []) (actions ++ action ∷ [])
printed_more [] [] line action are printed reads = (printed, reads, tt)
printed_more [] (a ∷ actions) line action are printed reads = absurd are
printed_more (l ∷ lines) [] line action are printed reads = absurd are
printed_more (l ∷ lines) (a ∷ actions) line action are printed reads = (are.0, are.1, printed_more lines actions line action are.2 printed reads)
