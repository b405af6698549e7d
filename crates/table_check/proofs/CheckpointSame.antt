-- Two checkpoints of one version and log have the same lines.
use Rattle.std.proofs.Common.{◌≡◌, ℕ, Bool, true, false, not, List, [], ◌∷◌, map, Option, Some, None, Ok, refl, sym, ap, ap₂, subst, ◌∙◌, inl, inr}
use Rattle.std.specs.Prelude.{filter, bytes_eq, option_to_list}
use Rattle.std.specs.Cmp.Lexicographic.{slice_cmp}
use Rattle.std.specs.List.{AllByRecursion}
use Rattle.std.specs.List.Sorted.{IsSorted}
use Rattle.std.specs.Ordering.{nat_cmp}
use Rattle.std.proofs.lemmas.Bool.{cases_Bool}
use Rattle.serde_json.specs.Written.{compact_text, has_float}
use Rattle.delta_actions.specs.Action.{Action}
use Rattle.delta_actions.specs.Actions.{action_of_line}
use Rattle.delta_actions.specs.Commit.{IsCommit}
use Rattle.delta_actions.specs.Printing.{IsPrintable, data_of}
use Rattle.delta_checkpoint.specs.Checkpoints.{IsCheckpoint, is_metadata}
use Rattle.delta_checkpoint.proofs.Restored.{one_commit}
use Rattle.delta_replay.specs.Keys.{Key, at, is_of}
use Rattle.delta_replay.specs.Whole.{HasKey}
use Rattle.table_check.specs.Lines.{AreLinesOf, ArePrintedOf}
use Rattle.table_check.proofs.CheckpointLines.{among_others}
use Rattle.table_check.proofs.Counts.{Among, all_from, count, count_permuted, each_among, kept_among, same_in_order, same_texts, up_from_sort}
use Rattle.table_check.proofs.NoFloats.{keyed_plain, metadata_plain}

-- the text of an action without a float
abbrev text_of : Action → List ℕ
text_of action = compact_text (data_of action)

abbrev IsPlain : Action → Type 0
IsPlain action = has_float (data_of action) ≡ false

-- the text reads as the action
abbrev IsRead : Action → Type 0
IsRead action = action_of_line (text_of action) ≡ Ok action

printed_texts : (lines : List (List ℕ)) (actions : List Action) → ArePrintedOf lines actions → AllByRecursion IsPlain actions → lines ≡ map text_of actions
printed_texts [] [] printed plain = refl
printed_texts [] (action ∷ actions) printed plain = absurd printed
printed_texts (line ∷ lines) [] printed plain = absurd printed
printed_texts (line ∷ lines) (action ∷ actions) printed plain =
    ap₂ (λ (l : List ℕ) (ls : List (List ℕ)). l ∷ ls) (printed.0.exact plain.0) (printed_texts lines actions printed.2 plain.1)

read_texts : (lines : List (List ℕ)) (actions : List Action) → ArePrintedOf lines actions → AllByRecursion IsPlain actions → AllByRecursion IsRead actions
read_texts [] [] printed plain = tt
read_texts [] (action ∷ actions) printed plain = absurd printed
read_texts (line ∷ lines) [] printed plain = absurd printed
read_texts (line ∷ lines) (action ∷ actions) printed plain =
    (subst (λ (l : List ℕ). action_of_line l ≡ Ok action) (printed.0.exact plain.0) printed.1, read_texts lines actions printed.2 plain.1)

one_action : (x y : Action) → IsRead x → IsRead y → text_of x ≡ text_of y → x ≡ y
one_action x y first second same = let both = sym first ∙ ap action_of_line same ∙ second in cc

-- what an action of a checkpoint is of: a key, or it tells of the checkpoint
abbrev is_kind : Option Key → Action → Bool
is_kind None action = is_metadata action
is_kind (Some key) action = is_of key action

abbrev HasKind : Action → Type 0
HasKind action = (kind : Option Key) × (is_kind kind action ≡ true)

plain_by : (action : Action) (kind : Option Key) → IsPrintable action → is_kind kind action ≡ true → IsPlain action
plain_by action None printable is = metadata_plain action is
plain_by action (Some key) printable is = keyed_plain key action printable is

module _ (version : ℕ) (log : List (List Action)) where
  -- each action of a checkpoint has a kind
  kinds : (bytes : List ℕ) (is : IsCheckpoint bytes version log) → AllByRecursion HasKind is.actions
  kinds bytes is = all_from HasKind is.actions each
    where
      each : (x : Action) → Among x is.actions → HasKind x
      each x among =
          elim (cases_Bool (is_metadata x)) [
            | inl told ↦ (None, told)
            | inr keyed ↦
                let key = each_among HasKey x (filter (λ action. not (is_metadata action)) is.actions) is.whole.known (kept_among (λ action. not (is_metadata action)) x is.actions among (ap not keyed)) in
                (Some key.0, key.1)
          ]

  -- so no float stands in its line
  plain : (bytes : List ℕ) (is : IsCheckpoint bytes version log) → AllByRecursion IsPrintable is.actions → AllByRecursion IsPlain is.actions
  plain bytes is printable = all_from IsPlain is.actions (λ x among.
      let kind = each_among HasKind x is.actions (kinds bytes is) among in
      plain_by x kind.0 (each_among IsPrintable x is.actions printable among) kind.1)

  -- two checkpoints have the same actions of each kind
  same_kinds : (bytes others : List ℕ) (first : IsCheckpoint bytes version log) (second : IsCheckpoint others version log) (kind : Option Key) → filter (is_kind kind) first.actions ≡ filter (is_kind kind) second.actions
  same_kinds bytes others first second None = first.told ∙ sym second.told
  same_kinds bytes others first second (Some key) =
      let one : filter (is_of key) first.actions ≡ option_to_list (at key log) = sym (among_others key first.actions) ∙ first.whole.keys key in
      let other : filter (is_of key) second.actions ≡ option_to_list (at key log) = sym (among_others key second.actions) ∙ second.whole.keys key in
      one ∙ sym other

  -- and so the same lines
  alike : (bytes others : List ℕ) (first : IsCheckpoint bytes version log) (second : IsCheckpoint others version log) (lines own : List (List ℕ)) → AllByRecursion IsPrintable first.actions → AllByRecursion IsPrintable second.actions
      → AreLinesOf lines first.actions → AreLinesOf own second.actions → IsSorted (slice_cmp nat_cmp) lines → IsSorted (slice_cmp nat_cmp) own → lines ≡ own
  alike bytes others first second lines own printable printable_too are are_too sorted sorted_too =
      same_in_order lines own (up_from_sort lines sorted) (up_from_sort own sorted_too) (λ l.
      sym (count_permuted (bytes_eq l) are.printed lines are.same)
      ∙ (ap (λ (ls : List (List ℕ)). count (bytes_eq l) ls) (printed_texts are.printed first.actions are.are plain_first)
      ∙ (same_texts text_of IsRead one_action (Option Key) is_kind l first.actions second.actions (read_texts are.printed first.actions are.are plain_first) (read_texts are_too.printed second.actions are_too.are plain_second)
      (kinds bytes first) (kinds others second) (same_kinds bytes others first second)
      ∙ (sym (ap (λ (ls : List (List ℕ)). count (bytes_eq l) ls) (printed_texts are_too.printed second.actions are_too.are plain_second)) ∙ count_permuted (bytes_eq l) are_too.printed own are_too.same))))
    where
      plain_first : AllByRecursion IsPlain first.actions
      plain_first = plain bytes first printable

      plain_second : AllByRecursion IsPlain second.actions
      plain_second = plain others second printable_too

  -- The lines of two checkpoints of one version and log are the same, once they are in order.
  pub lines_alike : (bytes others : List ℕ) (lines own_lines : List (List ℕ)) (actions own : List Action) → IsCommit bytes actions → IsCommit others own → AllByRecursion IsPrintable actions → AllByRecursion IsPrintable own
      → AreLinesOf lines actions → AreLinesOf own_lines own → IsSorted (slice_cmp nat_cmp) lines → IsSorted (slice_cmp nat_cmp) own_lines → IsCheckpoint bytes version log → IsCheckpoint others version log → lines ≡ own_lines
  lines_alike bytes others lines own_lines actions own read own_read printable printable_too are are_too sorted sorted_too first second =
      let one : actions ≡ first.actions = one_commit bytes actions first.actions read first.lines in
      let two : own ≡ second.actions = one_commit others own second.actions own_read second.lines in
      alike bytes others first second lines own_lines (subst (AllByRecursion IsPrintable) one printable) (subst (AllByRecursion IsPrintable) two printable_too)
      (subst (AreLinesOf lines) one are) (subst (AreLinesOf own_lines) two are_too) sorted sorted_too
