use Rattle.std.proofs.Common.{◌≡◌, ◌++◌, ℕ, List, Result, Ok, Err, true, sym, ap, ◌∙◌}
use Rattle.std.specs.List.{list_all}
use Rattle.std.proofs.lemmas.List.Sums.{list_all-from_AllPass}
use Rattle.row_core.specs.Rows.{Value}
use Rattle.row_core.specs.Views.{row_views}
use Rattle.shred.specs.Parts.{part_of}
use Rattle.parquet_footer.specs.declared.fault.FileError.{FileError}
use Rattle.parquet_footer.specs.declared.fault.FileError.TheVariants as errors
use Rattle.page_cells.specs.Outcome.{AddsValues}
use Rattle.parquet_footer.specs.Outcome.{Finds}
use Rattle.page_cells.specs.Texts.{is_proper}
use Rattle.page_cells.specs.Plain.{plain_at}
use Rattle.page_cells.proofs.CodeValues.{Read, done, done_parts}
use Rattle.page_cells.proofs.PlainParts.{all_part, plain_values, values_cut}
use Rattle.page_cells.proofs.part.add_some_values.Goals as goal

-- values that are there are added, unless memory runs out
added : (r : Result (Unit {0}) FileError) (old new : List Value) (read : Read) (values : List Value) (rest : List ℕ)
    → read ≡ done values rest → list_all is_proper values ≡ true → AddsValues read old r new
    → Finds {X = Unit {0}} {A = List Value} (λ x. new) (old ++ values) r
added (Ok x) old new read values rest is proper h =
    let same = done_parts h.0 values h.1 rest (sym h.2 ∙ is) in
    h.3 ∙ ap (λ (vs : List Value). old ++ vs) same.0
added (Err errors.Memory) old new read values rest is proper h = tt
added (Err (errors.Fault fault)) old new read values rest is proper h = h values rest is proper

pub returns-in-Err : goal.returns-in-Err
returns-in-Err c total values is proper few fits =
    let type = c.args.leaf_type in
    let given = c.args.bytes.now in
    let other = c.in_default.not-Boolean in
    let cut = values_cut type c.args.skip c.args.count total given values _ few
    (sym (plain_values type total given other) ∙ is) in
    let there = plain_values type c.args.skip given other ∙ cut.passed in
    let short = rw c.new-cursor.ensures at c.in-Err.ensures in
    absurd (cc (there, short))

pub returns : goal.returns
returns c total values is proper few fits =
    let type = c.args.leaf_type in
    let given = c.args.bytes.now in
    let other = c.in_default.not-Boolean in
    let cut = values_cut type c.args.skip c.args.count total given values _ few
    (sym (plain_values type total given other) ∙ is) in
    let there = plain_values type c.args.skip given other ∙ cut.passed in
    let read = rw c.new-cursor.ensures at c.in_default-pass_values.ensures in
    let passed = done_parts read.0 _ c.pass_values.new.cursor cut.between (sym read.1 ∙ there) in
    let left : c.left.result.now ≡ cut.between = c.left.ensures ∙ passed.1 in
    let kept = part_of c.args.skip c.args.count values in
    let behind : plain_at type c.args.count c.left.result.now ≡ done kept cut.behind =
    ap (λ (bytes : List ℕ). plain_at type c.args.count bytes) left
    ∙ plain_values type c.args.count cut.between other ∙ cut.kept in
    let fine : list_all is_proper kept ≡ true = list_all-from_AllPass is_proper kept
    (all_part (λ v. is_proper v ≡ true) c.args.skip c.args.count values proper) in
    added c.add_values.result (row_views c.args.out.now.items) (row_views c.add_values.new.out.items)
    (plain_at type c.args.count c.left.result.now) kept cut.behind behind fine c.add_values.ensures
