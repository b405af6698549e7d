use Rattle.std.proofs.Common.{◌≡◌, ◌+◌, ◌/◌, ◌%◌, ◌++◌, ℕ, List, length, map, drop, ap, ◌∙◌, arith}
use Rattle.std.proofs.lemmas.Bool.{le-ltb}
use Rattle.lake_bytes.specs.Hybrid.{low_first, unpacked, values_of}
use Rattle.lake_bytes.specs.declared.run.Run.{Run}
use Rattle.row_core.specs.Views.{row_views}
use Rattle.row_core.specs.Rows.{Value}
use Rattle.shred.specs.Parts.{part_of}
use Rattle.page_cells.specs.Plain.{truth_of}
use Rattle.page_cells.proofs.CodeRanges.{all_bytes}
use Rattle.page_cells.proofs.TruthParts.{truths_cut}
use Rattle.page_cells.proofs.part.add_some_truths.Goals as goal

pub returns-in-Err : goal.returns-in-Err
returns-in-Err c total values is few fits =
    let given = c.args.bytes.now in
    let cut = truths_cut c.args.skip c.args.count total given values (all_bytes given c.type_inv.bytes) few is in
    let there = le-ltb (length given) (c.args.skip / 8) cut.there in
    let short = rw (c.new-cursor.ensures, there) at c.in-Err.ensures.exact.0 in
    absurd cc

pub returns : goal.returns
returns c total values is few fits =
    let given = c.args.bytes.now in
    let cut = truths_cut c.args.skip c.args.count total given values (all_bytes given c.type_inv.bytes) few is in
    let bits : c.saturating_add-bits.result ≡ c.args.skip % 8 + c.args.count =
    omega (arith, c.saturating_add-bits.ensures) in
    let left : c.left.result.now ≡ drop (c.args.skip / 8) given =
    c.left.ensures ∙ c.in_default.ensures.taken.1
    ∙ ap (λ (bytes : List ℕ). drop (c.args.skip / 8) bytes) c.new-cursor.ensures in
    let runs : values_of c.deref.result.now
    ≡ unpacked 1 (c.args.skip % 8 + c.args.count) (low_first (drop (c.args.skip / 8) given)) =
    ap (λ (rs : List Run). values_of rs) c.deref.ensures.value ∙ c.in_ok-runs.ensures
    ∙ ap (λ (n : ℕ). unpacked 1 n (low_first c.left.result.now)) bits
    ∙ ap (λ (bytes : List ℕ). unpacked 1 (c.args.skip % 8 + c.args.count) (low_first bytes)) left in
    let kept : values_of c.deref-2.result.now ≡ part_of (c.args.skip % 8) c.args.count
    (unpacked 1 (c.args.skip % 8 + c.args.count) (low_first (drop (c.args.skip / 8) given))) =
    ap (λ (rs : List Run). values_of rs) c.deref-2.ensures.value ∙ c.in_ok-kept.ensures
    ∙ ap (part_of (c.args.skip % 8) c.args.count) runs in
    c.in_ok-add_truths_of.ensures
    ∙ ap (λ (vs : List Value). row_views c.args.out.now.items ++ vs) (ap (map truth_of) kept ∙ cut.kept)
