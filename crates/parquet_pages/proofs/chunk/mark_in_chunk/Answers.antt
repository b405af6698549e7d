use Rattle.std.proofs.Common.{◌≡◌, ℕ, refl, sym, subst}
use Rattle.std.proofs.lemmas.Bool.{eq-eqb}
use Rattle.parquet_pages.specs.Held.{IsMark}
use Rattle.parquet_pages.specs.Pages.{no_cells}
use Rattle.parquet_pages.specs.Reading.{chunk_at}
use Rattle.parquet_pages.specs.Views.{leaf_view}
use Rattle.parquet_pages.proofs.PassedCells.{mark_none}
use Rattle.parquet_pages.proofs.chunk.mark_in_chunk.Goals as goal

pub returns-then-num_values-eq0 : goal.returns-then-num_values-eq0
unfolding chunk_at
returns-then-num_values-eq0 c =
    let l = leaf_view c.args.leaf.now in
    let none : c.args.num_values ≡ 0 = c.if-num_values-eq0.true in
    let mark = mark_none l c.args.bytes.now c.args.before _ refl in (
      no_cells,
      rw (eq-eqb c.args.num_values 0 none) refl,
      subst (λ (n : ℕ). IsMark l c.args.bytes.now n c.args.before _ no_cells) (sym none) mark,
    )
