use Rattle.std.proofs.Common.{◌≡◌, ◌⊎◌, inl, inr, ℤ, Ok, refl, subst, to_z-of_z}
use Rattle.parquet_pages.specs.Reading.{first_place}
use Rattle.parquet_pages.specs.Views.{leaf_view}
use Rattle.parquet_pages.proofs.HeldPages.{opened}
use Rattle.parquet_pages.proofs.reader.ColumnReader.open.Goals as goal
use Rattle.parquet_pages.proofs.reader.ColumnReader.open.Goals.{then-num_values-eq0, else-num_values-eq0+in_ok-place}

pub returns : goal.returns
returns c =
    let begins : (c.args.num_values ≡ 0) ⊎ (first_place c.args.stated ≡ Ok c.if-num_values-eq0.place) =
    elim c.if-num_values-eq0.branch [
      | then-num_values-eq0 w ↦ inl w.if-num_values-eq0.true
      | else-num_values-eq0+in_ok-place w ↦
          let place : first_place c.args.stated ≡ Ok w.in_ok-place.place =
          subst (λ (z : ℤ). first_place z ≡ Ok w.in_ok-place.place) (to_z-of_z c.ranges.stated) w.in_ok-place.ensures in
          inr (rw w.place-is place)
    ] in
    record {
      left = λ column h.
          opened (leaf_view c.args.leaf) _ c.args.stated column refl refl c.equal.ensures c.none.ensures begins h;
      refused = λ fault h. absurd cc;
    }
