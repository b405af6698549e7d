-- A page is written where its body isn't too long.
use Rattle.std.proofs.Common.{◌≡◌, ℕ, ◌+◌, ◌<◌, ◌≤◌, false, List, ◌++◌, length, min, Ok, refl, sym, ap, ◌∙◌, arith, append_assoc, inl, inr, nat_lt}
use Rattle.std.proofs.lemmas.Bool.{cases_lt, le-ltb}
use Rattle.std.proofs.lemmas.List.{length-append}
use Rattle.shred.specs.Columns.{Column}
use Rattle.page_writing.specs.Outcome.{Writes}
use Rattle.page_cells.specs.Types.{physical_type}
use Rattle.page_writing.specs.Writing.{body_bytes, header_form, header_tree, level_bytes, page_bytes, page_written, plain_bytes}
use Rattle.page_cells.specs.declared.types.LeafType.{LeafType}
use Rattle.page_cells.specs.declared.types.PhysicalType.{PhysicalType}
use Rattle.thrift_core.specs.Writing.{written}

pub sizes : (levels plain counted size limit most : ℕ) → (plain ≤ limit → counted ≡ plain)
    → (limit < plain → limit < counted) → limit < most → size ≡ min (levels + counted) most → size ≤ limit
    → size ≡ levels + plain
sizes levels plain counted size limit most exact above high is short =
    elim (cases_lt limit plain) [
      | inl lt ↦ let past = above lt in absurd (omega arith)
      | inr le ↦ let same = exact le in omega arith
    ]

pub page_is_written : (type : LeafType) (top : ℕ) (c : Column) (levels header : List ℕ) (physical : PhysicalType)
    (size : ℕ) (old first second new header_part levels_part : List ℕ) → levels ≡ level_bytes top c.levels
    → physical ≡ physical_type type
    → (size ≤ 67108864) × (size ≡ length levels + length (plain_bytes physical c.values))
    → header ≡ written header_form (header_tree (length c.levels) size)
    → header_part ≡ header → levels_part ≡ levels
    → first ≡ old ++ header_part → second ≡ first ++ levels_part → new ≡ second ++ plain_bytes physical c.values
    → Writes (page_written type top c) old (Ok tt) new
unfolding page_written
page_is_written type top c levels header physical size old first second new header_part levels_part levels_is
    physical_is size_is header_is header_same levels_same first_is second_is new_is =
    let body : levels ++ plain_bytes physical c.values ≡ body_bytes type top c = rw (levels_is, physical_is) refl in
    let counted : size ≡ length (body_bytes type top c) =
    size_is.1 ∙ sym (length-append levels (plain_bytes physical c.values)) ∙ ap length body in
    let short : nat_lt 67108864 (length (body_bytes type top c)) ≡ false = le-ltb _ _ (omega (arith, size_is.0)) in
    let whole : header ++ (levels ++ plain_bytes physical c.values) ≡ page_bytes type top c =
    rw (header_is, body, counted) refl in (
      page_bytes type top c,
      rw short refl,
      new_is ∙ rw (second_is, first_is, header_same, levels_same) refl
          ∙ append_assoc (old ++ header) levels (plain_bytes physical c.values)
          ∙ append_assoc old header (levels ++ plain_bytes physical c.values) ∙ ap (λ (t : List ℕ). old ++ t) whole,
    )
