-- What a reader of a page's values has left: none at first of none, and some behind those that were passed.
use Rattle.std.proofs.Common.{◌≡◌, ℕ, ◌+◌, ◌-◌, ◌≤◌, true, List, [], length, take, drop, refl, sym, ap, ◌∙◌, arith}
use Rattle.std.proofs.lemmas.List.{drop-drop, length-drop, nil_from_length}
use Rattle.std.proofs.lemmas.List.Elements.{All-drop}
use Rattle.lake_bytes.specs.Hybrid.{low_first, unpacked}
use Rattle.lake_bytes.proofs.Callers.{length-unpacked}
use Rattle.row_core.specs.Rows.{Value}
use Rattle.page_cells.specs.Left.{HasValuesLeft}
use Rattle.page_cells.specs.Plain.{plain_at, truths_at, values_at}
use Rattle.page_cells.specs.Texts.{is_proper}
use Rattle.page_cells.specs.declared.types.LeafType.{LeafType}
use Rattle.page_cells.specs.declared.types.LeafType.TheVariants.{Boolean, Byte, Short, Integer, Long, Date, String, Binary}
use Rattle.page_cells.specs.declared.values.PlainReader.{PlainReader}
use Rattle.page_cells.proofs.CodeValues.{done}
use Rattle.page_cells.proofs.PlainParts.{plain_values, values_split}

-- No values are read from no bytes.
pub none_read : (type : LeafType) → plain_at type 0 [] ≡ done [] []
unfolding values_at truths_at
none_read Boolean =
    rw (nil_from_length (unpacked 1 0 (low_first [])) (length-unpacked 1 0 (low_first []))) refl
none_read Byte = refl
none_read Short = refl
none_read Integer = refl
none_read Long = refl
none_read Date = refl
none_read String = refl
none_read Binary = refl

-- Of values that are left the first so many are read, and the others are left behind these.
pub record ArePassed (type : LeafType) (count : ℕ) (r : PlainReader) (values : List Value) : Type 0 where
  pub front : List Value
  pub between : List ℕ
  pub read : plain_at type count r.bytes.now ≡ done front between
  pub left : (after : PlainReader) → after.leaf_type ≡ type → after.bytes.now ≡ between → after.passed ≡ r.passed
      → HasValuesLeft type after (drop count values)

pub passes : (type : LeafType) (count : ℕ) (r : PlainReader) (values : List Value) → (type ≡ Boolean → ⊥)
    → HasValuesLeft type r values → count ≤ length values → ArePassed type count r values
passes type count r values other held less =
    let many : length values ≡ length held.all - r.passed = ap length held.left ∙ length-drop r.passed held.all in
    let passed_few : r.passed ≤ length held.all = held.passed in
    let few = held.few in
    let total : length held.all ≡ count + (length held.all - count) = omega arith in
    let there = sym (plain_values type (length held.all) r.bytes.now other) ∙ held.read in
    let split = values_split type count (length held.all - count) r.bytes.now held.all [] (rw total at there) in
    let behind = length-drop count held.all in
    record {
      front = take count held.all;
      between = split.between;
      read = plain_values type count r.bytes.now other ∙ split.front;
      left = λ after of_type bytes passed. record {
        of_type = of_type;
        all = drop count held.all;
        read = ap (λ (n : ℕ). plain_at type n after.bytes.now) behind
            ∙ ap (λ (given : List ℕ). plain_at type (length held.all - count) given) bytes
            ∙ plain_values type (length held.all - count) split.between other ∙ split.behind;
        proper = All-drop (λ v. is_proper v ≡ true) count held.all held.proper;
        few = omega arith;
        passed = omega (arith, behind, passed);
        left = ap (drop count) held.left ∙ drop-drop count r.passed held.all
            ∙ ap (λ (n : ℕ). drop n held.all) (omega (arith, passed)) ∙ sym (drop-drop after.passed count held.all);
      };
    }
