-- Reading one value after another, as a loop does.
use Rattle.std.proofs.Common.{◌≡◌, ℕ, suc, ◌-◌, ◌+◌, ◌≤◌, ◌<◌, List, [], ◌∷◌, ◌++◌, Result, Ok, Err, ℤ, refl, sym, ap, ◌∙◌, add-one, arith}
use Rattle.std.proofs.lemmas.List.{append-nil}
use Rattle.std.proofs.lemmas.Bool.{ne_eqb}
use Rattle.outcomes.specs.Outcome.{IsSaid}
use Rattle.outcomes.proofs.Callers.{with_front_beside, regroup_beside}
use Rattle.lake_bytes.specs.declared.fault.ByteFault.TheVariants.{Short}
use Rattle.thrift_values.specs.Tree.{Tree}
use Rattle.thrift_values.specs.declared.fault.ThriftFault.{ThriftFault}
use Rattle.thrift_values.specs.declared.fault.ThriftFault.TheVariants.{Bytes, TooDeep}
use Rattle.thrift_values.specs.declared.fault.ReadError.{ReadError}
use Rattle.thrift_values.specs.declared.fault.ReadError.TheVariants as errors
use Rattle.thrift_core.specs.declared.source.Source.{Source}
use Rattle.thrift_core.specs.declared.wire.WireType.{WireType}
use Rattle.thrift_core.specs.declared.wire.WireType.TheVariants as wire
use Rattle.thrift_values.specs.Said.{says}
use Rattle.thrift_core.specs.Reading.{byte_ahead, counted, repeated, field_ahead, fields_ahead, list_ahead, map_ahead, struct_ahead, content_ahead, value_ahead}

pub goes_on : {A : Type 0} (read : Source → Result (A × Source) ThriftFault) (front : List A) (count i : ℕ) (source : Source) (x : A) (after : Source) (total : Result (List A × Source) ThriftFault) → i < count → read source ≡ Ok (x, after)
    → with_front_beside front (repeated read (count - i) source) ≡ total → with_front_beside (front ++ x ∷ []) (repeated read (count - (i + 1)) after) ≡ total
unfolding repeated
goes_on read front count i source x after total lt h so_far =
    let k : count - i ≡ suc (count - (i + 1)) = omega arith in
    let one : with_front_beside front (repeated read (count - i) source) ≡ with_front_beside (front ++ x ∷ []) (repeated read (count - (i + 1)) after) = rw (k, h) (regroup_beside front (x ∷ []) (repeated read (count - (i + 1)) after)) in
    sym one ∙ so_far

pub ends : {A : Type 0} (read : Source → Result (A × Source) ThriftFault) (e : ReadError) (front : List A) (count i : ℕ) (source : Source) (total : Result (List A × Source) ThriftFault) → i < count → IsSaid (says e) (read source)
    → with_front_beside front (repeated read (count - i) source) ≡ total → IsSaid (says e) total
unfolding repeated
ends read errors.Memory front count i source total lt h so_far = tt
ends read (errors.Fault f) front count i source total lt h so_far =
    let k : count - i ≡ suc (count - (i + 1)) = omega arith in
    let one : with_front_beside front (repeated read (count - i) source) ≡ Err f = rw (k, h) refl in
    sym so_far ∙ one

pub is_done : {A : Type 0} (read : Source → Result (A × Source) ThriftFault) (front : List A) (count i : ℕ) (source : Source) (total : Result (List A × Source) ThriftFault) → count ≤ i → with_front_beside front (repeated read (count - i) source) ≡ total → total ≡ Ok (front, source)
unfolding repeated
is_done {A} read front count i source total le so_far =
    let k : count - i ≡ 0 = omega arith in
    let one : with_front_beside front (repeated read (count - i) source) ≡ Ok (front, source) = rw k (ap (λ (xs : List A). Ok (xs, source)) (append-nil front)) in
    sym so_far ∙ one

-- ---- fields

pub field_goes_on : (read : WireType → Source → Result (Tree × Source) ThriftFault) (front : List (ℤ × Tree)) (last : ℤ) (most i : ℕ) (source : Source) (header : ℕ) (mid : Source) (x : ℤ × Tree) (after : Source) (total : Result (List (ℤ × Tree) × Source) ThriftFault)
    → i < most → byte_ahead source ≡ Ok (header, mid) → (header ≡ 0 → ⊥) → field_ahead read last header mid ≡ Ok (x, after)
    → with_front_beside front (fields_ahead read last (most - i) source) ≡ total → with_front_beside (front ++ x ∷ []) (fields_ahead read x.0 (most - (i + 1)) after) ≡ total
unfolding fields_ahead
field_goes_on read front last most i source header mid x after total lt first more h so_far =
    let k : most - i ≡ suc (most - (i + 1)) = omega arith in
    let one : with_front_beside front (fields_ahead read last (most - i) source) ≡ with_front_beside (front ++ x ∷ []) (fields_ahead read x.0 (most - (i + 1)) after) = rw (k, first, ne_eqb header 0 more, h) (regroup_beside front (x ∷ []) (fields_ahead read x.0 (most - (i + 1)) after)) in
    sym one ∙ so_far

pub header_fails : (read : WireType → Source → Result (Tree × Source) ThriftFault) (f : ThriftFault) (front : List (ℤ × Tree)) (last : ℤ) (most i : ℕ) (source : Source) (total : Result (List (ℤ × Tree) × Source) ThriftFault)
    → i < most → byte_ahead source ≡ Err f → with_front_beside front (fields_ahead read last (most - i) source) ≡ total → total ≡ Err f
unfolding fields_ahead
header_fails read f front last most i source total lt h so_far =
    let k : most - i ≡ suc (most - (i + 1)) = omega arith in
    let one : with_front_beside front (fields_ahead read last (most - i) source) ≡ Err f = rw (k, h) refl in
    sym so_far ∙ one

pub field_fails : (read : WireType → Source → Result (Tree × Source) ThriftFault) (e : ReadError) (front : List (ℤ × Tree)) (last : ℤ) (most i : ℕ) (source : Source) (header : ℕ) (mid : Source) (total : Result (List (ℤ × Tree) × Source) ThriftFault)
    → i < most → byte_ahead source ≡ Ok (header, mid) → (header ≡ 0 → ⊥) → IsSaid (says e) (field_ahead read last header mid) → with_front_beside front (fields_ahead read last (most - i) source) ≡ total → IsSaid (says e) total
unfolding fields_ahead
field_fails read errors.Memory front last most i source header mid total lt first more h so_far = tt
field_fails read (errors.Fault f) front last most i source header mid total lt first more h so_far =
    let k : most - i ≡ suc (most - (i + 1)) = omega arith in
    let one : with_front_beside front (fields_ahead read last (most - i) source) ≡ Err f = rw (k, first, ne_eqb header 0 more, h) refl in
    sym so_far ∙ one

pub fields_stop : (read : WireType → Source → Result (Tree × Source) ThriftFault) (front : List (ℤ × Tree)) (last : ℤ) (most i : ℕ) (source : Source) (header : ℕ) (mid : Source) (total : Result (List (ℤ × Tree) × Source) ThriftFault)
    → i < most → byte_ahead source ≡ Ok (header, mid) → header ≡ 0 → with_front_beside front (fields_ahead read last (most - i) source) ≡ total → total ≡ Ok (front, mid)
unfolding fields_ahead
fields_stop read front last most i source header mid total lt first stop so_far =
    let k : most - i ≡ suc (most - (i + 1)) = omega arith in
    let one : with_front_beside front (fields_ahead read last (most - i) source) ≡ Ok (front, mid) = rw (k, first, stop) (ap (λ (xs : List (ℤ × Tree)). Ok (xs, mid)) (append-nil front)) in
    sym so_far ∙ one

pub fields_run_out : (read : WireType → Source → Result (Tree × Source) ThriftFault) (front : List (ℤ × Tree)) (last : ℤ) (most i : ℕ) (source : Source) (total : Result (List (ℤ × Tree) × Source) ThriftFault)
    → most ≤ i → with_front_beside front (fields_ahead read last (most - i) source) ≡ total → total ≡ Err (Bytes Short)
unfolding fields_ahead
fields_run_out read front last most i source total le so_far =
    let k : most - i ≡ 0 = omega arith in
    let one : with_front_beside front (fields_ahead read last (most - i) source) ≡ Err (Bytes Short) = rw k refl in
    sym so_far ∙ one

-- ---- nesting

pub nested_list : (depth less : ℕ) (source inside : Source) → depth ≡ less + 1 → counted source ≡ Ok inside → value_ahead depth wire.List source ≡ list_ahead (value_ahead less) inside
unfolding value_ahead content_ahead
nested_list depth less source inside is counts = rw (is, add-one, counts) refl

pub nested_map : (depth less : ℕ) (source inside : Source) → depth ≡ less + 1 → counted source ≡ Ok inside → value_ahead depth wire.Map source ≡ map_ahead (value_ahead less) inside
unfolding value_ahead content_ahead
nested_map depth less source inside is counts = rw (is, add-one, counts) refl

pub nested_struct : (depth less : ℕ) (source inside : Source) → depth ≡ less + 1 → counted source ≡ Ok inside → value_ahead depth wire.Struct source ≡ struct_ahead (value_ahead less) inside
unfolding value_ahead content_ahead
nested_struct depth less source inside is counts = rw (is, add-one, counts) refl

pub too_deep_list : (depth : ℕ) (source inside : Source) → depth ≡ 0 → counted source ≡ Ok inside → value_ahead depth wire.List source ≡ Err TooDeep
unfolding value_ahead content_ahead
too_deep_list depth source inside is counts = rw (is, counts) refl

pub too_deep_map : (depth : ℕ) (source inside : Source) → depth ≡ 0 → counted source ≡ Ok inside → value_ahead depth wire.Map source ≡ Err TooDeep
unfolding value_ahead content_ahead
too_deep_map depth source inside is counts = rw (is, counts) refl

pub too_deep_struct : (depth : ℕ) (source inside : Source) → depth ≡ 0 → counted source ≡ Ok inside → value_ahead depth wire.Struct source ≡ Err TooDeep
unfolding value_ahead content_ahead
too_deep_struct depth source inside is counts = rw (is, counts) refl
