-- A fault of the frame or of the footer stands in the bytes.
use Rattle.std.proofs.Common.{◌≡◌, ℕ, ◌-◌, ltb, not, ◌&&◌, Bool, true, false, cond, List, [], ◌∷◌, ◌++◌, length, take, drop, Result, Ok, Err, inl, inr, refl, ap, subst, ◌∙◌, arith, length-append}
use Rattle.std.specs.Prelude.{All, Contains}
use Rattle.std.specs.Str.{bytes_eq}
use Rattle.std.proofs.lemmas.Bool.{and_cases, both_ways, ltb-true, not-false, not-true}
use Rattle.std.proofs.lemmas.List.{drop_at}
use Rattle.std.proofs.lemmas.List.Elements.{All-contains_itself, All-head, All-tail}
use Rattle.std.proofs.lemmas.Slice.Eq.{bytes_eq-Decides}
use Rattle.outcomes.specs.Results.{◌>>=◌}
use Rattle.outcomes.specs.Bytes.{IsBytes}
use Rattle.lake_bytes.specs.declared.fault.ByteFault.TheVariants.{Short}
use Rattle.thrift_core.specs.Reading.{struct_at}
use Rattle.thrift_values.specs.declared.fault.ThriftFault.{ThriftFault}
use Rattle.thrift_values.specs.declared.fault.ThriftFault.TheVariants.{Bytes}
use Rattle.schema_tree.specs.Tree.{Tree}
use Rattle.parquet_footer.specs.Frame.{FramedAs, footer_length, frame_of, front_of, is_framed, magic}
use Rattle.parquet_footer.specs.Metadata.{RowGroup, FileMetaData, metadata_of}
use Rattle.parquet_footer.specs.Reading.{claims_within_limit, metadata_at, told_as, within_limits}
use Rattle.parquet_footer.specs.declared.fault.FileFault.{FileFault}
use Rattle.parquet_footer.specs.declared.fault.FileFault.TheVariants.{BadMagic, BadFooter, TooLarge}
use Rattle.parquet_footer.proofs.Callers.{told_ok}
use Rattle.file_laws.specs.Faults.{FaultStands, HasNoFrame, HasTooMuch, begins_otherwise, claims_rows, ends_early, ends_otherwise, file_too_long, group_claims_rows, is_no_struct, lacks_field, too_short}
use Rattle.file_laws.specs.Places.{Opens}
use Rattle.file_laws.proofs.Steps.{err_is, by_cond, by_step, by_told, never}
use Rattle.file_laws.proofs.Structs.{begins, no_struct}

-- ---- the frame

ends_with : (front : List ℕ) → drop (length (front ++ magic) - 4) (front ++ magic) ≡ magic
ends_with front = drop_at front magic (length (front ++ magic) - 4) (omega (arith, length-append front magic))

no_frame : (bytes : List ℕ) → is_framed bytes ≡ false → HasNoFrame bytes
no_frame bytes e =
    let first = bytes_eq (take 4 bytes) magic in
    let last = bytes_eq (drop (length bytes - 4) bytes) magic in
    elim (and_cases (not (ltb (length bytes) 12)) (first && last) e) [
      | inl few ↦ too_short (ltb-true (length bytes) 12 (not-false _ few))
      | inr bad ↦ elim (and_cases first last bad) [
        | inl other ↦ begins_otherwise (λ rest is. both_ways first other ((bytes_eq-Decides (take 4 bytes) magic).1 (ap (λ (b : List ℕ). take 4 b) is)))
        | inr other ↦ ends_otherwise (λ front is. both_ways last other
            ((bytes_eq-Decides (drop (length bytes - 4) bytes) magic).1 (ap (λ (b : List ℕ). drop (length b - 4) b) is ∙ ends_with front)))
      ]
    ]

pub frame_fault : (bytes : List ℕ) (t : Tree) (fault : FileFault) → frame_of bytes ≡ Err fault → FaultStands bytes t fault
unfolding frame_of
frame_fault bytes t fault e =
    let place = length bytes - 8 - footer_length bytes in
    let parts : List ℕ × List ℕ = (take place bytes, drop place (front_of bytes)) in
    let third = cond (ltb (length bytes - 12) (footer_length bytes)) (Err (BadFooter (Bytes Short))) (Ok parts) in
    by_cond (FaultStands bytes t) (ltb 67108864 (length bytes)) TooLarge (cond (not (is_framed bytes)) (Err BadMagic) third) fault e
    (λ big. file_too_long (ltb-true 67108864 (length bytes) big))
    (λ fits e1. by_cond (FaultStands bytes t) (not (is_framed bytes)) BadMagic third fault e1 (λ bad. no_frame bytes (not-true _ bad))
    (λ framed e2. by_cond (FaultStands bytes t) (ltb (length bytes - 12) (footer_length bytes)) (BadFooter (Bytes Short)) (Ok parts) fault e2
    (λ long. ends_early (omega (arith, ltb-true (length bytes - 12) (footer_length bytes) long)) refl)
    (λ inside e3. absurd (never parts fault (Ok parts) refl e3))))

-- ---- the footer

told : {A : Type 0} (P : FileFault → Type 0) (tell : ThriftFault → FileFault) (r : Result A ThriftFault) (f : FileFault) → told_as tell r ≡ Err f
    → ((e : ThriftFault) → r ≡ Err e → P (tell e)) → P f
told P tell (Ok x) f fails = by_told P tell (Ok x) f fails
told P tell (Err e) f fails = by_told P tell (Err e) f fails

groups_claim : (bytes : List ℕ) (t : Tree) (front : List ℕ) (metadata : FileMetaData) → Opens bytes front metadata → (groups : List RowGroup)
    → All (Contains metadata.row_groups) groups → claims_within_limit groups ≡ false → HasTooMuch bytes t
groups_claim bytes t front metadata opens [] inside e = absurd cc
groups_claim bytes t front metadata opens (group ∷ groups) inside e =
    elim (and_cases (not (ltb 4194304 group.num_rows)) (claims_within_limit groups) e) [
      | inl many ↦ group_claims_rows front metadata group opens (All-head (Contains metadata.row_groups) group groups inside)
          (ltb-true 4194304 group.num_rows (not-false _ many))
      | inr more ↦ groups_claim bytes t front metadata opens groups (All-tail (Contains metadata.row_groups) group groups inside) more
    ]

limits_fault : (bytes : List ℕ) (t : Tree) (front : List ℕ) (metadata : FileMetaData) (fault : FileFault) → Opens bytes front metadata
    → within_limits metadata ≡ Err fault → FaultStands bytes t fault
unfolding within_limits
limits_fault bytes t front metadata fault opens e =
    let kept = claims_within_limit metadata.row_groups in
    by_cond (FaultStands bytes t) (ltb 4194304 metadata.num_rows) TooLarge (cond kept (Ok metadata) (Err TooLarge)) fault e
    (λ many. claims_rows front metadata opens (ltb-true 4194304 metadata.num_rows many))
    (λ few e1. by_claims kept refl e1)
  where
    by_claims : (b : Bool) → claims_within_limit metadata.row_groups ≡ b → cond b (Ok metadata) (Err TooLarge) ≡ Err fault → FaultStands bytes t fault
    by_claims true is fails = absurd (never metadata fault (Ok metadata) refl fails)
    by_claims false is fails = subst (FaultStands bytes t) (err_is TooLarge fault (Err TooLarge) refl fails)
        (groups_claim bytes t front metadata opens metadata.row_groups (All-contains_itself metadata.row_groups) is)

pub footer_fault : (bytes : List ℕ) (t : Tree) (front footer : List ℕ) (fault : FileFault) → FramedAs bytes front footer → IsBytes footer
    → metadata_at footer ≡ Err fault → FaultStands bytes t fault
unfolding metadata_at
footer_fault bytes t front footer fault framed fits e =
    by_step (FaultStands bytes t) (told_as BadFooter (struct_at footer)) (λ read. told_as BadFooter (metadata_of read.0) >>= within_limits) fault e
    (λ e1. told (FaultStands bytes t) BadFooter (struct_at footer) fault e1 (λ inner e2. is_no_struct front footer framed (no_struct footer inner e2)))
    (λ read is e1.
    let begin = begins footer read.0 read.1 fits (told_ok BadFooter (struct_at footer) read is) in
    by_step (FaultStands bytes t) (told_as BadFooter (metadata_of read.0)) within_limits fault e1
    (λ e2. told (FaultStands bytes t) BadFooter (metadata_of read.0) fault e2 (λ inner e3. lacks_field front footer read.1 read.0 framed begin e3))
    (λ metadata says e2. limits_fault bytes t front metadata fault
    (record {
      footer = footer;
      framed = framed;
      says = record {
        front = begin.front;
        rest = read.1;
        tree = read.0;
        parts = begin.parts;
        spelled = begin.spelled;
        stands = told_ok BadFooter (metadata_of read.0) metadata says;
      };
    }) e2))
