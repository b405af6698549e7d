-- What is read of a footer's bytes is what they say, within the limits, and what they say is read.
use Rattle.std.proofs.Common.{◌≡◌, ℕ, cond, ltb, true, List, [], ◌∷◌, Ok, Err, refl, ap, subst, ◌∙◌}
use Rattle.std.proofs.lemmas.Bool.{ltb-false, le-ltb, and_parts, not-true}
use Rattle.outcomes.specs.Results.{◌>>=◌}
use Rattle.outcomes.specs.Bytes.{IsBytes}
use Rattle.thrift_core.specs.Reading.{struct_at}
use Rattle.thrift_core.proofs.Callers.{struct_at_found, struct_at_again}
use Rattle.parquet_footer.specs.Metadata.{RowGroup, FileMetaData, metadata_of}
use Rattle.parquet_footer.specs.Footer.{FooterSays, GroupsWithinLimit, ClaimsWithinLimit}
use Rattle.parquet_footer.specs.Reading.{told_as, claims_within_limit, within_limits, metadata_at}
use Rattle.parquet_footer.specs.declared.fault.FileFault.TheVariants.{BadFooter, TooLarge}
use Rattle.parquet_footer.proofs.FoundSteps.{bind_ok, passed, told_ok, held}

-- ---- the limits

groups_kept : (groups : List RowGroup) → claims_within_limit groups ≡ true → GroupsWithinLimit groups
groups_kept [] e = tt
groups_kept (group ∷ groups) e = let a = and_parts _ _ e in (ltb-false 4194304 group.num_rows (not-true _ a.0), groups_kept groups a.1)

groups_again : (groups : List RowGroup) → GroupsWithinLimit groups → claims_within_limit groups ≡ true
groups_again [] h = refl
groups_again (group ∷ groups) (few, others) = rw (le-ltb 4194304 group.num_rows few) (groups_again groups others)

limits_kept : (read metadata : FileMetaData) → within_limits read ≡ Ok metadata → (read ≡ metadata) × ClaimsWithinLimit metadata
unfolding within_limits
limits_kept read metadata e =
    let a = passed (ltb 4194304 read.num_rows) TooLarge (cond (claims_within_limit read.row_groups) (Ok read) (Err TooLarge)) metadata e in
    let h = held (claims_within_limit read.row_groups) TooLarge read metadata a.1 in
    (h.1, subst ClaimsWithinLimit h.1 (record { rows = ltb-false 4194304 read.num_rows a.0; groups = groups_kept read.row_groups h.0 }))

-- ---- what the bytes say

pub metadata_found : (footer : List ℕ) (metadata : FileMetaData) → IsBytes footer → metadata_at footer ≡ Ok metadata → FooterSays footer metadata × ClaimsWithinLimit metadata
unfolding metadata_at
metadata_found footer metadata fits e =
    let b = bind_ok (told_as BadFooter (struct_at footer)) (λ read. told_as BadFooter (metadata_of read.0) >>= within_limits) metadata e in
    let s = struct_at_found footer b.0.0 b.0.1 fits (told_ok BadFooter (struct_at footer) b.0 b.1) in
    let k = bind_ok (told_as BadFooter (metadata_of b.0.0)) within_limits metadata b.2 in
    let kept = limits_kept k.0 metadata k.2 in
    (record { front = s.front; rest = b.0.1; tree = b.0.0; parts = s.split; spelled = s.spelled; stands = told_ok BadFooter (metadata_of b.0.0) k.0 k.1 ∙ ap (λ (m : FileMetaData). Ok m) kept.0 }, kept.1)

pub metadata_again : (footer : List ℕ) (metadata : FileMetaData) → FooterSays footer metadata → ClaimsWithinLimit metadata → metadata_at footer ≡ Ok metadata
unfolding metadata_at within_limits
metadata_again footer metadata s claims =
    rw (s.parts, struct_at_again s.front s.tree s.rest s.spelled, s.stands, le-ltb 4194304 metadata.num_rows claims.rows, groups_again metadata.row_groups claims.groups) refl
