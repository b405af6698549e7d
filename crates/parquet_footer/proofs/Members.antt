-- What a loop over the members of a list tells of it: each read one behind the other, and groups that claim few rows.
use Rattle.std.proofs.Common.{◌≡◌, ℕ, ◌+◌, ◌<◌, Bool, ◌&&◌, not, nat_lt, List, [], ◌∷◌, ◌++◌, length, drop, get_or, Result, Ok, Err, refl, sym, ap, ◌∙◌}
use Rattle.std.specs.List.{list_all}
use Rattle.std.proofs.lemmas.List.{at_drop_more}
use Rattle.outcomes.specs.Outcome.{IsSaid}
use Rattle.outcomes.specs.Results.{◌>>=◌}
use Rattle.outcomes.proofs.Callers.{with_front, regroup}
use Rattle.thrift_core.specs.Fields.{each}
use Rattle.thrift_core.specs.Said.{says}
use Rattle.thrift_core.specs.Tree.{Tree}
use Rattle.thrift_core.specs.View.{view, views}
use Rattle.thrift_values.specs.declared.value.TValue.{TValue}
use Rattle.thrift_values.specs.declared.fault.ReadError.{ReadError}
use Rattle.thrift_values.specs.declared.fault.ThriftFault.{ThriftFault}
use Rattle.thrift_values.specs.declared.fault.ReadError.TheVariants as errors
use Rattle.parquet_footer.specs.Reading.{claims_within_limit}
use Rattle.parquet_footer.specs.Views.{group_views}
use Rattle.parquet_footer.specs.declared.footer.RowGroup.{RowGroup}

-- ---- each member, one behind the other

-- the members from one on are that one and those behind it
member_first : {X A : Type 0} (read : Tree → Result X ThriftFault) (ms : List (TValue A)) (i : ℕ) (m : TValue A) → i < length ms → m ≡ get_or ms i m
    → each read (views (drop i ms)) ≡ (read (view m) >>= λ x. each read (views (drop (i + 1) ms)) >>= λ xs. Ok (x ∷ xs))
member_first {A = A} read ms i m lt is = at_drop_more (λ (vs : List (TValue A)). each read (views vs)) ms i m lt ∙ ap (λ (v : TValue A). each read (views (v ∷ drop (i + 1) ms))) (sym is)

pub member_goes_on : {X A : Type 0} (read : Tree → Result X ThriftFault) (front new : List X) (ms : List (TValue A)) (i : ℕ) (m : TValue A) (x : X) (total : Result (List X) ThriftFault) → i < length ms → m ≡ get_or ms i m → read (view m) ≡ Ok x
    → new ≡ front ++ x ∷ [] → with_front front (each read (views (drop i ms))) ≡ total → with_front new (each read (views (drop (i + 1) ms))) ≡ total
member_goes_on read front new ms i m x total lt is h put so_far =
    let rest = each read (views (drop (i + 1) ms)) in
    let one : with_front front (each read (views (drop i ms))) ≡ with_front (front ++ x ∷ []) rest = rw (member_first read ms i m lt is, h) (regroup front (x ∷ []) rest) in
    rw put (sym one ∙ so_far)

pub member_fails : {X A : Type 0} (read : Tree → Result X ThriftFault) (front : List X) (ms : List (TValue A)) (i : ℕ) (m : TValue A) (e : ReadError) (total : Result (List X) ThriftFault) → i < length ms → m ≡ get_or ms i m
    → IsSaid (says e) (read (view m)) → with_front front (each read (views (drop i ms))) ≡ total → IsSaid (says e) total
member_fails read front ms i m errors.Memory total lt is said so_far = tt
member_fails read front ms i m (errors.Fault fault) total lt is said so_far =
    let one : with_front front (each read (views (drop i ms))) ≡ Err fault = rw (member_first read ms i m lt is, said) refl in
    sym so_far ∙ one

-- ---- the claims of groups

pub within_limit : {A : Type 0} (gs : List (RowGroup A)) → list_all (λ g. not (nat_lt 4194304 g.num_rows)) gs ≡ claims_within_limit (group_views gs)
within_limit [] = refl
within_limit (g ∷ gs) = ap (λ (b : Bool). not (nat_lt 4194304 g.num_rows) && b) (within_limit gs)
