use Rattle.std.proofs.Common.{◌≡◌, ℕ, List, None, Some, inl, inr, map, refl, subst, sym, ◌∙◌}
use Rattle.std.specs.Prelude.{Contains, option_map, string_bytes}
use Rattle.std.specs.List.Sorted.{IsStrictlySortedBy}
use Rattle.store_core.specs.Listed.{listed}
use Rattle.store_core.specs.Objects.{name_order}
use Rattle.table_folder.specs.Traces.{finds, reads}
use Rattle.folder_session.proofs.BesideLemmas.{for_fault, looked_once}
use Rattle.folder_session.proofs.Listing.{is_listed, not_listed}
use Rattle.folder_session.proofs.beside.found_in.Goals as goal

pub returns-in_err-read-clause-looked : goal.returns-in_err-read-clause-looked
returns-in_err-read-clause-looked g c =
    for_fault _ c.from_residual.result (looked_once g.F.Folder.makes c.args.folder.now c.read.new.self (reads c.as_str.result.now None) c.in_err-read.ensures.called tt)

pub returns-in_err-find-clause-looked : goal.returns-in_err-find-clause-looked
returns-in_err-find-clause-looked g c =
    for_fault _ c.from_residual-in_err-find.result (looked_once g.F.Folder.makes c.args.folder.now c.find.new.self (finds c.as_str-else-is_ok.result.now None) c.in_err-find.ensures.called tt)

pub returns-in_ok-find-clause-opened : goal.returns-in_ok-find-clause-opened
returns-in_ok-find-clause-opened g c =
    let found = option_map (λ bytes. bytes.items) c.in_ok-find.field-0 in
    let all : map string_bytes c.as_slice.result.now ≡ listed c.args.names.now = c.as_slice.ensures in (
      finds (string_bytes c.args.name.now) (Some found),
      subst (λ name. g.F.Folder.makes c.args.folder.now (finds name (Some found)) c.find.new.self) c.as_str-else-is_ok.ensures.value c.in_ok-find.ensures.called,
      inr (
        λ among. not_listed c.as_slice.result.now c.args.name.now c.binary_search.result (subst (IsStrictlySortedBy name_order) (sym all) c.args.names.now.rising) c.binary_search.ensures.position (sym c.is_ok.ensures.value ∙ c.if-is_ok.false)
            (subst (λ (ns : List (List ℕ)). Contains ns (string_bytes c.args.name.now)) (sym all) among),
        refl,
      ),
    )

pub returns-in_ok-read-clause-opened : goal.returns-in_ok-read-clause-opened
returns-in_ok-read-clause-opened g c =
    let found = option_map (λ bytes. bytes.items) c.in_ok-read.field-0 in
    let all : map string_bytes c.as_slice.result.now ≡ listed c.args.names.now = c.as_slice.ensures in (
      reads (string_bytes c.args.name.now) (Some found),
      subst (λ name. g.F.Folder.makes c.args.folder.now (reads name (Some found)) c.read.new.self) c.as_str.ensures.value c.in_ok-read.ensures.called,
      inl (
        subst (λ (ns : List (List ℕ)). Contains ns (string_bytes c.args.name.now)) all (is_listed c.as_slice.result.now c.args.name.now c.binary_search.result c.binary_search.ensures.bound c.binary_search.ensures.ok (sym c.is_ok.ensures.value ∙ c.if-is_ok.true)),
        refl,
      ),
    )
