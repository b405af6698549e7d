use Rattle.std.proofs.Common.{◌∷◌, [], Option, None, Some, Global, String, Vec, map, refl, string_bytes, subst}
use Rattle.table_folder.specs.Traces.{lists}
use Rattle.folder_session.specs.Visible.{ListsFolder, given_names}
use Rattle.folder_session.proofs.VisibleTalks.{on_fault}
use Rattle.folder_session.proofs.asking.listed_names.Goals as goal

pub returns-in-Some-clause-heard : goal.returns-in-Some-clause-heard
returns-in-Some-clause-heard g c = (
  [],
  refl,
  subst (λ (names : Option (Vec (String Global) Global)). ListsFolder (given_names names) (Some (map string_bytes c.in-Some.names.items)) []) c.in-Some.ensures.value (refl, refl),
)

pub returns-in_err-names-in-None-clause-heard : goal.returns-in_err-names-in-None-clause-heard
returns-in_err-names-in-None-clause-heard g c =
    on_fault _ _ _ c.from_residual.result c.from_residual.ensures.1 (
      lists None ∷ [],
      (c.names.new.self, c.in_err-names-in-None.ensures.called, refl),
      subst (λ (names : Option (Vec (String Global) Global)). ListsFolder (given_names names) None (lists None ∷ [])) c.in-None.ensures.value refl,
    )

pub returns-in_ok-names-in-None-clause-heard : goal.returns-in_ok-names-in-None-clause-heard
returns-in_ok-names-in-None-clause-heard g c =
    let listed = map string_bytes c.in_ok-names-in-None.field-0.items in (
      lists (Some listed) ∷ [],
      (c.names.new.self, c.in_ok-names-in-None.ensures.called, refl),
      subst (λ (names : Option (Vec (String Global) Global)). ListsFolder (given_names names) (Some listed) (lists (Some listed) ∷ [])) c.in-None.ensures.value refl,
    )
