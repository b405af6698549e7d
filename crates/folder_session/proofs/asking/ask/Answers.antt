use Rattle.std.proofs.Common.{◌≡◌, ◌∙◌, ◌∷◌, [], Some, None, true, false, ap, inl, inr, map, refl, string_bytes, subst, sym}
use Rattle.std.specs.Option.{option_map}
use Rattle.store_core.specs.Objects.{Objects, object_at}
use Rattle.session_core.specs.Talks.{told_view}
use Rattle.front_reads.specs.Fronts.{is_visible}
use Rattle.table_folder.specs.Traces.{reads}
use Rattle.folder_session.specs.Beside.{TellsNames}
use Rattle.folder_session.proofs.VisibleObjects.{still_visible, invisible}
use Rattle.folder_session.proofs.VisibleTalks.{on_fault, tells_listed}
use Rattle.folder_session.proofs.asking.ask.Goals as goal

pub returns-then-not-branch-clause-exact : goal.returns-then-not-branch-clause-exact
returns-then-not-branch-clause-exact g c = λ steady are.
    let objects : Objects = g.F.Folder.objects c.args.folder.now in
    let hidden : is_visible c.args.front (string_bytes c.in-Get.name) ≡ false = ap (is_visible c.args.front) (sym c.as_str.ensures.value) ∙ sym c.in_ok-is_visible-in-Get.ensures ∙ c.if-not-branch.true in
    rw c.in-Get.is (sym (invisible c.args.front objects (string_bytes c.in-Get.name) hidden))

pub returns-in-Get-clause-exact : goal.returns-in-Get-clause-exact
returns-in-Get-clause-exact g c = λ steady are.
    let objects : Objects = g.F.Folder.objects c.args.folder.now in
    let shown : is_visible c.args.front (string_bytes c.in-Get.name) ≡ true = ap (is_visible c.args.front) (sym c.as_str.ensures.value) ∙ sym c.in_ok-is_visible-in-Get.ensures ∙ c.if-not-branch.false in
    rw c.in-Get.is (c.in_ok-read-in-Get.ensures.object steady ∙ ap (object_at objects) c.as_str-in-Get.ensures.value ∙ sym (still_visible c.args.front objects (string_bytes c.in-Get.name) shown))

-- ---- what is heard of the folder

pub returns-in_err-listed-in-List-clause-heard : goal.returns-in_err-listed-in-List-clause-heard
returns-in_err-listed-in-List-clause-heard g c =
    let listing = c.in_err-listed-in-List.ensures.heard in
    on_fault _ _ _ c.from_residual.result c.from_residual.ensures.1 (rw c.in-List.is (listing.0, listing.1, (None, listing.2)))

pub returns-in_err-visible-in-List-clause-heard : goal.returns-in_err-visible-in-List-clause-heard
returns-in_err-visible-in-List-clause-heard g c =
    let listing = c.in_ok-listed-in-List.ensures.heard in
    on_fault _ _ _ c.from_residual-in_err-visible-in-List.result c.from_residual-in_err-visible-in-List.ensures.1 (rw c.in-List.is (listing.0, listing.1, (Some _, listing.2)))

pub returns-in_err-rising-in-List-clause-heard : goal.returns-in_err-rising-in-List-clause-heard
returns-in_err-rising-in-List-clause-heard g c =
    let listing = c.in_ok-listed-in-List.ensures.heard in
    on_fault _ _ _ c.from_residual-in_err-rising-in-List.result c.from_residual-in_err-rising-in-List.ensures.1 (rw c.in-List.is (listing.0, listing.1, (Some _, listing.2)))

pub returns-in-List-clause-heard : goal.returns-in-List-clause-heard
returns-in-List-clause-heard g c =
    let listing = c.in_ok-listed-in-List.ensures.heard in
    rw c.in-List.is (
      listing.0,
      listing.1,
      (
        map string_bytes c.in_ok-listed-in-List.listed.items,
        listing.2,
        subst (λ names. TellsNames names (told_view c.listed_as.result)) c.in_ok-visible-in-List.ensures.kept (tells_listed c.in_ok-rising-in-List.field-0 c.listed_as.result _ _ c.in_ok-rising-in-List.ensures c.listed_as.ensures),
      ),
    )

pub returns-in_err-is_visible-in-Get-clause-heard : goal.returns-in_err-is_visible-in-Get-clause-heard
returns-in_err-is_visible-in-Get-clause-heard g c = on_fault _ _ _ c.from_residual-in_err-is_visible-in-Get.result c.from_residual-in_err-is_visible-in-Get.ensures.1 (rw c.in-Get.is ([], refl, inl refl))

pub returns-then-not-branch-clause-heard : goal.returns-then-not-branch-clause-heard
returns-then-not-branch-clause-heard g c =
    let hidden : is_visible c.args.front (string_bytes c.in-Get.name) ≡ false = ap (is_visible c.args.front) (sym c.as_str.ensures.value) ∙ sym c.in_ok-is_visible-in-Get.ensures ∙ c.if-not-branch.true in
    rw c.in-Get.is ([], refl, inr (hidden, refl, refl))

pub returns-in_err-read-in-Get-clause-heard : goal.returns-in_err-read-in-Get-clause-heard
returns-in_err-read-in-Get-clause-heard g c =
    let shown : is_visible c.args.front (string_bytes c.in-Get.name) ≡ true = ap (is_visible c.args.front) (sym c.as_str.ensures.value) ∙ sym c.in_ok-is_visible-in-Get.ensures ∙ c.if-not-branch.false in
    let made = subst (λ name. g.F.Folder.makes c.args.folder.now (reads name None) c.read.new.self) c.as_str-in-Get.ensures.value c.in_err-read-in-Get.ensures.called in
    on_fault _ _ _ c.from_residual-in_err-read-in-Get.result c.from_residual-in_err-read-in-Get.ensures.1 (rw c.in-Get.is (reads (string_bytes c.in-Get.name) None ∷ [], (c.read.new.self, made, refl), inr (shown, refl)))

pub returns-in-Get-clause-heard : goal.returns-in-Get-clause-heard
returns-in-Get-clause-heard g c =
    let shown : is_visible c.args.front (string_bytes c.in-Get.name) ≡ true = ap (is_visible c.args.front) (sym c.as_str.ensures.value) ∙ sym c.in_ok-is_visible-in-Get.ensures ∙ c.if-not-branch.false in
    let found = option_map (λ bytes. bytes.items) c.in_ok-read-in-Get.field-0 in
    let made = subst (λ name. g.F.Folder.makes c.args.folder.now (reads name (Some found)) c.read.new.self) c.as_str-in-Get.ensures.value c.in_ok-read-in-Get.ensures.called in
    rw c.in-Get.is (reads (string_bytes c.in-Get.name) (Some found) ∷ [], (c.read.new.self, made, refl), inl (found, shown, refl, refl))
