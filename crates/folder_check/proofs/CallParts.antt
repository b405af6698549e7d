-- Calls of a folder that those of its reader are.
use Rattle.std.proofs.Common.{◌≡◌, ◌++◌, ◌∷◌, [], List, Vec, String, Global, Result, Ok, Err, IfOk, map, string_bytes, refl, ap, subst, sym, inl, inr}
use Rattle.store_core.specs.Objects.{Objects}
use Rattle.table_audit.specs.Audits.{Audits, LooksBeside}
use Rattle.table_audit.specs.Calls.{ReaderCall}
use Rattle.table_audit.specs.Calls as readers
use Rattle.table_folder.specs.Traces.{FolderCall, Traced, looks}
use Rattle.table_folder.proofs.Callers.{traced_on}
use Rattle.folder_check.specs.Beside.{AreBeside}
use Rattle.folder_check.specs.Calls.{Checks, LooksAround, folder_call}

-- what one call of a reader makes of its folder
abbrev pub MakesOf : {R F : Type 0} → (folder : R → F) (makes : F → FolderCall → F → Type 0) → R → ReaderCall → R → Type 0
MakesOf folder makes old call new = makes (folder old) (folder_call call) (folder new)

module _ {R F : Type 0} (folder : R → F) (makes : F → FolderCall → F → Type 0) where
  -- and what several do
  pub traced_folder : (old new : R) (calls : List ReaderCall) → readers.ReaderTraced (MakesOf folder makes) old calls new → Traced makes (folder old) (map folder_call calls) (folder new)
  traced_folder old new [] is = ap folder is
  traced_folder old new (call ∷ calls) is = (folder is.0, is.1, traced_folder is.0 new calls is.2)

-- ---- what lies beside the table

module _ {F : Type 0} (makes : F → FolderCall → F → Type 0) (old mid : F) (left : makes old looks mid) where
  pub around_alone : (calls : List FolderCall) × Traced makes old calls mid × LooksAround calls
  around_alone = (looks ∷ [], (mid, left, refl), ([], refl, inl refl))

  pub around_beside : (new : F) (beside : List ReaderCall) → LooksBeside beside → Traced makes mid (map folder_call beside) new → (calls : List FolderCall) × Traced makes old calls new × LooksAround calls
  around_beside new beside is traced = (looks ∷ map folder_call beside, (mid, left, traced), (map folder_call beside, refl, inr (beside, is, refl)))

-- ---- a check

module _ {F X E : Type 0} (makes : F → FolderCall → F → Type 0) (old mid : F) (result : Result X E) (audit : List ReaderCall) (are : Audits audit) (traced : Traced makes old (map folder_call audit) mid) where
  -- the audit told a verdict
  pub checks_told : (new : F) (report : X) → result ≡ Ok report → (calls : List FolderCall) × Traced makes mid calls new × LooksAround calls → (calls : List FolderCall) × Traced makes old calls new × Checks result calls
  checks_told new report is around = (
    map folder_call audit ++ around.0,
    traced_on makes old mid new (map folder_call audit) around.0 traced around.1,
    subst (λ (r : Result X E). Checks r (map folder_call audit ++ around.0)) (sym is) (audit, around.0, are, around.2, refl),
  )

  -- it told none
  pub checks_failed : (fault : E) → result ≡ Err fault → (calls : List FolderCall) × Traced makes old calls mid × Checks result calls
  checks_failed fault is = (map folder_call audit, traced, subst (λ (r : Result X E). Checks r (map folder_call audit)) (sym is) (audit, are, refl))

-- what is told of objects is told of the same
pub lines_of_same : {E : Type 0} (result : Result (Vec (String Global) Global) E) (now objects : Objects) → now ≡ objects → IfOk result (λ lines. AreBeside now (map string_bytes lines.items)) → IfOk result (λ lines. AreBeside objects (map string_bytes lines.items))
lines_of_same result now objects same lies = subst (λ (o : Objects). IfOk result (λ lines. AreBeside o (map string_bytes lines.items))) same lies
