-- Which calls a check makes of a folder.
use Rattle.std.specs.Prelude.{◌≡◌, ◌⊎◌, ◌++◌, List, [], ◌∷◌, Result, Ok, Err, map}
use Rattle.table_audit.specs.Audits.{Audits, LooksBeside}
use Rattle.table_audit.specs.Calls.{ReaderCall, lists, reads}
use Rattle.table_folder.specs.Traces.{FolderCall, finds, looks}
use Rattle.table_folder.specs.Traces as folders

-- the call of a folder that one of its reader is
abbrev pub folder_call : ReaderCall → FolderCall
folder_call (lists told) = folders.lists told
folder_call (reads name told) = finds name told

-- What killed runs left was looked for; and then, unless that failed, what lies beside the table.
abbrev pub LooksAround : List FolderCall → Type 0
LooksAround calls = (more : List FolderCall) × (calls ≡ looks ∷ more) × ((more ≡ []) ⊎ ((beside : List ReaderCall) × LooksBeside beside × (more ≡ map folder_call beside)))

-- The calls of a check: those of an audit; and where that told a verdict, those of a look for what lies beside the table.
abbrev pub Checks : {X E : Type 0} → Result X E → List FolderCall → Type 0
Checks (Ok report) calls = (audit : List ReaderCall) × (around : List FolderCall) × Audits audit × LooksAround around × (calls ≡ map folder_call audit ++ around)
Checks (Err fault) calls = (audit : List ReaderCall) × Audits audit × (calls ≡ map folder_call audit)
