-- What a fault of the store is told as, and the printed forms.
use Rattle.std.specs.Prelude.{ℕ, List, ◌++◌, codes, string_bytes}
use Rattle.store_core.specs.declared.fault.StoreFault.{StoreFault}
use Rattle.store_core.specs.declared.fault.StoreFault.TheVariants as stores
use Rattle.table_audit.specs.declared.fault.AuditError.{AuditError}
use Rattle.table_audit.specs.declared.fault.AuditError.TheVariants.{Lost, Memory, TooLarge}

abbrev pub of_store : StoreFault → AuditError
of_store stores.Lost = Lost
of_store stores.Memory = Memory

-- the printed form
abbrev pub audit_text : AuditError → List ℕ
audit_text Lost = codes "St1 Lost"
audit_text Memory = codes "St2 Memory"
audit_text (TooLarge version name) = codes "file " ++ (string_bytes name ++ codes ": P9 TooLarge")
