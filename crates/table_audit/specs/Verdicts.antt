-- What an audit tells of objects.
use Rattle.std.specs.Prelude.{◌≡◌, ℕ}
use Rattle.table_check.specs.SoundStores.{IsSoundStore}
use Rattle.store_core.specs.Objects.{Objects}
use Rattle.table_check.specs.Below.{IsFirstUnsound}
use Rattle.table_log.specs.Counts.{commit_count}
use Rattle.table_audit.specs.Reasons.{IsReasonOf}
use Rattle.table_audit.specs.declared.verdict.Verdict.{Verdict}
use Rattle.table_audit.specs.declared.verdict.Verdict.TheVariants.{Sound, Unsound}

-- They are sound, and have so many versions; or the version is their first unsound one, for this reason.
abbrev pub IsVerdictOf : Objects → Verdict → Type 0
IsVerdictOf objects (Sound versions) = IsSoundStore objects × (commit_count objects ≡ versions)
IsVerdictOf objects (Unsound unsound) = IsFirstUnsound objects unsound.version × IsReasonOf objects unsound.version unsound.reason

-- how many versions are told, or the unsound one
abbrev pub end_of : Verdict → ℕ
end_of (Sound versions) = versions
end_of (Unsound unsound) = unsound.version
