-- The versions that names of a log tell.
use Rattle.std.specs.Prelude.{ℕ, List, [], ◌∷◌, nat_le, Option, Some, None, if◌then◌else◌}
use Rattle.store_core.specs.Names.{commit_version}
use Rattle.table_log.specs.Restoring.{checkpoint_version}

-- a commit's version, or else that of a checkpoint's name
abbrev pub or_checkpoint : Option ℕ → List ℕ → Option ℕ
or_checkpoint (Some version) name = Some version
or_checkpoint None name = checkpoint_version name

-- the version whose commit or checkpoint has a name
abbrev pub version_named : List ℕ → Option ℕ
version_named name = or_checkpoint (commit_version name) name

-- a version, where it isn't before another
abbrev pub unless_before : (from : ℕ) → Option ℕ → Option ℕ
unless_before from None = None
unless_before from (Some version) = if nat_le from version then Some version else None

-- the version whose commit or checkpoint has a name, where it isn't before another
abbrev pub named_from : (from : ℕ) → List ℕ → Option ℕ
named_from from name = unless_before from (version_named name)

-- the lesser one
abbrev pub lesser : Option ℕ → Option ℕ → Option ℕ
lesser None other = other
lesser (Some version) None = Some version
lesser (Some version) (Some other) = if nat_le version other then Some version else Some other

-- the least version that isn't before another, of those whose commits or checkpoints have one of these names
abbrev pub least_named : (from : ℕ) → List (List ℕ) → Option ℕ
least_named from [] = None
least_named from (name ∷ names) = lesser (named_from from name) (least_named from names)
