-- What is left of the test of a checkpoint's name, once the part before it holds.
use Rattle.std.proofs.Common.{◌≡◌, ◌&&◌, ℕ, true, List, drop, ap}
use Rattle.std.specs.Prelude.{nat_eq, codes}
use Rattle.std.specs.List.{starts_with, ends_with}
use Rattle.store_core.specs.Names.{has_version}
use Rattle.table_folder.specs.Kinds.{is_checkpoint}

pub checkpoint_rest : (name : List ℕ) → true ≡ has_version name → (starts_with nat_eq (drop 31 name) (codes ".checkpoint.") && ends_with nat_eq name (codes ".json")) ≡ is_checkpoint name
unfolding is_checkpoint
checkpoint_rest name h = ap (λ b. b && starts_with nat_eq (drop 31 name) (codes ".checkpoint.") && ends_with nat_eq name (codes ".json")) h
