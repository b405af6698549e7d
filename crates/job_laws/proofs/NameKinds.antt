-- Which names are a data file's.
use Rattle.std.proofs.Common.{◌≡◌, ◌&&◌, ℕ, Bool, true, false, codes, List, length, take, drop, refl, ap}
use Rattle.std.specs.Prelude.{not, nat_eq, nat_le, bytes_eq}
use Rattle.std.specs.Char.{is_ascii_digit}
use Rattle.std.specs.List.{list_all, starts_with, ends_with}
use Rattle.delta_actions.specs.Names.{data_file_name}
use Rattle.table_folder.specs.Kinds.{has_version, is_checkpoint, is_commit, is_data}

-- what isn't in the log's folder has no version
no_version : (application : List ℕ) (number : ℕ) → has_version (data_file_name application number) ≡ false
unfolding has_version
no_version application number = none (nat_le 31 (length (data_file_name application number))) (list_all is_ascii_digit (take 20 (drop 11 (data_file_name application number))))
  where
    none : (a b : Bool) → (a && false && b) ≡ false
    none true b = refl
    none false b = refl

no_commit : (application : List ℕ) (number : ℕ) → is_commit (data_file_name application number) ≡ false
unfolding is_commit
no_commit application number = ap (λ b. b && bytes_eq (drop 31 (data_file_name application number)) (codes ".json")) (no_version application number)

no_checkpoint : (application : List ℕ) (number : ℕ) → is_checkpoint (data_file_name application number) ≡ false
unfolding is_checkpoint
no_checkpoint application number =
    ap (λ b. b && starts_with nat_eq (drop 31 (data_file_name application number)) (codes ".checkpoint.") && ends_with nat_eq (data_file_name application number) (codes ".json")) (no_version application number)

-- the file of a batch has a data file's name
pub file_is_data : (application : List ℕ) (number : ℕ) → is_data (data_file_name application number) ≡ true
file_is_data application number = λ i. not (no_commit application number i) && not (no_checkpoint application number i)
