use Rattle.std.proofs.Common.{IsTrue, string_bytes}
use Rattle.std.proofs.lemmas.Map.Views.{All-map-IsPermutation}
use Rattle.table_folder.specs.Names.{is_listed}
use Rattle.table_folder.proofs.disk.listed_names.Goals as goal

pub returns : goal.returns
returns g c =
    All-map-IsPermutation string_bytes (λ name. IsTrue (is_listed c.args.listed name)) _ _ c.in_ok-sort.ensures.permutation c.in_ok-add_names-2.ensures
