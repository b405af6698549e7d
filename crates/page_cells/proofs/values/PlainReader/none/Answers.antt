use Rattle.std.proofs.Common.{◌≡◌, [], true, arith}
use Rattle.std.proofs.lemmas.List.Elements.{All-nil}
use Rattle.page_cells.specs.Texts.{is_proper}
use Rattle.page_cells.proofs.ValuesLeft.{none_read}
use Rattle.page_cells.proofs.values.PlainReader.none.Goals as goal

pub returns : goal.returns
returns c = c.new.ensures [] (none_read c.args.leaf_type) (All-nil (λ v. is_proper v ≡ true)) (omega arith)
