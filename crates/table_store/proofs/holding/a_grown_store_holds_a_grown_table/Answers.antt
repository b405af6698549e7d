use Rattle.table_store.proofs.HoldingGrown.{front, offset_stays, same_schema}
use Rattle.table_store.proofs.holding.a_grown_store_holds_a_grown_table.Goals as goal

pub returns : goal.returns
returns c = record {
  front = λ objects more schema other entries others grown. front objects more schema grown other entries others;
  schema = λ objects more schema other first entries others grown. same_schema objects more schema grown other first entries others;
  offsets = λ objects more schema other entries others place grown. offset_stays objects more schema grown other entries others place;
}
