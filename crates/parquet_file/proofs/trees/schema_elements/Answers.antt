use Rattle.parquet_file.proofs.PutElements.{root_put}
use Rattle.parquet_file.proofs.trees.schema_elements.Goals as goal

pub returns : goal.returns
returns g c =
    root_put c.fields.result.now c.fields-2.result.now _ c.in_ok-root.root c.in_ok-elements.elements.items _
    c.fields.ensures c.fields-2.ensures c.in_ok-root.ensures c.in_ok-elements.ensures.items c.in_ok-put_fields.ensures
