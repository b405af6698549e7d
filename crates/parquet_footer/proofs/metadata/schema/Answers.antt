use Rattle.std.proofs.Common.{◌≡◌, ◌++◌, ◌∷◌, []}
use Rattle.std.proofs.lemmas.List.{map_push}
use Rattle.std.proofs.lemmas.Result.{err_from_is_err_and}
use Rattle.thrift_core.specs.View.{views}
use Rattle.parquet_footer.specs.Metadata.{node_of, schema_of}
use Rattle.parquet_footer.specs.Views.{element_view, element_views}
use Rattle.parquet_footer.proofs.Members.{member_goes_on, member_fails}
use Rattle.parquet_footer.proofs.metadata.schema.Goals as goal

pub returns-in_err-node : goal.returns-in_err-node
returns-in_err-node g c =
    let p = err_from_is_err_and c.from_residual-in_err-node.result c.from_residual-in_err-node.ensures.1 in
    rw (p.1, p.2) (member_fails node_of (element_views c.loop-other.elements.items) c.in-Some.others.now c.loop-other.other-index c.other-item.result c.in_err-node.field-0.0 (schema_of (views c.args.nodes.now)) c.loop-other-test.true c.other-item.is c.in_err-node.ensures c.loop-other.invariant)

pub loop-other-preserved : goal.loop-other-preserved
loop-other-preserved g c =
    let put : element_views c.push-in-loop-other.new.self.items ≡ element_views c.loop-other.elements.items ++ element_view c.in_ok-node.field-0 ∷ [] = rw c.in_ok-push-2.ensures.items (map_push element_view c.loop-other.elements.items c.in_ok-node.field-0) in
    member_goes_on node_of (element_views c.loop-other.elements.items) (element_views c.push-in-loop-other.new.self.items) c.in-Some.others.now c.loop-other.other-index c.other-item.result (element_view c.in_ok-node.field-0) (schema_of (views c.args.nodes.now)) c.loop-other-test.true c.other-item.is c.in_ok-node.ensures put c.loop-other.invariant
