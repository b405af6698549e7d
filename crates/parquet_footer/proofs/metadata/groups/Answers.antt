use Rattle.std.proofs.Common.{◌≡◌, ◌++◌, ◌∷◌, []}
use Rattle.std.proofs.lemmas.List.{map_push}
use Rattle.std.proofs.lemmas.Result.{err_from_is_err_and}
use Rattle.thrift_core.specs.Fields.{each}
use Rattle.thrift_core.specs.View.{views}
use Rattle.parquet_footer.specs.Metadata.{group_of}
use Rattle.parquet_footer.specs.Views.{group_view, group_views}
use Rattle.parquet_footer.proofs.Members.{member_goes_on, member_fails}
use Rattle.parquet_footer.proofs.metadata.groups.Goals as goal

pub returns-in_err-group : goal.returns-in_err-group
returns-in_err-group g c =
    let p = err_from_is_err_and c.from_residual.result c.from_residual.ensures.1 in
    rw (p.1, p.2) (member_fails group_of (group_views c.loop-member.groups.items) c.args.members.now c.loop-member.member-index c.member-item.result c.in_err-group.field-0.0 (each group_of (views c.args.members.now)) c.loop-member-test.true c.member-item.is c.in_err-group.ensures c.loop-member.invariant)

pub loop-member-preserved : goal.loop-member-preserved
loop-member-preserved g c =
    let put : group_views c.push.new.self.items ≡ group_views c.loop-member.groups.items ++ group_view c.in_ok-group.field-0 ∷ [] = rw c.in_ok-push.ensures.items (map_push group_view c.loop-member.groups.items c.in_ok-group.field-0) in
    member_goes_on group_of (group_views c.loop-member.groups.items) (group_views c.push.new.self.items) c.args.members.now c.loop-member.member-index c.member-item.result (group_view c.in_ok-group.field-0) (each group_of (views c.args.members.now)) c.loop-member-test.true c.member-item.is c.in_ok-group.ensures put c.loop-member.invariant
