use Rattle.std.proofs.Common.{◌≡◌, ◌++◌, ◌∷◌, []}
use Rattle.std.proofs.lemmas.List.{map_push}
use Rattle.std.proofs.lemmas.Result.{err_from_is_err_and}
use Rattle.thrift_core.specs.Fields.{each}
use Rattle.thrift_core.specs.View.{views}
use Rattle.parquet_footer.specs.Metadata.{chunk_of}
use Rattle.parquet_footer.specs.Views.{chunk_view, chunk_views}
use Rattle.parquet_footer.proofs.Members.{member_goes_on, member_fails}
use Rattle.parquet_footer.proofs.metadata.chunks.Goals as goal

pub returns-in_err-chunk : goal.returns-in_err-chunk
returns-in_err-chunk g c =
    let p = err_from_is_err_and c.from_residual.result c.from_residual.ensures.1 in
    rw (p.1, p.2) (member_fails chunk_of (chunk_views c.loop-member.chunks.items) c.args.members.now c.loop-member.member-index c.member-item.result c.in_err-chunk.field-0.0 (each chunk_of (views c.args.members.now)) c.loop-member-test.true c.member-item.is c.in_err-chunk.ensures c.loop-member.invariant)

pub loop-member-preserved : goal.loop-member-preserved
loop-member-preserved g c =
    let put : chunk_views c.push.new.self.items ≡ chunk_views c.loop-member.chunks.items ++ chunk_view c.in_ok-chunk.field-0 ∷ [] = rw c.in_ok-push.ensures.items (map_push chunk_view c.loop-member.chunks.items c.in_ok-chunk.field-0) in
    member_goes_on chunk_of (chunk_views c.loop-member.chunks.items) (chunk_views c.push.new.self.items) c.args.members.now c.loop-member.member-index c.member-item.result (chunk_view c.in_ok-chunk.field-0) (each chunk_of (views c.args.members.now)) c.loop-member-test.true c.member-item.is c.in_ok-chunk.ensures put c.loop-member.invariant
