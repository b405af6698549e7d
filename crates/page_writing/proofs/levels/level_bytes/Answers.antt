use Rattle.std.proofs.Common.{arith}
use Rattle.page_writing.proofs.WrittenLevels.{content_short, hybrid_content_short}
use Rattle.page_writing.proofs.levels.level_bytes.Goals as goal

pub write_content-requires : goal.write_content-requires
write_content-requires c =
    omega (
      arith,
      hybrid_content_short c.width_of.result c.args.levels.now c.new-hybrid.result.items
          c.hybrid_write.new.out.items c.deref.result.now c.new-hybrid.ensures.items c.in_ok-hybrid_write.ensures.ok
          c.deref.ensures.value c.requires c.width_of.ensures.few,
    )

pub returns-clause-short : goal.returns-clause-short
returns-clause-short c =
    content_short c.new-bytes.result.items c.write_content.new.out.items c.deref.result.now c.new-bytes.ensures.items
    c.in_ok-write_content.ensures.ok
    (hybrid_content_short c.width_of.result c.args.levels.now c.new-hybrid.result.items c.hybrid_write.new.out.items
    c.deref.result.now c.new-hybrid.ensures.items c.in_ok-hybrid_write.ensures.ok c.deref.ensures.value c.requires
    c.width_of.ensures.few)
