use Rattle.std.proofs.Common.{sym}
use Rattle.page_cells.proofs.CodeLeaves.{others_in_range}
use Rattle.page_cells.proofs.CodeRanges.{all_bytes}
use Rattle.page_cells.proofs.testing.are_in_range.Goals as goal

pub returns-in_default : goal.returns-in_default
returns-in_default c values rest is none =
    sym (others_in_range c.args.leaf_type c.in_default.not-Byte c.in_default.not-Short c.args.count c.args.bytes.now
    values rest (all_bytes c.args.bytes.now c.type_inv.bytes) is none)
