use Rattle.std.proofs.Common.{◌-◌, ◌^◌, length, map, arith}
use Rattle.shred.specs.Views.{borrowed_value}
use Rattle.page_writing.specs.Internal.{part}
use Rattle.page_writing.specs.Writing.{plain_bytes}
use Rattle.page_writing.proofs.WrittenSizes.{page_is_written, sizes}
use Rattle.page_writing.proofs.page.put_page.Goals as goal

pub returns-clause-exact : goal.returns-clause-exact
returns-clause-exact c =
    let levels = c.in_ok-level_bytes.level_bytes.items in
    let values = map borrowed_value c.args.values.now in
    let physical = c.physical_type-physical_type.result in
    let size = c.saturating_add-size.result in
    let within = c.if-size-gt-MAX_PAGE_SIZE.false in
    let counted = sizes (length levels) (length (plain_bytes physical values)) c.plain_size.result size 67108864
    (2 ^ 64 - 1)
    c.plain_size.ensures.size c.plain_size.ensures.above (omega arith)
    (omega (arith, c.len.ensures, c.saturating_add-size.ensures)) within in
    page_is_written c.args.leaf_type c.args.highest (part c.args.levels.now c.args.values.now) levels
    c.in_ok-header.header.items physical size c.args.out.now.items c.extend_from_slice.new.self.items
    c.extend_from_slice-2.new.self.items c.write_plain.new.out.items c.deref.result.now c.deref-2.result.now
    c.in_ok-level_bytes.ensures.bytes c.physical_type-physical_type.ensures (within, counted) c.in_ok-header.ensures
    c.deref.ensures.value c.deref-2.ensures.value c.in_ok-extend_from_slice.ensures.items
    c.in_ok-extend_from_slice-2.ensures.items c.in_ok-write_plain.ensures.ok
