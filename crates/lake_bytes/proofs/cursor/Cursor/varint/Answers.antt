use Rattle.lake_bytes.proofs.Varints.{varint_tells}
use Rattle.lake_bytes.proofs.cursor.Cursor.varint.Goals as goal

pub returns-clause-read : goal.returns-clause-read
returns-clause-read c = (varint_tells c.args.self.now c.next_varint.result c.next_varint.new.self c.next_varint.ensures.bytes c.next_varint.ensures.exact).read

pub returns-clause-whatever_stands : goal.returns-clause-whatever_stands
returns-clause-whatever_stands c = (varint_tells c.args.self.now c.next_varint.result c.next_varint.new.self c.next_varint.ensures.bytes c.next_varint.ensures.exact).whatever_stands

pub returns-clause-short : goal.returns-clause-short
returns-clause-short c = (varint_tells c.args.self.now c.next_varint.result c.next_varint.new.self c.next_varint.ensures.bytes c.next_varint.ensures.exact).short

pub returns-clause-too_long : goal.returns-clause-too_long
returns-clause-too_long c = (varint_tells c.args.self.now c.next_varint.result c.next_varint.new.self c.next_varint.ensures.bytes c.next_varint.ensures.exact).too_long

pub returns-clause-out_of_range : goal.returns-clause-out_of_range
returns-clause-out_of_range c = (varint_tells c.args.self.now c.next_varint.result c.next_varint.new.self c.next_varint.ensures.bytes c.next_varint.ensures.exact).out_of_range
