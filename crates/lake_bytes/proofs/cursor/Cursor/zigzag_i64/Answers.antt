use Rattle.lake_bytes.proofs.Signs.{signed_tells}
use Rattle.lake_bytes.proofs.cursor.Cursor.zigzag_i64.Goals as goal

pub returns-clause-read : goal.returns-clause-read
returns-clause-read c = (signed_tells 64 c.args.self.now c.next_i64.result c.next_i64.new.self c.next_i64.ensures.bytes c.next_i64.ensures.exact).read

pub returns-clause-whatever_stands : goal.returns-clause-whatever_stands
returns-clause-whatever_stands c = (signed_tells 64 c.args.self.now c.next_i64.result c.next_i64.new.self c.next_i64.ensures.bytes c.next_i64.ensures.exact).whatever_stands

pub returns-clause-unchanged : goal.returns-clause-unchanged
returns-clause-unchanged c = (signed_tells 64 c.args.self.now c.next_i64.result c.next_i64.new.self c.next_i64.ensures.bytes c.next_i64.ensures.exact).unchanged

pub returns-clause-short : goal.returns-clause-short
returns-clause-short c = (signed_tells 64 c.args.self.now c.next_i64.result c.next_i64.new.self c.next_i64.ensures.bytes c.next_i64.ensures.exact).short

pub returns-clause-too_long : goal.returns-clause-too_long
returns-clause-too_long c = (signed_tells 64 c.args.self.now c.next_i64.result c.next_i64.new.self c.next_i64.ensures.bytes c.next_i64.ensures.exact).too_long

pub returns-clause-out_of_range : goal.returns-clause-out_of_range
returns-clause-out_of_range c = (signed_tells 64 c.args.self.now c.next_i64.result c.next_i64.new.self c.next_i64.ensures.bytes c.next_i64.ensures.exact).out_of_range
