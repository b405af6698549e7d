use Rattle.thrift_core.proofs.Told.{is_found, is_read}
use Rattle.thrift_core.proofs.reading.read_struct.Goals as goal

pub returns-clause-found : goal.returns-clause-found
returns-clause-found g c = is_found c.args.cursor.now c.next_struct.result c.next_struct.new.cursor c.next_struct.ensures.bytes c.next_struct.ensures.exact

pub returns-clause-only : goal.returns-clause-only
returns-clause-only g c = is_read c.args.cursor.now c.next_struct.result c.next_struct.new.cursor c.next_struct.ensures.exact
