use Rattle.std.proofs.Common.{◌∙◌}
use Rattle.lake_script.proofs.EndingLemmas.{stream_tells}
use Rattle.lake_script.proofs.ending.reply_learning.Goals as goal

pub returns-in-Streamed-clause-lost : goal.returns-in-Streamed-clause-lost
returns-in-Streamed-clause-lost c = rw c.in-Streamed.is (c.reply_of_stream.ensures.lost ∙ stream_tells c.in-Streamed.end)
