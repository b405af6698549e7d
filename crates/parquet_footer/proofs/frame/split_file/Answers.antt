use Rattle.parquet_footer.proofs.FrameTold.{view_framed, view_again}
use Rattle.parquet_footer.proofs.frame.split_file.Goals as goal

pub returns-clause-found : goal.returns-clause-found
returns-clause-found c = view_framed (λ parts. (parts.0.now, parts.1.now)) c.args.bytes.now c.parts_of.result (λ i. (c.type_inv.bytes i).fits) c.parts_of.ensures.exact

pub returns-clause-only : goal.returns-clause-only
returns-clause-only c = λ front footer framed small. view_again (λ parts. (parts.0.now, parts.1.now)) c.args.bytes.now front footer c.parts_of.result c.parts_of.ensures.exact framed small
