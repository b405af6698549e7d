use Rattle.parquet_footer.specs.Footer.{HasFooter, ClaimsWithinLimit}
use Rattle.parquet_footer.specs.Reading.{footer_at}
use Rattle.parquet_footer.proofs.FoundFooter.{answer_found, answer_finds, footer_found, footer_again}
use Rattle.parquet_footer.proofs.footer.Footer.read.Goals as goal

pub returns-clause-found : goal.returns-clause-found
returns-clause-found g c =
    let bytes = c.args.bytes.now in
    answer_found (λ m. HasFooter bytes m × ClaimsWithinLimit m) (footer_at bytes) c.footer_in.result c.footer_in.ensures.exact (λ m e. footer_found bytes m (λ i. (c.type_inv.bytes i).fits) e)

pub returns-clause-only : goal.returns-clause-only
returns-clause-only g c = λ m stands small claims.
    let bytes = c.args.bytes.now in
    answer_finds m (footer_at bytes) c.footer_in.result c.footer_in.ensures.exact (footer_again bytes m stands small claims)
