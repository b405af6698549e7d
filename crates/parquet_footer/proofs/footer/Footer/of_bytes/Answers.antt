use Rattle.parquet_footer.specs.Footer.{FooterSays, ClaimsWithinLimit}
use Rattle.parquet_footer.specs.Reading.{metadata_at}
use Rattle.parquet_footer.proofs.FoundFooter.{answer_found, answer_finds}
use Rattle.parquet_footer.proofs.FooterSays.{metadata_found, metadata_again}
use Rattle.parquet_footer.proofs.footer.Footer.of_bytes.Goals as goal

pub returns-clause-found : goal.returns-clause-found
returns-clause-found g c =
    let footer = c.args.footer.now in
    answer_found (λ m. FooterSays footer m × ClaimsWithinLimit m) (metadata_at footer) c.read_metadata.result c.read_metadata.ensures.exact (λ m e. metadata_found footer m (λ i. (c.type_inv.footer i).fits) e)

pub returns-clause-only : goal.returns-clause-only
returns-clause-only g c = λ m said claims.
    let footer = c.args.footer.now in
    answer_finds m (metadata_at footer) c.read_metadata.result c.read_metadata.ensures.exact (metadata_again footer m said claims)
