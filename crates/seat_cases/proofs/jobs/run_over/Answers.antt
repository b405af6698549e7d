use Rattle.seat_cases.proofs.jobs.run_over.Goals as goal

-- nothing is known of the store's log
pub run-requires : goal.run-requires
run-requires c = record { cache = c.new-cache.ensures.cache _ }
