use Rattle.snapshot_core.proofs.checkpoint_laws.what_is_known_stands.Goals as goal

pub returns : goal.returns
returns c = record { front = λ job before talk end ends objects earlier borne. ends.known objects earlier borne }
