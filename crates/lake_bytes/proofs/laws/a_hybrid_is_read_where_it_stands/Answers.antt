use Rattle.lake_bytes.specs.Hybrid.{hybrid_bytes}
use Rattle.lake_bytes.proofs.GroupedLemmas.{AreRuns-hybrid_bytes}
use Rattle.lake_bytes.proofs.HybridLemmas.{all_again, hybrid_found, hybrid_stands, one_hybrid}
use Rattle.lake_bytes.proofs.laws.a_hybrid_is_read_where_it_stands.Goals as goal

pub returns-clause-found : goal.returns-clause-found
returns-clause-found c = hybrid_found

pub returns-clause-stands : goal.returns-clause-stands
returns-clause-stands c = hybrid_stands

pub returns-clause-one : goal.returns-clause-one
returns-clause-one c = one_hybrid

pub returns-clause-again : goal.returns-clause-again
returns-clause-again c =
    λ width values rest all few. all_again width (hybrid_bytes width values) values rest
    (AreRuns-hybrid_bytes width values all few)
