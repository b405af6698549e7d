use Rattle.log_laws.proofs.GoesOn.{goes_on}
use Rattle.log_laws.proofs.admitting.a_candidate_without_conflict_goes_on.Goals as goal

pub returns : goal.returns
returns c = λ objects version bytes won candidate winner lawful new made own stands is_winner none fits.
    goes_on objects version won winner stands is_winner fits candidate own none bytes made lawful new
