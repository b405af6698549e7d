use Rattle.log_hub.proofs.Seeing.{has_by}
use Rattle.log_hub.proofs.laws.a_book_has_what_its_seats_have_seen.Goals as goal

pub returns : goal.returns
returns c = λ book s is seat of. has_by s book seat is of
