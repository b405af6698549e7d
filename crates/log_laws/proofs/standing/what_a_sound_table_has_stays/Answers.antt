use Rattle.std.proofs.Common.{◌≡◌, List, true, Some, Contains, slice_get, subst, sym}
use Rattle.table_model.specs.Appends.{TellsAppend, TellsClose}
use Rattle.table_model.specs.Lawful.{IsLawful}
use Rattle.table_model.specs.Table.{Entry, batches, is_stream_closed}
use Rattle.table_model.proofs.Callers.{append_lasts, at_the_front, batch_lasts, close_lasts}
use Rattle.log_laws.proofs.Growth.{NotBelow, closed_kept, lawful_table, number_kept, table_front, table_has}
use Rattle.log_laws.proofs.standing.what_a_sound_table_has_stays.Goals as goal

pub returns-clause-version : goal.returns-clause-version
returns-clause-version c = λ objects more schema other entries others version entry sound grown holds held is.
    table_has objects more schema other entries others (λ (es : List Entry). slice_get es version ≡ Some entry) sound.table grown holds held (λ later. at_the_front entries later version entry is)

pub returns-clause-batch : goal.returns-clause-batch
returns-clause-batch c = λ objects more schema other entries others b sound grown holds held stands.
    table_has objects more schema other entries others (λ (es : List Entry). Contains (batches es) b) sound.table grown holds held (λ later. batch_lasts b entries later stands)

pub returns-clause-closed : goal.returns-clause-closed
returns-clause-closed c = λ objects more schema other entries others application sound grown holds held is.
    table_has objects more schema other entries others (λ (es : List Entry). is_stream_closed application es ≡ true) sound.table grown holds held (λ later. closed_kept application entries later is)

pub returns-clause-append : goal.returns-clause-append
returns-clause-append c = λ objects more schema other entries others answer b sound grown holds held told.
    table_has objects more schema other entries others (TellsAppend answer b) sound.table grown holds held (λ later. append_lasts answer b entries later told)

pub returns-clause-close : goal.returns-clause-close
returns-clause-close c = λ objects more schema other entries others answer application sound grown holds held told.
    table_has objects more schema other entries others (TellsClose answer application) sound.table grown holds held (λ later. close_lasts answer application entries later told)

pub returns-clause-number : goal.returns-clause-number
returns-clause-number c = λ objects more schema other entries others t sound still grown holds held is.
    let later = table_front objects more schema other entries others sound.table grown holds held in
    let lawful = subst IsLawful later.1 (lawful_table more still.table other others held) in
    subst (NotBelow t.application t) (sym later.1) (number_kept t.application t entries later.0 lawful is)
