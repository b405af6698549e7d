-- Objects of bytes stay so along a history of puts of bytes.
use Rattle.std.proofs.Common.{◌≡◌, ◌≢◌, ◌∙◌, ℕ, List, [], ◌∷◌, Bool, true, false, Option, None, Some, refl, sym, ap, subst}
use Rattle.std.specs.Prelude.{bytes_eq, unwrap_or}
use Rattle.std.proofs.lemmas.Slice.Eq.{bytes_eq-Decides}
use Rattle.outcomes.specs.Bytes.{IsBytes}
use Rattle.store_core.specs.Names.{commit_name}
use Rattle.store_core.specs.ObjectLaws.{object_at-with_object_other, object_at-with_object_same}
use Rattle.store_core.specs.Objects.{AreBytes, Objects, object_at, with_object}
use Rattle.session_core.specs.Talks.{Asked, get_object, list_names, put_commit, put_file}
use Rattle.session_core.specs.CallEffects.{left_by_call}
use Rattle.log_book.specs.Histories.{History, left_by_all}
use Rattle.log_book.specs.Making.{MightMakeAll, PutsBytes}
use Rattle.log_book.specs.Book.{BookView, IsBook}

-- behind a put of bytes
put_of_bytes : (objects : Objects) (name put : List ℕ) → AreBytes objects → IsBytes put → AreBytes (with_object objects name put)
put_of_bytes objects name put are of_bytes other bytes is = by_name (bytes_eq other name) refl
  where
    by_found : (found : Option (List ℕ)) → object_at objects name ≡ found → Some (unwrap_or found put) ≡ Some bytes → IsBytes bytes
    by_found None was same = let one : put ≡ bytes = cc in subst IsBytes one of_bytes
    by_found (Some kept) was same = are name bytes (was ∙ same)

    by_name : (b : Bool) → bytes_eq other name ≡ b → IsBytes bytes
    by_name true e =
        let one : other ≡ name = (bytes_eq-Decides other name).0 e in
        by_found (object_at objects name) refl (sym (object_at-with_object_same objects name put) ∙ (ap (object_at (with_object objects name put)) (sym one) ∙ is))
    by_name false e =
        let away : other ≢ name = λ same. (let wrong : false ≡ true = sym e ∙ (bytes_eq-Decides other name).1 same in absurd cc) in
        are other bytes (sym (object_at-with_object_other objects name put other away) ∙ is)

-- behind a call
call_of_bytes : (objects : Objects) (asked : Asked) → AreBytes objects → PutsBytes asked → AreBytes (left_by_call objects asked)
call_of_bytes objects list_names are of_bytes = are
call_of_bytes objects (get_object name) are of_bytes = are
call_of_bytes objects (put_file name bytes) are of_bytes = put_of_bytes objects name bytes are of_bytes
call_of_bytes objects (put_commit version bytes) are of_bytes = put_of_bytes objects (commit_name version) bytes are of_bytes

-- behind all calls of a history
pub all_of_bytes : (objects : Objects) (history : History) → AreBytes objects → MightMakeAll objects history → AreBytes (left_by_all objects history)
all_of_bytes objects [] are might = are
all_of_bytes objects (call ∷ history) are might = all_of_bytes (left_by_call objects call.asked) history (call_of_bytes objects call.asked are might.1) might.2

-- what stands in a book is of bytes
pub book_of_bytes : (book : BookView) → IsBook book → AreBytes book.objects
book_of_bytes book is = subst AreBytes is.replays.left (all_of_bytes book.opening book.history is.bytes is.might)
