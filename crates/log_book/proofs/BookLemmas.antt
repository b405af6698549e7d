-- A call keeps what is so of every book, and each front of a book's history is one.
use Rattle.std.proofs.Common.{◌≡◌, ◌∙◌, List, [], ◌∷◌, ◌++◌, refl, sym, ap, subst}
use Rattle.store_core.specs.Objects.{AreBytes, Objects}
use Rattle.session_core.specs.Talks.{Asked}
use Rattle.log_laws.specs.Sound.{IsSoundStore}
use Rattle.log_book.specs.declared.record.CallRecord.{CallRecord}
use Rattle.log_book.specs.Book.{BookView, IsBook, book_at}
use Rattle.session_core.specs.CallEffects.{left_by_call, told_by_call}
use Rattle.log_book.specs.Histories.{AreToldSo, History, SeatCall, left_by_all}
use Rattle.log_book.specs.Making.{MayMake, MightMakeAll, PutsBytes}
use Rattle.log_book.specs.Records.{call_asked, call_told, recorded_call, recorded_history}
use Rattle.log_book.proofs.HistoryLemmas.{left_by_all-append, might-append, might_front, told-append, told_front}

-- a call that may be made leaves a sound store sound
abbrev pub KeepsSound : Type 0
KeepsSound = (objects : Objects) (asked : Asked) → IsSoundStore objects → MayMake objects asked → IsSoundStore (left_by_call objects asked)

-- so do all calls of a history that might be made
pub all_sound : KeepsSound → (objects : Objects) (history : History) → IsSoundStore objects → MightMakeAll objects history → IsSoundStore (left_by_all objects history)
all_sound keeps objects [] sound might = sound
all_sound keeps objects (call ∷ history) sound might = all_sound keeps (left_by_call objects call.asked) history (keeps objects call.asked sound might.0) might.2

-- a book of what stands at first, of which no call was made
pub first_book : (opening objects : Objects) (made : List CallRecord) → opening ≡ objects → made ≡ [] → IsSoundStore objects → AreBytes objects → IsBook (record { opening = opening; objects = objects; history = recorded_history made })
first_book opening objects made same none sound bytes = rw (same, none) (record {
  opened = sound;
  bytes = bytes;
  replays = record { told = tt; left = refl };
  might = tt;
  sound = sound;
})

-- a book with one more call
pub book_on : KeepsSound → (opening objects : Objects) (history : History) (call : SeatCall) → IsBook (record { opening = opening; objects = objects; history = history }) → MayMake objects call.asked → PutsBytes call.asked
    → call.told ≡ told_by_call objects call.asked → IsBook (record { opening = opening; objects = left_by_call objects call.asked; history = history ++ call ∷ [] })
book_on keeps opening objects history call book may of_bytes told = record {
  opened = book.opened;
  bytes = book.bytes;
  replays = record {
    told = told-append opening history (call ∷ []) book.replays.told (subst (λ (now : Objects). AreToldSo now (call ∷ [])) (sym book.replays.left) (told, tt));
    left = left_by_all-append opening history (call ∷ []) ∙ ap (λ (now : Objects). left_by_call now call.asked) book.replays.left;
  };
  might = might-append opening history (call ∷ []) book.might (subst (λ (now : Objects). MightMakeAll now (call ∷ [])) (sym book.replays.left) (may, of_bytes, tt));
  sound = keeps objects call.asked book.sound may;
}

-- the record of one more call
pub recorded-push : (old new : List CallRecord) (made : CallRecord) → new ≡ old ++ made ∷ [] → recorded_history new ≡ recorded_history old ++ recorded_call made ∷ []
recorded-push old new made is = ap recorded_history is ∙ behind old
  where
    behind : (all : List CallRecord) → recorded_history (all ++ made ∷ []) ≡ recorded_history all ++ recorded_call made ∷ []
    behind [] = refl
    behind (one ∷ all) = ap (λ (rest : History). recorded_call one ∷ rest) (behind all)

-- the same of what the code leaves
pub book_left : KeepsSound → (opening objects later : Objects) (old new : List CallRecord) (made : CallRecord) → IsBook (record { opening = opening; objects = objects; history = recorded_history old })
    → MayMake objects (call_asked made.call) → PutsBytes (call_asked made.call) → call_told made.call ≡ told_by_call objects (call_asked made.call) → new ≡ old ++ made ∷ [] → later ≡ left_by_call objects (call_asked made.call)
    → IsBook (record { opening = opening; objects = later; history = recorded_history new })
book_left keeps opening objects later old new made book may of_bytes told pushed left =
    rw (recorded-push old new made pushed, left) (book_on keeps opening objects (recorded_history old) (recorded_call made) book may of_bytes told)

-- each front of a book's history is a book's, of what it leaves
pub front_book : KeepsSound → (book : BookView) (front rest : History) → IsBook book → book.history ≡ front ++ rest → IsBook (book_at book (left_by_all book.opening front) front)
front_book keeps book front rest is split =
    let might : MightMakeAll book.opening front = might_front book.opening front rest (subst (MightMakeAll book.opening) split is.might) in
    record {
      opened = is.opened;
      bytes = is.bytes;
      replays = record { told = (told_front book.opening front rest (subst (AreToldSo book.opening) split is.replays.told)).0; left = refl };
      might = might;
      sound = all_sound keeps book.opening front is.opened might;
    }
