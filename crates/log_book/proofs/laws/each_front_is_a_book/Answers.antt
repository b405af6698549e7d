use Rattle.std.proofs.Common.{sym, subst, ◌∙◌, ap}
use Rattle.store_core.specs.Objects.{HasObjectsOf}
use Rattle.log_book.specs.Histories.{AreToldSo, left_by_all}
use Rattle.log_book.specs.Making.{MightMakeAll}
use Rattle.log_book.proofs.BookLemmas.{front_book}
use Rattle.log_book.proofs.ByteLemmas.{all_of_bytes}
use Rattle.log_book.proofs.HistoryLemmas.{all_grow, left_by_all-append, might_front, told_front}
use Rattle.log_book.proofs.laws.each_front_is_a_book.Goals as goal

pub returns : goal.returns
returns c = record {
  book = front_book c.a_call_keeps_a_store_sound.ensures;
  sound = λ book front rest is split. (front_book c.a_call_keeps_a_store_sound.ensures book front rest is split).sound;
  grown = λ book front rest is split.
      subst (HasObjectsOf (left_by_all book.opening front)) (sym (left_by_all-append book.opening front rest) ∙ (ap (left_by_all book.opening) (sym split) ∙ is.replays.left)) (all_grow (left_by_all book.opening front) rest);
  told = λ book front rest call is split. (told_front book.opening front _ (subst (AreToldSo book.opening) split is.replays.told)).1.0;
  bytes = λ book front rest is split. all_of_bytes book.opening front is.bytes (might_front book.opening front rest (subst (MightMakeAll book.opening) split is.might));
}
