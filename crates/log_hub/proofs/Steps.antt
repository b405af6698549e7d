-- Each step keeps the rule of the lock.
use Rattle.std.proofs.Common.{◌≡◌, ◌≢◌, ◌<◌, ◌≤◌, ◌+◌, ◌⊎◌, ℕ, zero, suc, true, true≢false, List, [], ◌∷◌, ◌++◌, length, set, None, Some, refl, sym, ap, ◌∙◌, subst, inl, inr, ⊎_elim, arith, length-append, length-set}
use mathlib.Core.Option.{some, some-ne-none, some-injective}
use lib.ListN.{get_elem?}
use Rattle.crossbeam_channel.specs.Fifo.{Pushes, Pops, Forks, Merges, Learns}
use Rattle.atomic_table.proofs.Lists.{at_set}
use Rattle.store_core.specs.Objects.{Objects}
use Rattle.log_book.specs.Book.{BookView}
use Rattle.log_book.specs.Histories.{History, calls_of_seat}
use Rattle.log_hub.specs.Sights.{Seen, Sight, first_sight, spent_sight, next_sight, with_one_made, with_one_known}
use Rattle.log_hub.specs.Lock.{Lies, IsSeenOf, AreSeenOf, IsSeated, IsLocked, TakesOut, PutsBack, LearnsAll, PutsBackUnused, MayPutBack, IsUnused, with_book_out, seen_of_book}
use Rattle.log_hub.proofs.HistoryParts.{calls_of_seat-append, front_itself, front_longer}

-- ---- lists of views

at_in : {A : Type 0} (l : List A) (j : ℕ) (a : A) → get_elem? l j ≡ some a → j < length l
at_in [] j a e = absurd (some-ne-none a (sym e))
at_in (x ∷ xs) zero a e = omega arith
at_in (x ∷ xs) (suc j) a e = let r = at_in xs j a e in omega arith

at_end : {A : Type 0} (l : List A) (a b : A) (j : ℕ) → get_elem? (l ++ a ∷ []) j ≡ some b → (get_elem? l j ≡ some b) ⊎ ((j ≡ length l) × (a ≡ b))
at_end [] a b zero e = inr (refl, some-injective a b e)
at_end [] a b (suc j) e = absurd (some-ne-none b (sym e))
at_end (x ∷ xs) a b zero e = inl e
at_end (x ∷ xs) a b (suc j) e = ⊎_elim (λ t. inl t) (λ t. inr (ap suc t.0, t.1)) (at_end xs a b j e)

all_set : (P : ℕ → Sight → Type 0) (views : List Sight) (at : ℕ) (w : Sight) → ((j : ℕ) (u : Sight) → j ≢ at → get_elem? views j ≡ some u → P j u) → P at w → (j : ℕ) (u : Sight) → get_elem? (set views at w) j ≡ some u → P j u
all_set P views at w others mine j u e =
    ⊎_elim
    (λ (x : (j ≡ at) × (w ≡ u)). subst (λ (y : ℕ × Sight). P y.0 y.1) (λ i. (sym x.0 i, x.1 i)) mine)
    (λ (x : (j ≢ at) × (get_elem? views j ≡ some u)). others j u x.0 x.1)
    (at_set views at j w u e)

-- ---- parts of the rule

one_book : (opening : Objects) (history : History) (b : BookView) (items : List BookView) → Lies opening history (b ∷ items) → (items ≡ []) × (b.opening ≡ opening) × (b.history ≡ history)
one_book opening history b [] lies = (refl, lies.0, lies.1)
one_book opening history b (c ∷ items) lies = absurd lies

-- the facts of one whose place in the rule is as it was
module _ (items later : List BookView) (opening : Objects) (history : History) (count taker next at : ℕ) (v : Sight) where
  -- while the book lies in the lock, nobody has it
  waits : (b : BookView) → items ≡ b ∷ [] → IsSeated items opening history count taker at v → IsSeated later opening history count next at v
  waits b is s = record {
    number = s.number;
    seen = s.seen;
    made = s.made;
    out = ⊎_elim (λ t. inl t) (λ t. absurd (cc (sym is ∙ t.1))) s.out;
    known = s.known;
  }

  -- while another has it, this one doesn't
  stays : at ≢ taker → IsSeated items opening history count taker at v → (v.out ≡ None) × (v.known ≡ [])
  stays ne s = ⊎_elim (λ t. t) (λ t. absurd (ne t.2)) s.out

-- the history has grown by calls of others
grown : (opening : Objects) (history news : History) (s : Seen) → calls_of_seat s.number news ≡ [] → IsSeenOf opening history s → IsSeenOf opening (history ++ news) s
grown opening history news s none is = record {
  opened = is.opened;
  front = front_longer s.front history news is.front;
  mine = calls_of_seat-append s.number history news ∙ (ap (λ l. calls_of_seat s.number history ++ l) none ∙ (append_nil (calls_of_seat s.number history) ∙ is.mine));
}
  where
    append_nil : (l : History) → l ++ [] ≡ l
    append_nil [] = refl
    append_nil (x ∷ l) = ap (λ t. x ∷ t) (append_nil l)

are_of_more : (opening : Objects) (history : History) (ss : List Seen) (s : Seen) → AreSeenOf opening history ss → IsSeenOf opening history s → AreSeenOf opening history (ss ++ s ∷ [])
are_of_more opening history [] s all one = (one, tt)
are_of_more opening history (t ∷ ss) s all one = (all.0, are_of_more opening history ss s all.1 one)

-- who has the book out
has_it : (items : List BookView) (opening : Objects) (history known : History) (count taker at : ℕ) (v : Sight) → IsSeated items opening history count taker at v → v.out ≡ Some known → (known ≡ history) × (items ≡ []) × (at ≡ taker)
has_it items opening history known count taker at v s out = ⊎_elim (λ t. absurd (cc (sym out ∙ t.0))) (λ t. (cc (sym out ∙ t.0), t.1, t.2)) s.out

-- ---- the rule at first, and its steps

-- the first seat's pass has the book out
pub begins : IsLocked [] (first_sight ∷ [])
begins = record {
  opening = [];
  history = [];
  taker = 0;
  lies = tt;
  seated = one;
  strangers = λ by le. refl;
}
  where
    one : (at : ℕ) (v : Sight) → get_elem? (first_sight ∷ []) at ≡ some v → v.sits ≡ true → IsSeated [] [] [] 1 0 at v
    one zero v e sits = subst (IsSeated [] [] [] 1 0 0) (some-injective first_sight v e) (record {
      number = refl;
      seen = record { opened = refl; front = ([], refl); mine = refl };
      made = λ _. refl;
      out = inr (refl, refl, refl);
      known = tt;
    })
    one (suc at) v e sits = absurd (some-ne-none v (sym e))

-- the first seat's pass puts a book into the lock, in which no call was made
pub opens : (at : ℕ) (book : BookView) → book.history ≡ [] → Pushes IsLocked 1 at first_sight book (PutsBack first_sight book)
opens at book none items views room h here =
    let mine = h.seated at first_sight here refl in
    let zeroth : at ≡ 0 = sym mine.number in
    let alone : length views ≡ 1 = sym (mine.made zeroth) in
    let w : Sight = record { sits = true; seen = seen_of_book 0 1 book; out = None; known = [] } in
    let P : ℕ → Sight → Type 0 = λ j u. u.sits ≡ true → IsSeated (book ∷ []) book.opening book.history (length (set views at w)) at j u in
    let held : items ≡ [] = empty items room in (
      w,
      record {
        opening = book.opening;
        history = book.history;
        taker = at;
        lies = subst (λ (l : List BookView). Lies book.opening book.history (l ++ book ∷ [])) (sym held) (refl, refl);
        seated = λ j u e sits. subst (λ (l : List BookView). IsSeated (l ++ book ∷ []) book.opening book.history (length (set views at w)) at j u) (sym held)
            (all_set P views at w (λ j u ne e _. (let less = at_in views j u e in absurd (ne (omega arith))))
            (λ _. record {
              number = mine.number;
              seen = record { opened = refl; front = front_itself book.history; mine = refl };
              made = λ _. sym alone ∙ sym (length-set views at w);
              out = inl (refl, refl);
              known = tt;
            }) j u e sits);
        strangers = λ by le. ap (calls_of_seat by) none;
      },
      refl,
    )
  where
    empty : (items : List BookView) → length items < 1 → items ≡ []
    empty [] less = refl
    empty (b ∷ items) less = absurd (omega arith)

-- the book is taken out
pub takes : (at : ℕ) (v : Sight) → v.sits ≡ true → Pops IsLocked at v (TakesOut v)
takes at v sits book items views h here =
    let mine = h.seated at v here sits in
    let is = one_book h.opening h.history book items h.lies in
    let w = with_book_out v book.history in
    let P : ℕ → Sight → Type 0 = λ j u. u.sits ≡ true → IsSeated [] h.opening h.history (length views) at j u in (
      w,
      record {
        opening = h.opening;
        history = h.history;
        taker = at;
        lies = subst (Lies h.opening h.history) (sym is.0) tt;
        seated = λ j u e s. subst (λ (n : ℕ). IsSeated items h.opening h.history n at j u) (sym (length-set views at w))
            (subst (λ (l : List BookView). IsSeated l h.opening h.history (length views) at j u) (sym is.0)
            (all_set P views at w (λ j u ne e t. waits (book ∷ items) [] h.opening h.history (length views) h.taker at j u book (ap (λ l. book ∷ l) is.0) (h.seated j u e t))
            (λ _. record {
              number = mine.number;
              seen = mine.seen;
              made = mine.made;
              out = inr (ap Some is.2, refl, refl);
              known = mine.known;
            }) j u e s));
        strangers = λ by le. h.strangers by (subst (λ (n : ℕ). n ≤ by) (length-set views at w) le);
      },
      (refl, subst (λ (y : Objects × History). IsSeenOf y.0 y.1 v.seen) (λ i. (sym is.1 i, sym is.2 i)) mine.seen),
    )

-- it is put back, with calls of who had it behind its history
pub puts_back : (at : ℕ) (v : Sight) (book : BookView) (history news : History) → v.sits ≡ true → v.out ≡ Some history → v.known ≡ []
    → book.opening ≡ v.seen.opening → book.history ≡ history ++ news → ((other : ℕ) → other ≢ v.seen.number → calls_of_seat other news ≡ [])
    → Pushes IsLocked 1 at v book (PutsBack v book)
puts_back at v book history news sits out none opened longer own (b ∷ items) views room h here = absurd (omega arith)
puts_back at v book history news sits out none opened longer own [] views room h here =
    let mine = h.seated at v here sits in
    let had = has_it [] h.opening h.history history (length views) h.taker at v mine out in
    let w : Sight = record { sits = v.sits; seen = seen_of_book v.seen.number v.seen.made book; out = None; known = v.known } in
    let now : h.history ++ news ≡ book.history = ap (λ l. l ++ news) (sym had.0) ∙ sym longer in
    let P : ℕ → Sight → Type 0 = λ j u. u.sits ≡ true → IsSeated (book ∷ []) h.opening book.history (length views) at j u in (
      w,
      record {
        opening = h.opening;
        history = book.history;
        taker = at;
        lies = (opened ∙ mine.seen.opened, refl);
        seated = λ j u e s. subst (λ (n : ℕ). IsSeated (book ∷ []) h.opening book.history n at j u) (sym (length-set views at w))
            (all_set P views at w (λ j u ne e t.
            (let theirs = h.seated j u e t in
            let idle = stays [] [] h.opening h.history (length views) h.taker at j u (λ q. ne (q ∙ sym had.2)) theirs in
            record {
              number = theirs.number;
              seen = subst (λ (l : History). IsSeenOf h.opening l u.seen) now (grown h.opening h.history news u.seen (own u.seen.number (λ q. ne (sym theirs.number ∙ q ∙ mine.number))) theirs.seen);
              made = theirs.made;
              out = inl idle;
              known = subst (AreSeenOf h.opening book.history) (sym idle.1) tt;
            }))
            (λ _. record {
              number = mine.number;
              seen = record { opened = opened ∙ mine.seen.opened; front = front_itself book.history; mine = refl };
              made = mine.made;
              out = inl (refl, none);
              known = subst (AreSeenOf h.opening book.history) (sym none) tt;
            }) j u e s);
        strangers = λ by le. (let le' : length views ≤ by = subst (λ (n : ℕ). n ≤ by) (length-set views at w) le in
            let less = at_in views at v here in
            ap (calls_of_seat by) (sym now) ∙ calls_of_seat-append by h.history news ∙ ap (λ l. l ++ calls_of_seat by news) (h.strangers by le') ∙ own by (λ q. (let z : by ≡ at = q ∙ mine.number in absurd (omega arith))));
      },
      refl,
    )

-- it makes another seat's
pub forks : (at : ℕ) (v : Sight) → v.sits ≡ true → v.seen.number ≡ 0 → Forks IsLocked at v (with_one_made v) (next_sight v)
forks at v sits zeroth items views h here =
    let mine = h.seated at v here sits in
    let vs = set views at (with_one_made v) in
    let long : length (vs ++ next_sight v ∷ []) ≡ length views + 1 = omega (arith, length-append vs (next_sight v ∷ []), length-set views at (with_one_made v)) in
    let first_is : at ≡ 0 = sym mine.number ∙ zeroth in
    let many : v.seen.made ≡ length views = mine.made first_is in
    let Q : ℕ → Sight → Type 0 = λ j u. u.sits ≡ true → IsSeated items h.opening h.history (length views + 1) h.taker j u in
    let old : (j : ℕ) (u : Sight) → get_elem? vs j ≡ some u → Q j u = all_set Q views at (with_one_made v)
    (λ j u ne e t. (let s = h.seated j u e t in record { number = s.number; seen = s.seen; made = λ z. absurd (ne (z ∙ sym first_is)); out = s.out; known = s.known }))
    (λ _. record { number = mine.number; seen = record { opened = mine.seen.opened; front = mine.seen.front; mine = mine.seen.mine }; made = λ _. ap (λ n. n + 1) many; out = mine.out; known = mine.known }) in
    record {
      opening = h.opening;
      history = h.history;
      taker = h.taker;
      lies = h.lies;
      seated = λ j u e s. subst (λ (n : ℕ). IsSeated items h.opening h.history n h.taker j u) (sym long)
          (⊎_elim (λ was. old j u was s)
          (λ (new : (j ≡ length vs) × (next_sight v ≡ u)).
          (let place : length views ≡ j = sym (new.0 ∙ length-set views at (with_one_made v)) in
          let less = at_in views at v here in
          subst (λ (u : Sight). IsSeated items h.opening h.history (length views + 1) h.taker j u) new.1 (record {
            number = many ∙ place;
            seen = record { opened = mine.seen.opened; front = mine.seen.front; mine = h.strangers v.seen.made (omega arith) };
            made = λ z. absurd (omega arith);
            out = inl (refl, refl);
            known = tt;
          }))) (at_end vs (next_sight v) u j e));
      strangers = λ by le. h.strangers by (omega arith);
    }

-- who has the book out takes in another
pub merges : (at : ℕ) (v : Sight) (other : ℕ) (u : Sight) (history : History) → v.sits ≡ true → u.sits ≡ true → v.out ≡ Some history → Merges IsLocked at v other u (with_one_known v u) spent_sight
merges at v other u history sits theirs out items views h here apart there =
    let both = with_one_known v u in
    let mine = h.seated at v here sits in
    let had = has_it items h.opening h.history history (length views) h.taker at v mine out in
    let was : get_elem? views other ≡ some u = ⊎_elim (λ x. absurd (apart x.0)) (λ x. x.1) (at_set views at other both u there) in
    let its = h.seated other u was theirs in
    let vs = set views at both in
    let long : length (set vs other spent_sight) ≡ length views = length-set vs other spent_sight ∙ length-set views at both in
    let P : ℕ → Sight → Type 0 = λ j y. y.sits ≡ true → IsSeated items h.opening h.history (length views) h.taker j y in
    record {
      opening = h.opening;
      history = h.history;
      taker = h.taker;
      lies = h.lies;
      seated = λ j y e s. subst (λ (n : ℕ). IsSeated items h.opening h.history n h.taker j y) (sym long)
          (all_set P vs other spent_sight
          (λ j y _ e t. all_set P views at both (λ j y _ e t. h.seated j y e t)
          (λ _. record {
            number = mine.number;
            seen = mine.seen;
            made = mine.made;
            out = inr (out ∙ ap Some had.0, had.1, had.2);
            known = are_of_more h.opening h.history v.known u.seen mine.known its.seen;
          }) j y e t)
          (λ t. absurd (true≢false (sym t))) j y e s);
      strangers = λ by le. h.strangers by (subst (λ (n : ℕ). n ≤ by) long le);
    }

-- and learns that it saw a front of the book's history, and that nobody has a call in that but the seats
pub learns : (at : ℕ) (v : Sight) → v.sits ≡ true → Learns IsLocked at v (LearnsAll v)
learns at v sits items views h here history out =
    let mine = h.seated at v here sits in
    let had = has_it items h.opening h.history history (length views) h.taker at v mine out in (
      subst (λ (y : Objects × History). AreSeenOf y.0 y.1 v.known) (λ i. (sym mine.seen.opened i, sym had.0 i)) mine.known,
      λ first by le. ap (calls_of_seat by) had.0 ∙ h.strangers by (subst (λ (n : ℕ). n ≤ by) (mine.made (sym mine.number ∙ first)) le),
    )

-- it is put back as it was
pub hands_back : (at : ℕ) (v : Sight) (book : BookView) → IsUnused v book → Pushes IsLocked 1 at v book (PutsBackUnused v book)
hands_back at v book same (b ∷ items) views room h here = absurd (omega arith)
hands_back at v book same [] views room h here =
    let mine = h.seated at v here same.sits in
    let had = has_it [] h.opening h.history book.history (length views) h.taker at v mine same.out in
    let w : Sight = record { sits = v.sits; seen = v.seen; out = None; known = v.known } in
    let P : ℕ → Sight → Type 0 = λ j u. u.sits ≡ true → IsSeated (book ∷ []) h.opening h.history (length views) at j u in (
      w,
      record {
        opening = h.opening;
        history = h.history;
        taker = at;
        lies = (same.opened ∙ mine.seen.opened, had.0);
        seated = λ j u e s. subst (λ (n : ℕ). IsSeated (book ∷ []) h.opening h.history n at j u) (sym (length-set views at w))
            (all_set P views at w (λ j u ne e t.
            (let theirs = h.seated j u e t in
            let idle = stays [] [] h.opening h.history (length views) h.taker at j u (λ q. ne (q ∙ sym had.2)) theirs in
            record { number = theirs.number; seen = theirs.seen; made = theirs.made; out = inl idle; known = theirs.known }))
            (λ _. record { number = mine.number; seen = mine.seen; made = mine.made; out = inl (refl, same.none); known = mine.known }) j u e s);
        strangers = λ by le. h.strangers by (subst (λ (n : ℕ). n ≤ by) (length-set views at w) le);
      },
      refl,
    )

-- both in a lock that holds one book
pub follows_back : (room at : ℕ) (v : Sight) (book : BookView) → room ≡ 1 → MayPutBack v book → Pushes IsLocked room at v book (PutsBack v book)
follows_back room at v book one f = subst (λ (n : ℕ). Pushes IsLocked n at v book (PutsBack v book)) (sym one) (puts_back at v book f.history f.news f.sits f.out f.none f.opened f.longer f.own)

pub goes_back : (room at : ℕ) (v : Sight) (book : BookView) → room ≡ 1 → IsUnused v book → Pushes IsLocked room at v book (PutsBackUnused v book)
goes_back room at v book one same = subst (λ (n : ℕ). Pushes IsLocked n at v book (PutsBackUnused v book)) (sym one) (hands_back at v book same)

pub opens_in : (room at : ℕ) (v : Sight) (book : BookView) → room ≡ 1 → v ≡ first_sight → book.history ≡ [] → Pushes IsLocked room at v book (PutsBack v book)
opens_in room at v book one is none = subst (λ (u : Sight). Pushes IsLocked room at u book (PutsBack u book)) (sym is) (subst (λ (n : ℕ). Pushes IsLocked n at first_sight book (PutsBack first_sight book)) (sym one) (opens at book none))
