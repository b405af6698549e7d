-- Receipts stay shown while logs grow, and while they are gathered.
use Rattle.std.proofs.Common.{◌≡◌, ℕ, zero, suc, Bool, true, false, List, [], ◌∷◌, ◌++◌, length, Option, None, Some, Result, Ok, Err, IfOk, OnErr, Vec, slice_get, if◌then◌else◌, refl, sym, ap, ◌∙◌, subst, rules, inl, inr, append_assoc}
use Rattle.std.specs.Global.{Global}
use Rattle.log_hub.specs.Finishing.{AreInLog, AreShown}
use Rattle.log_hub.specs.Lock.{IsFrontOf}
use Rattle.log_hub.specs.Seats.{log_seen}
use Rattle.log_hub.specs.Sights.{Seen}
use Rattle.log_hub.specs.declared.receipt.Receipt.{Receipt}
use Rattle.table_log.specs.declared.loading.Loaded.{Loaded}
use Rattle.table_model.specs.declared.reading.Offset.{Offset}
use Rattle.log_reading.specs.declared.log_cache.LogCache.{LogCache}
use Rattle.log_rows.specs.declared.read_state.ReadRows.{ReadRows}
use Rattle.log_rows.specs.declared.tail_fault.TailFault.{TailFault}
use Rattle.sink_core.specs.SinkSessions.{SinkJob}
use Rattle.lake_workers.specs.Driving.{IsReceiptOf}
use Rattle.lake_workers.specs.Following.{IsStreamRun}
use Rattle.lake_workers.specs.Reading.{IsReadRun}
use Rattle.lake_workers.specs.declared.streaming.StreamEnd.{StreamEnd}
use Rattle.case_seats.specs.Keeping.{AreKept}

-- ---- lists

get_front : {A : Type 0} (xs ys : List A) (k : ℕ) (x : A) → slice_get xs k ≡ Some x → slice_get (xs ++ ys) k ≡ Some x
get_front [] ys k x at = cc at
get_front (y ∷ xs) ys zero x at = at
get_front (y ∷ xs) ys (suc k) x at = get_front xs ys k x at

get_last : {A : Type 0} (xs : List A) (x : A) → slice_get (xs ++ x ∷ []) (length xs) ≡ Some x
get_last [] x = refl
get_last (y ∷ xs) x = get_last xs x

-- ---- the receipts of a seat

pub kept_on : (receipts : List Receipt) (old new : List (List ℕ)) → IsFrontOf old new → AreInLog receipts old → AreInLog receipts new
kept_on receipts old new (rest, is) kept number r at = subst (λ (log : List (List ℕ)). slice_get log r.version ≡ Some r.commit.value.items) (sym is) (get_front old rest r.version r.commit.value.items (kept number r at))

kept_both : (receipts more : List Receipt) (log : List (List ℕ)) → AreInLog receipts log → AreInLog more log → AreInLog (receipts ++ more) log
kept_both [] more log kept others number r at = others number r at
kept_both (x ∷ receipts) more log kept others zero r at = kept 0 r at
kept_both (x ∷ receipts) more log kept others (suc k) r at = kept_both receipts more log (λ k. kept (suc k)) others k r at

kept_one : (r : Receipt) (log : List (List ℕ)) → slice_get log r.version ≡ Some r.commit.value.items → AreInLog (r ∷ []) log
kept_one r log is zero x at = let same : r ≡ x = cc at in subst (λ (x : Receipt). slice_get log x.version ≡ Some x.commit.value.items) same is
kept_one r log is (suc k) x at = cc at

-- a receipt is kept, or there is no memory for it
pub kept_more : (is_kept : Bool) (receipts : List Receipt) (r : Receipt) (old new : List (List ℕ)) → IsFrontOf old new → slice_get new r.version ≡ Some r.commit.value.items → AreInLog receipts old → AreInLog (if is_kept then receipts ++ r ∷ [] else receipts) new
kept_more true receipts r old new grown is kept = kept_both receipts (r ∷ []) new (kept_on receipts old new grown kept) (kept_one r new is)
kept_more false receipts r old new grown is kept = kept_on receipts old new grown kept

-- behind a call, or where it wasn't made, a seat's log has what it had
pub grown_by : {A E : Type 0} {Made : A → Type 0} (result : Result A E) (old new : Seen) → ((a : A) → Made a → IsFrontOf (log_seen old) (log_seen new)) → IfOk result Made → OnErr result (new ≡ old) → IsFrontOf (log_seen old) (log_seen new)
grown_by (Ok a) old new law made same = law a made
grown_by (Err e) old new law made same = ([], ap log_seen same ∙ search rules)

-- ---- a stream's job by what is known of the log

front_of_front : {A : Type 0} (xs ys zs : List A) → IsFrontOf xs ys → IsFrontOf ys zs → IsFrontOf xs zs
front_of_front xs ys zs p q = (p.0 ++ q.0, q.1 ∙ ap (λ w. w ++ q.0) p.1 ∙ append_assoc xs p.0 q.0)

pub ran_on : (job : SinkJob) (old new : Seen) (earlier later : Loaded) (end : StreamEnd) → IsStreamRun job old new earlier later end → IsFrontOf (log_seen old) (log_seen new)
ran_on job old new earlier later end (inl ran) = front_of_front (log_seen old) (log_seen ran.mid) (log_seen new) ran.followed.log ran.driven.log
ran_on job old new earlier later end (inr short) = short.followed.log

pub ran_shown : (job : SinkJob) (old new : Seen) (earlier later : Loaded) (end : StreamEnd) (r : Receipt) → IsStreamRun job old new earlier later end → end.receipt ≡ Some r → slice_get (log_seen new) r.version ≡ Some r.commit.value.items
ran_shown job old new earlier later end r (inl ran) is = (subst (λ (found : Option Receipt). IsReceiptOf ran.driven.made new found) is ran.driven.created).1
ran_shown job old new earlier later end r (inr short) is = let wrong : None ≡ Some r = sym short.receipt ∙ is in absurd cc

-- ---- a read by what is known of the log

pub read_on : (place : Offset) (max : ℕ) (old new : Seen) (earlier later : LogCache) (answer : Result ReadRows TailFault) → IsReadRun place max earlier later old new answer → IsFrontOf (log_seen old) (log_seen new)
read_on place max old new earlier later answer (inl rows) = rows.log
read_on place max old new earlier later answer (inr short) = short.followed.log

-- ---- the receipts of all seats

pub shown_more : (receipts more : List Receipt) (seats : List Seen) (s : Seen) → AreShown receipts seats → AreInLog more (log_seen s) → AreShown (receipts ++ more) (seats ++ s ∷ [])
shown_more [] more seats s shown kept number r at = (length seats, s, get_last seats s, kept number r at)
shown_more (x ∷ receipts) more seats s shown kept zero r at = let (place, by, has, is) = shown 0 r at in (place, by, get_front seats (s ∷ []) place by has, is)
shown_more (x ∷ receipts) more seats s shown kept (suc k) r at = shown_more receipts more seats s (λ k. shown (suc k)) kept k r at

pub none_shown : (seats : List Seen) → AreShown [] seats
none_shown seats number r at = cc at

pub kept_by_more : (kept : List (Vec Receipt Global)) (receipts : Vec Receipt Global) (seats : List Seen) (s : Seen) → AreKept kept seats → AreInLog receipts.items (log_seen s) → AreKept (kept ++ receipts ∷ []) (seats ++ s ∷ [])
kept_by_more [] receipts [] s by is = (is, tt)
kept_by_more [] receipts (t ∷ seats) s by is = absurd by
kept_by_more (x ∷ kept) receipts [] s by is = absurd by
kept_by_more (x ∷ kept) receipts (t ∷ seats) s by is = (by.0, kept_by_more kept receipts seats s by.1 is)

pub none_kept : (seats : List Seen) (s : Seen) → AreKept [] (seats ++ s ∷ []) → ⊥
none_kept [] s by = by
none_kept (t ∷ seats) s by = by

no_seat : (kept : List (Vec Receipt Global)) (receipts : Vec Receipt Global) → AreKept (kept ++ receipts ∷ []) [] → ⊥
no_seat [] receipts by = by
no_seat (x ∷ kept) receipts by = by

pub kept_by_last : (kept : List (Vec Receipt Global)) (receipts : Vec Receipt Global) (seats : List Seen) (s : Seen) → AreKept (kept ++ receipts ∷ []) (seats ++ s ∷ []) → AreKept kept seats × AreInLog receipts.items (log_seen s)
kept_by_last [] receipts [] s by = (tt, by.0)
kept_by_last [] receipts (t ∷ seats) s by = absurd (none_kept seats s by.1)
kept_by_last (x ∷ kept) receipts [] s by = absurd (no_seat kept receipts by.1)
kept_by_last (x ∷ kept) receipts (t ∷ seats) s by = let (rest, is) = kept_by_last kept receipts seats s by.1 in ((by.0, rest), is)
