-- Calls that are made for a session: which calls of the seat stand for one.
use Rattle.std.proofs.Common.{◌≡◌, ◌∙◌, ◌<◌, ◌≤◌, ◌+◌, ℕ, zero, suc, false, true, List, [], ◌∷◌, ◌++◌, length, Option, None, Some, IsSome, is_some, Result, Ok, Err, slice_get, inl, inr, refl, sym, ap, subst, arith, append_assoc, append-nil, length-append}
use Rattle.std.specs.Prelude.{OnOk}
use Rattle.std.specs.Result.{is_err}
use Rattle.store_core.specs.Names.{commit_name, greatest_version}
use Rattle.store_core.specs.Objects.{Objects, object_at}
use Rattle.store_core.specs.declared.store.Put.TheVariants.{Created, Exists}
use Rattle.session_core.specs.Talks.{Asked, IsAnswerOf, Told, get_object, is_lost, kind_of, list_names, put_commit, put_file, told_memory, told_object, told_put, told_view}
use Rattle.session_core.specs.declared.asking.Reply.{Reply}
use Rattle.delta_actions.specs.Action.{Action}
use Rattle.table_log.specs.Restoring.{checkpoint_version}
use Rattle.table_log.specs.Versions.{Version, commit_of, commits_in, version_by, version_read, versions_from}
use Rattle.table_log.proofs.Callers.{checkpoint_named}
use Rattle.table_model.specs.Table.{Entry}
use Rattle.table_store.specs.Holds.{HoldsFirst}
use Rattle.table_store.specs.Schema.{Schema}
use Rattle.table_store.specs.Sound.{IsAdmissible}
use Rattle.log_book.specs.Histories.{History, SeatCall, left_by_all}
use Rattle.log_book.specs.Making.{MayPutBeside}
use Rattle.log_hub.specs.Receipts.{ReadsBehind, TriesCommit}
use Rattle.log_hub.specs.Seats.{Extends, IsSeat, MayStand, log_seen}
use Rattle.log_hub.specs.Sights.{Seen}
use Rattle.log_hub.specs.declared.receipt.Receipt.{Receipt}
use Rattle.log_hub.specs.declared.receipt.Tried.TheVariants as tried
use Rattle.lake_workers.specs.Calls.{AllStandBelow, HasReadOn, IsMade}
use Rattle.lake_workers.specs.declared.asking.Answer.{Answer}
use Rattle.lake_workers.specs.Driving.{IsReceiptOf, behind_version, calls, commits_created, created_by, finds, lacks, no_read, one_read, read_before}
use Rattle.lake_workers.proofs.Standing.{extends_grows, front_short}
use Rattle.lake_workers.proofs.Talking.{reads_both, stood_by}

-- ---- calls of a seat, one behind the other

pub mine_more : (one two three : Seen) (xs ys : History) → two.mine ≡ one.mine ++ xs → three.mine ≡ two.mine ++ ys → three.mine ≡ one.mine ++ (xs ++ ys)
mine_more one two three xs ys p q = q ∙ (ap (λ (l : History). l ++ ys) p ∙ append_assoc one.mine xs ys)

-- the commits that calls created, behind those that calls before them did
pub created_more : (xs ys : History) → commits_created (xs ++ ys) ≡ commits_created xs ++ commits_created ys
created_more [] ys = refl
created_more (call ∷ xs) ys = ap (λ (l : List (ℕ × List ℕ)). created_by call.asked call.told ++ l) (created_more xs ys) ∙ sym (append_assoc (created_by call.asked call.told) (commits_created xs) (commits_created ys))

-- where those created none, it is the receipt of all
pub receipt_more : (xs ys : History) (new : Seen) (receipt : Option Receipt) → commits_created xs ≡ [] → IsReceiptOf ys new receipt → IsReceiptOf (xs ++ ys) new receipt
receipt_more xs ys new None none is = created_more xs ys ∙ (ap (λ (l : List (ℕ × List ℕ)). l ++ commits_created ys) none ∙ is)
receipt_more xs ys new (Some receipt) none is = (created_more xs ys ∙ (ap (λ (l : List (ℕ × List ℕ)). l ++ commits_created ys) none ∙ is.0), is.1)

-- ---- commits that are read on

pub reads_none : (version : ℕ) (s : Seen) → HasReadOn version s s
reads_none version s = record {
  made = [];
  mine = sym (append-nil s.mine);
  reads = no_read;
  none = refl;
  long = omega arith;
  stood = λ objects may. may;
}

pub one_longer : (old new : Seen) (commit : List ℕ) → ReadsBehind old (Some commit) new → length (log_seen new) ≡ suc (length (log_seen old))
one_longer old new commit read = omega (arith, ap (λ (l : List (List ℕ)). length l) read, length-append (log_seen old) (commit ∷ []))

pub reads_more : (version : ℕ) (first old new : Seen) (commit : List ℕ) → HasReadOn version first old → length (log_seen old) < version → length (log_seen old) ≤ greatest_version
    → Extends old (get_object (commit_name (length (log_seen old)))) (told_object (Some commit)) new → ReadsBehind old (Some commit) new → HasReadOn version first new
reads_more version first old new commit r low small e read =
    let call : SeatCall = record { seat = old.number; asked = get_object (commit_name (length (log_seen old))); told = told_object (Some commit) } in
    record {
      made = r.made ++ call ∷ [];
      mine = mine_more first old new r.made (call ∷ []) r.mine e.mine;
      reads = one_read old new commit r.reads low small e;
      none = created_more r.made (call ∷ []) ∙ ap (λ (l : List (ℕ × List ℕ)). l ++ []) r.none;
      long = (let one = one_longer old new commit read in omega (arith, r.long, one, length-append r.made (call ∷ [])));
      stood = λ objects may. r.stood objects (stood_by old new objects (extends_grows old (get_object (commit_name (length (log_seen old)))) (told_object (Some commit)) new e) may);
    }

-- a seat's log reaches for a version only where a commit can have it
pub version_fits : (first old : Seen) (version : ℕ) → HasReadOn version first old → ((objects : Objects) → MayStand objects first → AllStandBelow objects version) → IsSeat old → version ≤ suc greatest_version
version_fits first old version r all seat = (all (left_by_all old.opening old.front) (r.stood (left_by_all old.opening old.front) seat.left)).fits

-- a commit is there to read, of each version below one up to which all stand
pub is_there : (first old new : Seen) (version at : ℕ) → HasReadOn version first old → ((objects : Objects) → MayStand objects first → AllStandBelow objects version) → at < version
    → Extends old (get_object (commit_name at)) (told_object None) new → ⊥
is_there first old new version at r all low e =
    let there = left_by_all old.opening (old.front ++ e.between) in
    let none : None ≡ object_at (left_by_all old.opening (old.front ++ e.between)) (commit_name at) = cc (e.told_so) in
    let stands : IsSome (object_at (left_by_all old.opening (old.front ++ e.between)) (commit_name at)) = (all (left_by_all old.opening (old.front ++ e.between)) (r.stood (left_by_all old.opening (old.front ++ e.between)) e.stood)).stand at low in
    let wrong : false ≡ true = ap is_some none ∙ stands in
    absurd cc

-- in front of a commit that is admissible all stand
entries_stand : (objects : Objects) (schema : Schema) (start : ℕ) (entries : List Entry) (at : ℕ) → HoldsFirst objects schema start entries → at < length entries → IsSome (object_at objects (commit_name (start + at)))
entries_stand objects schema start [] at holds low = absurd (omega arith)
entries_stand objects schema start (entry ∷ entries) zero holds low = subst (λ (n : ℕ). IsSome (object_at objects (commit_name n))) (omega arith) (subst IsSome (sym holds.0.1) refl)
entries_stand objects schema start (entry ∷ entries) (suc at) holds low = subst (λ (n : ℕ). IsSome (object_at objects (commit_name n))) (omega arith) (entries_stand objects schema (suc start) entries at holds.3 (omega (arith, low)))

pub stand_below : (objects : Objects) (version : ℕ) (bytes : List ℕ) → IsAdmissible objects version bytes → AllStandBelow objects version
stand_below objects version bytes may = record {
  fits = omega (arith, may.fits);
  stand = λ below low. subst (λ (n : ℕ). IsSome (object_at objects (commit_name n))) (omega arith) (entries_stand objects may.schema 0 may.entries below may.stand (omega (arith, low, may.at)));
}

-- versions that all have commits stand
first_stands : (version : ℕ) (found : Option (List ℕ)) (later : List Version) (commits : List (List Action)) → commits_in version (version_by found ∷ later) ≡ Ok commits → IsSome found × (rest : List (List Action)) × (commits_in (suc version) later ≡ Ok rest)
first_stands version None later commits is = absurd cc
first_stands version (Some bytes) later commits is = by_read (commit_of bytes) is
  where
    by_read : (read : Option (List Action)) → commits_in version (version_read read ∷ later) ≡ Ok commits → IsSome (Some bytes) × (rest : List (List Action)) × (commits_in (suc version) later ≡ Ok rest)
    by_read None e = absurd cc
    by_read (Some actions) e = let others = by_rest (commits_in (suc version) later) refl e in (refl, others.0, others.1)
      where
        by_rest : (found : Result (List (List Action)) ℕ) → commits_in (suc version) later ≡ found → commits_in version (version_read (Some actions) ∷ later) ≡ Ok commits → (rest : List (List Action)) × (commits_in (suc version) later ≡ Ok rest)
        by_rest (Ok rest) at e = (rest, at)
        by_rest (Err wrong) at e = let told = rw at at e in absurd cc

commits_stand : (count version : ℕ) (objects : Objects) (commits : List (List Action)) (at : ℕ) → commits_in version (versions_from count version objects) ≡ Ok commits → at < count → IsSome (object_at objects (commit_name (version + at)))
unfolding versions_from
commits_stand zero version objects commits at is low = absurd (omega (arith, low))
commits_stand (suc count) version objects commits zero is low = subst (λ (n : ℕ). IsSome (object_at objects (commit_name n))) (omega arith) (first_stands version (object_at objects (commit_name version)) (versions_from count (version + 1) objects) commits is).0
commits_stand (suc count) version objects commits (suc at) is low =
    let first = first_stands version (object_at objects (commit_name version)) (versions_from count (version + 1) objects) commits is in
    let next : version + 1 ≡ suc version = omega arith in
    let later : commits_in (version + 1) (versions_from count (version + 1) objects) ≡ Ok first.1 = ap (λ (v : ℕ). commits_in v (versions_from count (version + 1) objects)) next ∙ first.2 in
    subst (λ (n : ℕ). IsSome (object_at objects (commit_name n))) (omega arith) (commits_stand count (version + 1) objects first.1 at later (omega (arith, low)))

-- so do those of which a checkpoint is that may be put
pub stand_beside : (objects : Objects) (name bytes : List ℕ) → MayPutBeside objects name bytes → AllStandBelow objects (behind_version (checkpoint_version name))
stand_beside objects name bytes (inl beside) =
    subst (λ (v : Option ℕ). AllStandBelow objects (behind_version v)) (sym beside.no_checkpoint) (record { fits = omega arith; stand = λ below low. absurd (omega (arith, low)) })
stand_beside objects name bytes (inr own) =
    let sound = own.2 in
    subst (λ (v : Option ℕ). AllStandBelow objects (behind_version v)) (sym own.1) (record {
      fits = omega (arith, (checkpoint_named name own.0 own.1).small);
      stand = λ below low. subst (λ (n : ℕ). IsSome (object_at objects (commit_name n))) (omega arith) (commits_stand (suc own.0) 0 objects sound.commits below sound.stand low);
    })

-- ---- calls

-- a call of the seat itself, before which the log was read as far as it wants
pub made_one : (old : Seen) (asked : Asked) (told : Told) (new : Seen) → read_before asked ≤ length (log_seen old) → Extends old asked told new → IsAnswerOf (kind_of asked) told → is_lost told ≡ false → created_by asked told ≡ [] → IsMade old asked told None new
made_one old asked told new reach e answers kept none =
    let grows = extends_grows old asked told new e in
    let log = front_short (log_seen old) (log_seen new) grows.log in
    record {
      made = record { seat = old.number; asked = asked; told = told } ∷ [];
      mine = e.mine;
      answers = answers;
      kept = kept;
      had = λ first mid talk through reads. calls talk mid old new asked told through reads reach e;
      few = omega (arith, log);
      stood = λ objects may. stood_by old new objects grows may;
      created = ap (λ (l : List (ℕ × List ℕ)). l ++ []) none;
      given = tt;
    }

last_of : (log : List (List ℕ)) (bytes : List ℕ) → slice_get (log ++ bytes ∷ []) (length log) ≡ Some bytes
last_of [] bytes = refl
last_of (one ∷ log) bytes = last_of log bytes

-- the put that created a commit
pub made_created : (old : Seen) (commit : List ℕ) (receipt : Receipt) (new : Seen) → Extends old (put_commit (length (log_seen old)) commit) (told_put Created) new → TriesCommit old commit (tried.Created receipt) new
    → IsMade old (put_commit (length (log_seen old)) commit) (told_put Created) (Some receipt) new
made_created old commit receipt new e tries =
    let grows = extends_grows old (put_commit (length (log_seen old)) commit) (told_put Created) new e in
    let log = front_short (log_seen old) (log_seen new) grows.log in
    record {
      made = record { seat = old.number; asked = put_commit (length (log_seen old)) commit; told = told_put Created } ∷ [];
      mine = e.mine;
      answers = tt;
      kept = refl;
      had = λ first mid talk through reads. calls talk mid old new (put_commit (length (log_seen old)) commit) (told_put Created) through reads (omega arith) e;
      few = omega (arith, log);
      stood = λ objects may. stood_by old new objects grows may;
      created = (
        (λ i. (sym tries.1 i, sym tries.2 i) ∷ []),
        ap (λ (l : List (List ℕ)). slice_get l receipt.version) tries.0 ∙ (ap (slice_get (log_seen old ++ commit ∷ [])) tries.1 ∙ (last_of (log_seen old) commit ∙ ap (λ (b : List ℕ). Some b) (sym tries.2))),
      );
      given = ((λ i. put_commit (sym tries.1 i) (sym tries.2 i)), refl);
    }

short_answers : (asked : Asked) → IsAnswerOf (kind_of asked) told_memory
short_answers list_names = tt
short_answers (get_object name) = tt
short_answers (put_file name bytes) = tt
short_answers (put_commit version bytes) = tt

-- no call, where memory ran out and nothing changed
pub made_short : (old new : Seen) (asked : Asked) → new ≡ old → IsMade old asked told_memory None new
made_short old new asked same = subst (IsMade old asked told_memory None) (sym same) (record {
  made = [];
  mine = sym (append-nil old.mine);
  answers = short_answers asked;
  kept = refl;
  had = λ first mid talk through reads. lacks talk mid old asked through reads;
  few = omega arith;
  stood = λ objects may. may;
  created = refl;
  given = tt;
})

-- a get that found a commit, in place of its put
pub made_found : (old new : Seen) (version : ℕ) (bytes commit : List ℕ) → version < length (log_seen old) → Extends old (get_object (commit_name version)) (told_object (Some commit)) new → IsMade old (put_commit version bytes) (told_put Exists) None new
made_found old new version bytes commit within e =
    let grows = extends_grows old (get_object (commit_name version)) (told_object (Some commit)) new e in
    let log = front_short (log_seen old) (log_seen new) grows.log in
    record {
      made = record { seat = old.number; asked = get_object (commit_name version); told = told_object (Some commit) } ∷ [];
      mine = e.mine;
      answers = tt;
      kept = refl;
      had = λ first mid talk through reads. finds talk mid old new version bytes commit through reads within e;
      few = omega (arith, log);
      stood = λ objects may. stood_by old new objects grows may;
      created = refl;
      given = tt;
    }

-- a put behind commits that were read before it
pub made_behind : (first old new : Seen) (asked : Asked) (told : Told) (receipt : Option Receipt) → HasReadOn (read_before asked) first old → IsMade old asked told receipt new → IsMade first asked told receipt new
made_behind first old new asked told receipt r m = record {
  made = r.made ++ m.made;
  mine = mine_more first old new r.made m.made r.mine m.mine;
  answers = m.answers;
  kept = m.kept;
  had = λ start mid talk through reads. m.had start mid talk through (reads_both (read_before asked) mid first old reads r.reads);
  few = omega (arith, r.long, m.few, length-append r.made m.made);
  stood = λ objects may. r.stood objects (m.stood objects may);
  created = receipt_more r.made m.made new receipt r.none m.created;
  given = m.given;
}

-- what is in a log is some commit
pub item_below : (log : List (List ℕ)) (at : ℕ) → at < length log → (bytes : List ℕ) × (slice_get log at ≡ Some bytes)
item_below [] at low = absurd (omega arith)
item_below (bytes ∷ log) zero low = (bytes, refl)
item_below (bytes ∷ log) (suc at) low = item_below log at (omega (arith, low))

-- what holds where nothing failed
pub on_fine : {A E : Type 0} (P : Type 0) (result : Result A E) → OnOk result P → is_err result ≡ false → P
on_fine P (Ok done) holds fine = holds
on_fine P (Err fault) holds fine = absurd cc

-- what is told without a receipt
pub made_told : (old new : Seen) (asked : Asked) (reply : Reply) (answer : Answer) → answer.reply ≡ reply → answer.receipt ≡ None → IsMade old asked (told_view reply) None new → IsMade old asked (told_view answer.reply) answer.receipt new
made_told old new asked reply answer told without m = subst (λ (a : Reply × Option Receipt). IsMade old asked (told_view a.0) a.1 new) (λ i. (sym told i, sym without i)) m
