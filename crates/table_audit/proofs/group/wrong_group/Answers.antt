use Rattle.std.proofs.Common.{◌≡◌, ℕ, List, Bor, IfErr, IfOk, map, refl, sym, ap, subst, ◌∙◌, []}
use Rattle.std.specs.Option.{IfNone}
use Rattle.std.proofs.lemmas.Result.{IfOk-weaker}
use Rattle.delta_actions.specs.Action as kinds
use Rattle.delta_actions.specs.Action.{TxnAction, views, AddAction}
use Rattle.delta_actions.specs.declared.action.Txn.{Txn}
use Rattle.delta_replay.specs.Snapshots.{IsSnapshotOf}
use Rattle.schema_tree.specs.Schema.{tree_of}
use Rattle.table_check.specs.Following.{AreNewIn}
use Rattle.table_store.specs.Groups.{added, numbers}
use Rattle.table_audit.specs.Entries.{GroupFollows, HaveFiles}
use Rattle.table_audit.specs.LargeFiles.{AreSmall, AreToHold, TellsLarge}
use Rattle.table_audit.specs.Reasons.{AreNoFiles, IsNoNext}
use Rattle.table_audit.specs.declared.reason.Reason.{Reason}
use Rattle.table_audit.proofs.GroupParts.{file_of, follows_picked, no_files_picked, none_new_picked, none_weaker, number_of, seen_numbers, some_each, some_weaker}
use Rattle.table_audit.proofs.ReasonParts.{next_by_files, next_by_numbers, no_files_seen, old_picked}
use Rattle.table_audit.specs.Audits.{ReadFront, names_of_files}
use Rattle.table_audit.specs.Calls.{ReaderCall, ReaderTraced}
use Rattle.table_audit.proofs.CallParts.{front_none}
use Rattle.table_audit.proofs.group.wrong_group.Given as given
use Rattle.table_audit.proofs.group.wrong_group.Goals as goal
use Rattle.table_audit.proofs.group.wrong_group.Goals.{After-drop-txns-2}

pub returns-then-not-are_txns_and_adds-clause-breaks : goal.returns-then-not-are_txns_and_adds-clause-breaks
returns-then-not-are_txns_and_adds-clause-breaks g c = λ steady log of follows. let yes = c.are_txns_and_adds.ensures.found follows.stand.only in let both = sym yes ∙ c.if-not-are_txns_and_adds.true in cc

pub returns-in-Some-clause-breaks : goal.returns-in-Some-clause-breaks
returns-in-Some-clause-breaks g c = λ steady log of.
    let beside = views c.args.beside.now in
    let are_ns : numbers beside ≡ map number_of c.deref.result.now =
    ap (map (λ (t : TxnAction). (t.app_id, t.version))) (sym c.in_ok-txns.ensures) ∙ (seen_numbers c.in_ok-txns.txns.items ∙ ap (map number_of) (sym c.deref.ensures.value)) in
    none_new_picked (g.R.ObjectReader.objects c.args.reader.now) (tree_of c.args.schema.now) log beside (map number_of c.deref.result.now) (added beside) are_ns refl ((rw c.in-Some.is at c.in_ok-reason.ensures.breaks) log of)

picked_numbers : (g : given.Over) (c : After-drop-txns-2 g) → numbers (views c.args.beside.now) ≡ map number_of c.deref-2.result.now
picked_numbers g c = ap (map (λ (t : TxnAction). (t.app_id, t.version))) (sym c.in_ok-txns.ensures) ∙ (seen_numbers c.in_ok-txns.txns.items ∙ ap (map number_of) (sym c.deref-2.ensures.value))

picked_files : (g : given.Over) (c : After-drop-txns-2 g) → added (views c.args.beside.now) ≡ map file_of c.deref-3.result.now
picked_files g c = sym c.in_ok-adds.ensures ∙ ap (map file_of) (sym c.deref-3.ensures.value)

pub returns-clause-follows : goal.returns-clause-follows
returns-clause-follows g c = λ steady.
    let objects = g.R.ObjectReader.objects c.args.reader.now in
    let schema = tree_of c.args.schema.now in
    let beside = views c.args.beside.now in
    let ns = map number_of c.deref-2.result.now in
    let files = map file_of c.deref-3.result.now in
    let only = c.are_txns_and_adds.ensures.only c.if-not-are_txns_and_adds.false in
    let new = rw c.in_default.is at c.in_ok-reason.ensures.new in
    let same = c.deref.ensures.value ∙ sym c.deref-2.ensures.value in
    let P : Type 0 = HaveFiles objects schema ns files in
    let Q : Type 0 = (log : List (List kinds.Action)) → IsSnapshotOf log c.args.snapshot.now → GroupFollows objects schema log beside in
    IfOk-weaker c.wrong_files.result _ _
    (λ o h. none_weaker P Q (λ have log of. follows_picked objects schema log beside ns files (picked_numbers g c) (picked_files g c) only (subst (λ (ts : List (Bor Txn)). AreNewIn log (map number_of ts)) same (new log of)) have) o h)
    (c.wrong_files.ensures.stand steady)

pub returns-clause-breaks : goal.returns-clause-breaks
returns-clause-breaks g c = λ steady.
    let objects = g.R.ObjectReader.objects c.args.reader.now in
    let schema = tree_of c.args.schema.now in
    let beside = views c.args.beside.now in
    let ns = map number_of c.deref-2.result.now in
    let files = map file_of c.deref-3.result.now in
    let P : Type 0 = HaveFiles objects schema ns files → ⊥ in
    let Q : Type 0 = (log : List (List kinds.Action)) → IsSnapshotOf log c.args.snapshot.now → GroupFollows objects schema log beside → ⊥ in
    IfOk-weaker c.wrong_files.result _ _ (λ o h. some_weaker P Q (λ none log of. no_files_picked objects schema log beside ns files (picked_numbers g c) (picked_files g c) none) o h) (c.wrong_files.ensures.breaks steady)

pub returns-then-not-are_txns_and_adds-clause-why : goal.returns-then-not-are_txns_and_adds-clause-why
returns-then-not-are_txns_and_adds-clause-why g c = λ steady log of. (refl, λ bs some group. let yes = c.are_txns_and_adds.ensures.found group.only in let both = sym yes ∙ c.if-not-are_txns_and_adds.true in cc)

pub returns-in-Some-clause-why : goal.returns-in-Some-clause-why
returns-in-Some-clause-why g c = λ steady log of.
    let beside = views c.args.beside.now in
    let version = c.args.version in
    let are_ns : numbers beside ≡ map number_of c.deref.result.now =
    ap (map (λ (t : TxnAction). (t.app_id, t.version))) (sym c.in_ok-txns.ensures) ∙ (seen_numbers c.in_ok-txns.txns.items ∙ ap (map number_of) (sym c.deref.ensures.value)) in
    next_by_numbers (g.R.ObjectReader.objects c.args.reader.now) (tree_of c.args.schema.now) version log beside c.in-Some.reason
    (old_picked log version c.in-Some.reason (numbers beside) (map number_of c.deref.result.now) are_ns ((rw c.in-Some.is at c.in_ok-reason.ensures.why) log of))

pub returns-clause-why : goal.returns-clause-why
returns-clause-why g c = λ steady.
    let objects = g.R.ObjectReader.objects c.args.reader.now in
    let schema = tree_of c.args.schema.now in
    let beside = views c.args.beside.now in
    let version = c.args.version in
    let ns = map number_of c.deref-2.result.now in
    let files = map file_of c.deref-3.result.now in
    let P : Reason → Type 0 = AreNoFiles objects schema version ns files in
    let Q : Reason → Type 0 = λ reason. (log : List (List kinds.Action)) → IsSnapshotOf log c.args.snapshot.now → IsNoNext objects schema version log beside reason in
    IfOk-weaker c.wrong_files.result _ _
    (λ o why. some_each P Q (λ reason is log of. next_by_files objects schema version log beside reason (no_files_seen objects schema version reason (numbers beside) ns (added beside) files (picked_numbers g c) (picked_files g c) is)) o why)
    (c.wrong_files.ensures.why steady)

pub returns-clause-large : goal.returns-clause-large
returns-clause-large g c = λ steady.
    let objects = g.R.ObjectReader.objects c.args.reader.now in
    let schema = tree_of c.args.schema.now in
    let ns = map number_of c.deref-2.result.now in
    let told = c.wrong_files.ensures.large steady in
    subst (λ (ms : List (List ℕ × ℕ)). IfErr c.wrong_files.result (TellsLarge objects schema c.args.version (AreToHold ms (added (views c.args.beside.now))))) (sym (picked_numbers g c))
    (subst (λ (files : List AddAction). IfErr c.wrong_files.result (TellsLarge objects schema c.args.version (AreToHold ns files))) (sym (picked_files g c)) told)

pub returns-then-not-are_txns_and_adds-clause-called : goal.returns-then-not-are_txns_and_adds-clause-called
returns-then-not-are_txns_and_adds-clause-called g c = ([], refl, front_none _)

pub returns-in_err-txns-clause-called : goal.returns-in_err-txns-clause-called
returns-in_err-txns-clause-called g c = ([], refl, front_none _)

pub returns-in_err-adds-clause-called : goal.returns-in_err-adds-clause-called
returns-in_err-adds-clause-called g c = ([], refl, front_none _)

pub returns-in_err-reason-clause-called : goal.returns-in_err-reason-clause-called
returns-in_err-reason-clause-called g c = ([], refl, front_none _)

pub returns-in-Some-clause-called : goal.returns-in-Some-clause-called
returns-in-Some-clause-called g c = ([], refl, front_none _)

pub returns-clause-called : goal.returns-clause-called
returns-clause-called g c =
    subst (λ (files : List AddAction). (calls : List ReaderCall) × ReaderTraced g.R.ObjectReader.makes c.args.reader.now calls c.wrong_files.new.reader × ReadFront (names_of_files files) calls) (sym (picked_files g c)) c.wrong_files.ensures.called

pub returns-clause-small : goal.returns-clause-small
returns-clause-small g c = λ steady.
    let objects = g.R.ObjectReader.objects c.args.reader.now in
    let schema = tree_of c.args.schema.now in
    let ns = map number_of c.deref-2.result.now in
    let small = c.wrong_files.ensures.small steady in
    subst (λ (ms : List (List ℕ × ℕ)). IfOk c.wrong_files.result (λ o. IfNone o (AreSmall objects schema (AreToHold ms (added (views c.args.beside.now)))))) (sym (picked_numbers g c))
    (subst (λ (files : List AddAction). IfOk c.wrong_files.result (λ o. IfNone o (AreSmall objects schema (AreToHold ns files)))) (sym (picked_files g c)) small)
