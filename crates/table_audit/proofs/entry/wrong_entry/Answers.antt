use Rattle.std.proofs.Common.{List, string_bytes, [], refl}
use Rattle.std.proofs.lemmas.Result.{IfOk-weaker}
use Rattle.delta_actions.specs.Action as kinds
use Rattle.delta_actions.specs.Action.{views}
use Rattle.delta_replay.specs.Snapshots.{IsSnapshotOf}
use Rattle.schema_tree.specs.Schema.{tree_of}
use Rattle.table_store.specs.Groups.{added, numbers}
use Rattle.table_audit.specs.Entries.{EntryFollows, GroupFollows}
use Rattle.table_audit.specs.Reasons.{IsNoClose, IsNoNext}
use Rattle.table_audit.specs.declared.reason.Reason.{Reason}
use Rattle.table_audit.proofs.GroupParts.{follows_close, follows_group, follows_none, none_weaker, some_each, some_weaker}
use Rattle.table_audit.proofs.SmallParts.{close_numbers, none_small}
use Rattle.table_audit.proofs.CallParts.{front_none}
use Rattle.table_audit.proofs.entry.wrong_entry.Goals as goal

pub returns-in-Some-clause-follows : goal.returns-in-Some-clause-follows
returns-in-Some-clause-follows g c = λ steady log of.
    follows_close (g.R.ObjectReader.objects c.args.reader.now) (tree_of c.args.schema.now) log (views c.args.beside.now) (string_bytes c.in-Some._application) (rw c.in-Some.is at c.in_ok-_application.ensures.found)

pub returns-clause-follows : goal.returns-clause-follows
returns-clause-follows g c = λ steady.
    let objects = g.R.ObjectReader.objects c.args.reader.now in
    let schema = tree_of c.args.schema.now in
    let beside = views c.args.beside.now in
    let P : Type 0 = (log : List (List kinds.Action)) → IsSnapshotOf log c.args.snapshot.now → GroupFollows objects schema log beside in
    let Q : Type 0 = (log : List (List kinds.Action)) → IsSnapshotOf log c.args.snapshot.now → EntryFollows objects schema log beside in
    IfOk-weaker c.wrong_group.result _ _ (λ o h. none_weaker P Q (λ may log of. follows_group objects schema log beside (may log of)) o h) (c.wrong_group.ensures.follows steady)

pub returns-clause-breaks : goal.returns-clause-breaks
returns-clause-breaks g c = λ steady.
    let objects = g.R.ObjectReader.objects c.args.reader.now in
    let schema = tree_of c.args.schema.now in
    let beside = views c.args.beside.now in
    let no_close = rw c.in_default.is at c.in_ok-_application.ensures.only in
    let P : Type 0 = (log : List (List kinds.Action)) → IsSnapshotOf log c.args.snapshot.now → GroupFollows objects schema log beside → ⊥ in
    let Q : Type 0 = (log : List (List kinds.Action)) → IsSnapshotOf log c.args.snapshot.now → EntryFollows objects schema log beside → ⊥ in
    IfOk-weaker c.wrong_group.result _ _ (λ o h. some_weaker P Q (λ none log of. follows_none objects schema log beside no_close (none log of)) o h) (c.wrong_group.ensures.breaks steady)

pub returns-clause-why : goal.returns-clause-why
returns-clause-why g c = λ steady.
    let objects = g.R.ObjectReader.objects c.args.reader.now in
    let schema = tree_of c.args.schema.now in
    let beside = views c.args.beside.now in
    let no_close : IsNoClose beside = rw c.in_default.is at c.in_ok-_application.ensures.only in
    let P : Reason → Type 0 = λ reason. (log : List (List kinds.Action)) → IsSnapshotOf log c.args.snapshot.now → IsNoNext objects schema c.args.version log beside reason in
    let Q : Reason → Type 0 = λ reason. IsNoClose beside × ((log : List (List kinds.Action)) → IsSnapshotOf log c.args.snapshot.now → IsNoNext objects schema c.args.version log beside reason) in
    IfOk-weaker c.wrong_group.result _ _ (λ o why. some_each P Q (λ reason is. (no_close, is)) o why) (c.wrong_group.ensures.why steady)

pub returns-in_err-_application-clause-called : goal.returns-in_err-_application-clause-called
returns-in_err-_application-clause-called g c = ([], refl, front_none _)

pub returns-in-Some-clause-called : goal.returns-in-Some-clause-called
returns-in-Some-clause-called g c = ([], refl, front_none _)

-- a close adds no file
pub returns-in-Some-clause-small : goal.returns-in-Some-clause-small
returns-in-Some-clause-small g c = λ steady.
    let beside = views c.args.beside.now in
    none_small (g.R.ObjectReader.objects c.args.reader.now) (tree_of c.args.schema.now) (numbers beside) (added beside) (close_numbers (string_bytes c.in-Some._application) beside (rw c.in-Some.is at c.in_ok-_application.ensures.found))
