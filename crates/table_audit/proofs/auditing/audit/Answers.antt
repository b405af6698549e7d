use Rattle.std.proofs.Common.{◌≡◌, ℕ, List, String, Global, None, Some, map, string_bytes, sym, ap, subst, ◌∙◌, [], ◌∷◌, refl}
use Rattle.std.proofs.lemmas.Result.{IfErr-weaker, IfOk-weaker}
use Rattle.store_core.specs.Names.{commit_name}
use Rattle.store_core.specs.Objects.{Objects, names_of, object_at}
use Rattle.table_store.proofs.HeldLemmas.{read_at}
use Rattle.table_check.specs.Below.{IsSoundBelow}
use Rattle.table_audit.specs.LargeFiles.{HasNoLargeBelow, TellsLargeFile}
use Rattle.table_audit.specs.Reasons.{IsReasonOf}
use Rattle.table_audit.specs.Verdicts.{IsVerdictOf, end_of}
use Rattle.table_audit.specs.Walks.{IsEnd, IsWalk, IsWalkOver}
use Rattle.table_audit.proofs.EndParts.{empty_judged, first_judged}
use Rattle.table_audit.specs.Calls.{lists}
use Rattle.table_audit.proofs.CallParts.{traced_once}
use Rattle.table_audit.proofs.SmallParts.{no_table, none_below}
use Rattle.table_audit.proofs.TraceParts.{audits, audits_first, audits_more, reads_none}
use Rattle.table_audit.proofs.auditing.audit.Given as given
use Rattle.table_audit.proofs.auditing.audit.Goals as goal
use Rattle.table_audit.proofs.auditing.audit.Goals.{After-drop-names-in-Created}

pub returns-in_default-clause-told : goal.returns-in_default-clause-told
returns-in_default-clause-told g c = λ steady.
    let objects = g.R.ObjectReader.objects c.args.reader.now in
    let listed = c.names.ensures.steady steady in
    let left = c.names.ensures.untouched steady in
    let name : c.deref.result.now ≡ commit_name 0 = c.deref.ensures ∙ c.in_ok-commit_name.ensures in
    let none : object_at objects (commit_name 0) ≡ None = read_at objects _ _ _ None (rw left at (c.in_ok-bytes.ensures.object listed)) name c.in_default.is in
    let same : map string_bytes c.deref-in_default.result.now ≡ names_of objects = ap (λ (ns : List (String Global)). map string_bytes ns) c.deref-in_default.ensures.value ∙ c.in_ok-names.ensures.names steady in
    IfOk-weaker c.ended.result _ _ (λ verdict end. empty_judged objects verdict none (subst (λ (ns : List (List ℕ)). IsEnd 0 ns verdict) same end)) c.ended.ensures.end

-- a walk was begun over what was read
walk_over : (g : given.Over) (c : After-drop-names-in-Created g) → g.R.ObjectReader.is_steady c.args.reader.now → IsWalkOver (g.R.ObjectReader.objects c.read.new.self) (map string_bytes c.deref-in-Created.result.now) c.in-Created.walk
walk_over g c steady =
    let objects = g.R.ObjectReader.objects c.args.reader.now in
    let listed = c.names.ensures.steady steady in
    let before = c.names.ensures.untouched steady in
    let left : g.R.ObjectReader.objects c.read.new.self ≡ objects = c.read.ensures.untouched listed ∙ before in
    let name : c.deref.result.now ≡ commit_name 0 = c.deref.ensures ∙ c.in_ok-commit_name.ensures in
    let there : object_at objects (commit_name 0) ≡ Some c.deref-2.result.now =
    read_at objects _ _ _ (Some c.in-Some.bytes) (rw before at (c.in_ok-bytes.ensures.object listed)) name c.in-Some.is ∙ ap (λ (b : List ℕ). Some b) (sym c.deref-2.ensures.value) in
    let begun : IsWalk objects c.in-Created.walk = rw c.in-Created.is at (c.in_ok-walk.ensures.begins objects there) in
    let same : map string_bytes c.deref-in-Created.result.now ≡ names_of objects = ap (λ (ns : List (String Global)). map string_bytes ns) c.deref-in-Created.ensures.value ∙ c.in_ok-names.ensures.names steady in
    subst (λ (o : Objects). IsWalkOver o (map string_bytes c.deref-in-Created.result.now) c.in-Created.walk) (sym left) (same, begun)

pub returns-in-Created-clause-told : goal.returns-in-Created-clause-told
returns-in-Created-clause-told g c = λ steady.
    let objects = g.R.ObjectReader.objects c.args.reader.now in
    let after : g.R.ObjectReader.is_steady c.read.new.self = c.read.ensures.steady (c.names.ensures.steady steady) in
    let left : g.R.ObjectReader.objects c.read.new.self ≡ objects = c.read.ensures.untouched (c.names.ensures.steady steady) ∙ c.names.ensures.untouched steady in
    IfOk-weaker c.audit_walk.result _ _ (λ verdict told. subst (λ (o : Objects). IsVerdictOf o verdict) left told) (c.audit_walk.ensures.told after (walk_over g c steady))

pub returns-clause-told : goal.returns-clause-told
returns-clause-told g c = λ steady.
    let objects = g.R.ObjectReader.objects c.args.reader.now in
    let listed = c.names.ensures.steady steady in
    let before = c.names.ensures.untouched steady in
    let name : c.deref.result.now ≡ commit_name 0 = c.deref.ensures ∙ c.in_ok-commit_name.ensures in
    let there : object_at objects (commit_name 0) ≡ Some c.deref-2.result.now =
    read_at objects _ _ _ (Some c.in-Some.bytes) (rw before at (c.in_ok-bytes.ensures.object listed)) name c.in-Some.is ∙ ap (λ (b : List ℕ). Some b) (sym c.deref-2.ensures.value) in
    let wrong : (IsSoundBelow objects 1 → ⊥) × IsReasonOf objects 0 c.in-Wrong.reason = rw c.in-Wrong.is at (c.in_ok-walk.ensures.begins objects there) in
    (first_judged objects wrong.0, wrong.1)

-- ---- no file is too large below the version that is told

pub returns-in_default-clause-readable : goal.returns-in_default-clause-readable
returns-in_default-clause-readable g c = λ steady.
    let objects = g.R.ObjectReader.objects c.args.reader.now in
    let listed = c.names.ensures.steady steady in
    let left = c.names.ensures.untouched steady in
    let name : c.deref.result.now ≡ commit_name 0 = c.deref.ensures ∙ c.in_ok-commit_name.ensures in
    let none : object_at objects (commit_name 0) ≡ None = read_at objects _ _ _ None (rw left at (c.in_ok-bytes.ensures.object listed)) name c.in_default.is in
    IfOk-weaker c.ended.result _ _ (λ verdict end. no_table objects (end_of verdict) none) c.ended.ensures.end

pub returns-in-Created-clause-readable : goal.returns-in-Created-clause-readable
returns-in-Created-clause-readable g c = λ steady.
    let objects = g.R.ObjectReader.objects c.args.reader.now in
    let after : g.R.ObjectReader.is_steady c.read.new.self = c.read.ensures.steady (c.names.ensures.steady steady) in
    let left : g.R.ObjectReader.objects c.read.new.self ≡ objects = c.read.ensures.untouched (c.names.ensures.steady steady) ∙ c.names.ensures.untouched steady in
    IfOk-weaker c.audit_walk.result _ _ (λ verdict below. subst (λ (o : Objects). HasNoLargeBelow o (end_of verdict)) left below) (c.audit_walk.ensures.readable after (walk_over g c steady))

pub returns-clause-readable : goal.returns-clause-readable
returns-clause-readable g c = λ steady. none_below (g.R.ObjectReader.objects c.args.reader.now)

-- ---- a file that is too large

pub returns-in-Created-clause-large : goal.returns-in-Created-clause-large
returns-in-Created-clause-large g c = λ steady.
    let objects = g.R.ObjectReader.objects c.args.reader.now in
    let after : g.R.ObjectReader.is_steady c.read.new.self = c.read.ensures.steady (c.names.ensures.steady steady) in
    let left : g.R.ObjectReader.objects c.read.new.self ≡ objects = c.read.ensures.untouched (c.names.ensures.steady steady) ∙ c.names.ensures.untouched steady in
    IfErr-weaker c.audit_walk.result _ _ (λ error told. subst (λ (o : Objects). TellsLargeFile o error) left told) (c.audit_walk.ensures.large after (walk_over g c steady))

-- ---- which calls were made

pub returns-in_err-names-clause-called : goal.returns-in_err-names-clause-called
returns-in_err-names-clause-called g c = (lists None ∷ [], traced_once g.R.ObjectReader.makes _ _ (lists None) c.in_err-names.ensures.called, (None, [], refl, refl))

pub returns-in_err-commit_name-clause-called : goal.returns-in_err-commit_name-clause-called
returns-in_err-commit_name-clause-called g c = audits g.R.ObjectReader.makes _ _ _ _ c.in_ok-names.ensures.called (reads_none g.R.ObjectReader.makes _ _ 0)

pub returns-in_err-bytes-clause-called : goal.returns-in_err-bytes-clause-called
returns-in_err-bytes-clause-called g c = let name : c.deref.result.now ≡ commit_name 0 = c.deref.ensures ∙ c.in_ok-commit_name.ensures in audits_first g.R.ObjectReader.makes _ _ _ _ _ _ c.in_ok-names.ensures.called name c.in_err-bytes.ensures.called

pub returns-in_default-clause-called : goal.returns-in_default-clause-called
returns-in_default-clause-called g c = let name : c.deref.result.now ≡ commit_name 0 = c.deref.ensures ∙ c.in_ok-commit_name.ensures in audits_first g.R.ObjectReader.makes _ _ _ _ _ _ c.in_ok-names.ensures.called name c.in_ok-bytes.ensures.called

pub returns-in_err-walk-clause-called : goal.returns-in_err-walk-clause-called
returns-in_err-walk-clause-called g c = let name : c.deref.result.now ≡ commit_name 0 = c.deref.ensures ∙ c.in_ok-commit_name.ensures in audits_first g.R.ObjectReader.makes _ _ _ _ _ _ c.in_ok-names.ensures.called name c.in_ok-bytes.ensures.called

pub returns-clause-called : goal.returns-clause-called
returns-clause-called g c = let name : c.deref.result.now ≡ commit_name 0 = c.deref.ensures ∙ c.in_ok-commit_name.ensures in audits_first g.R.ObjectReader.makes _ _ _ _ _ _ c.in_ok-names.ensures.called name c.in_ok-bytes.ensures.called

pub returns-in-Created-clause-called : goal.returns-in-Created-clause-called
returns-in-Created-clause-called g c =
    let name : c.deref.result.now ≡ commit_name 0 = c.deref.ensures ∙ c.in_ok-commit_name.ensures in
    let next : c.in-Created.walk.next ≡ 1 = rw c.in-Created.is at c.in_ok-walk.ensures.next in
    let same : map string_bytes c.deref-in-Created.result.now ≡ map string_bytes c.in_ok-names.names.items = ap (λ (ns : List (String Global)). map string_bytes ns) c.deref-in-Created.ensures.value in
    audits_more g.R.ObjectReader.makes _ _ _ _ _ _ _ c.in-Some.bytes.items _ c.in_ok-names.ensures.called name (rw c.in-Some.is at c.in_ok-bytes.ensures.called) same next c.audit_walk.ensures.called
