use Rattle.std.proofs.Common.{◌≡◌, suc, map, string_bytes, refl, sym, subst, ◌∙◌, arith, ◌+◌, [], drop}
use Rattle.std.proofs.lemmas.Result.{err_from_is_err_and}
use Rattle.store_core.specs.Names.{greatest_version}
use Rattle.store_core.specs.Objects.{Objects}
use Rattle.table_check.specs.Below.{AreCheckpointsSoundBelow, IsSoundBelow}
use Rattle.table_audit.specs.LargeFiles.{TellsLargeFile}
use Rattle.table_audit.specs.Listed.{listed_view}
use Rattle.table_audit.specs.Reasons.{IsReasonOf}
use Rattle.table_audit.specs.Walks.{IsWalk, IsWalkOver}
use Rattle.table_audit.proofs.EndParts.{breaks_last, whole_sound}
use Rattle.table_audit.proofs.LargeParts.{none_told}
use Rattle.table_audit.proofs.ListParts.{IsDone, ahead_more, all_listed, are_listed, below_all, below_at, done_more, first_ahead, small_at, told_at, all_same, here_at}
use Rattle.table_audit.proofs.SmallParts.{fewer_below}
use Rattle.table_audit.proofs.TraceParts.{goes_on, reads_ended, reads_none, reads_to_end}
use Rattle.table_audit.proofs.auditing.audit_walk.Goals as goal

pub loop-checkpoint-init : goal.loop-checkpoint-init
loop-checkpoint-init g c = record {
  untouched = λ steady. refl;
  steady = λ steady. steady;
  reliable = λ reliable. reliable;
  walk = λ steady over. over.1;
  schema = refl;
  most = omega (arith, c.requires);
  seen = λ steady over. tt;
  called = ([], refl, λ more log. log);
  ahead = first_ahead c.args.walk.next c.requires (map listed_view c.deref-checkpoint-items.result.now);
}

pub walk_on-requires-clause-fits : goal.walk_on-requires-clause-fits
walk_on-requires-clause-fits g c =
    let items = c.deref-checkpoint-items.result.now in
    let i = c.loop-checkpoint.checkpoint-index in
    let listed = are_listed c.in_ok-checkpoints.checkpoints.items items c.deref-checkpoint-items.ensures.value c.in_ok-checkpoints.ensures.own c.in_ok-checkpoints.ensures.rising in
    small_at items listed i c.checkpoint-item.result c.loop-checkpoint-test.true c.checkpoint-item.is

pub returns-in-Over-clause-told : goal.returns-in-Over-clause-told
returns-in-Over-clause-told g c = λ steady over.
    let objects = g.R.ObjectReader.objects c.args.reader.now in
    let items = c.deref-checkpoint-items.result.now in
    let i = c.loop-checkpoint.checkpoint-index in
    let x = c.checkpoint-item.result in
    let listed = are_listed c.in_ok-checkpoints.checkpoints.items items c.deref-checkpoint-items.ensures.value c.in_ok-checkpoints.ensures.own c.in_ok-checkpoints.ensures.rising in
    let all = all_listed objects (map string_bytes c.args.names.now) c.in_ok-checkpoints.checkpoints.items items over.0 c.deref-checkpoint-items.ensures.value c.in_ok-checkpoints.ensures.all in
    let here : g.R.ObjectReader.is_steady c.loop-checkpoint.reader = c.loop-checkpoint.invariant.steady steady in
    let same : g.R.ObjectReader.objects c.loop-checkpoint.reader ≡ objects = c.loop-checkpoint.invariant.untouched steady in
    let begun : IsWalkOver (g.R.ObjectReader.objects c.loop-checkpoint.reader) (map string_bytes c.args.names.now) c.loop-checkpoint.walk =
    subst (λ (o : Objects). IsWalkOver o (map string_bytes c.args.names.now) c.loop-checkpoint.walk) (sym same) (over.0, c.loop-checkpoint.invariant.walk steady over) in
    let below : AreCheckpointsSoundBelow objects x.version = below_at objects items all i x c.loop-checkpoint-test.true c.checkpoint-item.is listed (c.loop-checkpoint.invariant.seen steady over) in
    let low : AreCheckpointsSoundBelow (g.R.ObjectReader.objects c.loop-checkpoint.reader) x.version = subst (λ (o : Objects). AreCheckpointsSoundBelow o x.version) (sym same) below in
    rw (c.in-Over.is, same) at (c.in_ok-walk_on.ensures.reached here begun low)

pub wrong_checkpoint-requires-clause-next : goal.wrong_checkpoint-requires-clause-next
wrong_checkpoint-requires-clause-next g c = rw c.in-Behind.is at c.in_ok-walk_on.ensures.next

pub wrong_checkpoint-requires-clause-told : goal.wrong_checkpoint-requires-clause-told
wrong_checkpoint-requires-clause-told g c =
    let items = c.deref-checkpoint-items.result.now in
    let i = c.loop-checkpoint.checkpoint-index in
    let listed = are_listed c.in_ok-checkpoints.checkpoints.items items c.deref-checkpoint-items.ensures.value c.in_ok-checkpoints.ensures.own c.in_ok-checkpoints.ensures.rising in
    told_at items listed i c.checkpoint-item.result c.loop-checkpoint-test.true c.checkpoint-item.is

pub returns-in-Some-clause-told : goal.returns-in-Some-clause-told
returns-in-Some-clause-told g c = λ steady over.
    let objects = g.R.ObjectReader.objects c.args.reader.now in
    let items = c.deref-checkpoint-items.result.now in
    let i = c.loop-checkpoint.checkpoint-index in
    let x = c.checkpoint-item.result in
    let listed = are_listed c.in_ok-checkpoints.checkpoints.items items c.deref-checkpoint-items.ensures.value c.in_ok-checkpoints.ensures.own c.in_ok-checkpoints.ensures.rising in
    let all = all_listed objects (map string_bytes c.args.names.now) c.in_ok-checkpoints.checkpoints.items items over.0 c.deref-checkpoint-items.ensures.value c.in_ok-checkpoints.ensures.all in
    let here : g.R.ObjectReader.is_steady c.loop-checkpoint.reader = c.loop-checkpoint.invariant.steady steady in
    let same : g.R.ObjectReader.objects c.loop-checkpoint.reader ≡ objects = c.loop-checkpoint.invariant.untouched steady in
    let begun : IsWalkOver (g.R.ObjectReader.objects c.loop-checkpoint.reader) (map string_bytes c.args.names.now) c.loop-checkpoint.walk =
    subst (λ (o : Objects). IsWalkOver o (map string_bytes c.args.names.now) c.loop-checkpoint.walk) (sym same) (over.0, c.loop-checkpoint.invariant.walk steady over) in
    let below : AreCheckpointsSoundBelow objects x.version = below_at objects items all i x c.loop-checkpoint-test.true c.checkpoint-item.is listed (c.loop-checkpoint.invariant.seen steady over) in
    let low : AreCheckpointsSoundBelow (g.R.ObjectReader.objects c.loop-checkpoint.reader) x.version = subst (λ (o : Objects). AreCheckpointsSoundBelow o x.version) (sym same) below in
    let after : g.R.ObjectReader.is_steady c.walk_on.new.reader = c.walk_on.ensures.steady here in
    let left : g.R.ObjectReader.objects c.walk_on.new.reader ≡ objects = c.walk_on.ensures.untouched here ∙ same in
    let walk : IsWalk objects c.walk_on.new.walk = rw (c.in-Behind.is, same) at (c.in_ok-walk_on.ensures.reached here begun low) in
    let now : IsWalk (g.R.ObjectReader.objects c.walk_on.new.reader) c.walk_on.new.walk = subst (λ (o : Objects). IsWalk o c.walk_on.new.walk) (sym left) walk in
    let behind : c.walk_on.new.walk.next ≡ suc x.version = rw c.in-Behind.is at c.in_ok-walk_on.ensures.next in
    let breaks = rw c.in-Some.is at c.in_ok-reason.ensures.breaks in
    let why = rw c.in-Some.is at c.in_ok-reason.ensures.why in (
      breaks_last objects c.walk_on.new.walk walk x.version behind below (subst (λ (o : Objects). IsSoundBelow o (suc x.version) → ⊥) left (breaks after now)),
      subst (λ (o : Objects). IsReasonOf o x.version c.in-Some.reason) left (why after now),
    )

pub loop-checkpoint-preserved : goal.loop-checkpoint-preserved
loop-checkpoint-preserved g c =
    let objects = g.R.ObjectReader.objects c.args.reader.now in
    let items = c.deref-checkpoint-items.result.now in
    let i = c.loop-checkpoint.checkpoint-index in
    let x = c.checkpoint-item.result in
    let listed = are_listed c.in_ok-checkpoints.checkpoints.items items c.deref-checkpoint-items.ensures.value c.in_ok-checkpoints.ensures.own c.in_ok-checkpoints.ensures.rising in
    let behind : c.walk_on.new.walk.next ≡ suc x.version = rw c.in-Behind.is at c.in_ok-walk_on.ensures.next in
    let small = small_at items listed i x c.loop-checkpoint-test.true c.checkpoint-item.is in
    let sound = rw c.in_default.is at c.in_ok-reason.ensures.sound in
    record {
      untouched = λ steady.
          let here = c.loop-checkpoint.invariant.steady steady in
          c.wrong_checkpoint.ensures.untouched (c.walk_on.ensures.steady here) ∙ (c.walk_on.ensures.untouched here ∙ c.loop-checkpoint.invariant.untouched steady);
      steady = λ steady. c.wrong_checkpoint.ensures.steady (c.walk_on.ensures.steady (c.loop-checkpoint.invariant.steady steady));
      reliable = λ reliable. c.wrong_checkpoint.ensures.reliable (c.walk_on.ensures.reliable (c.loop-checkpoint.invariant.reliable reliable));
      walk = λ steady over.
          let all = all_listed objects (map string_bytes c.args.names.now) c.in_ok-checkpoints.checkpoints.items items over.0 c.deref-checkpoint-items.ensures.value c.in_ok-checkpoints.ensures.all in
          let here : g.R.ObjectReader.is_steady c.loop-checkpoint.reader = c.loop-checkpoint.invariant.steady steady in
          let same : g.R.ObjectReader.objects c.loop-checkpoint.reader ≡ objects = c.loop-checkpoint.invariant.untouched steady in
          let begun : IsWalkOver (g.R.ObjectReader.objects c.loop-checkpoint.reader) (map string_bytes c.args.names.now) c.loop-checkpoint.walk =
          subst (λ (o : Objects). IsWalkOver o (map string_bytes c.args.names.now) c.loop-checkpoint.walk) (sym same) (over.0, c.loop-checkpoint.invariant.walk steady over) in
          let below : AreCheckpointsSoundBelow objects x.version = below_at objects items all i x c.loop-checkpoint-test.true c.checkpoint-item.is listed (c.loop-checkpoint.invariant.seen steady over) in
          let low : AreCheckpointsSoundBelow (g.R.ObjectReader.objects c.loop-checkpoint.reader) x.version = subst (λ (o : Objects). AreCheckpointsSoundBelow o x.version) (sym same) below in
          rw (c.in-Behind.is, same) at (c.in_ok-walk_on.ensures.reached here begun low);
      schema = c.walk_on.ensures.keeps ∙ c.loop-checkpoint.invariant.schema;
      most = omega (arith, behind, small);
      seen = λ steady over.
          let all = all_listed objects (map string_bytes c.args.names.now) c.in_ok-checkpoints.checkpoints.items items over.0 c.deref-checkpoint-items.ensures.value c.in_ok-checkpoints.ensures.all in
          let here : g.R.ObjectReader.is_steady c.loop-checkpoint.reader = c.loop-checkpoint.invariant.steady steady in
          let same : g.R.ObjectReader.objects c.loop-checkpoint.reader ≡ objects = c.loop-checkpoint.invariant.untouched steady in
          let begun : IsWalkOver (g.R.ObjectReader.objects c.loop-checkpoint.reader) (map string_bytes c.args.names.now) c.loop-checkpoint.walk =
          subst (λ (o : Objects). IsWalkOver o (map string_bytes c.args.names.now) c.loop-checkpoint.walk) (sym same) (over.0, c.loop-checkpoint.invariant.walk steady over) in
          let below : AreCheckpointsSoundBelow objects x.version = below_at objects items all i x c.loop-checkpoint-test.true c.checkpoint-item.is listed (c.loop-checkpoint.invariant.seen steady over) in
          let low : AreCheckpointsSoundBelow (g.R.ObjectReader.objects c.loop-checkpoint.reader) x.version = subst (λ (o : Objects). AreCheckpointsSoundBelow o x.version) (sym same) below in
          let after : g.R.ObjectReader.is_steady c.walk_on.new.reader = c.walk_on.ensures.steady here in
          let left : g.R.ObjectReader.objects c.walk_on.new.reader ≡ objects = c.walk_on.ensures.untouched here ∙ same in
          let walk : IsWalk objects c.walk_on.new.walk = rw (c.in-Behind.is, same) at (c.in_ok-walk_on.ensures.reached here begun low) in
          let now : IsWalk (g.R.ObjectReader.objects c.walk_on.new.reader) c.walk_on.new.walk = subst (λ (o : Objects). IsWalk o c.walk_on.new.walk) (sym left) walk in
          let one : IsDone objects (listed_view x) = subst (λ (o : Objects). IsDone o (listed_view x)) left (sound after now) in
          done_more objects items all i x c.loop-checkpoint-test.true c.checkpoint-item.is (c.loop-checkpoint.invariant.seen steady over) one;
      called =
          let walked = rw c.in-Behind.is at c.in_ok-walk_on.ensures.gone in
          goes_on g.R.ObjectReader.makes (map string_bytes c.args.names.now) _ _ _ _ (listed_view x) (map listed_view (drop i items)) (map listed_view (drop (i + 1) items)) (map listed_view items) c.loop-checkpoint.walk.next c.args.walk.next walked.0
          c.walk_on.new.walk.next walked.1 (here_at items i x c.loop-checkpoint-test.true c.checkpoint-item.is) c.loop-checkpoint.invariant.called walked.2 walked.3 walked.4 behind c.in_ok-reason.ensures.called;
      ahead = ahead_more items listed i x c.loop-checkpoint-test.true c.checkpoint-item.is c.walk_on.new.walk.next behind;
    }

pub returns-in-Behind-2-clause-told : goal.returns-in-Behind-2-clause-told
returns-in-Behind-2-clause-told g c = λ steady over.
    let objects = g.R.ObjectReader.objects c.args.reader.now in
    let items = c.deref-checkpoint-items.result.now in
    let i = c.loop-checkpoint.checkpoint-index in
    let all = all_listed objects (map string_bytes c.args.names.now) c.in_ok-checkpoints.checkpoints.items items over.0 c.deref-checkpoint-items.ensures.value c.in_ok-checkpoints.ensures.all in
    let here : g.R.ObjectReader.is_steady c.loop-checkpoint.reader = c.loop-checkpoint.invariant.steady steady in
    let same : g.R.ObjectReader.objects c.loop-checkpoint.reader ≡ objects = c.loop-checkpoint.invariant.untouched steady in
    let begun : IsWalkOver (g.R.ObjectReader.objects c.loop-checkpoint.reader) (map string_bytes c.args.names.now) c.loop-checkpoint.walk =
    subst (λ (o : Objects). IsWalkOver o (map string_bytes c.args.names.now) c.loop-checkpoint.walk) (sym same) (over.0, c.loop-checkpoint.invariant.walk steady over) in
    let below : AreCheckpointsSoundBelow objects (suc greatest_version) = below_all objects items all i (suc greatest_version) c.loop-checkpoint-test.false (c.loop-checkpoint.invariant.seen steady over) in
    let low : AreCheckpointsSoundBelow (g.R.ObjectReader.objects c.loop-checkpoint.reader) greatest_version =
    subst (λ (o : Objects). AreCheckpointsSoundBelow o greatest_version) (sym same) (below_all objects items all i greatest_version c.loop-checkpoint-test.false (c.loop-checkpoint.invariant.seen steady over)) in
    let walk : IsWalk objects c.walk_on-2.new.walk = rw (c.in-Behind-2.is, same) at (c.in_ok-walk_on-2.ensures.reached here begun low) in
    let behind : c.walk_on-2.new.walk.next ≡ suc greatest_version = rw c.in-Behind-2.is at c.in_ok-walk_on-2.ensures.next in
    whole_sound objects c.walk_on-2.new.walk walk behind below

pub returns-clause-told : goal.returns-clause-told
returns-clause-told g c = λ steady over.
    let objects = g.R.ObjectReader.objects c.args.reader.now in
    let items = c.deref-checkpoint-items.result.now in
    let i = c.loop-checkpoint.checkpoint-index in
    let all = all_listed objects (map string_bytes c.args.names.now) c.in_ok-checkpoints.checkpoints.items items over.0 c.deref-checkpoint-items.ensures.value c.in_ok-checkpoints.ensures.all in
    let here : g.R.ObjectReader.is_steady c.loop-checkpoint.reader = c.loop-checkpoint.invariant.steady steady in
    let same : g.R.ObjectReader.objects c.loop-checkpoint.reader ≡ objects = c.loop-checkpoint.invariant.untouched steady in
    let begun : IsWalkOver (g.R.ObjectReader.objects c.loop-checkpoint.reader) (map string_bytes c.args.names.now) c.loop-checkpoint.walk =
    subst (λ (o : Objects). IsWalkOver o (map string_bytes c.args.names.now) c.loop-checkpoint.walk) (sym same) (over.0, c.loop-checkpoint.invariant.walk steady over) in
    let low : AreCheckpointsSoundBelow (g.R.ObjectReader.objects c.loop-checkpoint.reader) greatest_version =
    subst (λ (o : Objects). AreCheckpointsSoundBelow o greatest_version) (sym same) (below_all objects items all i greatest_version c.loop-checkpoint-test.false (c.loop-checkpoint.invariant.seen steady over)) in
    rw (c.in-Over-2.is, same) at (c.in_ok-walk_on-2.ensures.reached here begun low)

-- ---- no file is too large below the version that is told

pub returns-in-Over-clause-readable : goal.returns-in-Over-clause-readable
returns-in-Over-clause-readable g c = λ steady over.
    let objects = g.R.ObjectReader.objects c.args.reader.now in
    let here : g.R.ObjectReader.is_steady c.loop-checkpoint.reader = c.loop-checkpoint.invariant.steady steady in
    let same : g.R.ObjectReader.objects c.loop-checkpoint.reader ≡ objects = c.loop-checkpoint.invariant.untouched steady in
    let begun : IsWalkOver (g.R.ObjectReader.objects c.loop-checkpoint.reader) (map string_bytes c.args.names.now) c.loop-checkpoint.walk =
    subst (λ (o : Objects). IsWalkOver o (map string_bytes c.args.names.now) c.loop-checkpoint.walk) (sym same) (over.0, c.loop-checkpoint.invariant.walk steady over) in
    rw (c.in-Over.is, same) at (c.in_ok-walk_on.ensures.readable here begun)

pub returns-in-Some-clause-readable : goal.returns-in-Some-clause-readable
returns-in-Some-clause-readable g c = λ steady over.
    let objects = g.R.ObjectReader.objects c.args.reader.now in
    let items = c.deref-checkpoint-items.result.now in
    let i = c.loop-checkpoint.checkpoint-index in
    let x = c.checkpoint-item.result in
    let listed = are_listed c.in_ok-checkpoints.checkpoints.items items c.deref-checkpoint-items.ensures.value c.in_ok-checkpoints.ensures.own c.in_ok-checkpoints.ensures.rising in
    let all = all_listed objects (map string_bytes c.args.names.now) c.in_ok-checkpoints.checkpoints.items items over.0 c.deref-checkpoint-items.ensures.value c.in_ok-checkpoints.ensures.all in
    let here : g.R.ObjectReader.is_steady c.loop-checkpoint.reader = c.loop-checkpoint.invariant.steady steady in
    let same : g.R.ObjectReader.objects c.loop-checkpoint.reader ≡ objects = c.loop-checkpoint.invariant.untouched steady in
    let begun : IsWalkOver (g.R.ObjectReader.objects c.loop-checkpoint.reader) (map string_bytes c.args.names.now) c.loop-checkpoint.walk =
    subst (λ (o : Objects). IsWalkOver o (map string_bytes c.args.names.now) c.loop-checkpoint.walk) (sym same) (over.0, c.loop-checkpoint.invariant.walk steady over) in
    let below : AreCheckpointsSoundBelow objects x.version = below_at objects items all i x c.loop-checkpoint-test.true c.checkpoint-item.is listed (c.loop-checkpoint.invariant.seen steady over) in
    let low : AreCheckpointsSoundBelow (g.R.ObjectReader.objects c.loop-checkpoint.reader) x.version = subst (λ (o : Objects). AreCheckpointsSoundBelow o x.version) (sym same) below in
    let walk : IsWalk objects c.walk_on.new.walk = rw (c.in-Behind.is, same) at (c.in_ok-walk_on.ensures.reached here begun low) in
    let behind : c.walk_on.new.walk.next ≡ suc x.version = rw c.in-Behind.is at c.in_ok-walk_on.ensures.next in
    fewer_below objects x.version c.walk_on.new.walk.next (omega (arith, behind)) walk.small

pub returns-in-Behind-2-clause-readable : goal.returns-in-Behind-2-clause-readable
returns-in-Behind-2-clause-readable g c = λ steady over.
    let objects = g.R.ObjectReader.objects c.args.reader.now in
    let items = c.deref-checkpoint-items.result.now in
    let i = c.loop-checkpoint.checkpoint-index in
    let all = all_listed objects (map string_bytes c.args.names.now) c.in_ok-checkpoints.checkpoints.items items over.0 c.deref-checkpoint-items.ensures.value c.in_ok-checkpoints.ensures.all in
    let here : g.R.ObjectReader.is_steady c.loop-checkpoint.reader = c.loop-checkpoint.invariant.steady steady in
    let same : g.R.ObjectReader.objects c.loop-checkpoint.reader ≡ objects = c.loop-checkpoint.invariant.untouched steady in
    let begun : IsWalkOver (g.R.ObjectReader.objects c.loop-checkpoint.reader) (map string_bytes c.args.names.now) c.loop-checkpoint.walk =
    subst (λ (o : Objects). IsWalkOver o (map string_bytes c.args.names.now) c.loop-checkpoint.walk) (sym same) (over.0, c.loop-checkpoint.invariant.walk steady over) in
    let low : AreCheckpointsSoundBelow (g.R.ObjectReader.objects c.loop-checkpoint.reader) greatest_version =
    subst (λ (o : Objects). AreCheckpointsSoundBelow o greatest_version) (sym same) (below_all objects items all i greatest_version c.loop-checkpoint-test.false (c.loop-checkpoint.invariant.seen steady over)) in
    let walk : IsWalk objects c.walk_on-2.new.walk = rw (c.in-Behind-2.is, same) at (c.in_ok-walk_on-2.ensures.reached here begun low) in
    walk.small

pub returns-clause-readable : goal.returns-clause-readable
returns-clause-readable g c = λ steady over.
    let objects = g.R.ObjectReader.objects c.args.reader.now in
    let here : g.R.ObjectReader.is_steady c.loop-checkpoint.reader = c.loop-checkpoint.invariant.steady steady in
    let same : g.R.ObjectReader.objects c.loop-checkpoint.reader ≡ objects = c.loop-checkpoint.invariant.untouched steady in
    let begun : IsWalkOver (g.R.ObjectReader.objects c.loop-checkpoint.reader) (map string_bytes c.args.names.now) c.loop-checkpoint.walk =
    subst (λ (o : Objects). IsWalkOver o (map string_bytes c.args.names.now) c.loop-checkpoint.walk) (sym same) (over.0, c.loop-checkpoint.invariant.walk steady over) in
    rw (c.in-Over-2.is, same) at (c.in_ok-walk_on-2.ensures.readable here begun)

-- ---- a file that is too large

pub returns-in_err-walk_on-clause-large : goal.returns-in_err-walk_on-clause-large
returns-in_err-walk_on-clause-large g c = λ steady over.
    let objects = g.R.ObjectReader.objects c.args.reader.now in
    let items = c.deref-checkpoint-items.result.now in
    let i = c.loop-checkpoint.checkpoint-index in
    let x = c.checkpoint-item.result in
    let listed = are_listed c.in_ok-checkpoints.checkpoints.items items c.deref-checkpoint-items.ensures.value c.in_ok-checkpoints.ensures.own c.in_ok-checkpoints.ensures.rising in
    let all = all_listed objects (map string_bytes c.args.names.now) c.in_ok-checkpoints.checkpoints.items items over.0 c.deref-checkpoint-items.ensures.value c.in_ok-checkpoints.ensures.all in
    let here : g.R.ObjectReader.is_steady c.loop-checkpoint.reader = c.loop-checkpoint.invariant.steady steady in
    let same : g.R.ObjectReader.objects c.loop-checkpoint.reader ≡ objects = c.loop-checkpoint.invariant.untouched steady in
    let begun : IsWalkOver (g.R.ObjectReader.objects c.loop-checkpoint.reader) (map string_bytes c.args.names.now) c.loop-checkpoint.walk =
    subst (λ (o : Objects). IsWalkOver o (map string_bytes c.args.names.now) c.loop-checkpoint.walk) (sym same) (over.0, c.loop-checkpoint.invariant.walk steady over) in
    let below : AreCheckpointsSoundBelow objects x.version = below_at objects items all i x c.loop-checkpoint-test.true c.checkpoint-item.is listed (c.loop-checkpoint.invariant.seen steady over) in
    let low : AreCheckpointsSoundBelow (g.R.ObjectReader.objects c.loop-checkpoint.reader) x.version = subst (λ (o : Objects). AreCheckpointsSoundBelow o x.version) (sym same) below in
    let p = err_from_is_err_and c.from_residual-in_err-walk_on.result c.from_residual-in_err-walk_on.ensures.1 in
    rw (p.1, p.2) (subst (λ (o : Objects). TellsLargeFile o c.in_err-walk_on.field-0.0) same (c.in_err-walk_on.ensures.large here begun low))

pub returns-in_err-reason-clause-large : goal.returns-in_err-reason-clause-large
returns-in_err-reason-clause-large g c = λ steady over.
    let p = err_from_is_err_and c.from_residual-in_err-reason.result c.from_residual-in_err-reason.ensures.1 in
    rw (p.1, p.2) (none_told (g.R.ObjectReader.objects c.args.reader.now) c.in_err-reason.field-0.0 c.in_err-reason.ensures.no_file)

pub returns-in_err-walk_on-2-clause-large : goal.returns-in_err-walk_on-2-clause-large
returns-in_err-walk_on-2-clause-large g c = λ steady over.
    let objects = g.R.ObjectReader.objects c.args.reader.now in
    let items = c.deref-checkpoint-items.result.now in
    let i = c.loop-checkpoint.checkpoint-index in
    let all = all_listed objects (map string_bytes c.args.names.now) c.in_ok-checkpoints.checkpoints.items items over.0 c.deref-checkpoint-items.ensures.value c.in_ok-checkpoints.ensures.all in
    let here : g.R.ObjectReader.is_steady c.loop-checkpoint.reader = c.loop-checkpoint.invariant.steady steady in
    let same : g.R.ObjectReader.objects c.loop-checkpoint.reader ≡ objects = c.loop-checkpoint.invariant.untouched steady in
    let begun : IsWalkOver (g.R.ObjectReader.objects c.loop-checkpoint.reader) (map string_bytes c.args.names.now) c.loop-checkpoint.walk =
    subst (λ (o : Objects). IsWalkOver o (map string_bytes c.args.names.now) c.loop-checkpoint.walk) (sym same) (over.0, c.loop-checkpoint.invariant.walk steady over) in
    let low : AreCheckpointsSoundBelow (g.R.ObjectReader.objects c.loop-checkpoint.reader) greatest_version =
    subst (λ (o : Objects). AreCheckpointsSoundBelow o greatest_version) (sym same) (below_all objects items all i greatest_version c.loop-checkpoint-test.false (c.loop-checkpoint.invariant.seen steady over)) in
    let p = err_from_is_err_and c.from_residual-in_err-walk_on-2.result c.from_residual-in_err-walk_on-2.ensures.1 in
    rw (p.1, p.2) (subst (λ (o : Objects). TellsLargeFile o c.in_err-walk_on-2.field-0.0) same (c.in_err-walk_on-2.ensures.large here begun low))

-- ---- which calls were made

pub returns-in_err-checkpoints-clause-called : goal.returns-in_err-checkpoints-clause-called
returns-in_err-checkpoints-clause-called g c = reads_none g.R.ObjectReader.makes (map string_bytes c.args.names.now) _ c.args.walk.next

pub returns-in_err-walk_on-clause-called : goal.returns-in_err-walk_on-clause-called
returns-in_err-walk_on-clause-called g c =
    let items = c.deref-checkpoint-items.result.now in
    let i = c.loop-checkpoint.checkpoint-index in
    let are = all_same (map string_bytes c.args.names.now) c.in_ok-checkpoints.checkpoints.items items c.deref-checkpoint-items.ensures.value c.in_ok-checkpoints.ensures.same in
    reads_to_end g.R.ObjectReader.makes (map string_bytes c.args.names.now) _ _ (map listed_view (drop i items)) (map listed_view items) c.loop-checkpoint.walk.next c.args.walk.next are c.loop-checkpoint.invariant.called _ c.in_err-walk_on.ensures.called

pub returns-in-Over-clause-called : goal.returns-in-Over-clause-called
returns-in-Over-clause-called g c =
    let items = c.deref-checkpoint-items.result.now in
    let i = c.loop-checkpoint.checkpoint-index in
    let are = all_same (map string_bytes c.args.names.now) c.in_ok-checkpoints.checkpoints.items items c.deref-checkpoint-items.ensures.value c.in_ok-checkpoints.ensures.same in
    reads_to_end g.R.ObjectReader.makes (map string_bytes c.args.names.now) _ _ (map listed_view (drop i items)) (map listed_view items) c.loop-checkpoint.walk.next c.args.walk.next are c.loop-checkpoint.invariant.called _ c.in_ok-walk_on.ensures.called

pub returns-in_err-reason-clause-called : goal.returns-in_err-reason-clause-called
returns-in_err-reason-clause-called g c =
    let names = map string_bytes c.args.names.now in
    let items = c.deref-checkpoint-items.result.now in
    let i = c.loop-checkpoint.checkpoint-index in
    let x = c.checkpoint-item.result in
    let are = all_same names c.in_ok-checkpoints.checkpoints.items items c.deref-checkpoint-items.ensures.value c.in_ok-checkpoints.ensures.same in
    let walked = rw c.in-Behind.is at c.in_ok-walk_on.ensures.gone in
    reads_ended g.R.ObjectReader.makes names _ _ (map listed_view (drop (i + 1) items)) (map listed_view items) (suc x.version) c.args.walk.next are
    (goes_on g.R.ObjectReader.makes names _ _ _ _ (listed_view x) (map listed_view (drop i items)) (map listed_view (drop (i + 1) items)) (map listed_view items) c.loop-checkpoint.walk.next c.args.walk.next walked.0
    (suc x.version) walked.1 (here_at items i x c.loop-checkpoint-test.true c.checkpoint-item.is) c.loop-checkpoint.invariant.called walked.2 walked.3 walked.4 refl c.in_err-reason.ensures.called)

pub returns-in-Some-clause-called : goal.returns-in-Some-clause-called
returns-in-Some-clause-called g c =
    let names = map string_bytes c.args.names.now in
    let items = c.deref-checkpoint-items.result.now in
    let i = c.loop-checkpoint.checkpoint-index in
    let x = c.checkpoint-item.result in
    let are = all_same names c.in_ok-checkpoints.checkpoints.items items c.deref-checkpoint-items.ensures.value c.in_ok-checkpoints.ensures.same in
    let walked = rw c.in-Behind.is at c.in_ok-walk_on.ensures.gone in
    reads_ended g.R.ObjectReader.makes names _ _ (map listed_view (drop (i + 1) items)) (map listed_view items) (suc x.version) c.args.walk.next are
    (goes_on g.R.ObjectReader.makes names _ _ _ _ (listed_view x) (map listed_view (drop i items)) (map listed_view (drop (i + 1) items)) (map listed_view items) c.loop-checkpoint.walk.next c.args.walk.next walked.0
    (suc x.version) walked.1 (here_at items i x c.loop-checkpoint-test.true c.checkpoint-item.is) c.loop-checkpoint.invariant.called walked.2 walked.3 walked.4 refl c.in_ok-reason.ensures.called)

pub returns-in_err-walk_on-2-clause-called : goal.returns-in_err-walk_on-2-clause-called
returns-in_err-walk_on-2-clause-called g c =
    let items = c.deref-checkpoint-items.result.now in
    let i = c.loop-checkpoint.checkpoint-index in
    let are = all_same (map string_bytes c.args.names.now) c.in_ok-checkpoints.checkpoints.items items c.deref-checkpoint-items.ensures.value c.in_ok-checkpoints.ensures.same in
    reads_to_end g.R.ObjectReader.makes (map string_bytes c.args.names.now) _ _ (map listed_view (drop i items)) (map listed_view items) c.loop-checkpoint.walk.next c.args.walk.next are c.loop-checkpoint.invariant.called _ c.in_err-walk_on-2.ensures.called

pub returns-in-Behind-2-clause-called : goal.returns-in-Behind-2-clause-called
returns-in-Behind-2-clause-called g c =
    let items = c.deref-checkpoint-items.result.now in
    let i = c.loop-checkpoint.checkpoint-index in
    let are = all_same (map string_bytes c.args.names.now) c.in_ok-checkpoints.checkpoints.items items c.deref-checkpoint-items.ensures.value c.in_ok-checkpoints.ensures.same in
    reads_to_end g.R.ObjectReader.makes (map string_bytes c.args.names.now) _ _ (map listed_view (drop i items)) (map listed_view items) c.loop-checkpoint.walk.next c.args.walk.next are c.loop-checkpoint.invariant.called _ c.in_ok-walk_on-2.ensures.called

pub returns-clause-called : goal.returns-clause-called
returns-clause-called g c =
    let items = c.deref-checkpoint-items.result.now in
    let i = c.loop-checkpoint.checkpoint-index in
    let are = all_same (map string_bytes c.args.names.now) c.in_ok-checkpoints.checkpoints.items items c.deref-checkpoint-items.ensures.value c.in_ok-checkpoints.ensures.same in
    reads_to_end g.R.ObjectReader.makes (map string_bytes c.args.names.now) _ _ (map listed_view (drop i items)) (map listed_view items) c.loop-checkpoint.walk.next c.args.walk.next are c.loop-checkpoint.invariant.called _ c.in_ok-walk_on-2.ensures.called
