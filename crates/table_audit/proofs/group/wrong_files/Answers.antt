use Rattle.std.proofs.Common.{◌≡◌, ◌<◌, ◌+◌, ◌++◌, ◌∷◌, [], List, ℕ, Bor, length, get_or, map, take, refl, sym, ap, subst, ◌∙◌, arith}
use Rattle.std.specs.List.{AllByRecursion}
use Rattle.std.proofs.lemmas.List.{get_or-map, length-map, take_all}
use Rattle.std.proofs.lemmas.Result.{err_from_is_err_and}
use Rattle.delta_actions.specs.Action.{AddAction}
use Rattle.delta_actions.specs.Names.{data_file_name}
use Rattle.delta_actions.specs.declared.action.Add.{Add}
use Rattle.delta_actions.specs.declared.action.Txn.{Txn}
use Rattle.schema_tree.specs.Schema.{tree_of}
use Rattle.table_store.specs.Groups.{AreFilesOf}
use Rattle.table_store.proofs.GroupLemmas.{all_push, files_count, files_push, map_turn}
use Rattle.store_core.specs.Objects.{Objects}
use Rattle.table_audit.specs.Entries.{HasFile}
use Rattle.table_audit.proofs.GroupParts.{all_at, file_at, file_of, number_of}
use Rattle.table_audit.proofs.ReasonParts.{one_no_file}
use Rattle.table_audit.specs.Audits.{names_of_files}
use Rattle.table_audit.specs.LargeFiles.{AreSmall, AreToHold, IsToHold, TellsLarge}
use Rattle.table_audit.specs.Reasons.{AreTogether}
use Rattle.table_audit.proofs.CallParts.{front_none}
use Rattle.table_audit.proofs.LargeParts.{large_named}
use Rattle.table_audit.proofs.SmallParts.{HasSmall, all_small}
use Rattle.table_audit.proofs.TraceParts.{front_more, turn_more}
use Rattle.table_audit.proofs.group.wrong_files.Goals as goal

low_name : (adds : List (Bor Add)) (i : ℕ) → i < length adds → i < length (names_of_files (map file_of adds))
low_name adds i more = omega (arith, more, length-map adds file_of, length-map (map file_of adds) (λ (file : AddAction). file.path.key))

key_at : (adds : List (Bor Add)) (i : ℕ) (y : Bor Add) → i < length adds → y ≡ get_or adds i y → (file_of y).path.key ≡ get_or (names_of_files (map file_of adds)) i (file_of y).path.key
key_at adds i y more at =
    ap (λ (a : Bor Add). (file_of a).path.key) at
    ∙ (sym (ap (λ (file : AddAction). file.path.key) (get_or-map file_of adds i y (file_of y) more))
    ∙ sym (get_or-map (λ (file : AddAction). file.path.key) (map file_of adds) i (file_of y) (file_of y).path.key (omega (arith, more, length-map adds file_of))))

-- what stands in one place of both
together : (txns : List (Bor Txn)) (adds : List (Bor Add)) (i : ℕ) (x : Bor Txn) (y : Bor Add) → i < length txns → length txns ≡ length adds → x ≡ get_or txns i x → y ≡ get_or adds i y
    → AreTogether (map number_of txns) (map file_of adds) (number_of x) (file_of y)
together txns adds i x y low count at_x at_y = (
  i,
  omega (arith, low, length-map txns number_of),
  omega (arith, low, count, length-map adds file_of),
  ap number_of at_x ∙ sym (get_or-map number_of txns i x (number_of x) low),
  ap file_of at_y ∙ sym (get_or-map file_of adds i y (file_of y) (omega (arith, low, count))),
)

pub returns-then-txns-adds-clause-breaks : goal.returns-then-txns-adds-clause-breaks
returns-then-txns-adds-clause-breaks g c = λ steady have.
    c.if-txns-adds.true (sym (length-map c.args.txns.now number_of) ∙ (files_count _ _ have.0 ∙ length-map c.args.adds.now file_of))

pub returns-in-Some-clause-breaks : goal.returns-in-Some-clause-breaks
returns-in-Some-clause-breaks g c = λ steady have.
    let txns = c.args.txns.now in
    let adds = c.args.adds.now in
    let i = c.loop-i.i in
    let x = c.index-txns-i.result in
    let y = c.index-adds-i.result in
    let objects = g.R.ObjectReader.objects c.args.reader.now in
    let schema = tree_of c.args.schema.now in
    let n = number_of x in
    let file = file_of y in
    let count : length txns ≡ length adds = sym (length-map txns number_of) ∙ (files_count _ _ have.0 ∙ length-map adds file_of) in
    let at_n : n ≡ get_or (map number_of txns) i n = ap number_of c.index-txns-i.is ∙ sym (get_or-map number_of txns i x n (omega (arith, c.loop-i-test.true))) in
    let at_file : file ≡ get_or (map file_of adds) i file = ap file_of c.index-adds-i.is ∙ sym (get_or-map file_of adds i y file (omega (arith, c.loop-i-test.true, count))) in
    let low : i < length (map number_of txns) = omega (arith, c.loop-i-test.true, length-map txns number_of) in
    let key = file_at (map number_of txns) (map file_of adds) i n file have.0 low at_n at_file in
    let has : HasFile objects schema n = all_at (HasFile objects schema) (map number_of txns) i n have.1 low at_n in
    let left = c.loop-i.invariant.untouched steady in
    (rw (c.in-Some.is, left) at (c.in_ok-reason.ensures.breaks (c.loop-i.invariant.steady steady))) key.0 key.1 has

pub loop-i-preserved : goal.loop-i-preserved
loop-i-preserved g c =
    let txns = c.args.txns.now in
    let adds = c.args.adds.now in
    let i = c.loop-i.i in
    let x = c.index-txns-i.result in
    let y = c.index-adds-i.result in
    let objects = g.R.ObjectReader.objects c.args.reader.now in
    let schema = tree_of c.args.schema.now in
    let n = number_of x in
    let file = file_of y in
    let count : length txns ≡ length adds = omega (arith, c.if-txns-adds.false) in
    let seen_n = map_turn number_of txns i (i + 1) x (omega (arith, c.loop-i-test.true)) refl c.index-txns-i.is in
    let seen_f = map_turn file_of adds i (i + 1) y (omega (arith, c.loop-i-test.true, count)) refl c.index-adds-i.is in
    let more_f : i < length adds = omega (arith, c.loop-i-test.true, count) in
    let named = rw c.in_default.is at c.in_ok-reason.ensures.named in
    let new_rows = rw c.in_default.is at c.in_ok-reason.ensures.new_rows in
    record {
      untouched = λ steady. c.wrong_batch.ensures.untouched (c.loop-i.invariant.steady steady) ∙ c.loop-i.invariant.untouched steady;
      steady = λ steady. c.wrong_batch.ensures.steady (c.loop-i.invariant.steady steady);
      reliable = λ reliable. c.wrong_batch.ensures.reliable (c.loop-i.invariant.reliable reliable);
      called = turn_more g.R.ObjectReader.makes _ _ _ (names_of_files (map file_of adds)) i (file_of y).path.key (low_name adds i more_f) (key_at adds i y more_f c.index-adds-i.is) c.loop-i.invariant.called (rw c.in_default.is at c.in_ok-reason.ensures.read);
      named = subst (λ (ms : List (List ℕ × ℕ)). AreFilesOf ms (map file_of (take (i + 1) adds))) (sym seen_n)
          (subst (λ (fs : List AddAction). AreFilesOf (map number_of (take i txns) ++ n ∷ []) fs) (sym seen_f) (files_push (map number_of (take i txns)) (map file_of (take i adds)) n file c.loop-i.invariant.named named new_rows));
      stand = λ steady.
          let left = c.loop-i.invariant.untouched steady in
          let has : HasFile objects schema n = rw (c.in_default.is, left) at (c.in_ok-reason.ensures.stands (c.loop-i.invariant.steady steady)) in
          subst (AllByRecursion (HasFile objects schema)) (sym seen_n) (all_push (HasFile objects schema) (map number_of (take i txns)) n (c.loop-i.invariant.stand steady) has);
      small = λ steady.
          let left = c.loop-i.invariant.untouched steady in
          let none : AreSmall objects schema (IsToHold n file) = rw (c.in_default.is, left) at (c.in_ok-reason.ensures.small (c.loop-i.invariant.steady steady)) in
          let one : HasSmall objects schema n = none (data_file_name n.0 n.1) (named, refl) in
          subst (AllByRecursion (HasSmall objects schema)) (sym seen_n) (all_push (HasSmall objects schema) (map number_of (take i txns)) n (c.loop-i.invariant.small steady) one);
    }

pub returns-clause-stand : goal.returns-clause-stand
returns-clause-stand g c = λ steady.
    let txns = c.args.txns.now in
    let adds = c.args.adds.now in
    let objects = g.R.ObjectReader.objects c.args.reader.now in
    let schema = tree_of c.args.schema.now in
    let count : length txns ≡ length adds = omega (arith, c.if-txns-adds.false) in
    let all_n : take c.loop-i.i txns ≡ txns = take_all c.loop-i.i txns (omega (arith, c.loop-i-test.false)) in
    let all_f : take c.loop-i.i adds ≡ adds = take_all c.loop-i.i adds (omega (arith, c.loop-i-test.false, count)) in (
      subst (λ (ts : List (Bor Txn)). AreFilesOf (map number_of ts) (map file_of adds)) all_n (subst (λ (files : List (Bor Add)). AreFilesOf (map number_of (take c.loop-i.i txns)) (map file_of files)) all_f c.loop-i.invariant.named),
      subst (λ (ts : List (Bor Txn)). AllByRecursion (HasFile objects schema) (map number_of ts)) all_n (c.loop-i.invariant.stand steady),
    )

pub returns-then-txns-adds-clause-why : goal.returns-then-txns-adds-clause-why
returns-then-txns-adds-clause-why g c = λ steady. (refl, λ same. c.if-txns-adds.true (sym (length-map c.args.txns.now number_of) ∙ (same ∙ length-map c.args.adds.now file_of)))

pub returns-in-Some-clause-why : goal.returns-in-Some-clause-why
returns-in-Some-clause-why g c = λ steady.
    let txns = c.args.txns.now in
    let adds = c.args.adds.now in
    let i = c.loop-i.i in
    let x = c.index-txns-i.result in
    let y = c.index-adds-i.result in
    let objects = g.R.ObjectReader.objects c.args.reader.now in
    let count : length txns ≡ length adds = omega (arith, c.if-txns-adds.false) in
    let left = c.loop-i.invariant.untouched steady in
    one_no_file objects (tree_of c.args.schema.now) c.args.version (map number_of txns) (map file_of adds) (number_of x) (file_of y) c.in-Some.reason
    (together txns adds i x y (omega (arith, c.loop-i-test.true)) count c.index-txns-i.is c.index-adds-i.is) (rw (c.in-Some.is, left) at (c.in_ok-reason.ensures.why (c.loop-i.invariant.steady steady)))

pub returns-in_err-reason-clause-large : goal.returns-in_err-reason-clause-large
returns-in_err-reason-clause-large g c = λ steady.
    let txns = c.args.txns.now in
    let adds = c.args.adds.now in
    let x = c.index-txns-i.result in
    let y = c.index-adds-i.result in
    let objects = g.R.ObjectReader.objects c.args.reader.now in
    let schema = tree_of c.args.schema.now in
    let version = c.args.version in
    let count : length txns ≡ length adds = omega (arith, c.if-txns-adds.false) in
    let both = together txns adds c.loop-i.i x y (omega (arith, c.loop-i-test.true)) count c.index-txns-i.is c.index-adds-i.is in
    let p = err_from_is_err_and c.from_residual.result c.from_residual.ensures.1 in
    let P : List ℕ → Type 0 = IsToHold (number_of x) (file_of y) in
    let Q : List ℕ → Type 0 = AreToHold (map number_of txns) (map file_of adds) in
    let told = subst (λ (o : Objects). TellsLarge o schema version P c.in_err-reason.field-0.0) (c.loop-i.invariant.untouched steady) (c.in_err-reason.ensures.large (c.loop-i.invariant.steady steady)) in
    rw (p.1, p.2) (large_named objects schema version P Q (λ name is. (number_of x, file_of y, both, is)) _ told)

-- ---- which files were read

pub loop-i-init : goal.loop-i-init
loop-i-init g c = record {
  untouched = λ steady. refl;
  steady = λ steady. steady;
  reliable = λ reliable. reliable;
  named = tt;
  called = ([], refl, refl);
  stand = λ steady. tt;
  small = λ steady. tt;
}

pub returns-then-txns-adds-clause-called : goal.returns-then-txns-adds-clause-called
returns-then-txns-adds-clause-called g c = ([], refl, front_none _)

pub returns-in_err-reason-clause-called : goal.returns-in_err-reason-clause-called
returns-in_err-reason-clause-called g c =
    let adds = c.args.adds.now in
    let i = c.loop-i.i in
    let y = c.index-adds-i.result in
    let count : length c.args.txns.now ≡ length adds = omega (arith, c.if-txns-adds.false) in
    let more : i < length adds = omega (arith, c.loop-i-test.true, count) in
    front_more g.R.ObjectReader.makes _ _ _ (names_of_files (map file_of adds)) i (file_of y).path.key (low_name adds i more) (key_at adds i y more c.index-adds-i.is) c.loop-i.invariant.called c.in_err-reason.ensures.called

pub returns-in-Some-clause-called : goal.returns-in-Some-clause-called
returns-in-Some-clause-called g c =
    let adds = c.args.adds.now in
    let i = c.loop-i.i in
    let y = c.index-adds-i.result in
    let count : length c.args.txns.now ≡ length adds = omega (arith, c.if-txns-adds.false) in
    let more : i < length adds = omega (arith, c.loop-i-test.true, count) in
    front_more g.R.ObjectReader.makes _ _ _ (names_of_files (map file_of adds)) i (file_of y).path.key (low_name adds i more) (key_at adds i y more c.index-adds-i.is) c.loop-i.invariant.called c.in_ok-reason.ensures.called

pub returns-clause-called : goal.returns-clause-called
returns-clause-called g c = let called = c.loop-i.invariant.called in (called.0, called.1, (c.loop-i.i, called.2))

-- ---- no file is too large

pub returns-clause-small : goal.returns-clause-small
returns-clause-small g c = λ steady.
    let txns = c.args.txns.now in
    let objects = g.R.ObjectReader.objects c.args.reader.now in
    let schema = tree_of c.args.schema.now in
    let all_n : take c.loop-i.i txns ≡ txns = take_all c.loop-i.i txns (omega (arith, c.loop-i-test.false)) in
    all_small objects schema (map number_of txns) (map file_of c.args.adds.now) (subst (λ (ts : List (Bor Txn)). AllByRecursion (HasSmall objects schema) (map number_of ts)) all_n (c.loop-i.invariant.small steady))
