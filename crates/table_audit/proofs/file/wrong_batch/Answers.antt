use Rattle.std.proofs.Common.{sym, ◌≡◌, Bool, true, false, not, ℕ, List, string_bytes, ap, subst, ◌∙◌, inr, refl}
use Rattle.std.specs.Str.{bytes_eq}
use Rattle.std.proofs.lemmas.Result.{IfErr-weaker, IfOk-weaker}
use Rattle.std.proofs.lemmas.Slice.Eq.{bytes_eq-Decides}
use Rattle.delta_actions.specs.Action.{add_view}
use Rattle.delta_actions.specs.Names.{data_file_name}
use Rattle.row_core.specs.Rows.{Row}
use Rattle.schema_tree.specs.Schema.{tree_of}
use Rattle.table_store.specs.Holds.{Stands}
use Rattle.table_store.specs.Schema.{IsFileOf}
use Rattle.table_audit.specs.Entries.{HasFile}
use Rattle.table_audit.specs.LargeFiles.{AreSmall, IsToHold, TellsLarge}
use Rattle.table_audit.specs.Reasons.{IsNoBatch, IsNoFile}
use Rattle.table_audit.specs.declared.reason.Reason.{Reason}
use Rattle.table_audit.proofs.GroupParts.{none_weaker, some_each, some_weaker}
use Rattle.table_audit.proofs.ReasonParts.{batch_by_file}
use Rattle.table_audit.proofs.CallParts.{if_none}
use Rattle.table_audit.proofs.LargeParts.{large_named}
use Rattle.table_audit.proofs.SmallParts.{small_named}
use Rattle.table_audit.proofs.TraceParts.{read_named}
use Rattle.table_audit.proofs.file.wrong_batch.Given as given
use Rattle.table_audit.proofs.file.wrong_batch.Goals as goal
use Rattle.table_audit.proofs.file.wrong_batch.Goals.{After-drop-name-2}

pub returns-clause-breaks : goal.returns-clause-breaks
returns-clause-breaks g c = λ steady.
    let t = c.args.txn.now in
    let objects = g.R.ObjectReader.objects c.args.reader.now in
    let schema = tree_of c.args.schema.now in
    let name : c.deref-2.result.now ≡ data_file_name (string_bytes t.app_id) t.version =
    c.deref-2.ensures ∙ c.in_ok-name.ensures ∙ ap (λ (application : List ℕ). data_file_name application t.version) c.deref.ensures in
    let P : Type 0 = (rows : List Row) → Stands objects c.deref-2.result.now (λ bytes. IsFileOf schema bytes rows) → ⊥ in
    let Q : Type 0 = (add_view c.args.add.now).path.key ≡ data_file_name (string_bytes t.app_id) t.version → c.args.add.now.data_change ≡ true → HasFile objects schema (string_bytes t.app_id, t.version) → ⊥ in
    IfOk-weaker c.wrong_file.result _ _ (λ o none. some_weaker P Q (λ never key new has. never has.0 (rw name has.1)) o none) (c.wrong_file.ensures.breaks steady)

pub returns-clause-why : goal.returns-clause-why
returns-clause-why g c = λ steady.
    let t = c.args.txn.now in
    let objects = g.R.ObjectReader.objects c.args.reader.now in
    let schema = tree_of c.args.schema.now in
    let file = add_view c.args.add.now in
    let name : c.deref-2.result.now ≡ data_file_name (string_bytes t.app_id) t.version =
    c.deref-2.ensures ∙ c.in_ok-name.ensures ∙ ap (λ (application : List ℕ). data_file_name application t.version) c.deref.ensures in
    let P : Reason → Type 0 = IsNoFile objects schema c.deref-2.result.now in
    let Q : Reason → Type 0 = IsNoBatch objects schema (string_bytes t.app_id, t.version) file in
    IfOk-weaker c.wrong_file.result _ _
    (λ o why. some_each P Q (λ reason is. batch_by_file objects schema (string_bytes t.app_id, t.version) file reason (subst (λ (text : List ℕ). IsNoFile objects schema text reason) name is)) o why) (c.wrong_file.ensures.why steady)

not_not : (b : Bool) → not b ≡ false → b ≡ true
not_not true e = refl
not_not false e = absurd cc

-- the file that was read is the one that is added
same_name : (g : given.Over) (c : After-drop-name-2 g) → c.deref-2.result.now ≡ (add_view c.args.add.now).path.key
same_name g c =
    let texts : bytes_eq c.as_str.result.now c.as_str-else-not-add.result.now ≡ true = not_not _ (sym c.ne.ensures ∙ c.if-ne.false) in
    let same : c.as_str.result.now ≡ c.as_str-else-not-add.result.now = (bytes_eq-Decides c.as_str.result.now c.as_str-else-not-add.result.now).0 texts in
    c.deref-2.ensures ∙ (sym c.as_str-else-not-add.ensures.value ∙ (sym same ∙ (c.as_str.ensures.value ∙ c.in_ok-key.ensures)))

pub returns-clause-large : goal.returns-clause-large
returns-clause-large g c = λ steady.
    let t = c.args.txn.now in
    let objects = g.R.ObjectReader.objects c.args.reader.now in
    let schema = tree_of c.args.schema.now in
    let name : c.deref-2.result.now ≡ data_file_name (string_bytes t.app_id) t.version =
    c.deref-2.ensures ∙ c.in_ok-name.ensures ∙ ap (λ (application : List ℕ). data_file_name application t.version) c.deref.ensures in
    let P : List ℕ → Type 0 = λ told. told ≡ c.deref-2.result.now in
    let Q : List ℕ → Type 0 = IsToHold (string_bytes t.app_id, t.version) (add_view c.args.add.now) in
    let holds : (told : List ℕ) → P told → Q told = λ told is. (sym (is ∙ same_name g c), sym (is ∙ name)) in
    IfErr-weaker c.wrong_file.result (TellsLarge objects schema c.args.version P) (TellsLarge objects schema c.args.version Q) (large_named objects schema c.args.version P Q holds) (c.wrong_file.ensures.large steady)

pub returns-clause-called : goal.returns-clause-called
returns-clause-called g c = inr (read_named g.R.ObjectReader.makes _ _ _ _ _ (same_name g c) c.wrong_file.ensures.called.1)

pub returns-clause-read : goal.returns-clause-read
returns-clause-read g c = if_none _ c.wrong_file.result (read_named g.R.ObjectReader.makes _ _ _ _ _ (same_name g c) c.wrong_file.ensures.called.1)

pub returns-clause-small : goal.returns-clause-small
returns-clause-small g c = λ steady.
    let t = c.args.txn.now in
    let objects = g.R.ObjectReader.objects c.args.reader.now in
    let schema = tree_of c.args.schema.now in
    let name : c.deref-2.result.now ≡ data_file_name (string_bytes t.app_id) t.version =
    c.deref-2.ensures ∙ c.in_ok-name.ensures ∙ ap (λ (application : List ℕ). data_file_name application t.version) c.deref.ensures in
    let P : List ℕ → Type 0 = λ told. told ≡ c.deref-2.result.now in
    let Q : List ℕ → Type 0 = IsToHold (string_bytes t.app_id, t.version) (add_view c.args.add.now) in
    let named : (told : List ℕ) → Q told → P told = λ told is. sym is.1 ∙ sym name in
    IfOk-weaker c.wrong_file.result _ _ (λ o small. none_weaker (AreSmall objects schema P) (AreSmall objects schema Q) (small_named objects schema P Q named) o small) (c.wrong_file.ensures.small steady)
