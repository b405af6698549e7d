-- A group that may follow, in terms of the numbers and the files of its actions.
use Rattle.std.proofs.Common.{◌≡◌, ℕ, ◌<◌, zero, suc, true, List, [], ◌∷◌, Bor, Option, None, Some, IfSome, length, get_or, map, string_bytes, refl, sym, ap, subst, ◌∙◌, arith}
use Rattle.std.specs.List.{AllByRecursion}
use Rattle.std.specs.Option.{IfNone}
use Rattle.delta_actions.specs.Action as actions
use Rattle.delta_actions.specs.Action.{AddAction, TxnAction, add_view, txn_view}
use Rattle.delta_actions.specs.Names.{data_file_name}
use Rattle.delta_actions.specs.declared.action.Add.{Add}
use Rattle.delta_actions.specs.declared.action.Txn.{Txn}
use Rattle.store_core.specs.Objects.{Objects}
use Rattle.table_check.specs.Following.{AreNewIn, MayFollow}
use Rattle.table_model.specs.Table.{Batch, Entry, creation, group, close}
use Rattle.table_store.specs.Commits.{IsClose, StandFor}
use Rattle.table_store.specs.Groups.{AreFilesOf, AreTxnsAndAdds, added, numbers}
use Rattle.table_store.specs.Holds.{FileStands, FilesStand}
use Rattle.table_store.specs.Schema.{Schema}
use Rattle.table_store.proofs.Callers.{files_stand, given_batches}
use Rattle.table_audit.specs.Entries.{EntryFollows, GroupFollows, HasFile, HaveFiles}

-- the application and the number of a `txn`
abbrev pub number_of : Bor Txn → List ℕ × ℕ
number_of t = (string_bytes t.now.app_id, t.now.version)

-- the file of an `add`
abbrev pub file_of : Bor Add → AddAction
file_of a = add_view a.now

-- the application and the number of a batch
abbrev named : Batch → List ℕ × ℕ
named b = (b.application, b.number)

-- the numbers of `txn` actions, seen through what contracts see of them
pub seen_numbers : (ts : List (Bor Txn)) → map {A = TxnAction} {B = List ℕ × ℕ} (λ t. (t.app_id, t.version)) (map (λ t. txn_view t.now) ts) ≡ map number_of ts
seen_numbers [] = refl
seen_numbers (t ∷ ts) = ap (λ (ns : List (List ℕ × ℕ)). number_of t ∷ ns) (seen_numbers ts)

module _ (objects : Objects) (schema : Schema) where
  -- numbers whose files stand are those of batches whose files stand
  batches_of_numbers : (ns : List (List ℕ × ℕ)) → AllByRecursion (HasFile objects schema) ns → (bs : List Batch) × (ns ≡ map named bs) × AllByRecursion (FileStands objects schema) bs
  batches_of_numbers [] all = ([], refl, tt)
  batches_of_numbers (n ∷ ns) all =
      let more = batches_of_numbers ns all.1 in
      (record { application = n.0; number = n.1; rows = all.0.0 } ∷ more.0, ap (λ (ms : List (List ℕ × ℕ)). n ∷ ms) more.1, (all.0.1, more.2))

  files_of_batches : (bs : List Batch) → AllByRecursion (FileStands objects schema) bs → AllByRecursion (HasFile objects schema) (map named bs)
  files_of_batches [] all = tt
  files_of_batches (b ∷ bs) all = ((b.rows, all.0), files_of_batches bs all.1)

  module _ (log : List (List actions.Action)) (beside : List actions.Action) where
    -- actions whose numbers are new and have their files are a group that may follow
    pub group_follows : AreTxnsAndAdds beside → HaveFiles objects schema (numbers beside) (added beside) → AreNewIn log (numbers beside) → GroupFollows objects schema log beside
    group_follows only have new =
        let found = batches_of_numbers (numbers beside) have.1 in
        record {
          bs = found.0;
          stand = record { only = only; numbered = found.1; files = have.0 };
          files = found.2;
          new = subst (AreNewIn log) found.1 new;
        }

    pub group_has : GroupFollows objects schema log beside → HaveFiles objects schema (numbers beside) (added beside)
    group_has g = (g.stand.files, subst (AllByRecursion (HasFile objects schema)) (sym g.stand.numbered) (files_of_batches g.bs g.files))

    pub group_new : GroupFollows objects schema log beside → AreNewIn log (numbers beside)
    group_new g = subst (AreNewIn log) (sym g.stand.numbered) g.new

    -- seen through the numbers and the files that were picked
    module _ (ns : List (List ℕ × ℕ)) (files : List AddAction) (are_ns : numbers beside ≡ ns) (are_files : added beside ≡ files) where
      here : HaveFiles objects schema ns files → HaveFiles objects schema (numbers beside) (added beside)
      here have = subst (λ (ms : List (List ℕ × ℕ)). HaveFiles objects schema ms (added beside)) (sym are_ns) (subst (HaveFiles objects schema ns) (sym are_files) have)

      there : HaveFiles objects schema (numbers beside) (added beside) → HaveFiles objects schema ns files
      there have = subst (HaveFiles objects schema ns) are_files (subst (λ (ms : List (List ℕ × ℕ)). HaveFiles objects schema ms (added beside)) are_ns have)

      pub follows_picked : AreTxnsAndAdds beside → AreNewIn log ns → HaveFiles objects schema ns files → GroupFollows objects schema log beside
      follows_picked only new have = group_follows only (here have) (subst (AreNewIn log) (sym are_ns) new)

      pub no_files_picked : (HaveFiles objects schema ns files → ⊥) → GroupFollows objects schema log beside → ⊥
      no_files_picked none g = none (there (group_has g))

      pub none_new_picked : (AreNewIn log ns → ⊥) → GroupFollows objects schema log beside → ⊥
      none_new_picked none g = none (subst (AreNewIn log) are_ns (group_new g))

    -- ---- entries

    pub follows_group : GroupFollows objects schema log beside → EntryFollows objects schema log beside
    follows_group g = record { entry = group g.bs; stand = g.stand; files = files_stand objects schema (group g.bs) g.files; may = g.new }

    pub follows_close : (application : List ℕ) → IsClose application beside → EntryFollows objects schema log beside
    follows_close application is = record { entry = close application; stand = is; files = files_stand objects schema (close application) tt; may = tt }

    by_entry : (entry : Entry) → StandFor schema entry beside → FilesStand objects schema entry → MayFollow log entry → ((application : List ℕ) → IsClose application beside → ⊥) → (GroupFollows objects schema log beside → ⊥) → ⊥
    by_entry creation stand files may no_close no_group = may
    by_entry (group bs) stand files may no_close no_group = no_group (record { bs = bs; stand = stand; files = given_batches objects schema bs files.given; new = may })
    by_entry (close application) stand files may no_close no_group = no_close application stand

    pub follows_none : ((application : List ℕ) → IsClose application beside → ⊥) → (GroupFollows objects schema log beside → ⊥) → EntryFollows objects schema log beside → ⊥
    follows_none no_close no_group f = by_entry f.entry f.stand f.files f.may no_close no_group

-- ---- numbers and files, place by place

pub all_at : {A : Type 0} (P : A → Type 0) (xs : List A) (i : ℕ) (x : A) → AllByRecursion P xs → i < length xs → x ≡ get_or xs i x → P x
all_at P [] i x all more at = absurd (omega (arith, more))
all_at P (y ∷ xs) zero x all more at = subst P (sym at) all.0
all_at P (y ∷ xs) (suc i) x all more at = all_at P xs i x all.1 (omega (arith, more)) at

pub file_at : (ns : List (List ℕ × ℕ)) (files : List AddAction) (i : ℕ) (n : List ℕ × ℕ) (file : AddAction) → AreFilesOf ns files → i < length ns → n ≡ get_or ns i n → file ≡ get_or files i file
    → (file.path.key ≡ data_file_name n.0 n.1) × (file.data_change ≡ true)
file_at [] files i n file are more at at_file = absurd (omega (arith, more))
file_at (m ∷ ns) [] i n file are more at at_file = absurd are
file_at (m ∷ ns) (f ∷ files) zero n file are more at at_file = (
  ap (λ (x : AddAction). x.path.key) at_file ∙ (are.0 ∙ ap (λ (k : List ℕ × ℕ). data_file_name k.0 k.1) (sym at)),
  ap (λ (x : AddAction). x.data_change) at_file ∙ are.1,
)
file_at (m ∷ ns) (f ∷ files) (suc i) n file are more at at_file = file_at ns files i n file are.2 (omega (arith, more)) at at_file

-- ---- what was answered

pub none_weaker : {A : Type 0} (P Q : Type 0) → (P → Q) → (o : Option A) → IfNone o P → IfNone o Q
none_weaker P Q follows None p = follows p
none_weaker P Q follows (Some x) p = tt

pub some_each : {A : Type 0} (P Q : A → Type 0) → ((x : A) → P x → Q x) → (o : Option A) → IfSome o P → IfSome o Q
some_each P Q follows None p = tt
some_each P Q follows (Some x) p = follows x p

pub some_weaker : {A : Type 0} (P Q : Type 0) → (P → Q) → (o : Option A) → IfSome o (λ x. P) → IfSome o (λ x. Q)
some_weaker P Q follows None p = tt
some_weaker P Q follows (Some x) p = follows p
