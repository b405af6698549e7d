-- Where a store keeps a table, reads one after another hand out the table's rows.
use Rattle.std.proofs.Common.{◌≡◌, ℕ, ◌<◌, true, false, List, [], ◌∷◌, ◌++◌, length, map, take, Result, Ok, Err, IsOk, refl, sym, ap, subst, ◌∙◌, arith}
use Rattle.std.proofs.lemmas.List.{append-nil, map-append}
use Rattle.schema_tree.specs.Tree.{Tree}
use Rattle.store_core.specs.Objects.{Objects}
use Rattle.row_core.specs.Rows.{Row}
use Rattle.table_model.specs.Table.{Entry, rows}
use Rattle.table_model.specs.Reads.{Answer, handed, beyond, bad_place, position, is_offset, read}
use Rattle.table_model.specs.Resumed as resumed
use Rattle.table_model.specs.Resumed.{reads_on, growth, beginning}
use Rattle.table_model.specs.declared.reading.Offset.{Offset}
use Rattle.table_model.proofs.Callers.{beginning_is_offset, is_answered}
use Rattle.table_model.proofs.Callers.{final_grows, log_from_beginning, onward_in_the_log, all_after_short}
use Rattle.table_log.specs.Versions.{Version, versions_of, commit}
use Rattle.log_reading.specs.FromCheckpoints.{no_start}
use Rattle.log_reading.specs.InForce.{SchemaText}
use Rattle.source_core.specs.Tailing.{ReadRows, ReadRefusal, handed_by, read_by, schema_for, beyond_log, bad_place as bad_place_told}
use Rattle.source_core.specs.Tails.{Tails, rows_handed, offset_after, with_earlier_rows, tails, HandOutTheLog, HandOutAll, AreAnswered}
use Rattle.read_laws.specs.Kept.{KeepsTable}
use Rattle.read_laws.proofs.KeptLog.{made_of, are_made}
use Rattle.read_laws.proofs.KeptVersions.{versions_kept}
use Rattle.read_laws.proofs.KeptTail.{IsTold, kept_plain, handed_told}

-- the store answers what the table answers
abbrev pub IsRead : Result ReadRows ReadRefusal → Answer → Type 0
IsRead answered (handed out next) = answered ≡ Ok (record { rows = out; next = next })
IsRead answered (beyond next) = answered ≡ Err (beyond_log next)
IsRead answered (bad_place version) = answered ≡ Err (bad_place_told version)

-- each read over the objects answers what the table answers
abbrev pub ReadsAs : Objects → List Entry → Type 0
ReadsAs objects entries = (max : ℕ) (place : Offset) → IsRead (read_by false objects max place) (read max place entries)

-- ---- one read

-- it hands out the rows that the table hands out
rows_as : (answered : Result ReadRows ReadRefusal) (answer : Answer) → IsRead answered answer → rows_handed answered ≡ resumed.answer_rows answer
rows_as answered (handed out next) is = rw is refl
rows_as answered (beyond next) is = rw is refl
rows_as answered (bad_place version) is = rw is refl

-- and its next read begins where the table's does
next_as : (place : Offset) (answered : Result ReadRows ReadRefusal) (answer : Answer) → IsRead answered answer → offset_after place answered ≡ resumed.next_after place answer
next_as place answered (handed out next) is = rw is refl
next_as place answered (beyond next) is = rw is refl
next_as place answered (bad_place version) is = rw is refl

-- where the table hands out rows, the read isn't refused
handed_is_answered : (answered : Result ReadRows ReadRefusal) (answer : Answer) (out : List Row) (next : Offset) → IsRead answered answer → answer ≡ handed out next → IsOk answered
handed_is_answered answered answer out next is e =
    let there : IsRead answered (handed out next) = subst (λ (a : Answer). IsRead answered a) e is in
    rw there refl

-- ---- several reads

-- the same reads of a table that doesn't grow
abbrev still : List ℕ → List (ℕ × List Entry)
still limits = map (λ max. (max, [])) limits

-- such a table grows by nothing
growth_still : (limits : List ℕ) → growth (still limits) ≡ []
growth_still [] = refl
growth_still (max ∷ limits) = growth_still limits

-- and is in the end what it was
final_still : (limits : List ℕ) (place : Offset) (entries : List Entry) → (reads_on (still limits) place entries).final ≡ entries
final_still limits place entries = final_grows (still limits) place entries ∙ ap (λ (es : List Entry). entries ++ es) (growth_still limits) ∙ append-nil entries

-- the first of such reads, and those behind it
reads_on_still : (max : ℕ) (limits : List ℕ) (place : Offset) (entries : List Entry)
    → reads_on (still (max ∷ limits)) place entries ≡ resumed.with_earlier (resumed.answer_rows (read max place entries)) (reads_on (still limits) (resumed.next_after place (read max place entries)) entries)
reads_on_still max limits place entries =
    ap (λ (es : List Entry). resumed.with_earlier (resumed.answer_rows (read max place es)) (reads_on (still limits) (resumed.next_after place (read max place es)) es)) (append-nil entries)

-- reads over objects hand out what reads of the table hand out
record AreSame (all : Tails) (said : resumed.ResumedReads) : Type 0 where
  rows : all.rows ≡ said.out
  next : all.next ≡ said.next

-- the same rows in front leave them the same
earlier_same : (rows out : List Row) (all : Tails) (said : resumed.ResumedReads) → rows ≡ out → AreSame all said → AreSame (with_earlier_rows rows all) (resumed.with_earlier out said)
earlier_same rows out all said is same = record { rows = rw (is, same.rows) refl; next = same.next }

module _ (objects : Objects) (entries : List Entry) (reads : ReadsAs objects entries) where
  -- reads over objects hand out what those of the table do
  all_same : (limits : List ℕ) (place : Offset) → AreSame (tails objects limits place) (reads_on (still limits) place entries)
  unfolding tails
  all_same [] place = record { rows = refl; next = refl }
  all_same (max ∷ limits) place =
      let answered = read_by false objects max place in
      let answer = read max place entries in
      let later : AreSame (tails objects limits (offset_after place answered)) (reads_on (still limits) (resumed.next_after place answer) entries) =
      subst (λ (p : Offset). AreSame (tails objects limits (offset_after place answered)) (reads_on (still limits) p entries)) (next_as place answered answer (reads max place)) (all_same limits (offset_after place answered)) in
      let all = earlier_same (rows_handed answered) (resumed.answer_rows answer) (tails objects limits (offset_after place answered)) (reads_on (still limits) (resumed.next_after place answer) entries) (rows_as answered answer (reads max place)) later in
      subst (λ (h : resumed.ResumedReads). AreSame (tails objects (max ∷ limits) place) h) (sym (reads_on_still max limits place entries)) all

  -- they hand out the rows in order
  pub reads_log : HandOutTheLog objects entries
  reads_log limits =
      let all = tails objects limits beginning in
      let said = reads_on (still limits) beginning entries in
      let same = all_same limits beginning in
      let same_next : position said.next said.final ≡ position all.next entries = ap (λ (es : List Entry). position said.next es) (final_still limits beginning entries) ∙ ap (λ (p : Offset). position p entries) (sym same.next) in
      same.rows ∙ log_from_beginning (still limits) entries ∙ ap (λ (n : ℕ). take n (rows said.final)) same_next ∙ ap (λ (es : List Entry). take (position all.next entries) (rows es)) (final_still limits beginning entries)

  -- the read behind others is answered with rows
  record HandsRows (earlier : List ℕ) (max : ℕ) : Type 0 where
    out : List Row
    next : Offset
    is : read max (tails objects earlier beginning).next entries ≡ handed out next

  -- since it begins at a place of the table
  hands_rows : (earlier : List ℕ) (max : ℕ) → HandsRows earlier max
  hands_rows earlier max =
      let said = reads_on (still earlier) beginning entries in
      let final = final_still earlier beginning entries in
      let good : is_offset said.next said.final ≡ true = (onward_in_the_log (still earlier) beginning entries (beginning_is_offset entries)).1 in
      let here : is_offset said.next entries ≡ true = subst (λ (es : List Entry). is_offset said.next es ≡ true) final good in
      let answer = is_answered max said.next entries [] here in
      let is : read max (tails objects earlier beginning).next entries ≡ handed answer.0 answer.1 =
      ap (λ (p : Offset). read max p entries) (all_same earlier beginning).next ∙ ap (λ (es : List Entry). read max said.next es) (sym (append-nil entries)) ∙ answer.2 in
      record { out = answer.0; next = answer.1; is = is }

  -- so it isn't refused
  pub reads_answered : AreAnswered objects
  reads_answered earlier max =
      let place = (tails objects earlier beginning).next in
      let h = hands_rows earlier max in
      handed_is_answered (read_by false objects max place) (read max place entries) h.out h.next (reads max place) h.is

  -- where it had less to hand out than its limit, the rows are all
  pub reads_all : HandOutAll objects entries
  reads_all earlier max short =
      let place = (tails objects earlier beginning).next in
      let said = reads_on (still earlier) beginning entries in
      let whole = reads_on (still earlier ++ (max, []) ∷ []) beginning entries in
      let h = hands_rows earlier max in
      let joined : still (earlier ++ max ∷ []) ≡ still earlier ++ (max, []) ∷ [] = map-append (λ (n : ℕ). (n, [])) earlier (max ∷ []) in
      let table_then : said.final ++ [] ≡ entries = append-nil said.final ∙ final_still earlier beginning entries in
      let is : read max said.next (said.final ++ []) ≡ handed h.out h.next =
      ap (λ (es : List Entry). read max said.next es) table_then ∙ ap (λ (p : Offset). read max p entries) (sym (all_same earlier beginning).next) ∙ h.is in
      let rows_are : rows_handed (read_by false objects max place) ≡ h.out = rows_as (read_by false objects max place) (read max place entries) (reads max place) ∙ ap resumed.answer_rows h.is in
      let as_many : length h.out ≡ length (rows_handed (read_by false objects max place)) = ap (λ (rs : List Row). length rs) (sym rows_are) in
      let less : length h.out < max = omega (arith, short, as_many) in
      let final : whole.final ≡ entries = ap (λ (r : List (ℕ × List Entry)). (reads_on r beginning entries).final) (sym joined) ∙ final_still (earlier ++ max ∷ []) beginning entries in
      (all_same (earlier ++ max ∷ []) beginning).rows ∙ ap (λ (r : List (ℕ × List Entry)). (reads_on r beginning entries).out) joined
      ∙ all_after_short (still earlier) max [] entries h.out h.next is less ∙ ap (λ (es : List Entry). rows es) final

-- ---- over a store that keeps a table

-- What is known of reads of a table's log: the schema that they go by, and that each answers what the table answers.
record IsReadAs (objects : Objects) (entries : List Entry) : Type 0 where
  told : SchemaText
  versions : List Version
  log : versions_of objects ≡ versions
  goes_by : (place : Offset) → schema_for no_start versions place ≡ Ok told
  answers : (max : ℕ) (place : Offset) → IsRead (handed_by objects told versions max place) (read max place entries)

-- then each read over the objects does
reads_as : (objects : Objects) (entries : List Entry) → IsReadAs objects entries → ReadsAs objects entries
reads_as objects entries is max place = rw (is.log, is.goes_by place) (is.answers max place)

-- what a read is told by the table, it is told over the objects
read_told : (answer : Answer) (said : Result ReadRows ReadRefusal) → IsTold answer said → IsRead said answer
read_told (handed rows next) said is = is
read_told (beyond next) said is = is
read_told (bad_place version) said is = is

-- so it is with reads of a table that is kept
kept_read_as : (objects : Objects) (schema : Tree) (entries : List Entry) → KeepsTable objects schema entries → IsReadAs objects entries
kept_read_as objects schema entries kept =
    let commits = made_of objects schema 0 entries kept.kept in
    let plain = kept_plain objects schema entries kept in
    record {
      told = plain.told;
      versions = map commit commits;
      log = versions_kept objects schema entries kept;
      goes_by = plain.goes_by;
      answers = λ max place. read_told _ _ (handed_told objects schema entries commits kept.kept (are_made objects schema 0 entries kept.kept) plain max place);
    }

-- A store that keeps a table reads as it.
pub kept_reads : (objects : Objects) (schema : Tree) (entries : List Entry) → KeepsTable objects schema entries → ReadsAs objects entries
kept_reads objects schema entries kept = reads_as objects entries (kept_read_as objects schema entries kept)
