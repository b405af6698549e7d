-- Reads that follow one another hand out one part of the table.
use Rattle.std.proofs.Common.{◌≡◌, ◌∙◌, ◌+◌, ℕ, List, [], ◌∷◌, ◌++◌, length, map, Bool, true, false, not, Result, Ok, Err, if◌then◌else◌, refl, sym, ap, subst, sum_by}
use Rattle.std.proofs.lemmas.List.Sums.{sum_by-cons}
use Rattle.store_core.specs.Objects.{Objects}
use Rattle.outcomes.specs.Outcome.{IsSaid}
use Rattle.outcomes.specs.Results.{◌>>=◌}
use Rattle.schema_tree.specs.Tree.{Tree}
use Rattle.table_model.specs.Reads as answers
use Rattle.table_model.specs.Reads.{Answer, beyond, bad_place, is_beyond, is_offset, next_offset, rows_from_offset, read, IsPart}
use Rattle.table_model.specs.Resumed.{HandOut}
use Rattle.table_model.specs.Table.{Entry}
use Rattle.table_model.specs.declared.reading.Offset.{Offset}
use Rattle.table_model.proofs.Callers.{stays}
use Rattle.source_core.specs.TableSchema.{Schema}
use Rattle.source_core.specs.SourceSessions.{GoesBySchema, SourceJob, read_told, read_view}
use Rattle.source_core.specs.TailFaults.{ReadGives, read_refusal_view, says}
use Rattle.source_core.specs.TailViews.{handed_view, table_schema_view}
use Rattle.source_core.specs.Tailing as tails
use Rattle.source_core.specs.Tailing.{ReadRefusal, ReadRows, handed_by, read_by, schema_at, versions_at}
use Rattle.log_rows.specs.declared.read_state.ReadRows as code
use Rattle.log_rows.specs.declared.tail_fault.TailFault.{TailFault}
use Rattle.source_core.proofs.Callers.{read_alike}
use Rattle.log_reading.specs.InForce.{SchemaText}
use Rattle.read_laws.proofs.KeptTails.{IsRead, kept_reads}
use Rattle.read_laws.specs.Readers.{Follow, IsReadAt, MayRefuse, MayTellOfTable, OneRead, job_at, next_of_all, next_told, rows_of_all, rows_told, table_of_all}
use Rattle.read_laws.proofs.KeptLaws.{kept_part}
use Rattle.read_laws.proofs.KeptSchema.{schema_kept}

-- what is told with the schema is told without it
pair_told : (told : Result SchemaText ReadRefusal) (rest : SchemaText → Result ReadRows ReadRefusal) (schema : Tree) (handed : ReadRows)
    → ◌>>=◌ {B = Tree × ReadRows} told (λ (t : SchemaText). ◌>>=◌ {B = Tree × ReadRows} (rest t) (λ (h : ReadRows). Ok (t.schema, h))) ≡ Ok (schema, handed) → (told >>= rest) ≡ Ok handed
pair_told (Err wrong) rest schema handed is = absurd cc
pair_told (Ok told) rest schema handed is = by_rows (rest told) refl is
  where
    by_rows : (out : Result ReadRows ReadRefusal) → rest told ≡ out → ◌>>=◌ {B = Tree × ReadRows} out (λ (h : ReadRows). Ok (told.schema, h)) ≡ Ok (schema, handed) → rest told ≡ Ok handed
    by_rows (Err wrong) same said = absurd cc
    by_rows (Ok out) same said =
        let pair : (told.schema, out) ≡ (schema, handed) = cc in
        same ∙ ap (λ (p : Tree × ReadRows). Ok p.1) pair

told_without : (job : SourceJob) (objects : Objects) (schema : Tree) (handed : ReadRows) → read_told job objects ≡ Ok (schema, handed) → read_by job.use_checkpoints objects job.max job.place ≡ Ok handed
told_without job objects schema handed is =
    pair_told (schema_at job.use_checkpoints objects job.place) (λ (t : SchemaText). handed_by objects t (versions_at job.use_checkpoints objects job.place) job.max job.place) schema handed is

-- What one read hands out is a part of its table, none where it is refused.
module _ (none : (max : ℕ) (offset : Offset) (entries : List Entry) → is_offset offset entries ≡ true → IsPart max offset [] offset entries) where
  pub one_part : (schema : Schema) (offset : Offset) (entries : List Entry) (r : OneRead) → is_offset offset entries ≡ true → IsReadAt schema offset entries r
      → IsPart r.max offset (rows_told r.end.answer) (next_told offset r.end.answer) entries
  one_part schema offset entries r within is = by_answer r.end.answer (is.told.told r.listed is.known is.shown)
    where
      by_answer : (answer : Result code.ReadRows TailFault) → ReadGives read_view answer (read_told (job_at offset r) r.listed) → IsPart r.max offset (rows_told answer) (next_told offset answer) entries
      by_answer (Err fault) gives = none r.max offset entries within
      by_answer (Ok handed) gives =
          let plain = told_without (job_at offset r) r.listed _ (handed_view handed) gives in
          (kept_part r.listed schema entries r.max offset (handed_view handed) is.keeps (sym (read_alike r.use_checkpoints r.listed is.restores r.max offset) ∙ plain)).0

  -- so reads that follow one another hand out parts that follow one another
  module _ (stays : (offset : Offset) (entries more : List Entry) → is_offset offset entries ≡ true → is_offset offset (entries ++ more) ≡ true) where
    pub follow_parts : (schema : Schema) (reads : List OneRead) (offset : Offset) (entries : List Entry) → is_offset offset entries ≡ true → Follow schema reads offset entries
        → HandOut (map (λ r. (r.max, r.more)) reads) offset entries (record { out = rows_of_all reads; next = next_of_all reads offset; final = table_of_all reads entries })
    follow_parts schema [] offset entries within follow = refl
    follow_parts schema (r ∷ later) offset entries within follow =
        let grown = stays offset entries r.more within in
        let one = one_part schema offset (entries ++ r.more) r grown follow.0 in
        let next = next_told offset r.end.answer in (
          rows_told r.end.answer,
          next,
          record { out = rows_of_all later; next = next_of_all later next; final = table_of_all later (entries ++ r.more) },
          one,
          follow_parts schema later next (entries ++ r.more) one.ends follow.1,
          refl,
        )

-- how many rows they hand out at most
pub limits_same : (reads : List OneRead) → sum_by (λ (p : ℕ × List Entry). p.0) (map (λ r. (r.max, r.more)) reads) ≡ sum_by (λ r. r.max) reads
limits_same [] = refl
limits_same (r ∷ later) =
    sum_by-cons (λ (p : ℕ × List Entry). p.0) (r.max, r.more) (map (λ r. (r.max, r.more)) later) ∙ (ap (λ (n : ℕ). r.max + n) (limits_same later) ∙ sym (sum_by-cons (λ (r : OneRead). r.max) r later))

-- an offset that a read can begin at stays one while the table grows
pub stays_offset : (offset : Offset) (entries more : List Entry) → is_offset offset entries ≡ true → is_offset offset (entries ++ more) ≡ true
stays_offset offset entries more within = (stays offset entries more within).0

-- ---- what one read may tell

-- what is refused with the schema is refused without it
pair_refused : (told : Result SchemaText ReadRefusal) (rest : SchemaText → Result ReadRows ReadRefusal) (refusal : ReadRefusal)
    → ◌>>=◌ {B = Tree × ReadRows} told (λ (t : SchemaText). ◌>>=◌ {B = Tree × ReadRows} (rest t) (λ (h : ReadRows). Ok (t.schema, h))) ≡ Err refusal → (told >>= rest) ≡ Err refusal
pair_refused (Err wrong) rest refusal said = let one : wrong ≡ refusal = cc in ap Err one
pair_refused (Ok told) rest refusal said = by_rows (rest told) refl said
  where
    by_rows : (out : Result ReadRows ReadRefusal) → rest told ≡ out → ◌>>=◌ {B = Tree × ReadRows} out (λ (h : ReadRows). Ok (told.schema, h)) ≡ Err refusal → rest told ≡ Err refusal
    by_rows (Err wrong) same refused = let one : wrong ≡ refusal = cc in same ∙ ap Err one
    by_rows (Ok out) same refused = absurd cc

module _ (max : ℕ) (offset : Offset) (entries : List Entry) where
  -- a refusal by what the table answers
  answer_refused : (answer : Answer) (said : Result ReadRows ReadRefusal) (refusal : ReadRefusal) (beyond_it there : Bool) → is_beyond offset entries ≡ beyond_it → is_offset offset entries ≡ there
      → answer ≡ (if beyond_it then beyond (length entries) else (if not there then bad_place offset.version else answers.handed (map (λ p. p.1) (rows_from_offset max offset entries)) (next_offset max offset entries)))
      → IsRead said answer → said ≡ Err refusal → MayRefuse offset entries refusal
  answer_refused answer said refusal true there far at is told wrong =
      let known : said ≡ Err (tails.beyond_log (length entries)) = subst (IsRead said) is told in
      let one : tails.beyond_log (length entries) ≡ refusal = cc in
      subst (MayRefuse offset entries) one (far, refl)
  answer_refused answer said refusal false false near at is told wrong =
      let known : said ≡ Err (tails.bad_place offset.version) = subst (IsRead said) is told in
      let one : tails.bad_place offset.version ≡ refusal = cc in
      subst (MayRefuse offset entries) one (near, at, refl)
  answer_refused answer said refusal false true near at is told wrong =
      let known : said ≡ Ok (record { rows = map (λ p. p.1) (rows_from_offset max offset entries); next = next_offset max offset entries }) = subst (IsRead said) is told in
      absurd cc

  -- a refusal of the code, which may say nothing
  may_refuse : (refusal : ReadRefusal) (said : Result (Tree × ReadRows) ReadRefusal) → IsSaid (says refusal) said → (said ≡ Err refusal → MayRefuse offset entries refusal) → MayRefuse offset entries refusal
  may_refuse tails.lost said is goes = tt
  may_refuse tails.memory said is goes = tt
  may_refuse tails.bad_offset said is goes = goes is
  may_refuse (tails.unsupported why) said is goes = goes is
  may_refuse (tails.beyond_log next) said is goes = goes is
  may_refuse (tails.version_gone first) said is goes = goes is
  may_refuse (tails.rows_removed version) said is goes = goes is
  may_refuse (tails.schema_changed version) said is goes = goes is
  may_refuse (tails.bad_place version) said is goes = goes is
  may_refuse (tails.missing_file path) said is goes = goes is
  may_refuse (tails.bad_file version file fault) said is goes = goes is
  may_refuse (tails.bad_log version) said is goes = goes is

-- What a read may tell whose talk shows a store that keeps a table.
pub read_may : (schema : Schema) (offset : Offset) (entries : List Entry) (r : OneRead) → IsReadAt schema offset entries r → MayTellOfTable schema r.max offset entries r.end.answer
read_may schema offset entries r is = by_answer r.end.answer (is.told.told r.listed is.known is.shown) (is.told.goes_by r.listed is.known is.shown)
  where
    alike : read_by r.use_checkpoints r.listed r.max offset ≡ read_by false r.listed r.max offset
    alike = read_alike r.use_checkpoints r.listed is.restores r.max offset

    by_answer : (answer : Result code.ReadRows TailFault) → ReadGives read_view answer (read_told (job_at offset r) r.listed) → GoesBySchema (job_at offset r) r.listed answer → MayTellOfTable schema r.max offset entries answer
    by_answer (Ok handed) gives goes =
        let part = kept_part r.listed schema entries r.max offset (handed_view handed) is.keeps (sym alike ∙ told_without (job_at offset r) r.listed _ (handed_view handed) gives) in
        (schema_kept r.listed schema entries is.keeps r.use_checkpoints offset (table_schema_view handed.schema) is.restores goes, part.0, part.1)
    by_answer (Err fault) gives goes =
        may_refuse r.max offset entries (read_refusal_view fault) (read_told (job_at offset r) r.listed) gives (λ said.
        answer_refused r.max offset entries (read r.max offset entries) (read_by false r.listed r.max offset) (read_refusal_view fault) (is_beyond offset entries) (is_offset offset entries) refl refl refl
        (kept_reads r.listed schema entries is.keeps r.max offset)
        (sym alike ∙ pair_refused (schema_at r.use_checkpoints r.listed offset) (λ (t : SchemaText). handed_by r.listed t (versions_at r.use_checkpoints r.listed offset) r.max offset) (read_refusal_view fault) said))
