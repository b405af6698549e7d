-- What reads hand out in a world: parts of the table by its schema, and readers that resume their rows up to where they came.
use Rattle.std.proofs.Common.{◌≡◌, ◌⊎◌, ◌∙◌, ◌+◌, ℕ, List, [], ◌∷◌, ◌++◌, Some, Contains, true, inl, inr, refl, sym, ap, subst, append-nil, arith}
use Rattle.std.specs.Prelude.{Result, Ok, Err, drop, take}
use Rattle.std.proofs.lemmas.List.{take-append-drop}
use Rattle.std.proofs.lemmas.List.Sums.{sum_by-cons}
use Rattle.store_core.specs.ObjectLaws.{listed_iff_stands}
use Rattle.store_core.specs.Objects.{Objects, names_of}
use Rattle.session_core.specs.Shown.{Shows}
use Rattle.session_core.specs.Talks.{Asked, Bears, Talk, Told, get_object, list_names, put_commit, put_file, told_lost, told_memory, told_names, told_object, told_put}
use Rattle.row_core.specs.Views.{row_views}
use Rattle.table_model.specs.Reads.{IsPart, is_offset}
use Rattle.table_model.specs.Resumed.{beginning}
use Rattle.table_model.proofs.Callers.{beginning_is_offset}
use Rattle.table_model.specs.Table.{Entry}
use Rattle.table_model.specs.declared.reading.Offset.{Offset}
use Rattle.table_store.specs.Holds.{Holds}
use Rattle.table_store.specs.Schema.{Schema}
use Rattle.log_offsets.specs.Offsets.{offset_view}
use Rattle.source_core.specs.SourceSessions.{HoldsLast, KnowsAll, SourceEnds, SourceJob, loses}
use Rattle.log_rows.specs.declared.read_state.ReadRows.{ReadRows}
use Rattle.log_rows.specs.declared.tail_fault.TailFault.{TailFault}
use Rattle.source_core.specs.declared.source_session.ReadEnd.{ReadEnd}
use Rattle.source_core.proofs.Callers.{shows_got}
use Rattle.session_laws.specs.Readers.{next_told, rows_told}
use Rattle.session_laws.specs.Rows.{ListsFirst, MayTellOfRead, TellsOfListed, WasListed, next_version}
use Rattle.session_laws.specs.Jobs.{Job, Outcome, read, reads}
use Rattle.session_laws.specs.Moves.{HasAsked, tells}
use Rattle.stream_model.specs.Events.{Event}
use Rattle.stream_model.specs.Headline.{HandsOutTheLog, IsPartOfTable, Resume, last_offset, most_rows, all_rows_handed}
use Rattle.stream_model.proofs.Landing.{IsGoodStore}
use Rattle.stream_model.proofs.Laws.{AreLaws}
use Rattle.stream_model.proofs.Seen.{SeesWell, good_readable, told_first}

-- ---- one read

-- It lists names first, or what it was told any objects show.
module _ (job : SourceJob) (before : Talk) where
  -- where its first call told no names it made no other
  shown_alone : (told : Told) (gets : Talk) → ((names : List (List ℕ)) → told ≡ told_names names → ⊥) → HasAsked (reads job) before ((list_names, told) ∷ gets) → (objects : Objects) → Shows ((list_names, told) ∷ []) objects → Shows ((list_names, told) ∷ gets) objects
  shown_alone told [] other asked objects shown = shown
  shown_alone told ((list_names, next) ∷ gets) other asked objects shown = let wrong = asked.1.0 in absurd cc
  shown_alone told ((get_object name, next) ∷ gets) other asked objects shown = absurd (other asked.1.0.names (first_told asked.1.0.listed.gets asked.1.0.listed.talked))
    where
      first_told : {names : List (List ℕ)} (gets : Talk) → (list_names, told) ∷ [] ≡ (list_names, told_names names) ∷ gets → told ≡ told_names names
      first_told gets same = ap told_first same
  shown_alone told ((put_file name bytes, next) ∷ gets) other asked objects shown = absurd asked.1.0
  shown_alone told ((put_commit version bytes, next) ∷ gets) other asked objects shown = absurd asked.1.0

  lists_first : (now : Talk) → HasAsked (reads job) before now → ((names : List (List ℕ)) × ListsFirst now names) ⊎ ((objects : Objects) → Shows now objects)
  lists_first [] asked = inr (λ objects. tt)
  lists_first ((list_names, told_names names) ∷ gets) asked = inl (names, (gets, refl))
  lists_first ((list_names, told_object found) ∷ gets) asked = inr (λ objects. shown_alone (told_object found) gets (λ names wrong. absurd cc) asked objects (tt, tt))
  lists_first ((list_names, told_put put) ∷ gets) asked = inr (λ objects. shown_alone (told_put put) gets (λ names wrong. absurd cc) asked objects (tt, tt))
  lists_first ((list_names, told_lost) ∷ gets) asked = inr (λ objects. shown_alone told_lost gets (λ names wrong. absurd cc) asked objects (tt, tt))
  lists_first ((list_names, told_memory) ∷ gets) asked = inr (λ objects. shown_alone told_memory gets (λ names wrong. absurd cc) asked objects (tt, tt))
  lists_first ((get_object name, told) ∷ gets) asked = let none = asked.0.listed.talked in absurd cc
  lists_first ((put_file name bytes, told) ∷ gets) asked = absurd asked.0
  lists_first ((put_commit version bytes, told) ∷ gets) asked = absurd asked.0

-- the call that was made first
abbrev asked_first : Talk → Asked
asked_first [] = list_names
asked_first (call ∷ talk) = call.0

-- Rows that it hands out by what any objects show it would hand out by a list of these names, too.
module _ (job : SourceJob) (before now : Talk) (end : ReadEnd) (handed : ReadRows) (is : end.answer ≡ Ok handed) (ends : SourceEnds job before now end) (any : (objects : Objects) → Shows now objects) (names : List (List ℕ)) where
  -- at last it got nothing by that list
  none_got : (front : Talk) (name bytes : List ℕ) → (list_names, told_names names) ∷ [] ≡ front ++ (get_object name, told_object (Some bytes)) ∷ [] → ⊥
  none_got [] name bytes same = let wrong : list_names ≡ get_object name = ap asked_first same in absurd cc
  none_got (call ∷ []) name bytes same = absurd cc
  none_got (call ∷ next ∷ front) name bytes same = absurd cc

  ends_by_list : SourceEnds job before ((list_names, told_names names) ∷ []) end
  ends_by_list = record {
    told = λ objects earlier shown. ends.told objects earlier (any objects);
    goes_by = λ objects earlier shown. ends.goes_by objects earlier (any objects);
    past = λ objects earlier shown. ends.past objects earlier (any objects);
    kept = λ objects earlier shown. subst (KnowsAll job ((list_names, told_names names) ∷ []) objects end.known) (sym is) (subst (KnowsAll job now objects end.known) is (ends.kept objects earlier (any objects)));
    file = λ objects earlier borne. ends.file objects earlier (shows_got objects now (any objects));
    last = λ objects earlier shown. subst (λ (answer : Result ReadRows TailFault). HoldsLast ((list_names, told_names names) ∷ []) answer end.file) (sym is) (λ front name bytes same. absurd (none_got front name bytes same));
    few = λ objects earlier shown. omega arith;
  }

-- What a read was shown in a world: the store as it stood when its names were listed.
pub was_listed : (events : List Event) (objects : Objects) (job : SourceJob) (before now : Talk) (names : List (List ℕ)) → ListsFirst now names → SeesWell events objects (reads job) before now → (listed : Objects) × WasListed objects before now listed
was_listed events objects job before now names lists seen =
    let was = seen job refl names lists in
    (was.listed, record { sound = was.good.sound; readable = good_readable events was.listed was.good; grown = was.grown; earlier = was.earlier; lists = subst (ListsFirst now) was.same lists; shown = was.shown })

-- What it tells is so of the versions that it listed.
pub told_of_listed : (events : List Event) (objects : Objects) (schema : Schema) (entries : List Entry) (job : SourceJob) (before now : Talk) (answer : Result ReadRows TailFault) (names : List (List ℕ)) → ListsFirst now names → SeesWell events objects (reads job) before now
    → MayTellOfRead objects schema entries job before now answer → TellsOfListed schema (take (next_version now) entries) job answer
told_of_listed events objects schema entries job before now answer names lists seen may =
    let was = was_listed events objects job before now names lists seen in
    may.told was.0 was.1

-- What a read handed out of a table is a part of its entries.
part_of : (schema : Schema) (entries : List Entry) (job : SourceJob) (handed : ReadRows) → IsPartOfTable schema entries job (Ok handed) → IsPart job.max job.place (row_views handed.rows.items) (offset_view handed.next) entries
part_of schema [] job handed none = absurd none
part_of schema (first ∷ rest) job handed part = part.1

module _ (laws : AreLaws) where
  -- a part of the first versions is one of all
  part_of_all : (schema : Schema) (entries : List Entry) (count : ℕ) (job : SourceJob) (handed : ReadRows) → TellsOfListed schema (take count entries) job (Ok handed) → IsPartOfTable schema entries job (Ok handed)
  part_of_all schema entries count job handed told = by_front (take count entries) refl told
    where
      by_front : (front : List Entry) → take count entries ≡ front → TellsOfListed schema front job (Ok handed) → IsPartOfTable schema entries job (Ok handed)
      by_front [] is none = absurd none
      by_front (first ∷ rest) is part =
          subst (λ (es : List Entry). IsPartOfTable schema es job (Ok handed)) (ap (λ (es : List Entry). es ++ drop count entries) (sym is) ∙ take-append-drop count entries)
          (part.0, laws.part_stays job.max job.place (offset_view handed.next) (first ∷ rest) (drop count entries) (row_views handed.rows.items) part.1)

  -- so are rows that were handed out by what any objects show: a list of what stands would show them, too
  part_of_any : (events : List Event) (objects : Objects) (schema : Schema) (entries : List Entry) → IsGoodStore events objects → Holds objects schema entries → (job : SourceJob) (before now : Talk) (end : ReadEnd) (handed : ReadRows) → end.answer ≡ Ok handed → Bears objects before
      → SourceEnds job before now end → ((others : Objects) → Shows now others) → IsPartOfTable schema entries job (Ok handed)
  part_of_any events objects schema entries good holds job before now end handed is earlier ends any =
      let may : MayTellOfRead objects schema entries job before listing end.answer =
      laws.may objects schema entries (reads job) before listing (tells (read end)) (record {
        sound = good.sound;
        bytes = good.bytes;
        holds = holds;
        earlier = earlier;
        borne = ((λ name has. (listed_iff_stands objects name).0 has), tt);
        asked = (refl, tt);
      }) tt (ends_by_list job before now end handed is ends any (names_of objects), ap loses is) in
      part_of_all schema entries (next_version listing) job handed (subst (TellsOfListed schema (take (next_version listing) entries) job) is (may.told objects (record {
        sound = good.sound;
        readable = good_readable events objects good;
        grown = λ name bytes stands. stands;
        earlier = earlier;
        lists = ([], refl);
        shown = (refl, tt);
      })))
    where
      listing : Talk
      listing = (list_names, told_names (names_of objects)) ∷ []

  -- What a read tells is a part of the table, by its schema.
  pub read_part : (events : List Event) (objects : Objects) (schema : Schema) (entries : List Entry) → IsGoodStore events objects → Holds objects schema entries → (job : SourceJob) (before now : Talk) (end : ReadEnd) → Bears objects before → SeesWell events objects (reads job) before now
      → HasAsked (reads job) before now → SourceEnds job before now end → MayTellOfRead objects schema entries job before now end.answer → IsPartOfTable schema entries job end.answer
  read_part events objects schema entries good holds job before now end earlier seen asked ends may = by_answer end.answer refl
    where
      by_answer : (answer : Result ReadRows TailFault) → end.answer ≡ answer → IsPartOfTable schema entries job answer
      by_answer (Err fault) is = tt
      by_answer (Ok handed) is = elim (lists_first job before now asked) [
        | inl lists ↦
            let told = told_of_listed events objects schema entries job before now end.answer lists.0 lists.1 seen may in
            part_of_all schema entries (next_version now) job handed (subst (TellsOfListed schema (take (next_version now) entries) job) is told)
        | inr any ↦ part_of_any events objects schema entries good holds job before now end handed is earlier ends any
      ]

  -- ---- several reads

  module _ (outs : List (Job × Outcome)) (schema : Schema) (entries : List Entry) (parts : (job : SourceJob) (end : ReadEnd) → Contains outs (reads job, read end) → IsPartOfTable schema entries job end.answer) where
    one_part : (offset : Offset) → is_offset offset entries ≡ true → (one : SourceJob × ReadEnd) → Contains outs (reads one.0, read one.1) → one.0.place ≡ offset
        → IsPart one.0.max offset (rows_told one.1.answer) (next_told offset one.1.answer) entries
    one_part offset within one has at = by_answer one.1.answer (parts one.0 one.1 has)
      where
        by_answer : (answer : Result ReadRows TailFault) → IsPartOfTable schema entries one.0 answer → IsPart one.0.max offset (rows_told answer) (next_told offset answer) entries
        by_answer (Err fault) part = laws.part_none one.0.max offset entries within
        by_answer (Ok handed) part = subst (λ (o : Offset). IsPart one.0.max o (row_views handed.rows.items) (offset_view handed.next) entries) at (part_of schema entries one.0 handed part)

    resumed_part : (offset : Offset) (those : List (SourceJob × ReadEnd)) → is_offset offset entries ≡ true → Resume outs offset those → IsPart (most_rows those) offset (all_rows_handed those) (last_offset offset those) entries
    resumed_part offset [] within resume = laws.part_none 0 offset entries within
    resumed_part offset (one ∷ later) within resume =
        let first = one_part offset within one resume.0 resume.1 in
        let next = next_told offset one.1.answer in
        let rest = resumed_part next later first.ends resume.2 in
        let both = laws.parts_join one.0.max (most_rows later) offset next (last_offset next later) entries [] (rows_told one.1.answer) (all_rows_handed later) first
        (subst (λ (es : List Entry). IsPart (most_rows later) next (all_rows_handed later) (last_offset next later) es) (sym (append-nil entries)) rest) in
        let whole : IsPart (one.0.max + most_rows later) offset (rows_told one.1.answer ++ all_rows_handed later) (last_offset next later) entries =
        subst (λ (es : List Entry). IsPart (one.0.max + most_rows later) offset (rows_told one.1.answer ++ all_rows_handed later) (last_offset next later) es) (append-nil entries) both in
        subst (λ (n : ℕ). IsPart n offset (rows_told one.1.answer ++ all_rows_handed later) (last_offset next later) entries) (sym (sum_by-cons (λ (o : SourceJob × ReadEnd). o.0.max) one later)) whole

    -- Readers that resume hand out the log.
    pub hands_out : HandsOutTheLog outs entries
    hands_out = record {
      from_beginning = λ those resume. laws.part_front (most_rows those) (last_offset beginning those) entries (all_rows_handed those) (resumed_part beginning those (beginning_is_offset entries) resume);
      from_offset = λ offset those within resume. resumed_part offset those within.0 resume;
    }
