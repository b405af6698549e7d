-- A line that creates a table, over a store that keeps what a script made so far.
use Rattle.std.proofs.Common.{◌≡◌, ◌≢◌, ℕ, Bool, true, false, List, [], ◌∷◌, length, Option, Some, None, IsSome, Result, Ok, Err, refl, sym, ap, subst, ◌∙◌, arith}
use Rattle.std.specs.Prelude.{bytes_eq, nat_le, is_some, cond}
use Rattle.std.proofs.lemmas.Slice.Eq.{bytes_eq-Decides}
use Rattle.schema_tree.specs.Fault.{Fault}
use Rattle.schema_tree.specs.Reading.{schema_of}
use Rattle.schema_tree.specs.Tree.{Tree}
use Rattle.store_core.specs.Objects.{Objects, object_at, with_object}
use Rattle.store_core.specs.ObjectLaws.{with_object_stands, with_object_absent}
use Rattle.delta_actions.specs.Names as names
use Rattle.store_core.specs.Names.{commit_name}
use Rattle.table_model.specs.Table.{Entry, creation}
use Rattle.table_model.proofs.Callers.{new_is_lawful}
use Rattle.commit_core.proofs.Callers.{commit_name-data_file_name, commit_name-once}
use Rattle.commit_core.specs.Commits.{commit_text, creation as created}
use Rattle.commit_core.specs.Creating.{CreateRefusal, bad_schema, bad_id, too_large, id_of, described, within, most_bytes, creation_from, unless_there, with_creation}
use Rattle.script_lines.specs.Lines.{create}
use Rattle.outcomes.specs.Results.{◌>>=◌, or_refusal, refused_as}
use Rattle.commit_core.specs.Creating.{IsWellCreated, CreatesWell}
use Rattle.lake_script.specs.Sound.{IsSoundStatement}
use Rattle.lake_script.specs.Tables as tables
use Rattle.lake_script.specs.Tables.{TableState, nothing, table, creating, with_table}
use Rattle.lake_script.specs.Told.{reply_to_statement, left_by_statement, created_reply}
use Rattle.read_laws.specs.Kept.{KeepsTable, KeptFrom}
use Rattle.lake_script.specs.Keeps.{Keeps}
use Rattle.lake_script.proofs.KeptHolds.{creation_stands}
use Rattle.lake_script.proofs.KeptNames.{none_unless}

-- ---- what a line describes, and what is put for it

-- A line describes no table, and is refused; or it describes one of a schema, and bytes are put for it.
data IsTold (text : List ℕ) (found : Result Tree CreateRefusal) (put : Result (List ℕ) CreateRefusal) : Type 0 where
  refuses : (why : CreateRefusal) → found ≡ Err why → put ≡ Err why → IsTold text found put
  puts : (schema : Tree) (bytes : List ℕ) → found ≡ Ok schema → put ≡ Ok bytes → schema_of text ≡ Ok schema → IsTold text found put

module _ (text printed : List ℕ) where
  -- bytes that aren't too many are put
  told_bytes : (schema : Tree) (bytes : List ℕ) (small : Bool) → schema_of text ≡ Ok schema → cond small (Ok bytes) (Err too_large) ≢ Err too_large → IsTold text (Ok schema) (cond small (Ok bytes) (Err too_large))
  told_bytes schema bytes true is fits = puts schema bytes refl refl is
  told_bytes schema bytes false is fits = absurd (fits refl)

  -- of a text that is read as a schema, the schema is told
  told_schema : (own : List ℕ) (at : ℕ) (read : Result Tree Fault) → schema_of text ≡ read → (refused_as bad_schema read >>= λ schema. within (commit_text (created own at printed))) ≢ Err too_large
      → IsTold text (refused_as bad_schema read) (refused_as bad_schema read >>= λ schema. within (commit_text (created own at printed)))
  told_schema own at (Err fault) is fits = refuses (bad_schema fault) refl refl
  told_schema own at (Ok schema) is fits =
      let bytes = commit_text (created own at printed) in
      told_bytes schema bytes (nat_le (length bytes) most_bytes) is fits

  -- the id is looked at before that
  told_id : (own : Option (List ℕ)) (at : ℕ)
      → (or_refusal own bad_id >>= λ id. refused_as bad_schema (schema_of text) >>= λ schema. within (commit_text (created id at printed))) ≢ Err too_large
      → IsTold text (or_refusal own bad_id >>= λ id. refused_as bad_schema (schema_of text))
      (or_refusal own bad_id >>= λ id. refused_as bad_schema (schema_of text) >>= λ schema. within (commit_text (created id at printed)))
  told_id None at fits = refuses bad_id refl refl
  told_id (Some own) at fits = told_schema own at (schema_of text) refl fits

  -- what is described and what is put agree
  is_told : (id : List ℕ) (at : ℕ) → creation_from id at text printed ≢ Err too_large → IsTold text (described id text) (creation_from id at text printed)
  unfolding creation_from
  is_told id at fits = told_id (id_of id) at fits

-- ---- the table of one creation

-- the one name that stands
one_name : (name bytes other : List ℕ) (same : Bool) → bytes_eq other name ≡ same → is_some (cond same (Some bytes) None) ≡ true → other ≡ name
one_name name bytes other true e some = (bytes_eq-Decides other name).0 e
one_name name bytes other false e some = absurd cc

-- what stands under the one name
one_object : (name bytes : List ℕ) → object_at ((name, bytes) ∷ []) name ≡ Some bytes
one_object name bytes = ap (λ (same : Bool). cond same (Some bytes) None) ((bytes_eq-Decides name name).1 refl)

-- a first commit that is well made is the table of its creation
pub kept_creation : (name : List ℕ) (at : ℕ) (text : List ℕ) (schema : Tree) (bytes : List ℕ) → name ≡ commit_name 0 → schema_of text ≡ Ok schema → IsWellCreated at text bytes
    → KeepsTable ((name, bytes) ∷ []) schema (creation ∷ [])
kept_creation name at text schema bytes first is well =
    let same : Ok well.read ≡ Ok schema = sym well.described ∙ is in
    let stands : object_at ((name, bytes) ∷ []) (commit_name 0) ≡ Some bytes = ap (object_at ((name, bytes) ∷ [])) (sym first) ∙ one_object name bytes in
    record {
      kept = ((bytes, stands, creation_stands schema well.id at well.text bytes (well.printed.readable ∙ same) well.commit), tt, tt);
      rest = [];
      begins = refl;
      lawful = new_is_lawful;
      fits = omega arith;
      ends = λ version past small. none_unless (object_at ((name, bytes) ∷ []) (commit_name version)) (λ some.
          let only : commit_name version ≡ commit_name 0 = one_name name bytes (commit_name version) (bytes_eq (commit_name version) name) refl some ∙ first in
          omega (arith, past, commit_name-once version 0 (omega (arith, small)) only));
    }

-- and no data file stands
pub no_data_file : (name bytes : List ℕ) → name ≡ commit_name 0 → (application : List ℕ) (number : ℕ) → IsSome (object_at ((name, bytes) ∷ []) (names.data_file_name application number)) → ⊥
no_data_file name bytes first application number some =
    let file = names.data_file_name application number in
    commit_name-data_file_name 0 application number (sym first ∙ sym (one_name name bytes file (bytes_eq file name) refl some))

-- the first commit of a table stands
pub first_commit : (objects : Objects) (schema : Tree) (entries : List Entry) → KeepsTable objects schema entries → is_some (object_at objects (commit_name 0)) ≡ true
first_commit objects schema entries kept =
    let all : KeptFrom objects schema 0 (creation ∷ kept.rest) = subst (KeptFrom objects schema 0) kept.begins kept.kept in
    ap is_some all.0.1

-- ---- a line that creates a table

-- where nothing stands, what is put is the table
told_nothing : (at : ℕ) (text : List ℕ) (found : Result Tree CreateRefusal) (put : Result (List ℕ) CreateRefusal) → IsTold text found put → CreatesWell at text put
    → (created_reply (unless_there None put) ≡ tables.table_created_reply (creating nothing found)) × Keeps (with_creation [] put) (with_table nothing (creating nothing found))
told_nothing at text found put (refuses why f p) well = rw (f, p) (refl, refl)
told_nothing at text found put (puts schema bytes f p is) well =
    let made : IsWellCreated at text bytes = rw p at well in
    let one : with_object [] (commit_name 0) bytes ≡ (commit_name 0, bytes) ∷ [] = with_object_absent [] (commit_name 0) bytes refl in
    rw (f, p, one) (refl, (kept_creation (commit_name 0) at text schema bytes refl is made, λ application number utf8 small some. absurd (no_data_file (commit_name 0) bytes refl application number some)))

-- where a table stands, no other is created
told_table : (text : List ℕ) (old : Tree) (entries : List Entry) (there : Option (List ℕ)) (found : Result Tree CreateRefusal) (put : Result (List ℕ) CreateRefusal)
    → is_some there ≡ true → IsTold text found put → created_reply (unless_there there put) ≡ tables.table_created_reply (creating (table old entries) found)
told_table text old entries None found put some told = absurd cc
told_table text old entries (Some bytes) found put some (refuses why f p) = rw (f, p) refl
told_table text old entries (Some bytes) found put some (puts schema new f p is) = rw (f, p) refl

-- nor is anything put over these objects
pub left_table : (objects : Objects) (put : Result (List ℕ) CreateRefusal) → is_some (object_at objects (commit_name 0)) ≡ true → with_creation objects put ≡ objects
left_table objects (Ok bytes) some = with_object_stands objects (commit_name 0) bytes some
left_table objects (Err why) some = refl

-- and the plain table is the old one
same_table : (old : Tree) (entries : List Entry) (found : Result Tree CreateRefusal) → with_table (table old entries) (creating (table old entries) found) ≡ table old entries
same_table old entries (Ok schema) = refl
same_table old entries (Err why) = refl

-- the reply to a line that creates a table is the plain table's, and the store goes on to keep it
pub create_told : (objects : Objects) (state : TableState) (id : List ℕ) (at : ℕ) (text printed : List ℕ) → Keeps objects state → IsSoundStatement objects (create id at text) printed
    → (reply_to_statement objects (create id at text) printed ≡ tables.table_reply_to_statement state (create id at text))
    × Keeps (left_by_statement objects (create id at text) printed) (tables.table_left_by_statement state (create id at text))
create_told objects nothing id at text printed keeps sound =
    rw keeps (told_nothing at text (described id text) (creation_from id at text printed) (is_told text printed id at sound.1) sound.0)
create_told objects (table schema entries) id at text printed keeps sound =
    let stands = first_commit objects schema entries keeps.0 in (
      told_table text schema entries (object_at objects (commit_name 0)) (described id text) (creation_from id at text printed) stands (is_told text printed id at sound.1),
      rw (left_table objects (creation_from id at text printed) stands, same_table schema entries (described id text)) keeps,
    )
