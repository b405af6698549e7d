-- A read over a store that keeps a table is told the text that the plain table tells.
use Rattle.std.proofs.Common.{◌≡◌, ℕ, false, List, [], map, Option, Some, None, Ok, refl, ap, ◌∙◌}
use Rattle.std.specs.Prelude.{Result}
use Rattle.schema_tree.specs.Tree.{Tree}
use Rattle.store_core.specs.Objects.{Objects}
use Rattle.delta_actions.specs.Action as actions
use Rattle.table_model.specs.Table.{Entry}
use Rattle.table_model.specs.Reads.{Answer, handed, beyond, bad_place, read}
use Rattle.table_model.specs.declared.reading.Offset.{Offset}
use Rattle.log_offsets.specs.Offsets.{offset_of}
use Rattle.outcomes.specs.Results.{◌>>=◌}
use Rattle.lake_script.specs.Tables as tables
use Rattle.source_core.specs.Tailing.{ReadRefusal, ReadRows, handed_by, schema_for}
use Rattle.source_core.specs.TailTexts.{handed_text, tailed}
use Rattle.lake_script.specs.Told.{tailed_reply}
use Rattle.read_laws.specs.Kept.{KeepsTable}
use Rattle.read_laws.proofs.Callers.{made_of, are_made, versions_kept, IsPlain, IsTold, handed_told, kept_plain}
use Rattle.commit_core.proofs.Callers.{versions_of_nothing}
use Rattle.table_log.specs.Versions.{commit, versions_of}

-- what is told of an answer
text_told : (schema : Tree) (answer : Answer) (said : Result ReadRows ReadRefusal) → IsTold answer said → tailed_reply (said >>= λ found. Ok (handed_text schema found)) ≡ tables.read_text schema answer
text_told schema (handed rows next) said told = rw told refl
text_told schema (beyond next) said told = rw told refl
text_told schema (bad_place version) said told = rw told refl

module _ (objects : Objects) (max : ℕ) (offset : List ℕ) where
  -- a read from an offset on that can be read, by what is handed out
  tail_from : (schema : Tree) (entries : List Entry) (commits : List (List actions.Action)) (plain : IsPlain schema commits) (place : Option Offset) → offset_of offset ≡ place → versions_of objects ≡ map commit commits
      → ((at : Offset) → IsTold (read max at entries) (handed_by objects plain.told (map commit commits) max at)) → tailed_reply (tailed false objects max offset) ≡ tables.tail_reply (tables.table schema entries) max place
  unfolding tailed
  tail_from schema entries commits plain None is log told = rw is refl
  tail_from schema entries commits plain (Some place) is log told =
      rw (is, log, plain.goes_by place)
      (text_told plain.told.schema (read max place entries) (handed_by objects plain.told (map commit commits) max place) (told place) ∙ ap (λ (t : Tree). tables.read_text t (read max place entries)) plain.is_schema)

  -- the same over no objects
  tail_of_none : (place : Option Offset) → offset_of offset ≡ place → tailed_reply (tailed false [] max offset) ≡ tables.tail_reply tables.nothing max place
  unfolding tailed schema_for
  tail_of_none None is = rw is refl
  tail_of_none (Some place) is = rw (is, versions_of_nothing) refl

-- Over a store that keeps a table a read is told what the table tells.
pub tail_told : (objects : Objects) (schema : Tree) (entries : List Entry) → KeepsTable objects schema entries → (max : ℕ) (offset : List ℕ)
    → tailed_reply (tailed false objects max offset) ≡ tables.tail_reply (tables.table schema entries) max (offset_of offset)
tail_told objects schema entries kept max offset =
    let commits = made_of objects schema 0 entries kept.kept in
    let plain = kept_plain objects schema entries kept in
    tail_from objects max offset schema entries commits plain (offset_of offset) refl (versions_kept objects schema entries kept)
    (λ place. handed_told objects schema entries commits kept.kept (are_made objects schema 0 entries kept.kept) plain max place)

-- A read of nothing is told that there is no table.
pub tail_of_nothing : (max : ℕ) (offset : List ℕ) → tailed_reply (tailed false [] max offset) ≡ tables.tail_reply tables.nothing max (offset_of offset)
tail_of_nothing max offset = tail_of_none [] max offset (offset_of offset) refl
