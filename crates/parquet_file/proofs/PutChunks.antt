-- The chunks of the leaves, written one behind the other.
use Rattle.std.proofs.Common.{◌≡◌, ℕ, ◌+◌, ◌≤◌, List, [], ◌∷◌, ◌++◌, length, map, true, is_some, Result, Ok, Err, Vec, Global, refl, sym, ap, subst, ◌∙◌, arith, append_assoc, inl, inr, ◌⊎◌}
use Rattle.std.specs.List.{AllByRecursion}
use Rattle.std.proofs.lemmas.List.{append-nil, length-append, map_push}
use Rattle.outcomes.specs.Outcome.{IsSaid}
use Rattle.outcomes.specs.Results.{◌>>=◌}
use Rattle.outcomes.proofs.Callers.{said_too}
use Rattle.thrift_core.specs.Tree.{Tree}
use Rattle.thrift_core.specs.View.{view, views}
use Rattle.thrift_values.specs.declared.value.TValue.{TValue}
use Rattle.row_core.specs.Rows.{Row}
use Rattle.shred.specs.Columns.{Column, column}
use Rattle.shred.specs.Views.{way_views}
use Rattle.shred.specs.Ways.{Step, highest}
use Rattle.shred.specs.declared.ways.Step.{Step as CodeStep}
use Rattle.parquet_footer.specs.Outcome.{says}
use Rattle.parquet_footer.specs.declared.fault.FileError.{FileError}
use Rattle.parquet_footer.specs.declared.fault.FileFault.{FileFault}
use Rattle.parquet_schema.specs.Leaves.{LeafIn}
use Rattle.parquet_schema.specs.Views.{leaf_views}
use Rattle.parquet_schema.specs.declared.leaves.FileLeaf.{FileLeaf}
use Rattle.parquet_file.specs.Internal.{column_along, columns_along, levels_of}
use Rattle.parquet_file.specs.Writing.{chunk_from, chunks_from}

abbrev pub Written : Type 0
Written = Result (List ℕ × List Tree) FileFault

-- these bytes, and what is said of them, in front of what is written
abbrev pub behind_chunks : List ℕ → List Tree → Written → Written
behind_chunks front chunks written = written >>= λ others. Ok (front ++ others.0, chunks ++ others.1)

-- What is left of the leaves and their columns, where the chunks of those in front were written.
pub record LeftToPut (rows : ℕ) (ls : List LeafIn) (cs : List Column) (old new : List ℕ) (chunks : List Tree)
    (left : List LeafIn) (others : List Column) : Type 0 where
  pub front : List ℕ
  pub added : new ≡ old ++ front
  pub puts : behind_chunks front chunks (chunks_from (length new) rows left others) ≡ chunks_from (length old) rows ls cs
  pub size : length new ≤ 67108864

same_written : (written : Written) → behind_chunks [] [] written ≡ written
same_written (Ok bytes) = refl
same_written (Err fault) = refl

regroup : (front first : List ℕ) (chunks some : List Tree) (written : Written)
    → behind_chunks front chunks (behind_chunks first some written) ≡ behind_chunks (front ++ first) (chunks ++ some) written
regroup front first chunks some (Ok others) =
    let bytes : front ++ (first ++ others.0) ≡ (front ++ first) ++ others.0 = sym (append_assoc front first others.0) in
    let said : chunks ++ (some ++ others.1) ≡ (chunks ++ some) ++ others.1 = sym (append_assoc chunks some others.1) in
    rw (bytes, said) refl
regroup front first chunks some (Err fault) = refl

pub nothing_put : (rows : ℕ) (ls left : List LeafIn) (cs others : List Column) (old : List ℕ) (chunks : List Tree)
    → left ≡ ls → others ≡ cs → chunks ≡ [] → length old ≤ 67108864 → LeftToPut rows ls cs old old chunks left others
nothing_put rows ls left cs others old chunks same equal none short = record {
  front = [];
  added = sym (append-nil old);
  puts = rw (same, equal, none) (same_written (chunks_from (length old) rows ls cs));
  size = short;
}

-- the chunk of the first leaf, and those of the others behind it
first_put : (place rows : ℕ) (l : LeafIn) (ls : List LeafIn) (c : Column) (cs : List Column) (bytes : List ℕ) (said : Tree)
    → chunk_from place rows l c ≡ Ok (bytes, said)
    → chunks_from place rows (l ∷ ls) (c ∷ cs)
    ≡ behind_chunks bytes (said ∷ []) (chunks_from (place + length bytes) rows ls cs)
unfolding chunks_from
first_put place rows l ls c cs bytes said is = rw is refl

-- one more chunk was written
pub one_put : (rows : ℕ) (ls : List LeafIn) (cs : List Column) (old new more : List ℕ) (chunks longer : List Tree)
    (left behind : List LeafIn) (others last : List Column) (l : LeafIn) (c : Column) (said : Tree)
    → left ≡ l ∷ behind → others ≡ c ∷ last
    → (bytes : List ℕ) × (chunk_from (length new) rows l c ≡ Ok (bytes, said)) × (more ≡ new ++ bytes)
    → longer ≡ chunks ++ said ∷ [] → length more ≤ 67108864
    → LeftToPut rows ls cs old new chunks left others → LeftToPut rows ls cs old more longer behind last
one_put rows ls cs old new more chunks longer left behind others last l c said here there put pushed short so_far =
    let bytes = put.0 in
    let place : length more ≡ length new + length bytes = ap length put.2 ∙ length-append new bytes in
    let rest = chunks_from (length new + length bytes) rows behind last in
    let first : chunks_from (length new) rows left others ≡ behind_chunks bytes (said ∷ []) rest =
    rw (here, there) (first_put (length new) rows l behind c last bytes said put.1) in
    record {
      front = so_far.front ++ bytes;
      added = put.2 ∙ (ap (λ (t : List ℕ). t ++ bytes) so_far.added ∙ append_assoc old so_far.front bytes);
      puts = rw (pushed, place) (sym (regroup so_far.front bytes chunks (said ∷ []) rest))
          ∙ (ap (behind_chunks so_far.front chunks) (sym first) ∙ so_far.puts);
      size = short;
    }

refused_first : (place rows : ℕ) (l : LeafIn) (ls : List LeafIn) (c : Column) (cs : List Column) (fault : FileFault)
    → chunk_from place rows l c ≡ Err fault → chunks_from place rows (l ∷ ls) (c ∷ cs) ≡ Err fault
unfolding chunks_from
refused_first place rows l ls c cs fault is = rw is refl

-- where the next chunk isn't written, the chunks aren't
pub chunk_refused : (rows : ℕ) (ls : List LeafIn) (cs : List Column) (old new : List ℕ) (chunks : List Tree)
    (left behind : List LeafIn) (others last : List Column) (l : LeafIn) (c : Column) (error : FileError)
    → left ≡ l ∷ behind → others ≡ c ∷ last → IsSaid (says error) (chunk_from (length new) rows l c)
    → LeftToPut rows ls cs old new chunks left others → IsSaid (says error) (chunks_from (length old) rows ls cs)
chunk_refused rows ls cs old new chunks left behind others last l c error here there said so_far =
    let refused : (fault : FileFault) → chunk_from (length new) rows l c ≡ Err fault
    → chunks_from (length new) rows left others ≡ Err fault =
    λ fault is. rw (here, there) (refused_first (length new) rows l behind c last fault is) in
    said_too (says error) (chunk_from (length new) rows l c) (chunks_from (length old) rows ls cs)
    (λ fault is. sym so_far.puts ∙ ap (behind_chunks so_far.front chunks) (refused fault is)) said

-- ---- the leaves at the ends of ways

-- The leaves and ways that are left: each way has its leaf's level, and a column of all rows.
pub record AreAtEnds (rows : List Row) (ls : List LeafIn) (ws : List (List Step)) : Type 0 where
  pub levels : levels_of ls ≡ map highest ws
  pub found : AllByRecursion (λ way. is_some (column way rows) ≡ true) ws

-- all of them, as the code has them
pub at_ends : (rows : List Row) (ls left : List LeafIn) (ws others : List (List Step)) → left ≡ ls → others ≡ ws
    → levels_of ls ≡ map highest ws → AllByRecursion (λ way. is_some (column way rows) ≡ true) ws
    → AreAtEnds rows left others
at_ends rows ls left ws others same equal levels found = record {
  levels = ap levels_of same ∙ (levels ∙ ap (map highest) (sym equal));
  found = subst (AllByRecursion (λ way. is_some (column way rows) ≡ true)) (sym equal) found;
}

-- the first leaf and way, and the others
pub next_at_end : (rows : List Row) (ls behind : List LeafIn) (l : LeafIn) (ws others : List (List Step))
    (w : List Step) → ls ≡ l ∷ behind → ws ≡ w ∷ others → AreAtEnds rows ls ws
    → (length l.nullable ≡ highest w) × (is_some (column w rows) ≡ true) × AreAtEnds rows behind others
next_at_end rows ls behind l ws others w here there e =
    let levels : length l.nullable ∷ levels_of behind ≡ highest w ∷ map highest others =
    sym (ap levels_of here) ∙ (e.levels ∙ ap (map highest) there) in
    let found = subst (AllByRecursion (λ way. is_some (column way rows) ≡ true)) there e.found in
    (cc, found.0, record { levels = cc; found = found.1 })

-- the column of the first way, and those of the others
pub next_column : (rows : List Row) (ws others : List (List Step)) (w way : List Step) → ws ≡ w ∷ others → way ≡ w
    → columns_along ws rows ≡ column_along way rows ∷ columns_along others rows
next_column rows ws others w way there is =
    ap (λ (vs : List (List Step)). columns_along vs rows) there
    ∙ ap (λ (v : List Step). column_along v rows ∷ columns_along others rows) (sym is)

-- a list has run out, and with it the chunks
pub none_left : (place count : ℕ) (fs : List FileLeaf) (ws : List (Vec CodeStep Global)) (rows : List Row)
    → (length fs ≡ 0) ⊎ (length ws ≡ 0)
    → chunks_from place count (leaf_views fs) (columns_along (way_views ws) rows) ≡ Ok ([], [])
unfolding chunks_from
none_left place count [] ws rows over = refl
none_left place count (f ∷ fs) [] rows over = refl
none_left place count (f ∷ fs) (w ∷ ws) rows (inl e) = absurd (omega (arith, e))
none_left place count (f ∷ fs) (w ∷ ws) rows (inr e) = absurd (omega (arith, e))

-- all chunks were written
pub all_put : (rows : ℕ) (ls : List LeafIn) (cs : List Column) (old new : List ℕ) (chunks : List Tree) (left : List LeafIn)
    (others : List Column) → chunks_from (length new) rows left others ≡ Ok ([], [])
    → LeftToPut rows ls cs old new chunks left others
    → (bytes : List ℕ) × (chunks_from (length old) rows ls cs ≡ Ok (bytes, chunks)) × (new ≡ old ++ bytes)
all_put rows ls cs old new chunks left others none so_far =
    let whole : behind_chunks so_far.front chunks (chunks_from (length new) rows left others)
    ≡ Ok (so_far.front, chunks) = rw (none, append-nil so_far.front, append-nil chunks) refl in
    (so_far.front, sym so_far.puts ∙ whole, so_far.added)

-- what is said of the chunks, with one more
pub said_pushed : (old new : List (TValue Global)) (x : TValue Global) → new ≡ old ++ x ∷ []
    → views new ≡ views old ++ view x ∷ []
said_pushed old new x put = ap views put ∙ map_push view old x
