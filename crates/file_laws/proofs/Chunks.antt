-- A fault of a chunk stands in the bytes: of its codec, of its place, or of one of its pages.
use Rattle.std.proofs.Common.{◌≡◌, ℕ, zero, suc, ◌<◌, ◌≤◌, ◌+◌, ◌-◌, eqb, leb, not, Bool, true, false, cond, ℤ, pos, negsuc, List, [], ◌∷◌, length, None, Some, Ok, Err, inl, inr, refl, ap, subst, arith}
use Rattle.std.specs.Prelude.{All, T, unsigned_abs}
use Rattle.std.specs.Int.Signed.{◌<ℤ◌, le_z}
use Rattle.std.specs.Ordering.{int_eq}
use Rattle.std.proofs.lemmas.Bool.{both_ways, eqb-false, leb-true, not-false, not-true}
use Rattle.std.proofs.lemmas.Bool.Decides.{Decides-int_eq}
use Rattle.std.proofs.lemmas.Int.{by_lt_z}
use Rattle.std.proofs.lemmas.List.Elements.{All-cons, All-contains, All-nil}
use Rattle.outcomes.specs.Results.{◌>>=◌, or_refusal, refused_if}
use Rattle.outcomes.specs.Bytes.{IsBytes}
use Rattle.schema_tree.specs.Tree.{Tree}
use Rattle.row_assembly.specs.Columns.{Column}
use Rattle.parquet_footer.specs.Metadata.{ColumnChunk, RowGroup}
use Rattle.parquet_footer.specs.declared.fault.FileFault.{FileFault}
use Rattle.parquet_footer.specs.declared.fault.FileFault.TheVariants.{BadOffset, Codec, SchemaMismatch}
use Rattle.parquet_footer.proofs.Callers.{chosen}
use Rattle.parquet_pages.specs.Pages.{joined, no_cells}
use Rattle.parquet_pages.specs.Reading.{chunk_at, first_place, page_at, pages_at}
use Rattle.parquet_pages.proofs.PagesFound.{page_found}
use Rattle.parquet_schema.specs.Leaves.{LeafIn}
use Rattle.parquet_file.specs.File.{leaf_of}
use Rattle.parquet_file.specs.Reading.{chunk_named, column_at, same_path}
use Rattle.parquet_file.proofs.GroupRows.{chunk_found, path_decides}
use Rattle.file_laws.specs.Faults.{FaultStands, begins_early, begins_late, chunk_is_missing}
use Rattle.file_laws.specs.Places.{HasChunk, HasLeaf, IsReached, MeetsPage, PagePlace, at_first, behind_page}
use Rattle.file_laws.proofs.PageSizes.{page_few, page_takes}
use Rattle.file_laws.proofs.Pages.{page_fault}
use Rattle.file_laws.proofs.Steps.{above_zero, by_missing, by_pass, by_step, by_test, err_is, never, there}

-- ---- pages

-- a chunk whose pages are looked at
record HasPages (bytes : List ℕ) (t : Tree) (given : List ℕ) (l : LeafIn) : Type 0 where
  group : RowGroup
  chunk : ColumnChunk
  has : HasChunk bytes t given group l chunk
  uncompressed : chunk.codec ≡ pos 0
  first : ℕ
  stated : chunk.data_page_offset ≡ pos first
  behind_magic : 4 ≤ first

abbrev Reaches : (bytes : List ℕ) (t : Tree) (given : List ℕ) (l : LeafIn) → HasPages bytes t given l → (place left : ℕ) → Type 0
Reaches bytes t given l k place left = IsReached (leaf_of l) given k.first k.chunk.num_values place left

abbrev place_of : List ℕ → LeafIn → (place left : ℕ) → PagePlace
place_of given l place left = record { given = given; leaf = l; place = place; left = left }

meets : (bytes : List ℕ) (t : Tree) (given : List ℕ) (l : LeafIn) (k : HasPages bytes t given l) (place left : ℕ) → Reaches bytes t given l k place left
    → 0 < left → MeetsPage bytes t (place_of given l place left)
meets bytes t given l k place left reached wanted = record {
  group = k.group;
  chunk = k.chunk;
  has = k.has;
  uncompressed = k.uncompressed;
  first = k.first;
  stated = k.stated;
  behind_magic = k.behind_magic;
  reached = reached;
  wanted = wanted;
}

pages_fault : (bytes : List ℕ) (t : Tree) (given : List ℕ) (l : LeafIn) (k : HasPages bytes t given l) (most place left : ℕ) (fault : FileFault) → IsBytes given
    → length given ≤ most + place → Reaches bytes t given l k place left → pages_at most (leaf_of l) given place left ≡ Err fault → FaultStands bytes t fault
unfolding pages_at
pages_fault bytes t given l k most place zero fault fits few reached e = absurd (never no_cells fault (Ok no_cells) refl e)
pages_fault bytes t given l k zero place (suc left) fault fits few reached e =
    subst (FaultStands bytes t) (err_is {A = Column} BadOffset fault (Err BadOffset) refl e)
    (begins_late (place_of given l place (suc left)) (meets bytes t given l k place (suc left) reached (omega arith)) (omega (arith, few)))
pages_fault bytes t given l k (suc most) place (suc left) fault fits few reached e =
    let rest = λ (page : Column × ℕ). pages_at most (leaf_of l) given page.1 (suc left - length page.0.levels) in
    by_step (FaultStands bytes t) (page_at (leaf_of l) given place (suc left)) (λ page. rest page >>= λ others. Ok (joined page.0 others)) fault e
    (λ e1. page_fault bytes t (place_of given l place (suc left)) fault fits (meets bytes t given l k place (suc left) reached (omega arith)) e1)
    (λ page is e1.
    let found = page_found (leaf_of l) given place (suc left) page.1 page.0 fits is in
    by_step (FaultStands bytes t) (rest page) (λ others. Ok (joined page.0 others)) fault e1
    (λ e2. pages_fault bytes t given l k most page.1 (suc left - length page.0.levels) fault fits
    (omega (arith, few, page_takes (leaf_of l) given place page.1 page.0 found.0))
    (behind_page place (suc left) page.1 page.0 reached found.0 found.1 (page_few (leaf_of l) given place (suc left) page.1 page.0 is)) e2)
    (λ others are e2. absurd (never (joined page.0 others) fault (Ok (joined page.0 others)) refl e2)))

-- ---- the first page's place

by_first : (P : FileFault → Type 0) (stated : ℤ) (fault : FileFault) → first_place stated ≡ Err fault → (le_z (pos 4) stated ≡ false → P BadOffset) → P fault
unfolding first_place
by_first P stated fault e early = by_bound (le_z (pos 4) stated) (unsigned_abs stated) refl e
  where
    by_bound : (b : Bool) (place : ℕ) → le_z (pos 4) stated ≡ b → cond b (Ok place) (Err BadOffset) ≡ Err fault → P fault
    by_bound true place is fails = absurd (never place fault (Ok place) refl fails)
    by_bound false place is fails = subst P (err_is {A = ℕ} BadOffset fault (Err BadOffset) refl fails) (early is)

is_early : (stated : ℤ) → le_z (pos 4) stated ≡ false → stated <ℤ pos 4
is_early stated early = by_lt_z stated (pos 4) (λ less. less) (λ more. absurd (subst T early more.le))

pub first_is : (stated : ℤ) (place : ℕ) → first_place stated ≡ Ok place → (stated ≡ pos place) × (4 ≤ place)
unfolding first_place
first_is (pos n) place e = by_test (leb 4 n) refl e
  where
    by_test : (b : Bool) → leb 4 n ≡ b → cond b (Ok n) (Err BadOffset) ≡ Ok place → (pos n ≡ pos place) × (4 ≤ place)
    by_test true is read = let same : n ≡ place = cc in (ap pos same, subst (λ (k : ℕ). 4 ≤ k) same (leb-true 4 n is))
    by_test false is read = absurd cc
first_is (negsuc n) place e = absurd cc

-- ---- a chunk

chunk_fault : (bytes : List ℕ) (t : Tree) (given : List ℕ) (group : RowGroup) (l : LeafIn) (chunk : ColumnChunk) (fault : FileFault) → IsBytes given
    → HasChunk bytes t given group l chunk → chunk.codec ≡ pos 0 → chunk_at (leaf_of l) given chunk.data_page_offset chunk.num_values ≡ Err fault
    → FaultStands bytes t fault
unfolding chunk_at
chunk_fault bytes t given group l chunk fault fits has plain e =
    let read = λ (place : ℕ). pages_at (length given) (leaf_of l) given place chunk.num_values in
    by_pass (FaultStands bytes t) (eqb chunk.num_values 0) no_cells (first_place chunk.data_page_offset >>= read) fault e
    (λ some e1. by_step (FaultStands bytes t) (first_place chunk.data_page_offset) read fault e1
    (λ e2. by_first (FaultStands bytes t) chunk.data_page_offset fault e2
    (λ early. begins_early given group l chunk has (above_zero chunk.num_values (eqb-false chunk.num_values 0 some)) (is_early chunk.data_page_offset early)))
    (λ place is e2.
    let first = first_is chunk.data_page_offset place is in
    let k : HasPages bytes t given l = record { group = group; chunk = chunk; has = has; uncompressed = plain; first = place; stated = first.0; behind_magic = first.1 } in
    pages_fault bytes t given l k (length given) place chunk.num_values fault fits (omega arith) at_first e2))

-- no chunk has the path
none_named : (path : List (List ℕ)) (chunks : List ColumnChunk) → chunk_named path chunks ≡ None → All (λ c. c.path_in_schema ≡ path → ⊥) chunks
none_named path [] e = All-nil (λ c. c.path_in_schema ≡ path → ⊥)
none_named path (c ∷ cs) e = elim (chosen (same_path c.path_in_schema path) (Some c) (chunk_named path cs) None e) [
  | inl p ↦ absurd (some_none c p.1)
  | inr p ↦ All-cons (λ c. c.path_in_schema ≡ path → ⊥) c cs (λ is. both_ways _ p.0 ((path_decides c.path_in_schema path).1 is)) (none_named path cs p.1)
]
  where
    some_none : (c : ColumnChunk) → Some c ≡ None → ⊥
    some_none c is = cc

pub column_fault : (bytes : List ℕ) (t : Tree) (given : List ℕ) (group : RowGroup) (l : LeafIn) (fault : FileFault) → IsBytes given
    → HasLeaf bytes t given group l → column_at given group.columns l ≡ Err fault → FaultStands bytes t fault
unfolding column_at
column_fault bytes t given group l fault fits leaf e =
    let named = chunk_named l.names group.columns in
    let reads = λ (chunk : ColumnChunk). chunk_at (leaf_of l) given chunk.data_page_offset chunk.num_values in
    by_step (FaultStands bytes t) (or_refusal named SchemaMismatch) (λ chunk. refused_if (not (int_eq chunk.codec (pos 0))) (Codec chunk.codec) >>= λ plain. reads chunk) fault e
    (λ e1. by_missing (FaultStands bytes t) named SchemaMismatch fault e1 (λ none. chunk_is_missing given group l leaf
    (λ chunk inside. All-contains (λ c. c.path_in_schema ≡ l.names → ⊥) group.columns chunk (none_named l.names group.columns none) inside)))
    (λ chunk is e1.
    let has : HasChunk bytes t given group l chunk = record { leaf = leaf; found = chunk_found l.names group.columns chunk (there named SchemaMismatch chunk is) } in
    by_test (FaultStands bytes t) (not (int_eq chunk.codec (pos 0))) (Codec chunk.codec) (λ plain. reads chunk) fault e1
    (λ coded. record {
      given = given;
      group = group;
      leaf = l;
      chunk = chunk;
      has = has;
      codec = refl;
      other = λ zero. both_ways _ (not-true _ coded) ((Decides-int_eq chunk.codec (pos 0)).1 zero);
    })
    (λ plain e2. chunk_fault bytes t given group l chunk fault fits has ((Decides-int_eq chunk.codec (pos 0)).0 (not-false _ plain)) e2))
