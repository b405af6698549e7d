-- The chunks that are written for the columns of leaves hold them, and what is said of each chunk can be read again.
use Rattle.std.proofs.Common.{◌≡◌, ℕ, suc, ◌+◌, ◌<◌, ◌≤◌, ◌^◌, pos, nat_lt, length, List, [], ◌∷◌, ◌++◌, map, Some, Ok, refl, sym, ap, subst, arith, inl, inr, FitsSigned, w32, append_assoc}
use Rattle.std.specs.List.{AllByRecursion, AllZip}
use Rattle.std.proofs.lemmas.Bool.{ltb-false}
use Rattle.std.proofs.lemmas.List.{length-append, length-map}
use Rattle.outcomes.specs.Results.{◌>>=◌, refused_if}
use Rattle.thrift_core.specs.Fields.{all_as, as_struct, as_text, each}
use Rattle.thrift_core.specs.Form.{binary_form, int32_form, list_form}
use Rattle.thrift_core.specs.Tree as thrift
use Rattle.thrift_core.specs.Tree.{binary, count_of_trees, integer, trees_of}
use Rattle.thrift_core.specs.Writing.{HasForm, MembersHaveForm}
use Rattle.shred.specs.Columns.{Column}
use Rattle.parquet_footer.specs.Metadata.{ColumnChunk, chunk_of}
use Rattle.parquet_footer.specs.declared.fault.FileFault.{FileFault}
use Rattle.parquet_footer.specs.declared.fault.FileFault.TheVariants.{TooLarge}
use Rattle.parquet_footer.proofs.Callers.{bind_ok, ok_is}
use Rattle.parquet_pages.specs.Pages.{ChunkHolds}
use Rattle.page_cells.specs.Types.{physical_type, type_number}
use Rattle.page_writing.specs.Writing.{IsWhole, chunk_written}
use Rattle.page_cells.specs.declared.types.PhysicalType.{PhysicalType}
use Rattle.page_cells.specs.declared.types.PhysicalType.TheVariants as physical
use Rattle.page_writing.proofs.WrittenHeld.{written_held}
use Rattle.parquet_schema.specs.Leaves.{LeafIn}
use Rattle.parquet_file.specs.File.{HoldsColumn, leaf_of}
use Rattle.parquet_file.specs.Writing.{chunk_form, chunk_from, chunk_tree, chunks_from, column_form, column_tree, members}
use Rattle.parquet_file.proofs.GroupSteps.{allowed}
use Rattle.parquet_file.proofs.LeafPaths.{AreApart, IsElsewhere, IsNear, IsShort}
use Rattle.parquet_file.proofs.StructForms.{fits_32, fits_64, struct_has_form}

-- ---- members of a list

pub trees_counted : (ts : List thrift.Tree) → count_of_trees (trees_of ts) ≡ length ts
trees_counted [] = refl
trees_counted (t ∷ ts) = ap suc (trees_counted ts)

names_have_form : (names : List (List ℕ)) → AllByRecursion IsShort names
    → MembersHaveForm binary_form (trees_of (map binary names))
names_have_form [] h = tt
names_have_form (name ∷ names) h = ((refl, omega (arith, h.0)), names_have_form names h.1)

names_said : (names : List (List ℕ)) → all_as as_text (trees_of (map binary names)) ≡ Some names
names_said [] = refl
names_said (name ∷ names) = rw (names_said names) refl

-- ---- what is said of a chunk

number_fits : (p : PhysicalType) → FitsSigned w32 (type_number p)
number_fits physical.Boolean = fits_32 0 (omega arith)
number_fits physical.Int32 = fits_32 1 (omega arith)
number_fits physical.Int64 = fits_32 2 (omega arith)
number_fits physical.ByteArray = fits_32 6 (omega arith)

column_has_form : (l : LeafIn) (place size rows : ℕ) → IsNear 16 l → place < 2 ^ 63 → size < 2 ^ 63 → rows < 2 ^ 63
    → HasForm column_form (column_tree l place size rows)
column_has_form l place size rows near early short few =
    let encodings : HasForm (list_form int32_form) (members (integer (pos 0) ∷ integer (pos 3) ∷ [])) =
    (int32_form, refl, omega arith, (fits_32 0 (omega arith), (fits_32 3 (omega arith), tt))) in
    let path : HasForm (list_form binary_form) (members (map binary l.names)) = (
      binary_form,
      refl,
      omega (arith, trees_counted (map binary l.names), length-map l.names binary, near.few),
      names_have_form l.names near.short,
    ) in
    let size_fits = fits_64 size short in
    struct_has_form column_form (column_tree l place size rows) refl (
      number_fits (physical_type l.leaf_type),
      (
        encodings,
        (
          path,
          (
            fits_32 0 (omega arith),
            (
              fits_64 rows few,
              (size_fits, (size_fits, (fits_64 place early, tt))),
            ),
          ),
        ),
      ),
    )

chunk_has_form : (l : LeafIn) (place size rows : ℕ) → IsNear 16 l → place < 2 ^ 63 → size < 2 ^ 63 → rows < 2 ^ 63
    → HasForm chunk_form (chunk_tree l place size rows)
chunk_has_form l place size rows near early short few =
    struct_has_form chunk_form (chunk_tree l place size rows) refl
    (fits_64 place early, (column_has_form l place size rows near early short few, tt))

-- the chunk of a leaf
abbrev chunk_at : LeafIn → (place rows : ℕ) → ColumnChunk
chunk_at l place rows =
    record { path_in_schema = l.names; codec = pos 0; num_values = rows; data_page_offset = pos place }

chunk_said : (l : LeafIn) (place size rows : ℕ) → chunk_of (chunk_tree l place size rows) ≡ Ok (chunk_at l place rows)
unfolding chunk_of
chunk_said l place size rows = rw (names_said l.names) refl

-- ---- one chunk

record ChunkFound (place rows : ℕ) (l : LeafIn) (c : Column) (made : List ℕ × thrift.Tree) : Type 0 where
  written : chunk_written l.leaf_type (length l.nullable) c ≡ Ok made.0
  fits : place + length made.0 ≤ 67108864
  is : chunk_tree l place (length made.0) rows ≡ made.1

chunk_found : (place rows : ℕ) (l : LeafIn) (c : Column) (made : List ℕ × thrift.Tree)
    → chunk_from place rows l c ≡ Ok made → ChunkFound place rows l c made
unfolding chunk_from
chunk_found place rows l c made e =
    let gives : List ℕ → List ℕ × thrift.Tree = λ chunk. (chunk, chunk_tree l place (length chunk) rows) in
    let a = bind_ok (chunk_written l.leaf_type (length l.nullable) c)
    (λ chunk. refused_if (nat_lt 67108864 (place + length chunk)) TooLarge >>= λ fits. Ok (gives chunk)) made e in
    let b = allowed (nat_lt 67108864 (place + length a.0)) TooLarge (λ fits. Ok (gives a.0)) made a.2 in
    let is : gives a.0 ≡ made = ok_is {E = FileFault} (gives a.0) made b.1 in
    subst (ChunkFound place rows l c) is
    (record { written = a.1; fits = ltb-false 67108864 (place + length a.0) b.0; is = refl })

-- ---- chunks

-- a whole column of so many rows
abbrev pub IsColumnFor : (rows : ℕ) → LeafIn → Column → Type 0
IsColumnFor rows l c = IsWhole (leaf_of l) c × (length c.levels ≡ rows)

-- What is said of the chunks is read again as chunks that hold the columns, and has their form.
pub record ChunksHold (given : List ℕ) (place : ℕ) (ls : List LeafIn) (cs : List Column)
    (made : List ℕ × List thrift.Tree) : Type 0 where
  pub chunks : List ColumnChunk
  pub said : each chunk_of made.1 ≡ Ok chunks
  pub structs : all_as as_struct (trees_of made.1) ≡ Some made.1
  pub formed : MembersHaveForm chunk_form (trees_of made.1)
  pub many : length made.1 ≡ length ls
  pub held : AllZip (HoldsColumn given chunks) ls cs
  pub fits : place + length made.0 ≤ 67108864

-- a chunk of another path in front changes nothing
behind_other : (given : List ℕ) (first : ColumnChunk) (others : List ColumnChunk) (ls : List LeafIn) (cs : List Column)
    → AllByRecursion (IsElsewhere first.path_in_schema) ls → AllZip (HoldsColumn given others) ls cs
    → AllZip (HoldsColumn given (first ∷ others)) ls cs
behind_other given first others [] [] apart h = tt
behind_other given first others [] (c ∷ cs) apart h = absurd h
behind_other given first others (l ∷ ls) [] apart h = absurd h
behind_other given first others (l ∷ ls) (c ∷ cs) apart h = (
  record {
    chunk = h.0.chunk;
    found = inr (apart.0, h.0.found);
    uncompressed = h.0.uncompressed;
    counted = h.0.counted;
    pages = h.0.pages;
  },
  behind_other given first others ls cs apart.1 h.1,
)

-- one chunk in front of others
abbrev joins : List ℕ × thrift.Tree → List ℕ × List thrift.Tree → List ℕ × List thrift.Tree
joins first others = (first.0 ++ others.0, first.1 ∷ others.1)

-- the first chunk, and those behind it
chunk_before : (given : List ℕ) (place rows : ℕ) (l : LeafIn) (ls : List LeafIn) (c : Column) (cs : List Column)
    (first : List ℕ × thrift.Tree) (others : List ℕ × List thrift.Tree) → rows ≤ 4194304
    → AreApart (l ∷ ls) → IsNear 16 l → length c.levels ≡ rows → ChunkFound place rows l c first
    → ChunkHolds (leaf_of l) given (pos place) c → ChunksHold given (place + length first.0) ls cs others
    → ChunksHold given place (l ∷ ls) (c ∷ cs) (joins first others)
chunk_before given place rows l ls c cs first others few apart near counted one pages rest =
    let chunk = chunk_at l place rows in
    let read : chunk_of first.1 ≡ Ok chunk =
    subst (λ t. chunk_of t ≡ Ok chunk) one.is (chunk_said l place (length first.0) rows) in
    let form : HasForm chunk_form first.1 =
    subst (HasForm chunk_form) one.is
    (chunk_has_form l place (length first.0) rows near (omega (arith, one.fits)) (omega (arith, one.fits))
    (omega arith)) in
    let struct_first : all_as as_struct (trees_of (first.1 ∷ others.1)) ≡ Some (first.1 ∷ others.1) =
    subst (λ t. all_as as_struct (trees_of (t ∷ others.1)) ≡ Some (t ∷ others.1)) one.is (rw rest.structs refl) in
    record {
      chunks = chunk ∷ rest.chunks;
      said = rw (read, rest.said) refl;
      structs = struct_first;
      formed = (form, rest.formed);
      many = ap suc rest.many;
      held = (
        record { chunk = chunk; found = inl (refl, refl); uncompressed = refl; counted = sym counted; pages = pages },
        behind_other given chunk rest.chunks ls cs apart.0 rest.held,
      );
      fits = omega (arith, length-append first.0 others.0, rest.fits);
    }

-- nothing is written where there are no leaves
nothing_held : (given : List ℕ) (place : ℕ) (made : List ℕ × List thrift.Tree) → place ≤ 67108864
    → ([], []) ≡ made → ChunksHold given place [] [] made
nothing_held given place made early is = subst (ChunksHold given place [] []) is (record {
  chunks = [];
  said = refl;
  structs = refl;
  formed = tt;
  many = refl;
  held = tt;
  fits = omega arith;
})

-- The chunks that are written for whole columns hold them, whatever stands before them, 4 bytes at least, and behind
-- them.
pub chunks_hold : (rows : ℕ) (ls : List LeafIn) (cs : List Column) (before behind : List ℕ)
    (made : List ℕ × List thrift.Tree) → chunks_from (length before) rows ls cs ≡ Ok made → rows ≤ 4194304
    → 4 ≤ length before → length before ≤ 67108864 → AreApart ls → AllByRecursion (IsNear 16) ls
    → AllZip (IsColumnFor rows) ls cs → ChunksHold (before ++ (made.0 ++ behind)) (length before) ls cs made
unfolding chunks_from
chunks_hold rows [] [] before behind made e few four early apart near whole =
    nothing_held (before ++ (made.0 ++ behind)) (length before) made early (ok_is {E = FileFault} ([], []) made e)
chunks_hold rows [] (c ∷ cs) before behind made e few four early apart near whole = absurd whole
chunks_hold rows (l ∷ ls) [] before behind made e few four early apart near whole = absurd whole
chunks_hold rows (l ∷ ls) (c ∷ cs) before behind made e few four early apart near whole =
    let place = length before in
    let a = bind_ok (chunk_from place rows l c)
    (λ first. chunks_from (place + length first.0) rows ls cs >>= λ others. Ok (joins first others)) made e in
    let first = a.0 in
    let b = bind_ok (chunks_from (place + length first.0) rows ls cs) (λ others. Ok (joins first others)) made a.2 in
    let others = b.0 in
    let is : joins first others ≡ made = ok_is {E = FileFault} (joins first others) made b.2 in
    let one = chunk_found place rows l c first a.1 in
    let given = before ++ (first.0 ++ (others.0 ++ behind)) in
    let same : given ≡ before ++ ((first.0 ++ others.0) ++ behind) =
    ap (λ (t : List ℕ). before ++ t) (sym (append_assoc first.0 others.0 behind)) in
    let pages : ChunkHolds (leaf_of l) given (pos place) c =
    written_held (leaf_of l) c before first.0 (others.0 ++ behind) near.0.flags whole.0.0 one.written four in
    let next : length (before ++ first.0) ≡ place + length first.0 = length-append before first.0 in
    let made_behind : chunks_from (length (before ++ first.0)) rows ls cs ≡ Ok others =
    subst (λ n. chunks_from n rows ls cs ≡ Ok others) (sym next) b.1 in
    let behind_first = chunks_hold rows ls cs (before ++ first.0) behind others made_behind few
    (omega (arith, next)) (omega (arith, next, one.fits)) apart.1 near.1 whole.1 in
    let rest : ChunksHold given (place + length first.0) ls cs others =
    subst (λ n. ChunksHold given n ls cs others) next
    (subst (λ g. ChunksHold g (length (before ++ first.0)) ls cs others)
    (append_assoc before first.0 (others.0 ++ behind)) behind_first) in
    subst (λ m. ChunksHold (before ++ (m.0 ++ behind)) place (l ∷ ls) (c ∷ cs) m) is
    (subst (λ g. ChunksHold g place (l ∷ ls) (c ∷ cs) (joins first others)) same
    (chunk_before given place rows l ls c cs first others few apart near.0 whole.0.1 one pages rest))
