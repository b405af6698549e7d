-- What the tests of each member tell of a list: whether two paths are one, the chunk of a path, and its column.
use Rattle.std.proofs.Common.{◌≡◌, ℕ, pos, not, Result, Ok, Err, Bool, true, false, ◌&&◌, cond, List, [], ◌∷◌, length, map, Some, option_map, string_bytes, String, Vec, Global, bytes_eq, refl, ap, arith}
use Rattle.std.specs.List.{list_all, find, zip}
use Rattle.std.specs.Ordering.{int_eq}
use Rattle.outcomes.specs.Results.{◌>>=◌, or_refusal, refused_if}
use Rattle.thrift_core.specs.View.{texts_view}
use Rattle.parquet_footer.specs.Metadata.{ColumnChunk}
use Rattle.parquet_footer.specs.declared.fault.FileFault.{FileFault}
use Rattle.parquet_footer.specs.declared.fault.FileFault.TheVariants.{Codec, SchemaMismatch}
use Rattle.parquet_footer.proofs.Callers.{ok_is}
use Rattle.parquet_pages.specs.Reading.{chunk_at}
use Rattle.parquet_schema.specs.Leaves.{LeafIn}
use Rattle.parquet_file.specs.File.{leaf_of}
use Rattle.parquet_file.specs.Internal.{plain_chunk_named}
use Rattle.parquet_footer.specs.Views.{chunk_view, chunk_views}
use Rattle.parquet_footer.specs.declared.footer.ColumnChunk.{ColumnChunk as CodeColumnChunk}
use Rattle.parquet_file.specs.Reading.{chunk_named, column_at, same_path}

-- ---- paths

pub zipped_path : {A : Type 0} (names : List (Vec ℕ A)) (path : List (String Global)) → length names ≡ length path
    → list_all (λ p. bytes_eq p.0.items (string_bytes p.1)) (zip names path) ≡ same_path (texts_view names) (map string_bytes path)
zipped_path [] [] even = refl
zipped_path [] (other ∷ path) even = absurd (omega (arith, even))
zipped_path (name ∷ names) [] even = absurd (omega (arith, even))
zipped_path (name ∷ names) (other ∷ path) even = ap (λ (b : Bool). bytes_eq name.items (string_bytes other) && b) (zipped_path names path (omega (arith, even)))

pub uneven_path : {A : Type 0} (names : List (Vec ℕ A)) (path : List (String Global)) → (length names ≡ length path → ⊥) → same_path (texts_view names) (map string_bytes path) ≡ false
uneven_path [] [] uneven = absurd (uneven refl)
uneven_path [] (other ∷ path) uneven = refl
uneven_path (name ∷ names) [] uneven = refl
uneven_path (name ∷ names) (other ∷ path) uneven = elim (bytes_eq name.items (string_bytes other)) as (λ (b : Bool). (b && same_path (texts_view names) (map string_bytes path)) ≡ false) [
  | true ↦ uneven_path names path (λ even. uneven (omega (arith, even)))
  | false ↦ refl
]

-- ---- chunks

pub found_named : {A : Type 0} (path : List (List ℕ)) (cs : List (CodeColumnChunk A)) → option_map chunk_view (find (λ c. same_path (chunk_view c).path_in_schema path) cs) ≡ chunk_named path (chunk_views cs)
found_named path [] = refl
found_named {A} path (c ∷ cs) = elim (same_path (chunk_view c).path_in_schema path) as (λ (b : Bool). option_map chunk_view (cond b (Some c) (find (λ c. same_path (chunk_view c).path_in_schema path) cs)) ≡ cond b (Some (chunk_view c)) (chunk_named path (chunk_views cs))) [
  | true ↦ refl
  | false ↦ found_named path cs
]

tested : {Y : Type 0} (test : Result (Unit {0}) FileFault) (f : ColumnChunk → Result Y FileFault) (given chunk : ColumnChunk)
    → (test >>= λ plain. Ok given) ≡ Ok chunk → (test >>= λ plain. f given) ≡ f chunk
tested (Ok plain) f given chunk e = ap f (ok_is {E = FileFault} given chunk e)
tested (Err fault) f given chunk e = absurd cc

found_tested : {Y : Type 0} (found : Result ColumnChunk FileFault) (test : ColumnChunk → Result (Unit {0}) FileFault)
    (f : ColumnChunk → Result Y FileFault) (chunk : ColumnChunk) → (found >>= λ given. test given >>= λ plain. Ok given) ≡ Ok chunk
    → (found >>= λ given. test given >>= λ plain. f given) ≡ f chunk
found_tested (Ok given) test f chunk e = tested (test given) f given chunk e
found_tested (Err fault) test f chunk e = absurd cc

-- the column of a leaf whose chunk isn't compressed
pub column_by_chunk : (given : List ℕ) (chunks : List ColumnChunk) (l : LeafIn) (chunk : ColumnChunk) → plain_chunk_named l.names chunks ≡ Ok chunk
    → column_at given chunks l ≡ chunk_at (leaf_of l) given chunk.data_page_offset chunk.num_values
unfolding column_at
column_by_chunk given chunks l chunk e =
    found_tested (or_refusal (chunk_named l.names chunks) SchemaMismatch)
    (λ c. refused_if (not (int_eq c.codec (pos 0))) (Codec c.codec))
    (λ c. chunk_at (leaf_of l) given c.data_page_offset c.num_values) chunk e
