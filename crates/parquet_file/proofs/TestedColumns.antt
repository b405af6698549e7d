-- Columns that are tested one after another, and what stands behind so many of their cells.
use Rattle.std.proofs.Common.{◌≡◌, ℕ, ◌-◌, ◌≤◌, ◌==◌, not, pos, count_by, length, take, drop, map, List, [], ◌∷◌, ◌++◌, All, true, Result, Ok, Err, refl, sym, ap, subst, ◌∙◌, arith}
use Rattle.std.specs.List.{AllZip, list_all}
use Rattle.std.specs.Ordering.{int_eq}
use Rattle.std.proofs.lemmas.Bool.{and_parts, eq-eqb, eqb-true}
use Rattle.std.proofs.lemmas.List.{append-nil, drop_all, length-append, length-drop, take_all}
use Rattle.std.proofs.lemmas.List.Elements.{All-drop, All-take}
use Rattle.outcomes.specs.Outcome.{Said, IsSaid}
use Rattle.outcomes.specs.Results.{◌>>=◌, or_refusal, refused_if}
use Rattle.outcomes.specs.Bytes.{IsBytes}
use Rattle.outcomes.proofs.Callers.{regroup, said_too, with_front}
use Rattle.thrift_core.specs.Fields.{each}
use Rattle.shred.specs.Columns.{Column}
use Rattle.shred.specs.Fits.{is_plain}
use Rattle.shred.specs.Parts.{cut_off, cut_out, highest_in, part_of, ArePlain}
use Rattle.shred.specs.Ways.{Step, highest}
use Rattle.row_assembly.specs.Assembly.{IsWhole}
use Rattle.row_assembly.specs.Parts.{fronts, rests}
use Rattle.parquet_footer.specs.Metadata.{ColumnChunk}
use Rattle.parquet_footer.specs.declared.fault.FileFault.{FileFault}
use Rattle.parquet_footer.specs.declared.fault.FileFault.TheVariants.{Codec, SchemaMismatch}
use Rattle.parquet_footer.proofs.Callers.{bind_ok}
use Rattle.parquet_pages.specs.Held.{AreLeft}
use Rattle.page_cells.specs.Levels.{present}
use Rattle.parquet_pages.specs.Reading.{chunk_at}
use Rattle.parquet_pages.specs.declared.reader.ColumnReader.{ColumnReader}
use Rattle.parquet_pages.proofs.Callers.{chunk_sound}
use Rattle.parquet_schema.specs.Leaves.{LeafIn}
use Rattle.parquet_file.specs.File.{leaf_of}
use Rattle.parquet_file.specs.Internal.{levels_of, AreAllLeft, AreSoundColumns, IsSoundColumn}
use Rattle.parquet_file.specs.Reading.{chunk_named, column_at, columns_at, has_rows}
use Rattle.parquet_file.proofs.GroupSteps.{each_found}

-- ---- one column after another

rest_push : (n : ℕ) (ls : List LeafIn) (rs : List ColumnReader) (cs : List Column) (l : LeafIn) (r : ColumnReader)
    (c : Column) → AreAllLeft ls rs (rests n (levels_of ls) cs) → length cs ≡ length ls
    → AreLeft (leaf_of l) r (cut_off n (length l.nullable) c)
    → AreAllLeft (ls ++ (l ∷ [])) (rs ++ (r ∷ [])) (rests n (levels_of (ls ++ (l ∷ []))) (cs ++ (c ∷ [])))
rest_push n [] [] [] l r c h many one = (one, tt)
rest_push n [] [] (d ∷ cs) l r c h many one = absurd (omega (arith, many))
rest_push n [] (q ∷ rs) [] l r c h many one = absurd h
rest_push n [] (q ∷ rs) (d ∷ cs) l r c h many one = absurd h
rest_push n (k ∷ ls) rs [] l r c h many one = absurd (omega (arith, many))
rest_push n (k ∷ ls) [] (d ∷ cs) l r c h many one = absurd h
rest_push n (k ∷ ls) (q ∷ rs) (d ∷ cs) l r c h many one =
    (h.0, rest_push n ls rs cs l r c h.1 (omega (arith, many)) one)

-- Readers of the leaves so far have left what stands behind so many cells, and the rest is read.
pub record TestedSoFar (n : ℕ) (leaves : List LeafIn) (rs : List ColumnReader) (rest total : Result (List Column) FileFault)
    : Type 0 where
  pub done : List Column
  pub many : length done ≡ length leaves
  pub read : with_front done rest ≡ total
  pub left : AreAllLeft leaves rs (rests n (levels_of leaves) done)

none_in_front : (read : Result (List Column) FileFault) → with_front [] read ≡ read
none_in_front (Ok cs) = refl
none_in_front (Err e) = refl

pub test_begun : (n : ℕ) (rs : List ColumnReader) (total : Result (List Column) FileFault) → rs ≡ []
    → TestedSoFar n [] rs total total
test_begun n rs total none = rw none (record { done = []; many = refl; read = none_in_front total; left = tt })

pub test_next : (n : ℕ) (leaves : List LeafIn) (rs : List ColumnReader) (l : LeafIn) (r : ColumnReader)
    (here : Result Column FileFault) (whole rest total : Result (List Column) FileFault) (c : Column)
    → whole ≡ (here >>= λ y. rest >>= λ ys. Ok (y ∷ ys)) → here ≡ Ok c
    → AreLeft (leaf_of l) r (cut_off n (length l.nullable) c) → TestedSoFar n leaves rs whole total
    → TestedSoFar n (leaves ++ (l ∷ [])) (rs ++ (r ∷ [])) rest total
test_next n leaves rs l r here whole rest total c is found one k =
    let behind : whole ≡ with_front (c ∷ []) rest = is ∙ rw found refl in
    let long = length-append k.done (c ∷ []) in
    let longer = length-append leaves (l ∷ []) in
    let many = k.many in
    record {
      done = k.done ++ (c ∷ []);
      many = omega (arith, long, longer, many);
      read = sym (regroup k.done (c ∷ []) rest) ∙ ap (with_front k.done) (sym behind) ∙ k.read;
      left = rest_push n leaves rs k.done l r c k.left k.many one;
    }

pub test_refused : (said : Said FileFault) (n : ℕ) (leaves : List LeafIn) (rs : List ColumnReader)
    (here : Result Column FileFault) (whole rest total : Result (List Column) FileFault)
    → whole ≡ (here >>= λ y. rest >>= λ ys. Ok (y ∷ ys)) → IsSaid said here → TestedSoFar n leaves rs whole total
    → IsSaid said total
test_refused said n leaves rs here whole rest total is h k =
    said_too said here total (λ e found.
    let refused : whole ≡ Err e =
    is ∙ ap (λ (r : Result Column FileFault). r >>= λ y. rest >>= λ ys. Ok (y ∷ ys)) found in
    sym k.read ∙ ap (with_front k.done) refused) h

pub test_all : {L : Type 0} (view : L → LeafIn) (ls : List L) (i n : ℕ) (rs : List ColumnReader)
    (read : LeafIn → Result Column FileFault) (total : Result (List Column) FileFault) → length ls ≤ i
    → TestedSoFar n (map view (take i ls)) rs (each read (map view (drop i ls))) total
    → (cs : List Column) × (total ≡ Ok cs) × AreAllLeft (map view ls) rs (rests n (levels_of (map view ls)) cs)
test_all view ls i n rs read total ended k =
    let none : map view (drop i ls) ≡ [] = ap (map view) (drop_all i ls ended) in
    let whole : map view (take i ls) ≡ map view ls = ap (map view) (take_all i ls ended) in
    let all : with_front k.done (each read (map view (drop i ls))) ≡ Ok k.done =
    rw none (ap (λ (cs : List Column). Ok cs) (append-nil k.done)) in
    (k.done, sym k.read ∙ all, subst (λ (leaves : List LeafIn). AreAllLeft leaves rs (rests n (levels_of leaves) k.done)) whole k.left)

-- ---- columns that are read are sound

record IsRead (l : LeafIn) (c : Column) : Type 0 where
  pub below : All (λ level. level ≤ length l.nullable) c.levels
  pub each : present (length l.nullable) c.levels ≡ length c.values
  pub plain : ArePlain c

column_read : (given : List ℕ) (chunks : List ColumnChunk) (l : LeafIn) (c : Column) → IsBytes given
    → column_at given chunks l ≡ Ok c → IsRead l c
unfolding column_at
column_read given chunks l c fits e =
    let rest = λ (chunk : ColumnChunk). chunk_at (leaf_of l) given chunk.data_page_offset chunk.num_values in
    let b = bind_ok (or_refusal (chunk_named l.names chunks) SchemaMismatch)
    (λ chunk. refused_if (not (int_eq chunk.codec (pos 0))) (Codec chunk.codec) >>= λ plain. rest chunk) c e in
    let k = bind_ok (refused_if (not (int_eq b.0.codec (pos 0))) (Codec b.0.codec)) (λ plain. rest b.0) c b.2 in
    let sound = chunk_sound (leaf_of l) given b.0.data_page_offset b.0.num_values c fits k.2 in
    record { below = sound.0; each = sound.1; plain = sound.2 }

-- What is known of columns of which each has so many levels, one for each way.
pub record AreRead (n : ℕ) (ls : List LeafIn) (ws : List (List Step)) (cs : List Column) : Type 0 where
  pub whole : AllZip (IsWhole n) ws cs
  pub sound : AreSoundColumns (levels_of ls) cs

all_read : (n : ℕ) (ls : List LeafIn) (ws : List (List Step)) (cs : List Column) → levels_of ls ≡ map highest ws
    → list_all (has_rows n) cs ≡ true → AllZip IsRead ls cs → AreRead n ls ws cs
all_read n [] [] [] same all read = record { whole = tt; sound = tt }
all_read n [] (w ∷ ws) [] same all read = absurd cc
all_read n [] ws (c ∷ cs) same all read = absurd read
all_read n (l ∷ ls) ws [] same all read = absurd read
all_read n (l ∷ ls) [] (c ∷ cs) same all read = absurd cc
all_read n (l ∷ ls) (w ∷ ws) (c ∷ cs) same all read =
    let top : length l.nullable ≡ highest w = cc in
    let others : levels_of ls ≡ map highest ws = cc in
    let k = and_parts (has_rows n c) (list_all (has_rows n) cs) all in
    let rest = all_read n ls ws cs others k.1 read.1 in
    let whole : IsWhole n w c = record {
      levels_each = eqb-true (length c.levels) n k.0;
      values_each = subst (λ (m : ℕ). count_by (λ level. level == m) c.levels ≡ length c.values) top read.0.each;
    } in
    record { whole = (whole, rest.whole); sound = (record { below = read.0.below; plain = read.0.plain }, rest.sound) }

pub columns_read : (given : List ℕ) (chunks : List ColumnChunk) (n : ℕ) (ls : List LeafIn) (ws : List (List Step))
    (cs : List Column) → IsBytes given → levels_of ls ≡ map highest ws → columns_at given chunks ls ≡ Ok cs
    → list_all (has_rows n) cs ≡ true → AreRead n ls ws cs
columns_read given chunks n ls ws cs fits same e all =
    all_read n ls ws cs same all
    (each_found (column_at given chunks) IsRead (λ l c is. column_read given chunks l c fits is) ls cs e)

-- ---- and so are parts of them

off_sound : (n top : ℕ) (c : Column) → IsSoundColumn top c → IsSoundColumn top (cut_off n top c)
off_sound n top c sound = record {
  below = All-drop (λ (level : ℕ). level ≤ top) n c.levels sound.below;
  plain = All-drop (λ v. is_plain v ≡ true) (highest_in top (take n c.levels)) c.values sound.plain;
}

front_sound : (n top : ℕ) (c : Column) → IsSoundColumn top c → IsSoundColumn top (cut_out 0 n top c)
front_sound n top c sound = record {
  below = All-take (λ (level : ℕ). level ≤ top) n c.levels sound.below;
  plain = All-take (λ v. is_plain v ≡ true) (highest_in top (part_of 0 n c.levels)) c.values sound.plain;
}

pub rests_sound : (n : ℕ) (tops : List ℕ) (cs : List Column) → AreSoundColumns tops cs → AreSoundColumns tops (rests n tops cs)
rests_sound n [] [] sound = tt
rests_sound n [] (c ∷ cs) sound = absurd sound
rests_sound n (top ∷ tops) [] sound = absurd sound
rests_sound n (top ∷ tops) (c ∷ cs) sound = (off_sound n top c sound.0, rests_sound n tops cs sound.1)

pub fronts_sound : (n : ℕ) (tops : List ℕ) (cs : List Column) → AreSoundColumns tops cs → AreSoundColumns tops (fronts n tops cs)
fronts_sound n [] [] sound = tt
fronts_sound n [] (c ∷ cs) sound = absurd sound
fronts_sound n (top ∷ tops) [] sound = absurd sound
fronts_sound n (top ∷ tops) (c ∷ cs) sound = (front_sound n top c sound.0, fronts_sound n tops cs sound.1)

-- the columns behind so many cells have so many levels less
pub rests_have : (rows n : ℕ) (tops : List ℕ) (cs : List Column) → AreSoundColumns tops cs → list_all (has_rows rows) cs ≡ true
    → list_all (has_rows (rows - n)) (rests n tops cs) ≡ true
rests_have rows n [] [] sound all = refl
rests_have rows n [] (c ∷ cs) sound all = absurd sound
rests_have rows n (top ∷ tops) [] sound all = absurd sound
rests_have rows n (top ∷ tops) (c ∷ cs) sound all =
    let k = and_parts (has_rows rows c) (list_all (has_rows rows) cs) all in
    let many : length (drop n c.levels) ≡ rows - n =
    length-drop n c.levels ∙ ap (λ (m : ℕ). m - n) (eqb-true (length c.levels) rows k.0) in
    rw (eq-eqb (length (drop n c.levels)) (rows - n) many, rests_have rows n tops cs sound.1 k.1) refl
