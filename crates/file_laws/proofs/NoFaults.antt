-- No fault stands in a file of rows: what it says isn't so where the rows are read.
use Rattle.std.proofs.Common.{◌≡◌, ℕ, ◌<◌, ◌≤◌, ◌^◌, ltb, eqb, not, Bool, true, false, cond, ℤ, pos, List, [], ◌∷◌, ◌++◌, length, drop, Option, None, Some, Ok, Err, inl, inr, refl, sym, ap, subst, ◌∙◌, arith, append_assoc, length-append}
use Rattle.std.specs.Prelude.{All, Contains, T}
use Rattle.std.specs.Int.{w32, to_le_bytes}
use Rattle.std.specs.Int.Signed.{◌<ℤ◌}
use Rattle.std.specs.List.{AllZip}
use Rattle.std.specs.Ordering.{int_eq}
use Rattle.std.proofs.lemmas.Bool.{and_parts, both_ways, cond-false, ltb-false, ltb-true, ne_eqb, not-true}
use Rattle.std.proofs.lemmas.List.Elements.{All-cons, All-contains, All-nil}
use Rattle.outcomes.specs.Results.{◌>>=◌, or_refusal, refused_if}
use Rattle.outcomes.specs.Bytes.{IsBytes}
use Rattle.thrift_core.specs.Reading.{struct_at}
use Rattle.thrift_values.specs.declared.fault.ThriftFault.{ThriftFault}
use Rattle.thrift_core.proofs.Callers.{struct_at_again}
use Rattle.row_core.specs.Conforms.{is_leaf_value}
use Rattle.row_core.specs.Rows.{Row, text}
use Rattle.schema_tree.specs.Limits.{IsWithinLimits}
use Rattle.schema_tree.specs.Tree.{Tree}
use Rattle.row_assembly.specs.Assembly.{assembled}
use Rattle.row_assembly.specs.Columns.{Column}
use Rattle.row_assembly.proofs.Callers.{assembled_sound}
use Rattle.parquet_footer.specs.Frame.{framed, magic}
use Rattle.parquet_footer.specs.Metadata.{ColumnChunk, RowGroup, FileMetaData, metadata_of}
use Rattle.parquet_footer.specs.Reading.{claims_within_limit, within_limits}
use Rattle.parquet_footer.specs.declared.fault.FileFault.{FileFault}
use Rattle.parquet_footer.specs.declared.fault.FileFault.TheVariants.{BadMagic, BadFooter, BadOffset, BadPage, Codec, CountMismatch, Encoding, NotUtf8, PageKind, SchemaMismatch, TooLarge}
use Rattle.parquet_footer.proofs.Callers.{Parts, bind_ok, frame_found, held, ok_is, one_frame, parts_again, passed}
use Rattle.parquet_pages.specs.Headers.{Content, Header, data_page}
use Rattle.parquet_pages.specs.Pages.{has_levels, no_cells, rle_where}
use Rattle.page_cells.specs.Levels.{may_stand}
use Rattle.page_cells.specs.Texts.{is_proper, is_too_long}
use Rattle.parquet_pages.specs.Reading.{chunk_at, first_place, header_at, pages_at}
use Rattle.page_cells.specs.Types.{primitive_of}
use Rattle.parquet_pages.proofs.Callers as pages
use Rattle.parquet_schema.specs.Leaves.{LeafIn, leaves_in}
use Rattle.parquet_file.specs.File.{IsChunkOf, IsFile, KeepsLimits, leaf_of}
use Rattle.parquet_file.specs.Reading.{chunk_named, column_at, columns_at, rows_at}
use Rattle.parquet_file.proofs.Callers.{rows_only}
use Rattle.parquet_file.proofs.CodeGroups.{groups_many}
use Rattle.parquet_file.proofs.GroupRows.{chunk_again, chunk_found}
use Rattle.file_laws.specs.Faults.{FaultStands, HasBadFooter, HasBadOffset, HasBadPage, HasCountMismatch, HasEncoding, HasNoFrame, HasPageKind, HasSchemaMismatch, HasTooMuch, begins_early, begins_late, begins_otherwise, bytes_are_left, cells_are_bad, chunk_differs, chunk_is_missing, claims_rows, columns_differ, ends_early, ends_late, ends_otherwise, file_too_long, group_claims_rows, groups_differ, header_is_no_struct, header_lacks_field, is_no_struct, lacks_field, levels_encoded, null_is_out_of_place, sizes_differ, structs_differ, too_short, value_is_out_of_range, value_too_long, values_are_many, values_encoded}
use Rattle.file_laws.specs.Places.{HoldsSuiting}
use Rattle.file_laws.proofs.Groups.{shape_fits}
use Rattle.file_laws.proofs.Members.{all_pass, behind_inside, first_inside, none_pass}
use Rattle.file_laws.proofs.PageReads.{cells_read, header_read, page_read, tests_read}
use Rattle.file_laws.proofs.Chunks.{first_is}
use Rattle.file_laws.proofs.ReadSteps.{chunk_read, columns_read, fitted_read, group_read, leaf_read, opened}
use Rattle.file_laws.proofs.Steps.{never, there}

-- ---- the frame and the footer

parts_of : (bytes pages footer : List ℕ) → bytes ≡ framed pages footer → length footer < 2 ^ 32 → Parts bytes pages footer
parts_of bytes pages footer frame fits = subst (λ (b : List ℕ). Parts b pages footer) (sym frame) (parts_again pages footer fits)

last_apart : (a b c d e : List ℕ) → a ++ (b ++ (c ++ (d ++ e))) ≡ (a ++ (b ++ (c ++ d))) ++ e
last_apart a b c d e = rw (append_assoc a (b ++ (c ++ d)) e, append_assoc b (c ++ d) e, append_assoc c d e) refl

is_framed_file : (bytes : List ℕ) (t : Tree) (rows : List Row) → IsFile bytes t rows → HasNoFrame bytes → ⊥
is_framed_file bytes t rows file (too_short few) = omega (arith, few, (parts_of bytes file.pages file.footer file.frame file.length_fits).long)
is_framed_file bytes t rows file (begins_otherwise other) = other (file.pages ++ (file.footer ++ (to_le_bytes w32 (length file.footer) ++ magic))) file.frame
is_framed_file bytes t rows file (ends_otherwise other) =
    other (magic ++ (file.pages ++ (file.footer ++ to_le_bytes w32 (length file.footer)))) (file.frame ∙ last_apart magic file.pages file.footer (to_le_bytes w32 (length file.footer)) magic)

has_footer : (bytes : List ℕ) (t : Tree) (rows : List Row) (fault : ThriftFault) → IsFile bytes t rows → HasBadFooter bytes fault → ⊥
has_footer bytes t rows fault file (ends_early early is) =
    let p = parts_of bytes file.pages file.footer file.frame file.length_fits in
    omega (arith, early, p.long, p.counted)
has_footer bytes t rows fault file (is_no_struct front footer framing none) =
    let same = one_frame bytes framing.pages footer file.pages file.footer (parts_of bytes framing.pages footer framing.frame framing.length_fits)
    (parts_of bytes file.pages file.footer file.frame file.length_fits) in
    none.none file.says.front file.says.rest file.says.tree (same.1 ∙ file.says.parts) file.says.spelled
has_footer bytes t rows fault file (lacks_field front footer behind tree framing begin lacks) =
    let same = one_frame bytes framing.pages footer file.pages file.footer (parts_of bytes framing.pages footer framing.frame framing.length_fits)
    (parts_of bytes file.pages file.footer file.frame file.length_fits) in
    let one : struct_at footer ≡ Ok (tree, behind) = ap struct_at begin.parts ∙ struct_at_again begin.front tree behind begin.spelled in
    let other : struct_at footer ≡ Ok (file.says.tree, file.says.rest) =
    ap struct_at (same.1 ∙ file.says.parts) ∙ struct_at_again file.says.front file.says.tree file.says.rest file.says.spelled in
    let trees = ok_is {E = ThriftFault} (tree, behind) (file.says.tree, file.says.rest) (sym one ∙ other) in
    never file.metadata fault (metadata_of tree) (ap (λ (q : _ × List ℕ). metadata_of q.0) {x = (tree, behind)} {y = (file.says.tree, file.says.rest)} trees ∙ file.says.stands) lacks

-- ---- sizes

groups_few : (gs : List RowGroup) → claims_within_limit gs ≡ true → All (λ g. g.num_rows ≤ 4194304) gs
groups_few [] e = All-nil (λ g. g.num_rows ≤ 4194304)
groups_few (g ∷ gs) e =
    let k = and_parts (not (ltb 4194304 g.num_rows)) (claims_within_limit gs) e in
    All-cons (λ g. g.num_rows ≤ 4194304) g gs (ltb-false 4194304 g.num_rows (not-true _ k.0)) (groups_few gs k.1)

limits_few : (metadata : FileMetaData) → within_limits metadata ≡ Ok metadata → (metadata.num_rows ≤ 4194304) × All (λ g. g.num_rows ≤ 4194304) metadata.row_groups
unfolding within_limits
limits_few metadata e =
    let a = passed (ltb 4194304 metadata.num_rows) TooLarge (cond (claims_within_limit metadata.row_groups) (Ok metadata) (Err TooLarge)) metadata e in
    let b = held (claims_within_limit metadata.row_groups) TooLarge metadata metadata a.1 in
    (ltb-false 4194304 metadata.num_rows a.0, groups_few metadata.row_groups b.0)

is_small : (bytes : List ℕ) (t : Tree) (rows : List Row) → KeepsLimits bytes rows → rows_at bytes t ≡ Ok rows → HasTooMuch bytes t → ⊥
is_small bytes t rows kept e (file_too_long long) = omega (arith, long, kept.size)
is_small bytes t rows kept e (claims_rows given metadata o many) = omega (arith, many, (limits_few metadata (opened bytes t given metadata rows e o).limits).0)
is_small bytes t rows kept e (group_claims_rows given metadata g o inside many) =
    let few = All-contains (λ g. g.num_rows ≤ 4194304) metadata.row_groups g (limits_few metadata (opened bytes t given metadata rows e o).limits).1 inside in
    omega (arith, many, few)
is_small bytes t rows kept e (value_too_long p c rest v cells inside long) =
    both_ways _ (All-contains (λ v. is_too_long v ≡ false) c.values v (none_pass is_too_long c.values (tests_read bytes t p c rest rows e cells).short) inside) long

-- ---- pages

abbrev encoding_in : Content → ℤ
encoding_in (data_page count encoding level_encoding) = encoding
encoding_in _ = pos 0

abbrev level_encoding_in : Content → Option ℤ
level_encoding_in (data_page count encoding level_encoding) = level_encoding
level_encoding_in _ = None

is_rle : (levels : Bool) (n : ℤ) → rle_where levels ≡ Some n → n ≡ pos 3
is_rle true n is = cc
is_rle false n is = absurd cc

is_encoded : (bytes : List ℕ) (t : Tree) (n : ℤ) (rows : List Row) → rows_at bytes t ≡ Ok rows → HasEncoding bytes t n → ⊥
is_encoded bytes t n rows e (values_encoded p header behind count level has content other) =
    let b = header_read bytes t p header behind rows e has in
    other (ap encoding_in (sym content) ∙ ap (λ (h : Header). encoding_in h.content) b.plain)
is_encoded bytes t n rows e (levels_encoded p header behind count encoding has content other) =
    let b = header_read bytes t p header behind rows e has in
    other (is_rle (has_levels (leaf_of p.leaf)) n (sym (ap (λ (h : Header). level_encoding_in h.content) b.plain) ∙ ap level_encoding_in content))

is_kind : (bytes : List ℕ) (t : Tree) (n : ℤ) (rows : List Row) → rows_at bytes t ≡ Ok rows → HasPageKind bytes t n → ⊥
is_kind bytes t n rows e k =
    let b = header_read bytes t k.page k.header k.behind rows e k.has in
    k.other (sym k.kind ∙ ap (λ (h : Header). h.page_type) b.plain)

is_readable : (bytes : List ℕ) (t : Tree) (fault : ThriftFault) (rows : List Row) → rows_at bytes t ≡ Ok rows → HasBadPage bytes t fault → ⊥
unfolding header_at
is_readable bytes t fault rows e (header_is_no_struct p met inside none) =
    let s = page_read bytes t p rows e met in
    let fails : header_at (has_levels (leaf_of p.leaf)) (drop p.place p.given) ≡ Err (BadPage fault) = rw none.first refl in
    never (s.header, s.behind) (BadPage fault) _ s.begins fails
is_readable bytes t fault rows e (header_lacks_field p tree behind met inside begin lacks) =
    let s = page_read bytes t p rows e met in
    let fails : header_at (has_levels (leaf_of p.leaf)) (drop p.place p.given) ≡ Err (BadPage fault) =
    rw (begin.parts, struct_at_again begin.front tree behind begin.spelled, lacks) refl in
    never (s.header, s.behind) (BadPage fault) _ s.begins fails
is_readable bytes t fault rows e (cells_are_bad p count body inner has bad is) =
    let r = cells_read bytes t p count body rows has e in
    never r.0 inner _ r.1 bad

-- ---- offsets

first_late : (l : LeafIn) (given : List ℕ) (stated : ℤ) (n : ℕ) (c : Column) → 0 < n → chunk_at (leaf_of l) given stated n ≡ Ok c → stated <ℤ pos 4 → ⊥
unfolding chunk_at
first_late l given stated n c some e early =
    let read = λ (place : ℕ). pages_at (length given) (leaf_of l) given place n in
    let b = bind_ok (first_place stated) read c (sym (cond-false (eqb n 0) (Ok no_cells) (first_place stated >>= read) (ne_eqb n 0 (λ none. absurd (omega (arith, some, none))))) ∙ e) in
    let first = first_is stated b.0 b.1 in
    let less : b.0 < 4 = below b.0 (ltb b.0 4) refl (subst (λ (z : ℤ). z <ℤ pos 4) first.0 early).lt in
    omega (arith, less, first.1)
  where
    below : (n : ℕ) (b : Bool) → ltb n 4 ≡ b → T b → n < 4
    below n true is less = ltb-true n 4 is
    below n false is less = absurd less

is_placed : (bytes : List ℕ) (t : Tree) (rows : List Row) → rows_at bytes t ≡ Ok rows → HasBadOffset bytes t → ⊥
is_placed bytes t rows e (begins_early given g l chunk has some early) =
    let k = chunk_read bytes t given g l chunk rows e has in
    first_late l given chunk.data_page_offset chunk.num_values k.column some k.reads early
is_placed bytes t rows e (begins_late p met late) = omega (arith, late, (page_read bytes t p rows e met).inside)
is_placed bytes t rows e (ends_late p header behind has long) =
    let b = header_read bytes t p header behind rows e has in
    omega (arith, long, ap (λ (h : Header). h.compressed_page_size) b.plain, ap length b.parts, length-append b.body.1 b.after)

-- ---- counts

is_counted : (bytes : List ℕ) (t : Tree) (rows : List Row) → IsWithinLimits t → IsBytes bytes → rows_at bytes t ≡ Ok rows → HasCountMismatch bytes t → ⊥
is_counted bytes t rows limits fits e (sizes_differ p header behind has differ) =
    let b = header_read bytes t p header behind rows e has in
    differ (ap (λ (h : Header). h.uncompressed_page_size) b.plain ∙ sym (ap (λ (h : Header). h.compressed_page_size) b.plain))
is_counted bytes t rows limits fits e (bytes_are_left p c rest cells some) = omega (arith, some, (tests_read bytes t p c rest rows e cells).whole)
is_counted bytes t rows limits fits e (values_are_many p c rest cells many) = omega (arith, many, (tests_read bytes t p c rest rows e cells).few)
is_counted bytes t rows limits fits e (chunk_differs given g l chunk has differ) =
    let k = chunk_read bytes t given g l chunk rows e has in
    let o = opened bytes t given has.leaf.has.metadata rows e has.leaf.has.opens in
    let front = frame_found bytes given has.leaf.has.opens.footer fits o.frame in
    differ ((pages.chunk_found (leaf_of l) given chunk.data_page_offset chunk.num_values k.column front.front_fits k.reads).2 ∙ k.counted)
is_counted bytes t rows limits fits e (groups_differ given metadata o differ) =
    let f = fitted_read given t metadata rows (opened bytes t given metadata rows e o).reads in
    let known = shape_fits t metadata f.0 limits f.1 in
    differ (sym (groups_many given t f.0 metadata.row_groups f.2.rows known.1 f.2.reads) ∙ f.2.counted)

-- ---- the schema

-- the chunk of a path is one of the chunks
chunk_inside : (path : List (List ℕ)) (chunks : List ColumnChunk) (chunk : ColumnChunk) → IsChunkOf path chunks chunk → Contains chunks chunk × (chunk.path_in_schema ≡ path)
chunk_inside path [] chunk h = absurd h
chunk_inside path (first ∷ others) chunk (inl h) =
    (subst (Contains (first ∷ others)) (sym h.1) (first_inside first others), ap (λ (c : ColumnChunk). c.path_in_schema) h.1 ∙ h.0)
chunk_inside path (first ∷ others) chunk (inr h) =
    let found = chunk_inside path others chunk h.1 in
    (behind_inside first chunk others found.0, found.1)

named_chunk : (given : List ℕ) (chunks : List ColumnChunk) (l : LeafIn) (c : Column) → column_at given chunks l ≡ Ok c → (chunk : ColumnChunk) × (chunk_named l.names chunks ≡ Some chunk)
unfolding column_at
named_chunk given chunks l c e =
    let reads = λ (chunk : ColumnChunk). chunk_at (leaf_of l) given chunk.data_page_offset chunk.num_values in
    let a = bind_ok (or_refusal (chunk_named l.names chunks) SchemaMismatch) (λ chunk. refused_if (not (int_eq chunk.codec (pos 0))) (Codec chunk.codec) >>= λ plain. reads chunk) c e in
    (a.0, there (chunk_named l.names chunks) SchemaMismatch a.0 a.1)

column_again : (given : List ℕ) (g : RowGroup) (l : LeafIn) (c : Column) → HoldsSuiting given g l c → column_at given g.columns l ≡ Ok c
unfolding column_at
column_again given g l c h =
    rw (chunk_again l.names g.columns h.0.chunk h.0.found, h.0.uncompressed, h.0.counted) (pages.chunk_only (leaf_of l) given h.0.chunk.data_page_offset c h.0.pages h.1)

columns_again : (given : List ℕ) (g : RowGroup) (ls : List LeafIn) (cs : List Column) → AllZip (HoldsSuiting given g) ls cs → columns_at given g.columns ls ≡ Ok cs
columns_again given g [] [] h = refl
columns_again given g [] (c ∷ cs) h = absurd h
columns_again given g (l ∷ ls) [] h = absurd h
columns_again given g (l ∷ ls) (c ∷ cs) h = rw (column_again given g l c h.0, columns_again given g ls cs h.1) refl

is_of_table : (bytes : List ℕ) (t : Tree) (rows : List Row) → rows_at bytes t ≡ Ok rows → HasSchemaMismatch bytes t → ⊥
is_of_table bytes t rows e (columns_differ given metadata o none) =
    let f = fitted_read given t metadata rows (opened bytes t given metadata rows e o).reads in
    some_none f.0 (sym f.1 ∙ none)
  where
    some_none : {A : Type 0} (x : A) → Some x ≡ None → ⊥
    some_none x is = cc
is_of_table bytes t rows e (chunk_is_missing given g l leaf none) =
    let c = leaf_read bytes t given g l rows e leaf in
    let k = named_chunk given g.columns l c.0 c.1 in
    let found = chunk_inside l.names g.columns k.0 (chunk_found l.names g.columns k.0 k.1) in
    none k.0 found.0 found.1
is_of_table bytes t rows e (null_is_out_of_place p c rest level cells inside bad) =
    both_ways _ bad (All-contains (λ level. may_stand p.leaf.nullable level ≡ true) c.levels level (all_pass (may_stand p.leaf.nullable) c.levels (tests_read bytes t p c rest rows e cells).nulls) inside)
is_of_table bytes t rows e (value_is_out_of_range p c rest v cells inside bad) =
    let in_range = is_leaf_value (primitive_of p.leaf.leaf_type) in
    both_ways _ bad (All-contains (λ v. in_range v ≡ true) c.values v (all_pass in_range c.values (tests_read bytes t p c rest rows e cells).in_range) inside)
is_of_table bytes t rows e (structs_differ given shape g cs has held none) =
    let made = group_read bytes t given shape g rows e has in
    let are = columns_read given t shape g made.0 made.1 in
    let same : are.columns ≡ cs = ok_is {E = FileFault} are.columns cs (sym are.reads ∙ columns_again given g (leaves_in t shape) cs held) in
    none are.makes.0 (assembled_sound shape cs are.makes.0 (ap (assembled shape) (sym same) ∙ are.makes.1))

-- ---- all of them

by_fault : (bytes : List ℕ) (t : Tree) (fault : FileFault) (rows : List Row) → IsWithinLimits t → IsBytes bytes → IsFile bytes t rows → KeepsLimits bytes rows → rows_at bytes t ≡ Ok rows
    → FaultStands bytes t fault → ⊥
by_fault bytes t BadMagic rows limits fits file kept e h = is_framed_file bytes t rows file h
by_fault bytes t (BadFooter fault) rows limits fits file kept e h = has_footer bytes t rows fault file h
by_fault bytes t (Codec n) rows limits fits file kept e h = h.other (sym h.codec ∙ (chunk_read bytes t h.given h.group h.leaf h.chunk rows e h.has).plain)
by_fault bytes t (Encoding n) rows limits fits file kept e h = is_encoded bytes t n rows e h
by_fault bytes t (PageKind n) rows limits fits file kept e h = is_kind bytes t n rows e h
by_fault bytes t BadOffset rows limits fits file kept e h = is_placed bytes t rows e h
by_fault bytes t CountMismatch rows limits fits file kept e h = is_counted bytes t rows limits fits e h
by_fault bytes t SchemaMismatch rows limits fits file kept e h = is_of_table bytes t rows e h
by_fault bytes t TooLarge rows limits fits file kept e h = is_small bytes t rows kept e h
by_fault bytes t NotUtf8 rows limits fits file kept e h =
    both_ways _ h.bad (All-contains (λ v. is_proper v ≡ true) h.column.values (text h.content)
    (all_pass is_proper h.column.values (tests_read bytes t h.page h.column h.rest rows e h.has).texts) h.inside)
by_fault bytes t (BadPage fault) rows limits fits file kept e h = is_readable bytes t fault rows e h

pub no_fault_stands : (bytes : List ℕ) (t : Tree) (fault : FileFault) (rows : List Row) → IsWithinLimits t → IsBytes bytes → IsFile bytes t rows → KeepsLimits bytes rows → FaultStands bytes t fault → ⊥
no_fault_stands bytes t fault rows limits fits file kept h = by_fault bytes t fault rows limits fits file kept (rows_only bytes t rows limits file kept) h
