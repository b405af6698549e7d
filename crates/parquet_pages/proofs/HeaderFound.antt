-- What a page's header that is read says of its body.
use Rattle.std.proofs.Common.{◌≡◌, ℕ, ℤ, pos, Bool, true, false, not, ltb, eqb, cond, Option, Some, None, is_some, List, ◌++◌, length, take, drop, Ok, refl, sym, ap, subst, ◌∙◌, length-take-le, take-append-drop}
use Rattle.std.specs.Ordering.{int_eq}
use Rattle.std.proofs.lemmas.Bool.{ltb-false, eqb-true, not-false}
use Rattle.std.proofs.lemmas.Bool.Decides.{Decides-int_eq}
use Rattle.outcomes.specs.Results.{◌>>=◌, refused_as, refused_if}
use Rattle.outcomes.specs.Bytes.{IsBytes}
use Rattle.thrift_core.specs.Fields.{as_integer, as_struct, needed, count}
use Rattle.thrift_core.specs.Reading.{struct_at}
use Rattle.thrift_core.specs.Spelling.{SpellsStruct}
use Rattle.thrift_core.specs.Tree.{Tree}
use Rattle.thrift_values.specs.declared.fault.ThriftFault.{ThriftFault}
use Rattle.thrift_core.proofs.Callers.{struct_at_found}
use Rattle.parquet_pages.specs.Headers.{Content, Header, content_of, data_page, data_page_of, dictionary_page, dictionary_page_of, header_of, level_encoding_of, other_page}
use Rattle.parquet_pages.specs.Pages.{Leaf, has_levels, plain_header, rle_where}
use Rattle.parquet_pages.specs.Reading.{body_at, encoding_fault, header_at, level_encoding_fault, unless_fault}
use Rattle.parquet_footer.specs.declared.fault.FileFault.{FileFault}
use Rattle.parquet_footer.specs.declared.fault.FileFault.TheVariants.{BadOffset, BadPage, CountMismatch, Encoding}
use Rattle.page_cells.proofs.Callers.{allowed, bind_ok, ok_is, told_ok}

-- ---- the header in front

pub record HeaderInFront (levels : Bool) (given : List ℕ) (header : Header) (rest : List ℕ) : Type 0 where
  pub front : List ℕ
  pub tree : Tree
  pub split : given ≡ front ++ rest
  pub spelled : SpellsStruct front tree
  pub says : header_of levels tree ≡ Ok header

pub header_found : (levels : Bool) (given : List ℕ) (header : Header) (rest : List ℕ) → IsBytes given
    → header_at levels given ≡ Ok (header, rest) → HeaderInFront levels given header rest
unfolding header_at
header_found levels given header rest h e =
    let b = bind_ok (refused_as BadPage (struct_at given))
    (λ read. refused_as BadPage (header_of levels read.0) >>= λ header. Ok (header, read.1)) (header, rest) e in
    let s = struct_at_found given b.0.0 b.0.1 h (told_ok BadPage (struct_at given) b.0 b.1) in
    let k = bind_ok (refused_as BadPage (header_of levels b.0.0)) (λ header. Ok (header, b.0.1)) (header, rest) b.2 in
    subst (λ (p : Header × List ℕ). HeaderInFront levels given p.0 p.1) {x = (k.0, b.0.1)}
    (ok_is {E = FileFault} (k.0, b.0.1) (header, rest) k.2)
    (record {
      front = s.front;
      tree = b.0.0;
      split = s.split;
      spelled = s.spelled;
      says = told_ok BadPage (header_of levels b.0.0) k.0 k.1;
    })

-- ---- which page it is

-- a data page has type 0, and an encoding of its levels just where it has levels
abbrev pub IsTold : Bool → ℤ → Content → Type 0
IsTold levels page_type (data_page num_values encoding level_encoding) =
    (page_type ≡ pos 0) × (is_some level_encoding ≡ levels)
IsTold levels page_type content = Unit {0}

level_encoding_told : (levels : Bool) (t : Tree) (level_encoding : Option ℤ)
    → level_encoding_of levels t ≡ Ok level_encoding
    → is_some level_encoding ≡ levels
level_encoding_told true t level_encoding e =
    let b = bind_ok (needed as_integer (pos 3) t) (λ encoding. Ok (Some encoding)) level_encoding e in
    ap is_some (sym (ok_is {E = ThriftFault} (Some b.0) level_encoding b.2))
level_encoding_told false t level_encoding e = ap is_some (sym (ok_is {E = ThriftFault} None level_encoding e))

data_page_told : (levels : Bool) (page_type : ℤ) (t : Tree) (content : Content) → page_type ≡ pos 0
    → data_page_of levels t ≡ Ok content → IsTold levels page_type content
unfolding data_page_of
data_page_told levels page_type t content is e =
    let a = bind_ok (count (pos 1) t) (λ num_values. needed as_integer (pos 2) t >>= λ encoding.
    level_encoding_of levels t >>= λ level_encoding.
    Ok (data_page num_values encoding level_encoding)) content e in
    let b = bind_ok (needed as_integer (pos 2) t) (λ encoding. level_encoding_of levels t >>= λ level_encoding.
    Ok (data_page a.0 encoding level_encoding)) content a.2 in
    let c = bind_ok (level_encoding_of levels t) (λ level_encoding. Ok (data_page a.0 b.0 level_encoding)) content
    b.2 in
    subst (IsTold levels page_type) {x = data_page a.0 b.0 c.0}
    (ok_is {E = ThriftFault} (data_page a.0 b.0 c.0) content c.2)
    (is, level_encoding_told levels t c.0 c.1)

dictionary_page_told : (levels : Bool) (page_type : ℤ) (t : Tree) (content : Content)
    → dictionary_page_of t ≡ Ok content
    → IsTold levels page_type content
unfolding dictionary_page_of
dictionary_page_told levels page_type t content e =
    let a = bind_ok (count (pos 1) t) (λ num_values. needed as_integer (pos 2) t >>= λ encoding.
    Ok (dictionary_page num_values encoding)) content e in
    let b = bind_ok (needed as_integer (pos 2) t) (λ encoding. Ok (dictionary_page a.0 encoding)) content a.2 in
    subst (IsTold levels page_type) {x = dictionary_page a.0 b.0}
    (ok_is {E = ThriftFault} (dictionary_page a.0 b.0) content b.2) tt

-- what a reading gives by each outcome of two tests
content_by : (levels first second : Bool) (page_type : ℤ) (t : Tree) (content : Content)
    → (first ≡ true → page_type ≡ pos 0)
    → cond first (needed as_struct (pos 5) t >>= data_page_of levels)
    (cond second (needed as_struct (pos 7) t >>= dictionary_page_of) (Ok other_page)) ≡ Ok content
    → IsTold levels page_type content
content_by levels true second page_type t content is e =
    let b = bind_ok (needed as_struct (pos 5) t) (data_page_of levels) content e in
    data_page_told levels page_type b.0 content (is refl) b.2
content_by levels false true page_type t content is e =
    let b = bind_ok (needed as_struct (pos 7) t) dictionary_page_of content e in
    dictionary_page_told levels page_type b.0 content b.2
content_by levels false false page_type t content is e =
    subst (IsTold levels page_type) (ok_is {E = ThriftFault} other_page content e) tt

content_told : (levels : Bool) (page_type : ℤ) (t : Tree) (content : Content)
    → content_of levels page_type t ≡ Ok content
    → IsTold levels page_type content
unfolding content_of
content_told levels page_type t content e =
    content_by levels (int_eq page_type (pos 0)) (int_eq page_type (pos 2)) page_type t content
    (Decides-int_eq page_type (pos 0)).0 e

abbrev header_with : ℤ → ℕ → ℕ → Content → Header
header_with page_type uncompressed compressed content =
    record {
      page_type = page_type;
      uncompressed_page_size = uncompressed;
      compressed_page_size = compressed;
      content = content;
    }

pub header_told : (levels : Bool) (t : Tree) (header : Header) → header_of levels t ≡ Ok header
    → IsTold levels header.page_type header.content
unfolding header_of
header_told levels t header e =
    let a = bind_ok (needed as_integer (pos 1) t) (λ page_type. count (pos 2) t >>= λ u. count (pos 3) t >>= λ c.
    content_of levels page_type t >>= λ content. Ok (header_with page_type u c content)) header e in
    let b = bind_ok (count (pos 2) t) (λ u. count (pos 3) t >>= λ c. content_of levels a.0 t >>= λ content.
    Ok (header_with a.0 u c content)) header a.2 in
    let c = bind_ok (count (pos 3) t) (λ c. content_of levels a.0 t >>= λ content. Ok (header_with a.0 b.0 c content))
    header b.2 in
    let d = bind_ok (content_of levels a.0 t) (λ content. Ok (header_with a.0 b.0 c.0 content)) header c.2 in
    subst (λ (h : Header). IsTold levels h.page_type h.content) {x = header_with a.0 b.0 c.0 d.0}
    (ok_is {E = ThriftFault} (header_with a.0 b.0 c.0 d.0) header d.2)
    (content_told levels a.0 t d.0 d.1)

-- ---- the body in front

-- encodings that aren't refused
record AreFine {A : Type 0} (levels : Bool) (encoding : ℤ) (level_encoding : Option ℤ) (x y : A) : Type 0 where
  plainly : encoding ≡ pos 0
  of_levels : level_encoding ≡ rle_where levels
  same : x ≡ y

level_encoding_by : {A : Type 0} (test : Bool) (encoding : ℤ) (x y : A) → (test ≡ true → encoding ≡ pos 3)
    → unless_fault (cond test None (Some (Encoding encoding))) x ≡ Ok y → (encoding ≡ pos 3) × (x ≡ y)
level_encoding_by true encoding x y is e = (is refl, ok_is {E = FileFault} x y e)
level_encoding_by false encoding x y is e = absurd cc

level_encoding_fine : {A : Type 0} (levels : Bool) (level_encoding : Option ℤ) (x y : A)
    → is_some level_encoding ≡ levels
    → unless_fault (level_encoding_fault level_encoding) x ≡ Ok y → (level_encoding ≡ rle_where levels) × (x ≡ y)
level_encoding_fine levels None x y told e = (ap rle_where told, ok_is {E = FileFault} x y e)
level_encoding_fine levels (Some encoding) x y told e =
    let k = level_encoding_by (int_eq encoding (pos 3)) encoding x y (Decides-int_eq encoding (pos 3)).0 e in
    (ap (λ (z : ℤ). Some z) k.0 ∙ ap rle_where told, k.1)

encodings_by : {A : Type 0} (levels test : Bool) (encoding : ℤ) (level_encoding : Option ℤ) (x y : A)
    → (test ≡ true → encoding ≡ pos 0)
    → is_some level_encoding ≡ levels
    → unless_fault (cond test (level_encoding_fault level_encoding) (Some (Encoding encoding))) x ≡ Ok y
    → AreFine levels encoding level_encoding x y
encodings_by levels true encoding level_encoding x y is told e =
    let k = level_encoding_fine levels level_encoding x y told e in
    record { plainly = is refl; of_levels = k.0; same = k.1 }
encodings_by levels false encoding level_encoding x y is told e = absurd cc

encodings_fine : {A : Type 0} (levels : Bool) (encoding : ℤ) (level_encoding : Option ℤ) (x y : A)
    → is_some level_encoding ≡ levels
    → unless_fault (encoding_fault encoding level_encoding) x ≡ Ok y → AreFine levels encoding level_encoding x y
encodings_fine levels encoding level_encoding x y told e =
    encodings_by levels (int_eq encoding (pos 0)) encoding level_encoding x y (Decides-int_eq encoding (pos 0)).0 told e

-- the body of a data page in front, and what the header says of it
pub record BodyInFront (l : Leaf) (header : Header) (behind : List ℕ) (num_values : ℕ) (body : List ℕ) : Type 0 where
  pub rest : List ℕ
  pub split : behind ≡ body ++ rest
  pub is : header ≡ plain_header l num_values (length body)

-- a header by its parts
is_plain : (l : Leaf) (page_type : ℤ) (uncompressed compressed num_values size : ℕ) (encoding : ℤ)
    (level_encoding : Option ℤ)
    → page_type ≡ pos 0 → uncompressed ≡ compressed → compressed ≡ size → encoding ≡ pos 0
    → level_encoding ≡ rle_where (has_levels l)
    → header_with page_type uncompressed compressed
    (data_page num_values encoding level_encoding) ≡ plain_header l num_values size
is_plain l page_type uncompressed compressed num_values size encoding level_encoding kind sizes whole plainly
    of_levels =
    rw (kind, sizes, whole, plainly, of_levels) refl

parts_found : (l : Leaf) (page_type : ℤ) (uncompressed compressed : ℕ) (content : Content) (behind : List ℕ)
    (num_values : ℕ) (body : List ℕ)
    → IsTold (has_levels l) page_type content
    → body_at (header_with page_type uncompressed compressed content) behind ≡ Ok (num_values, body)
    → BodyInFront l (header_with page_type uncompressed compressed content) behind num_values body
unfolding body_at
parts_found l page_type u c (data_page n encoding level_encoding) behind num_values body told e =
    let fine = unless_fault (encoding_fault encoding level_encoding) (n, take c behind) in
    let a = allowed (ltb (length behind) c) BadOffset
    (λ ends. refused_if (not (eqb u c)) CountMismatch >>= λ agrees. fine) (num_values, body) e in
    let b = allowed (not (eqb u c)) CountMismatch (λ agrees. fine) (num_values, body) a.1 in
    let k = encodings_fine (has_levels l) encoding level_encoding (n, take c behind) (num_values, body) told.1 b.1 in
    let many : c ≡ length (take c behind) = sym (length-take-le c behind (ltb-false (length behind) c a.0)) in
    subst (λ (p : ℕ × List ℕ). BodyInFront l (header_with page_type u c (data_page n encoding level_encoding)) behind
    p.0 p.1)
    {x = (n, take c behind)} k.same
    (record {
      rest = drop c behind;
      split = sym (take-append-drop c behind);
      is = is_plain l page_type u c n (length (take c behind)) encoding level_encoding told.0
          (eqb-true u c (not-false _ b.0)) many k.plainly k.of_levels;
    })
parts_found l page_type u c (dictionary_page n encoding) behind num_values body told e = absurd cc
parts_found l page_type u c other_page behind num_values body told e = absurd cc

pub body_found : (l : Leaf) (header : Header) (behind : List ℕ) (num_values : ℕ) (body : List ℕ)
    → IsTold (has_levels l) header.page_type header.content → body_at header behind ≡ Ok (num_values, body)
    → BodyInFront l header behind num_values body
body_found l header behind num_values body told e =
    parts_found l header.page_type header.uncompressed_page_size header.compressed_page_size header.content behind
    num_values body told e
