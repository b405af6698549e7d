-- A page of type DATA_PAGE is read as a data page.
use Rattle.std.proofs.Common.{◌≡◌, ℕ, Bool, true, cond, ℤ, pos, Ok, sym, ap, subst, ◌∙◌}
use Rattle.std.specs.Ordering.{int_eq}
use Rattle.outcomes.specs.Results.{◌>>=◌}
use Rattle.thrift_core.specs.Fields.{as_integer, as_struct, count, needed}
use Rattle.thrift_core.specs.Tree.{Tree}
use Rattle.thrift_values.specs.declared.fault.ThriftFault.{ThriftFault}
use Rattle.parquet_footer.proofs.Callers.{bind_ok, ok_is}
use Rattle.parquet_pages.specs.Headers.{Content, Header, content_of, data_page, data_page_of, dictionary_page_of, header_of, level_encoding_of, other_page}

abbrev pub IsData : Content → Type 0
IsData (data_page count encoding level_encoding) = Unit {0}
IsData _ = ⊥

data_read : (levels : Bool) (t : Tree) (content : Content) → data_page_of levels t ≡ Ok content → IsData content
unfolding data_page_of
data_read levels t content e =
    let a = bind_ok (count (pos 1) t) (λ n. needed as_integer (pos 2) t >>= λ encoding. level_encoding_of levels t >>= λ level. Ok (data_page n encoding level)) content e in
    let b = bind_ok (needed as_integer (pos 2) t) (λ encoding. level_encoding_of levels t >>= λ level. Ok (data_page a.0 encoding level)) content a.2 in
    let c = bind_ok (level_encoding_of levels t) (λ level. Ok (data_page a.0 b.0 level)) content b.2 in
    subst IsData {x = data_page a.0 b.0 c.0} (ok_is {E = ThriftFault} (data_page a.0 b.0 c.0) content c.2) tt

content_read : (levels : Bool) (page_type : ℤ) (t : Tree) (content : Content) → page_type ≡ pos 0 → content_of levels page_type t ≡ Ok content → IsData content
unfolding content_of
content_read levels page_type t content zero e =
    let other = cond (int_eq page_type (pos 2)) (needed as_struct (pos 7) t >>= dictionary_page_of) (Ok other_page) in
    let test : int_eq page_type (pos 0) ≡ true = ap (λ (z : ℤ). int_eq z (pos 0)) zero in
    let data_is : (needed as_struct (pos 5) t >>= data_page_of levels) ≡ Ok content =
    ap (λ (b : Bool). cond b (needed as_struct (pos 5) t >>= data_page_of levels) other) (sym test) ∙ e in
    let inside = bind_ok (needed as_struct (pos 5) t) (data_page_of levels) content data_is in
    data_read levels inside.0 content inside.2

abbrev made : ℤ → ℕ → ℕ → Content → Header
made page_type u c content = record { page_type = page_type; uncompressed_page_size = u; compressed_page_size = c; content = content }

pub type_tells : (levels : Bool) (t : Tree) (header : Header) → header_of levels t ≡ Ok header → header.page_type ≡ pos 0 → IsData header.content
unfolding header_of
type_tells levels t header e zero =
    let a = bind_ok (needed as_integer (pos 1) t) (λ page_type. count (pos 2) t >>= λ u. count (pos 3) t >>= λ c. content_of levels page_type t >>= λ content.
    Ok (made page_type u c content)) header e in
    let b = bind_ok (count (pos 2) t) (λ u. count (pos 3) t >>= λ c. content_of levels a.0 t >>= λ content. Ok (made a.0 u c content)) header a.2 in
    let c = bind_ok (count (pos 3) t) (λ c. content_of levels a.0 t >>= λ content. Ok (made a.0 b.0 c content)) header b.2 in
    let d = bind_ok (content_of levels a.0 t) (λ content. Ok (made a.0 b.0 c.0 content)) header c.2 in
    let is : made a.0 b.0 c.0 d.0 ≡ header = ok_is {E = ThriftFault} (made a.0 b.0 c.0 d.0) header d.2 in
    subst IsData {x = d.0} (ap (λ (h : Header). h.content) {x = made a.0 b.0 c.0 d.0} is) (content_read levels a.0 t d.0 (same_type (made a.0 b.0 c.0 d.0) is) d.1)
  where
    same_type : (h : Header) → h ≡ header → h.page_type ≡ pos 0
    same_type h is = ap (λ (h : Header). h.page_type) is ∙ zero
