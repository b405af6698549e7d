-- Bytes are framed in one way, and a footer says one thing.
use Rattle.std.proofs.Common.{◌≡◌, ℕ, ◌+◌, List, ◌++◌, length, take, sym, ap, ◌∙◌, arith}
use Rattle.std.proofs.lemmas.List.{append_cancel_left}
use Rattle.thrift_core.specs.declared.wire.WireType.TheVariants as wire
use Rattle.thrift_core.proofs.Callers.{one_tree}
use Rattle.parquet_footer.specs.Frame.{magic}
use Rattle.parquet_footer.specs.Footer.{FooterSays}
use Rattle.parquet_footer.specs.Metadata.{FileMetaData, metadata_of}
use Rattle.parquet_footer.proofs.OnlyFrame.{Parts}
use Rattle.parquet_footer.proofs.FoundSteps.{ok_is}

pub one_frame : (bytes pages footer others second : List ℕ) → Parts bytes pages footer → Parts bytes others second → (magic ++ pages ≡ magic ++ others) × (footer ≡ second)
one_frame bytes pages footer others second p q =
    let as_long : length pages ≡ length others = omega (arith, p.long, q.long, p.counted, q.counted) in
    let front : magic ++ pages ≡ magic ++ others = sym p.front ∙ ap (λ (n : ℕ). take (n + 4) bytes) as_long ∙ q.front in
    let both : (magic ++ pages) ++ footer ≡ (magic ++ pages) ++ second = sym p.before ∙ q.before ∙ ap (λ (t : List ℕ). t ++ second) (sym front) in
    (front, append_cancel_left (magic ++ pages) footer second both)

pub one_metadata : (footer : List ℕ) (metadata other : FileMetaData) → FooterSays footer metadata → FooterSays footer other → metadata ≡ other
one_metadata footer metadata other s t =
    let tree : s.tree ≡ t.tree = (one_tree wire.Struct s.front t.front s.rest t.rest s.tree t.tree s.spelled.spelled t.spelled.spelled (sym s.parts ∙ t.parts)).1 in
    ok_is metadata other (sym s.stands ∙ ap metadata_of tree ∙ t.stands)
