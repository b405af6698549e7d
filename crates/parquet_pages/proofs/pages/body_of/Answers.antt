use Rattle.std.proofs.Common.{rules, ◌≡◌, Option, Some, None, Ok, Err, refl, ◌∙◌, take, arith}
use Rattle.std.proofs.lemmas.Result.{err_from_is_err_and}
use Rattle.parquet_pages.specs.Reading.{encoding_fault, unless_fault}
use Rattle.parquet_pages.specs.Views.{header_view}
use Rattle.parquet_footer.specs.declared.fault.FileFault.{FileFault}
use Rattle.parquet_pages.proofs.CodePages.{data_page_there, body_there}
use Rattle.parquet_pages.proofs.pages.body_of.Goals as goal

fault_kept : {A B : Type 0} (read : Option FileFault) (x : A) (y : B) (fault : FileFault)
    → unless_fault read x ≡ Err fault → unless_fault read y ≡ Err fault
fault_kept None x y fault h = absurd cc
fault_kept (Some e) x y fault h = cc

none_kept : {A B : Type 0} (read : Option FileFault) (x : A) (y : B) → unless_fault read x ≡ Ok x
    → unless_fault read y ≡ Ok y
none_kept None x y h = refl
none_kept (Some e) x y h = absurd cc

pub returns-in_err-test_encodings-clause-told : goal.returns-in_err-test_encodings-clause-told
returns-in_err-test_encodings-clause-told c =
    let header = header_view c.args.header.now in
    let p = data_page_there header c.in_ok-count.count c.in_ok-count.ensures in
    let e = err_from_is_err_and c.from_residual-in_err-test_encodings.result
    c.from_residual-in_err-test_encodings.ensures.1 in
    let there = body_there header c.args.behind.now p.0 p.1 (omega arith) (search rules) in
    rw (e.1, e.2) (there ∙ fault_kept (encoding_fault p.0.encoding p.0.level_encoding) p.0
    (p.0.num_values, take header.compressed_page_size c.args.behind.now) _
    (c.in_err-test_encodings.ensures p.0 p.1))

pub returns-clause-told : goal.returns-clause-told
returns-clause-told c =
    let header = header_view c.args.header.now in
    let p = data_page_there header c.in_ok-count.count c.in_ok-count.ensures in
    let there = body_there header c.args.behind.now p.0 p.1 (omega arith) (search rules) in
    rw (c.split_at.ensures.front, ← p.2)
    (there ∙ none_kept (encoding_fault p.0.encoding p.0.level_encoding) p.0
    (p.0.num_values, take header.compressed_page_size c.args.behind.now) (c.in_ok-test_encodings.ensures p.0 p.1))
