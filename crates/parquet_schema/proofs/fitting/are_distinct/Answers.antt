use Rattle.std.proofs.Common.{◌≡◌, sym, ap, ◌∙◌}
use Rattle.parquet_schema.specs.FileTree.{fields_of}
use Rattle.parquet_schema.specs.Fitting.{field_named}
use Rattle.parquet_schema.specs.Views.{field_view, field_views}
use Rattle.parquet_schema.proofs.FitFields.{named, name_seen, same_name, other_name}
use Rattle.parquet_schema.proofs.fitting.are_distinct.Goals as goal

pub returns-then-is_some : goal.returns-then-is_some
returns-then-is_some c =
    let first = c.in-Some.first.now in
    let others = c.in-Some.others.now in
    let name : c.deref.result.now ≡ (field_view first).name = c.deref.ensures.value ∙ name_seen first in
    let has = sym (named (λ f. field_view f.now) c.field_named.result (field_view first).name (fields_of (field_views others)) (c.field_named.ensures ∙ ap (λ n. field_named n (fields_of (field_views others))) name)) ∙ (sym c.is_some.ensures ∙ c.if-is_some.true) in
    same_name first others c.loop-first.rest.now _ c.in-Some.ensures.cases.0 has c.loop-first.invariant

pub loop-first-preserved : goal.loop-first-preserved
loop-first-preserved c =
    let first = c.in-Some.first.now in
    let others = c.in-Some.others.now in
    let name : c.deref.result.now ≡ (field_view first).name = c.deref.ensures.value ∙ name_seen first in
    let has = sym (named (λ f. field_view f.now) c.field_named.result (field_view first).name (fields_of (field_views others)) (c.field_named.ensures ∙ ap (λ n. field_named n (fields_of (field_views others))) name)) ∙ (sym c.is_some.ensures ∙ c.if-is_some.false) in
    other_name first others c.loop-first.rest.now _ c.in-Some.ensures.cases.0 has c.loop-first.invariant
