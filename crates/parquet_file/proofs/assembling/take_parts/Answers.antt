use Rattle.std.proofs.Common.{◌<◌, ◌≤◌, ◌++◌, ◌∷◌, [], length, arith}
use Rattle.std.proofs.lemmas.Result.{err_from_is_err_and}
use Rattle.parquet_pages.specs.Held.{AreLeft}
use Rattle.parquet_pages.specs.Pages.{highest}
use Rattle.parquet_pages.specs.Parts.{IsPartOf, cut_cells}
use Rattle.shred.specs.Parts.{cut_off}
use Rattle.parquet_file.specs.File.{leaf_of}
use Rattle.parquet_file.proofs.ReadersLeft.{all_taken, none_taken, only_memory, take_next, taken_put}
use Rattle.parquet_file.proofs.assembling.take_parts.Goals as goal

pub loop-reader-init : goal.loop-reader-init
loop-reader-init c leaves given left at_hand =
    rw (c.in_ok-parts.ensures.items)
    (none_taken c.args.first c.args.most c.args.count leaves given c.args.readers.now left
    at_hand)

pub returns-in_err-take : goal.returns-in_err-take
returns-in_err-take c leaves given left at_hand =
    let now = c.loop-reader.readers in
    let i = c.loop-reader.reader-index in
    let first = c.args.first in
    let most = c.args.most in
    let count = c.args.count in
    let p = err_from_is_err_and c.from_residual-in_err-take.result c.from_residual-in_err-take.ensures.1 in
    let below : i < length now = omega (arith, c.loop-reader.auto.readers, c.loop-reader-test.true) in
    let next = take_next first most count leaves given c.loop-reader.parts.items now i c.reader-item.result
    below (c.loop-reader.invariant leaves given left at_hand) in
    let l = leaf_of next.leaf in
    let told = only_memory (λ part. IsPartOf l first most part (cut_cells l 0 count next.column)
    × AreLeft l c.take.new.self (cut_off count (highest l) next.column)) c.in_err-take.field-0.0
    (c.in_err-take.ensures.taken l next.column next.left next.at_hand) in
    rw (p.1, p.2, told) tt

pub loop-reader-preserved : goal.loop-reader-preserved
loop-reader-preserved c leaves given left at_hand =
    let now = c.loop-reader.readers in
    let i = c.loop-reader.reader-index in
    let new = c.take.new.self in
    let part = c.in_ok-take.field-0 in
    let first = c.args.first in
    let most = c.args.most in
    let count = c.args.count in
    let below : i < length now = omega (arith, c.loop-reader.auto.readers, c.loop-reader-test.true) in
    let next = take_next first most count leaves given c.loop-reader.parts.items now i c.reader-item.result
    below (c.loop-reader.invariant leaves given left at_hand) in
    let taken = c.in_ok-take.ensures.taken (leaf_of next.leaf) next.column next.left next.at_hand in
    rw (c.in_ok-push.ensures.items)
    (taken_put first most count leaves given (c.loop-reader.parts.items ++ (part ∷ [])) now i new below
    (next.go part new taken.0 taken.1))

pub returns : goal.returns
returns c leaves given left at_hand =
    let now = c.loop-reader.readers in
    let ended : length now ≤ c.loop-reader.reader-index =
    omega (arith, c.loop-reader.auto.readers, c.loop-reader-test.false) in
    all_taken c.args.first c.args.most c.args.count leaves given c.loop-reader.parts.items now
    c.loop-reader.reader-index ended (c.loop-reader.invariant leaves given left at_hand)
