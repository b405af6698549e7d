use Rattle.std.proofs.Common.{◌≡◌, take, ◌∙◌, refl, sym, ap, subst}
use Rattle.lake_bytes.specs.Hybrid.{hybrid_at, values_of}
use Rattle.outcomes.specs.Bytes.{IsBytes}
use Rattle.lake_bytes.specs.declared.fault.ByteFault.{ByteFault}
use Rattle.lake_bytes.proofs.HybridLemmas.{hybrid_found, hybrid_stands}
use Rattle.lake_bytes.proofs.ReaderLemmas.{all_wanted}
use Rattle.lake_bytes.proofs.RunLemmas.{done, done_parts, failed}
use Rattle.lake_bytes.proofs.hybrid_reader.hybrid_read.Goals as goal

pub returns-in_err-rest-clause-whatever_stands : goal.returns-in_err-rest-clause-whatever_stands
returns-in_err-rest-clause-whatever_stands c = λ values stands no_memory.
    let fault : ByteFault = c.in_err-rest.field-0.0 in
    let s = hybrid_stands c.args.width c.args.count c.args.cursor.now values stands in
    let reads = ap (hybrid_at c.args.width c.args.count) c.left-bytes.ensures ∙ s.1 in
    let bad : failed fault ≡ done values s.0 = sym (c.in_err-rest.ensures.refused fault refl) ∙ reads in
    absurd cc

pub returns-clause-found : goal.returns-clause-found
returns-clause-found c =
    let bytes = subst IsBytes c.left-bytes.ensures c.in_ok-rest.ensures.bytes in
    let f = c.in_ok-rest.ensures.found in
    let all = all_wanted c.args.width c.args.count c.left-bytes.result.now f.0 c.in_ok-rest.rest.now
    (values_of c.in_ok-runs.runs.items) f.1 (c.in_ok-runs.ensures.taken ∙ ap (take c.args.count) c.new.ensures) in
    let reads = sym (ap (hybrid_at c.args.width c.args.count) c.left-bytes.ensures) ∙ f.1 in
    rw all (hybrid_found c.args.width c.args.count c.args.cursor.now f.0 c.in_ok-rest.rest.now bytes reads)

pub returns-clause-whatever_stands : goal.returns-clause-whatever_stands
returns-clause-whatever_stands c = λ values stands no_memory.
    let f = c.in_ok-rest.ensures.found in
    let all = all_wanted c.args.width c.args.count c.left-bytes.result.now f.0 c.in_ok-rest.rest.now
    (values_of c.in_ok-runs.runs.items) f.1 (c.in_ok-runs.ensures.taken ∙ ap (take c.args.count) c.new.ensures) in
    let s = hybrid_stands c.args.width c.args.count c.args.cursor.now values stands in
    let reads = sym (ap (hybrid_at c.args.width c.args.count) c.left-bytes.ensures) ∙ f.1 in
    (all ∙ (done_parts f.0 values c.in_ok-rest.rest.now s.0 (sym reads ∙ s.1)).0, refl)

pub returns-clause-exact : goal.returns-clause-exact
returns-clause-exact c =
    let f = c.in_ok-rest.ensures.found in
    let all = all_wanted c.args.width c.args.count c.left-bytes.result.now f.0 c.in_ok-rest.rest.now
    (values_of c.in_ok-runs.runs.items) f.1 (c.in_ok-runs.ensures.taken ∙ ap (take c.args.count) c.new.ensures) in
    let reads = sym (ap (hybrid_at c.args.width c.args.count) c.left-bytes.ensures) ∙ f.1 in
    reads ∙ rw (all, c.new-2.ensures) refl
