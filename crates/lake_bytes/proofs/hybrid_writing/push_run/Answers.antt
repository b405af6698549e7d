use Rattle.std.proofs.Common.{List, ℕ, ◌++◌, ◌∷◌, [], ◌%◌, ◌∙◌, ap, append_assoc, arith}
use Rattle.lake_bytes.proofs.GroupedLemmas.{byte_written, bytes_written}
use Rattle.lake_bytes.proofs.hybrid_writing.push_run.Goals as goal

pub loop-index-preserved : goal.loop-index-preserved
loop-index-preserved c =
    let keeps = c.loop-index.invariant.keeps in
    let byte = c.loop-index.left % 256 in
    record {
      ok = byte_written _ _ c.loop-index.left _ _ _ (omega arith) c.loop-index.invariant.ok c.in_ok-push.ensures.items;
      keeps = (
        keeps.0 ++ byte ∷ [],
        c.in_ok-push.ensures.items ∙ ap (λ (t : List ℕ). t ++ byte ∷ []) keeps.1
            ∙ append_assoc c.args.out.now.items keeps.0 (byte ∷ []),
      );
    }

pub returns-clause-ok : goal.returns-clause-ok
returns-clause-ok c = bytes_written _ c.loop-index.left _ _ (omega arith) c.loop-index.invariant.ok
