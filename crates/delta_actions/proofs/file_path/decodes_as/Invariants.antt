-- what is left of the two decodings is equal exactly where they are
use Rattle.std.proofs.Common.{◌≡◌}
use Rattle.percent_encoding.specs.Iter.{decoded_bytes}
use Rattle.percent_encoding.specs.Percent.{percent_decode}
use Rattle.delta_actions.proofs.file_path.decodes_as.Given as goal

abbrev pub invariant-loop-byte : goal.invariant-loop-byte
invariant-loop-byte l =
    (goal.iterator-loop-byte).can_next l.byte-iterator ×
    (goal.iterator-loop-byte).is_finite l.byte-iterator ×
    (decoded_bytes l.byte-iterator ≡ decoded_bytes l.others → percent_decode l.text ≡ percent_decode l.other) ×
    (percent_decode l.text ≡ percent_decode l.other → decoded_bytes l.byte-iterator ≡ decoded_bytes l.others)
