use Rattle.std.specs.Int.{w32, w64, cast_unsigned}
use Rattle.lake_bytes.proofs.Fixed.{four, eight, below_32, below_64, little_again, signed_little_again}
use Rattle.lake_bytes.proofs.laws.little_endian_is_read_again.Goals as goal

pub returns-clause-four : goal.returns-clause-four
returns-clause-four c = λ n rest fits. little_again w32 n rest (four n fits)

pub returns-clause-eight : goal.returns-clause-eight
returns-clause-eight c = λ n rest fits. little_again w64 n rest (eight n fits)

pub returns-clause-signed_four : goal.returns-clause-signed_four
returns-clause-signed_four c = λ z rest fits. signed_little_again w32 z rest fits (four (cast_unsigned w32 z) (below_32 z fits))

pub returns-clause-signed_eight : goal.returns-clause-signed_eight
returns-clause-signed_eight c = λ z rest fits. signed_little_again w64 z rest fits (eight (cast_unsigned w64 z) (below_64 z fits))
