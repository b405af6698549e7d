use Rattle.std.proofs.Common.{map, arith}
use Rattle.std.proofs.lemmas.List.{length-map}
use Rattle.shred.specs.Views.{borrowed_value}
use Rattle.page_writing.proofs.WrittenPlain.{bits_size}
use Rattle.page_writing.proofs.plain.plain_size.Goals as goal

pub returns-in-Boolean-clause-size : goal.returns-in-Boolean-clause-size
returns-in-Boolean-clause-size c = λ within.
    let values = c.args.values.now in
    let sized = bits_size c.args.physical_type (map borrowed_value values) c.in-Boolean.is in
    omega (arith, c.div_ceil.ensures, length-map values borrowed_value, sized)

pub returns-in-Boolean-clause-above : goal.returns-in-Boolean-clause-above
returns-in-Boolean-clause-above c = λ above.
    let values = c.args.values.now in
    let sized = bits_size c.args.physical_type (map borrowed_value values) c.in-Boolean.is in
    omega (arith, c.div_ceil.ensures, length-map values borrowed_value, sized)
