use Rattle.std.proofs.Common.{◌∙◌, ℕ, List, ap, is_some, bytes_eq}
use Rattle.refusal_texts.specs.Codes.{refusal_codes, fault_codes}
use Rattle.refusal_texts.specs.Tables.{first_with}
use Rattle.refusal_texts.proofs.Found.{is_some-found, is_some-either}
use Rattle.refusal_texts.proofs.naming.entry_of.Goals as goal

pub returns-clause-listed : goal.returns-clause-listed
unfolding first_with
returns-clause-listed c =
    let test = λ (one : List ℕ). bytes_eq one c.args.code.now in
    ap is_some c.or.ensures ∙ is_some-either _ _ _ _
    (is_some-found test _ refusal_codes _ c.first_with.ensures.first c.refusals.ensures)
    (is_some-found test _ fault_codes _ c.first_with-2.ensures.first c.faults.ensures)
