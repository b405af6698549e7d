use Rattle.std.proofs.Common.{◌∙◌, ℕ, List, ap, is_some}
use Rattle.std.specs.Str.{str_eq_ignore_ascii_case}
use Rattle.refusal_texts.specs.Codes.{refusal_codes, fault_codes}
use Rattle.refusal_texts.specs.Tables.{first_like}
use Rattle.refusal_texts.proofs.Found.{is_some-found, is_some-either}
use Rattle.refusal_texts.proofs.naming.entry_like.Goals as goal

pub returns-clause-listed : goal.returns-clause-listed
unfolding first_like
returns-clause-listed c =
    let test = λ (one : List ℕ). str_eq_ignore_ascii_case one c.args.code.now in
    ap is_some c.or.ensures ∙ is_some-either _ _ _ _
    (is_some-found test _ refusal_codes _ c.first_like.ensures.first c.refusals.ensures)
    (is_some-found test _ fault_codes _ c.first_like-2.ensures.first c.faults.ensures)
