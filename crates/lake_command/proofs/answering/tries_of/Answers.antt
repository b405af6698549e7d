use Rattle.std.proofs.Common.{◌≡◌, ◌∙◌, ℕ, zero, suc, max, inl, inr, ap, arith, sym}
use Rattle.lake_words.specs.Asked.{work_view}
use Rattle.lake_command.specs.Again.{at_least_one, tries_in}
use Rattle.lake_command.proofs.answering.tries_of.Goals as goal

-- the greater of it and 1
at_least : (tries : ℕ) → max tries 1 ≡ at_least_one tries
at_least zero = omega arith
at_least (suc more) = omega arith

pub returns-in-Append-clause-same : goal.returns-in-Append-clause-same
returns-in-Append-clause-same c = elim c.in-Append.is [
  | inl is ↦ c.max.ensures ∙ at_least c.in-Append.tries ∙ ap (λ job. tries_in (work_view job)) (sym is.4)
  | inr is ↦ c.max.ensures ∙ at_least c.in-Append.tries ∙ ap (λ job. tries_in (work_view job)) (sym is.2)
]
