-- What one step is refused for, the whole is refused for.
use Rattle.std.proofs.Common.{◌≡◌, Result, Err}
use Rattle.outcomes.specs.Outcome.{Said, refuses, says_nothing, never_comes, IsSaid}

pub said_too : {A B R : Type 0} (fault : Said R) (part : Result A R) (whole : Result B R) → ((refusal : R) → part ≡ Err refusal → whole ≡ Err refusal) → IsSaid fault part → IsSaid fault whole
said_too (refuses refusal) part whole goes h = goes refusal h
said_too says_nothing part whole goes h = tt
said_too never_comes part whole goes h = h
