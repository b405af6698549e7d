-- What stood before is kept where more is written behind it.
use Rattle.std.proofs.Common.{◌≡◌, ℕ, List, ◌++◌, ap, ◌∙◌, append_assoc}
use Rattle.page_writing.specs.Internal.{BeginsWith}

-- these bytes were written behind the others
pub keeps_more : (old between new bytes : List ℕ) → BeginsWith old between → new ≡ between ++ bytes → BeginsWith old new
keeps_more old between new bytes kept is = (
  kept.0 ++ bytes,
  is ∙ ap (λ (t : List ℕ). t ++ bytes) kept.1 ∙ append_assoc old kept.0 bytes,
)

-- some bytes were written behind the others
pub keeps_each : (old between new : List ℕ) → BeginsWith old between → BeginsWith between new → BeginsWith old new
keeps_each old between new kept more = keeps_more old between new more.0 kept more.1

-- two times bytes were written behind the others, and then some
pub keeps_page : (old first second new header levels : List ℕ) → first ≡ old ++ header → second ≡ first ++ levels
    → BeginsWith second new → BeginsWith old new
keeps_page old first second new header levels first_is second_is more =
    keeps_each old second new (keeps_more old first second levels (header, first_is) second_is) more
