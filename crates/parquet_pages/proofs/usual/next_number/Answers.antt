use Rattle.std.proofs.Common.{rules, ◌≡◌, true, ℕ, List, ◌∷◌, w32, w64, to_z, of_z, refl, ap, ◌∙◌}
use Rattle.std.proofs.lemmas.Int.{to_z-of_z}
use Rattle.parquet_pages.proofs.usual.next_number.Goals as goal

pub returns-in-Ok : goal.returns-in-Ok
returns-in-Ok c =
    let is : c.is_next.result ≡ true = search rules in
    let begins : c.args.cursor.now ≡ 21 ∷ c.is_next.new.cursor = c.is_next.ensures is in
    let same : to_z w64 (of_z w64 c.from.result) ≡ c.from.result = to_z-of_z w64 c.from.result (search rules) in
    let narrow : to_z w32 (of_z w32 c.in-Ok.number) ≡ c.in-Ok.number = to_z-of_z w32 c.in-Ok.number (search rules) in
    let one = c.in-Ok.ensures.read in
    rw (same, c.from.ensures, narrow) (record {
      front = 21 ∷ one.front;
      spelled = record { digits = one.front; begins = refl; number = one.spelled };
      split = begins ∙ ap (λ (t : List ℕ). 21 ∷ t) one.split;
    })
