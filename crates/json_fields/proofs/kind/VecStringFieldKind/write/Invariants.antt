use Rattle.std.proofs.Common.{◌≡◌, ◌++◌, drop, map, string_bytes}
use Rattle.json.specs.Tree.{items_tokens}
use Rattle.serde_json.specs.Data.{string}
use Rattle.serde_json.specs.View.{items_of}
use Rattle.serde_json.specs.Written.{items_outline}
use Rattle.json_fields.proofs.kind.VecStringFieldKind.write.Given as goal

-- the tokens so far, and those of the texts that are left
abbrev pub invariant-loop-text : goal.invariant-loop-text
invariant-loop-text l =
    (l.out.before ≡ l.initial.out.before)
    × (l.out.tokens ++ items_tokens (items_outline (items_of (map string (map (λ s. string_bytes s) (drop l.text-index l.text-items)))))
    ≡ l.initial.out.tokens ++ items_tokens (items_outline (items_of (map string (map (λ s. string_bytes s) l.text-items)))))
