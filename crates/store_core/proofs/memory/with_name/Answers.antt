use Rattle.std.proofs.Common.{◌≡◌, ◌∙◌, List, Option, String, Global, Vec, ap, map, subst, sym}
use Rattle.std.specs.BTreeSet.{insert_key}
use Rattle.std.specs.List.{insert}
use Rattle.std.specs.List.Sorted.{IsStrictlySortedBy}
use Rattle.std.specs.Prelude.{IfSome}
use Rattle.std.specs.String.{string_bytes}
use Rattle.store_core.specs.Listed.{listed}
use Rattle.store_core.specs.Objects.{name_order}
use Rattle.store_core.specs.declared.names.Names.{Names}
use Rattle.store_core.proofs.Placing.{made_names, placed, rises_with, searchable}
use Rattle.store_core.proofs.memory.with_name.Goals as goal

pub new-requires : goal.new-requires
new-requires c =
    let names = c.args.names.shared.value.items in
    let name = c.in-Ok-from_str.name in
    let same : c.in-Ok.list.items ≡ names = ap (λ (list : Vec (String Global) Global). list.items) c.in-Ok.ensures.ok in
    let seen : c.deref.result.now ≡ names = c.deref.ensures.value ∙ same in
    let rising = subst (λ (list : List (String Global)). IsStrictlySortedBy name_order (map string_bytes list)) (sym seen) c.args.names.rising in
    let point = c.in-Err.ensures.position (searchable c.deref.result.now name rising) in
    let put = placed c.deref.result.now name c.in-Err.place c.in-Err.ensures.bound point in
    let items : c.insert.new.self.items ≡ insert c.deref.result.now c.in-Err.place name = c.in-Ok-insert.ensures.items ∙ ap (λ (list : List (String Global)). insert list c.in-Err.place name) (sym c.deref.ensures.value) in
    subst (IsStrictlySortedBy name_order) (sym (ap (map string_bytes) items ∙ put)) (rises_with (map string_bytes c.deref.result.now) (string_bytes name) rising)

pub returns-in-Ok-insert : goal.returns-in-Ok-insert
returns-in-Ok-insert c =
    let names = c.args.names.shared.value.items in
    let name = c.in-Ok-from_str.name in
    let same : c.in-Ok.list.items ≡ names = ap (λ (list : Vec (String Global) Global). list.items) c.in-Ok.ensures.ok in
    let seen : c.deref.result.now ≡ names = c.deref.ensures.value ∙ same in
    let point = c.in-Err.ensures.position (searchable c.deref.result.now name (subst (λ (list : List (String Global)). IsStrictlySortedBy name_order (map string_bytes list)) (sym seen) c.args.names.rising)) in
    let put = placed c.deref.result.now name c.in-Err.place c.in-Err.ensures.bound point in
    let items : c.insert.new.self.items ≡ insert c.deref.result.now c.in-Err.place name = c.in-Ok-insert.ensures.items ∙ ap (λ (list : List (String Global)). insert list c.in-Err.place name) (sym c.deref.ensures.value) in
    let told = ap (map string_bytes) items ∙ (put ∙ (λ i. insert_key name_order (map string_bytes (seen i)) (c.in-Ok-from_str.ensures.ok i))) in
    subst (λ (later : Option Names). IfSome later (λ later. listed later ≡ insert_key name_order (listed c.args.names) c.args.name.now)) (sym c.ok.ensures.value)
    (made_names c.new.result (map string_bytes c.insert.new.self.items) _ told c.new.ensures)
